-- A fetch by what its translation came to.
use Rattle.std.proofs.Common.{arith}
use Rattle.rv64_priv.specs.declared.state.Kind.{Kind}
use Rattle.step_laws.specs.declared.steps.WordOp.TheVariants.{Load}
use Rattle.guest_ram.specs.Areas.{IsOfRam}
use Rattle.guest_access.proofs.Fills.{on_aside, on_then}
use Rattle.guest_access.proofs.Followed.{follows}
use Rattle.guest_access.proofs.Keeping.{can_load, can_stepped, goes_stepped}
use Rattle.code_fetch.specs.Fetching.{faulted, held}
use Rattle.code_fetch.proofs.Made.{device_as, goes_loaded, ram_off, word_as}
use Rattle.code_fetch.proofs.fetching.fetch_at.Goals as goal

pub load_at-word-requires : goal.load_at-word-requires
load_at-word-requires g c = let f = follows _ _ _ _ c.args.regime.now Kind.Fetch c.args.pc _ c.requires.access c.requires.fills c.in-Ram.ensures.made c.in-Ram.ensures.allowed c.in-Ram.ensures.armed c.in-Ram.ensures.beside c.in-Ram.ensures.goes in can_load _ c.in-Ram.pa _ f.access f.placed.there

pub number_in-requires-clause-within : goal.number_in-requires-clause-within
number_in-requires-clause-within g c = let f = follows _ _ _ _ c.args.regime.now Kind.Fetch c.args.pc _ c.requires.access c.requires.fills c.in-Ram.ensures.made c.in-Ram.ensures.allowed c.in-Ram.ensures.armed c.in-Ram.ensures.beside c.in-Ram.ensures.goes in omega (arith, f.placed.offset, c.requires.aligned)

pub returns-in-Ram-clause-fetched : goal.returns-in-Ram-clause-fetched
returns-in-Ram-clause-fetched g c = let f = follows _ _ _ _ c.args.regime.now Kind.Fetch c.args.pc _ c.requires.access c.requires.fills c.in-Ram.ensures.made c.in-Ram.ensures.allowed c.in-Ram.ensures.armed c.in-Ram.ensures.beside c.in-Ram.ensures.goes in word_as _ _ _ _ _ _ _ c.in-Ram.pa _ _ f.translates c.load_at-word.ensures c.number_in.ensures.number

pub returns-in-Ram-clause-goes_on : goal.returns-in-Ram-clause-goes_on
returns-in-Ram-clause-goes_on g c = let f = follows _ _ _ _ c.args.regime.now Kind.Fetch c.args.pc _ c.requires.access c.requires.fills c.in-Ram.ensures.made c.in-Ram.ensures.allowed c.in-Ram.ensures.armed c.in-Ram.ensures.beside c.in-Ram.ensures.goes in on_then _ _ _ _ _ _ c.args.regime.now f.goes_on (on_aside 1 IsOfRam _ c.args.regime.now _ _ ram_off (goes_stepped Load c.in-Ram.pa 0 _ _ _ c.load_at-word.ensures))

pub returns-in-Ram-clause-access : goal.returns-in-Ram-clause-access
returns-in-Ram-clause-access g c = let f = follows _ _ _ _ c.args.regime.now Kind.Fetch c.args.pc _ c.requires.access c.requires.fills c.in-Ram.ensures.made c.in-Ram.ensures.allowed c.in-Ram.ensures.armed c.in-Ram.ensures.beside c.in-Ram.ensures.goes in can_stepped Load c.in-Ram.pa 0 _ _ _ _ c.load_at-word.ensures f.access

pub returns-in-Ram-clause-goes : goal.returns-in-Ram-clause-goes
returns-in-Ram-clause-goes g c = goes_loaded _ _ _ c.in-Ram.pa _ c.in-Ram.ensures.goes c.load_at-word.ensures

pub returns-in-Device-clause-fetched : goal.returns-in-Device-clause-fetched
returns-in-Device-clause-fetched g c = let f = follows _ _ _ _ c.args.regime.now Kind.Fetch c.args.pc _ c.requires.access c.requires.fills c.in-Device.ensures.made c.in-Device.ensures.allowed c.in-Device.ensures.armed c.in-Device.ensures.beside c.in-Device.ensures.goes in device_as _ _ _ _ _ _ c.in-Device.field-0 _ c.access_fault.ensures f.translates

pub returns-in-Device-clause-goes_on : goal.returns-in-Device-clause-goes_on
returns-in-Device-clause-goes_on g c = let f = follows _ _ _ _ c.args.regime.now Kind.Fetch c.args.pc _ c.requires.access c.requires.fills c.in-Device.ensures.made c.in-Device.ensures.allowed c.in-Device.ensures.armed c.in-Device.ensures.beside c.in-Device.ensures.goes in f.goes_on

pub returns-in-Device-clause-access : goal.returns-in-Device-clause-access
returns-in-Device-clause-access g c = let f = follows _ _ _ _ c.args.regime.now Kind.Fetch c.args.pc _ c.requires.access c.requires.fills c.in-Device.ensures.made c.in-Device.ensures.allowed c.in-Device.ensures.armed c.in-Device.ensures.beside c.in-Device.ensures.goes in f.access

pub returns-in-Fault-clause-fetched : goal.returns-in-Fault-clause-fetched
returns-in-Fault-clause-fetched g c = let f = follows _ _ _ _ c.args.regime.now Kind.Fetch c.args.pc _ c.requires.access c.requires.fills c.in-Fault.ensures.made c.in-Fault.ensures.allowed c.in-Fault.ensures.armed c.in-Fault.ensures.beside c.in-Fault.ensures.goes in faulted _ _ f.translates

pub returns-in-Fault-clause-goes_on : goal.returns-in-Fault-clause-goes_on
returns-in-Fault-clause-goes_on g c = let f = follows _ _ _ _ c.args.regime.now Kind.Fetch c.args.pc _ c.requires.access c.requires.fills c.in-Fault.ensures.made c.in-Fault.ensures.allowed c.in-Fault.ensures.armed c.in-Fault.ensures.beside c.in-Fault.ensures.goes in f.goes_on

pub returns-in-Fault-clause-access : goal.returns-in-Fault-clause-access
returns-in-Fault-clause-access g c = let f = follows _ _ _ _ c.args.regime.now Kind.Fetch c.args.pc _ c.requires.access c.requires.fills c.in-Fault.ensures.made c.in-Fault.ensures.allowed c.in-Fault.ensures.armed c.in-Fault.ensures.beside c.in-Fault.ensures.goes in f.access

pub returns-in-Busy-clause-fetched : goal.returns-in-Busy-clause-fetched
returns-in-Busy-clause-fetched g c = let f = follows _ _ _ _ c.args.regime.now Kind.Fetch c.args.pc _ c.requires.access c.requires.fills c.in-Busy.ensures.made c.in-Busy.ensures.allowed c.in-Busy.ensures.armed c.in-Busy.ensures.beside c.in-Busy.ensures.goes in held _ f.translates

pub returns-in-Busy-clause-goes_on : goal.returns-in-Busy-clause-goes_on
returns-in-Busy-clause-goes_on g c = let f = follows _ _ _ _ c.args.regime.now Kind.Fetch c.args.pc _ c.requires.access c.requires.fills c.in-Busy.ensures.made c.in-Busy.ensures.allowed c.in-Busy.ensures.armed c.in-Busy.ensures.beside c.in-Busy.ensures.goes in f.goes_on

pub returns-in-Busy-clause-access : goal.returns-in-Busy-clause-access
returns-in-Busy-clause-access g c = let f = follows _ _ _ _ c.args.regime.now Kind.Fetch c.args.pc _ c.requires.access c.requires.fills c.in-Busy.ensures.made c.in-Busy.ensures.allowed c.in-Busy.ensures.armed c.in-Busy.ensures.beside c.in-Busy.ensures.goes in f.access
