use Rattle.std.proofs.Common.{◌∙◌, sym}
use Rattle.rv64_priv.specs.Csr.{regime}
use Rattle.guest_access.specs.Atomics.{faults, in_ram, is_busy}
use Rattle.guest_access.proofs.Fills.{on_none}
use Rattle.guest_access.proofs.Placing.{follows_by, misplaced, on_one, word_placed}
use Rattle.guest_access.proofs.atomics.place.Goals as goal

pub returns-then-is_misaligned-clause-placed : goal.returns-then-is_misaligned-clause-placed
returns-then-is_misaligned-clause-placed g c = misplaced _ _ _ _ _ _ _ c.misaligned.ensures (sym c.is_misaligned.ensures ∙ c.if-is_misaligned.true)

pub returns-then-is_misaligned-clause-goes_on : goal.returns-then-is_misaligned-clause-goes_on
returns-then-is_misaligned-clause-goes_on g c = on_none c.args.book.now (regime c.args.arch.now) (g.P.Look.shows c.args.port.now)

pub returns-in-Ram-clause-placed : goal.returns-in-Ram-clause-placed
returns-in-Ram-clause-placed g c = let f = follows_by _ _ _ _ _ _ _ _ _ c.regime_of-regime.ensures c.requires.access c.requires.fills c.in-Ram.ensures.made c.in-Ram.ensures.allowed c.in-Ram.ensures.armed c.in-Ram.ensures.beside c.in-Ram.ensures.goes in
    in_ram (sym c.is_misaligned.ensures ∙ c.if-is_misaligned.false) f.translates

pub returns-in-Ram-clause-there : goal.returns-in-Ram-clause-there
returns-in-Ram-clause-there g c = let f = follows_by _ _ _ _ _ _ _ _ _ c.regime_of-regime.ensures c.requires.access c.requires.fills c.in-Ram.ensures.made c.in-Ram.ensures.allowed c.in-Ram.ensures.armed c.in-Ram.ensures.beside c.in-Ram.ensures.goes in
    word_placed _ _ _ _ _ _ _ _ _ (sym c.is_misaligned.ensures ∙ c.if-is_misaligned.false) f

pub returns-in-Device-clause-placed : goal.returns-in-Device-clause-placed
returns-in-Device-clause-placed g c = let f = follows_by _ _ _ _ _ _ _ _ _ c.regime_of-regime.ensures c.requires.access c.requires.fills c.in-Device.ensures.made c.in-Device.ensures.allowed c.in-Device.ensures.armed c.in-Device.ensures.beside c.in-Device.ensures.goes in
    on_one _ _ _ _ _ _ _ _ _ _ c.access_fault.ensures (sym c.is_misaligned.ensures ∙ c.if-is_misaligned.false) f

pub returns-in-Fault-clause-placed : goal.returns-in-Fault-clause-placed
returns-in-Fault-clause-placed g c = let f = follows_by _ _ _ _ _ _ _ _ _ c.regime_of-regime.ensures c.requires.access c.requires.fills c.in-Fault.ensures.made c.in-Fault.ensures.allowed c.in-Fault.ensures.armed c.in-Fault.ensures.beside c.in-Fault.ensures.goes in
    faults (sym c.is_misaligned.ensures ∙ c.if-is_misaligned.false) f.translates

pub returns-in-Busy-clause-placed : goal.returns-in-Busy-clause-placed
returns-in-Busy-clause-placed g c = let f = follows_by _ _ _ _ _ _ _ _ _ c.regime_of-regime.ensures c.requires.access c.requires.fills c.in-Busy.ensures.made c.in-Busy.ensures.allowed c.in-Busy.ensures.armed c.in-Busy.ensures.beside c.in-Busy.ensures.goes in
    is_busy (sym c.is_misaligned.ensures ∙ c.if-is_misaligned.false) f.translates

pub returns-in-Ram-clause-goes_on : goal.returns-in-Ram-clause-goes_on
returns-in-Ram-clause-goes_on g c = let f = follows_by _ _ _ _ _ _ _ _ _ c.regime_of-regime.ensures c.requires.access c.requires.fills c.in-Ram.ensures.made c.in-Ram.ensures.allowed c.in-Ram.ensures.armed c.in-Ram.ensures.beside c.in-Ram.ensures.goes in
    f.goes_on

pub returns-in-Ram-clause-access : goal.returns-in-Ram-clause-access
returns-in-Ram-clause-access g c = let f = follows_by _ _ _ _ _ _ _ _ _ c.regime_of-regime.ensures c.requires.access c.requires.fills c.in-Ram.ensures.made c.in-Ram.ensures.allowed c.in-Ram.ensures.armed c.in-Ram.ensures.beside c.in-Ram.ensures.goes in
    f.access

pub returns-in-Device-clause-goes_on : goal.returns-in-Device-clause-goes_on
returns-in-Device-clause-goes_on g c = let f = follows_by _ _ _ _ _ _ _ _ _ c.regime_of-regime.ensures c.requires.access c.requires.fills c.in-Device.ensures.made c.in-Device.ensures.allowed c.in-Device.ensures.armed c.in-Device.ensures.beside c.in-Device.ensures.goes in
    f.goes_on

pub returns-in-Device-clause-access : goal.returns-in-Device-clause-access
returns-in-Device-clause-access g c = let f = follows_by _ _ _ _ _ _ _ _ _ c.regime_of-regime.ensures c.requires.access c.requires.fills c.in-Device.ensures.made c.in-Device.ensures.allowed c.in-Device.ensures.armed c.in-Device.ensures.beside c.in-Device.ensures.goes in
    f.access

pub returns-in-Fault-clause-goes_on : goal.returns-in-Fault-clause-goes_on
returns-in-Fault-clause-goes_on g c = let f = follows_by _ _ _ _ _ _ _ _ _ c.regime_of-regime.ensures c.requires.access c.requires.fills c.in-Fault.ensures.made c.in-Fault.ensures.allowed c.in-Fault.ensures.armed c.in-Fault.ensures.beside c.in-Fault.ensures.goes in
    f.goes_on

pub returns-in-Fault-clause-access : goal.returns-in-Fault-clause-access
returns-in-Fault-clause-access g c = let f = follows_by _ _ _ _ _ _ _ _ _ c.regime_of-regime.ensures c.requires.access c.requires.fills c.in-Fault.ensures.made c.in-Fault.ensures.allowed c.in-Fault.ensures.armed c.in-Fault.ensures.beside c.in-Fault.ensures.goes in
    f.access

pub returns-in-Busy-clause-goes_on : goal.returns-in-Busy-clause-goes_on
returns-in-Busy-clause-goes_on g c = let f = follows_by _ _ _ _ _ _ _ _ _ c.regime_of-regime.ensures c.requires.access c.requires.fills c.in-Busy.ensures.made c.in-Busy.ensures.allowed c.in-Busy.ensures.armed c.in-Busy.ensures.beside c.in-Busy.ensures.goes in
    f.goes_on

pub returns-in-Busy-clause-access : goal.returns-in-Busy-clause-access
returns-in-Busy-clause-access g c = let f = follows_by _ _ _ _ _ _ _ _ _ c.regime_of-regime.ensures c.requires.access c.requires.fills c.in-Busy.ensures.made c.in-Busy.ensures.allowed c.in-Busy.ensures.armed c.in-Busy.ensures.beside c.in-Busy.ensures.goes in
    f.access
