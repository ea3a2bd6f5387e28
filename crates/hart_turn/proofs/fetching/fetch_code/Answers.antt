use Rattle.std.proofs.Common.{sym, subst}
use Rattle.rv64_priv.specs.Csr.{regime}
use Rattle.fetch_pieces.specs.Regimes.{IsAlike}
use Rattle.fetch_pieces.proofs.Regimes.{trap_alike}
use Rattle.code_fetch.specs.declared.fetching.Fetched.TheVariants as comes
use Rattle.hart_turn.specs.Executing.{FetchesOn}
use Rattle.hart_turn.proofs.Coded.{fault_works, held_fetch, with_fetch, word_works}
use Rattle.hart_turn.proofs.Looks.{with_arch}
use Rattle.hart_turn.proofs.fetching.fetch_code.Goals as goal

pub returns-in-Word-clause-with : goal.returns-in-Word-clause-with
returns-in-Word-clause-with g c = with_fetch c.args.hart.now c.fetch.new.book (g.P.Look.shows c.args.port.now) (g.P.Look.shows c.fetch.new.port) c.requires.with c.fetch.ensures.access c.fetch.ensures.goes_on c.fetch.ensures.goes

pub returns-in-Word-clause-part : goal.returns-in-Word-clause-part
returns-in-Word-clause-part g c = word_works c.args.hart.now c.fetch.new.book (g.P.Look.shows c.args.port.now) (g.P.Look.shows c.fetch.new.port) (record { beside = c.requires.with.beside; touch = c.requires.touch }) c.fetch.ensures.goes c.in-Word.word c.in-Word.ensures.fetched

pub returns-in-Busy-clause-with : goal.returns-in-Busy-clause-with
returns-in-Busy-clause-with g c = with_fetch c.args.hart.now c.fetch.new.book (g.P.Look.shows c.args.port.now) (g.P.Look.shows c.fetch.new.port) c.requires.with c.fetch.ensures.access c.fetch.ensures.goes_on c.fetch.ensures.goes

pub returns-in-Busy-clause-part : goal.returns-in-Busy-clause-part
returns-in-Busy-clause-part g c = held_fetch c.args.hart.now c.fetch.new.book (g.P.Look.shows c.args.port.now) (g.P.Look.shows c.fetch.new.port) (record { beside = c.requires.with.beside; touch = c.requires.touch }) c.fetch.ensures.goes c.in-Busy.busy c.in-Busy.ensures.fetched c.requires.free

pub returns-in-Fault-clause-with : goal.returns-in-Fault-clause-with
returns-in-Fault-clause-with g c = with_arch (record c.args.hart.now { book = c.fetch.new.book }) c.trap.new.arch (g.P.Look.shows c.fetch.new.port) c.requires.free
    (subst (λ z. IsAlike (regime c.args.hart.now.arch) (regime z)) (sym c.trap.ensures) (trap_alike c.args.hart.now.arch c.in-Fault.cause c.in-Fault.tval)) (with_fetch c.args.hart.now c.fetch.new.book (g.P.Look.shows c.args.port.now) (g.P.Look.shows c.fetch.new.port) c.requires.with c.fetch.ensures.access c.fetch.ensures.goes_on c.fetch.ensures.goes)

pub returns-in-Fault-clause-part : goal.returns-in-Fault-clause-part
returns-in-Fault-clause-part g c = subst (λ z. FetchesOn (comes.Fault c.in-Fault.cause c.in-Fault.tval) c.args.hart.now (record c.args.hart.now { arch = z; book = c.fetch.new.book }) (g.P.Look.shows c.args.port.now) (g.P.Look.shows c.fetch.new.port)) (sym c.trap.ensures)
    (fault_works c.args.hart.now c.fetch.new.book (g.P.Look.shows c.args.port.now) (g.P.Look.shows c.fetch.new.port) (record { beside = c.requires.with.beside; touch = c.requires.touch }) c.fetch.ensures.goes c.in-Fault.cause c.in-Fault.tval c.in-Fault.ensures.fetched c.requires.free)
