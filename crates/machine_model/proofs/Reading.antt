-- A walk whose reads found their words at moments in order is allowed.
use Rattle.std.proofs.Common.{◌∙◌}
use Rattle.rv64_priv.specs.Csr.{regime}
use Rattle.rv64_priv.proofs.Reading.{found_walk}
use Rattle.machine_model.specs.State.{hart}
use Rattle.machine_model.specs.Walks.{levels_of}
use Rattle.machine_model.specs.Run.{state_of, memory_at}
use Rattle.machine_model.specs.Laws.{FoundIsAllowed}

pub found_is_allowed : FoundIsAllowed
found_is_allowed u run h kind va a moment end is_end f order past = record {
  moment = moment;
  in_order = order;
  past = past;
  is_end = found_walk u.layout.pages (regime (hart (state_of u run) h).arch) kind va (levels_of (λ level. memory_at u (moment level))) a f ∙ is_end;
}
