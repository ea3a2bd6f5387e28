-- What a call did is what the reference machine's call does.
use Rattle.std.specs.Prelude.{◌≡◌, Bool}
use Rattle.rv64_priv.specs.State.{Arch}
use Rattle.machine_model.specs.Perform.{Surroundings, call_outcome}
use Rattle.machine_model.specs.Sbi.{sbi_of}
use Rattle.guest_ram.specs.Ports.{Shown, layout_of}
use Rattle.hart_calls.specs.declared.asking.Asked.{Asked}
use Rattle.hart_calls.specs.declared.outcomes.SbiEnd.{SbiEnd}
use Rattle.hart_calls.specs.Asked.{IsAsked}
use Rattle.hart_calls.specs.Called.{HasDone}
use Rattle.call_laws.specs.Found.{IsFound}
use Rattle.call_laws.specs.Did.{did_call}

abbrev pub CallsAreTheMachines : Type 0
CallsAreTheMachines = (w : Surroundings) (a : Arch) (section : Bool) (p q : Shown) (asked : Asked) (end : SbiEnd) (done : HasDone p q section asked end)
    → w.layout ≡ layout_of p → IsAsked (layout_of p) a asked → IsFound w p q section asked end done
    → call_outcome w.memory w.room (sbi_of w.layout w.modes w.memory a) ≡ did_call p q section asked end done
