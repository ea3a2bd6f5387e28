-- The steps of a load, and what its answer is made of.
use Rattle.std.specs.Prelude.{◌≡◌, ℕ, ◌+◌, ◌*◌, ◌%◌, ◌^◌, Bool, Option, Some, None, Ok, Err}
use Rattle.rv64_priv.specs.declared.state.Kind.{Kind}
use Rattle.rv64_priv.specs.declared.state.Regime.{Regime}
use Rattle.rv64_priv.specs.Trap.{access_fault}
use Rattle.rv64_exec.specs.declared.needs.Answer.{Answer}
use Rattle.step_laws.specs.declared.steps.WordOp.TheVariants as ops
use Rattle.machine_model.specs.Device.{device_value}
use Rattle.machine_model.specs.Memory.{number_in}
use Rattle.machine_model.specs.Perform.{extended}
use Rattle.guest_ram.specs.Ports.{Shown}
use Rattle.tlb_entry.specs.declared.books.Book.{Book}
use Rattle.guest_access.specs.declared.outcomes.Got.{Got}
use Rattle.guest_access.specs.declared.outcomes.Got.TheVariants as gets
use Rattle.guest_access.specs.declared.reaching.Place.TheVariants as at
use Rattle.guest_access.specs.Reaching.{HasReached}
use Rattle.guest_access.specs.Stepping.{HasStepped}

abbrev pub gives_number : Bool → (width number : ℕ) → Got
gives_number sign width number = gets.Done (Answer.Value (extended sign width number))

-- a device's register, where there is one
abbrev pub gives_register : (va width : ℕ) → Bool → Option ℕ → Got
gives_register va width sign (Some value) = gives_number sign width value
gives_register va width sign None = gets.Fault (access_fault Kind.Load) va

module _ (p q : Shown) (b b' : Book) (r : Regime) (va width : ℕ) (sign section : Bool) where
  -- one load, or two in the section; a device is not stepped on
  pub data HasLoaded : Got → Type 0 where
    in_word : {mid : Shown} {pa word : ℕ} {got : Got} → HasReached p mid b b' r Kind.Load va width section (Ok (at.Word pa)) → HasStepped ops.Load pa 0 word mid q
        → got ≡ gives_number sign width (number_in word (pa % 8) width) → HasLoaded got
    over_words : {mid next : Shown} {first second low high : ℕ} {got : Got} → HasReached p mid b b' r Kind.Load va width section (Ok (at.Words first second))
        → HasStepped ops.Load first 0 low mid next → HasStepped ops.Load second 0 high next q → got ≡ gives_number sign width (number_in (low + 2 ^ 64 * high) (first % 8) width) → HasLoaded got
    on_device : {pa : ℕ} {got : Got} → HasReached p q b b' r Kind.Load va width section (Ok (at.Device pa)) → got ≡ gives_register va width sign (device_value pa width) → HasLoaded got
    unreached : {got : Got} → HasReached p q b b' r Kind.Load va width section (Err got) → HasLoaded got
