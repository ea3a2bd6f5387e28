-- The steps of a store.
use Rattle.std.specs.Prelude.{◌≡◌, ◌≢◌, ℕ, ◌+◌, ◌*◌, ◌/◌, ◌%◌, ◌^◌, Bool, Option, Some, None, Ok, Err}
use Rattle.rv64_priv.specs.declared.state.Kind.{Kind}
use Rattle.rv64_priv.specs.declared.state.Regime.{Regime}
use Rattle.rv64_priv.specs.Trap.{access_fault}
use Rattle.rv64_exec.specs.declared.needs.Answer.{Answer}
use Rattle.step_laws.specs.declared.steps.WordOp.TheVariants as ops
use Rattle.step_laws.specs.Words.{ram_word}
use Rattle.machine_model.specs.Memory.{replaced}
use Rattle.guest_ram.specs.Ports.{Shown}
use Rattle.guest_devices.specs.Stores.{HasStoredOn}
use Rattle.tlb_entry.specs.declared.books.Book.{Book}
use Rattle.guest_access.specs.declared.outcomes.Got.{Got}
use Rattle.guest_access.specs.declared.outcomes.Got.TheVariants as gets
use Rattle.guest_access.specs.declared.reaching.Place.TheVariants as at
use Rattle.guest_access.specs.Reaching.{HasReached}
use Rattle.guest_access.specs.Stepping.{HasStepped}

-- the word was loaded, and exchanged for this
pub record HasExchanged (pa seen new found : ℕ) (p q : Shown) : Type 0 where
  pub mid : Shown
  pub loads : HasStepped ops.Load pa 0 seen p mid
  pub exchanges : HasStepped (ops.Exchange seen) pa new found mid q

abbrev pub is_lost : (pa seen found : ℕ) → Got
is_lost pa seen found = gets.Lost (ram_word pa) seen found

-- within a word: a whole one by one store, and else by a load and an exchange, which is lost where it finds another value
pub data HasStoredIn (pa width value : ℕ) (p q : Shown) (got : Got) : Type 0 where
  whole : width ≡ 8 → HasStepped ops.Store pa value 0 p q → got ≡ gets.Done Answer.Nothing → HasStoredIn pa width value p q got
  part : {seen found : ℕ} → width ≢ 8 → HasExchanged pa seen (replaced seen (pa % 8) width value) found p q → found ≡ seen → got ≡ gets.Done Answer.Nothing → HasStoredIn pa width value p q got
  lost : {seen found : ℕ} → width ≢ 8 → HasExchanged pa seen (replaced seen (pa % 8) width value) found p q → found ≢ seen → got ≡ is_lost pa seen found → HasStoredIn pa width value p q got

-- both words of a store over two
abbrev pub replaced_both : (low high offset width value : ℕ) → ℕ
replaced_both low high offset width value = replaced (low + 2 ^ 64 * high) offset width value

-- over two words: both are loaded, and then both stored
pub record HasStoredOver (first second width value : ℕ) (p q : Shown) : Type 0 where
  pub low : ℕ
  pub high : ℕ
  pub one : Shown
  pub two : Shown
  pub three : Shown
  pub loads_first : HasStepped ops.Load first 0 low p one
  pub loads_second : HasStepped ops.Load second 0 high one two
  pub stores_first : HasStepped ops.Store first (replaced_both low high (first % 8) width value % 2 ^ 64) 0 two three
  pub stores_second : HasStepped ops.Store second (replaced_both low high (first % 8) width value / 2 ^ 64) 0 three q

-- what a store on a device answers
abbrev pub gives_stored : (va : ℕ) → Option (Unit {0}) → Got
gives_stored va (Some done) = gets.Done Answer.Nothing
gives_stored va None = gets.Fault (access_fault Kind.Store) va

module _ (p q : Shown) (b b' : Book) (r : Regime) (va width value : ℕ) (section : Bool) where
  pub data HasStored : Got → Type 0 where
    in_word : {mid : Shown} {pa : ℕ} {got : Got} → HasReached p mid b b' r Kind.Store va width section (Ok (at.Word pa)) → HasStoredIn pa width value mid q got → HasStored got
    over_words : {mid : Shown} {first second : ℕ} {got : Got} → HasReached p mid b b' r Kind.Store va width section (Ok (at.Words first second)) → HasStoredOver first second width value mid q
        → got ≡ gets.Done Answer.Nothing → HasStored got
    on_device : {mid : Shown} {pa : ℕ} {done : Option (Unit {0})} {got : Got} → HasReached p mid b b' r Kind.Store va width section (Ok (at.Device pa)) → HasStoredOn pa width value done mid q
        → got ≡ gives_stored va done → HasStored got
    unreached : {got : Got} → HasReached p q b b' r Kind.Store va width section (Err got) → HasStored got
