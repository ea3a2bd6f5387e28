-- The steps of atomic accesses (RISC-V Unprivileged ISA, "A" Extension for Atomic Instructions).
use Rattle.std.specs.Prelude.{◌≡◌, ◌≢◌, ℕ, ◌%◌, ◌==◌, ◌&&◌, Bool, true, false, if◌then◌else◌, Option, Some, None, Result, Ok, Err}
use Rattle.rv64_priv.specs.declared.state.Hold.{Hold}
use Rattle.rv64_priv.specs.declared.state.Kind.{Kind}
use Rattle.rv64_priv.specs.declared.state.Regime.{Regime}
use Rattle.rv64_priv.specs.Trap.{access_fault}
use Rattle.rv64_exec.specs.declared.needs.AmoOp.{AmoOp}
use Rattle.rv64_exec.specs.declared.needs.Answer.{Answer}
use Rattle.step_laws.specs.declared.steps.WordOp.{WordOp}
use Rattle.step_laws.specs.declared.steps.WordOp.TheVariants as ops
use Rattle.machine_model.specs.Memory.{number_in, replaced}
use Rattle.machine_model.specs.Perform.{combined, extended, is_misaligned, same_width, width_of}
use Rattle.guest_ram.specs.Ports.{Shown}
use Rattle.tlb_entry.specs.declared.books.Book.{Book}
use Rattle.tlb_fill.specs.declared.translation.Translated.TheVariants as gives
use Rattle.guest_access.specs.declared.outcomes.Got.{Got}
use Rattle.guest_access.specs.declared.outcomes.Got.TheVariants as gets
use Rattle.guest_access.specs.Reaching.{Translates}
use Rattle.guest_access.specs.Stepping.{HasStepped, whole_op}
use Rattle.guest_access.specs.Storing.{HasExchanged, is_lost}

-- the cause of a misaligned address (Privileged Architecture, "Supervisor Cause (scause) Register")
abbrev pub misaligned : Kind → ℕ
misaligned Kind.Fetch = 0
misaligned Kind.Load = 4
misaligned Kind.Store = 6

-- a misaligned access faults before its page is looked for; no device takes an atomic access
pub data HasPlaced (p q : Shown) (b b' : Book) (r : Regime) (kind : Kind) (va : ℕ) (wide : Bool) : Result ℕ Got → Type 0 where
  at_none : is_misaligned wide va ≡ true → q ≡ p → b' ≡ b → HasPlaced p q b b' r kind va wide (Err (gets.Fault (misaligned kind) va))
  in_ram : {pa : ℕ} → is_misaligned wide va ≡ false → Translates p q b b' r kind va (gives.Ram pa) → HasPlaced p q b b' r kind va wide (Ok pa)
  on_device : {pa : ℕ} → is_misaligned wide va ≡ false → Translates p q b b' r kind va (gives.Device pa) → HasPlaced p q b b' r kind va wide (Err (gets.Fault (access_fault kind) va))
  faults : {cause tval : ℕ} → is_misaligned wide va ≡ false → Translates p q b b' r kind va (gives.Fault cause tval) → HasPlaced p q b b' r kind va wide (Err (gets.Fault cause tval))
  is_busy : {busy : _} → is_misaligned wide va ≡ false → Translates p q b b' r kind va (gives.Busy busy) → HasPlaced p q b b' r kind va wide (Err (gets.Busy busy))

-- the number of an access in its word, and the word with what an operation makes of it
abbrev pub old_number : (pa : ℕ) → Bool → (word : ℕ) → ℕ
old_number pa wide word = number_in word (pa % 8) (width_of wide)

abbrev pub new_word : AmoOp → (pa : ℕ) → Bool → (value word : ℕ) → ℕ
new_word op pa wide value word = replaced word (pa % 8) (width_of wide) (combined op wide (old_number pa wide word) value)

abbrev pub gives_old : (pa : ℕ) → Bool → (word : ℕ) → Got
gives_old pa wide word = gets.Done (Answer.Value (extended true (width_of wide) (old_number pa wide word)))

-- by a load and an exchange, which is lost where it finds another value
pub data HasExchangedFor (op : AmoOp) (pa : ℕ) (wide : Bool) (value : ℕ) (p q : Shown) (got : Got) : Type 0 where
  done : {seen found : ℕ} → HasExchanged pa seen (new_word op pa wide value seen) found p q → found ≡ seen → got ≡ gives_old pa wide seen → HasExchangedFor op pa wide value p q got
  lost : {seen found : ℕ} → HasExchanged pa seen (new_word op pa wide value seen) found p q → found ≢ seen → got ≡ is_lost pa seen found → HasExchangedFor op pa wide value p q got

-- 8 bytes by one operation on their word, where there is one
pub data HasOperatedOn (op : AmoOp) (pa : ℕ) (wide : Bool) (value : ℕ) (p q : Shown) (got : Got) : Type 0 where
  whole : {by : WordOp} {old : ℕ} → wide ≡ true → whole_op op ≡ Some by → HasStepped by pa value old p q → got ≡ gets.Done (Answer.Value old) → HasOperatedOn op pa wide value p q got
  exchanged : (wide ≡ true → whole_op op ≡ None) → HasExchangedFor op pa wide value p q got → HasOperatedOn op pa wide value p q got

-- the word that a hold names for this address and width
abbrev pub held_word : Option Hold → (pa : ℕ) → Bool → Option ℕ
held_word None pa wide = None
held_word (Some hold) pa wide = if (hold.pa == pa) && same_width hold.wide wide then Some hold.word else None

module _ (p q : Shown) (b b' : Book) (r : Regime) (va : ℕ) where
  pub data HasOperatedAt (op : AmoOp) (wide : Bool) (value : ℕ) : Got → Type 0 where
    on_word : {mid : Shown} {pa : ℕ} {got : Got} → HasPlaced p mid b b' r Kind.Store va wide (Ok pa) → HasOperatedOn op pa wide value mid q got → HasOperatedAt op wide value got
    on_none : {got : Got} → HasPlaced p q b b' r Kind.Store va wide (Err got) → HasOperatedAt op wide value got

  -- the answer has the number, and the hold the whole word
  pub data HasReserved (wide : Bool) : Got → Type 0 where
    on_word : {mid : Shown} {pa word : ℕ} {got : Got} → HasPlaced p mid b b' r Kind.Load va wide (Ok pa) → HasStepped ops.Load pa 0 word mid q
        → got ≡ gets.Done (Answer.LrValue (extended true (width_of wide) (old_number pa wide word)) (record { pa = pa; wide = wide; word = word })) → HasReserved wide got
    on_none : {got : Got} → HasPlaced p q b b' r Kind.Load va wide (Err got) → HasReserved wide got

  -- with a hold of this address and width by one exchange of the whole held word; without one nothing is touched
  pub data HasConditional (hold : Option Hold) (wide : Bool) (value : ℕ) : Got → Type 0 where
    with_hold : {mid : Shown} {pa word found : ℕ} {got : Got} → HasPlaced p mid b b' r Kind.Store va wide (Ok pa) → held_word hold pa wide ≡ Some word
        → HasStepped (ops.Exchange word) pa (replaced word (pa % 8) (width_of wide) value) found mid q → got ≡ gets.Done (Answer.Sc (found == word)) → HasConditional hold wide value got
    without_hold : {pa : ℕ} {got : Got} → HasPlaced p q b b' r Kind.Store va wide (Ok pa) → held_word hold pa wide ≡ None → got ≡ gets.Done (Answer.Sc false) → HasConditional hold wide value got
    on_none : {got : Got} → HasPlaced p q b b' r Kind.Store va wide (Err got) → HasConditional hold wide value got
