-- What a store answers.
use Rattle.std.proofs.Common.{◌≡◌, ℕ, ◌+◌, ◌*◌, ◌/◌, ◌%◌, ◌^◌, Bool, true, false, true≢false, sym, ap, subst, ◌∙◌}
use Rattle.std.specs.Prelude.{◌==◌, None}
use Rattle.step_laws.specs.declared.steps.WordOp.TheVariants.{Load, Exchange}
use Rattle.step_laws.specs.Words.{ram_word}
use Rattle.rv64_exec.specs.declared.needs.Answer.{Answer}
use Rattle.rv64_exec.specs.declared.needs.AmoOp.{AmoOp}
use Rattle.machine_model.specs.Memory.{number_in, replaced}
use Rattle.machine_model.specs.Perform.{combined, extended, width_of}
use Rattle.guest_ram.specs.Ports.{Shown}
use Rattle.guest_access.specs.declared.outcomes.Got.{Got}
use Rattle.guest_access.specs.declared.outcomes.Got.TheVariants as gets
use Rattle.guest_access.specs.Atomics.{HasExchangedFor, gives_old, new_word, old_number}
use Rattle.guest_access.specs.Stepping.{HasStepped, whole_op}
use Rattle.guest_access.specs.Storing.{HasExchanged, is_lost}

-- a load and an exchange
pub exchanged : (pa seen new n found : ℕ) (p m q : Shown) → n ≡ new → HasStepped Load pa 0 seen p m → HasStepped (Exchange seen) pa n found m q → HasExchanged pa seen new found p q
exchanged pa seen new n found p m q e loads exchanges = record { mid = m; loads = loads; exchanges = subst (λ k. HasStepped (Exchange seen) pa k found m q) e exchanges }

pub lost_at : (pa word seen found : ℕ) → word ≡ ram_word pa → gets.Lost word seen found ≡ is_lost pa seen found
lost_at pa word seen found e = ap (λ n. gets.Lost n seen found) e

-- the word that an operation leaves
pub leaves : (op : AmoOp) (pa value word old combined_by new width : ℕ) (wide : Bool) → width ≡ width_of wide → old ≡ number_in word (pa % 8) width
    → combined_by % 256 ^ width_of wide ≡ combined op wide old value % 256 ^ width_of wide → new ≡ replaced word (pa % 8) width combined_by → new ≡ new_word op pa wide value word
leaves op pa value word old combined_by new width wide w is same e = e ∙ ap (λ k. replaced word (pa % 8) k combined_by) w
    ∙ ap (λ v. word % 256 ^ (pa % 8) + 256 ^ (pa % 8) * v + 256 ^ (pa % 8 + width_of wide) * (word / 256 ^ (pa % 8 + width_of wide))) same
    ∙ ap (λ n. replaced word (pa % 8) (width_of wide) (combined op wide n value)) (is ∙ ap (number_in word (pa % 8)) w)

pub gives_number : (pa word old value width : ℕ) (wide : Bool) → width ≡ width_of wide → old ≡ number_in word (pa % 8) width → value ≡ extended true width old → gets.Done (Answer.Value value) ≡ gives_old pa wide word
gives_number pa word old value width wide w is e = ap (λ v. gets.Done (Answer.Value v)) (e ∙ ap (λ k. extended true k old) w ∙ ap (extended true (width_of wide)) (is ∙ ap (number_in word (pa % 8)) w))

-- which accesses are by one operation
pub narrow_none : (wide : Bool) (op : AmoOp) → wide ≡ false → wide ≡ true → whole_op op ≡ None
narrow_none wide op n e = absurd (true≢false (sym e ∙ n))

pub exchanged_from : (op : AmoOp) (pa : ℕ) (wide : Bool) (value : ℕ) (p m q : Shown) (got : Got) → m ≡ p → HasExchangedFor op pa wide value m q got → HasExchangedFor op pa wide value p q got
exchanged_from op pa wide value p m q got e x = subst (λ (y : Shown). HasExchangedFor op pa wide value y q got) e x

-- what a load-reserved and a store-conditional answer
pub gives_reserved : (pa word number value width : ℕ) (wide : Bool) → width ≡ width_of wide → number ≡ number_in word (pa % 8) width → value ≡ extended true width number
    → gets.Done (Answer.LrValue value (record { pa = pa; wide = wide; word = word })) ≡ gets.Done (Answer.LrValue (extended true (width_of wide) (old_number pa wide word)) (record { pa = pa; wide = wide; word = word }))
gives_reserved pa word number value width wide w is e = ap (λ v. gets.Done (Answer.LrValue v (record { pa = pa; wide = wide; word = word })))
    (e ∙ ap (λ k. extended true k number) w ∙ ap (extended true (width_of wide)) (is ∙ ap (number_in word (pa % 8)) w))

pub exchanged_whole : (pa word value new width found : ℕ) (wide : Bool) (m q : Shown) → width ≡ width_of wide → new ≡ replaced word (pa % 8) width value → HasStepped (Exchange word) pa new found m q
    → HasStepped (Exchange word) pa (replaced word (pa % 8) (width_of wide) value) found m q
exchanged_whole pa word value new width found wide m q w e s = subst (λ n. HasStepped (Exchange word) pa n found m q) (e ∙ ap (λ k. replaced word (pa % 8) k value) w) s

pub gives_stored : (found word : ℕ) (stored : Bool) → stored ≡ (found == word) → gets.Done (Answer.Sc stored) ≡ gets.Done (Answer.Sc (found == word))
gives_stored found word stored e = ap (λ b. gets.Done (Answer.Sc b)) e
