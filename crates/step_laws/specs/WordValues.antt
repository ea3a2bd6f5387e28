-- What a word holds after a list of steps, by the words' names.
use Rattle.std.specs.Prelude.{◌≡◌, ℕ, ◌==◌, Bool, true, ◌&&◌, List, [], ◌∷◌, if◌then◌else◌}
use Rattle.step_laws.specs.declared.steps.WordOp.{WordOp}
use Rattle.step_laws.specs.declared.steps.WordOp.TheVariants.{Load}
use Rattle.step_laws.specs.declared.steps.Step.{Step}
use Rattle.step_laws.specs.Map.{Word, Zero, Pend, Stop, Live, Cons, Ipi, Run, Kick, Done, Lock, Size, Hsm, Start, Opaque, Place, Dirty, Tlb, Console, Ram, Spare, IsWord, number_of, name_of, same_field}
use Rattle.step_laws.specs.Steps.{new_of, value_at}

-- a word after an operation, on it or on another. A load changes nothing, on whichever word
abbrev pub after : WordOp → Bool → ℕ → ℕ → ℕ
after Load here n arg = n
after op here n arg = if here then new_of op n arg else n

-- the first word after an operation on the second: the words are matched first, then the operation, so that loads, and steps on
-- words of another kind, compute
abbrev pub value_next : Word → Word → WordOp → (n arg : ℕ) → ℕ
value_next Zero Zero op n arg = after op true n arg
value_next Pend Pend op n arg = after op true n arg
value_next Stop Stop op n arg = after op true n arg
value_next Live Live op n arg = after op true n arg
value_next Cons Cons op n arg = after op true n arg
value_next Ipi Ipi op n arg = after op true n arg
value_next (Run a) (Run b) op n arg = after op (a == b) n arg
value_next (Kick a) (Kick b) op n arg = after op (a == b) n arg
value_next (Done a) (Done b) op n arg = after op (a == b) n arg
value_next (Lock a) (Lock b) op n arg = after op (a == b) n arg
value_next (Size a) (Size b) op n arg = after op (a == b) n arg
value_next (Hsm a) (Hsm b) op n arg = after op (a == b) n arg
value_next (Start a) (Start b) op n arg = after op (a == b) n arg
value_next (Opaque a) (Opaque b) op n arg = after op (a == b) n arg
value_next (Place t s k) (Place u r l) op n arg = after op ((t == u) && ((s == r) && (k == l))) n arg
value_next (Dirty i) (Dirty j) op n arg = after op (i == j) n arg
value_next (Tlb h j f) (Tlb i k g) op n arg = after op ((h == i) && ((j == k) && same_field f g)) n arg
value_next (Console i) (Console j) op n arg = after op (i == j) n arg
value_next (Ram i) (Ram j) op n arg = after op (i == j) n arg
value_next (Spare v) (Spare w) op n arg = after op (v == w) n arg
value_next _ _ op n arg = n

-- the value of the word with this name, all words being 0 before the steps
abbrev pub word_value : Word → List Step → ℕ
word_value w [] = 0
word_value w (s ∷ h) = value_next w (name_of s.word) s.op (word_value w h) s.arg

-- the value by a word's name is that by its number
abbrev pub ValueLaw : Type 0
ValueLaw = (w : Word) (h : List Step) → IsWord w → word_value w h ≡ value_at (number_of w) h
