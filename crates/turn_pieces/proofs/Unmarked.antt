-- A log without a mark waits for no store.
use Rattle.std.proofs.Common.{zero, suc, subst, ◌≢◌, ◌/◌, ◌%◌, ◌^◌, ap, List, ◌≡◌, ℕ, Bool, true, false, true≢false, [], ◌∷◌, refl, sym, ◌∙◌}
use Rattle.std.specs.Prelude.{◌==◌, ◌&&◌, if◌then◌else◌}
use Rattle.std.specs.List.{list_any}
use Rattle.std.proofs.lemmas.Bool.{and_parts}
use Rattle.step_laws.specs.declared.steps.WordOp.{WordOp}
use Rattle.step_laws.specs.declared.steps.WordOp.TheVariants.{Or}
use Rattle.step_laws.specs.Marks.{is_mark}
use Rattle.step_laws.proofs.Named.{by_test}
use Rattle.turn_pieces.proofs.Bits.{one_page}
use Rattle.step_laws.specs.Map.{Word, Dirty, name_of}
use Rattle.machine_model.specs.State.{Setup}
use Rattle.step_laws.specs.declared.steps.Step.{Step}
use Rattle.machine_model.specs.Event.{Event}
use Rattle.turn_pieces.specs.Log.{made, did, Log}
use Rattle.turn_pieces.specs.Writers.{AreOn, quietly}
use Rattle.turn_pieces.specs.Kept.{own_part}
use Rattle.turn_pieces.specs.Marks.{own_pages, awaited_next, is_awaited}

abbrev pub is_other : Word → Bool
is_other (Dirty i) = false
is_other w = true

-- no step is on a dirty word
abbrev pub is_unmarked : Log → Bool
is_unmarked [] = true
is_unmarked (made s ∷ l) = is_other (name_of s.word) && is_unmarked l
is_unmarked (did e ∷ l) = is_unmarked l

other_next : (page : ℕ) (w : Word) (op : WordOp) (arg : ℕ) (b : Bool) → is_other w ≡ true → awaited_next page w op arg b ≡ b
other_next page (Dirty i) op arg b e = absurd (true≢false (sym e))
other_next page w op arg b e = refl

pub unmarked : (u : Setup) (a page : ℕ) (l : Log) → is_unmarked l ≡ true → is_awaited u a page l ≡ false
unmarked u a page [] e = refl
unmarked u a page (made s ∷ l) e = let k = and_parts (is_other (name_of s.word)) (is_unmarked l) e in
    other_next page (name_of s.word) s.op s.arg (is_awaited u a page l) k.0 ∙ unmarked u a page l k.1
unmarked u a page (did e ∷ l) k = either_way (list_any (λ given. given == page) (own_pages (own_part u a l) e)) (unmarked u a page l k)
  where
    either_way : (b : Bool) → is_awaited u a page l ≡ false → (if b then false else is_awaited u a page l) ≡ false
    either_way true i = refl
    either_way false i = i

-- for writers: a step on another word than a dirty word leaves what is awaited, an event awaits nothing new, and one that stores to the page
-- pays its mark
pub unmarked_step : (u : Setup) (a page : ℕ) (l : Log) (s : Step) → is_other (name_of s.word) ≡ true → is_awaited u a page (made s ∷ l) ≡ is_awaited u a page l
unmarked_step u a page l s e = other_next page (name_of s.word) s.op s.arg (is_awaited u a page l) e

pub unmarked_did : (u : Setup) (a page : ℕ) (l : Log) (e : Event) → is_awaited u a page l ≡ false → is_awaited u a page (did e ∷ l) ≡ false
unmarked_did u a page l e k = go (list_any (λ given. given == page) (own_pages (own_part u a l) e))
  where
    go : (b : Bool) → (if b then false else is_awaited u a page l) ≡ false
    go true = refl
    go false = k

pub mark_paid : (u : Setup) (a page : ℕ) (l : Log) (e : Event) → list_any (λ given. given == page) (own_pages (own_part u a l) e) ≡ true → is_awaited u a page (did e ∷ l) ≡ false
mark_paid u a page l e k = ap (λ (b : Bool). if b then false else is_awaited u a page l) k

-- a quiet part that makes no mark
pub unmarked_quietly : (u : Setup) (a page : ℕ) (r : List Step) (l : Log) → AreOn (λ w. is_other w ≡ true) r → is_awaited u a page (quietly r l) ≡ is_awaited u a page l
unmarked_quietly u a page [] l k = refl
unmarked_quietly u a page (s ∷ r) l k = unmarked_step u a page (quietly r l) s k.0 ∙ unmarked_quietly u a page r l k.1

-- the mark of a page awaits it, and no other
pub marked_one : (u : Setup) (a page other : ℕ) (l : Log) (s : Step) → name_of s.word ≡ Dirty (page / 64) → s.op ≡ Or → s.arg ≡ 2 ^ (page % 64) → other ≢ page
    → is_awaited u a other (made s ∷ l) ≡ is_awaited u a other l
marked_one u a page other l s n o is ne = ap (λ w. awaited_next other w s.op s.arg (is_awaited u a other l)) n ∙ (ap (λ op. awaited_next other (Dirty (page / 64)) op s.arg (is_awaited u a other l)) o ∙ not_this (is_mark other (page / 64) s.arg) refl)
  where
    not_this : (b : Bool) → is_mark other (page / 64) s.arg ≡ b → (if is_mark other (page / 64) s.arg then true else is_awaited u a other l) ≡ is_awaited u a other l
    not_this true e = absurd (ne (one_page page other s.arg is e))
    not_this false e = ap (λ (b : Bool). if b then true else is_awaited u a other l) e

-- for logs by hand: all marks are of page 0
abbrev pub is_zero_mark : Word → WordOp → (arg : ℕ) → Bool
is_zero_mark (Dirty zero) Or (suc zero) = true
is_zero_mark (Dirty i) op arg = false
is_zero_mark w op arg = true

abbrev pub is_zero_only : Log → Bool
is_zero_only [] = true
is_zero_only (made s ∷ l) = is_zero_mark (name_of s.word) s.op s.arg && is_zero_only l
is_zero_only (did e ∷ l) = is_zero_only l

zero_next : (page : ℕ) (w : Word) (op : WordOp) (arg : ℕ) (b : Bool) → page ≢ 0 → is_zero_mark w op arg ≡ true → awaited_next page w op arg b ≡ b
zero_next page (Dirty zero) Or (suc zero) b ne e = not_this (is_mark page 0 1) refl
  where
    not_this : (t : Bool) → is_mark page 0 1 ≡ t → (if is_mark page 0 1 then true else b) ≡ b
    not_this true k = absurd (ne (one_page 0 page 1 refl k))
    not_this false k = ap (λ (t : Bool). if t then true else b) k
zero_next page (Dirty i) op arg b ne e = absurd (true≢false (sym e))
zero_next page w op arg b ne e = refl

others_unmarked : (u : Setup) (a page : ℕ) (l : Log) → page ≢ 0 → is_zero_only l ≡ true → is_awaited u a page l ≡ false
others_unmarked u a page [] ne e = refl
others_unmarked u a page (made s ∷ l) ne e = let k = and_parts (is_zero_mark (name_of s.word) s.op s.arg) (is_zero_only l) e in
    zero_next page (name_of s.word) s.op s.arg (is_awaited u a page l) ne k.0 ∙ others_unmarked u a page l ne k.1
others_unmarked u a page (did e ∷ l) ne k = unmarked_did u a page l e (others_unmarked u a page l ne k)

pub zero_marked : (u : Setup) (a : ℕ) (l : Log) → is_zero_only l ≡ true → is_awaited u a 0 l ≡ false → (page : ℕ) → is_awaited u a page l ≡ false
zero_marked u a l e first page = by_test page 0 (λ _. is_awaited u a page l ≡ false) (λ is. subst (λ q. is_awaited u a q l ≡ false) (sym is) first) (λ ne. others_unmarked u a page l ne e)
