-- Pages that a log's actor marked, and for which a store is to come: which the steps of a translation mark, and which events end the wait.
use Rattle.std.proofs.Common.{◌≡◌, ℕ, ◌+◌, ◌*◌, ◌/◌, ◌%◌, ◌^◌, Bool, true, false, true≢false, List, [], ◌∷◌, ◌++◌, refl, sym, ap, subst, ◌∙◌, arith}
use Rattle.std.specs.Prelude.{◌==◌, ◌||◌, if◌then◌else◌}
use Rattle.std.specs.List.{list_any}
use Rattle.std.proofs.lemmas.Bool.{eq-eqb, eqb-true}
use Rattle.rv64_priv.specs.declared.state.Kind.{Kind}
use Rattle.rv64_priv.specs.declared.state.Kind.TheVariants as kinds
use Rattle.rv64_priv.specs.State.{Arch}
use Rattle.rv64_priv.specs.Walk.{Walked, is_device}
use Rattle.rv64_exec.specs.declared.needs.Need.{Need}
use Rattle.step_laws.specs.declared.steps.Step.{Step}
use Rattle.step_laws.specs.declared.steps.WordOp.{WordOp}
use Rattle.step_laws.specs.declared.steps.WordOp.TheVariants.{Or}
use Rattle.step_laws.specs.Map.{Word, Dirty, name_of}
use Rattle.step_laws.specs.Marks.{is_mark, is_page}
use Rattle.machine_model.specs.Access.{Spot, AtRam}
use Rattle.machine_model.specs.Event.{Event, Exec, Outcome}
use Rattle.machine_model.specs.Own.{Own}
use Rattle.machine_model.specs.State.{Setup}
use Rattle.machine_model.specs.Stores.{is_store, of_store, page_at, pages_reached, pages_walked, ram_page}
use Rattle.machine_model.specs.Walks.{access_of}
use Rattle.walk_laws.specs.KeptWalks.{Item}
use Rattle.rv64_priv.specs.declared.state.Regime.{Regime}
use Rattle.tlb_fill.specs.Answered.{IsAllowed}
use Rattle.tlb_fill.specs.Stepping.{answer, place_in, waits}
use Rattle.tlb_fill.specs.declared.translation.Translated.{Translated}
use Rattle.tlb_fill.specs.declared.translation.Translated.TheVariants as gives
use Rattle.turn_pieces.specs.Kept.{own_part}
use Rattle.turn_pieces.specs.Log.{made, did, Log}
use Rattle.turn_pieces.specs.Marks.{awaited_next, is_awaited, own_pages}
use Rattle.turn_pieces.specs.Writers.{quietly}
use Rattle.turn_pieces.proofs.Bits.{one_page}
use Rattle.turn_pieces.proofs.Unmarked.{is_other, mark_paid, unmarked_did, unmarked_step}
use Rattle.access_pieces.specs.Serving.{AwaitsAtMost, Wants}
use Rattle.access_pieces.specs.Translating.{spot}

abbrev pub is_given : (page : ℕ) → List ℕ → Bool
is_given page pages = list_any (λ given. given == page) pages

-- besides those a store is to come for these pages at most
abbrev pub AwaitsBut : (others : ℕ → Bool) → List ℕ → Setup → ℕ → Log → Type 0
AwaitsBut others pages u a l = (page : ℕ) → others page ≡ false → is_given page pages ≡ false → is_awaited u a page l ≡ false

-- a step marks these pages at most
abbrev pub IsMarkOf : List ℕ → Word → WordOp → (arg : ℕ) → Type 0
IsMarkOf pages w op arg = (page : ℕ) (b : Bool) → is_given page pages ≡ false → awaited_next page w op arg b ≡ b

abbrev pub AreMarksOf : List ℕ → List Step → Type 0
AreMarksOf pages [] = Unit {0}
AreMarksOf pages (s ∷ r) = IsMarkOf pages (name_of s.word) s.op s.arg × AreMarksOf pages r

-- the page of RAM at the address is one of these
abbrev pub AreGiven : List ℕ → (address : ℕ) → Type 0
AreGiven pages address = (page : ℕ) → is_page page address ≡ true → is_given page pages ≡ true

-- and so is that of each address that the answer of a store may have
abbrev pub GivesPages : List ℕ → Kind → (va : ℕ) → Translated → Type 0
GivesPages pages kind va t = kind ≡ kinds.Store → (device : Bool) (address : ℕ) → t ≡ answer device address va → AreGiven pages address

pub mark_of : (page : ℕ) (pages : List ℕ) → is_given page pages ≡ true → IsMarkOf pages (Dirty (page / 64)) Or (2 ^ (page % 64))
mark_of page pages given other b out = by (is_mark other (page / 64) (2 ^ (page % 64))) refl
  where
    by : (t : Bool) → is_mark other (page / 64) (2 ^ (page % 64)) ≡ t → (if is_mark other (page / 64) (2 ^ (page % 64)) then true else b) ≡ b
    by true e = absurd (true≢false (sym given ∙ ap (λ n. is_given n pages) (sym (one_page page other (2 ^ (page % 64)) refl e)) ∙ out))
    by false e = ap (λ (t : Bool). if t then true else b) e

pub store_waits : (kind : Kind) (not_dirty : Bool) → waits kind not_dirty ≡ true → kind ≡ kinds.Store
store_waits kinds.Store n e = refl
store_waits kinds.Load n e = absurd (true≢false (sym e))
store_waits kinds.Fetch n e = absurd (true≢false (sym e))

-- the page that an answer of a store leads to
abbrev pub pages_of : Kind → Spot → List ℕ
pages_of kind s = if is_store kind then page_at s else []

is_in_ram : Translated → Bool
is_in_ram (gives.Ram at) = true
is_in_ram t = false

place_of : Translated → ℕ
place_of (gives.Ram at) = at
place_of (gives.Device at) = at
place_of t = 0

is_address : Translated → Bool
is_address (gives.Ram at) = true
is_address (gives.Device at) = true
is_address t = false

answers_address : (device : Bool) (address va : ℕ) → is_address (answer device address va) ≡ true
unfolding is_address
answers_address true address va = refl
answers_address false address va = refl

answers_place : (device : Bool) (address va : ℕ) → place_of (answer device address va) ≡ place_in address va
unfolding place_of
answers_place true address va = refl
answers_place false address va = refl

page_number : (n at address va : ℕ) → at ≡ place_in address va → is_page n address ≡ true → ram_page at ≡ n
page_number n at address va e p = let x : at ≡ address / 4096 * 4096 + va % 4096 = e in let y : address / 4096 ≡ 2 ^ 31 / 4096 + n = eqb-true (address / 4096) (2 ^ 31 / 4096 + n) p in omega (arith, x, y)

no_page : (n at address other va : ℕ) → is_device other ≡ true → at ≡ place_in other va → at ≡ place_in address va → is_page n address ≡ true → ⊥
no_page n at address other va d e f p =
    let same : other / 4096 ≡ address / 4096 = same_page at address other va e f in
    let y : address / 4096 ≡ 2 ^ 31 / 4096 + n = eqb-true (address / 4096) (2 ^ 31 / 4096 + n) p in
    by (other / 4096 == 0x10000) refl d (same ∙ y)
  where
    same_page : (at address other va : ℕ) → at ≡ place_in other va → at ≡ place_in address va → other / 4096 ≡ address / 4096
    same_page at address other va e f = let x : at ≡ other / 4096 * 4096 + va % 4096 = e in let y : at ≡ address / 4096 * 4096 + va % 4096 = f in omega (arith, x, y)

    by : (b : Bool) → (other / 4096 == 0x10000) ≡ b → (b || (other / 4096 == 0x100)) ≡ true → other / 4096 ≡ 2 ^ 31 / 4096 + n → ⊥
    by true e k y = let x = eqb-true (other / 4096) 0x10000 e in omega (arith, x, y)
    by false e k y = let x = eqb-true (other / 4096) 0x100 k in omega (arith, x, y)

pub answer_given : (pages : ℕ) (r : Regime) (kind : Kind) (va : ℕ) (t : Translated) (added : List Step) (items : List Item) → IsAllowed pages r kind va t added items → GivesPages (pages_of kind (spot t)) kind va t
unfolding is_in_ram place_of is_address
answer_given pages r kind va (gives.Ram at) added items x store device address e n p =
    let here : at ≡ place_in address va = ap place_of e ∙ answers_place device address va in
    subst (λ (k : Kind). is_given n (pages_of k (AtRam at)) ≡ true) (sym store) (ap (λ (b : Bool). b || false) (eq-eqb (ram_page at) n (page_number n at address va here p)))
answer_given pages r kind va (gives.Device at) added items x store device address e n p =
    absurd (no_page n at address x.address va x.device_is x.at_is (ap place_of e ∙ answers_place device address va) p)
answer_given pages r kind va (gives.Fault cause tval) added items x store device address e n p = absurd (true≢false (sym (ap is_address e ∙ answers_address device address va)))
answer_given pages r kind va (gives.Busy busy) added items x store device address e n p = absurd (true≢false (sym (ap is_address e ∙ answers_address device address va)))

-- behind quiet steps that mark these pages alone
pub awaited_quietly : (u : Setup) (a page : ℕ) (pages : List ℕ) (r : List Step) (l : Log) → AreMarksOf pages r → is_given page pages ≡ false → is_awaited u a page (quietly r l) ≡ is_awaited u a page l
awaited_quietly u a page pages [] l k out = refl
awaited_quietly u a page pages (s ∷ r) l k out = k.0 page (is_awaited u a page (quietly r l)) out ∙ awaited_quietly u a page pages r l k.1 out

pub awaits_step : (others : ℕ → Bool) (pages : List ℕ) (u : Setup) (a : ℕ) (l : Log) (s : Step) → is_other (name_of s.word) ≡ true → AwaitsBut others pages u a l → AwaitsBut others pages u a (made s ∷ l)
awaits_step others pages u a l s e k = λ page free out. unmarked_step u a page l s e ∙ k page free out

-- an event that has these pages ends the wait for them
pub paid : (others : ℕ → Bool) (u : Setup) (a : ℕ) (l : Log) (e : Event) (o : Own) (pages : List ℕ) → own_part u a l ≡ o → own_pages o e ≡ pages → AwaitsBut others pages u a l → AwaitsAtMost others u a (did e ∷ l)
paid others u a l e o pages part is k page free = by (is_given page (own_pages (own_part u a l) e)) refl
  where
    by : (b : Bool) → is_given page (own_pages (own_part u a l) e) ≡ b → is_awaited u a page (did e ∷ l) ≡ false
    by true x = mark_paid u a page l e x
    by false x = unmarked_did u a page l e (k page free (ap (is_given page) (sym is ∙ ap (λ y. own_pages y e) (sym part)) ∙ x))

abbrev pub exec_pages : Need → (walk second : Walked) → List ℕ
exec_pages need walk second = of_store (access_of need) (λ w. pages_reached w walk second)

abbrev pub given_up_pages : Need → List Walked → List ℕ
given_up_pages need walks = of_store (access_of need) (λ w. pages_walked w walks)

pub exec_paid : (others : ℕ → Bool) (o : Own) (c : Arch) (need : Need) (walk second : Walked) (out : Outcome) (u : Setup) (a : ℕ) (l : Log) → Wants o c need → own_part u a l ≡ o → AwaitsBut others (exec_pages need walk second) u a l → AwaitsAtMost others u a (did (Exec a walk second out) ∷ l)
exec_paid others o c need walk second out u a l wants part k = paid others u a l (Exec a walk second out) o (exec_pages need walk second) part (ap (λ n. exec_pages n walk second) wants.need_is) k

-- pages given by either of two lists
pub given_left : (page : ℕ) (xs ys : List ℕ) → is_given page (xs ++ ys) ≡ false → is_given page xs ≡ false
given_left page [] ys e = refl
given_left page (x ∷ xs) ys e = by (x == page) (given_left page xs ys) e
  where
    by : (b : Bool) → (is_given page (xs ++ ys) ≡ false → is_given page xs ≡ false) → (b || is_given page (xs ++ ys)) ≡ false → (b || is_given page xs) ≡ false
    by true go k = k
    by false go k = go k

pub given_right : (page : ℕ) (xs ys : List ℕ) → is_given page (xs ++ ys) ≡ false → is_given page ys ≡ false
given_right page [] ys e = e
given_right page (x ∷ xs) ys e = given_right page xs ys (by (x == page) e)
  where
    by : (b : Bool) → (b || is_given page (xs ++ ys)) ≡ false → is_given page (xs ++ ys) ≡ false
    by true k = absurd (true≢false k)
    by false k = k
