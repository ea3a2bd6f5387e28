-- Fills over further steps.
use Rattle.std.proofs.Common.{◌≡◌, ℕ, ◌/◌, ◌%◌, ◌<◌, Bool, true, false, List, [], ◌∷◌, ◌++◌, refl, sym, ap, subst, ◌∙◌, inr, arith}
use Rattle.std.specs.Prelude.{◌&&◌, ◌||◌, nat_lt, if◌then◌else◌}
use Rattle.std.proofs.lemmas.Bool.{lt-ltb}
use Rattle.rv64_priv.specs.declared.state.Kind.{Kind}
use Rattle.rv64_priv.specs.declared.state.Kind.TheVariants as kinds
use Rattle.rv64_priv.specs.declared.state.Regime.{Regime}
use Rattle.rv64_priv.specs.Flush.{Flush, covers}
use Rattle.step_laws.specs.declared.map.TlbField.{TlbField}
use Rattle.step_laws.specs.declared.map.TlbField.TheVariants.{Page}
use Rattle.step_laws.specs.declared.steps.Step.{Step}
use Rattle.step_laws.specs.Fields.{invalid_bit}
use Rattle.step_laws.specs.Map.{Tlb}
use Rattle.step_laws.specs.Tables.{is_compare, is_first_slot, is_victim, size_of, table_word}
use Rattle.guest_ram.specs.Ports.{Shown, Machine}
use Rattle.walk_laws.specs.WalkLoads.{Found, AreLoaded, reads_of}
use Rattle.walk_laws.specs.KeptWalks.{Item, flushed, HasStood, made_all}
use Rattle.tlb_entry.specs.Compare.{field_of}
use Rattle.tlb_entry.specs.Kept.{kept, kept_word}
use Rattle.kept_fills.specs.Fills.{Fill, in_mode, IsWalkOf, IsBacked, Ends, steps_of, HasSameTable, NewBookGoes, FillsStay}

pub steps_behind : (added : List Step) (items : List Item) → steps_of (made_all added ++ items) ≡ added ++ steps_of items
steps_behind [] items = refl
steps_behind (s ∷ added) items = ap (λ l. s ∷ l) (steps_behind added items)

pub loaded_more : (xs : List Found) (added r : List Step) → AreLoaded xs r → AreLoaded xs (added ++ r)
loaded_more [] added r k = tt
loaded_more (x ∷ xs) [] r k = k
loaded_more (x ∷ xs) (s ∷ added) r k = inr (loaded_more (x ∷ xs) added r k)

pub stood_more : (va level : ℕ) (xs : List Found) (added : List Step) (items : List Item) → HasStood va level xs items → HasStood va level xs (made_all added ++ items)
stood_more va level [] added items k = tt
stood_more va level (x ∷ xs) [] items k = k
stood_more va level (x ∷ xs) (s ∷ added) items k = inr (stood_more va level (x ∷ xs) added items k)

pub stood_spared : (va level : ℕ) (what : Flush) (xs : List Found) (items : List Item) → covers what va level ≡ false → HasStood va level xs items → HasStood va level xs (flushed what ∷ items)
stood_spared va level what [] items n k = tt
stood_spared va level what (x ∷ xs) items n k = (n, k)

pub kept_same : (p q : Shown) (slot : ℕ) (f : TlbField) → HasSameTable p q → kept q.own.actor slot f q.own.steps ≡ kept p.own.actor slot f p.own.steps
kept_same p q slot f s = ap (kept_word f) (s.words slot f)

-- a walk of the record is one of the longer record
pub walk_more : (p q : Shown) (r : Regime) (f : Fill) (added : List Step) → q.own.steps ≡ added ++ p.own.steps → q.machine ≡ p.machine → IsWalkOf p.machine.layout.pages r f p.own.steps → IsWalkOf q.machine.layout.pages r f q.own.steps
walk_more p q r f added e m w = subst (λ (x : Machine). IsWalkOf x.layout.pages r f q.own.steps) (sym m) (record {
  kind = w.kind;
  ends = w.ends;
  loaded = subst (λ l. AreLoaded (reads_of p.machine.layout.pages (in_mode r f.user) f.va f.finds) l) (sym e) (loaded_more (reads_of p.machine.layout.pages (in_mode r f.user) f.va f.finds) added p.own.steps w.loaded);
})

pub fills_stay : FillsStay
fills_stay p q b r items fills added e s g = record {
  steps_are = steps_behind added items ∙ ap (λ l. added ++ l) g.steps_are ∙ sym e;
  large = g.large;
  walked = λ f a. walk_more p q r f added e s.machine (g.walked f a);
  backed = λ slot kind less valid. backed slot kind (g.backed slot kind (subst (λ n. slot < n) s.size less) (ap invalid_bit (sym (kept_same p q slot (field_of kind) s)) ∙ valid));
  victims = λ slot f v c. ap invalid_bit (s.words slot f) ∙ g.victims slot f v c;
}
  where
    backed : (slot : ℕ) (kind : Kind) → IsBacked p r items fills slot kind → IsBacked q r (made_all added ++ items) fills slot kind
    backed slot kind k = record {
      fill = k.fill;
      among = k.among;
      slot_is = ap (λ n. k.fill.va / 4096 % n) s.size ∙ k.slot_is;
      is_of = record {
        key = kept_same p q slot (field_of kind) s ∙ k.is_of.key;
        page_is = s.words slot Page ∙ k.is_of.page_is;
        ends = subst (λ (x : Machine). Ends x.layout.pages r kind k.fill) (sym s.machine) k.is_of.ends;
      };
      stood = subst (λ (x : Machine). HasStood k.fill.va k.fill.level (reads_of x.layout.pages (in_mode r k.fill.user) k.fill.va k.fill.finds) (made_all added ++ items)) (sym s.machine)
          (stood_more k.fill.va k.fill.level (reads_of p.machine.layout.pages (in_mode r k.fill.user) k.fill.va k.fill.finds) added items k.stood);
    }

-- an empty record
new_word : (a slot : ℕ) (f : TlbField) → is_first_slot slot ≡ true → is_compare f ≡ true → table_word (Tlb a slot f) [] ≡ 1
new_word a slot f first c = ap (λ (t : Bool). if t && is_compare f then 1 else 0) first ∙ ap (λ (t : Bool). if t then 1 else 0) c

first_below : (slot : ℕ) → slot < 64 → is_first_slot slot ≡ true
first_below slot less = ap (λ (t : Bool). t || is_victim slot) (lt-ltb slot 64 less)

first_victim : (slot : ℕ) → is_victim slot ≡ true → is_first_slot slot ≡ true
first_victim slot v = ap (λ (t : Bool). nat_lt slot 64 || t) v ∙ by (nat_lt slot 64)
  where
    by : (t : Bool) → (t || true) ≡ true
    by true = refl
    by false = refl

compare_of : (kind : Kind) → is_compare (field_of kind) ≡ true
compare_of kinds.Load = refl
compare_of kinds.Store = refl
compare_of kinds.Fetch = refl

one_kept : (kind : Kind) → kept_word (field_of kind) 1 ≡ 1
one_kept kinds.Load = refl
one_kept kinds.Store = refl
one_kept kinds.Fetch = refl

pub new_book_goes : NewBookGoes
new_book_goes p b r e l = record {
  steps_are = sym e;
  large = l;
  walked = λ f a. absurd a;
  backed = λ slot kind less valid. absurd (none slot kind less valid);
  victims = λ slot f v c. ap (λ r. invalid_bit (table_word (Tlb p.own.actor slot f) r)) e ∙ ap invalid_bit (new_word p.own.actor slot f (first_victim slot v) c);
}
  where
    none : (slot : ℕ) (kind : Kind) → slot < size_of p.own.actor p.own.steps → invalid_bit (kept p.own.actor slot (field_of kind) p.own.steps) ≡ 0 → ⊥
    none slot kind less valid =
        let small : slot < 64 = subst (λ r. slot < size_of p.own.actor r) e less in
        let is : invalid_bit (kept p.own.actor slot (field_of kind) p.own.steps) ≡ 1 = ap (λ r. invalid_bit (kept p.own.actor slot (field_of kind) r)) e
        ∙ ap (λ n. invalid_bit (kept_word (field_of kind) n)) (new_word p.own.actor slot (field_of kind) (first_below slot small) (compare_of kind)) ∙ ap invalid_bit (one_kept kind) in
        omega (arith, is, valid)
