-- Atomic operations on memory are served.
use Rattle.std.proofs.Common.{◌≡◌, ◌≢◌, ℕ, ◌+◌, ◌/◌, ◌%◌, ◌<◌, ◌≤◌, ◌^◌, Bool, true, false, [], ◌∷◌, Option, Some, None, refl, sym, ap, subst, ◌∙◌, arith, inl}
use Rattle.std.specs.Prelude.{◌-◌, nat_lt, if◌then◌else◌, min, max, bit_and, bit_or, bit_xor, pos, negsuc}
use Rattle.std.specs.Int.{w64, cast_unsigned}
use Rattle.std.proofs.lemmas.Nat.{and_le_l, or_lt, xor_lt}
use Rattle.rv64_priv.specs.State.{Arch}
use Rattle.rv64_priv.specs.Csr.{regime}
use Rattle.rv64_priv.specs.declared.state.Kind.{Kind}
use Rattle.rv64_exec.specs.declared.needs.AmoOp.{AmoOp}
use Rattle.rv64_exec.specs.declared.needs.Need.{Need}
use Rattle.rv64_exec.specs.declared.needs.Answer.{Answer}
use Rattle.step_laws.specs.declared.steps.WordOp.{WordOp}
use Rattle.step_laws.specs.declared.steps.WordOp.TheVariants as ops
use Rattle.step_laws.specs.Map.{Ram}
use Rattle.step_laws.specs.Steps.{new_of}
use Rattle.step_laws.specs.Words.{ram_word}
use Rattle.machine_model.specs.Access.{Reach, InRam}
use Rattle.machine_model.specs.Event.{Outcome, only}
use Rattle.machine_model.specs.Lawful.{flushing}
use Rattle.machine_model.specs.Memory.{Memory, One, number_in, replaced}
use Rattle.machine_model.specs.Own.{Own, own_executed}
use Rattle.machine_model.specs.Perform.{Surroundings, amo_outcome, combined, extended, perform, width_of}
use Rattle.machine_model.specs.State.{Setup}
use Rattle.machine_model.specs.Walks.{access_of}
use Rattle.guest_ram.specs.Ports.{Shown}
use Rattle.tlb_entry.specs.declared.books.Book.{Book}
use Rattle.turn_pieces.specs.Log.{made, Log}
use Rattle.turn_pieces.specs.Owed.{MayMake, owed}
use Rattle.turn_pieces.specs.Right.{MayBe}
use Rattle.turn_pieces.specs.Grows.{Ends, IsClear}
use Rattle.turn_pieces.specs.Shared.{IsShared}
use Rattle.turn_pieces.proofs.Offers.{free}
use Rattle.turn_pieces.proofs.Writers.{ends_then, grows_then, owed_named, seen_quietly}
use Rattle.guest_access.specs.declared.outcomes.Got.{Got}
use Rattle.guest_access.specs.Atomics.{HasExchangedFor, HasOperatedAt, HasOperatedOn, done, exchanged, lost, new_word, old_number, on_none, on_word, whole}
use Rattle.guest_access.specs.Reaching.{CanAccess}
use Rattle.guest_access.specs.Stepping.{HasStepped, whole_op}
use Rattle.guest_access.specs.Storing.{HasExchanged}
use Rattle.access_pieces.specs.Laws.{AmosServe}
use Rattle.access_pieces.specs.Serving.{ServesBut, MayGiveUp, Served, Counted, Tells, Wants}
use Rattle.access_pieces.proofs.Awaited.{exec_pages, given_up_pages}
use Rattle.access_pieces.proofs.GivenUp.{give_up, made_quietly}
use Rattle.access_pieces.proofs.Atomic.{Atomic, Come, aligned_seen, come, unplaced_served}
use Rattle.access_pieces.proofs.Executing.{awaits_stepped, exchange_held, load_of, loaded_in, lost_in, step_at}
use Rattle.access_pieces.proofs.Loads.{hart_there}
use Rattle.access_pieces.proofs.Writing.{IsWrite, exchange_due, exchange_may, write_exec, wrote}

-- whatever pages may wait for a store before
module _ (others : ℕ → Bool) where
  abbrev amo_at : (va : ℕ) → AmoOp → Bool → (value : ℕ) → Memory → Reach → Outcome
  amo_at va op wide value memory at = amo_outcome memory va op wide value at

  amo : (c : Arch) (va : ℕ) (op : AmoOp) (wide : Bool) (value : ℕ) → Atomic others c (Need.Amo va op wide value) Kind.Store va wide (amo_at va op wide value)
  unfolding perform flushing
  amo c va op wide value = record { wants = refl; calm = λ w h. refl; performs = λ w h walk second. refl; on_devices = λ memory pa. refl; at_faults = λ memory cause tval. refl }

  -- what the operation does, where memory holds this
  operated_as : (memory : Memory) (va pa word value : ℕ) (op : AmoOp) (wide : Bool) → memory (ram_word pa) ≡ word
      → wrote others (ram_word pa) (new_word op pa wide value word) (Answer.Value (extended true (width_of wide) (old_number pa wide word))) ≡ amo_at va op wide value memory (InRam (One (ram_word pa) (pa % 8) (width_of wide)))
  operated_as memory va pa word value op wide held = λ i. wrote others (ram_word pa) (new_word op pa wide value (sym held i)) (Answer.Value (extended true (width_of wide) (old_number pa wide (sym held i))))

  -- the operations that do it by themselves
  abbrev IsAmo : WordOp → Type 0
  IsAmo ops.Load = ⊥
  IsAmo ops.Store = ⊥
  IsAmo (ops.Exchange e) = ⊥
  IsAmo op = Unit {0}

  abbrev operand : WordOp → Option WordOp → WordOp
  operand d None = d
  operand d (Some op) = op

  by_amo : (amo : AmoOp) (op : WordOp) → whole_op amo ≡ Some op → IsAmo op
  by_amo AmoOp.Swap op e = subst IsAmo (ap (operand op) e) tt
  by_amo AmoOp.Add op e = subst IsAmo (ap (operand op) e) tt
  by_amo AmoOp.Xor op e = subst IsAmo (ap (operand op) e) tt
  by_amo AmoOp.And op e = subst IsAmo (ap (operand op) e) tt
  by_amo AmoOp.Or op e = subst IsAmo (ap (operand op) e) tt
  by_amo AmoOp.MinU op e = subst IsAmo (ap (operand op) e) tt
  by_amo AmoOp.MaxU op e = subst IsAmo (ap (operand op) e) tt
  by_amo AmoOp.Min op e = cc
  by_amo AmoOp.Max op e = cc

  module _ (u : Setup) (a : ℕ) (l : Log) (m q : Shown) (pa value old : ℕ) (clear : IsClear (owed l)) where
    operates : (op : WordOp) → IsAmo op → HasStepped op pa value old m q → MayMake u a l (step_at others m op pa value old) × IsWrite others (owed (made (step_at others m op pa value old) ∷ l)) (ram_word pa) (new_of op old value)
    operates ops.Swap is x = (free u a l clear (step_at others m ops.Swap pa value old) (Ram ((pa - 2 ^ 31) / 8)) ops.Swap x.name refl tt tt tt, inl (owed_named l (step_at others m ops.Swap pa value old) (Ram ((pa - 2 ^ 31) / 8)) ops.Swap x.name refl))
    operates ops.Add is x = (free u a l clear (step_at others m ops.Add pa value old) (Ram ((pa - 2 ^ 31) / 8)) ops.Add x.name refl tt tt tt, inl (owed_named l (step_at others m ops.Add pa value old) (Ram ((pa - 2 ^ 31) / 8)) ops.Add x.name refl))
    operates ops.And is x = (free u a l clear (step_at others m ops.And pa value old) (Ram ((pa - 2 ^ 31) / 8)) ops.And x.name refl tt tt tt, inl (owed_named l (step_at others m ops.And pa value old) (Ram ((pa - 2 ^ 31) / 8)) ops.And x.name refl))
    operates ops.Or is x = (free u a l clear (step_at others m ops.Or pa value old) (Ram ((pa - 2 ^ 31) / 8)) ops.Or x.name refl tt tt tt, inl (owed_named l (step_at others m ops.Or pa value old) (Ram ((pa - 2 ^ 31) / 8)) ops.Or x.name refl))
    operates ops.Xor is x = (free u a l clear (step_at others m ops.Xor pa value old) (Ram ((pa - 2 ^ 31) / 8)) ops.Xor x.name refl tt tt tt, inl (owed_named l (step_at others m ops.Xor pa value old) (Ram ((pa - 2 ^ 31) / 8)) ops.Xor x.name refl))
    operates ops.Min is x = (free u a l clear (step_at others m ops.Min pa value old) (Ram ((pa - 2 ^ 31) / 8)) ops.Min x.name refl tt tt tt, inl (owed_named l (step_at others m ops.Min pa value old) (Ram ((pa - 2 ^ 31) / 8)) ops.Min x.name refl))
    operates ops.Max is x = (free u a l clear (step_at others m ops.Max pa value old) (Ram ((pa - 2 ^ 31) / 8)) ops.Max x.name refl tt tt tt, inl (owed_named l (step_at others m ops.Max pa value old) (Ram ((pa - 2 ^ 31) / 8)) ops.Max x.name refl))
    operates ops.Load is x = absurd is
    operates ops.Store is x = absurd is
    operates (ops.Exchange e) is x = absurd is

  no_store : (op : WordOp) → IsAmo op → op ≢ ops.Store
  no_store op is e = subst IsAmo e is

  operated_held : (u : Setup) (a : ℕ) (l : Log) (m q : Shown) (op : WordOp) (pa value old : ℕ) (w : Surroundings) → IsAmo op → HasStepped op pa value old m q → MayBe u a (made (step_at others m op pa value old) ∷ l) w → w.memory (ram_word pa) ≡ old
  operated_held u a l m q op pa value old w is x may = may.here.0 (subst IsShared (sym x.name) tt) (no_store op is)

  -- 8 bytes are the whole word
  whole_number : (old : ℕ) → old < 2 ^ 64 → number_in old 0 8 ≡ old
  whole_number old less = omega (arith, less)

  whole_replaced : (old v : ℕ) → old < 2 ^ 64 → replaced old 0 8 v ≡ v % 2 ^ 64
  whole_replaced old v less = omega (arith, less)

  whole_extended : (n : ℕ) → n < 2 ^ 64 → extended true 8 n ≡ n
  whole_extended n less = by (nat_lt n (2 ^ 63)) refl
    where
      by : (t : Bool) → nat_lt n (2 ^ 63) ≡ t → cast_unsigned w64 (if t then pos n else negsuc (2 ^ 64 - (n + 1))) ≡ n
      by true e = grind (arith, less, e)
      by false e = grind (arith, less, e)

  whole_value : (amo : AmoOp) (op : WordOp) (old value : ℕ) → whole_op amo ≡ Some op → old < 2 ^ 64 → value < 2 ^ 64 → new_of op old value ≡ combined amo true old value % 2 ^ 64
  whole_value AmoOp.Swap op old value e less few = subst (λ (x : WordOp). new_of x old value ≡ value % 2 ^ 64) (ap (operand op) e) (omega (arith, few))
  whole_value AmoOp.Add op old value e less few = subst (λ (x : WordOp). new_of x old value ≡ (old + value) % 2 ^ 64) (ap (operand op) e) refl
  whole_value AmoOp.Xor op old value e less few = subst (λ (x : WordOp). new_of x old value ≡ bit_xor old value % 2 ^ 64) (ap (operand op) e) (fits (bit_xor old value) (xor_lt 64 old value less few))
    where
      fits : (n : ℕ) → n < 2 ^ 64 → n ≡ n % 2 ^ 64
      fits n l = omega (arith, l)
  whole_value AmoOp.And op old value e less few = subst (λ (x : WordOp). new_of x old value ≡ bit_and old value % 2 ^ 64) (ap (operand op) e) (fits (bit_and old value) old (and_le_l old value) less)
    where
      fits : (n k : ℕ) → n ≤ k → k < 2 ^ 64 → n ≡ n % 2 ^ 64
      fits n k l m = omega (arith, l, m)
  whole_value AmoOp.Or op old value e less few = subst (λ (x : WordOp). new_of x old value ≡ bit_or old value % 2 ^ 64) (ap (operand op) e) (fits (bit_or old value) (or_lt 64 old value less few))
    where
      fits : (n : ℕ) → n < 2 ^ 64 → n ≡ n % 2 ^ 64
      fits n l = omega (arith, l)
  whole_value AmoOp.MinU op old value e less few = subst (λ (x : WordOp). new_of x old value ≡ min old (value % 256 ^ 8) % 2 ^ 64) (ap (operand op) e) (omega (arith, less, few))
  whole_value AmoOp.MaxU op old value e less few = subst (λ (x : WordOp). new_of x old value ≡ max old (value % 256 ^ 8) % 2 ^ 64) (ap (operand op) e) (omega (arith, less, few))
  whole_value AmoOp.Min op old value e less few = cc
  whole_value AmoOp.Max op old value e less few = cc

  whole_operated : (memory : Memory) (va pa old value : ℕ) (amo : AmoOp) (op : WordOp) → whole_op amo ≡ Some op → pa % 8 + 8 ≤ 8 → old < 2 ^ 64 → value < 2 ^ 64 → memory (ram_word pa) ≡ old
      → wrote others (ram_word pa) (new_of op old value) (Answer.Value old) ≡ amo_at va amo true value memory (InRam (One (ram_word pa) (pa % 8) 8))
  whole_operated memory va pa old value amo op e within less few held =
      let zero_at : pa % 8 ≡ 0 = omega (arith, within) in
      let number : old_number pa true old ≡ old = ap (λ n. number_in old n 8) zero_at ∙ whole_number old less in
      let new : new_of op old value ≡ new_word amo pa true value old
      = whole_value amo op old value e less few ∙ sym (ap (λ n. replaced old n 8 (combined amo true (old_number pa true old) value)) zero_at ∙ whole_replaced old (combined amo true (old_number pa true old) value) less
      ∙ ap (λ n. combined amo true n value % 2 ^ 64) number) in
      (λ i. wrote others (ram_word pa) (new i) (Answer.Value (sym (ap (extended true 8) number ∙ whole_extended old less) i))) ∙ operated_as memory va pa old value amo true held

  module _ (o : Own) (p m q : Shown) (b b' : Book) (c : Arch) (va pa value : ℕ) (op : AmoOp) (u : Setup) (a : ℕ) (l : Log) (can : CanAccess b p) (t : Tells o p b (regime c) u a l) (few : value < 2 ^ 64) where
    whole_served : (by : WordOp) (old : ℕ) → Wants o c (Need.Amo va op true value) → whole_op op ≡ Some by → Come others c (Need.Amo va op true value) Kind.Store va true (amo_at va op true value) (amo c va op true value) o m b' pa u a l → HasStepped by pa value old m q
        → Ends u a l (Counted others (own_executed (only (Answer.Value old)) o) q b' (regime c) u a)
    whole_served by old wants is k x =
        let s = step_at others m by pa value old in
        let kind = by_amo op by is in
        let y = operates u a k.late m q pa value old k.tells.tells.clear by kind x in
        ends_then u a l k.late (Counted others (own_executed (only (Answer.Value old)) o) q b' (regime c) u a) k.grows
        (write_exec others o m q b' (regime c) c (Need.Amo va op true value) (Answer.Value old) k.walk k.walk by pa value old (new_of by old value) u a k.late k.tells x y.0 y.1 wants (hart_there others o p b c u a l can t)
        (aligned_seen others c (Need.Amo va op true value) Kind.Store va true (amo_at va op true value) (amo c va op true value) u.layout.pages a k.walk (made s ∷ k.late) k.aligned
        (seen_quietly u.layout.pages a c Kind.Store va k.walk (s ∷ []) k.late k.seen)) (λ w. (amo c va op true value).calm w a)
        (λ w may. whole_operated w.memory va pa old value op by is k.within x.small few (operated_held u a k.late m q by pa value old w kind x may) ∙ sym (k.performed w)) k.awaits)

    module _ (wide : Bool) (wants : Wants o c (Need.Amo va op wide value)) (k : Come others c (Need.Amo va op wide value) Kind.Store va wide (amo_at va op wide value) (amo c va op wide value) o m b' pa u a l) where
      part_served : (seen found : ℕ) → HasExchanged pa seen (new_word op pa wide value seen) found m q → found ≡ seen
          → Ends u a l (Counted others (own_executed (only (Answer.Value (extended true (width_of wide) (old_number pa wide seen)))) o) q b' (regime c) u a)
      part_served seen found x same =
          let answer = Answer.Value (extended true (width_of wide) (old_number pa wide seen)) in
          let new = new_word op pa wide value seen in
          let y = loaded_in others o m x.mid b' (regime c) pa seen u a k.late k.tells x.loads in
          let middle = made (load_of others m pa seen) ∷ k.late in
          let s = step_at others x.mid (ops.Exchange seen) pa new found in
          ends_then u a l middle (Counted others (own_executed (only answer) o) q b' (regime c) u a) (grows_then u a l k.late k.grows y.grows)
          (write_exec others o x.mid q b' (regime c) c (Need.Amo va op wide value) answer k.walk k.walk (ops.Exchange seen) pa new found new u a middle y.tells x.exchanges (exchange_may others u a middle x.mid q pa seen new found y.tells.tells.clear x.exchanges)
          (exchange_due others middle x.mid q pa seen new found same x.exchanges) wants (hart_there others o p b c u a l can t)
          (aligned_seen others c (Need.Amo va op wide value) Kind.Store va wide (amo_at va op wide value) (amo c va op wide value) u.layout.pages a k.walk (made s ∷ middle) k.aligned
          (seen_quietly u.layout.pages a c Kind.Store va k.walk (s ∷ load_of others m pa seen ∷ []) k.late k.seen)) (λ w. (amo c va op wide value).calm w a)
          (λ w may. operated_as w.memory va pa seen value op wide (exchange_held others u a middle x.mid q pa seen new found w x.exchanges may ∙ same) ∙ sym (k.performed w))
          (awaits_stepped others (exec_pages (Need.Amo va op wide value) k.walk k.walk) u a k.late m x.mid ops.Load pa 0 seen x.loads k.awaits))

      lost_served : (seen found : ℕ) → HasExchanged pa seen (new_word op pa wide value seen) found m q → found ≢ seen → Ends u a l (MayGiveUp others o q b' (regime c) u a)
      lost_served seen found x other =
          let y = loaded_in others o m x.mid b' (regime c) pa seen u a k.late k.tells x.loads in
          let middle = made (load_of others m pa seen) ∷ k.late in
          let z = lost_in others o x.mid q b' (regime c) pa seen (new_word op pa wide value seen) found u a middle y.tells (λ e. other (sym e)) x.exchanges in
          let need = Need.Amo va op wide value in
          let new = new_word op pa wide value seen in
          let s = step_at others x.mid (ops.Exchange seen) pa new found in
          let late = made s ∷ middle in
          let pages = given_up_pages need (k.walk ∷ []) in
          ends_then u a l late (MayGiveUp others o q b' (regime c) u a) (grows_then u a l middle (grows_then u a l k.late k.grows y.grows) z.grows)
          (give_up others o q b' (regime c) c need (k.walk ∷ []) u a late z.tells z.clear wants
          (made_quietly others u.layout.pages a c (access_of need) (k.walk ∷ []) (s ∷ load_of others m pa seen ∷ []) k.late k.made)
          (awaits_stepped others pages u a middle x.mid q (ops.Exchange seen) pa new found x.exchanges (awaits_stepped others pages u a k.late m x.mid ops.Load pa 0 seen x.loads k.awaits_given)))

      exchanged_served : (got : Got) → HasExchangedFor op pa wide value m q got → Ends u a l (Served others o got q b' (regime c) u a)
      exchanged_served got (done {seen} {found} x same e) = subst (λ (g : Got). Ends u a l (Served others o g q b' (regime c) u a)) (sym e) (part_served seen found x same)
      exchanged_served got (lost {seen} {found} x other e) = subst (λ (g : Got). Ends u a l (Served others o g q b' (regime c) u a)) (sym e) (lost_served seen found x other)

  operated_served : (o : Own) (p m q : Shown) (b b' : Book) (c : Arch) (va pa value : ℕ) (op : AmoOp) (wide : Bool) (got : Got) (u : Setup) (a : ℕ) (l : Log) → CanAccess b p → Tells o p b (regime c) u a l → value < 2 ^ 64 → Wants o c (Need.Amo va op wide value)
      → Come others c (Need.Amo va op wide value) Kind.Store va wide (amo_at va op wide value) (amo c va op wide value) o m b' pa u a l → HasOperatedOn op pa wide value m q got → Ends u a l (Served others o got q b' (regime c) u a)
  operated_served o p m q b b' c va pa value op true got u a l can t few wants k (whole {by} {old} w is x e) = subst (λ (g : Got). Ends u a l (Served others o g q b' (regime c) u a)) (sym e) (whole_served o p m q b b' c va pa value op u a l can t few by old wants is k x)
  operated_served o p m q b b' c va pa value op false got u a l can t few wants k (whole {by} {old} w is x e) = cc
  operated_served o p m q b b' c va pa value op wide got u a l can t few wants k (exchanged w x) = exchanged_served o p m q b b' c va pa value op u a l can t few wide wants k got x

  amos_serve_but : (p q : Shown) (b b' : Book) (c : Arch) (va : ℕ) (op : AmoOp) (wide : Bool) (value : ℕ) (got : Got) → value < 2 ^ 64 → CanAccess b p → HasOperatedAt p q b b' (regime c) va op wide value got → ServesBut others p q b b' c (Need.Amo va op wide value) got
  amos_serve_but p q b b' c va op wide value got few can (on_word {mid} {pa} placed x) = λ o wants u a l rests.
      operated_served o p mid q b b' c va pa value op wide got u a l can rests.tells few wants
      (come others c (Need.Amo va op wide value) Kind.Store va wide (amo_at va op wide value) (amo c va op wide value) o p mid b b' pa u a l can.beside rests.tells rests.settled placed) x
  amos_serve_but p q b b' c va op wide value got few can (on_none placed) = λ o wants u a l rests.
      unplaced_served others c (Need.Amo va op wide value) Kind.Store va wide (amo_at va op wide value) (amo c va op wide value) o p q b b' got u a l can.beside (hart_there others o p b c u a l can rests.tells) wants rests.tells rests.idle rests.settled placed

pub amos_serve : AmosServe
amos_serve p q b b' c va op wide value got few can x = λ others. amos_serve_but others p q b b' c va op wide value got few can x
