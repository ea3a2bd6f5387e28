-- Behind the flush that another hart asked for, the old walk is refuted: no load of its first entry stands since.
use Rattle.std.proofs.Common.{◌≡◌, ◌+◌, ◌*◌, ◌^◌, ℕ, zero, suc, Bool, true, false, true≢false, List, [], ◌∷◌, refl, sym, ap, subst, ◌∙◌, inl, inr, pos, eq-eqb}
use Rattle.std.specs.Prelude.{◌==◌, ◌&&◌, ◌||◌, not, if◌then◌else◌}
use Rattle.std.proofs.lemmas.Bool.{and_parts}
use Rattle.rv64_decode.specs.declared.instruction.Instr.TheVariants.{Addi}
use Rattle.rv64_decode.specs.Encoding.{encoding_of}
use Rattle.rv64_priv.specs.Csr.{regime}
use Rattle.rv64_priv.specs.Pte.{is_leaf, is_malformed, ppn}
use Rattle.rv64_priv.specs.Walk.{Walked, walk_of, is_ram, pte_address}
use Rattle.rv64_exec.specs.Plan.{need_of}
use Rattle.rv64_exec.specs.Finish.{done}
use Rattle.step_laws.specs.declared.steps.WordOp.TheVariants.{Load}
use Rattle.step_laws.specs.Words.{first_ram_word, ram_word}
use Rattle.step_laws.specs.Map.{name_of}
use Rattle.machine_model.specs.Event.{Event, Fetch}
use Rattle.machine_model.specs.Own.{own_executed}
use Rattle.machine_model.specs.Run.{renews}
use Rattle.machine_model.specs.Perform.{perform}
use Rattle.machine_model.specs.Sbi.{sbi_of}
use Rattle.machine_model.specs.Lawful.{flushing}
use Rattle.walk_laws.specs.WalkLoads.{Found, found, reads_from, reads_of}
use Rattle.turn_pieces.specs.Log.{made, did, Log, HasStood}
use Rattle.turn_pieces.specs.Kept.{own_part}
use Rattle.turn_pieces.specs.Right.{IsRight}
use Rattle.turn_pieces.proofs.Rows.{step, code}
use Rattle.turn_pieces.proofs.FenceServed.{fencing, anew_inside}

-- the first read of a walk, which is the last of the list, is of this word
abbrev FirstIsAt : ℕ → List Found → Type 0
FirstIsAt w [] = ⊥
FirstIsAt w (x ∷ []) = x.word ≡ w
FirstIsAt w (x ∷ y ∷ xs) = FirstIsAt w (y ∷ xs)

first_over : (w : ℕ) (x : Found) (xs : List Found) → FirstIsAt w xs → FirstIsAt w (x ∷ xs)
first_over w x [] k = absurd k
first_over w x (y ∷ xs) k = k

reads_begin : (w pages va : ℕ) (finds : ℕ → ℕ) (levels table : ℕ) (before : List Found) → FirstIsAt w before → FirstIsAt w (reads_from pages va finds levels table before)
reads_begin w pages va finds zero table before k = k
reads_begin w pages va finds (suc level) table before k =
    let read = found (ram_word (pte_address table va level)) (finds level) in
    let over = first_over w read before k in
    go (is_ram pages (pte_address table va level)) (is_malformed (finds level) || is_leaf (finds level)) over (reads_begin w pages va finds level (ppn (finds level) * 4096) (read ∷ before) over)
  where
    go : (b c : Bool) → FirstIsAt w (found (ram_word (pte_address table va level)) (finds level) ∷ before)
        → FirstIsAt w (reads_from pages va finds level (ppn (finds level) * 4096) (found (ram_word (pte_address table va level)) (finds level) ∷ before))
        → FirstIsAt w (if b then (if c then found (ram_word (pte_address table va level)) (finds level) ∷ before
        else reads_from pages va finds level (ppn (finds level) * 4096) (found (ram_word (pte_address table va level)) (finds level) ∷ before)) else before)
    go false c over more = k
    go true true over more = over
    go true false over more = more

-- no step is on the word since the last event that passes the test
abbrev is_unread : (Event → Bool) → ℕ → Log → Bool
is_unread stop w [] = true
is_unread stop w (made s ∷ l) = not (s.word == w) && is_unread stop w l
is_unread stop w (did e ∷ l) = if stop e then true else is_unread stop w l

none_stood : (stop : Event → Bool) (w : ℕ) (xs : List Found) (l : Log) → FirstIsAt w xs → is_unread stop w l ≡ true → HasStood stop xs l → ⊥
none_stood stop w [] l first unread k = first
none_stood stop w (x ∷ xs) [] first unread k = k
none_stood stop w (x ∷ []) (made s ∷ l) first unread (inl k) = true≢false (sym (and_parts (not (s.word == w)) (is_unread stop w l) unread).0 ∙ ap not (eq-eqb s.word w (k.0.0 ∙ first)))
none_stood stop w (x ∷ y ∷ xs) (made s ∷ l) first unread (inl k) = none_stood stop w (y ∷ xs) l first (and_parts (not (s.word == w)) (is_unread stop w l) unread).1 k.1
none_stood stop w (x ∷ xs) (made s ∷ l) first unread (inr k) = none_stood stop w (x ∷ xs) l first (and_parts (not (s.word == w)) (is_unread stop w l) unread).1 k
none_stood stop w (x ∷ xs) (did e ∷ l) first unread k = none_stood stop w (x ∷ xs) l first (subst (λ (b : Bool). (if b then true else is_unread stop w l) ≡ true) k.0 unread) k.1

-- the next instruction's word, and no load of the entry
abbrev refetched : Log
refetched = made (step 0 (first_ram_word + 22) Load 0 (encoding_of (Addi 7 0 (pos 2)) + 2 ^ 32 * encoding_of (Addi 7 0 (pos 3)))) ∷ made (step 0 5 Load 0 0) ∷ anew_inside

abbrev old_walk : Walked
old_walk = Walked.Leaf 0x200000cf 0x80000000 2

first_read : (finds : ℕ → ℕ) → FirstIsAt (first_ram_word + 2) (reads_of 1024 (regime (own_part fencing 0 refetched).arch) 0x800000b4 finds)
unfolding name_of need_of done walk_of sbi_of perform own_executed flushing reads_of
first_read finds = go (is_malformed (finds 2) || is_leaf (finds 2))
  where
    go : (c : Bool) → FirstIsAt (first_ram_word + 2) (if c then found (first_ram_word + 2) (finds 2) ∷ []
        else reads_from 1024 0x800000b4 finds 2 (ppn (finds 2) * 4096) (found (first_ram_word + 2) (finds 2) ∷ []))
    go true = refl
    go false = reads_begin (first_ram_word + 2) 1024 0x800000b4 finds 2 (ppn (finds 2) * 4096) (found (first_ram_word + 2) (finds 2) ∷ []) refl

old_walk_refuted : IsRight fencing 0 refetched (Fetch 0 old_walk (code (Addi 7 0 (pos 3)))) → ⊥
unfolding name_of need_of done walk_of sbi_of perform own_executed flushing reads_of
old_walk_refuted k = none_stood (renews 0 0x800000b4 old_walk) (first_ram_word + 2) (reads_of 1024 (regime (own_part fencing 0 refetched).arch) 0x800000b4 k.fit.1.shown.finds) refetched
    (first_read k.fit.1.shown.finds) refl k.fit.1.shown.stood
