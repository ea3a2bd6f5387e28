-- A translation in its hart's log: quiet steps that show a walk.
use Rattle.std.proofs.Common.{◌≡◌, ℕ, List, [], ◌∷◌, ◌++◌, length, sym, ap, subst, ◌∙◌, arith}
use Rattle.std.proofs.lemmas.List.{append_cancel_right}
use Rattle.rv64_priv.specs.State.{Arch}
use Rattle.rv64_priv.specs.Csr.{regime}
use Rattle.rv64_priv.specs.declared.state.Kind.{Kind}
use Rattle.step_laws.specs.declared.words.Layout.{Layout}
use Rattle.step_laws.specs.declared.steps.Step.{Step}
use Rattle.step_laws.specs.Map.{name_of}
use Rattle.machine_model.specs.Own.{Own}
use Rattle.machine_model.specs.State.{Setup}
use Rattle.guest_ram.specs.Ports.{Shown}
use Rattle.walk_laws.specs.KeptWalks.{Item, made_all}
use Rattle.tlb_entry.specs.declared.books.Book.{Book}
use Rattle.kept_fills.specs.Beside.{IsBeside}
use Rattle.kept_fills.specs.Fills.{GoesWithFills}
use Rattle.tlb_fill.specs.Answered.{IsAllowed}
use Rattle.tlb_fill.specs.declared.translation.Translated.{Translated}
use Rattle.turn_pieces.specs.Log.{Log}
use Rattle.turn_pieces.specs.KeptWalks.{flushes_in}
use Rattle.turn_pieces.specs.Owed.{nothing, owed, unstored}
use Rattle.turn_pieces.specs.Writers.{AreCalm, IsInner, QuietBy, quietly}
use Rattle.turn_pieces.proofs.Writers.{calm_owes, quietly_grows, quietly_tells}
use Rattle.guest_access.specs.Reaching.{Translates}
use Rattle.access_pieces.specs.Serving.{Tells, view}
use Rattle.access_pieces.proofs.Calm.{Calmly, IsStepped, translated_calmly}
use Rattle.access_pieces.specs.Translating.{Led, spot}
use Rattle.access_pieces.proofs.Awaited.{answer_given, awaited_quietly, pages_of}
use Rattle.access_pieces.proofs.Spots.{flushes_quietly, leads}

calm_quiet : (pages : List ℕ) (p q : Shown) (k : Calmly pages p q) → QuietBy IsInner (length k.added) (view p) (view q)
calm_quiet pages p q k = record { added = k.added; few = omega arith; grown = ap view k.grown; calm = k.calm; inner = k.inner }

owes_nothing : (a : ℕ) (r : List Step) (l : Log) → IsStepped r → AreCalm a r → owed (quietly r l) ≡ nothing
owes_nothing a [] l k c = absurd k
owes_nothing a (s ∷ r) l k c = calm_owes a (owed (quietly r l)) (unstored (quietly r l)) (name_of s.word) s.op s.word s.arg s.answer c.0 c.1

pub led : (o : Own) (p m : Shown) (b b' : Book) (c : Arch) (kind : Kind) (va : ℕ) (t : Translated) (u : Setup) (a : ℕ) (l : Log) → IsBeside b p → Translates p m b b' (regime c) kind va t → Tells o p b (regime c) u a l
    → Led o p m b' c kind va t u a l
unfolding calm_quiet
led o p m b b' c kind va t u a l can call x =
    let y = call.allowed (flushes_in a l) x.fills x.goes in
    let pages = pages_of kind (spot t) in
    let k = translated_calmly pages p m b b' (regime c) va kind t can (answer_given p.machine.layout.pages (regime c) kind va t y.added (flushes_in a l) y.allowed) call.made in
    let same : y.added ≡ k.calmly.added = append_cancel_right y.added k.calmly.added p.own.steps (sym y.steps_are ∙ ap (λ (z : Shown). z.own.steps) k.calmly.grown) in
    let items : made_all y.added ++ flushes_in a l ≡ flushes_in a (quietly k.calmly.added l) = ap (λ r. made_all r ++ flushes_in a l) same ∙ sym (flushes_quietly a k.calmly.added l) in
    let calm : AreCalm a k.calmly.added = subst (λ n. AreCalm n k.calmly.added) (sym x.tells.stands.actor) k.calmly.calm in record {
      added = k.calmly.added;
      steps_are = ap (λ (z : Shown). z.own.steps) k.calmly.grown;
      grows = quietly_grows u a k.calmly.added l calm x.tells.clear x.tells.none_drawn;
      tells = record {
        tells = quietly_tells IsInner (length k.calmly.added) o (view p) (view m) u a l (calm_quiet pages p m k.calmly) x.tells;
        fills = y.more ++ x.fills;
        goes = subst (λ (z : List Item). GoesWithFills m b' (regime c) z (y.more ++ x.fills)) items y.goes;
      };
      clear = owes_nothing a k.calmly.added l k.some calm;
      marks = λ page out. awaited_quietly u a page pages k.calmly.added l k.calmly.marks out;
      leads_to = λ is. leads u.layout.pages a c kind va t k.calmly.added l is
          (subst (λ (r : List Step). IsAllowed u.layout.pages (regime c) kind va t r (flushes_in a l)) same
          (subst (λ (z : Layout). IsAllowed z.pages (regime c) kind va t y.added (flushes_in a l)) (sym x.tells.stands.layout) y.allowed));
    }
