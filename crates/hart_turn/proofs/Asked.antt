-- A fence that an instruction's execution asks for is the one that its hart's registers ask for.
use Rattle.std.proofs.Common.{◌≡◌, ℕ, Bool, sym, subst, ◌∙◌}
use Rattle.rv64_priv.specs.State.{Arch}
use Rattle.rv64_exec.specs.declared.needs.Need.{Need}
use Rattle.machine_model.specs.declared.reason.Reason.{Reason}
use Rattle.guest_ram.specs.Ports.{Shown, layout_of}
use Rattle.tlb_entry.specs.declared.books.Book.{Book}
use Rattle.hart_calls.specs.Asked.{IsAsked}
use Rattle.hart_calls.specs.Called.{HasDone, HasNamed, HasWritten, all_put, fills, found_full, is_own, needs_section, no_byte, none_named, put, refused, some_named, started, stopped, stopped_last}
use Rattle.hart_calls.specs.declared.asking.Asked.{Asked}
use Rattle.hart_calls.specs.declared.outcomes.SbiEnd.{SbiEnd}
use Rattle.hart_calls.specs.declared.spans.Span.{Span}
use Rattle.need_serving.specs.declared.ends.NeedEnd.TheVariants as ends
use Rattle.need_serving.specs.Ends.{end_of_call}
use Rattle.need_serving.specs.Serving.{HasServed, IsServed}
use Rattle.need_pieces.proofs.Served.{fences_wait}
use Rattle.std.specs.Prelude.{Option}
use Rattle.rv64_decode.specs.declared.instruction.Instr.{Instr}
use Rattle.rv64_exec.specs.Plan.{need_of}
use Rattle.hart_turn.specs.declared.hart.Hart.{Hart}
use Rattle.hart_turn.specs.Harts.{is_made}
use Rattle.hart_turn.specs.Executing.{HasDone as HasDoneFor, HasExecuted, served}

-- a call that comes to a fence
fence_called : (harts : ℕ) (span : Span) (call : SbiEnd) → ends.Fence harts span ≡ end_of_call call → call ≡ SbiEnd.Fence harts span
fence_called harts span (SbiEnd.Pair error value) e = cc
fence_called harts span (SbiEnd.Single value) e = cc
fence_called harts span (SbiEnd.Fence h s) e = cc
fence_called harts span SbiEnd.NeedsSection e = cc
fence_called harts span SbiEnd.HartStopped e = cc
fence_called harts span (SbiEnd.Over Reason.Pass) e = cc
fence_called harts span (SbiEnd.Over (Reason.Fail code)) e = cc
fence_called harts span (SbiEnd.Over (Reason.Limit hart)) e = cc
fence_called harts span (SbiEnd.Over Reason.OutFull) e = cc
fence_called harts span (SbiEnd.Over Reason.AllStopped) e = cc
fence_called harts span (SbiEnd.Over Reason.Stopped) e = cc

module _ (p q : Shown) (harts : ℕ) (span : Span) where
  named : (mask : ℕ) (over : Span) (call : SbiEnd) → HasNamed p q mask (SbiEnd.Fence mask over) call → call ≡ SbiEnd.Fence harts span → Asked.Fences mask over ≡ Asked.Fences harts span
  named mask over call (some_named some) e = cc
  named mask over call (none_named none) e = cc

  written : (from count : ℕ) (call : SbiEnd) (s : Bool) → HasWritten p q from count call s → call ≡ SbiEnd.Fence harts span → Asked.Prints from count ≡ Asked.Fences harts span
  written from count call s (no_byte none same) e = cc
  written from count call s (needs_section some same) e = cc
  written from count call s (all_put finds some x) e = cc
  written from count call s (fills finds mid stands x y) e = cc

  is_fence : (section : Bool) (asked : Asked) (call : SbiEnd) → HasDone p q section asked call → call ≡ SbiEnd.Fence harts span → asked ≡ Asked.Fences harts span
  is_fence section (Asked.Gives error value) call done e = absurd (let f = sym done.0 ∙ e in cc)
  is_fence section (Asked.GivesOne error) call done e = absurd (let f = sym done.0 ∙ e in cc)
  is_fence section (Asked.Sends mask) call done e = absurd (let f = sym done.0 ∙ e in cc)
  is_fence section (Asked.Fences mask over) call done e = named mask over call done.0 e
  is_fence section (Asked.Starts target at opaque) call (started other x) e = cc
  is_fence section (Asked.Starts target at opaque) call (refused found other ne x) e = cc
  is_fence section (Asked.Starts target at opaque) call (is_own own same) e = cc
  is_fence section (Asked.TellsState target) call done e = absurd (let f = sym done.1 ∙ e in cc)
  is_fence section Asked.Leaves call (stopped left ne x) e = cc
  is_fence section Asked.Leaves call (stopped_last mid stands x y) e = cc
  is_fence section (Asked.Ends reason) call done e = absurd (let f = sym done.0 ∙ e in cc)
  is_fence section (Asked.Prints from count) call done e = written from count call section done e
  is_fence section (Asked.PrintsByte byte) call (put x) e = cc
  is_fence section (Asked.PrintsByte byte) call (found_full place mid stands x y) e = cc
  is_fence section (Asked.PrintsOne byte) call (put x) e = cc
  is_fence section (Asked.PrintsOne byte) call (found_full place mid stands x y) e = cc

-- what was executed is an ECALL, and the port is as it was
pub fence_asked : (p q : Shown) (b b' : Book) (c : Arch) (section : Bool) (need : Need) (harts : ℕ) (span : Span) → IsServed p q b b' c section need (ends.Fence harts span) → (need ≡ Need.Sbi) × IsAsked (layout_of q) c (Asked.Fences harts span)
fence_asked p q b b' c section need harts span x =
    let still = fences_wait p q b b' c section need harts span x.served in
    let y : HasServed p q b b' c section Need.Sbi (ends.Fence harts span) = subst (λ n. HasServed p q b b' c section n (ends.Fence harts span)) x.fits x.served in
    let called = y.1 in
    let is = is_fence p q harts span section called.0 y.0 called.2 (fence_called harts span y.0 y.3) in
    (x.fits, subst (λ (z : Shown). IsAsked (layout_of z) c (Asked.Fences harts span)) (sym still.0) (subst (λ asked. IsAsked (layout_of p) c asked) is called.1))

word_done : (word harts : ℕ) (span : Span) (h k : Hart) (p q : Shown) {o : Option Instr} → HasDoneFor word h k p q o (ends.Fence harts span) → IsAsked (layout_of q) k.arch (Asked.Fences harts span)
word_done word harts span h k p q (served i is by) = subst (λ (z : Hart). IsAsked (layout_of q) z.arch (Asked.Fences harts span)) (sym is) (fence_asked p q h.book k.book h.arch (is_made h.claim) (need_of h.arch i) harts span by).1

-- and so it is where a word's execution asks for it
pub word_asked : (word harts : ℕ) (span : Span) (h k : Hart) (p q : Shown) → HasExecuted word (ends.Fence harts span) h k p q → IsAsked (layout_of q) k.arch (Asked.Fences harts span)
word_asked word harts span h k p q x = word_done word harts span h k p q x.done
