-- What a call keeps of its actor, and what a fence that it asks for names.
use Rattle.std.proofs.Common.{◌≡◌, ◌≢◌, ℕ, Bool, false, refl, sym, subst}
use Rattle.rv64_priv.specs.State.{Arch}
use Rattle.step_laws.specs.declared.words.Layout.{Layout}
use Rattle.step_laws.specs.declared.steps.WordOp.{WordOp}
use Rattle.step_laws.specs.Map.{Word}
use Rattle.step_laws.specs.Output.{is_finished, is_finished_next}
use Rattle.step_laws.specs.Tables.{held_lock, held_lock_next}
use Rattle.step_laws.specs.Map.{Pend, Run, Done, Lock}
use Rattle.machine_model.specs.declared.reason.Reason.{Reason}
use Rattle.guest_ram.specs.Areas.{IsAside}
use Rattle.guest_ram.specs.Ports.{Shown, GoesBy, IsActing, StandsAs}
use Rattle.guest_ram.proofs.Moves.{acting_goes, fold_goes, stands_goes}
use Rattle.hart_calls.specs.declared.asking.Asked.{Asked}
use Rattle.hart_calls.specs.declared.outcomes.SbiEnd.{SbiEnd}
use Rattle.hart_calls.specs.Asked.{CanDo, IsGuestReason, IsSound}
use Rattle.hart_calls.specs.Called.{HasDone, HasLeft, HasNamed, HasTried, HasWritten, HasWrittenByte, IsOfHartCalls, all_put, fills, found_full, is_own, needs_section, no_byte, none_named, put, refused, some_named, started, stopped, stopped_last}
use Rattle.hart_calls.specs.Ends.{IfFence, succeeds}

calls_aside : (w : Word) → IsOfHartCalls w → IsAside w
calls_aside Pend x = absurd x
calls_aside (Run a) x = absurd x
calls_aside w x = tt

lock_aside : (w : Word) (op : WordOp) (arg answer h : ℕ) → IsOfHartCalls w → held_lock_next w op arg answer h ≡ h
lock_aside (Lock a) op arg answer h x = absurd x
lock_aside w op arg answer h x = refl

end_aside : (w : Word) (op : WordOp) (arg answer : ℕ) (b : Bool) → IsOfHartCalls w → is_finished_next w op arg answer b ≡ b
end_aside (Done a) op arg answer b x = absurd x
end_aside w op arg answer b x = refl

module _ (n : ℕ) (p q : Shown) (goes : GoesBy n IsOfHartCalls p q) where
  pub stands_as : StandsAs p q
  stands_as = stands_goes n IsOfHartCalls p q calls_aside goes

  pub held : held_lock q.own.steps ≡ held_lock p.own.steps
  held = fold_goes held_lock_next 0 n IsOfHartCalls p q lock_aside goes

  pub acting : IsActing p → IsActing q
  acting a = acting_goes n IsOfHartCalls p q goes (subst (λ b. is_finished q.own.steps ≡ b) a.going (fold_goes is_finished_next false n IsOfHartCalls p q end_aside goes)) a

pub sound_can : (l : Layout) (a : Arch) (asked : Asked) → IsSound l a asked → CanDo l asked
sound_can l a (Asked.Fences harts span) s = tt
sound_can l a asked s = s

pub sound_guest : (l : Layout) (a : Arch) (asked : Asked) → IsSound l a asked → (reason : Reason) → asked ≡ Asked.Ends reason → IsGuestReason reason
sound_guest l a asked s reason is = subst (IsSound l a) is s

with_fence : (end e : SbiEnd) (harts : ℕ) → e ≡ end → IfFence end harts → IfFence e harts
with_fence end e harts is f = subst (λ x. IfFence x harts) (sym is) f

tried_fence : (p q : Shown) (target at opaque harts : ℕ) (end : SbiEnd) → HasTried p q target at opaque end → IfFence end harts
tried_fence p q target at opaque harts end (started other x) = tt
tried_fence p q target at opaque harts end (refused found other ne x) = tt
tried_fence p q target at opaque harts end (is_own own same) = tt

left_fence : (p q : Shown) (harts : ℕ) (end : SbiEnd) → HasLeft p q end → IfFence end harts
left_fence p q harts end (stopped left ne x) = tt
left_fence p q harts end (stopped_last mid stands x y) = tt

written_fence : (p q : Shown) (from count harts : ℕ) (end : SbiEnd) (section : Bool) → HasWritten p q from count end section → IfFence end harts
written_fence p q from count harts end section (no_byte none same) = tt
written_fence p q from count harts end section (needs_section some same) = tt
written_fence p q from count harts end section (all_put finds some x) = tt
written_fence p q from count harts end section (fills finds mid stands x y) = tt

byte_fence : (p q : Shown) (byte harts : ℕ) (answer end : SbiEnd) → IfFence answer harts → HasWrittenByte p q byte answer end → IfFence end harts
byte_fence p q byte harts answer end f (put x) = f
byte_fence p q byte harts answer end f (found_full place mid stands x y) = tt

named_fence : (p q : Shown) (mask harts : ℕ) (end e : SbiEnd) → (mask ≢ 0 → IfFence end harts) → HasNamed p q mask end e → IfFence e harts
named_fence p q mask harts end e f (some_named some) = f some
named_fence p q mask harts end e f (none_named none) = tt

pub done_fence : (l : Layout) (a : Arch) (p q : Shown) (section : Bool) (asked : Asked) (end : SbiEnd) → IsSound l a asked → HasDone p q section asked end → IfFence end l.harts
done_fence l a p q section (Asked.Gives error value) end s x = with_fence _ end l.harts x.0 tt
done_fence l a p q section (Asked.GivesOne error) end s x = with_fence _ end l.harts x.0 tt
done_fence l a p q section (Asked.Sends mask) end s x = with_fence _ end l.harts x.0 tt
done_fence l a p q section (Asked.Fences harts span) end s x = named_fence p q harts l.harts (SbiEnd.Fence harts span) end (λ some. (some, s.1, s.2)) x.0
done_fence l a p q section (Asked.Starts target at opaque) end s x = tried_fence p q target at opaque l.harts end x
done_fence l a p q section (Asked.TellsState target) end s x = with_fence _ end l.harts x.1 tt
done_fence l a p q section Asked.Leaves end s x = left_fence p q l.harts end x
done_fence l a p q section (Asked.Ends reason) end s x = with_fence _ end l.harts x.0 tt
done_fence l a p q section (Asked.Prints from count) end s x = written_fence p q from count l.harts end section x
done_fence l a p q section (Asked.PrintsByte byte) end s x = byte_fence p q byte l.harts (succeeds 0) end tt x
done_fence l a p q section (Asked.PrintsOne byte) end s x = byte_fence p q byte l.harts (SbiEnd.Single 0) end tt x
