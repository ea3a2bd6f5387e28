-- An instruction that was given up, behind the steps that its access made.
use Rattle.std.proofs.Common.{◌≡◌, Bool, ℕ, List, [], ◌∷◌, Option, Some, None, refl, sym, ap, subst, ◌∙◌}
use Rattle.rv64_priv.specs.State.{Arch}
use Rattle.rv64_priv.specs.declared.state.Regime.{Regime}
use Rattle.rv64_priv.specs.Walk.{Walked}
use Rattle.rv64_exec.specs.declared.needs.Need.{Need}
use Rattle.step_laws.specs.declared.steps.Step.{Step}
use Rattle.machine_model.specs.Access.{second_va}
use Rattle.machine_model.specs.Event.{GiveUp, did_of}
use Rattle.machine_model.specs.Own.{Own}
use Rattle.machine_model.specs.State.{Setup}
use Rattle.machine_model.specs.Walks.{Wanted, access_of}
use Rattle.guest_ram.specs.Ports.{Shown}
use Rattle.tlb_entry.specs.declared.books.Book.{Book}
use Rattle.turn_pieces.specs.Doing.{IsQuiet}
use Rattle.turn_pieces.specs.Log.{Log}
use Rattle.turn_pieces.specs.Marks.{own_pages}
use Rattle.turn_pieces.specs.Owed.{nothing, owed, pays, unstored, unstored_did, books, PaysFor}
use Rattle.turn_pieces.specs.Right.{IsFit, SeenMade}
use Rattle.turn_pieces.specs.Grows.{stays, Ends}
use Rattle.turn_pieces.specs.Writers.{quietly}
use Rattle.turn_pieces.proofs.Writers.{places_did, seen_quietly, tells_did}
use Rattle.access_pieces.specs.Laws.{GiveUpsStand}
use Rattle.access_pieces.specs.Serving.{MayGiveUp, Tells, Wants, view}
use Rattle.access_pieces.proofs.Awaited.{AwaitsBut, given_up_pages, is_given, paid}

-- whatever pages may wait for a store before
module _ (others : ℕ → Bool) where
  -- walks that were made stand in the log over further steps
  pub made_quietly : (pages a : ℕ) (c : Arch) (w : Option Wanted) (walks : List Walked) (r : List Step) (l : Log) → SeenMade pages a c w walks l → SeenMade pages a c w walks (quietly r l)
  made_quietly pages a c w [] r l k = tt
  made_quietly pages a c None (x ∷ walks) r l k = absurd k
  made_quietly pages a c (Some w) (x ∷ []) r l k = seen_quietly pages a c w.kind w.va x r l k
  made_quietly pages a c (Some w) (x ∷ y ∷ []) r l k = (seen_quietly pages a c w.kind w.va x r l k.0, k.1, k.2, seen_quietly pages a c w.kind (second_va w.va) y r l k.3)
  made_quietly pages a c (Some w) (x ∷ y ∷ z ∷ walks) r l k = absurd k

  -- behind the last step of an access that came to no answer
  pub give_up : (o : Own) (q : Shown) (b : Book) (r : Regime) (c : Arch) (need : Need) (walks : List Walked) (u : Setup) (a : ℕ) (l : Log) → Tells o q b r u a l → owed l ≡ nothing → Wants o c need
      → SeenMade u.layout.pages a c (access_of need) walks l → AwaitsBut others (given_up_pages need walks) u a l → Ends u a l (MayGiveUp others o q b r u a)
  give_up o q b r c need walks u a l t none wants seen awaits = record {
    late = l;
    grows = stays;
    holds = record {
      tells = t;
      idle = none;
      walks = walks;
      shown = subst (λ (n : Need). SeenMade u.layout.pages a o.arch (access_of n) walks l) (sym wants.need_is) (subst (λ (y : Arch). SeenMade u.layout.pages a y (access_of need) walks l) (sym wants.arch_is) seen);
      settled = λ page free out. awaits page free (ap (λ n. is_given page (given_up_pages n walks)) (sym wants.need_is) ∙ out);
    };
  }

quiet_give_up : (h : ℕ) (walks : List Walked) → IsQuiet (GiveUp h walks)
quiet_give_up h walks = record { does = record { entry_is = refl; bytes_are = refl; reason_is = refl; starts_is = refl; stops_is = refl }; begins_not = refl }

pub give_ups_stand : GiveUpsStand
give_ups_stand others o q b r u a l holds hart x =
    let e = GiveUp a x.walks in
    let t = x.tells.tells in (
      record {
        own = refl;
        fit = subst (IsFit u a l e) (sym t.stands.part_is) (hart, record { holds = holds; shown = x.shown });
        pays = subst (λ d. PaysFor a (books l) d e) (sym x.idle) (quiet_give_up a x.walks);
      },
      record {
        tells = record {
          tells = tells_did o (view q) u a l e t.stands refl (places_did l e t.none_drawn) (ap (λ d. unstored_did d (did_of e).bytes (unstored l)) x.idle ∙ t.none_left);
          fills = x.tells.fills;
          goes = x.tells.goes;
        };
        idle = ap pays x.idle;
        settled = paid others u a l e o (own_pages o e) t.stands.part_is refl x.settled;
      },
    )
