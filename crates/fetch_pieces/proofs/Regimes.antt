-- The mode says nothing of the entries of a table.
use Rattle.std.proofs.Common.{◌≡◌, ◌≢◌, ℕ, Bool, List, sym, subst}
use Rattle.rv64_decode.specs.declared.instruction.Instr.TheVariants.{Wfi}
use Rattle.rv64_priv.specs.Reads.{answering}
use Rattle.rv64_priv.specs.State.{Arch}
use Rattle.rv64_priv.specs.Csr.{regime}
use Rattle.rv64_priv.specs.Trap.{trapped}
use Rattle.rv64_priv.specs.Walk.{Leaf, walk_of}
use Rattle.rv64_priv.specs.declared.state.Regime.{Regime}
use Rattle.rv64_exec.specs.Plan.{need_of}
use Rattle.rv64_exec.specs.Regimes.{KeepsRegime}
use Rattle.rv64_exec.specs.declared.needs.Answer.{Answer}
use Rattle.rv64_exec.specs.declared.needs.FlushOf.{FlushOf}
use Rattle.rv64_exec.specs.declared.needs.Need.{Need}
use Rattle.rv64_exec.proofs.Regimes.{regime_stays}
use Rattle.step_laws.specs.declared.steps.Step.{Step}
use Rattle.walk_laws.specs.KeptWalks.{HasStood}
use Rattle.walk_laws.specs.WalkLoads.{AreLoaded, reads_of}
use Rattle.kept_fills.specs.Fills.{Fill, IsWalkOf, in_mode}
use Rattle.fetch_pieces.specs.Regimes.{FillsAgree, IsAlike, RestsAgree, TellsAgree, TrapsRest}

same_mode : (r later : Regime) → IsAlike r later → (user : Bool) → in_mode r user ≡ in_mode later user
same_mode r later k user = λ i. record { satp = sym k.satp i; user = user; sum = sym k.sum i; mxr = sym k.mxr i }

walk_agrees : (pages : ℕ) (r later : Regime) (f : Fill) (steps : List Step) → IsAlike r later → IsWalkOf pages r f steps → IsWalkOf pages later f steps
walk_agrees pages r later f steps k x = record {
  kind = x.kind;
  ends = subst (λ (m : Regime). walk_of pages m x.kind (answering f.finds) f.va ≡ Leaf f.pte f.address f.level) (same_mode r later k f.user) x.ends;
  loaded = subst (λ (m : Regime). AreLoaded (reads_of pages m f.va f.finds) steps) (same_mode r later k f.user) x.loaded;
}

pub fills_agree : FillsAgree
fills_agree p b r later items fills k g = record {
  steps_are = g.steps_are;
  large = g.large;
  walked = λ f among. walk_agrees p.machine.layout.pages r later f p.own.steps k (g.walked f among);
  backed = λ slot kind few valid.
      let x = g.backed slot kind few valid in
      let f = x.fill in record {
        fill = f;
        among = x.among;
        slot_is = x.slot_is;
        is_of = record {
          key = x.is_of.key;
          page_is = x.is_of.page_is;
          ends = subst (λ (m : Regime). walk_of p.machine.layout.pages m kind (answering f.finds) f.va ≡ Leaf f.pte f.address f.level) (same_mode r later k f.user) x.is_of.ends;
        };
        stood = subst (λ (m : Regime). HasStood f.va f.level (reads_of p.machine.layout.pages m f.va f.finds) items) (same_mode r later k f.user) x.stood;
      };
  victims = g.victims;
}

pub tells_agree : TellsAgree
tells_agree o p b r later u a l k x = record { tells = x.tells; fills = x.fills; goes = fills_agree p b r later _ x.fills k x.goes }

pub rests_agree : RestsAgree
rests_agree others o p b r later u a l k x = record { tells = tells_agree o p b r later u a l k x.tells; idle = x.idle; settled = x.settled }

-- an instruction that faults leaves the three, whichever it is
no_flush : (c : Arch) → need_of c Wfi ≢ Need.Flush FlushOf.All
unfolding need_of
no_flush c e = cc

pub trap_alike : (c : Arch) (cause tval : ℕ) → IsAlike (regime c) (regime (trapped c cause tval))
trap_alike c cause tval = let k : KeepsRegime c (trapped c cause tval) = regime_stays c Wfi (Answer.Fault cause tval) (no_flush c) in record { satp = k.satp; sum = k.sum; mxr = k.mxr }

pub traps_rest : TrapsRest
traps_rest others o p b c cause tval u a l x = rests_agree others o p b (regime c) (regime (trapped c cause tval)) u a l (trap_alike c cause tval) x
