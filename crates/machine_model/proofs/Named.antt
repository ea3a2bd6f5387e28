-- The harts whose flushes an instruction asks for are there.
use Rattle.std.proofs.Common.{◌≡◌, refl, ℕ, ◌<◌, ◌%◌, ◌^◌, List, [], ◌∷◌, Some, None, Option, true, false, Bool, ◌&&◌}
use Rattle.std.specs.Prelude.{◌==◌, nat_lt, nat_le, not, ◌||◌, if◌then◌else◌}
use Rattle.std.specs.List.{AllByRecursion, list_all}
use Rattle.std.proofs.lemmas.Bool.{ltb-true, and_parts}
use Rattle.rv64_priv.specs.State.{Arch}
use Rattle.rv64_priv.specs.Flush.{Flush}
use Rattle.rv64_priv.specs.Walk.{is_ram}
use Rattle.rv64_exec.specs.declared.needs.Need.{Need}
use Rattle.step_laws.specs.declared.words.Layout.{Layout}
use Rattle.machine_model.specs.Memory.{Memory}
use Rattle.machine_model.specs.State.{is_halted}
use Rattle.machine_model.specs.Sbi.{Call, Gives, GivesOne, Prints, PrintsOne, Sends, Fences, Begins, Leaves, EndsAll, Modes, arg, named, are_there, base_call, ipi_call, rfence_call, hsm_call, start_call, reset_call, console_call, no_call, fence_over, fence_range, sbi_of, fails, succeeds, bits_of, not_supported, invalid_parameter, is_range_in_ram, with_named}
use Rattle.machine_model.specs.Perform.{Surroundings}
use Rattle.machine_model.specs.Lawful.{Flushing, flushing, flushing_of_call}

-- a call's fences name harts below this number
abbrev Names : ℕ → Call → Type 0
Names n (Fences harts what) = are_there n harts ≡ true
Names n _ = Unit {0}

record IsBelow (n : ℕ) (c : Call) : Type 0 where
  below : Names n c

either : (n : ℕ) (b : Bool) (x y : Call) → IsBelow n x → IsBelow n y → IsBelow n (if b then x else y)
either n true x y p q = p
either n false x y p q = q

over_below : (n : ℕ) (hs : List ℕ) (range : Option Flush) → are_there n hs ≡ true → IsBelow n (fence_over hs range)
over_below n hs None k = record { below = tt }
over_below n hs (Some what) k = record { below = k }

named_below : (n : ℕ) (a : Arch) (then_do : List ℕ → Call) → ((hs : List ℕ) → are_there n hs ≡ true → IsBelow n (then_do hs)) → IsBelow n (with_named n a then_do)
named_below n a then_do k = go (are_there n (named n (arg a 0) (arg a 1))) refl
  where
    go : (b : Bool) → are_there n (named n (arg a 0) (arg a 1)) ≡ b → IsBelow n (if b then then_do (named n (arg a 0) (arg a 1)) else fails invalid_parameter)
    go true e = k (named n (arg a 0) (arg a 1)) e
    go false e = record { below = tt }

base_below : (n : ℕ) (a : Arch) (fid : ℕ) → IsBelow n (base_call a fid)
base_below n a fid = either n (fid == 0) _ _ (record { below = tt }) (either n (fid == 1) _ _ (record { below = tt }) (either n (fid == 2) _ _ (record { below = tt }) (either n (fid == 3) _ _ (record { below = tt }) (either n (nat_le fid 6) _ _ (record { below = tt }) (record { below = tt })))))

ipi_below : (n : ℕ) (a : Arch) (fid : ℕ) → IsBelow n (ipi_call n a fid)
ipi_below n a fid =
    let sends : List ℕ → Call = λ hs. Sends (bits_of hs) in
    either n (fid == 0) (with_named n a sends) (fails not_supported) (named_below n a sends (λ hs k. record { below = tt })) (record { below = tt })

rfence_below : (n : ℕ) (a : Arch) (fid : ℕ) → IsBelow n (rfence_call n a fid)
rfence_below n a fid =
    let done : List ℕ → Call = λ hs. succeeds 0 in
    let over : List ℕ → Call = λ hs. fence_over hs (fence_range (arg a 2) (arg a 3)) in
    either n (fid == 0) (with_named n a done) _ (named_below n a done (λ hs k. record { below = tt }))
    (either n (nat_le fid 2) (with_named n a over) (fails not_supported) (named_below n a over (λ hs k. over_below n hs (fence_range (arg a 2) (arg a 3)) k)) (record { below = tt }))

start_below : (n : ℕ) (l : Layout) (modes : Modes) (a : Arch) → IsBelow n (start_call l modes a)
start_below n l modes a =
    either n (not (nat_lt (arg a 0) l.harts)) _ _ (record { below = tt })
    (either n (not (arg a 1 % 4 == 0) || not (is_ram l.pages (arg a 1))) _ _ (record { below = tt })
    (either n (not (is_halted (modes (arg a 0)))) _ _ (record { below = tt }) (record { below = tt })))

hsm_below : (n : ℕ) (l : Layout) (modes : Modes) (a : Arch) (fid : ℕ) → IsBelow n (hsm_call l modes a fid)
hsm_below n l modes a fid =
    either n (fid == 0) _ _ (start_below n l modes a)
    (either n (fid == 1) _ _ (record { below = tt }) (either n (fid == 2) _ _ (either n (nat_lt (arg a 0) l.harts) _ _ (record { below = tt }) (record { below = tt })) (record { below = tt })))

reset_below : (n type reason : ℕ) → IsBelow n (reset_call type reason)
reset_below n type reason =
    either n (type == 0) _ _ (either n (reason == 0) _ _ (record { below = tt }) (either n (reason == 1) _ _ (record { below = tt }) (record { below = tt }))) (either n (nat_le type 2) _ _ (record { below = tt }) (record { below = tt }))

console_below : (n pages : ℕ) (m : Memory) (a : Arch) (fid : ℕ) → IsBelow n (console_call pages m a fid)
console_below n pages m a fid =
    either n (fid == 0) _ _ (either n ((arg a 2 == 0) && is_range_in_ram pages (arg a 1) (arg a 0)) _ _ (record { below = tt }) (record { below = tt })) (either n (fid == 2) _ _ (record { below = tt }) (record { below = tt }))

no_below : (n eid : ℕ) → IsBelow n (no_call eid)
no_below n eid = either n (nat_lt eid 0x10) _ _ (record { below = tt }) (record { below = tt })

call_below : (l : Layout) (modes : Modes) (m : Memory) (a : Arch) → IsBelow l.harts (sbi_of l modes m a)
unfolding sbi_of
call_below l modes m a =
    let n = l.harts in
    let eid = arg a 7 in
    let fid = arg a 6 in
    either n (eid == 0x01) _ _ (record { below = tt })
    (either n (eid == 0x08) _ _ (record { below = tt })
    (either n (eid == 0x10) _ _ (base_below n a fid)
    (either n (eid == 0x735049) _ _ (ipi_below n a fid)
    (either n (eid == 0x52464E43) _ _ (rfence_below n a fid)
    (either n (eid == 0x48534D) _ _ (hsm_below n l modes a fid)
    (either n ((eid == 0x53525354) && (fid == 0)) _ _ (reset_below n (arg a 0 % 2 ^ 32) (arg a 1 % 2 ^ 32))
    (either n (eid == 0x4442434E) _ _ (console_below n l.pages m a fid) (no_below n eid))))))))

abbrev AllBelow : ℕ → List ℕ → Type 0
AllBelow n hs = AllByRecursion (λ t. t < n) hs

all_below : (n k : ℕ) → ((t : ℕ) → t < n → t < k) → (hs : List ℕ) → are_there n hs ≡ true → AllBelow k hs
all_below n k more [] e = tt
all_below n k more (h ∷ hs) e =
    let both = and_parts (nat_lt h n) (list_all (λ t. nat_lt t n) hs) e in
    (more h (ltb-true h n both.0), all_below n k more hs both.1)

abbrev pub AreBelow : ℕ → Option Flushing → Type 0
AreBelow n None = Unit {0}
AreBelow n (Some f) = AllBelow n f.harts

call_flushing : (n k : ℕ) → ((t : ℕ) → t < n → t < k) → (c : Call) → Names n c → AreBelow k (flushing_of_call c)
call_flushing n k more (Fences harts what) e = all_below n k more harts e
call_flushing n k more (Gives error value) e = tt
call_flushing n k more (GivesOne error) e = tt
call_flushing n k more (Prints bytes value) e = tt
call_flushing n k more (PrintsOne byte) e = tt
call_flushing n k more (Sends mask) e = tt
call_flushing n k more (Begins target at opaque) e = tt
call_flushing n k more Leaves e = tt
call_flushing n k more (EndsAll reason) e = tt

pub flushing_there : (w : Surroundings) (h : ℕ) (a : Arch) (n : Need) (k : ℕ) → h < k → ((t : ℕ) → t < w.layout.harts → t < k) → AreBelow k (flushing w h a n)
unfolding flushing
flushing_there w h a (Need.Flush what) k lt more = (lt, tt)
flushing_there w h a Need.Sbi k lt more = call_flushing w.layout.harts k more (sbi_of w.layout w.modes w.memory a) (call_below w.layout w.modes w.memory a).below
flushing_there w h a Need.Nothing k lt more = tt
flushing_there w h a (Need.Load va width sign) k lt more = tt
flushing_there w h a (Need.Store va width value) k lt more = tt
flushing_there w h a (Need.Amo va op wide value) k lt more = tt
flushing_there w h a (Need.Lr va wide) k lt more = tt
flushing_there w h a (Need.Sc va wide value) k lt more = tt
flushing_there w h a (Need.Ipi op) k lt more = tt
flushing_there w h a (Need.Trap cause tval) k lt more = tt
