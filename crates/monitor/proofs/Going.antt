-- What goes with the monitor behind its steps.
use Rattle.std.proofs.Common.{◌≡◌, ◌≤◌, ◌+◌, ◌*◌, ◌^◌, ℕ, suc, zero, Bool, true, false, List, [], ◌∷◌, ◌++◌, refl, sym, ap, subst, ◌∙◌, inr, drop, length, arith, add-one, length-append, length-drop}
use Rattle.std.specs.Prelude.{◌&&◌, nat_le, IfErr, OnOk, Result, Ok, Err}
use Rattle.std.specs.List.{AllByRecursion, list_all}
use Rattle.std.proofs.lemmas.Bool.{and_parts, leb-true}
use Rattle.std.proofs.Math.ListN.{drop_of_length-le}
use Rattle.step_laws.specs.Layout.{IsInLimits}
use Rattle.step_laws.specs.Map.{Word}
use Rattle.step_laws.specs.Output.{is_finished}
use Rattle.step_laws.specs.Sections.{is_claimant, outside, phase, IsOut}
use Rattle.guest_ram.specs.Ports.{GoesBy, IsActing, Machine, Shown, layout_of}
use Rattle.guest_ram.proofs.Moves.{actor_goes, machine_goes}
use Rattle.monitor_script.specs.Scripts.{is_possible}
use Rattle.monitor_script.specs.declared.scripts.Command.{Command}
use Rattle.monitor_script.specs.declared.scripts.Command.TheVariants.{Await, Dump, Stop}
use Rattle.monitor.specs.Monitors.{IsThere, Monitor, bytes_in, dumps_in, is_dumping, past, with_claim}
use Rattle.monitor.specs.Steps.{GoesWith, with_bytes}
use Rattle.monitor.specs.declared.monitor.Outcome.{Outcome}
use Rattle.monitor.specs.declared.monitor.Outcome.TheVariants.{Bytes}

pub is_acting : (m : Monitor) (p : Shown) → GoesWith m p → m.rests ≡ false → IsActing p
is_acting m p can works = record { limits = can.limits; actor = inr can.number; going = can.finished ∙ works }

pub is_out : (m : Monitor) (p : Shown) → GoesWith m p → m.claimed ≡ false → IsOut p.own.steps
is_out m p can none = (can.out, can.claim ∙ none)

-- behind steps, where it stands so
pub stays_with : (n : ℕ) (A : Word → Type 0) (m k : Monitor) (p q : Shown) → GoesWith m p → GoesBy n A p q → phase q.own.steps ≡ outside → is_claimant q.own.steps ≡ k.claimed → is_finished q.own.steps ≡ k.rests
    → (k.claimed ≡ true → is_dumping k.script ≡ true) → (k.rests ≡ true → k.script ≡ []) → list_all (is_possible (layout_of p).pages) k.script ≡ true → AllByRecursion (IsThere (length k.bytes)) k.outcomes → GoesWith k q
stays_with n A m k p q can goes out claim finished claims done possible kept = let same = machine_goes n A p q goes in record {
  limits = subst (λ (x : Machine). IsInLimits x.layout) (sym same) can.limits;
  number = actor_goes n A p q goes ∙ can.number;
  out = out;
  claim = claim;
  finished = finished;
  claims = claims;
  done = done;
  possible = ap (λ (x : Machine). list_all (is_possible x.layout.pages) k.script) same ∙ possible;
  kept = kept;
}

not_both : {A : Type 0} (b : Bool) → b ≡ false → b ≡ true → A
not_both b x y = let e : false ≡ true = sym x ∙ y in absurd (cc)

-- with the section claimed for the dump that is next
pub claimed_with : (n : ℕ) (A : Word → Type 0) (m : Monitor) (p q : Shown) → GoesWith m p → GoesBy n A p q → IsActing q → phase q.own.steps ≡ outside → is_claimant q.own.steps ≡ true → m.rests ≡ false → is_dumping m.script ≡ true
    → GoesWith (with_claim true m) q
claimed_with n A m p q can goes acting out claims works dumps = stays_with n A m (with_claim true m) p q can goes out claims (acting.going ∙ sym works) (λ _. dumps) (λ rests. not_both m.rests works rests) can.possible can.kept

-- the rest of a script is possible too
pub rest_possible : (test : Command → Bool) (script : List Command) → list_all test script ≡ true → list_all test (drop 1 script) ≡ true
rest_possible test [] all = refl
rest_possible test (command ∷ more) all = (and_parts (test command) (list_all test more) all).1

pub first_possible : (test : Command → Bool) (script more : List Command) (command : Command) → script ≡ command ∷ more → list_all test script ≡ true → test command ≡ true
first_possible test script more command next all = (and_parts (test command) (list_all test more) (ap (list_all test) (sym next) ∙ all)).0

-- behind a command that needed no section
pub past_with : (n : ℕ) (A : Word → Type 0) (m k : Monitor) (p q : Shown) → GoesWith m p → GoesBy n A p q → IsActing q → phase q.own.steps ≡ outside → is_claimant q.own.steps ≡ false → m.claimed ≡ false → m.rests ≡ false → k ≡ past m → GoesWith k q
past_with n A m k p q can goes acting out claimless none works is = subst (λ z. GoesWith z q) (sym is)
    (stays_with n A m (past m) p q can goes out (claimless ∙ sym none) (acting.going ∙ sym works) (λ claims. not_both m.claimed none claims) (λ rests. not_both m.rests works rests)
    (rest_possible (is_possible (layout_of p).pages) m.script can.possible) can.kept)

-- what a dump's numbers are
pub record IsDump (pages at len : ℕ) : Type 0 where
  pub some : 1 ≤ len
  pub few : len ≤ 4096
  pub above : 2 ^ 31 ≤ at
  pub below : at + len ≤ 2 ^ 31 + 4096 * pages

pub dump_possible : (pages at len : ℕ) (script more : List Command) → script ≡ Dump at len ∷ more → list_all (is_possible pages) script ≡ true → IsDump pages at len
dump_possible pages at len script more next all =
    let x = and_parts (nat_le 1 len && nat_le len 4096) (nat_le (2 ^ 31) at && nat_le (at + len) (2 ^ 31 + 4096 * pages)) (first_possible (is_possible pages) script more (Dump at len) next all) in
    let y = and_parts (nat_le 1 len) (nat_le len 4096) x.0 in
    let z = and_parts (nat_le (2 ^ 31) at) (nat_le (at + len) (2 ^ 31 + 4096 * pages)) x.1 in
    record { some = leb-true 1 len y.0; few = leb-true len 4096 y.1; above = leb-true (2 ^ 31) at z.0; below = leb-true (at + len) (2 ^ 31 + 4096 * pages) z.1 }

-- a command that is no dump has claimed nothing
pub unclaimed : (m : Monitor) (p : Shown) (command : Command) → GoesWith m p → m.script ≡ command ∷ drop 1 m.script → is_dumping (command ∷ drop 1 m.script) ≡ false → m.claimed ≡ false
unclaimed m p command can next none = go m.claimed refl
  where
    go : (b : Bool) → m.claimed ≡ b → m.claimed ≡ false
    go false e = e
    go true e = not_both (is_dumping m.script) (ap is_dumping next ∙ none) (can.claims e)

-- room: what is behind a command has no more
pub drop_next : (n : ℕ) (script : List Command) → drop (n + 1) script ≡ drop 1 (drop n script)
drop_next n script = ap (λ k. drop k script) (add-one n) ∙ go n script
  where
    go : (i : ℕ) (rest : List Command) → drop (suc i) rest ≡ drop 1 (drop i rest)
    go zero rest = refl
    go (suc i) [] = refl
    go (suc i) (command ∷ rest) = go i rest

pub fewer_dumps : (script : List Command) → dumps_in (drop 1 script) ≤ dumps_in script
fewer_dumps [] = omega arith
fewer_dumps (Await count ∷ script) = omega arith
fewer_dumps (Dump at len ∷ script) = omega arith
fewer_dumps (Stop ∷ script) = omega arith

pub fewer_bytes : (script : List Command) → bytes_in (drop 1 script) ≤ bytes_in script
fewer_bytes [] = omega arith
fewer_bytes (Await count ∷ script) = omega arith
fewer_bytes (Dump at len ∷ script) = omega arith
fewer_bytes (Stop ∷ script) = omega arith

pub on_ok : {A E : Type 0} {P Q : Type 0} (r : Result A E) → (P → Q) → OnOk r P → OnOk r Q
on_ok (Ok x) f y = f y
on_ok (Err e) f y = tt

pub on_err : {A E : Type 0} {P Q : E → Type 0} (r : Result A E) → ((e : E) → P e → Q e) → IfErr r P → IfErr r Q
on_err (Ok x) f y = tt
on_err (Err e) f y = f e y

-- there is a next command
pub there_next : (n : ℕ) (script : List Command) (command : Command) (more : List Command) → drop n script ≡ command ∷ more → n + 1 ≤ length script
there_next n script command more e = let many : length (drop n script) ≡ suc (length more) = ap length e in let left = length-drop n script in omega (arith, many, left)

-- bytes that were there are there with more behind them
there_with : (n more : ℕ) (outcome : Outcome) → IsThere n outcome → IsThere (n + more) outcome
there_with n more (Bytes at len from) there = omega (arith, there)

all_there : (n more : ℕ) (outcomes : List Outcome) (new : Outcome) → AllByRecursion (IsThere n) outcomes → IsThere (n + more) new → AllByRecursion (IsThere (n + more)) (outcomes ++ new ∷ [])
all_there n more [] new all there = (there, tt)
all_there n more (outcome ∷ outcomes) new all there = (there_with n more outcome all.0, all_there n more outcomes new all.1 there)

-- behind a dump
pub dumped_with : (n : ℕ) (A : Word → Type 0) (at len : ℕ) (bs : List ℕ) (m k : Monitor) (p q : Shown) → GoesWith m p → GoesBy n A p q → IsActing q → phase q.own.steps ≡ outside → is_claimant q.own.steps ≡ false → m.rests ≡ false → length bs ≡ len
    → k ≡ past (with_bytes at len bs (with_claim false m)) → GoesWith k q
dumped_with n A at len bs m k p q can goes acting out claimless works many is = subst (λ z. GoesWith z q) (sym is)
    (stays_with n A m (past (with_bytes at len bs (with_claim false m))) p q can goes out claimless (acting.going ∙ sym works) (λ claims. not_both false refl claims) (λ rests. not_both m.rests works rests)
    (rest_possible (is_possible (layout_of p).pages) m.script can.possible)
    (subst (λ c. AllByRecursion (IsThere c) (m.outcomes ++ Bytes at len (length m.bytes) ∷ [])) (sym (length-append m.bytes bs ∙ ap (λ c. length m.bytes + c) many)) (all_there (length m.bytes) len m.outcomes (Bytes at len (length m.bytes)) can.kept (omega arith))))

-- behind all commands there are no bytes
pub none_left : (n : ℕ) (script : List Command) → length script ≤ n → bytes_in (drop n script) ≡ 0
none_left n script far = ap bytes_in (drop_of_length-le script far)
