-- A machine as it is first had shows the first state.
use Rattle.std.proofs.Common.{◌≡◌, refl, ℕ, zero, suc, ◌≤◌, ◌+◌, ◌-◌, ◌*◌, ◌^◌, ◌++◌, List, [], ◌∷◌, None, length, map, arith, ap, sym, ◌∙◌, subst}
use Rattle.std.specs.Prelude.{replicate, if◌then◌else◌}
use Rattle.std.proofs.lemmas.Bool.{le-ltb}
use Rattle.std.proofs.lemmas.List.{replicate_more, length-replicate}
use Rattle.elf_load.specs.Loaded.{Loaded}
use Rattle.elf_load.specs.declared.image.Part.{Part}
use Rattle.elf_load.specs.Contents.{contents_word}
use Rattle.step_laws.specs.declared.words.Layout.{Layout}
use Rattle.step_laws.specs.Words.{first_ram_word}
use Rattle.machine_model.specs.declared.mode.Mode.TheVariants.{Started, Halted}
use Rattle.machine_model.specs.Image.{image_memory}
use Rattle.machine_model.specs.State.{Hart, initial, new_hart}
use Rattle.ref_machine.specs.Slots.{new_slot}
use Rattle.ref_machine.specs.SharedState.{Shared, IsFirst}
use Rattle.ref_machine.specs.PlainState.{first_slots}
use Rattle.ref_machine.specs.Shows.{Shows, resting, shown}
use Rattle.machine_model.specs.Image.{setup_of}

-- one more hart
pub slots_more : (n start : ℕ) → 1 ≤ n → first_slots n start ++ new_slot Halted 0 ∷ [] ≡ first_slots (n + 1) start
slots_more n start le =
    let e : n - 1 + 1 ≡ n + 1 - 1 = omega (arith, le) in
    ap (λ ts. new_slot Started start ∷ ts) (replicate_more (n - 1) (new_slot Halted 0) ∙ ap (λ k. replicate k (new_slot Halted 0)) e)

loaded_word : (file : List ℕ) (parts : List Part) (i : ℕ) → image_memory file parts (first_ram_word + i) ≡ contents_word file parts (2 ^ 31 + 8 * i)
loaded_word file parts i =
    ap (λ b. if b then 0 else contents_word file parts (2 ^ 31 + 8 * ((first_ram_word + i) - first_ram_word))) (le-ltb (first_ram_word + i) first_ram_word (omega arith))
    ∙ ap (λ (k : ℕ). contents_word file parts (2 ^ 31 + 8 * k)) (let e : (first_ram_word + i) - first_ram_word ≡ i = omega arith in e)

resting_all : (n : ℕ) → map resting (replicate n (new_slot Halted 0)) ≡ replicate n (new_hart Halted 0)
resting_all zero = refl
resting_all (suc n) = ap (λ hs. new_hart Halted 0 ∷ hs) (resting_all n)

abbrev first_shared : Layout → (limit : ℕ) → List ℕ → Shared
first_shared layout limit ram = record { layout = layout; ram = ram; ipi = 0; limit = limit; console = []; reason = None }

first_state : (layout : Layout) (file : List ℕ) (image : Loaded) (limit : ℕ) (ram : List ℕ)
    → initial (setup_of layout file image limit) ≡ shown (record { slots = first_slots layout.harts image.start; shared = first_shared layout limit ram }) [] []
first_state layout file image limit ram =
    ap (λ (hs : List Hart). record { entries = []; harts = new_hart Started image.start ∷ hs; output = []; reason = None; script = [] }) (sym (resting_all (layout.harts - 1)))

pub first_shown : (layout : Layout) (file : List ℕ) (image : Loaded) (limit : ℕ) (b : Shared) → 1 ≤ layout.harts → IsFirst file image layout limit b
    → Shows (setup_of layout file image limit) (record { slots = first_slots layout.harts image.start; shared = b }) (initial (setup_of layout file image limit))
first_shown layout file image limit b some first =
    let n = length (first_slots layout.harts image.start) in
    let size = first.loaded.0 in
    let rest : layout.harts - 1 + 1 ≡ layout.harts = omega (arith, some) in
    subst (λ (x : Shared). Shows (setup_of layout file image limit) (record { slots = first_slots layout.harts image.start; shared = x }) (initial (setup_of layout file image limit))) (sym first.rest)
    (record {
      entries = [];
      script = [];
      state = first_state layout file image limit b.ram;
      there = ap suc (length-replicate (layout.harts - 1) (new_slot Halted 0)) ∙ (let e : suc (layout.harts - 1) ≡ layout.harts = omega (arith, some) in e);
      layout = refl;
      size = size;
      memory = record { ram = λ i below. first.loaded.1 i (omega (arith, below, size)) ∙ sym (loaded_word file image.parts i); ipi = refl };
      limit = refl;
    })
