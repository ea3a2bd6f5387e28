-- A walk whose entries stand in RAM leads to the page to which they lead.
use Rattle.std.proofs.Common.{◌≡◌, Ok, refl, ℕ, suc, ◌+◌, ◌-◌, ◌*◌, ◌/◌, ◌%◌, ◌^◌, ◌≤◌, ◌<◌, List, length, true, false, ◌||◌, Bool, arith, ap, sym, ◌∙◌, subst}
use Rattle.std.specs.Prelude.{◌==◌, ◌&&◌, nat_le, nat_lt, slice_index, if◌then◌else◌}
use Rattle.std.proofs.lemmas.Bool.{leb-true, ltb-true, le-leb, le-ltb}
use Rattle.rv64_priv.specs.declared.state.Kind.{Kind}
use Rattle.rv64_priv.specs.declared.state.Regime.{Regime}
use Rattle.rv64_priv.specs.Bits.{aligned}
use Rattle.rv64_priv.specs.Pte.{is_bare, is_malformed, is_leaf, ppn, IsPteKind}
use Rattle.rv64_priv.specs.declared.leaves.PteKind.{PteKind}
use Rattle.rv64_priv.specs.declared.leaves.PteKind.TheVariants.{Pointer}
use Rattle.rv64_priv.specs.Walk.{Leaf, PageFault, walk_of, walk_from, at_leaf, reachable_leaf, is_ram, is_canonical, is_usable, pages_of_level, pte_address}
use Rattle.machine_model.specs.Access.{AtRam, AtDevice, InRam, spot_of, second_va, one_page, two_pages}
use Rattle.machine_model.specs.Memory.{One, Two}
use Rattle.rv64_priv.specs.State.{Arch}
use Rattle.rv64_priv.specs.Csr.{regime}
use Rattle.step_laws.specs.Words.{first_ram_word, ram_word}
use Rattle.ref_machine.specs.SharedState.{Shared, ram_reads}
use Rattle.ref_machine.specs.OneTurn.{walk_end, IsWordOf}
use Rattle.ref_machine.specs.Translation.{IsSoundEnd, IsWord}
use Rattle.ref_machine.specs.declared.paths.Entry.{Entry}
use Rattle.ref_machine.specs.declared.paths.Path.{Path}
use Rattle.ref_machine.specs.Paths.{IsEntry, IsLeafTo, AreThere, IsPath}
use Rattle.ref_machine.proofs.Fresh.{from_step, leaf_if}
use Rattle.ref_machine.proofs.Quick.{no_device}

-- an entry that is read leads on to the table below
down : (pages : ℕ) (r : Regime) (kind : Kind) (ram : List ℕ) (va level table below : ℕ) (e : Entry) → IsEntry pages table (va / 4096) level e
    → slice_index ram e.index ≡ e.pte → is_malformed e.pte ≡ false → is_leaf e.pte ≡ false → below ≡ ppn e.pte * 4096
    → walk_from pages r kind (ram_reads ram) va (suc level) table ≡ walk_from pages r kind (ram_reads ram) va level below
down pages r kind ram va level table below e entry stands sound pointer is =
    let word : slice_index ram ((pte_address table va level - 2 ^ 31) / 8) ≡ e.pte = ap (slice_index ram) (sym entry.at) ∙ stands in
    from_step pages r kind ram va (suc level) level table (pte_address table va level) true false false refl refl entry.ram (ap is_malformed word ∙ sound) (ap is_leaf word ∙ pointer)
    ∙ ap (λ n. walk_from pages r kind (ram_reads ram) va level (ppn n * 4096)) word
    ∙ ap (walk_from pages r kind (ram_reads ram) va level) (sym is)

-- one that is a leaf ends it
ends : (pages : ℕ) (r : Regime) (kind : Kind) (ram : List ℕ) (va level table : ℕ) (e : Entry) → IsEntry pages table (va / 4096) level e
    → slice_index ram e.index ≡ e.pte → is_malformed e.pte ≡ false → is_leaf e.pte ≡ true
    → walk_from pages r kind (ram_reads ram) va (suc level) table ≡ at_leaf pages r kind va level e.pte
ends pages r kind ram va level table e entry stands sound leaf =
    let word : slice_index ram ((pte_address table va level - 2 ^ 31) / 8) ≡ e.pte = ap (slice_index ram) (sym entry.at) ∙ stands in
    from_step pages r kind ram va (suc level) level table (pte_address table va level) true false true refl refl entry.ram (ap is_malformed word ∙ sound) (ap is_leaf word ∙ leaf)
    ∙ ap (at_leaf pages r kind va level) word

-- addresses of one page are canonical together, and get the same from a leaf
same_canonical : (va vb : ℕ) → va / 4096 ≡ vb / 4096 → is_canonical va ≡ is_canonical vb
same_canonical va vb e =
    let top : va / 2 ^ 38 ≡ vb / 2 ^ 38 = omega (arith, e) in
    ap (λ n. (n == 0) || (n == 2 ^ 26 - 1)) top

same_leaf : (pages : ℕ) (r : Regime) (kind : Kind) (va vb level pte : ℕ) → va / 4096 ≡ vb / 4096 → at_leaf pages r kind va level pte ≡ at_leaf pages r kind vb level pte
same_leaf pages r kind va vb level pte e = ap (λ page. if is_usable r kind level pte then reachable_leaf pages kind pte ((ppn pte + page % pages_of_level level) * 4096) level else PageFault) e

both : (p q : Bool) → p && q ≡ true → (p ≡ true) × (q ≡ true)
both true q h = (refl, h)
both false q h = cc

pub leaf_to : (pages : ℕ) (r : Regime) (kind : Kind) (va level entry pte page level' base : ℕ) → Leaf pte page level' ≡ at_leaf pages r kind va level entry → is_ram pages page ≡ true → base ≡ (page - 2 ^ 31) / 8
    → IsLeafTo pages r kind (va / 4096) level entry base
leaf_to pages r kind va level entry pte page level' base end in_ram is =
    let range = both (nat_le (2 ^ 31) page) (nat_lt page (2 ^ 31 + 4096 * pages)) in_ram in
    let low : 2 ^ 31 ≤ page = leb-true (2 ^ 31) page range.0 in
    let high : page < 2 ^ 31 + 4096 * pages = ltb-true page (2 ^ 31 + 4096 * pages) range.1 in
    let whole : page % 4096 ≡ 0 = (subst (IsSoundEnd pages kind) (sym end) (leaf_if pages kind (is_usable r kind level entry) entry va level)).1 in
    record {
      inside = omega (arith, whole, low, high, is);
      leads = λ vb same.
          let exact : page + vb % 4096 ≡ 2 ^ 31 + 8 * base + vb % 4096 = omega (arith, whole, low, is) in
          let above : 2 ^ 31 ≤ page + vb % 4096 = omega (arith, low) in
          ap (spot_of kind vb) (same_leaf pages r kind vb va level entry same ∙ sym end)
          ∙ ap (λ b. if b then AtDevice (page + vb % 4096) else AtRam (page + vb % 4096)) (no_device (page + vb % 4096) above)
          ∙ ap AtRam exact;
    }

-- the walk of a translated address is that from the root's table
from_root : (pages : ℕ) (r : Regime) (kind : Kind) (ram : List ℕ) (va : ℕ) → is_bare r ≡ false → is_canonical va ≡ true
    → walk_of pages r kind (ram_reads ram) va ≡ walk_from pages r kind (ram_reads ram) va 3 (r.satp % 2 ^ 44 * 4096)
unfolding walk_of
from_root pages r kind ram va bare canonical =
    let start = r.satp % 2 ^ 44 * 4096 in
    ap (λ x. if x then reachable_leaf pages kind 0xcf (aligned 12 va) 0 else (if is_canonical va then walk_from pages r kind (ram_reads ram) va 3 start else PageFault)) bare
    ∙ ap (λ x. if x then walk_from pages r kind (ram_reads ram) va 3 start else PageFault) canonical

-- a walk that ends at a leaf of the root's table, of the one below, and of the lowest
abbrev IsLast : (pages : ℕ) (r : Regime) (kind : Kind) (page level table base : ℕ) → Entry → Type 0
IsLast pages r kind page level table base e = IsEntry pages table page level e × IsPteKind e.pte PteKind.Leaf × IsLeafTo pages r kind page level e.pte base × (e.index < 512 * pages)

abbrev IsOnWay : (pages page level table below : ℕ) → Entry → Type 0
IsOnWay pages page level table below e = IsEntry pages table page level e × IsPteKind e.pte (Pointer below) × (e.index < 512 * pages)

pub path_by_root : (pages : ℕ) (r : Regime) (kind : Kind) (va base : ℕ) (root : Entry) → is_bare r ≡ false → is_canonical va ≡ true
    → IsLast pages r kind (va / 4096) 2 (r.satp % 2 ^ 44 * 4096) base root
    → IsPath pages r kind (record { page = va / 4096; root = root; middle = root; last = root; base = base })
path_by_root pages r kind va base root bare canonical l = record {
  root = l.3;
  middle = l.3;
  last = l.3;
  base = l.2.inside;
  leads = λ ram vb same there.
      ap (spot_of kind vb) (from_root pages r kind ram vb bare (same_canonical vb va same ∙ canonical)
      ∙ ends pages r kind ram vb 2 (r.satp % 2 ^ 44 * 4096) root (subst (λ n. IsEntry pages (r.satp % 2 ^ 44 * 4096) n 2 root) (sym same) l.0) there.root l.1.0 l.1.1)
      ∙ l.2.leads vb same;
}

pub path_by_middle : (pages : ℕ) (r : Regime) (kind : Kind) (va below base : ℕ) (root middle : Entry) → is_bare r ≡ false → is_canonical va ≡ true
    → IsOnWay pages (va / 4096) 2 (r.satp % 2 ^ 44 * 4096) below root → IsLast pages r kind (va / 4096) 1 below base middle
    → IsPath pages r kind (record { page = va / 4096; root = root; middle = middle; last = middle; base = base })
path_by_middle pages r kind va below base root middle bare canonical w l = record {
  root = w.2;
  middle = l.3;
  last = l.3;
  base = l.2.inside;
  leads = λ ram vb same there.
      ap (spot_of kind vb) (from_root pages r kind ram vb bare (same_canonical vb va same ∙ canonical)
      ∙ down pages r kind ram vb 2 (r.satp % 2 ^ 44 * 4096) below root (subst (λ n. IsEntry pages (r.satp % 2 ^ 44 * 4096) n 2 root) (sym same) w.0) there.root w.1.0 w.1.1 w.1.2
      ∙ ends pages r kind ram vb 1 below middle (subst (λ n. IsEntry pages below n 1 middle) (sym same) l.0) there.middle l.1.0 l.1.1)
      ∙ l.2.leads vb same;
}

pub path_by_last : (pages : ℕ) (r : Regime) (kind : Kind) (va below lowest base : ℕ) (root middle last : Entry) → is_bare r ≡ false → is_canonical va ≡ true
    → IsOnWay pages (va / 4096) 2 (r.satp % 2 ^ 44 * 4096) below root → IsOnWay pages (va / 4096) 1 below lowest middle → IsLast pages r kind (va / 4096) 0 lowest base last
    → IsPath pages r kind (record { page = va / 4096; root = root; middle = middle; last = last; base = base })
path_by_last pages r kind va below lowest base root middle last bare canonical w x l = record {
  root = w.2;
  middle = x.2;
  last = l.3;
  base = l.2.inside;
  leads = λ ram vb same there.
      ap (spot_of kind vb) (from_root pages r kind ram vb bare (same_canonical vb va same ∙ canonical)
      ∙ down pages r kind ram vb 2 (r.satp % 2 ^ 44 * 4096) below root (subst (λ n. IsEntry pages (r.satp % 2 ^ 44 * 4096) n 2 root) (sym same) w.0) there.root w.1.0 w.1.1 w.1.2
      ∙ down pages r kind ram vb 1 below lowest middle (subst (λ n. IsEntry pages below n 1 middle) (sym same) x.0) there.middle x.1.0 x.1.1 x.1.2
      ∙ ends pages r kind ram vb 0 lowest last (subst (λ n. IsEntry pages lowest n 0 last) (sym same) l.0) there.last l.1.0 l.1.1)
      ∙ l.2.leads vb same;
}

-- the word of a fetch in the page
pub path_word : (a : Arch) (b : Shared) (p : Path) (pc word : ℕ) → IsPath b.layout.pages (regime a) Kind.Fetch p → pc / 4096 ≡ p.page → AreThere b.ram p
    → word ≡ slice_index b.ram (p.base + pc % 4096 / 8) / 256 ^ (pc % 8) % 2 ^ 32 → IsWord b.ram (spot_of Kind.Fetch pc (walk_end a b Kind.Fetch pc)) (Ok word)
path_word a b p pc word path here there is =
    let pa = 2 ^ 31 + 8 * p.base + pc % 4096 in
    let index : p.base + pc % 4096 / 8 ≡ ram_word pa - first_ram_word = omega arith in
    let byte : pc % 8 ≡ pa % 8 = omega arith in
    subst (λ spot. IsWord b.ram spot (Ok word)) (sym (path.leads b.ram pc here there))
    (ap Ok (is ∙ ap (λ i. slice_index b.ram i / 256 ^ (pc % 8) % 2 ^ 32) index ∙ ap (λ k. slice_index b.ram (ram_word pa - first_ram_word) / 256 ^ k % 2 ^ 32) byte))

-- an access in the page, within a word
pub path_reach : (a : Arch) (b : Shared) (kind : Kind) (p : Path) (va width : ℕ) → IsPath b.layout.pages (regime a) kind p → va / 4096 ≡ p.page → AreThere b.ram p → va % 8 + width ≤ 8 → length b.ram ≡ 512 * b.layout.pages
    → IsWordOf a b kind va width (p.base + va % 4096 / 8)
path_reach a b kind p va width path here there fits size =
    let pa = 2 ^ 31 + 8 * p.base + va % 4096 in
    let index = p.base + va % 4096 / 8 in
    let base = path.base in
    let byte : pa % 8 ≡ va % 8 = omega arith in
    let word : ram_word pa ≡ first_ram_word + index = omega arith in
    let second = spot_of kind (second_va va) (walk_end a b kind (second_va va)) in
    record {
      there = omega (arith, base, size);
      fits = fits;
      reach = ap (λ c. if c then two_pages kind va width (spot_of kind va (walk_end a b kind va)) second else one_page width (spot_of kind va (walk_end a b kind va))) (le-ltb 4096 (va % 4096 + width) (omega (arith, fits)))
          ∙ ap (one_page width) (path.leads b.ram va here there)
          ∙ ap (λ c. InRam (if c then One (ram_word pa) (pa % 8) width else Two (ram_word pa) (ram_word pa + 1) (pa % 8) width)) (le-leb (pa % 8 + width) 8 (omega (arith, byte, fits)))
          ∙ ap (λ w. InRam (One w (pa % 8) width)) word
          ∙ ap (λ o. InRam (One (first_ram_word + index) o width)) byte;
    }
