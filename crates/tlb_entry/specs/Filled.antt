-- What an entry holds of a leaf (RISC-V Privileged Architecture, "Sv39: Page-Based 39-bit Virtual-Memory System" for the leaf's fields).
use Rattle.std.specs.Prelude.{◌≡◌, ◌↔◌, ℕ, ◌/◌, ◌^◌, Bool, true, false, not, ◌&&◌, if◌then◌else◌}
use Rattle.rv64_priv.specs.declared.state.Kind.{Kind}
use Rattle.rv64_priv.specs.declared.state.Kind.TheVariants.{Fetch, Load, Store}
use Rattle.rv64_priv.specs.declared.state.Regime.{Regime}
use Rattle.rv64_priv.specs.Pte.{permits, has_a_and_d}
use Rattle.step_laws.specs.declared.map.TlbField.{TlbField}
use Rattle.step_laws.specs.declared.map.TlbField.TheVariants as fields
use Rattle.tlb_entry.specs.declared.entries.Entry.{Entry}
use Rattle.tlb_entry.specs.Compare.{compare_word, hit, is_not_dirty, is_for_device}

-- nothing is fetched from a device
abbrev pub is_open : (device : Bool) → Kind → Bool
is_open device Fetch = not device
is_open device Load = true
is_open device Store = true

-- the leaf serves such an access under the regime: it permits it, and its A and D are set as the access asks
abbrev pub serves : (pte : ℕ) → (device : Bool) → Regime → Kind → Bool
serves pte device r kind = permits pte kind r && has_a_and_d pte kind && is_open device kind

-- a page of RAM isn't known to be dirty before it is marked; devices have no dirty bits
abbrev pub waits_for_mark : (device : Bool) → Kind → Bool
waits_for_mark device Store = not device
waits_for_mark device Load = false
waits_for_mark device Fetch = false

-- the compare word that the entry of an address has for a kind: valid where the leaf serves that kind, and else 1
abbrev pub word_for : (pte va : ℕ) → (device : Bool) → Regime → Kind → ℕ
word_for pte va device r kind = if serves pte device r kind then compare_word va (waits_for_mark device kind) device r.user else 1

-- the words of an entry by their fields
abbrev pub entry_word : Entry → TlbField → ℕ
entry_word e fields.Read = e.read
entry_word e fields.Write = e.write
entry_word e fields.Code = e.code
entry_word e fields.Page = e.page

-- Such a word hits exactly at the addresses of its page, in its mode, where the leaf serves the kind; and of these it says whether the
-- page waits for its mark and whether it is a device's
pub record EntryWords : Type 0 where
  pub hits : (pte va other : ℕ) (device : Bool) (r : Regime) (kind : Kind) (user : Bool)
      → (hit (word_for pte va device r kind) other user ≡ true) ↔ ((serves pte device r kind ≡ true) × (other / 2 ^ 12 ≡ va / 2 ^ 12) × (user ≡ r.user))
  pub says : (pte va : ℕ) (device : Bool) (r : Regime) (kind : Kind) → serves pte device r kind ≡ true
      → (is_not_dirty (word_for pte va device r kind) ≡ waits_for_mark device kind) × (is_for_device (word_for pte va device r kind) ≡ device)
