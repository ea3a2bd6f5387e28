-- A fetch from its parts.
use Rattle.std.proofs.Common.{◌≡◌, ℕ, ◌%◌, sym, subst}
use Rattle.rv64_priv.specs.declared.state.Kind.{Kind}
use Rattle.rv64_priv.specs.declared.state.Regime.{Regime}
use Rattle.rv64_priv.specs.Trap.{access_fault}
use Rattle.step_laws.specs.declared.steps.WordOp.TheVariants.{Load}
use Rattle.step_laws.specs.Map.{Word, Dirty, Ram}
use Rattle.machine_model.specs.Memory.{number_in}
use Rattle.guest_ram.specs.Areas.{IsOfRam}
use Rattle.guest_ram.specs.Ports.{Shown, GoesBy}
use Rattle.guest_ram.proofs.Moves.{goes_then, goes_within}
use Rattle.tlb_entry.specs.declared.books.Book.{Book}
use Rattle.tlb_table.proofs.Aside.{IsOffTable}
use Rattle.tlb_fill.specs.Stepping.{IsOfFill}
use Rattle.tlb_fill.specs.declared.translation.Translated.TheVariants as gives
use Rattle.guest_access.specs.Reaching.{Translates}
use Rattle.guest_access.specs.Stepping.{HasStepped}
use Rattle.guest_access.proofs.Keeping.{goes_stepped}
use Rattle.code_fetch.specs.declared.fetching.Fetched.TheVariants as comes
use Rattle.code_fetch.specs.Fetching.{HasFetched, on_device, word as of_word}

pub ram_off : (w : Word) → IsOfRam w → IsOffTable w
ram_off (Ram i) x = tt
ram_off (Dirty i) x = tt
ram_off w x = absurd x

ram_fill : (w : Word) → IsOfRam w → IsOfFill w
ram_fill (Ram i) x = tt
ram_fill (Dirty i) x = tt
ram_fill w x = absurd x

pub word_as : (p m q : Shown) (b b' : Book) (r : Regime) (pc pa found n : ℕ) → Translates p m b b' r Kind.Fetch pc (gives.Ram pa) → HasStepped Load pa 0 found m q → n ≡ number_in found (pa % 8) 4 → HasFetched p q b b' r pc (comes.Word n)
word_as p m q b b' r pc pa found n t s e = subst (λ x. HasFetched p q b b' r pc (comes.Word x)) (sym e) (of_word m pa found t s)

pub device_as : (p q : Shown) (b b' : Book) (r : Regime) (pc pa cause : ℕ) → cause ≡ access_fault Kind.Fetch → Translates p q b b' r Kind.Fetch pc (gives.Device pa) → HasFetched p q b b' r pc (comes.Fault cause pc)
device_as p q b b' r pc pa cause e t = subst (λ n. HasFetched p q b b' r pc (comes.Fault n pc)) (sym e) (on_device pa t)

pub goes_loaded : (p m q : Shown) (pa found : ℕ) → GoesBy 15 IsOfFill p m → HasStepped Load pa 0 found m q → GoesBy 16 IsOfFill p q
goes_loaded p m q pa found goes s = goes_then 15 1 IsOfFill p m q goes (goes_within 1 IsOfRam IsOfFill m q ram_fill (goes_stepped Load pa 0 found m q s))
