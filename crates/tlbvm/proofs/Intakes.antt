-- What a line's reads and checks come to, read by read.
use Rattle.std.proofs.Common.{inl, inr, ◌≡◌, refl, ℕ, ◌<◌, ◌≤◌, List, length, Bool, true, false, Some, None, Option, ap, sym, ◌∙◌, subst, arith}
use Rattle.std.specs.Prelude.{IfSome, IsTrue, nat_le, if◌then◌else◌, Result, Ok, Err}
use Rattle.std.proofs.lemmas.Bool.{leb-true, leb-false}
use Rattle.vm_io.specs.Faults.{Rose}
use Rattle.vm_io.specs.declared.read.TheConstants.{MAX_FILE}
use Rattle.elf_load.specs.Loaded.{Loaded}
use Rattle.elf_load.specs.declared.image.BadImage.{BadImage}
use Rattle.tlbvm.specs.declared.items.Item.{Item}
use Rattle.tlbvm.specs.declared.status.Status.{Status}
use Rattle.tlbvm.specs.Status.{is_refusal}
use Rattle.tlbvm.specs.Refused.{IsUnread, IsRefused}
use Rattle.tlbvm.specs.Intake.{Task, Name, Intake, Reads, Refuses, Goes, WereRead, ComesTo, IsFaultless, settled, on_image, on_order, on_text}
use Rattle.rv_asm.specs.Assembly.{Bad}

-- a count that rose since a later moment rose since an earlier one
pub rose_since : (early late end : ℕ) → early ≤ late → Rose late end → Rose early end
rose_since early late end le (inl lt) = inl (omega (arith, le, lt))
rose_since early late end le (inr last) = inr last

pub read_since : (name late : Name) (bytes : List ℕ) → late.told ≡ name.told → WereRead late bytes → WereRead name bytes
read_since name late bytes same read = record { within = read.within; as_told = subst (λ t. IfSome t (λ told. bytes ≡ told)) same read.as_told }

pub unread_since : (name late : Name) (status : Status) → late.told ≡ name.told → name.before ≤ late.before → late.behind ≡ name.behind → IsUnread late status → IsUnread name status
unread_since name late status same le end (inl want) = inl want
unread_since name late status same le end (inr (inl (is, failed))) = inr (inl (is, subst (Rose name.before) end (rose_since name.before late.before late.behind le failed)))
unread_since name late status same le end (inr (inr (is, long))) = inr (inr (is, subst (λ t. IfSome t (λ told. MAX_FILE < length told)) same long))

-- THE PARTS OF AN INTAKE

abbrev refusing : Status → Result Task Status
refusing s = Err s

err_same : (s t : Status) → s ≡ t → refusing s ≡ refusing t
err_same s t is = ap refusing is

pub unread : (names : List ℕ → Name) (name : List ℕ) (next : List ℕ → Intake) (status : Status) → IsUnread (names name) status → IsRefused names (Reads name next) status
unread names name next status (inl want) = inl want
unread names name next status (inr (inl (is, failed))) = inr (subst (λ s. IsTrue (is_refusal s)) (sym is) refl, inl (err_same status Status.ReadFault is, failed))
unread names name next status (inr (inr (is, long))) = inr (subst (λ s. IsTrue (is_refusal s)) (sym is) refl, inr (inl (err_same status Status.TooLong is, long)))

pub read_on : (names : List ℕ → Name) (name : List ℕ) (next : List ℕ → Intake) (bytes : List ℕ) (came : Result Task Status) → WereRead (names name) bytes → ComesTo names (next bytes) came
    → ComesTo names (Reads name next) came
read_on names name next bytes came read rest = inr (inr (bytes, read, rest))

pub refused_on : (names : List ℕ → Name) (name : List ℕ) (next : List ℕ → Intake) (bytes : List ℕ) (status : Status) → WereRead (names name) bytes → IsRefused names (next bytes) status
    → IsRefused names (Reads name next) status
refused_on names name next bytes status read (inl want) = inl want
refused_on names name next bytes status read (inr rest) = inr (rest.0, read_on names name next bytes (Err status) read rest.1)

pub image_refused : (names : List ℕ → Name) (image : Result Loaded BadImage) (kind : BadImage) (next : Loaded → Intake) → image ≡ Err kind → IsRefused names (on_image image next) (Status.BadImage kind)
image_refused names image kind next is = inr (refl, subst (λ i. ComesTo names (on_image i next) (Err (Status.BadImage kind))) (sym is) refl)

pub image_goes : (names : List ℕ → Name) (image : Result Loaded BadImage) (loaded : Loaded) (next : Loaded → Intake) (came : Result Task Status) → image ≡ Ok loaded → ComesTo names (next loaded) came
    → ComesTo names (on_image image next) came
image_goes names image loaded next came is rest = subst (λ i. ComesTo names (on_image i next) came) (sym is) rest

pub image_on : (names : List ℕ → Name) (image : Result Loaded BadImage) (loaded : Loaded) (next : Loaded → Intake) (status : Status) → image ≡ Ok loaded → IsRefused names (next loaded) status
    → IsRefused names (on_image image next) status
image_on names image loaded next status is (inl want) = inl want
image_on names image loaded next status is (inr rest) = inr (rest.0, image_goes names image loaded next (Err status) is rest.1)

pub order_refused : (names : List ℕ → Name) (order : Result (List Item) ℕ) (line : ℕ) (next : List Item → Intake) → order ≡ Err line → IsRefused names (on_order order next) (Status.BadOrder line)
order_refused names order line next is = inr (refl, subst (λ o. ComesTo names (on_order o next) (Err (Status.BadOrder line))) (sym is) refl)

pub order_goes : (names : List ℕ → Name) (order : Result (List Item) ℕ) (items : List Item) (next : List Item → Intake) (came : Result Task Status) → order ≡ Ok items → ComesTo names (next items) came
    → ComesTo names (on_order order next) came
order_goes names order items next came is rest = subst (λ o. ComesTo names (on_order o next) came) (sym is) rest

pub text_refused : (names : List ℕ → Name) (made : Result (List ℕ) Bad) (bad : Bad) (next : List ℕ → Intake) → made ≡ Err bad → IsRefused names (on_text made next) (Status.BadAsm bad.line bad.kind)
text_refused names made bad next is = inr (refl, subst (λ m. ComesTo names (on_text m next) (Err (Status.BadAsm bad.line bad.kind))) (sym is) refl)

pub text_goes : (names : List ℕ → Name) (made : Result (List ℕ) Bad) (file : List ℕ) (next : List ℕ → Intake) (came : Result Task Status) → made ≡ Ok file → ComesTo names (next file) came
    → ComesTo names (on_text made next) came
text_goes names made file next came is rest = subst (λ m. ComesTo names (on_text m next) came) (sym is) rest

-- WHAT IT MUST COME TO

same_some : {A : Type 0} (x y : A) → Some x ≡ Some y → x ≡ y
same_some x y e = cc

-- without faults it comes to nothing else
pub must : (names : List ℕ → Name) (intake : Intake) (came due : Result Task Status) → IsFaultless names intake → settled names intake ≡ Some due → ComesTo names intake came → came ≡ due
must names (Refuses status) came due faultless is comes = comes ∙ same_some (Err status) due is
must names (Goes task) came due faultless is comes = comes ∙ same_some (Ok task) due is
must names (Reads name next) came due faultless is comes = go (names name).told refl is comes (λ bytes. must names (next bytes) came due)
  where
    Rest : Type 0
    Rest = (bytes : List ℕ) → IsFaultless names (next bytes) → settled names (next bytes) ≡ Some due → ComesTo names (next bytes) came → came ≡ due

    left : Option (List ℕ) → Option (Result Task Status)
    left None = None
    left (Some bytes) = if nat_le (length bytes) MAX_FILE then settled names (next bytes) else Some (Err Status.TooLong)

    none_due : (d : Result Task Status) → None ≡ Some d → ⊥
    none_due d e = cc

    long : (told : List ℕ) (b : Bool) → nat_le (length told) MAX_FILE ≡ b → MAX_FILE < length told
        → (if b then settled names (next told) else Some (Err Status.TooLong)) ≡ Some due → Err Status.TooLong ≡ due
    long told true e over f = absurd (omega (arith, leb-true (length told) MAX_FILE e, over))
    long told false e over f = same_some (Err Status.TooLong) due f

    within : (told : List ℕ) (b : Bool) → nat_le (length told) MAX_FILE ≡ b → length told ≤ MAX_FILE
        → (if b then settled names (next told) else Some (Err Status.TooLong)) ≡ Some due → settled names (next told) ≡ Some due
    within told true e le f = f
    within told false e le f = absurd (omega (arith, leb-false (length told) MAX_FILE e, le))

    go : (told : Option (List ℕ)) → (names name).told ≡ told → left told ≡ Some due → ComesTo names (Reads name next) came → Rest → came ≡ due
    go None e f c rest = absurd (none_due due f)
    go (Some told) e f (inl (is_failed, failed)) rest = absurd (faultless.0 failed)
    go (Some told) e f (inr (inl (is_long, too_long))) rest =
        is_long ∙ long told (nat_le (length told) MAX_FILE) refl (subst (λ t. IfSome t (λ x. MAX_FILE < length x)) e too_long) f
    go (Some told) e f (inr (inr (bytes, read, more))) rest =
        let same : bytes ≡ told = subst (λ t. IfSome t (λ x. bytes ≡ x)) e read.as_told in
        let le : length told ≤ MAX_FILE = subst (λ x. length x ≤ MAX_FILE) same read.within in
        rest told (faultless.1 told e le) (within told (nat_le (length told) MAX_FILE) refl le f) (subst (λ x. ComesTo names (next x) came) same more)
