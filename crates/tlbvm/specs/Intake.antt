-- What each line reads, in order, what is checked of it, and what comes of it.
use Rattle.std.specs.Prelude.{◌≡◌, ◌⊎◌, ℕ, ◌<◌, ◌≤◌, Bool, nat_le, if◌then◌else◌, List, length, Option, Some, None, IfSome, Result, Ok, Err}
use Rattle.vm_io.specs.Faults.{Rose}
use Rattle.vm_io.specs.declared.read.TheConstants.{MAX_FILE}
use Rattle.elf_load.specs.Loaded.{Loaded}
use Rattle.elf_load.specs.declared.image.BadImage.{BadImage}
use Rattle.elf_load.specs.ImageOf.{image_of}
use Rattle.rv_asm.specs.Assembly.{Bad, assembly_of}
use Rattle.step_laws.specs.declared.words.Layout.{Layout}
use Rattle.machine_model.specs.State.{Setup}
use Rattle.machine_model.specs.Image.{setup_of}
use Rattle.tlbvm.specs.declared.items.Item.{Item}
use Rattle.tlbvm.specs.declared.status.Status.{Status}
use Rattle.guest_gen.specs.Text.{gen_text}
use Rattle.tlbvm.specs.Options.{Asked, Line, Plain, Dis, Asm, Gen}
use Rattle.tlbvm.specs.Items.{order_of}
use Rattle.tlbvm.specs.Turns.{hart_turns, turns_of}

-- how turns are given to the harts: in an order, the last turn first
pub data Pace : Type 0 where
  InOrder : (turns : List ℕ) → Pace

-- a machine that is to run
pub record Input : Type 0 where
  pub setup : Setup
  pub pace : Pace
  pub regs : Bool

-- a text or file that is made of another: the listing of an image, or the file of a text
pub data Work : Type 0 where
  Lists : (file : List ℕ) → (image : Loaded) → Work
  Makes : (file : List ℕ) → Work

-- what a line does once its files are accepted: it runs a machine, or makes something of its file
pub data Task : Type 0 where
  Runs : Input → Task
  Gives : Work → Task

-- A reading of files, one after another: how it goes on depends on what was read.
pub data Intake : Type 0 where
  Reads : (name : List ℕ) → (List ℕ → Intake) → Intake
  Refuses : Status → Intake
  Goes : Task → Intake

-- THE LINES

abbrev pub layout_of : Asked → Layout
layout_of asked = record { harts = asked.harts; pages = asked.pages }

-- the machine of a file that is accepted, with its turns in this order
abbrev pub plain_input : Asked → (file : List ℕ) → Loaded → List Item → Input
plain_input asked file image items = record {
  setup = setup_of (layout_of asked) file image asked.limit;
  pace = InOrder (hart_turns (turns_of asked.harts items));
  regs = asked.regs;
}

-- an order that is accepted gives the machine its turns
abbrev pub on_order : Result (List Item) ℕ → (List Item → Intake) → Intake
on_order (Err line) next = Refuses (Status.BadOrder line)
on_order (Ok items) next = next items

-- a file that is accepted is the machine's first memory
abbrev pub on_image : Result Loaded BadImage → (Loaded → Intake) → Intake
on_image (Err kind) next = Refuses (Status.BadImage kind)
on_image (Ok image) next = next image

-- `plain ELF ORDER` reads and checks the ELF file, and then the order.
abbrev pub plain_intake : (elf order : List ℕ) → Asked → Intake
plain_intake elf order asked =
    Reads elf (λ file. on_image (image_of file asked.pages) (λ image.
    Reads order (λ text. on_order (order_of text asked.harts) (λ items. Goes (Runs (plain_input asked file image items))))))

-- the most pages that a machine can have: an image is listed that one of these accepts
abbrev pub most_pages : ℕ
most_pages = 4096

-- `dis ELF` reads and checks the ELF file.
abbrev pub dis_intake : (elf : List ℕ) → Intake
dis_intake elf = Reads elf (λ file. on_image (image_of file most_pages) (λ image. Goes (Gives (Lists file image))))

-- a text without a fault gives a file
abbrev pub on_text : Result (List ℕ) Bad → (List ℕ → Intake) → Intake
on_text (Err bad) next = Refuses (Status.BadAsm bad.line bad.kind)
on_text (Ok file) next = next file

-- `asm TEXT` reads the text, and assembles it.
abbrev pub asm_intake : (text : List ℕ) → Intake
asm_intake name = Reads name (λ text. on_text (assembly_of text) (λ file. Goes (Gives (Makes file))))

-- `gen N` reads nothing: what it gives is the text of the number.
abbrev pub gen_intake : (number : ℕ) → Intake
gen_intake number = Goes (Gives (Makes (gen_text number)))

abbrev pub intake_of : Line → Intake
intake_of (Plain elf order asked) = plain_intake elf order asked
intake_of (Dis elf) = dis_intake elf
intake_of (Asm text) = asm_intake text
intake_of (Gen number) = gen_intake number

-- WHAT IT MAY COME TO

-- What a call may know of a name: its bytes, where they are told, and how often a read of it failed before and behind.
pub record Name : Type 0 where
  pub told : Option (List ℕ)
  pub before : ℕ
  pub behind : ℕ

abbrev pub name_of : {F : Type 0} → (F → List ℕ → Option (List ℕ)) → (F → List ℕ → ℕ) → (old new : F) → List ℕ → Name
name_of told faults old new name = record { told = told old name; before = faults old name; behind = faults new name }

-- bytes that were read of a name: at most 64 MiB, and what is told of it, where that is told
pub record WereRead (name : Name) (bytes : List ℕ) : Type 0 where
  pub within : length bytes ≤ MAX_FILE
  pub as_told : IfSome name.told (λ told. bytes ≡ told)

abbrev pub HasFailed : Name → Type 0
HasFailed name = Rose name.before name.behind

-- byte number 67,108,865 was read
abbrev pub IsTooLong : Name → Type 0
IsTooLong name = IfSome name.told (λ told. MAX_FILE < length told)

-- the first read that failed or came to too many bytes, or the first check that refused; or what is to be done
abbrev pub ComesTo : (List ℕ → Name) → Intake → Result Task Status → Type 0
ComesTo names (Reads name next) came =
    ((came ≡ Err Status.ReadFault) × HasFailed (names name))
    ⊎ (((came ≡ Err Status.TooLong) × IsTooLong (names name))
    ⊎ ((bytes : List ℕ) × WereRead (names name) bytes × ComesTo names (next bytes) came))
ComesTo names (Refuses status) came = came ≡ Err status
ComesTo names (Goes task) came = came ≡ Ok task

-- WHAT IT MUST COME TO

-- no read failed of a name that is come to
abbrev pub IsFaultless : (List ℕ → Name) → Intake → Type 0
IsFaultless names (Reads name next) =
    (HasFailed (names name) → ⊥) × ((bytes : List ℕ) → (names name).told ≡ Some bytes → length bytes ≤ MAX_FILE → IsFaultless names (next bytes))
IsFaultless names _ = Unit {0}

-- then this must come of it, where all is told that is read
abbrev pub settled : (List ℕ → Name) → Intake → Option (Result Task Status)
settled names (Reads name next) =
    elim (names name).told [
      | None ↦ None
      | Some bytes ↦ if nat_le (length bytes) MAX_FILE then settled names (next bytes) else Some (Err Status.TooLong)
    ]
settled names (Refuses status) = Some (Err status)
settled names (Goes task) = Some (Ok task)
