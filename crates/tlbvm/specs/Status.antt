-- The exit codes and lines of the statuses, and the status of a machine that has ended.
use Rattle.std.specs.Prelude.{ℕ, Bool, true, false, List, ◌++◌, Option, Some, None, codes, decimal}
use Rattle.elf_load.specs.declared.image.BadImage.{BadImage}
use Rattle.machine_model.specs.declared.reason.Reason.{Reason}
use Rattle.tlbvm.specs.declared.status.Status.{Status}

abbrev pub exit_code_of : Status → ℕ
exit_code_of Status.Done = 0
exit_code_of Status.Usage = 2
exit_code_of Status.ReadFault = 3
exit_code_of Status.TooLong = 4
exit_code_of (Status.BadImage kind) = 5
exit_code_of (Status.BadOrder line) = 6
exit_code_of (Status.BadAsm line kind) = 8
exit_code_of Status.WriteFault = 9
exit_code_of Status.NoMemory = 10
exit_code_of (Status.GuestFailed code) = 11
exit_code_of (Status.Limit hart) = 12
exit_code_of Status.OutFull = 13
exit_code_of Status.AllStopped = 14
exit_code_of Status.OrderEnd = 15
exit_code_of Status.Stopped = 16

-- the checks of an ELF file are numbered in their order
abbrev pub kind_number : BadImage → ℕ
kind_number BadImage.Short = 1
kind_number BadImage.NotElf = 2
kind_number BadImage.NotRv64 = 3
kind_number BadImage.NotExec = 4
kind_number BadImage.Compressed = 5
kind_number BadImage.SegmentOutside = 6
kind_number BadImage.Overlap = 7
kind_number BadImage.EntryOutside = 8

abbrev pub status_text : Status → List ℕ
status_text Status.Done = codes "done"
status_text Status.Usage = codes "usage: tlbvm plain, sched, run, churn, asm, dis or gen"
status_text Status.ReadFault = codes "read failed"
status_text Status.TooLong = codes "file too long"
status_text (Status.BadImage kind) = codes "bad image: kind " ++ decimal (kind_number kind)
status_text (Status.BadOrder line) = codes "bad order: line " ++ decimal line
status_text (Status.BadAsm line kind) = codes "bad text: line " ++ decimal line ++ codes " kind " ++ decimal kind
status_text Status.WriteFault = codes "write failed"
status_text Status.NoMemory = codes "out of memory"
status_text (Status.GuestFailed code) = codes "guest failed: " ++ decimal code
status_text (Status.Limit hart) = codes "limit: hart " ++ decimal hart
status_text Status.OutFull = codes "output full"
status_text Status.AllStopped = codes "all harts stopped"
status_text Status.OrderEnd = codes "order ended"
status_text Status.Stopped = codes "stopped"

-- the status of a first reason, or of none behind the order's last turn
abbrev pub status_for : Option Reason → Status
status_for None = Status.OrderEnd
status_for (Some Reason.Pass) = Status.Done
status_for (Some (Reason.Fail code)) = Status.GuestFailed code
status_for (Some (Reason.Limit hart)) = Status.Limit hart
status_for (Some Reason.OutFull) = Status.OutFull
status_for (Some Reason.AllStopped) = Status.AllStopped
status_for (Some Reason.Stopped) = Status.Stopped

-- the answers that refuse what was read, before a machine's start
abbrev pub is_refusal : Status → Bool
is_refusal Status.ReadFault = true
is_refusal Status.TooLong = true
is_refusal (Status.BadImage kind) = true
is_refusal (Status.BadOrder line) = true
is_refusal (Status.BadAsm line kind) = true
is_refusal _ = false

-- the answers that come only where a machine has ended
abbrev pub is_end : Status → Bool
is_end Status.Usage = false
is_end Status.ReadFault = false
is_end Status.TooLong = false
is_end (Status.BadImage kind) = false
is_end (Status.BadOrder line) = false
is_end (Status.BadAsm line kind) = false
is_end Status.NoMemory = false
is_end _ = true
