-- What a source and a target keep of their rings, beside their records.
use Rattle.std.specs.Prelude.{◌≡◌, ℕ, ◌+◌, ◌%◌, ◌<◌, slice_index, slice_set}
use Rattle.step_laws.specs.Places.{ack_place, post_place}
use Rattle.guest_ram.specs.Ports.{Shown}
use Rattle.work_queue.specs.declared.rings.Sent.{Sent}
use Rattle.work_queue.specs.declared.rings.Served.{Served}

-- the place for the next post at a target
abbrev pub next_post : Sent → (target : ℕ) → ℕ
next_post sent t = slice_index sent.next t

-- the place for the next load and ack of a source
abbrev pub next_ack : Served → (source : ℕ) → ℕ
next_ack served s = slice_index served.next s

-- one more was posted at the target: its ring goes on by a place
abbrev pub sent_on : Sent → (target : ℕ) → Sent
sent_on sent t = record { next = slice_set sent.next t ((next_post sent t + 1) % 8) }

-- one more of the source was acked
abbrev pub served_on : Served → (source : ℕ) → Served
served_on served s = record { next = slice_set served.next s ((next_ack served s + 1) % 8) }

-- they are those of the record: of each target the place after as many posts as were made there, and of each source the place after as
-- many acks
abbrev pub IsSentBy : Sent → Shown → Type 0
IsSentBy sent p = (t : ℕ) → t < 16 → next_post sent t ≡ post_place t p.own.actor p.own.steps

abbrev pub IsServedBy : Served → Shown → Type 0
IsServedBy served p = (s : ℕ) → s < 17 → next_ack served s ≡ ack_place p.own.actor s p.own.steps
