-- When a kind of step may be made, with its word given by its name.
use Rattle.std.proofs.Common.{◌≡◌, ◌≢◌, ℕ, ◌+◌, ◌<◌, ◌≤◌, true, false, refl, sym, subst, inl}
use Rattle.std.specs.Prelude.{Some, suc, ◌-◌, ◌%◌, ◌/◌, ◌^◌, ◌⊎◌}
use Rattle.step_laws.specs.declared.steps.WordOp.{WordOp}
use Rattle.step_laws.specs.declared.steps.WordOp.TheVariants.{Load, Store, Swap, Add, Exchange, And, Or}
use Rattle.step_laws.specs.Map.{Word, Zero, Pend, Stop, Live, Cons, Ipi, Run, Done, Size, Hsm, Tlb, Place, Dirty, Console, Ram, name_of, loader, Lock, Kick, Start, Opaque, monitor}
use Rattle.step_laws.specs.Fields.{IsReason, IsByteWord, IsRequestWord, IsSize, invalid_bit}
use Rattle.step_laws.specs.TableLaws.{IsOwnTable}
use Rattle.step_laws.specs.declared.map.TlbField.{TlbField}
use Rattle.step_laws.specs.declared.map.TlbField.TheVariants.{Write, Page}
use Rattle.step_laws.specs.Marks.{MayWrite, MayClear, IsSwept, stage, passing, swapping}
use Rattle.step_laws.specs.Harts.{is_running, closed, opened, placed, handed, counted, opening, called, with_start, with_both, taking, is_owing}
use Rattle.step_laws.specs.Sections.{phase, raised, is_claimant, IsOut, MayTouch}
use Rattle.step_laws.specs.Tables.{is_first_slot, is_compare, held_lock, is_clear_due, table_word}
use Rattle.step_laws.specs.Loader.{has_split, IsBooted}
use Rattle.step_laws.specs.Output.{is_finished, is_drawn, has_touched}
use Rattle.step_laws.specs.Places.{last_load, post_place, ack_place}
use Rattle.step_laws.specs.Discipline.{ActorMay, IsPermitted, by_actor, by_loader, Writes, IsServed, poll, post, fetch, ack, claim, check, release, load_stop, set_stop, sign_off, raise, ask, lower, draw, print, load_cons, load_console, read_ram, write_ram, mark, take, touch_ipi, load_slot, load_size, LoaderMay, boot_live, boot_hsm, boot_size, boot_slot, boot_ram, load_first, load_more, IsInUse, minus_one, lock_own, lock_other, unlock, put_compare, put_page, put_size, clear_clean, load_other_size, set_clean, kick, load_kick, clear_kick, load_hsm, begin_start, set_start, set_opaque, add_live, end_start, load_start, load_opaque, take_start, stop, take_live}
use Rattle.guest_ram.specs.Ports.{Shown, May, IsActing, IsBooting}

may : (p : Shown) (word arg : ℕ) (w : Word) (op : WordOp) → name_of word ≡ w → IsActing p → ActorMay p.machine.layout p.own.actor p.own.runs p.own.steps w op arg → May p word op arg
may p word arg w op e acting m = subst (λ v. IsPermitted p.machine.layout p.own.actor p.own.runs p.own.steps v op arg) (sym e) (by_actor acting.actor acting.going m)

pub may_load_stop : (p : Shown) (word : ℕ) → name_of word ≡ Stop → IsActing p → May p word Load 0
may_load_stop p word e acting = may p word 0 Stop Load e acting load_stop

pub may_set_stop : (p : Shown) (word reason : ℕ) → name_of word ≡ Stop → IsReason p.machine.layout reason → IsActing p → May p word (Exchange 0) reason
may_set_stop p word reason e is acting = may p word reason Stop (Exchange 0) e acting (set_stop is)

pub may_sign_off : (p : Shown) (word : ℕ) → name_of word ≡ Done p.own.actor → IsActing p → May p word Store 1
may_sign_off p word e acting = may p word 1 (Done p.own.actor) Store e acting sign_off

pub may_raise : (p : Shown) (word : ℕ) → name_of word ≡ Run p.own.actor → IsActing p → IsOut p.own.steps → May p word Store 1
may_raise p word e acting at = may p word 1 (Run p.own.actor) Store e acting (raise at)

pub may_ask : (p : Shown) (word : ℕ) → name_of word ≡ Pend → IsActing p → phase p.own.steps ≡ raised → May p word Load 0
may_ask p word e acting at = may p word 0 Pend Load e acting (ask at)

pub may_lower : (p : Shown) (word : ℕ) → name_of word ≡ Run p.own.actor → IsActing p → May p word Store 0
may_lower p word e acting = may p word 0 (Run p.own.actor) Store e acting lower

pub may_draw : (p : Shown) (word : ℕ) → name_of word ≡ Cons → IsActing p → MayTouch p.machine.layout p.own.actor p.own.steps → May p word Add 1
may_draw p word e acting at = may p word 1 Cons Add e acting (draw at)

pub may_load_cons : (p : Shown) (word : ℕ) → name_of word ≡ Cons → IsActing p → MayTouch p.machine.layout p.own.actor p.own.steps → May p word Load 0
may_load_cons p word e acting at = may p word 0 Cons Load e acting (load_cons at)

pub may_print : (p : Shown) (word i arg : ℕ) → name_of word ≡ Console i → IsActing p → MayTouch p.machine.layout p.own.actor p.own.steps → is_drawn i p.own.steps ≡ true → IsByteWord arg → May p word Store arg
may_print p word i arg e acting at mine byte = may p word arg (Console i) Store e acting (print at mine byte)

pub may_load_console : (p : Shown) (word i : ℕ) → name_of word ≡ Console i → IsActing p → MayTouch p.machine.layout p.own.actor p.own.steps → May p word Load 0
may_load_console p word i e acting at = may p word 0 (Console i) Load e acting (load_console at)

pub may_read_ram : (p : Shown) (word i : ℕ) → name_of word ≡ Ram i → IsActing p → MayTouch p.machine.layout p.own.actor p.own.steps → May p word Load 0
may_read_ram p word i e acting at = may p word 0 (Ram i) Load e acting (read_ram at)

pub may_write_ram : (p : Shown) (word i arg : ℕ) (op : WordOp) → name_of word ≡ Ram i → IsActing p → Writes op → MayWrite p.machine.layout p.own.actor i p.own.steps → May p word op arg
may_write_ram p word i arg op e acting writes at = may p word arg (Ram i) op e acting (write_ram writes at)

pub may_touch_ipi : (p : Shown) (word arg : ℕ) (op : WordOp) → name_of word ≡ Ipi → IsActing p → MayTouch p.machine.layout p.own.actor p.own.steps → May p word op arg
may_touch_ipi p word arg op e acting at = may p word arg Ipi op e acting (touch_ipi at)

own_load : (p : Shown) (w : Word) → p.own.actor < p.machine.layout.harts → IsOwnTable p.own.actor w → ActorMay p.machine.layout p.own.actor p.own.runs p.own.steps w Load 0
own_load p (Tlb h j f) hart own = subst (λ a. ActorMay p.machine.layout p.own.actor p.own.runs p.own.steps (Tlb a j f) Load 0) (sym own) (load_slot hart)
own_load p (Size h) hart own = subst (λ a. ActorMay p.machine.layout p.own.actor p.own.runs p.own.steps (Size a) Load 0) (sym own) (load_size hart)
own_load p w hart own = absurd own

pub may_look : (p : Shown) (word : ℕ) → p.own.actor < p.machine.layout.harts → IsOwnTable p.own.actor (name_of word) → is_finished p.own.steps ≡ false → May p word Load 0
may_look p word hart own going = by_actor (inl hart) going (own_load p (name_of word) hart own)

boots : (p : Shown) (word arg : ℕ) (w : Word) (op : WordOp) → name_of word ≡ w → p.own.actor ≡ loader → LoaderMay p.machine.layout p.own.steps w op arg → May p word op arg
boots p word arg w op e is m = subst (λ v. IsPermitted p.machine.layout p.own.actor p.own.runs p.own.steps v op arg) (sym e) (by_loader is m)

pub may_boot_live : (p : Shown) (word : ℕ) → name_of word ≡ Live → IsBooting p → May p word Store 1
may_boot_live p word e b = boots p word 1 Live Store e b.actor (boot_live b.early)

pub may_boot_hsm : (p : Shown) (word h : ℕ) → name_of word ≡ Hsm h → IsBooting p → 1 ≤ h → h < p.machine.layout.harts → May p word Store 1
may_boot_hsm p word h e b some less = boots p word 1 (Hsm h) Store e b.actor (boot_hsm b.early some less)

pub may_boot_size : (p : Shown) (word h : ℕ) → name_of word ≡ Size h → IsBooting p → h < p.machine.layout.harts → May p word Store 64
may_boot_size p word h e b less = boots p word 64 (Size h) Store e b.actor (boot_size b.early less)

pub may_boot_slot : (p : Shown) (word h j : ℕ) (f : TlbField) → name_of word ≡ Tlb h j f → IsBooting p → h < p.machine.layout.harts → is_first_slot j ≡ true → is_compare f ≡ true → May p word Store 1
may_boot_slot p word h j f e b less first field = boots p word 1 (Tlb h j f) Store e b.actor (boot_slot b.early less first field)

pub may_boot_ram : (p : Shown) (word i arg : ℕ) → name_of word ≡ Ram i → IsBooting p → May p word Store arg
may_boot_ram p word i arg e b = boots p word arg (Ram i) Store e b.actor (boot_ram b.early)

-- the loads of word 0 with which the loader splits seats off and joins them
pub may_split_first : (p : Shown) (word : ℕ) → name_of word ≡ Zero → p.own.actor ≡ loader → IsBooted p.machine.layout p.own.steps → May p word Load 0
may_split_first p word e is booted = boots p word 0 Zero Load e is (load_first booted)

pub may_split_more : (p : Shown) (word : ℕ) → name_of word ≡ Zero → p.own.actor ≡ loader → has_split p.own.steps ≡ true → May p word Load 0
may_split_more p word e is began = boots p word 0 Zero Load e is (load_more began)

pub may_claim : (p : Shown) (word arg : ℕ) → name_of word ≡ Pend → arg ≡ p.own.actor + 1 → IsActing p → IsOut p.own.steps → May p word (Exchange 0) arg
may_claim p word arg e g acting at = subst (λ n. May p word (Exchange 0) n) (sym g) (may p word (p.own.actor + 1) Pend (Exchange 0) e acting (claim at))

pub may_check : (p : Shown) (word b : ℕ) → name_of word ≡ Run b → IsActing p → b ≢ p.own.actor → is_claimant p.own.steps ≡ true → May p word Load 0
may_check p word b e acting ne at = may p word 0 (Run b) Load e acting (check ne at)

pub may_release : (p : Shown) (word : ℕ) → name_of word ≡ Pend → IsActing p → is_claimant p.own.steps ≡ true → May p word Store 0
may_release p word e acting at = may p word 0 Pend Store e acting (release at)

pub may_poll : (p : Shown) (word t k : ℕ) → name_of word ≡ Place t p.own.actor k → IsActing p → t ≢ p.own.actor → May p word Load 0
may_poll p word t k e acting ne = may p word 0 (Place t p.own.actor k) Load e acting (poll ne)

pub may_post : (p : Shown) (word t k q : ℕ) → name_of word ≡ Place t p.own.actor k → IsActing p → t ≢ p.own.actor → t < p.machine.layout.harts → k ≡ post_place t p.own.actor p.own.steps → IsRequestWord q
    → last_load (Place t p.own.actor k) p.own.steps ≡ Some 0 → May p word Store q
may_post p word t k q e acting ne l at is free = may p word q (Place t p.own.actor k) Store e acting (post ne l at is free)

pub may_fetch : (p : Shown) (word s k : ℕ) → name_of word ≡ Place p.own.actor s k → IsActing p → s ≢ p.own.actor → p.own.actor < p.machine.layout.harts → k ≡ ack_place p.own.actor s p.own.steps → has_touched p.own.steps ≡ false → May p word Load 0
may_fetch p word s k e acting ne l at calm = may p word 0 (Place p.own.actor s k) Load e acting (fetch ne l at calm)

pub may_ack : (p : Shown) (word s k q : ℕ) → name_of word ≡ Place p.own.actor s k → IsActing p → s ≢ p.own.actor → p.own.actor < p.machine.layout.harts → k ≡ ack_place p.own.actor s p.own.steps → has_touched p.own.steps ≡ false → IsRequestWord q
    → last_load (Place p.own.actor s k) p.own.steps ≡ Some q → IsServed p.own.actor (Place p.own.actor s k) q p.own.steps → May p word Store 0
may_ack p word s k q e acting ne l at calm is there done = may p word 0 (Place p.own.actor s k) Store e acting (ack ne l at calm is there done)

pub ruleset boot_kinds = (may_boot_live, may_boot_hsm, may_boot_size, may_boot_slot, may_boot_ram)

pub ruleset section_kinds = (may_raise, may_ask, may_lower, may_claim, may_check, may_release)

pub ruleset touch_kinds = (may_read_ram, may_write_ram, may_touch_ipi, may_draw, may_load_cons, may_print, may_load_console)

pub ruleset end_kinds = (may_load_stop, may_set_stop, may_sign_off)

pub ruleset place_kinds = (may_poll, may_post, may_fetch, may_ack)

-- locks
pub may_lock_own : (p : Shown) (word arg : ℕ) → name_of word ≡ Lock p.own.actor → arg ≡ p.own.actor + 1 → IsActing p → p.own.actor < p.machine.layout.harts → held_lock p.own.steps ≡ 0 → May p word (Exchange 0) arg
may_lock_own p word arg e g acting l free = subst (λ n. May p word (Exchange 0) n) (sym g) (may p word (p.own.actor + 1) (Lock p.own.actor) (Exchange 0) e acting (lock_own free l))

pub may_lock_other : (p : Shown) (word arg h : ℕ) → name_of word ≡ Lock h → arg ≡ p.own.actor + 1 → IsActing p → p.own.actor ≡ monitor → h < p.machine.layout.harts → held_lock p.own.steps ≡ 0 → stage p.machine.layout p.own.steps ≡ passing h → May p word (Exchange 0) arg
may_lock_other p word arg h e g acting is l free st = subst (λ n. May p word (Exchange 0) n) (sym g) (may p word (p.own.actor + 1) (Lock h) (Exchange 0) e acting (lock_other free is l st))

pub may_unlock : (p : Shown) (word h : ℕ) → name_of word ≡ Lock h → IsActing p → held_lock p.own.steps ≡ suc h
    → (h ≡ p.own.actor → (j : ℕ) (f : TlbField) → is_compare f ≡ true → is_clear_due p.own.actor j f p.own.steps ≡ false) → (h ≢ p.own.actor → IsSwept h p.own.steps) → May p word Store 0
may_unlock p word h e acting word_value paid swept = may p word 0 (Lock h) Store e acting (unlock word_value paid swept)

pub may_unlock_own : (p : Shown) (word : ℕ) → name_of word ≡ Lock p.own.actor → IsActing p → held_lock p.own.steps ≡ suc p.own.actor
    → ((j : ℕ) (f : TlbField) → is_compare f ≡ true → is_clear_due p.own.actor j f p.own.steps ≡ false) → May p word Store 0
may_unlock_own p word e acting held paid = may_unlock p word p.own.actor e acting held (λ _. paid) (λ ne. absurd (ne refl))

pub may_unlock_other : (p : Shown) (word h : ℕ) → name_of word ≡ Lock h → IsActing p → held_lock p.own.steps ≡ suc h → h ≢ p.own.actor → IsSwept h p.own.steps → May p word Store 0
may_unlock_other p word h e acting held other swept = may_unlock p word h e acting held (λ is. absurd (other is)) (λ _. swept)

-- marks and takes
pub may_mark : (p : Shown) (word i page arg : ℕ) → name_of word ≡ Dirty i → IsActing p → p.own.actor < p.machine.layout.harts → page < p.machine.layout.pages → i ≡ page / 64 → arg ≡ 2 ^ (page % 64) → May p word Or arg
may_mark p word i page arg e acting l few at is = may p word arg (Dirty i) Or e acting (mark l few at is)

pub may_take : (p : Shown) (word i : ℕ) → name_of word ≡ Dirty i → IsActing p → p.own.actor ≡ monitor → stage p.machine.layout p.own.steps ≡ swapping i → May p word Swap 0
may_take p word i e acting is at = may p word 0 (Dirty i) Swap e acting (take is at)

pub ruleset mark_kinds = (may_mark, may_take)

-- tables
pub may_put_compare : (p : Shown) (word j arg : ℕ) (f : TlbField) → name_of word ≡ Tlb p.own.actor j f → IsActing p → held_lock p.own.steps ≡ suc p.own.actor → is_compare f ≡ true → IsInUse p.own.actor j p.own.steps ⊎ (arg ≡ 1) → (f ≡ Write → arg % 4 ≡ 0 → MayClear p.machine.layout p.own.actor j p.own.steps) → May p word Store arg
may_put_compare p word j arg f e acting word_value compare there clear = may p word arg (Tlb p.own.actor j f) Store e acting (put_compare word_value compare there clear)

pub may_put_page : (p : Shown) (word j arg : ℕ) → name_of word ≡ Tlb p.own.actor j Page → IsActing p → held_lock p.own.steps ≡ suc p.own.actor → IsInUse p.own.actor j p.own.steps
    → invalid_bit (table_word (Tlb p.own.actor j Write) p.own.steps) ≡ 1 → May p word Store arg
may_put_page p word j arg e acting word_value there invalid = may p word arg (Tlb p.own.actor j Page) Store e acting (put_page word_value there invalid)

pub may_put_size : (p : Shown) (word size : ℕ) → name_of word ≡ Size p.own.actor → IsActing p → held_lock p.own.steps ≡ suc p.own.actor → IsSize size → May p word Store size
may_put_size p word size e acting word_value is = may p word size (Size p.own.actor) Store e acting (put_size word_value is)

pub may_clear_clean : (p : Shown) (word j : ℕ) → name_of word ≡ Tlb p.own.actor j Write → IsActing p → held_lock p.own.steps ≡ suc p.own.actor → MayClear p.machine.layout p.own.actor j p.own.steps → May p word And (2 ^ 64 - 3)
may_clear_clean p word j e acting word_value clear = may p word (2 ^ 64 - 3) (Tlb p.own.actor j Write) And e acting (clear_clean word_value clear)

pub may_load_other_size : (p : Shown) (word h : ℕ) → name_of word ≡ Size h → IsActing p → p.own.actor ≡ monitor → held_lock p.own.steps ≡ suc h → May p word Load 0
may_load_other_size p word h e acting is word_value = may p word 0 (Size h) Load e acting (load_other_size is word_value)

pub may_set_clean : (p : Shown) (word h j : ℕ) → name_of word ≡ Tlb h j Write → IsActing p → p.own.actor ≡ monitor → held_lock p.own.steps ≡ suc h → May p word Or 2
may_set_clean p word h j e acting is word_value = may p word 2 (Tlb h j Write) Or e acting (set_clean is word_value)

-- calls out
pub may_kick : (p : Shown) (word b : ℕ) → name_of word ≡ Kick b → IsActing p → b ≢ p.own.actor → b < p.machine.layout.harts → May p word Store 1
may_kick p word b e acting ne l = may p word 1 (Kick b) Store e acting (kick ne l)

pub may_load_kick : (p : Shown) (word : ℕ) → name_of word ≡ Kick p.own.actor → IsActing p → p.own.actor < p.machine.layout.harts → May p word Load 0
may_load_kick p word e acting l = may p word 0 (Kick p.own.actor) Load e acting (load_kick l)

pub may_clear_kick : (p : Shown) (word : ℕ) → name_of word ≡ Kick p.own.actor → IsActing p → p.own.actor < p.machine.layout.harts → May p word Store 0
may_clear_kick p word e acting l = may p word 0 (Kick p.own.actor) Store e acting (clear_kick l)

-- hart states
pub may_load_hsm : (p : Shown) (word h : ℕ) → name_of word ≡ Hsm h → IsActing p → May p word Load 0
may_load_hsm p word h e acting = may p word 0 (Hsm h) Load e acting load_hsm

pub may_begin_start : (p : Shown) (word h : ℕ) → name_of word ≡ Hsm h → IsActing p → p.own.actor < p.machine.layout.harts → is_running p.own.actor p.own.runs p.own.steps ≡ true → opening p.own.steps ≡ closed → h ≢ p.own.actor → h < p.machine.layout.harts
    → May p word (Exchange 1) 3
may_begin_start p word h e acting hart on none other l = may p word 3 (Hsm h) (Exchange 1) e acting (begin_start hart on none other l)

pub may_set_start : (p : Shown) (word h at : ℕ) → name_of word ≡ Start h → IsActing p → opening p.own.steps ≡ opened h → at % 4 ≡ 0 → May p word Store at
may_set_start p word h at e acting o z = may p word at (Start h) Store e acting (set_start o z)

pub may_set_opaque : (p : Shown) (word h arg : ℕ) → name_of word ≡ Opaque h → IsActing p → opening p.own.steps ≡ placed h → May p word Store arg
may_set_opaque p word h arg e acting o = may p word arg (Opaque h) Store e acting (set_opaque o)

pub may_add_live : (p : Shown) (word h : ℕ) → name_of word ≡ Live → IsActing p → opening p.own.steps ≡ handed h → May p word Add 1
may_add_live p word h e acting o = may p word 1 Live Add e acting (add_live o)

pub may_end_start : (p : Shown) (word h : ℕ) → name_of word ≡ Hsm h → IsActing p → opening p.own.steps ≡ counted h → May p word Store 2
may_end_start p word h e acting o = may p word 2 (Hsm h) Store e acting (end_start o)

pub may_load_start : (p : Shown) (word : ℕ) → name_of word ≡ Start p.own.actor → IsActing p → taking p.own.actor p.own.steps ≡ called → May p word Load 0
may_load_start p word e acting t = may p word 0 (Start p.own.actor) Load e acting (load_start t)

pub may_load_opaque : (p : Shown) (word : ℕ) → name_of word ≡ Opaque p.own.actor → IsActing p → taking p.own.actor p.own.steps ≡ with_start → May p word Load 0
may_load_opaque p word e acting t = may p word 0 (Opaque p.own.actor) Load e acting (load_opaque t)

pub may_take_start : (p : Shown) (word : ℕ) → name_of word ≡ Hsm p.own.actor → IsActing p → taking p.own.actor p.own.steps ≡ with_both → is_running p.own.actor p.own.runs p.own.steps ≡ false → is_owing p.own.actor p.own.steps ≡ false → May p word Store 0
may_take_start p word e acting t off paid = may p word 0 (Hsm p.own.actor) Store e acting (take_start t off paid)

pub may_stop : (p : Shown) (word : ℕ) → name_of word ≡ Hsm p.own.actor → IsActing p → p.own.actor < p.machine.layout.harts → is_running p.own.actor p.own.runs p.own.steps ≡ true → opening p.own.steps ≡ closed → May p word Store 1
may_stop p word e acting l on none = may p word 1 (Hsm p.own.actor) Store e acting (stop l on none)

pub may_take_live : (p : Shown) (word : ℕ) → name_of word ≡ Live → IsActing p → is_owing p.own.actor p.own.steps ≡ true → May p word Add minus_one
may_take_live p word e acting o = may p word minus_one Live Add e acting (take_live o)

pub ruleset lock_kinds = (may_lock_own, may_lock_other, may_unlock_own, may_unlock_other)

pub ruleset table_kinds = (may_put_compare, may_put_page, may_put_size, may_clear_clean, may_load_other_size, may_set_clean)

pub ruleset kick_kinds = (may_kick, may_load_kick, may_clear_kick)

pub ruleset state_kinds = (may_load_hsm, may_begin_start, may_set_start, may_set_opaque, may_add_live, may_end_start, may_load_start, may_load_opaque, may_take_start, may_stop, may_take_live)
