use Rattle.std.proofs.Common.{◌≡◌, ◌<◌, ◌∙◌, false, sym, ap, subst, inl, arith}
use Rattle.step_laws.specs.declared.words.Layout.{Layout}
use Rattle.step_laws.specs.Layout.{IsInLimits}
use Rattle.step_laws.specs.Places.{acked_requests}
use Rattle.step_laws.specs.Words.{monitor}
use Rattle.guest_ram.specs.Ports.{Shown}
use Rattle.guest_ram.specs.Shown.{machine_of, pass_shown}
use Rattle.guest_ram_cases.specs.Requests.{IsEmptyTable, IsServing}
use Rattle.guest_ram_cases.proofs.Aside.{acked_goes, serving_goes}
use Rattle.guest_ram_cases.proofs.SeatsMade.{serving_first}
use Rattle.guest_ram_cases.proofs.tracking.snapshot_tour.Goals as goal
use Rattle.guest_ram_cases.proofs.tracking.snapshot_tour.Goals.{then-begin_snapshot, else-begin_snapshot}

pub wait_for_both-requires-clause-places : goal.wait_for_both-requires-clause-places
wait_for_both-requires-clause-places c = c.begin_snapshot.ensures.places c.if-begin_snapshot.true

pub wait_for_both-requires-clause-second : goal.wait_for_both-requires-clause-second
wait_for_both-requires-clause-second c = let m = machine_of c.in_ok-table.field-0.table in let e = c.in_ok-table.ensures.layout in let h = c.requires.harts in let f : m.layout.harts ≡ c.args.layout.harts = ap (λ (l : Layout). l.harts) e in let two : 1 < m.layout.harts = omega (arith, h, f) in
    serving_goes 14 (pass_shown c.pass-storing.result) (pass_shown c.store_on_page-stored.new.port) c.store_on_page-stored.ensures.goes monitor
    (serving_first m (pass_shown c.pass-storing.result) 1 false (c.pass-storing.ensures ∙ c.in_ok-table.ensures.second) (subst IsInLimits (sym e) c.requires.limits) (inl two) monitor two (λ x. omega (arith, x)))
    c.store_on_page-stored.ensures.acting c.store_on_page-stored.ensures.untouched

pub wait_for_both-requires-clause-no_other : goal.wait_for_both-requires-clause-no_other
wait_for_both-requires-clause-no_other c = acked_goes 14 (pass_shown c.pass-storing.result) (pass_shown c.store_on_page-stored.new.port) c.store_on_page-stored.ensures.goes monitor
    ∙ ap (λ (x : Shown). acked_requests x.own.actor monitor x.own.steps) (c.pass-storing.ensures ∙ c.in_ok-table.ensures.second)

pub dirty_victim-dirtied-requires-clause-table : goal.dirty_victim-dirtied-requires-clause-table
dirty_victim-dirtied-requires-clause-table c = let m = machine_of c.in_ok-table.field-0.table in let e = c.in_ok-table.ensures.layout in let h = c.requires.harts in let f : m.layout.harts ≡ c.args.layout.harts = ap (λ (l : Layout). l.harts) e in let two : 1 < m.layout.harts = omega (arith, h, f) in
    let s : IsServing (pass_shown c.store_on_page-stored.new.port) monitor = serving_goes 14 (pass_shown c.pass-storing.result) (pass_shown c.store_on_page-stored.new.port) c.store_on_page-stored.ensures.goes monitor
    (serving_first m (pass_shown c.pass-storing.result) 1 false (c.pass-storing.ensures ∙ c.in_ok-table.ensures.second) (subst IsInLimits (sym e) c.requires.limits) (inl two) monitor two (λ x. omega (arith, x)))
    c.store_on_page-stored.ensures.acting c.store_on_page-stored.ensures.untouched in elim c.if-begin_snapshot.branch [
      | then-begin_snapshot w ↦ subst (λ x. IsEmptyTable (pass_shown x)) (sym w.storing-is) w.wait_for_both.ensures.second.table
      | else-begin_snapshot w ↦ subst (λ x. IsEmptyTable (pass_shown x)) (sym w.storing-is) s.table
    ]
