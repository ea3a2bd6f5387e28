-- Looks at IPI, with an interrupt or without, and stops at the limit.
use Rattle.std.proofs.Common.{◌≡◌, ℕ, ◌<◌, Bool, true, [], ◌∷◌, refl, sym, ap, subst, ◌∙◌, inl}
use Rattle.rv64_priv.specs.State.{Arch}
use Rattle.rv64_priv.specs.Csr.{regime}
use Rattle.rv64_priv.specs.Trap.{software_interrupt, trapped}
use Rattle.rv64_priv.specs.declared.state.Regime.{Regime}
use Rattle.step_laws.specs.declared.words.Layout.{Layout}
use Rattle.step_laws.specs.declared.steps.WordOp.TheVariants.{Exchange, Load}
use Rattle.step_laws.specs.Map.{Ipi, Stop, name_of}
use Rattle.machine_model.specs.declared.reason.Reason.{Reason}
use Rattle.machine_model.specs.Event.{Interrupt, Stop as Ended}
use Rattle.machine_model.specs.Lawful.{is_pending}
use Rattle.machine_model.specs.Own.{Own}
use Rattle.machine_model.specs.ReasonWords.{reason_word}
use Rattle.machine_model.specs.State.{Setup}
use Rattle.guest_ram.specs.Ports.{Shown, layout_of}
use Rattle.tlb_entry.specs.declared.books.Book.{Book}
use Rattle.turn_pieces.specs.Doing.{IsQuiet}
use Rattle.turn_pieces.specs.Folds.{drawn_next, stored_next, unstored_next}
use Rattle.turn_pieces.specs.Kept.{bytes, places}
use Rattle.turn_pieces.specs.Log.{Log, made}
use Rattle.turn_pieces.specs.Owed.{gives, nothing, unstored}
use Rattle.turn_pieces.proofs.Offers.{free}
use Rattle.turn_pieces.proofs.Writers.{owed_named}
use Rattle.access_pieces.specs.Serving.{Rests, Settles}
use Rattle.call_pieces.proofs.Ending.{cut_none}
use Rattle.call_pieces.proofs.Moving.{ipi_is}
use Rattle.fetch_pieces.proofs.Regimes.{tells_agree, trap_alike}
use Rattle.signal_pieces.specs.Laws.{InterruptsStand, LimitsStand, LooksLetFetch}
use Rattle.signal_pieces.specs.Signalling.{ComesTo}
use Rattle.signal_pieces.proofs.Single.{one_passes, one_stands, step_at}

there : (p : Shown) (u : Setup) (a : ℕ) → u.layout ≡ layout_of p → a ≡ p.own.actor → p.own.actor < (layout_of p).harts → a < u.layout.harts
there p u a same own less = subst (λ n. n < u.layout.harts) (sym own) (subst (λ (y : Layout). p.own.actor < y.harts) (sym same) less)

rest_settles : (others : ℕ → Bool) (o : Own) (p : Shown) (b : Book) (r : Regime) (u : Setup) (a : ℕ) (l : Log) → Rests others o p b r u a l → Settles others o p b r u a l
rest_settles others o p b r u a l x = record { tells = x.tells; settled = x.settled }

quiet_interrupt : (h : ℕ) → IsQuiet (Interrupt h)
quiet_interrupt h = record { does = record { entry_is = refl; bytes_are = refl; reason_is = refl; starts_is = refl; stops_is = refl }; begins_not = refl }

-- under the regime that a trap leaves
trapped_comes : (others : ℕ → Bool) (o : Own) (q : Shown) (b : Book) (c : Arch) (cause tval : ℕ) (u : Setup) (a : ℕ) (l : Log) → ComesTo others o q b (regime c) u a l → ComesTo others o q b (regime (trapped c cause tval)) u a l
trapped_comes others o q b c cause tval u a l x = record {
  late = x.late;
  grows = x.grows;
  settles = record { tells = tells_agree o q b (regime c) (regime (trapped c cause tval)) u a x.late (trap_alike c cause tval) x.settles.tells; settled = x.settles.settled };
  not_due = x.not_due;
}

pub interrupts_stand : InterruptsStand
interrupts_stand p q b c found m hart pending others o u a l can x still =
    let own = x.tells.tells.stands.actor in
    let s = step_at p m.word Load 0 found in
    let called : is_pending o.arch a found ≡ true = (λ i. is_pending (can.arch_is i) (own i) found) ∙ pending in
    trapped_comes others (record o { arch = trapped c software_interrupt 0 }) q b c software_interrupt 0 u a l
    (subst (λ (y : Arch). ComesTo others (record o { arch = trapped y software_interrupt 0 }) q b (regime c) u a l) can.arch_is
    (one_stands p q Ipi Load 0 found m tt refl b (regime c) others o u a l (Interrupt a) nothing (rest_settles others o p b (regime c) u a l x)
    (free u a l x.tells.tells.clear s Ipi Load m.name refl tt tt tt) (owed_named l s Ipi Load m.name refl)
    (ap (λ v. drawn_next v Load found (places l)) m.name ∙ x.tells.tells.none_drawn) (ap (λ v. unstored_next v Load found [] (unstored l)) m.name ∙ x.tells.tells.none_left) (λ bs. refl) refl
    (there p u a x.tells.tells.stands.layout own hart, record { runs = can.runs; holds_none = can.holds_none; not_due = still; called = (ipi_is m.word m.name, refl, called) })
    (quiet_interrupt a) refl (λ items. refl)))

pub looks_let_fetch : LooksLetFetch
looks_let_fetch p q b c found m none others o u a l can x still =
    let s = step_at p m.word Load 0 found in
    let y = one_passes p q Ipi Load 0 found m tt refl tt (λ n. tt) b (regime c) others o u a l x in (
      made s ∷ l,
      y.grows,
      record {
        rests = y.rests;
        not_due = still;
        arch_is = can.arch_is;
        runs = can.runs;
        holds_none = can.holds_none;
        unasked = record { ipi = found; loaded = inl ((ipi_is m.word m.name, refl, refl), tt); quiet = ap (λ n. is_pending c n found) x.tells.tells.stands.actor ∙ none };
      },
    )

pub limits_stand : LimitsStand
limits_stand stands p q b r set hart others o u a l x due =
    let own = x.tells.tells.stands.actor in
    let m = set.exchanges in
    let number = reason_word (Reason.Limit p.own.actor) in
    let s = step_at p m.word (Exchange 0) number set.found in
    let drawn : places (made s ∷ l) ≡ [] = ap (λ v. drawn_next v (Exchange 0) set.found (places l)) m.name ∙ x.tells.tells.none_drawn in
    let none : bytes (made s ∷ l) ≡ [] = ap (λ ds. stored_next (name_of m.word) (Exchange 0) number ds (bytes l)) x.tells.tells.none_drawn in
    one_stands p q Stop (Exchange 0) number set.found m tt refl b r others o u a l (Ended a (Reason.Limit a)) (gives number) x
    (free u a l x.tells.tells.clear s Stop (Exchange 0) m.name refl refl tt tt) (owed_named l s Stop (Exchange 0) m.name refl)
    drawn (ap (λ v. unstored_next v (Exchange 0) set.found [] (unstored l)) m.name ∙ x.tells.tells.none_left) (λ bs. refl) refl
    (refl, there p u a x.tells.tells.stands.layout own hart, due)
    (record {
      reason = Reason.Limit a;
      is = ap (λ n. reason_word (Reason.Limit n)) (sym own);
      pays = record { does = record { entry_is = refl; bytes_are = sym none; reason_is = refl; starts_is = refl; stops_is = refl }; begins_not = refl };
      fills_it = λ _. cut_none (places (made s ∷ l)) (bytes (made s ∷ l)) drawn none;
    }) refl (λ items. refl)
