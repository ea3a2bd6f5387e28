-- Each command of a script is one that the machine can do.
use Rattle.std.proofs.Common.{◌≡◌, ℕ, ◌∙◌, ap, subst, refl, Bool, true, false, List, [], ◌∷◌, ◌++◌}
use Rattle.std.specs.Prelude.{◌&&◌, Option, Some, None, if◌then◌else◌}
use Rattle.std.specs.List.{list_all}
use Rattle.std.proofs.lemmas.Option.{none-some, same_Some}
use Rattle.std.proofs.lemmas.List.Folds.{list_all-append}
use Rattle.std.proofs.Math.Bool.{and-true}
use Rattle.monitor_script.specs.declared.scripts.Command.{Command}
use Rattle.monitor_script.specs.Scripts.{if_possible, is_possible}

tested : (pages : ℕ) (d c : Command) (b : Bool) → is_possible pages d ≡ b → (if b then Some d else None) ≡ Some c → is_possible pages c ≡ true
tested pages d c true is e = subst (λ x. is_possible pages x ≡ true) (same_Some d c e) is
tested pages d c false is e = absurd (none-some c e)

pub kept_possible : (pages : ℕ) (o : Option Command) (c : Command) → if_possible pages o ≡ Some c → is_possible pages c ≡ true
kept_possible pages None c e = absurd (none-some c e)
kept_possible pages (Some d) c e = tested pages d c (is_possible pages d) refl e

-- one more
pub more_possible : (pages : ℕ) (o : Option Command) (c : Command) (commands : List Command) → if_possible pages o ≡ Some c → list_all (is_possible pages) commands ≡ true
    → list_all (is_possible pages) (commands ++ c ∷ []) ≡ true
more_possible pages o c commands e all = list_all-append (is_possible pages) commands (c ∷ []) ∙ ap (λ b. b && (is_possible pages c && true)) all ∙ and-true (is_possible pages c) ∙ kept_possible pages o c e
