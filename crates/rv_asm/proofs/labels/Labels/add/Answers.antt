use Rattle.std.proofs.Common.{◌≡◌, sym, ap, ◌∙◌, true, false}
use Rattle.std.specs.Prelude.{is_some}
use Rattle.rv_asm.specs.Assembly.{place_of}
use Rattle.rv_asm.proofs.LabelSets.{copied_some, labels_again, labels_first, none_of, set_where_placed}
use Rattle.rv_asm.proofs.labels.Labels.add.Goals as goal

pub returns-then-is_some : goal.returns-then-is_some
returns-then-is_some c = λ sets are.
    let found : is_some (place_of sets c.args.name.now) ≡ true = ap is_some (sym (are c.args.name)) ∙ ap is_some (sym c.get.ensures.value) ∙ copied_some c.get.result ∙ sym c.if-is_some.ensures in
    (labels_again sets c.args.self.now.places c.args.name.now c.args.place found are, sym (set_where_placed sets c.args.name.now ∙ found))

pub returns : goal.returns
returns c = λ sets are.
    let lost : is_some (place_of sets c.args.name.now) ≡ false = ap is_some (sym (are c.args.name)) ∙ ap is_some (sym c.get.ensures.value) ∙ copied_some c.get.result ∙ sym c.if-is_some.ensures in
    (labels_first sets c.args.self.now.places c.insert.new.self c.args.name c.args.place (none_of _ lost) are c.in_ok-insert.ensures.updates, sym (set_where_placed sets c.args.name.now ∙ lost))
