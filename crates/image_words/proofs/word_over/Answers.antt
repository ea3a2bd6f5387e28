-- A whole word of the file.
use Rattle.std.proofs.Common.{◌∙◌}
use Rattle.image_words.proofs.Reached.{word_of_file}
use Rattle.image_words.proofs.word_over.Goals as goal

pub returns-in-Some : goal.returns-in-Some
returns-in-Some c =
    let at = c.in-Some.ensures.some in
    c.file_word.ensures ∙ word_of_file c.args.file.now c.args.part.now c.args.rest.now c.args.pa c.in-Some.at at.0 at.1 at.2
