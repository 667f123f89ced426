use Rattle.std.proofs.Common.{◌∙◌}
use Rattle.lk_input.proofs.Words.{first-spelled}
use Rattle.lk_input.proofs.read.described.word_of.Goals as goal

pub returns : goal.returns
returns g c = c.first_word.ensures ∙ first-spelled g.W.Word.spelling c.args.words.now c.args.text.now
