use Rattle.lk_input.specs.Words.{spelled}
use Rattle.lk_input.proofs.Plain.{plain-word-by}
use Rattle.lk_input.proofs.read.plain.plain_word.Goals as goal

pub returns-in-String : goal.returns-in-String
returns-in-String g c =
    rw c.in-String.is (plain-word-by (spelled g.W.Word.spelling c.args.words.now) c.in-String.text.now c.word_of.result c.word_of.ensures)
