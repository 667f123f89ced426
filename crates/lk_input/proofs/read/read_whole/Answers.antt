use Rattle.std.proofs.lemmas.Str.{is_utf8-from_IsUtf8}
use Rattle.lk_input.proofs.read.read_whole.Goals as goal

pub returns : goal.returns
returns c =
    let text = c.in_ok-text.ensures.cases in
    rw (is_utf8-from_IsUtf8 c.args.bytes.now text.1) (rw text.0 at c.read_text.ensures)
