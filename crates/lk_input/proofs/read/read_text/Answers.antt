use Rattle.std.proofs.Common.{◌≡◌, Err, ap, ◌∙◌, arith}
use Rattle.json.specs.Reads.{token_of}
use Rattle.lk_input.specs.Reading.{shaped}
use Rattle.lk_input.specs.Tokens.{input_error}
use Rattle.lk_input.proofs.Texts.{text-read, text-more, text-fails}
use Rattle.lk_input.proofs.read.read_text.Goals as goal

pub returns-in_err-read : goal.returns-in_err-read
returns-in_err-read c =
    let e = c.in_err-read.field-0.0 in
    let gone : c.from_residual-in_err-read.result ≡ Err (input_error e) = grind arith in
    text-fails c.args.text.now e _ gone (rw c.in_ok-reader.ensures.ok at c.in_err-read.ensures)

pub returns-in-Some : goal.returns-in-Some
returns-in-Some c = text-more c.args.text.now c.in_ok-read.read (token_of c.in-Some.field-0) c.next.new.self (rw (c.in_ok-reader.ensures.ok, c.in-Some.ensures.value) at c.in_ok-read.ensures)

pub returns-in-Ok : goal.returns-in-Ok
returns-in-Ok c = text-read c.args.text.now c.in_ok-read.read (rw (c.in_ok-reader.ensures.ok, c.in-None.ensures.value.0) at c.in_ok-read.ensures) ∙ ap shaped c.in-Ok.is

pub returns-in-Err : goal.returns-in-Err
returns-in-Err c = text-read c.args.text.now c.in_ok-read.read (rw (c.in_ok-reader.ensures.ok, c.in-None.ensures.value.0) at c.in_ok-read.ensures) ∙ ap shaped c.in-Err.is
