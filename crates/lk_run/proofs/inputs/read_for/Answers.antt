use Rattle.std.proofs.Common.{◌≡◌, true, sym, ◌∙◌, arith}
use Rattle.lk_run.specs.declared.inputs.CommandInput.TheVariants.{Bytes}
use Rattle.lk_run.specs.Words.{reads}
use Rattle.lk_run.proofs.RunLaws.{given_read}
use Rattle.lk_run.proofs.inputs.read_for.Goals as goal

pub returns-in-Ok : goal.returns-in-Ok
returns-in-Ok g c =
    let does : reads c.args.command ≡ true = sym c.reads.ensures ∙ c.if-not-reads.false in
    given_read c.args.command (Bytes c.in-Ok.bytes) (g.S.Source.state c.args.source.now) (g.S.Source.state c.read_all.new.source) does
    (omega (arith, c.in-Ok.ensures.within, c.in-Ok.bytes.ok.0), c.in-Ok.ensures.whole) c.in-Ok.ensures.to_its_end c.in-Ok.ensures.cause
