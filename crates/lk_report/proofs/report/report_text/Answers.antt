use Rattle.std.specs.Prelude.{string_bytes}
use Rattle.lk_report.proofs.Lines.{whole_report}
use Rattle.lk_report.proofs.report.report_text.Goals as goal

pub returns : goal.returns
returns c = whole_report c.args.link.now c.args.layout.now (string_bytes c.write_end.new.text)
    (cc (c.in_ok-text.ensures.bytes, c.in_ok-write_start.ensures, c.in_ok-write_live_sections.ensures, c.in_ok-write_behind_live.ensures, c.in_ok-write_symbols.ensures, c.in_ok-write_end.ensures))
