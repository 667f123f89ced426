use Rattle.std.specs.Prelude.{string_bytes}
use Rattle.lk_report.proofs.Lines.{whole_report}
use Rattle.lk_report.proofs.report.report_text_by_workers.Goals as goal

pub returns : goal.returns
returns g c = whole_report c.args.link.now c.args.layout.now (string_bytes c.write_end.new.text)
    (cc (c.in_ok-text.ensures.bytes, c.in_ok-write_start.ensures, c.in_ok-live.ensures, c.in_ok-add_texts.ensures, c.in_ok-write_behind_live.ensures, c.in_ok-add_parts.ensures, c.in_ok-write_end.ensures))
