use Rattle.lk_report_maps.proofs.values.report_is_map.Goals as goal

pub returns : goal.returns
returns c = λ machine lawful defined.
    let link = c.args.link.now in
    let layout = c.args.layout.now in
    let short = c.report_is_short.ensures in
    record {
      map = c.reports_are_maps.ensures link layout short.lines;
      read = c.defined_reports_are_read.ensures machine link layout lawful defined short.lines;
      good = λ plain covered. c.plain_reports_are_good.ensures machine link layout lawful defined plain covered short.stack;
    }
