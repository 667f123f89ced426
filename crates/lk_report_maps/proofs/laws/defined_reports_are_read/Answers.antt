use Rattle.lk_report_maps.proofs.Whole.{defined_reports_are_read}
use Rattle.lk_report_maps.proofs.laws.defined_reports_are_read.Goals as goal

pub returns : goal.returns
returns c = defined_reports_are_read c.reports_are_read.ensures c.defined_layouts_are_whole.ensures
