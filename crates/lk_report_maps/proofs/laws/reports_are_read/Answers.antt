use Rattle.lk_report_maps.proofs.Read.{reports_are_read}
use Rattle.lk_report_maps.proofs.laws.reports_are_read.Goals as goal

pub returns : goal.returns
returns c = reports_are_read
