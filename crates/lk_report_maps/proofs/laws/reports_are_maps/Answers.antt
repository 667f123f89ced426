use Rattle.lk_report_maps.proofs.Told.{reports_are_maps}
use Rattle.lk_report_maps.proofs.laws.reports_are_maps.Goals as goal

pub returns : goal.returns
returns c = reports_are_maps
