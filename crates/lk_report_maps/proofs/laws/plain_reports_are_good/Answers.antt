use Rattle.lk_report_maps.proofs.GoodReports.{plain_reports_are_good}
use Rattle.lk_report_maps.proofs.laws.plain_reports_are_good.Goals as goal

pub returns : goal.returns
returns c =
    plain_reports_are_good c.defined_layouts_are_sound.ensures c.laid_out_links_are_well_formed.ensures c.relaxed_stands.ensures c.file_sections_are_apart.ensures
    c.plain_memory_sections_are_apart.ensures c.sections_fit.ensures c.segments_fit.ensures c.plain_segments_hold_sections.ensures
