use Rattle.lk_report_maps.proofs.Whole.{defined_layouts_are_whole}
use Rattle.lk_report_maps.proofs.laws.defined_layouts_are_whole.Goals as goal

pub returns : goal.returns
returns c = defined_layouts_are_whole c.defined_layouts_are_sound.ensures
