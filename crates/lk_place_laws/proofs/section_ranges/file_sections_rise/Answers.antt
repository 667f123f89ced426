use Rattle.lk_place_laws.proofs.SectionRanges.{file_sections_rise}
use Rattle.lk_place_laws.proofs.section_ranges.file_sections_rise.Goals as goal

pub returns : goal.returns
returns c = file_sections_rise
