use Rattle.lk_place_laws.proofs.SectionRanges.{plain_memory_sections_are_apart}
use Rattle.lk_place_laws.proofs.section_ranges.plain_memory_sections_are_apart.Goals as goal

pub returns : goal.returns
returns c = plain_memory_sections_are_apart
