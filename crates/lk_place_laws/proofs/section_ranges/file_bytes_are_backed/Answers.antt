use Rattle.lk_place_laws.proofs.SectionSpans.{file_bytes_are_backed}
use Rattle.lk_place_laws.proofs.section_ranges.file_bytes_are_backed.Goals as goal

pub returns : goal.returns
returns c = file_bytes_are_backed
