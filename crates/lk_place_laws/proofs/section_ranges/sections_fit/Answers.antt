use Rattle.lk_place_laws.proofs.SectionSpans.{sections_fit}
use Rattle.lk_place_laws.proofs.section_ranges.sections_fit.Goals as goal

pub returns : goal.returns
returns c = sections_fit
