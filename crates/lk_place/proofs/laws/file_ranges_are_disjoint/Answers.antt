use Rattle.lk_place.proofs.ApartLaws.{file_ranges_are_disjoint}
use Rattle.lk_place.proofs.laws.file_ranges_are_disjoint.Goals as goal

pub returns : goal.returns
returns c = file_ranges_are_disjoint
