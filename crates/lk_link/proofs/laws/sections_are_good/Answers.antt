use Rattle.lk_link.proofs.GoodLinks.{section_of, section_parts_within}
use Rattle.lk_link.proofs.laws.sections_are_good.Goals as goal

pub returns : goal.returns
returns c = λ link s section h at_s. (section_of link s section h at_s, section_parts_within link.plan.sections s section at_s)
