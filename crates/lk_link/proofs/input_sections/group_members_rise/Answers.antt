use Rattle.lk_link.proofs.SectionGroupLemmas.{members_rise}
use Rattle.lk_link.proofs.input_sections.group_members_rise.Goals as goal

pub returns : goal.returns
returns c = members_rise
