use Rattle.std.proofs.Common.{ap, length, sym, ◌∙◌}
use Rattle.lk_answers.proofs.FileSections.{resolutions_count}
use Rattle.lk_answers.proofs.section_resolution.SectionResolutions.len.Goals as goal

pub returns : goal.returns
returns c = sym (resolutions_count c.self.inside.marks.now c.self.inside.addresses.now c.self.inside.count) ∙ ap length c.self.view_is
