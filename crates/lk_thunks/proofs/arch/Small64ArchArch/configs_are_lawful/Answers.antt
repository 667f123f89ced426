use Rattle.std.proofs.Common.{refl}
use Rattle.lk_thunks.proofs.Lawful.{lawful}
use Rattle.lk_thunks.proofs.arch.Small64ArchArch.configs_are_lawful.Goals as goal

pub returns : goal.returns
returns c = λ link good. lawful link good (c.options_are_good.ensures link good) (c.part_fields_are_good.ensures link good) c.parts_are_aligned.ensures link.plan.named.primary refl
