use Rattle.lk_link.specs.TableSizes.{small64_sizes_are_lawful}
use Rattle.lk_link.specs.Target.{small64_is_lawful}
use Rattle.lk_layout.proofs.laws.small64_machine_is_lawful.Goals as goal

pub returns : goal.returns
returns c = record { target = small64_is_lawful; sizes = small64_sizes_are_lawful; thunks = c.configs_are_lawful.ensures }
