use Rattle.lk_generator.proofs.WellFormed.{well_formed}
use Rattle.lk_generator.proofs.laws.generated_links_are_well_formed.Goals as goal

pub returns : goal.returns
returns c = λ seed size some few. well_formed seed size some few
