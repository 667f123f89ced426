use Rattle.lk_sizes.proofs.Addressing.{live_sections_are_owners}
use Rattle.lk_size_laws.proofs.laws.live_sections_are_owners.Goals as goal

pub returns : goal.returns
returns c = live_sections_are_owners
