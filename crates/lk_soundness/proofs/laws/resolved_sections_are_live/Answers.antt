use Rattle.lk_soundness.proofs.Resolved.{resolved_sections_are_live}
use Rattle.lk_soundness.proofs.laws.resolved_sections_are_live.Goals as goal

pub returns : goal.returns
returns c = resolved_sections_are_live
