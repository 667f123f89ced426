use Rattle.lk_image.proofs.Made.{laid_out_is_made}
use Rattle.lk_image.proofs.laws.laid_out_is_made.Goals as goal

pub returns : goal.returns
returns c = laid_out_is_made
