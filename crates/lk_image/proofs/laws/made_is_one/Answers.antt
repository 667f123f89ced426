use Rattle.lk_image.proofs.Made.{made_is_one}
use Rattle.lk_image.proofs.laws.made_is_one.Goals as goal

pub returns : goal.returns
returns c = made_is_one
