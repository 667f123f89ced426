use Rattle.lk_link.proofs.Starts.{rest_is_greatest}
use Rattle.lk_link.proofs.alignment.Alignment.align_down.Goals as goal

pub returns : goal.returns
returns c = rw c.value.ensures.value (rest_is_greatest c.args.self c.args.value c.value.ensures.positive)
