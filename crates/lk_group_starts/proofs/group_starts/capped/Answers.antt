use Rattle.std.proofs.Common.{ap, min, ◌∙◌}
use Rattle.lk_group_starts.proofs.group_starts.capped.Goals as goal

pub returns : goal.returns
returns c = c.min.ensures ∙ ap (λ n. min c.args.bytes n) c.from.ensures
