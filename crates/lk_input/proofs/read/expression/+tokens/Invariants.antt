use Rattle.std.proofs.Common.{◌+◌, ◌*◌}
use Rattle.serde_json.specs.Data.{depth}
use Rattle.serde_json.specs.View.{view}
use Rattle.lk_input.proofs.read.expression.+tokens.Given as goal

abbrev pub decreases-read_tokens : goal.decreases-read_tokens
decreases-read_tokens l = 2 * depth (view l.value.now) + 1

abbrev pub decreases-read_tokens_at : goal.decreases-read_tokens_at
decreases-read_tokens_at l = 2 * depth (view l.value.now)
