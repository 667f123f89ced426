use Rattle.std.proofs.Common.{ap, ◌∙◌}
use Rattle.serde_json.specs.View.{members_view}
use Rattle.lk_input.proofs.Values.{put-copied}
use Rattle.lk_input.proofs.read.tokens.put_member.Goals as goal

pub returns : goal.returns
returns c = ap members_view c.in_ok-insert.ensures.entries ∙ put-copied c.args.members.now.entries c.in_ok-key.key c.args.key.now c.args.member c.in_ok-key.ensures.ok
