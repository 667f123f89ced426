use Rattle.serde_json.specs.View.{members_view}
use Rattle.lk_input.proofs.Pieces.{pieces_tell}
use Rattle.lk_input.proofs.read.pieces.read_in_turn.Goals as goal

pub returns : goal.returns
returns c = pieces_tell c.args.bytes.now c.text-key.result.now c.in_ok-groups.groups.items (members_view c.in_ok-groups.others.map.entries) c.link_with.result c.text-key.ensures c.in_ok-groups.ensures c.link_with.ensures
