use Rattle.std.proofs.Common.{◌≡◌, length}
use Rattle.serde_json.specs.Data.{Members, no_members}
use Rattle.serde_json.specs.View.{members_view}
use Rattle.lk_pieces.specs.Tokens.{members_at}
use Rattle.lk_input.specs.Large.{IsSplit}
use Rattle.lk_input.proofs.read.large.stream_members.Given as goal

abbrev pub invariant-members : goal.invariant-members
invariant-members g l =
    (ms : Members) × (members_at no_members l.depth l.initial.reader ≡ members_at ms l.depth l.reader) × IsSplit g.L.Large.is_large g.L.Large.kept ms l.large (members_view l.others.entries)

abbrev pub decreases-members : goal.decreases-members
decreases-members g l = length l.reader
