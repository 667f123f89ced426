use Rattle.std.proofs.Common.{◌≡◌, length}
use Rattle.serde_json.specs.Data.{Members}
use Rattle.lk_pieces.specs.Tokens.{members_at}
use Rattle.lk_input.proofs.read.known.stream_known.Given as goal

abbrev pub invariant-members : goal.invariant-members
invariant-members g l =
    (found : Members) → l.initial.known ≡ g.K.Known.kept found
    → (ms : Members) × (members_at found l.depth l.initial.reader ≡ members_at ms l.depth l.reader) × (l.known ≡ g.K.Known.kept ms)

abbrev pub decreases-members : goal.decreases-members
decreases-members g l = length l.reader
