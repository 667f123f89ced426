use Rattle.std.proofs.Common.{◌≡◌, ◌+◌, ◌*◌, length}
use Rattle.json.specs.Json.{parse_map}
use Rattle.serde_json.specs.Data.{no_members}
use Rattle.serde_json.specs.View.{items_view, members_view}
use Rattle.lk_pieces.specs.Tokens.{items_at, members_at}
use Rattle.lk_input.proofs.Values.{joined}
use Rattle.lk_input.proofs.read.tokens.+value.Given as goal

-- each calls what is before it, and one level further in the last

abbrev pub decreases-value_from : goal.decreases-value_from
decreases-value_from l = 4 * l.depth

abbrev pub decreases-value_at : goal.decreases-value_at
decreases-value_at l = 4 * l.depth + 1

abbrev pub decreases-next_item : goal.decreases-next_item
decreases-next_item l = 4 * l.depth + 2

abbrev pub decreases-items_from : goal.decreases-items_from
decreases-items_from l = 4 * l.depth + 3

abbrev pub decreases-next_member : goal.decreases-next_member
decreases-next_member l = 4 * l.depth + 2

abbrev pub decreases-members_from : goal.decreases-members_from
decreases-members_from l = 4 * l.depth + 3

-- the list is that of the items so far, joined with that of the others

abbrev pub invariant-items_from-loop-items : goal.invariant-items_from-loop-items
invariant-items_from-loop-items l = items_at l.depth l.initial.reader ≡ parse_map (joined (items_view l.items.items)) (items_at l.depth l.reader)

abbrev pub decreases-items_from-loop-items : goal.decreases-items_from-loop-items
decreases-items_from-loop-items l = length l.reader

-- the object is that of the others, put to the members so far

abbrev pub invariant-members_from-loop-members : goal.invariant-members_from-loop-members
invariant-members_from-loop-members l = members_at no_members l.depth l.initial.reader ≡ members_at (members_view l.members.entries) l.depth l.reader

abbrev pub decreases-members_from-loop-members : goal.decreases-members_from-loop-members
decreases-members_from-loop-members l = length l.reader
