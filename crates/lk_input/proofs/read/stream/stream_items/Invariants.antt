use Rattle.std.proofs.Common.{◌≡◌, length}
use Rattle.json.specs.Json.{parse_map}
use Rattle.lk_input.specs.ReadingSteps.{read_items}
use Rattle.lk_pieces.specs.Tokens.{items_at}
use Rattle.lk_input.proofs.Lists.{after_items}
use Rattle.lk_input.proofs.read.stream.stream_items.Given as goal

abbrev pub invariant-items : goal.invariant-items
invariant-items g l = parse_map (read_items g.T.Streamed.streamed 0) (items_at l.depth l.initial.reader) ≡ parse_map (after_items g.T.Streamed.streamed l.items.items) (items_at l.depth l.reader)

abbrev pub decreases-items : goal.decreases-items
decreases-items g l = length l.reader
