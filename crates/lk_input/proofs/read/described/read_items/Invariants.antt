use Rattle.std.proofs.Common.{◌≡◌, drop}
use Rattle.serde_json.specs.View.{items_view}
use Rattle.lk_input.specs.ReadingSteps.{read_items}
use Rattle.lk_input.proofs.Steps.{with_front}
use Rattle.lk_input.proofs.read.described.read_items.Given as goal

abbrev pub invariant-loop-i : goal.invariant-loop-i
invariant-loop-i g l =
    with_front l.items.items (read_items g.T.Described.described l.i (items_view (drop l.i l.values)))
    ≡ read_items g.T.Described.described 0 (items_view l.values)
