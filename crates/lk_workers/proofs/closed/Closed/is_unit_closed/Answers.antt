use Rattle.std.proofs.Common.{sym, subst}
use Rattle.std.specs.List.{All}
use Rattle.lk_reach.specs.Marks.{IsInside}
use Rattle.lk_reach.proofs.UnitLemmas.{asks_are_inside}
use Rattle.lk_workers.proofs.closed.Closed.is_unit_closed.Goals as goal

pub are_met-requires-clause-inside : goal.are_met-requires-clause-inside
are_met-requires-clause-inside g c =
    let link = c.args.link.now in
    subst (All (IsInside link.groups)) (sym c.successors.ensures) (asks_are_inside.by_unit link c.args.unit c.requires.link.well_formed)
