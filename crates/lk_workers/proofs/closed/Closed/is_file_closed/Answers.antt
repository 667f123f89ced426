use Rattle.std.proofs.Common.{sym, subst}
use Rattle.std.specs.List.{All}
use Rattle.lk_link.specs.Walks.{file_of}
use Rattle.lk_reach.specs.Marks.{IsInside}
use Rattle.lk_reach.proofs.UnitLemmas.{file_inside}
use Rattle.lk_workers.proofs.closed.Closed.is_file_closed.Goals as goal

pub are_met-requires-clause-inside : goal.are_met-requires-clause-inside
are_met-requires-clause-inside g c =
    let link = c.args.link.now in
    subst (All (IsInside link.groups)) (sym c.file_roots.ensures) (file_inside link (file_of c.args.file) c.requires.link.well_formed c.requires.there)
