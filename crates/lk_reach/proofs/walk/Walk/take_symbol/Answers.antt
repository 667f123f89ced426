use Rattle.std.proofs.Common.{sym, subst}
use Rattle.std.specs.List.{All}
use Rattle.lk_reach.specs.declared.units.Unit.TheVariants.{Sym}
use Rattle.lk_reach.specs.Marks.{IsInside}
use Rattle.lk_reach.specs.Units.{follows}
use Rattle.lk_reach.specs.Walking.{Adds}
use Rattle.lk_reach.proofs.EdgeLemmas.{asked_more}
use Rattle.lk_reach.proofs.UnitLemmas.{asks_are_inside}
use Rattle.lk_reach.proofs.walk.Walk.take_symbol.Goals as goal

pub take_all-requires-clause-inside : goal.take_all-requires-clause-inside
take_all-requires-clause-inside c =
    let link = c.args.link.now in
    subst (All (IsInside link.groups)) (sym c.successors.ensures) (asks_are_inside.by_unit link (Sym c.args.symbol) c.requires.well_formed)

pub returns-in_ok-take_all-in-None : goal.returns-in_ok-take_all-in-None
returns-in_ok-take_all-in-None c =
    let link = c.args.link.now in
    let old = c.args.self.now in
    let new = c.take_all.new.self in
    let asks = follows link (Sym c.args.symbol) in
    let adds : Adds link asks old new = subst (λ xs. Adds link xs old new) c.successors.ensures c.in_ok-take_all-in-None.ensures in
    (adds, asked_more link c.args.edges.now.taken.items asks old new c.requires.edges adds)
