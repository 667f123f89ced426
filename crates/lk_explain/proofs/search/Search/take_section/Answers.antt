use Rattle.std.proofs.Common.{List, sym, subst}
use Rattle.std.specs.List.{All}
use Rattle.lk_reach.specs.declared.units.Ask.{Ask}
use Rattle.lk_reach.specs.declared.units.Unit.TheVariants.{Sec}
use Rattle.lk_reach.specs.Marks.{IsInside, asking}
use Rattle.lk_reach.specs.Units.{follows}
use Rattle.lk_reach.proofs.UnitLemmas.{asks_are_inside}
use Rattle.lk_explain.specs.Searching.{Takes, with_asker}
use Rattle.lk_explain.proofs.SharedLemmas.{shared_after}
use Rattle.lk_explain.proofs.search.Search.take_section.Goals as goal

pub take_all-requires-clause-inside : goal.take_all-requires-clause-inside
take_all-requires-clause-inside c =
    let link = c.args.asker.link.now in
    subst (All (IsInside link.groups)) (sym c.successors.ensures) (asks_are_inside.by_unit link (Sec c.args.file c.args.index) c.requires.well_formed)

pub returns-in_ok-take_all-in-None : goal.returns-in_ok-take_all-in-None
returns-in_ok-take_all-in-None c =
    let link = c.args.asker.link.now in
    let old = c.args.self.now in
    let new = c.take_all.new.self in
    let asks : List Ask = follows link (Sec c.args.file c.args.index) in
    let T : List Ask → Type 0 = λ xs. Takes (asking link) c.args.asker.distance (with_asker c.args.asker.number xs) old new in
    let takes : T asks = subst T c.successors.ensures c.in_ok-take_all-in-None.ensures in
    (takes, shared_after link c.args.shared.now c.args.asker.distance (with_asker c.args.asker.number asks) old new c.requires.shared takes)
