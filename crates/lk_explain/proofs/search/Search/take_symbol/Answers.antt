use Rattle.std.proofs.Common.{List, sym, subst}
use Rattle.std.specs.List.{All}
use Rattle.lk_reach.specs.declared.units.Ask.{Ask}
use Rattle.lk_reach.specs.declared.units.Unit.TheVariants.{Sym}
use Rattle.lk_reach.specs.Marks.{IsInside, asking}
use Rattle.lk_reach.specs.Units.{follows}
use Rattle.lk_reach.proofs.UnitLemmas.{asks_are_inside}
use Rattle.lk_explain.specs.Searching.{Takes, with_asker}
use Rattle.lk_explain.proofs.SharedLemmas.{shared_symbol, takes_again}
use Rattle.lk_explain.proofs.search.Search.take_symbol.Goals as goal

pub returns-then-is_taken : goal.returns-then-is_taken
returns-then-is_taken c = (
  takes_again c.args.asker.link.now c.args.shared.now c.args.asker.distance c.args.asker.number c.args.symbol c.args.self.now c.requires.distance c.requires.below c.requires.shared (c.is_taken.ensures c.if-is_taken.true),
  c.requires.shared,
)

pub take_all-requires-clause-inside : goal.take_all-requires-clause-inside
take_all-requires-clause-inside c =
    let link = c.args.asker.link.now in
    subst (All (IsInside link.groups)) (sym c.successors.ensures) (asks_are_inside.by_unit link (Sym c.args.symbol) c.requires.well_formed)

pub returns : goal.returns
returns c =
    let link = c.args.asker.link.now in
    let old = c.args.self.now in
    let new = c.take_all.new.self in
    let T : List Ask → Type 0 = λ xs. Takes (asking link) c.args.asker.distance (with_asker c.args.asker.number xs) old new in
    let takes : T (follows link (Sym c.args.symbol)) = subst T c.successors.ensures c.in_ok-take_all.ensures in
    (takes, shared_symbol link c.args.shared.now c.take.new.self c.args.asker.distance c.args.asker.number c.args.symbol old new c.requires.shared takes c.take.ensures.groups c.take.ensures.symbols)
