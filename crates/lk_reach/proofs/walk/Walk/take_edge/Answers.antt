use Rattle.std.proofs.Common.{ap, sym, ◌∙◌, subst}
use Rattle.std.specs.List.{All}
use Rattle.lk_link.specs.Marks.{is_marked}
use Rattle.lk_reach.specs.declared.units.Unit.TheVariants.{Sym}
use Rattle.lk_reach.specs.Marks.{IsInside}
use Rattle.lk_reach.specs.Units.{follows}
use Rattle.lk_reach.specs.Walking.{Adds, AreAsked}
use Rattle.lk_reach.proofs.EdgeLemmas.{asked_again, asked_first}
use Rattle.lk_reach.proofs.UnitLemmas.{asks_are_inside}
use Rattle.lk_reach.proofs.walk.Walk.take_edge.Goals as goal

pub returns-then-is_marked : goal.returns-then-is_marked
returns-then-is_marked c = (
  asked_again c.args.link.now c.args.edges.now.taken.items c.args.self.now c.args.leader c.args.symbol c.requires.edges c.requires.same
      (ap (λ ms. is_marked ms c.args.leader) (sym c.as_slice.ensures.value) ∙ ap (is_marked _) (sym c.as_usize.ensures) ∙ sym c.is_marked.ensures ∙ c.if-is_marked.true),
  c.requires.edges,
)

pub take_all-requires-clause-inside : goal.take_all-requires-clause-inside
take_all-requires-clause-inside c =
    let link = c.args.link.now in
    subst (All (IsInside link.groups)) (sym c.successors.ensures) (asks_are_inside.by_unit link (Sym c.args.symbol) c.requires.well_formed)

pub returns : goal.returns
returns c =
    let link = c.args.link.now in
    let old = c.args.self.now in
    let new = c.take_all.new.self in
    let asks = follows link (Sym c.args.symbol) in
    let adds : Adds link asks old new = subst (λ xs. Adds link xs old new) c.successors.ensures c.in_ok-take_all.ensures in (
      adds,
      subst (λ ms. AreAsked link ms new) (sym c.set.ensures)
          (asked_first link c.args.edges.now.taken.items old new c.args.leader c.args.symbol c.requires.well_formed c.requires.sized c.requires.edges c.requires.same adds),
    )
