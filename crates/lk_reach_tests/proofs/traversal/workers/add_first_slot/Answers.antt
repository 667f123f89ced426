use Rattle.std.proofs.Common.{rules, ◌≡◌, ◌<◌, sym, ap, ◌∙◌, subst, arith}
use Rattle.lk_reach.specs.declared.units.Unit.TheVariants.{Sym}
use Rattle.lk_reach.specs.Marks.{IsMarked, IsUnit, reached_marks, symbols_in_all}
use Rattle.lk_reach.proofs.SymbolNumbers.{symbols_few}
use Rattle.lk_reach.proofs.UnitLemmas.{symbol_unit}
use Rattle.lk_reach_tests.proofs.traversal.workers.add_first_slot.Goals as goal

pub add_slot-requires : goal.add_slot-requires
add_slot-requires g c =
    let l = g.J.Reach.lists in
    let link = c.args.link.now in
    let groups : l.groups ≡ link.groups = ap (λ m. m.groups) c.requires.lists in
    let units : l.units ≡ reached_marks link = ap (λ m. m.units) c.requires.lists in
    let set : IsMarked c.in_ok-walk.walk.marks.items 0 = search rules in
    let reached : IsMarked l.units 0 = subst (λ ms. IsMarked ms 0) (c.in_ok-walk.ensures.marks ∙ sym units) set in
    let within : 0 < symbols_in_all link.groups = omega (arith, symbols_few link c.requires.well_formed) in
    let there : IsUnit l.groups (Sym 0) = subst (λ gs. IsUnit gs (Sym 0)) (sym groups) (symbol_unit link.groups 0 within) in
    record { meant = record { there = there; reached = reached; exported = tt }; own = c.in_ok-group.ensures }
