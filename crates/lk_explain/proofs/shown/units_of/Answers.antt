use Rattle.std.proofs.Common.{◌≡◌, ◌+◌, ◌<◌, ◌++◌, List, [], ◌∷◌, Some, None, length, map, take, sym, ◌∙◌, subst, ℕ, arith}
use Rattle.std.specs.List.{slice_index}
use Rattle.std.proofs.lemmas.Grind.{common_steps}
use Rattle.lk_link.proofs.Elements.{at_index}
use Rattle.lk_reach.specs.declared.units.Unit.{Unit as LinkUnit}
use Rattle.lk_reach.specs.Marks.{all_units, unit_at}
use Rattle.lk_explain.proofs.ShownLemmas.{units_next}
use Rattle.lk_explain.proofs.shown.units_of.Goals as goal
use Rattle.lk_explain.proofs.shown.units_of.Goals.{in-Some+in_ok-push, in_default}

pub loop-number-preserved : goal.loop-number-preserved
loop-number-preserved c =
    let groups = c.args.link.now.groups in
    let numbers : List ℕ = c.args.numbers.now in
    let i : ℕ = c.loop-number.number-index in
    let number : ℕ = slice_index numbers i in
    let lt : i < length numbers = c.loop-number-test.true in
    elim c.match-unit_at.branch [
      | in-Some+in_ok-push w ↦
          let there : unit_at groups number ≡ Some w.in-Some.unit = sym c.unit_at.ensures ∙ w.in-Some.is in
          let pushed : c.match-unit_at.units.items ≡ c.loop-number.units.items ++ w.in-Some.unit ∷ [] = first_of (cc (w.in_ok-push.ensures.items), grind (arith, common_steps, w.in_ok-push.ensures.items)) in
          subst (λ (xs : List LinkUnit). map Some xs ≡ map (unit_at groups) (take (i + 1) numbers)) (sym pushed)
          (units_next c.args.link.now numbers i c.loop-number.units.items w.in-Some.unit lt c.loop-number.invariant there)
      | in_default w ↦
          let none : unit_at groups number ≡ None = sym c.unit_at.ensures ∙ w.in_default.is in
          let some = at_index (all_units groups) number (c.requires.there i 0 lt) in
          let both : None ≡ Some some.0 = sym none ∙ some.1 in
          absurd (cc)
    ]
