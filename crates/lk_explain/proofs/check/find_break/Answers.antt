use Rattle.std.proofs.Common.{◌≡◌, false, true, sym, ◌∙◌, arith}
use Rattle.std.specs.List.{list_any}
use Rattle.lk_reach.specs.Units.{follows}
use Rattle.lk_explain.specs.Faults.{has_unit, is_for}
use Rattle.lk_explain.proofs.PathLemmas.{break_ask, break_end, break_next, break_unit}
use Rattle.lk_explain.proofs.check.find_break.Goals as goal

pub returns-then-not-has_unit : goal.returns-then-not-has_unit
returns-then-not-has_unit c =
    let no : has_unit c.args.link.now c.in-Some.unit.now ≡ false = cc in
    sym (break_unit c.args.link.now c.loop-unit.before c.in-Some.unit.now c.loop-unit.at c.in-Some.rest.now c.loop-unit.left.now c.in-Some.ensures.cases.0 no) ∙ c.loop-unit.invariant.0

pub returns-then-not-asks_for : goal.returns-then-not-asks_for
returns-then-not-asks_for c =
    let has : has_unit c.args.link.now c.in-Some.unit.now ≡ true = cc in
    let no : list_any (is_for c.in-Some.unit.now) (follows c.args.link.now c.loop-unit.before) ≡ false = cc in
    sym (break_ask c.args.link.now c.loop-unit.before c.in-Some.unit.now c.loop-unit.at c.in-Some.rest.now c.loop-unit.left.now c.in-Some.ensures.cases.0 has no) ∙ c.loop-unit.invariant.0

pub loop-unit-preserved : goal.loop-unit-preserved
loop-unit-preserved c =
    let has : has_unit c.args.link.now c.in-Some.unit.now ≡ true = cc in
    let asked : list_any (is_for c.in-Some.unit.now) (follows c.args.link.now c.loop-unit.before) ≡ true = cc in
    let next = break_next c.args.link.now c.loop-unit.before c.in-Some.unit.now c.loop-unit.at c.in-Some.rest.now c.loop-unit.left.now c.in-Some.ensures.cases.0 has asked in
    (sym next ∙ c.loop-unit.invariant.0, omega (arith, c.in-Some.ensures.cases.1, c.loop-unit.invariant.1))

pub returns : goal.returns
returns c = sym (break_end c.args.link.now c.loop-unit.before c.loop-unit.at c.loop-unit.left.now c.in_default.ensures.cases) ∙ c.loop-unit.invariant.0
