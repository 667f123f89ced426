use Rattle.std.proofs.Common.{refl, sym, ◌∙◌}
use Rattle.lk_reach.specs.declared.walk.Walk.{Walk}
use Rattle.lk_reach.proofs.EdgeLemmas.{asked_popped}
use Rattle.lk_reach.proofs.GroupLemmas.{popped_unit}
use Rattle.lk_reach.proofs.WalkLemmas.{IsPopped, popped_sized, walking_next, walking_past}
use Rattle.lk_reach.proofs.walk.Walk.take_stack.Goals as goal

pub take_unit-requires-clause-sized : goal.take_unit-requires-clause-sized
take_unit-requires-clause-sized c =
    let old : Walk = c.loop-number.self in
    let mid : Walk = record { marks = c.loop-number.self.marks; words = c.loop-number.self.words; stack = c.pop.new.self } in
    let pop : IsPopped old mid c.in-Some.number = record { marks = refl; words = refl; stack = c.in-Some.ensures.items } in
    popped_sized c.args.link.now old mid c.in-Some.number c.loop-number.invariant.0.size pop

pub take_unit-requires-clause-marked : goal.take_unit-requires-clause-marked
take_unit-requires-clause-marked c =
    let old : Walk = c.loop-number.self in
    let mid : Walk = record { marks = c.loop-number.self.marks; words = c.loop-number.self.words; stack = c.pop.new.self } in
    let pop : IsPopped old mid c.in-Some.number = record { marks = refl; words = refl; stack = c.in-Some.ensures.items } in
    popped_unit c.args.link.now old mid c.in-Some.number c.in-Some-unit_at.unit c.loop-number.invariant.0 pop (sym c.unit_at.ensures ∙ c.in-Some-unit_at.is)

pub take_unit-requires-clause-edges : goal.take_unit-requires-clause-edges
take_unit-requires-clause-edges c =
    let old : Walk = c.loop-number.self in
    let mid : Walk = record { marks = c.loop-number.self.marks; words = c.loop-number.self.words; stack = c.pop.new.self } in
    let pop : IsPopped old mid c.in-Some.number = record { marks = refl; words = refl; stack = c.in-Some.ensures.items } in
    asked_popped c.args.link.now c.loop-number.edges.taken.items old mid c.in-Some.number c.loop-number.invariant.2 pop

pub loop-number-preserved-in-Continue-1 : goal.loop-number-preserved-in-Continue-1
loop-number-preserved-in-Continue-1 c =
    let link = c.args.link.now in
    let old : Walk = c.loop-number.self in
    let mid : Walk = record { marks = c.loop-number.self.marks; words = c.loop-number.self.words; stack = c.pop.new.self } in
    let new : Walk = c.take_unit.new.self in
    let pop : IsPopped old mid c.in-Some.number = record { marks = refl; words = refl; stack = c.in-Some.ensures.items } in
    let took = c.in_ok-take_unit.ensures in
    (walking_next link old mid new c.in-Some.number c.in-Some-unit_at.unit c.requires.well_formed c.loop-number.invariant.0 pop (sym c.unit_at.ensures ∙ c.in-Some-unit_at.is) took.0, took.1, took.2)

pub loop-number-preserved : goal.loop-number-preserved
loop-number-preserved c =
    let old : Walk = c.loop-number.self in
    let new : Walk = record { marks = c.loop-number.self.marks; words = c.loop-number.self.words; stack = c.pop.new.self } in
    let pop : IsPopped old new c.in-Some.number = record { marks = refl; words = refl; stack = c.in-Some.ensures.items } in (
      walking_past c.args.link.now old new c.in-Some.number c.loop-number.invariant.0 pop (sym c.unit_at.ensures ∙ c.in_default-unit_at.is),
      c.loop-number.invariant.1,
      asked_popped c.args.link.now c.loop-number.edges.taken.items old new c.in-Some.number c.loop-number.invariant.2 pop,
    )
