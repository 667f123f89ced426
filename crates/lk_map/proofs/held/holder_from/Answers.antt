use Rattle.std.proofs.Common.{◌≡◌, sym, subst, arith, inl, inr}
use Rattle.std.proofs.lemmas.Bool.{cases_lt}
use Rattle.std.proofs.lemmas.List.Folds.{list_any_at}
use Rattle.lk_map.specs.declared.map_text.SegmentLine.{SegmentLine}
use Rattle.lk_map.specs.Checking.{holds}
use Rattle.lk_map.specs.Held.{HoldsAt}
use Rattle.lk_map.proofs.InOrder.{held_not}
use Rattle.lk_map.proofs.held.holder_from.Goals as goal

abbrev some_segment : SegmentLine
some_segment = record { line = 0; mem_offset = 0; mem_size = 0; file_offset = 0; file_size = 0 }

pub returns-then-is_holder-clause-held : goal.returns-then-is_holder-clause-held
returns-then-is_holder-clause-held c = list_any_at (λ g. holds g c.args.section.now) c.args.segments.now c.loop-place.place some_segment c.loop-place-test.true (sym (c.if-is_holder.ensures {u = tt}))

pub loop-place-preserved : goal.loop-place-preserved
loop-place-preserved c = (
  (let from = c.loop-place.invariant.0 in omega (arith, from)),
  λ k low below. elim (cases_lt k c.loop-place.place) [
    | inl before ↦ c.loop-place.invariant.1 k low before
    | inr after ↦
        let here : c.loop-place.place ≡ k = omega (arith, below, after) in
        subst (λ n. ¬ HoldsAt c.args.segments.now n c.args.section.now) here (held_not c.args.segments.now c.loop-place.place some_segment c.args.section.now (c.if-is_holder.ensures {u = tt}))
  ],
)

pub returns-clause-first : goal.returns-clause-first
returns-clause-first c k low holds = let end = c.loop-place-test.false in let below = holds.0 in c.loop-place.invariant.1 k low (omega (arith, end, below)) holds
