use Rattle.std.proofs.Common.{vec_len, arith, ◌-◌}
use Rattle.lk_report.specs.SymbolParts.{IsMade}
use Rattle.lk_report.proofs.SymbolParts.{all_left, behind_last, fewer_left, from_first, next_part, of_first}
use Rattle.lk_report.proofs.symbols.add_parts.Goals as goal

pub loop-part-init : goal.loop-part-init
loop-part-init c =
    let steps = c.into_iter-part-iterator.ensures.into_iter_gives in
    let parts = vec_len c.args.parts in
    record {
      few = omega (arith, steps.1);
      written = from_first c.args.resolutions.now parts _ _ c.requires.some (omega (arith, steps.1));
      ready = all_left (IsMade c.args.resolutions.now parts) parts _ _ _ steps.0 steps.1 c.requires.parts;
    }

pub loop-part-preserved : goal.loop-part-preserved
loop-part-preserved c =
    let steps = c.in-Some.ensures.steps in
    let parts = vec_len c.args.parts in
    let left = c.loop-part.part-iterator.rest.len in
    let next = c.next.new.self.rest.len in
    let Is = IsMade c.args.resolutions.now parts in
    let told = of_first Is parts left next _ _ _ steps.0 steps.1 c.loop-part.invariant.ready in
    record {
      few = omega (arith, c.loop-part.invariant.few, steps.1);
      written = next_part c.args.resolutions.now parts (parts - left) _ _ _ _ _ (omega (arith, c.loop-part.invariant.few, steps.1)) (rw c.in_ok-part.was at told) c.loop-part.invariant.written (cc (c.in_ok-push_str.ensures.bytes, c.as_str.ensures.value));
      ready = fewer_left Is parts left next _ _ _ steps.0 steps.1 c.loop-part.invariant.few c.loop-part.invariant.ready;
    }

pub returns : goal.returns
returns c = let steps = c.in-None.ensures.steps in
    behind_last c.args.resolutions.now (vec_len c.args.parts) _ _ _ (omega (arith, steps.0)) c.loop-part.invariant.written
