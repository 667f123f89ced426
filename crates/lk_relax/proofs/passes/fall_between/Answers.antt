use Rattle.std.proofs.Common.{◌≡◌, ◌∙◌, ℕ, List, Some, length, ap, arith}
use Rattle.std.specs.List.{slice_get, slice_index}
use Rattle.std.specs.Option.{option_map_or}
use Rattle.std.proofs.lemmas.List.{length_push}
use Rattle.lk_link.specs.Inputs.{Input, all_inputs}
use Rattle.lk_link.specs.Walks.{input_of}
use Rattle.lk_sizes.specs.Owners.{own_sizes}
use Rattle.lk_reach.proofs.Numbered.{are_numbered}
use Rattle.lk_relax.proofs.Falling.{fall_at, fall_is, number_few, sum_next}
use Rattle.lk_relax.proofs.InputsThere.{input_turn}
use Rattle.lk_relax.proofs.passes.fall_between.Goals as goal

pub inputs-input-items-requires : goal.inputs-input-items-requires
inputs-input-items-requires c = are_numbered c.args.link.now c.requires

pub overflow_add-number : goal.overflow_add-number
overflow_add-number c =
    let link = c.args.link.now in
    let x : Input = input_of c.in-Some.input in
    let there : slice_get (all_inputs link.groups) (length c.loop-input.yielded) ≡ Some x
    = input_turn link c.into_iter-input-iterator.result c.loop-input.input-iterator c.next.new.self c.loop-input.yielded c.in-Some.input (cc) c.loop-input.yielded_by c.in-Some.ensures.steps in
    omega (arith, number_few link (length c.loop-input.yielded) x c.requires there, c.loop-input.invariant.count)

pub loop-input-preserved : goal.loop-input-preserved
loop-input-preserved c =
    let link = c.args.link.now in
    let x : Input = input_of c.in-Some.input in
    let k : ℕ = length c.loop-input.yielded in
    let there : slice_get (all_inputs link.groups) k ≡ Some x
    = input_turn link c.into_iter-input-iterator.result c.loop-input.input-iterator c.next.new.self c.loop-input.yielded c.in-Some.input (cc) c.loop-input.yielded_by c.in-Some.ensures.steps in
    let number : c.loop-input.number ≡ k = c.loop-input.invariant.count in
    let before : List ℕ = option_map_or (λ s. s.now) c.args.before (own_sizes link) in
    let old = c.size_at-old.ensures ∙ ap (λ (n : ℕ). option_map_or (λ s. slice_index s.now n) c.args.before x.section.size) number in
    let new = c.size_at-new.ensures ∙ ap (slice_index c.args.after.now) number in
    record {
      count = omega (arith, number, length_push c.loop-input.yielded c.in-Some.input);
      sum = sum_next (fall_at link before c.args.after.now) c.loop-input.yielded c.in-Some.input c.loop-input.fall c.capacity_fall.result c.saturating_add-fall.result c.loop-input.invariant.sum
          (fall_is link c.args.before c.args.after.now k x c.size_at-old.result c.size_at-new.result c.capacity_fall.result there old new c.capacity_fall.ensures) c.saturating_add-fall.ensures;
    }
