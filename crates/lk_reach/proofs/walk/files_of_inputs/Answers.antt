use Rattle.std.proofs.Common.{map, ap, ◌∙◌}
use Rattle.lk_link.specs.Inputs.{Input, all_inputs}
use Rattle.lk_reach.proofs.LiveWalk.{finish}
use Rattle.lk_reach.proofs.Numbered.{are_numbered}
use Rattle.lk_reach.proofs.walk.files_of_inputs.Goals as goal

pub inputs-input-items-requires : goal.inputs-input-items-requires
inputs-input-items-requires c = are_numbered c.args.link.now c.requires

pub returns : goal.returns
returns c =
    let done = finish (all_inputs c.args.link.now.groups) c.into_iter-input-iterator.result c.loop-input.input-iterator c.next.new.self c.loop-input.yielded (cc) c.loop-input.yielded_by c.in-None.ensures.steps in
    c.loop-input.invariant ∙ ap (map (λ (x : Input). x.file)) done
