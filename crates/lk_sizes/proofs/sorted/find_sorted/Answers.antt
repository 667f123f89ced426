use Rattle.std.proofs.Common.{◌≡◌, filter, map, ap, ◌∙◌}
use Rattle.lk_link.specs.Inputs.{Input}
use Rattle.lk_link.specs.Walks.{input_of}
use Rattle.lk_live.specs.Reach.{live_inputs}
use Rattle.lk_reach.proofs.LiveWalk.{finish}
use Rattle.lk_reach.proofs.Numbered.{are_numbered}
use Rattle.lk_sizes.proofs.sorted.find_sorted.Goals as goal

pub inputs-input-items-requires : goal.inputs-input-items-requires
inputs-input-items-requires c = are_numbered c.args.link.now c.requires.good

pub returns : goal.returns
returns c =
    let link = c.args.link.now in
    let live = c.args.live.now in
    let all : map input_of c.loop-input.yielded ≡ live_inputs link live
    = finish (live_inputs link live) c.into_iter-input-iterator.result c.loop-input.input-iterator c.next.new.self c.loop-input.yielded (cc) c.loop-input.yielded_by c.in-None.ensures.steps in
    c.loop-input.invariant ∙ ap (filter (λ (x : Input). x.section.sorted)) all
