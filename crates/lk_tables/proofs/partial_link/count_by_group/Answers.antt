use Rattle.std.proofs.Common.{◌≡◌, map, ap, ◌∙◌, arith}
use Rattle.lk_link.specs.Walks.{input_of}
use Rattle.lk_link.proofs.Numbers.{made_of_or}
use Rattle.lk_live.specs.Reach.{live_inputs}
use Rattle.lk_reach.proofs.LiveWalk.{finish}
use Rattle.lk_reach.proofs.Numbered.{are_numbered}
use Rattle.lk_tables.specs.Singletons.{group_size}
use Rattle.lk_tables.proofs.GroupLemmas.{counted_next, counted_of, nothing_counted, size_counted}
use Rattle.lk_tables.proofs.partial_link.count_by_group.Goals as goal

pub inputs-input-items-requires : goal.inputs-input-items-requires
inputs-input-items-requires c = are_numbered c.args.link.now c.requires.good

pub loop-input-init : goal.loop-input-init
loop-input-init c = nothing_counted c.args.link.now c.args.sizes.now c.requires.none

pub loop-input-preserved : goal.loop-input-preserved
loop-input-preserved c = (
  c.count_one.ensures.count ∙ c.loop-input.invariant.0,
  λ g lt. counted_next c.args.link.now g c.loop-input.yielded c.in-Some.input c.is_singleton-is_one.result c.len-name_len.result _ _ c.is_singleton-is_one.ensures
      c.len-name_len.ensures (c.count_one.ensures.each g (omega (arith, lt, c.loop-input.invariant.0))) (c.loop-input.invariant.1 g lt),
)

pub returns : goal.returns
returns c =
    let link = c.args.link.now in
    let live = c.args.live.now in
    let all : map input_of c.loop-input.yielded ≡ live_inputs link live
    = finish (live_inputs link live) c.into_iter-input-iterator.result c.loop-input.input-iterator c.next.new.self c.loop-input.yielded (cc) c.loop-input.yielded_by c.in-None.ensures.steps in
    made_of_or (group_size link live) (0, 0) c.loop-input.sizes link.groups c.loop-input.invariant.0
    (λ g lt. c.loop-input.invariant.1 g lt ∙ ap (counted_of link g) all ∙ size_counted link live g c.requires.good)
