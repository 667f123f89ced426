use Rattle.std.proofs.Common.{◌≡◌, ◌+◌, ◌*◌, ◌∙◌, ap, arith, sym, refl}
use Rattle.std.proofs.lemmas.List.FromFn.{map-range_with_len_more}
use Rattle.lk_generator.specs.Draws.{state_behind}
use Rattle.lk_generator.specs.Generated.{generated_object, object_of}
use Rattle.lk_generator.proofs.link.group.Goals as goal

pub loop-place-preserved : goal.loop-place-preserved
loop-place-preserved c seed at =
    let i = c.args.first + c.loop-place.place in
    let before = c.loop-place.invariant seed at in
    let one : c.in_ok-object.field-0 ≡ generated_object seed c.args.size i
    = c.in_ok-object.ensures ∙ ap (object_of i) (c.draw_object.ensures.drawn seed i before.1) in
    let e : 6 * (i + 1) ≡ 6 * (c.args.first + (c.loop-place.place + 1)) = omega arith in (
      rw (c.in_ok-push.ensures.items, before.0, one) (sym (map-range_with_len_more (generated_object seed c.args.size) c.args.first c.loop-place.place i refl)),
      c.draw_object.ensures.state seed i before.1 ∙ ap (state_behind seed) e,
    )
