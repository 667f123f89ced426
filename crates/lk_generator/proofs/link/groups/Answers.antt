use Rattle.std.proofs.Common.{◌*◌, ◌<◌, ◌∷◌, [], ap, arith, sym, refl}
use Rattle.std.proofs.lemmas.List.FromFn.{map-range_with_len_more}
use Rattle.lk_generator.specs.Generated.{empty_prelude, object_group}
use Rattle.lk_generator.proofs.DrawLemmas.{group_drawn, group_starts, groups_full}
use Rattle.lk_generator.proofs.link.groups.Goals as goal

pub loop-number-preserved : goal.loop-number-preserved
loop-number-preserved c =
    let seed = c.args.seed in
    let size = c.args.size in
    let k = c.loop-number.number in
    let starts : 8 * k < size = group_starts size k (omega (arith, c.loop-number-test.true, c.div_ceil-count.ensures)) in
    let full = groups_full seed size k _ starts c.loop-number.invariant.1 in (
      rw (c.in_ok-push-3.ensures.items, c.loop-number.invariant.0, c.in_ok-group.ensures.group seed k refl full)
          (ap (λ all. (empty_prelude ∷ []) ∷ all) (sym (map-range_with_len_more (object_group seed size) 0 k k (omega arith)))),
      group_drawn seed size k _ (c.in_ok-group.ensures.state seed full),
    )
