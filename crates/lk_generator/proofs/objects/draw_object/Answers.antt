use Rattle.std.proofs.Common.{◌≡◌, ◌+◌, ◌*◌, ap, refl, arith, ◌∙◌}
use Rattle.lk_generator.specs.Draws.{state_behind}
use Rattle.lk_generator.proofs.DrawLemmas.{pick_on, state_on}
use Rattle.lk_generator.proofs.objects.draw_object.Goals as goal

pub returns-clause-drawn : goal.returns-clause-drawn
returns-clause-drawn c seed i at =
    let n = 6 * i in
    let s1 = c.pick-text_size.ensures.state seed n at in
    let s2 = state_on seed n 1 _ (c.pick-data_size.ensures.state seed (n + 1) s1) in
    let s3 = state_on seed n 2 _ (c.pick.ensures.state seed (n + 2) s2) in
    let s4 = state_on seed n 3 _ (c.pick-2.ensures.state seed (n + 3) s3) in
    let s5 = state_on seed n 4 _ (c.pick-text_target.ensures.state seed (n + 4) s4) in
    rw (
      c.pick-text_size.ensures.picked seed n at,
      pick_on seed n 1 _ _ (c.pick-data_size.ensures.picked seed (n + 1) s1),
      pick_on seed n 2 _ _ (c.pick.ensures.picked seed (n + 2) s2),
      pick_on seed n 3 _ _ (c.pick-2.ensures.picked seed (n + 3) s3),
      pick_on seed n 4 _ _ (c.pick-text_target.ensures.picked seed (n + 4) s4),
      pick_on seed n 5 _ _ (c.pick-data_target.ensures.picked seed (n + 5) s5),
      c.from-objects.ensures,
    ) refl

pub returns-clause-state : goal.returns-clause-state
returns-clause-state c seed i at =
    let n = 6 * i in
    let s1 = c.pick-text_size.ensures.state seed n at in
    let s2 = state_on seed n 1 _ (c.pick-data_size.ensures.state seed (n + 1) s1) in
    let s3 = state_on seed n 2 _ (c.pick.ensures.state seed (n + 2) s2) in
    let s4 = state_on seed n 3 _ (c.pick-2.ensures.state seed (n + 3) s3) in
    let s5 = state_on seed n 4 _ (c.pick-text_target.ensures.state seed (n + 4) s4) in
    let e : n + 5 + 1 ≡ 6 * (i + 1) = omega arith in
    c.pick-data_target.ensures.state seed (n + 5) s5 ∙ ap (state_behind seed) e
