use Rattle.std.proofs.Common.{rules, ◌≡◌, [], arith, ◌∙◌}
use Rattle.lk_flags.specs.Flags.{all_parts}
use Rattle.lk_workers.proofs.Idle.{untouched}
use Rattle.lk_workers.proofs.workers.walk.Goals as goal

pub returns-in-Some-clause-idle : goal.returns-in-Some-clause-idle
returns-in-Some-clause-idle g c none =
    let few : c.min.result ≡ 0 = omega (arith, c.min.ensures, none) in
    let sets : c.in_ok-pass.pass.sets ≡ [] = c.in_ok-pass.ensures.idle few ∙ c.in_ok-traversal.ensures.pass.2 in
    let parts : c.in_ok-pass.pass.parts ≡ all_parts = c.in_ok-pass.ensures.parts ∙ c.in_ok-traversal.ensures.pass.1 in
    let own : c.in-Some.found.1.items ≡ c.close-closed.result.0.words = search rules in
    own ∙ untouched g.J.Reach.lists.handed c.close-closed.result.0.words c.in_ok-pass.pass.sets sets (c.close-closed.ensures.in_turn parts)
