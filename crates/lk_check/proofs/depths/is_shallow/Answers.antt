use Rattle.std.proofs.Common.{◌∷◌, sym, ap, ◌∙◌}
use Rattle.lk_check.proofs.DepthLemmas.{begins, ends}
use Rattle.lk_check.proofs.depths.is_shallow.Goals as goal

pub loop-done-init : goal.loop-done-init
loop-done-init c =
    let start = begins c.tokens-tokens.result.now c.args.expression.now _ c.tokens-tokens.ensures (c.push.ensures ∙ ap (λ ds. 1 ∷ ds) c.new-depths.ensures) in
    record { rise = start.0; left = start.1 }

pub returns : goal.returns
returns c = sym (ends _ _ _ c.loop-done-test.false) ∙ c.loop-done.invariant.left
