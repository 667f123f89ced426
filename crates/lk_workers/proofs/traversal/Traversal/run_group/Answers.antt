use Rattle.std.proofs.Common.{◌∙◌}
use Rattle.lk_workers.proofs.GoingOn.{both, did_on}
use Rattle.lk_workers.proofs.traversal.Traversal.run_group.Goals as goal

pub loop-preserved-then-step : goal.loop-preserved-then-step
loop-preserved-then-step g c = (
  c.step.ensures.table ∙ c.loop.invariant.0,
  c.step.ensures.parts ∙ c.loop.invariant.1,
  both _ _ _ c.loop.invariant.2 (did_on _ _ _ _ _ _ _ c.step.ensures.step c.step.ensures.given_up),
)

pub loop-preserved : goal.loop-preserved
loop-preserved g c = (
  c.step.ensures.table ∙ c.loop.invariant.0,
  c.step.ensures.parts ∙ c.loop.invariant.1,
  both _ _ _ c.loop.invariant.2 (did_on _ _ _ _ _ _ _ c.step.ensures.step c.step.ensures.given_up),
)
