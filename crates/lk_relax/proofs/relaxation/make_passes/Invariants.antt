use Rattle.std.proofs.Common.{◌-◌}
use Rattle.lk_sizes.specs.Owners.{Filling, in_output}
use Rattle.lk_relax.specs.RelaxationWords.{IsInHand, IsStage, stage_in}
use Rattle.lk_relax.specs.Relaxed.{relaxing}
use Rattle.lk_relax.specs.Stages.{IsFirst}
use Rattle.lk_relax.proofs.relaxation.make_passes.Given as goal

-- the passes that are left lead from the stage in hand to where relaxation ends
abbrev pub invariant-loop-pass : goal.invariant-loop-pass
invariant-loop-pass g l = (filling : Filling) (is : IsStage (relaxing (g.P.Platform.segment_start l.by.platform.now) l.by.headers (in_output l.by.link.now l.by.live.now filling)) l.fn.hand)
    → IsFirst (relaxing (g.P.Platform.segment_start l.by.platform.now) l.by.headers (in_output l.by.link.now l.by.live.now filling)) (stage_in l.fn.hand is)
    → IsInHand (relaxing (g.P.Platform.segment_start l.by.platform.now) l.by.headers (in_output l.by.link.now l.by.live.now filling)) (5 - l._pass) l.hand
