use Rattle.std.proofs.Common.{subst}
use Rattle.lk_link.specs.Alignments.{IsGreatestMultiple}
use Rattle.lk_expressions.specs.Records.{Record}
use Rattle.lk_answers.proofs.queries.aligned_start.Goals as goal

pub returns : goal.returns
returns c = subst (λ (r : Record). IsGreatestMultiple r.alignment r.mem_offset c.align_down.result) c.segment.view_is c.align_down.ensures
