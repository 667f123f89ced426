use Rattle.std.proofs.Common.{◌-◌, ◌≤◌, ℕ, subst}
use Rattle.lk_link.specs.Alignments.{IsGreatestMultiple}
use Rattle.lk_expressions.specs.Records.{Record}
use Rattle.lk_answers.proofs.queries.start_before.Goals as goal

pub returns : goal.returns
returns c =
    let found = c.in_ok-before.ensures in
    subst (λ (r : Record). (c.args.bytes ≤ r.mem_offset) × IsGreatestMultiple r.alignment (r.mem_offset - c.args.bytes) c.align_down.result) c.segment.view_is
    (found.0, subst (λ (n : ℕ). IsGreatestMultiple c.segment.inside.alignment n c.align_down.result) found.1 c.align_down.ensures)
