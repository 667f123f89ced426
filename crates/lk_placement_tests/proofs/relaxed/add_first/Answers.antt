use Rattle.std.proofs.Common.{[]}
use Rattle.lk_relax.specs.Relaxed.{own_filling}
use Rattle.lk_placement_tests.proofs.relaxed.add_first.Goals as goal

pub compute_input_section_positions-requires-clause-filled : goal.compute_input_section_positions-requires-clause-filled
compute_input_section_positions-requires-clause-filled c =
    let filled = c.requires.filled in
    (own_filling c.args.link.now filled.0 c.args.live.now [] [], filled.1)
