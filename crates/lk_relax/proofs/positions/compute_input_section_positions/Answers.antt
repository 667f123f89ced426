use Rattle.std.proofs.Common.{◌∙◌}
use Rattle.lk_sizes.specs.Owners.{in_output}
use Rattle.lk_relax.proofs.positions.compute_input_section_positions.Goals as goal

pub positions_by-requires-clause-filled : goal.positions_by-requires-clause-filled
positions_by-requires-clause-filled c =
    let filled = c.requires.filled in
    (filled.0, filled.1, c.deref.ensures.value ∙ c.in_ok-sizes.ensures.sizes (in_output c.args.link.now c.args.live.now filled.0) filled.1.contents)
