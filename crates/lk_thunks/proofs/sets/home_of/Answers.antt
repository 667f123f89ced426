use Rattle.std.proofs.Common.{sym, ap, ◌∙◌}
use Rattle.std.specs.Prelude.{slice_index}
use Rattle.lk_thunks.specs.Homes.{range_told}
use Rattle.lk_thunks.specs.Noting.{planning_of}
use Rattle.lk_thunks.proofs.HomeNumbers.{home_there}
use Rattle.lk_thunks.proofs.sets.home_of.Goals as goal

pub returns : goal.returns
returns c =
    let by = planning_of c.args.by.now in
    c.range_told.ensures ∙ ap (range_told by.ranges) (c.number_at.ensures ∙ ap (slice_index c.args.by.now.homes.now) c.as_usize.ensures)
    ∙ home_there by c.args.definition c.args.by.now.homes.now c.requires (sym c.is_indirect.ensures ∙ c.if-is_indirect.false)
