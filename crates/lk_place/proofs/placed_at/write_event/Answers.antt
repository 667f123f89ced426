use Rattle.std.proofs.Common.{◌<◌, length, ap, arith}
use Rattle.lk_link.specs.Inside.{placed_section}
use Rattle.lk_place.proofs.placed_at.write_event.Goals as goal

pub part_range-first-requires : goal.part_range-first-requires
part_range-first-requires c =
    let below : c.in-Section.section < length c.args.sections.now = c.requires.in_range c.in-Section.section (ap placed_section c.in-Section.is) in
    omega (arith, c.as_usize.ensures, below)
