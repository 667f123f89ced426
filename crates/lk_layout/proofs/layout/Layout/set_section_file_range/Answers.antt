use Rattle.std.proofs.Common.{◌<◌, ◌^◌, ◌+◌, length, ap, arith}
use Rattle.lk_layout.specs.FileRanges.{file_bytes}
use Rattle.lk_layout.specs.LayoutRecord.{LayoutRecord}
use Rattle.lk_layout.proofs.CanMoves.{has_room, writes_back}
use Rattle.lk_layout.proofs.layout.Layout.set_section_file_range.Goals as goal

pub invariant_of-self : goal.invariant_of-self
invariant_of-self c =
    let there : c.as_usize.result < length c.self.inside.link.now.plan.sections = omega (arith, c.requires.there, c.as_usize.ensures, ap (λ (l : LayoutRecord). length l.link.plan.sections) c.self.view_is) in
    let told : c.args.start + file_bytes c.as_slice.result.now < 2 ^ 64 = has_room _ _ c.in_ok-end_behind.ensures in
    let room : c.args.start + file_bytes c.self.inside.section_layouts.items < 2 ^ 64 = omega (arith, told, ap file_bytes c.as_slice.ensures.value) in
    writes_back c.self.inside.link.now c.self.inside.header_info c.self.inside.section_layouts.items c.self.inside.section_part_layouts.items _ _ _ _ c.as_usize.result c.args.start _ _ c.self.invariant there room
    c.move_section-end.ensures.records c.move_section-end.ensures.parts c.as_mut_slice.ensures.value c.as_mut_slice-2.ensures.value c.as_mut_slice.ensures.len c.as_mut_slice-2.ensures.len
