use Rattle.lk_layout.proofs.CanMoves.{memory_alone, refused_by_none}
use Rattle.lk_layout.proofs.file_ranges.span_anew.Goals as goal

pub unless_short-requires : goal.unless_short-requires
unless_short-requires c = record { memory = memory_alone _ _ c.merge_secondary_parts.ensures.refusal c.requires.joined }

pub unless_short-requires-2 : goal.unless_short-requires-2
unless_short-requires-2 c = record { memory = memory_alone _ _ c.compute_segment_layout.ensures.refusal (refused_by_none _ c.args.link.now c.args.header.now c.args.records.now _ _ c.as_slice-emitted.ensures c.as_slice-active.ensures c.requires.covered) }
