-- What records, segments and their lists tell.
use Rattle.std.proofs.Common.{ℕ, ◌<◌, ◌^◌, arith}
use mir.Syntax.{w32, w64}
use denote.Known.{Known, uint_known, declared_known}
use Rattle.lk_link.specs.contracts.alignment.Alignment as alignment_row
use Rattle.lk_link.specs.contracts.alignment.Alignment.TheInside as alignment_inside
use Rattle.lk_link.specs.contracts.ids.SegmentId as segment_id
use Rattle.lk_link.specs.contracts.ids.SegmentId.TheInside as segment_id_inside
use Rattle.lk_expressions.specs.Records.{Fits, Record}
use Rattle.lk_expressions.specs.contracts.record.OutputRecordLayout as record_row
use Rattle.lk_expressions.specs.contracts.record.OutputRecordLayout.TheInside as record_inside
use Rattle.lk_place.specs.contracts.segments.SegmentLayout as segment_row
use Rattle.lk_place.specs.declared.segments.SegmentLayout.{SegmentLayout}
use Rattle.lk_report_maps.proofs.TypeFacts.{of_fixed, told_so}

abbrev pub of_alignment : Known alignment_row.the_row
of_alignment =
    of_fixed alignment_inside.the_row (declared_known alignment_inside.the_type (uint_known w64, tt)) ℕ (alignment_row.the_row).coded alignment_row.the_inverse alignment_row.the_view
    alignment_row.the_invariant

-- the numbers of a record that a report tells are below 2^64
pub record IsShortRecord (r : Record) : Type 0 where
  pub fits : Fits r
  pub alignment : r.alignment < 2 ^ 64
  pub loaded : r.lma_offset < 2 ^ 64

abbrev pub of_fields : Known record_row.the_row
of_fields =
    of_fixed record_inside.the_row (declared_known record_inside.the_type (uint_known w64, (uint_known w64, (of_alignment, (uint_known w64, (uint_known w64, (uint_known w64, tt)))))))
    Record (record_row.the_row).coded record_row.the_inverse record_row.the_view record_row.the_invariant

pub record_tells : (r : Record) → of_fields.Fact r → IsShortRecord r
record_tells r f = record { fits = f.1.0.1; alignment = f.0.1.1.0.0.0; loaded = f.0.1.1.1.1.1.0 }

abbrev pub of_record : Known record_row.the_row
of_record = told_so record_row.the_row of_fields IsShortRecord record_tells

abbrev pub of_segment_id : Known segment_id.the_row
of_segment_id =
    of_fixed segment_id_inside.the_row (declared_known segment_id_inside.the_type (uint_known w32, tt)) ℕ (segment_id.the_row).coded segment_id.the_inverse segment_id.the_view segment_id.the_invariant

-- so are those of a segment
pub record IsShortSegment (l : SegmentLayout) : Type 0 where
  pub number : l.id < 2 ^ 64
  pub sizes : IsShortRecord l.sizes

abbrev pub of_parts : Known segment_row.the_row
of_parts = declared_known segment_row.the_type (of_segment_id, (of_record, tt))

pub segment_tells : (l : SegmentLayout) → of_parts.Fact l → IsShortSegment l
segment_tells l f = record { number = omega (arith, f.0.0.0); sizes = f.1.0 }

abbrev pub of_segment : Known segment_row.the_row
of_segment = told_so segment_row.the_row of_parts IsShortSegment segment_tells
