-- What a layout keeps, so that its sections can be moved in the file.
use Rattle.std.specs.Prelude.{◌≡◌, ◌<◌, All, List, None, length}
use Rattle.lk_link.specs.declared.link.LinkInput.{LinkInput}
use Rattle.lk_link.specs.Marks.{is_marked}
use Rattle.lk_link.specs.Parts.{all_parts}
use Rattle.lk_link.specs.WellFormed.{IsWellFormed}
use Rattle.lk_expressions.specs.Records.{Record}
use Rattle.lk_place.specs.declared.segments.SegmentFileLayout.TheVariants.{FromSections}
use Rattle.lk_place.specs.Secondaries.{merge_refusal}
use Rattle.lk_place.specs.Segments.{segments_refusal}
use Rattle.lk_tables.specs.declared.header_info.HeaderInfo.{HeaderInfo}
use Rattle.lk_layout.specs.FileRanges.{AreHeld}

-- what sections and segments span is found again without a refusal: there is a record for each section of a well-formed link, what they
-- span with their secondaries ends below 2^64, and no segment is refused
pub record CanRefresh (link : LinkInput) (header : HeaderInfo) (records : List Record) : Type 0 where
  pub good : IsWellFormed link
  pub each : length records ≡ length link.plan.sections
  pub joined : merge_refusal link.plan.sections records ≡ None
  pub active : All (λ i. i < length link.plan.segments) header.active_segment_ids
  pub covered : segments_refusal FromSections link records (is_marked header.emitted) header.active_segment_ids ≡ None

-- and there is a record for each part, and each section takes the bytes of the file that its parts take
pub record CanMove (link : LinkInput) (header : HeaderInfo) (records parts : List Record) : Type 0 where
  pub refreshes : CanRefresh link header records
  pub counted : length parts ≡ length (all_parts link.plan.sections)
  pub held : AreHeld link.plan.sections records parts
