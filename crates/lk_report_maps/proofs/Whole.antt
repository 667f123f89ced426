-- Defined layouts are whole.
use Rattle.std.proofs.Common.{◌≡◌, ℕ, List, length, map, ap, ◌∙◌}
use Rattle.std.specs.List.{enumerate_from}
use Rattle.std.proofs.lemmas.List.{length-map}
use Rattle.std.proofs.lemmas.List.FromFn.{length-enumerate_from}
use Rattle.lk_place.specs.Segments.{part_records, section_record}
use Rattle.lk_sizes.specs.Attributes.{section_attributes}
use Rattle.lk_sizes.specs.Emitted.{output_index}
use Rattle.lk_layout.specs.LayoutRecord.{LayoutRecord}
use Rattle.lk_soundness.specs.Laws.{DefinedLayoutsAreSound}
use Rattle.lk_layout.specs.Made.{made_filling, made_of}
use Rattle.lk_report_maps.specs.Laws.{DefinedLayoutsAreWhole, DefinedReportsAreRead, ReportsAreRead}

-- as many as there are items
numbered : {X Y : Type 0} (f : ℕ × X → Y) (xs : List X) → length (map f (enumerate_from 0 xs)) ≡ length xs
numbered f xs = length-map (enumerate_from 0 xs) f ∙ length-enumerate_from 0 xs

pub defined_layouts_are_whole : DefinedLayoutsAreSound → DefinedLayoutsAreWhole
defined_layouts_are_whole sound machine link layout lawful defined =
    let (live, stage, is) = sound machine link layout lawful defined in
    record {
      records = ap (λ (l : LayoutRecord). length l.section_layouts) is.is ∙ numbered (λ q. section_record q.1 (part_records link.plan.sections stage.records q.0)) link.plan.sections;
      indexes = ap (λ (l : LayoutRecord). length l.output_section_indexes) is.is ∙ numbered (λ q. output_index (made_filling (made_of machine link live stage)).content q.0) link.plan.sections;
      attributes = ap (λ (l : LayoutRecord). length l.section_attributes) is.is ∙ numbered (λ q. section_attributes link live q.0) link.plan.sections;
    }

pub defined_reports_are_read : ReportsAreRead → DefinedLayoutsAreWhole → DefinedReportsAreRead
defined_reports_are_read read whole machine link layout lawful defined short = read link layout short (whole machine link layout lawful defined)
