use Rattle.std.proofs.Common.{◌≡◌, ℕ, true}
use Rattle.std.specs.Prelude.{if◌then◌else◌}
use Rattle.lk_link.specs.Parts.{first_part}
use Rattle.lk_place.specs.Placement.{end_behind, is_below, record_by}
use Rattle.lk_expressions.specs.Records.{record_at}
use Rattle.lk_place.specs.PlacedBefore.{lies_in}
use Rattle.lk_place.specs.Walk.{setting_in}
use Rattle.lk_place.proofs.walk.Walk.place_parts.Given as goal

-- the cursors and the records behind the parts so far
abbrev pub invariant-loop-place : goal.invariant-loop-place
invariant-loop-place g l =
    let setting = setting_in g.P.Platform.segment_start l.self in
    let s = l.placing.section in
    record {
      ends : l.cursors ≡ end_behind setting s l.placing.begin l.place;
      records : (p : ℕ) → record_at l.records p ≡ (if lies_in (first_part setting.plan.sections s) l.place p then record_by setting s l.placing.begin p else record_at l.initial.records p);
      fits : is_below l.cursors ≡ true;
    }
