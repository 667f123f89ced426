-- What a layout keeps so that its sections can be moved is kept by each move, and holds of what is told.
use Rattle.std.proofs.Common.{◌≡◌, ℕ, ◌+◌, ◌<◌, ◌^◌, Bool, List, [], ◌++◌, take, drop, Option, Some, None, Result, Ok, Err, length, inl, inr, refl, sym, ap, subst, ◌∙◌, arith}
use Rattle.std.specs.Prelude.{All, IfErr, if◌then◌else◌, nat_lt}
use Rattle.std.proofs.lemmas.Bool.{cases_Bool, ltb-true}
use Rattle.std.proofs.lemmas.List.{append-nil, drop_all, take_all}
use Rattle.lk_link.specs.declared.link.LinkInput.{LinkInput}
use Rattle.lk_link.specs.declared.plan.PlanSection.{PlanSection}
use Rattle.lk_link.specs.Marks.{is_marked}
use Rattle.lk_expressions.specs.Records.{Record}
use Rattle.lk_place.specs.declared.error.PlaceError.{PlaceError}
use Rattle.lk_place.specs.declared.error.PlaceError.TheVariants as place
use Rattle.lk_place.specs.declared.segments.SegmentFileLayout.{SegmentFileLayout}
use Rattle.lk_place.specs.declared.segments.SegmentFileLayout.TheVariants.{FromSections}
use Rattle.lk_place.specs.Laws.{FileRangesAreDisjoint}
use Rattle.lk_place.specs.Ranges.{FileIsDisjoint}
use Rattle.lk_place.specs.Secondaries.{merge_refusal}
use Rattle.lk_place.specs.Segments.{Refuses, section_records, segments_refusal}
use Rattle.lk_relax.specs.Stages.{setting_after}
use Rattle.lk_sizes.specs.Emitted.{active_segments, is_emitted}
use Rattle.lk_tables.specs.declared.header_info.HeaderInfo.{HeaderInfo}
use Rattle.lk_resolutions.specs.OutputContent.{output_content}
use Rattle.lk_layout.specs.declared.stages.ToldLink.{ToldLink}
use Rattle.lk_layout.specs.FileRanges.{AreHeld, file_bytes, moved_parts, moved_sections}
use Rattle.lk_layout.specs.Machines.{Machine}
use Rattle.lk_layout.specs.Made.{relaxing_for}
use Rattle.lk_layout.specs.Movable.{CanMove}
use Rattle.lk_layout.specs.Stages.{IsToldLink}
use Rattle.lk_layout.proofs.HeldParts.{sections_hold}
use Rattle.lk_layout.proofs.Moving.{moved_count, sections_count, sections_move, still_held, still_joined}
use Rattle.lk_layout.proofs.SameMemory.{refused_alike, same_memories}
use Rattle.lk_layout.proofs.Settings.{active_there, length-section_records, ready}

-- so it is behind a move for which there is room
pub keeps_moving : (link : LinkInput) (header : HeaderInfo) (records parts : List Record) (s start : ℕ) → CanMove link header records parts → s < length link.plan.sections
    → start + file_bytes records < 2 ^ 64
    → CanMove link header (moved_sections link.plan.sections records parts s start) (moved_parts link.plan.sections parts s start)
keeps_moving link header records parts s start can there room =
    let sections : List PlanSection = link.plan.sections in
    let new : List Record = moved_sections sections records parts s start in
    let before = can.refreshes in
    let moves = sections_move sections records parts s start before.each can.held there in
    record {
      refreshes = record {
        good = before.good;
        each = sections_count sections records parts s start ∙ before.each;
        joined = still_joined sections records parts s start before.good.sections before.each can.held there room before.joined;
        active = before.active;
        covered = refused_alike FromSections FromSections link new records (is_marked header.emitted) header.active_segment_ids moves.memory ∙ before.covered;
      };
      counted = moved_count sections parts s start ∙ can.counted;
      held = still_held sections records parts s start before.each can.held there;
    }

-- so it is of what is told
pub told_can_move : FileRangesAreDisjoint → (machine : Machine) (link : LinkInput) (told : ToldLink) → IsToldLink machine link told
    → CanMove link told.reaching.addressed.spanned.placed.owners.header told.reaching.addressed.spanned.placed.records.sections told.reaching.addressed.spanned.placed.records.parts
told_can_move disjoint machine link told is =
    let spanned = is.reaching.branched.addressed.spanned in
    let placed = spanned.placed in
    let sections : List PlanSection = link.plan.sections in
    let found = told.reaching.addressed.spanned.placed in
    let header : HeaderInfo = found.owners.header in
    let setting = setting_after (relaxing_for machine link found.kept.live) placed.stage.walked in
    let good = placed.kept.merged.checked.good in
    let apart : FileIsDisjoint found.records.parts = disjoint setting placed.are.states found.records.parts (ready machine link found.kept.live placed.stage.walked good) placed.are.is in
    let same : found.records.sections ≡ section_records sections found.records.parts = placed.are.sections in
    let stands : section_records sections found.records.parts ≡ section_records sections placed.stage.records = ap (section_records sections) placed.records in
    let whole : found.records.sections ≡ section_records sections placed.stage.records = same ∙ stands in
    let joined : merge_refusal sections (section_records sections placed.stage.records) ≡ None = spanned.fits in
    let emitted : ℕ → Bool = is_emitted (output_content machine.sizes link found.kept.live) in
    let active : header.active_segment_ids ≡ active_segments (output_content machine.sizes link found.kept.live) = ap (λ (h : HeaderInfo). h.active_segment_ids) placed.owners.header in
    let covered : segments_refusal FromSections link (section_records sections placed.stage.records) emitted (active_segments (output_content machine.sizes link found.kept.live)) ≡ None
    = spanned.covered in
    record {
      refreshes = record {
        good = good;
        each = ap length same ∙ length-section_records sections found.records.parts;
        joined = ap (merge_refusal sections) whole ∙ joined;
        active = subst (All (λ i. i < length link.plan.segments)) (sym active) (active_there machine.sizes link found.kept.live);
        covered = (λ i. segments_refusal FromSections link (whole i) (placed.marks i) (active i)) ∙ covered;
      };
      counted = placed.are.is.each;
      held = subst (λ (rs : List Record). AreHeld sections rs found.records.parts) (sym same) (sections_hold sections found.records.parts apart);
    }

-- so it is of what is the same
pub same_can_move : (link : LinkInput) (header header' : HeaderInfo) (records records' parts parts' : List Record) → CanMove link header records parts → header' ≡ header → records' ≡ records → parts' ≡ parts
    → CanMove link header' records' parts'
same_can_move link header header' records records' parts parts' can one two three =
    subst (λ (h : HeaderInfo). CanMove link h records' parts') (sym one)
    (subst (λ (rs : List Record). CanMove link header rs parts') (sym two)
    (subst (λ (ps : List Record). CanMove link header records ps) (sym three) can))

-- ---- what is found again

-- where nothing is refused, a call lacks memory alone
lacks_memory : (e : PlaceError) → ((e ≡ place.NoMemory → ⊥) → None ≡ Some e) → e ≡ place.NoMemory
lacks_memory place.NoMemory h = refl
lacks_memory (place.RegionDuplicate region) h = absurd (let never : None ≡ Some (place.RegionDuplicate region) = h (λ e. absurd (cc)) in cc)
lacks_memory (place.RegionUnknown s) h = absurd (let never : None ≡ Some (place.RegionUnknown s) = h (λ e. absurd (cc)) in cc)
lacks_memory (place.RegionOverflow region by) h = absurd (let never : None ≡ Some (place.RegionOverflow region by) = h (λ e. absurd (cc)) in cc)
lacks_memory (place.OutsideRegion event address) h = absurd (let never : None ≡ Some (place.OutsideRegion event address) = h (λ e. absurd (cc)) in cc)
lacks_memory (place.LocationBackwards from to) h = absurd (let never : None ≡ Some (place.LocationBackwards from to) = h (λ e. absurd (cc)) in cc)
lacks_memory (place.BaseTooLow base headers) h = absurd (let never : None ≡ Some (place.BaseTooLow base headers) = h (λ e. absurd (cc)) in cc)
lacks_memory (place.SectionOutsideSegments s) h = absurd (let never : None ≡ Some (place.SectionOutsideSegments s) = h (λ e. absurd (cc)) in cc)
lacks_memory (place.Expression at cause) h = absurd (let never : None ≡ Some (place.Expression at cause) = h (λ e. absurd (cc)) in cc)
lacks_memory (place.AddressOverflow at) h = absurd (let never : None ≡ Some (place.AddressOverflow at) = h (λ e. absurd (cc)) in cc)

pub memory_alone : {X : Type 0} (r : Result X PlaceError) (refusal : Option PlaceError) → IfErr r (λ e. Refuses e refusal) → refusal ≡ None → IfErr r (λ e. e ≡ place.NoMemory)
memory_alone (Ok x) refusal h none = tt
memory_alone (Err e) refusal h none = lacks_memory e (λ other. sym none ∙ h other)

-- in another kind of file nothing is refused either
pub refused_by_none : (kind : SegmentFileLayout) (link : LinkInput) (header : HeaderInfo) (records : List Record) (emitted : List Bool) (active : List ℕ)
    → emitted ≡ header.emitted → active ≡ header.active_segment_ids → segments_refusal FromSections link records (is_marked header.emitted) header.active_segment_ids ≡ None
    → segments_refusal kind link records (is_marked emitted) active ≡ None
refused_by_none kind link header records emitted active marks ids none =
    (λ i. segments_refusal kind link records (is_marked (marks i)) (ids i))
    ∙ refused_alike kind FromSections link records records (is_marked header.emitted) header.active_segment_ids (same_memories records)
    ∙ none

-- ---- what is written back

-- a list of which all is written is what was written
written : {X : Type 0} (n : ℕ) (new old : List X) → length new ≡ length old → length old ≡ n → take n (new ++ drop (length new) old) ≡ new
written n new old same count =
    let none : drop (length new) old ≡ [] = drop_all (length new) old (omega (arith, same)) in
    let e : n ≡ length new = omega (arith, same, count) in
    let all : new ++ drop (length new) old ≡ new = ap (λ (left : List _). new ++ left) none ∙ append-nil new in
    (λ i. take (e i) (all i)) ∙ take_all (length new) new (omega arith)

-- what is kept is kept of the records that a move writes
pub writes_back : (link : LinkInput) (header : HeaderInfo) (records parts new newer lent lent' : List Record) (s start n m : ℕ) → CanMove link header records parts → s < length link.plan.sections
    → start + file_bytes records < 2 ^ 64 → new ≡ moved_sections link.plan.sections lent lent' s start → newer ≡ moved_parts link.plan.sections lent' s start
    → lent ≡ records → lent' ≡ parts → length lent ≡ n → length lent' ≡ m
    → CanMove link header (take n (new ++ drop (length new) records)) (take m (newer ++ drop (length newer) parts))
writes_back link header records parts new newer lent lent' s start n m can there room is are whole whole' count count' =
    let sections : List PlanSection = link.plan.sections in
    let one : new ≡ moved_sections sections records parts s start = is ∙ (λ i. moved_sections sections (whole i) (whole' i) s start) in
    let other : newer ≡ moved_parts sections parts s start = are ∙ (λ i. moved_parts sections (whole' i) s start) in
    let here : take n (new ++ drop (length new) records) ≡ moved_sections sections records parts s start
    = written n new records (ap length one ∙ sections_count sections records parts s start) (sym (ap length whole) ∙ count) ∙ one in
    let there' : take m (newer ++ drop (length newer) parts) ≡ moved_parts sections parts s start
    = written m newer parts (ap length other ∙ moved_count sections parts s start) (sym (ap length whole') ∙ count') ∙ other in
    let kept = keeps_moving link header records parts s start can there room in
    let all : CanMove link header (moved_sections sections records parts s start) (take m (newer ++ drop (length newer) parts))
    = subst (λ (ps : List Record). CanMove link header (moved_sections sections records parts s start) ps) (sym there') kept in
    subst (λ (rs : List Record). CanMove link header rs (take m (newer ++ drop (length newer) parts))) (sym here) all

-- there is room where an end is told
pub has_room : (end told : ℕ) → Some told ≡ (if nat_lt end (2 ^ 64) then Some end else None) → end < 2 ^ 64
has_room end told h =
    elim (cases_Bool (nat_lt end (2 ^ 64))) [
      | inl less ↦ ltb-true end (2 ^ 64) less
      | inr past ↦
          let none : Some told ≡ None = h ∙ ap (λ b. if b then Some end else None) past in
          absurd (cc)
    ]
