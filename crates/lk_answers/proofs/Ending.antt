-- Thread-local data of a defined layout ends in memory.
use Rattle.std.proofs.Common.{◌≡◌, ◌<◌, ◌^◌, ℕ, Bool, true, false, if◌then◌else◌, Option, Some, None, Ok, refl, sym, ap, subst, arith, option_and_then, option_map}
use Rattle.std.specs.Prelude.{nat_lt}
use Rattle.std.specs.Int.{next_multiple_of}
use Rattle.std.proofs.lemmas.Bool.{ltb-true}
use Rattle.lk_expressions.specs.Records.{Record, mem_end}
use Rattle.lk_place.specs.declared.error.PlaceError.{PlaceError}
use Rattle.lk_place.specs.declared.segments.SegmentFileLayout.TheVariants.{FromSections}
use Rattle.lk_place.specs.declared.segments.SegmentLayout.{SegmentLayout}
use Rattle.lk_place.specs.Segments.{end_refusal, segments_refusal, thread_local_one}
use Rattle.lk_own_symbols.specs.EdgeLaws.{SegmentsEndBelow}
use Rattle.lk_sizes.specs.Emitted.{active_segments, is_emitted}
use Rattle.lk_layout.specs.declared.error.LayoutError.{LayoutError}
use Rattle.lk_layout.specs.Defined.{Unless, layout_of, made_sections, made_segments}
use Rattle.lk_layout.specs.Errors.{place_error}
use Rattle.lk_layout.specs.LayoutRecord.{LayoutRecord}
use Rattle.lk_layout.specs.Made.{Made, made_content, made_of}
use Rattle.lk_layout.specs.Merging.{merging_refusal}
use Rattle.lk_answers.specs.Queries.{aligned_end}
use Rattle.lk_answers.specs.QueryLaws.{ThreadLocalDataEndsBelow}
use Rattle.lk_layout.specs.Redirects.{redirects_refusal}
use Rattle.lk_layout.proofs.OneAnswer.{none_of}
use Rattle.lk_layout.proofs.Refusals.{branch_refusal, fault_refusal, joining_refusal, offsets_refusal, segment_refusal, sites_refusal, sizes_refusal, unmet_refusal, walk_refusal}

-- a layout is no refusal
passed : (refusal : Option LayoutError) (layout : LayoutRecord) (P : Type 0) → Unless refusal (Ok layout) P → (refusal ≡ None) × P
passed None layout P h = (refl, h)
passed (Some e) layout P h = absurd (cc)

-- an end that isn't refused is below
kept_below : (n : ℕ) (b : Bool) (e : PlaceError) → nat_lt n (2 ^ 64) ≡ b → (if b then None else Some e) ≡ None → n < 2 ^ 64
kept_below n true e is h = ltb-true n (2 ^ 64) is
kept_below n false e is h = absurd (cc)

segment_below : (o : Option SegmentLayout) → option_and_then end_refusal o ≡ None → aligned_end (option_map (λ l. l.sizes) o) < 2 ^ 64
segment_below None h = omega arith
segment_below (Some l) h =
    let end : ℕ = next_multiple_of (mem_end l.sizes) l.sizes.alignment in
    kept_below end (nat_lt end (2 ^ 64)) _ refl h

pub ends_below : SegmentsEndBelow → ThreadLocalDataEndsBelow
ends_below law machine link layout defined =
    let fault = passed (fault_refusal link) layout _ defined in
    let whole = passed (merging_refusal link) layout _ fault.1 in
    let met = passed (unmet_refusal link) layout _ whole.1 in
    let reached = met.1 in
    let sizes = passed (sizes_refusal machine link reached.0) layout _ reached.2 in
    let end = sizes.1 in
    let made : Made = made_of machine link reached.0 end.0 in
    let walk = passed (walk_refusal made) layout _ end.2 in
    let joined = passed (joining_refusal made) layout _ walk.1 in
    let segments = passed (segment_refusal made) layout _ joined.1 in
    let offsets = passed (offsets_refusal made) layout _ segments.1 in
    let redirects = passed (redirects_refusal made) layout _ offsets.1 in
    let branches = passed (branch_refusal made) layout _ redirects.1 in
    let sites = passed (sites_refusal made) layout _ branches.1 in
    let is : layout ≡ layout_of made = let given : Ok layout ≡ Ok (layout_of made) = sites.1 in cc in
    let content = made_content made in
    let below = law FromSections link (made_sections made) (is_emitted content) (active_segments content)
    (none_of place_error (segments_refusal FromSections link (made_sections made) (is_emitted content) (active_segments content)) segments.0) in
    subst (λ (tls : Option Record). aligned_end tls < 2 ^ 64) (sym (ap (λ (l : LayoutRecord). l.tls_layout) is))
    (segment_below (thread_local_one link.plan (made_segments made)) below)
