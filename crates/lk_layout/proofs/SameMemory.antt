-- No refusal of segments reads a range of the file.
use Rattle.std.proofs.Common.{◌≡◌, ℕ, ◌+◌, ◌-◌, ◌^◌, Bool, true, false, List, [], ◌∷◌, Option, Some, None, filter, map, refl, sym, ap, subst, ◌∙◌}
use Rattle.std.specs.Prelude.{◌&&◌, ◌||◌, not, if◌then◌else◌, find, nat_lt}
use Rattle.std.specs.Int.{next_multiple_of}
use Rattle.std.specs.List.{filter_map}
use Rattle.std.specs.Option.{option_and_then, option_or}
use Rattle.lk_link.specs.declared.fault.Place.TheVariants as at
use Rattle.lk_link.specs.declared.link.LinkInput.{LinkInput}
use Rattle.lk_link.specs.declared.plan.Plan.{Plan}
use Rattle.lk_link.specs.Inside.{placed_section, sections_inside, segment_insides}
use Rattle.lk_link.specs.PlanSections.{is_allocated, is_zero_fill_thread_local, primary_of}
use Rattle.lk_link.specs.SegmentKinds.{is_stack, is_tls, segment_at}
use Rattle.lk_expressions.specs.Records.{Record, mem_end, record_at}
use Rattle.lk_place.specs.declared.error.PlaceError.{PlaceError}
use Rattle.lk_place.specs.declared.error.PlaceError.TheVariants.{AddressOverflow}
use Rattle.lk_place.specs.declared.segments.SegmentFileLayout.{SegmentFileLayout}
use Rattle.lk_place.specs.declared.segments.SegmentFileLayout.TheVariants as kind
use Rattle.lk_place.specs.declared.segments.SegmentLayout.{SegmentLayout}
use Rattle.lk_place.specs.Segments.{counts, end_refusal, first_outside, greatest, hull, in_file, is_in_segments, is_outside, is_skipped, least, may_stand_outside, outside_refusal, segment_layout, segment_layouts, segment_record, segments_refusal, stack_record, thread_local_one}

-- what stands in memory alike, at one alignment
pub record SameMemory (a b : Record) : Type 0 where
  pub size : a.mem_size ≡ b.mem_size
  pub start : a.mem_offset ≡ b.mem_offset
  pub alignment : a.alignment ≡ b.alignment

-- all records of two lists do
abbrev pub SameMemories : List Record → List Record → Type 0
SameMemories xs ys = (s : ℕ) → SameMemory (record_at xs s) (record_at ys s)

pub same_record : (a : Record) → SameMemory a a
same_record a = record { size = refl; start = refl; alignment = refl }

-- a number of each record that is alike is alike over a list
maps_alike : {X : Type 0} (f : Record → X) (xs ys : List Record) → ((s : ℕ) → f (record_at xs s) ≡ f (record_at ys s)) → (ss : List ℕ)
    → map f (map (record_at xs) ss) ≡ map f (map (record_at ys) ss)
maps_alike f xs ys each [] = refl
maps_alike f xs ys each (s ∷ ss) =
    let head = each s in
    let rest = maps_alike f xs ys each ss in
    λ i. head i ∷ rest i

-- what several span in memory
hulls_alike : (xs ys : List Record) → SameMemories xs ys → (ss : List ℕ) → SameMemory (hull (map (record_at xs) ss)) (hull (map (record_at ys) ss))
hulls_alike xs ys same ss =
    let starts = maps_alike (λ (r : Record). r.mem_offset) xs ys (λ s. (same s).start) ss in
    let ends = maps_alike mem_end xs ys (λ s. λ i. (same s).start i + (same s).size i) ss in
    let alignments = maps_alike (λ (r : Record). r.alignment) xs ys (λ s. (same s).alignment) ss in
    record {
      size = λ i. greatest 0 (ends i) - least 0 (starts i);
      start = ap (least 0) starts;
      alignment = ap (greatest 1) alignments;
    }

-- the same sections are skipped
skips_alike : (plan : Plan) (xs ys : List Record) (emitted : ℕ → Bool) → SameMemories xs ys → is_skipped plan xs emitted ≡ is_skipped plan ys emitted
skips_alike plan xs ys emitted same = λ i s. not (nat_lt 0 ((same s).size i)) && not (emitted (primary_of plan.sections s))

-- the same count inside a segment
counts_alike : (plan : Plan) (xs ys : List Record) (emitted : ℕ → Bool) → SameMemories xs ys → (k : ℕ) → counts plan xs emitted k ≡ counts plan ys emitted k
counts_alike plan xs ys emitted same k =
    λ i s. not (skips_alike plan xs ys emitted same i s) && (is_tls (segment_at plan.segments k).kind || not (is_zero_fill_thread_local plan s))

-- the same stand outside all
outside_alike : (link : LinkInput) (xs ys : List Record) (emitted : ℕ → Bool) → SameMemories xs ys → first_outside link xs emitted ≡ first_outside link ys emitted
outside_alike link xs ys emitted same =
    let plan : Plan = link.plan in
    let outside : is_outside plan xs emitted ≡ is_outside plan ys emitted
    = λ i s. not (skips_alike plan xs ys emitted same i s) && is_allocated plan s && not (is_in_segments (segment_insides plan) s) in
    ap (λ (p : ℕ → Bool). if may_stand_outside link then None else find p (filter_map placed_section plan.events)) outside

-- what a segment spans in memory
segments_alike : (plan : Plan) (stack : ℕ) (xs ys : List Record) (emitted : ℕ → Bool) → SameMemories xs ys → (k : ℕ)
    → SameMemory (segment_record plan stack xs emitted k) (segment_record plan stack ys emitted k)
segments_alike plan stack xs ys emitted same k =
    let inside : List ℕ = sections_inside plan.events k in
    let here : List ℕ = filter (counts plan xs emitted k) inside in
    let there : List ℕ = filter (counts plan ys emitted k) inside in
    let one : here ≡ there = ap (λ (p : ℕ → Bool). filter p inside) (counts_alike plan xs ys emitted same k) in
    let spanned : SameMemory (hull (map (record_at xs) here)) (hull (map (record_at ys) there))
    = subst (λ (ss : List ℕ). SameMemory (hull (map (record_at xs) here)) (hull (map (record_at ys) ss))) one (hulls_alike xs ys same here) in
    elim (is_stack (segment_at plan.segments k).kind) as (λ b. SameMemory (if b then stack_record stack else hull (map (record_at xs) here)) (if b then stack_record stack else hull (map (record_at ys) there))) [
      | true ↦ same_record (stack_record stack)
      | false ↦ spanned
    ]

-- the kind of the file is no matter of memory
in_any_file : (kind : SegmentFileLayout) (plan : Plan) (xs : List Record) (emitted : ℕ → Bool) (k : ℕ) (r : Record) → SameMemory (in_file kind plan xs emitted k r) r
in_any_file kind.FromSections plan xs emitted k r = same_record r
in_any_file kind.Compacted plan xs emitted k r = record { size = refl; start = refl; alignment = refl }

pub layouts_alike : (here there : SegmentFileLayout) (plan : Plan) (stack : ℕ) (xs ys : List Record) (emitted : ℕ → Bool) → SameMemories xs ys → (k : ℕ)
    → SameMemory (segment_layout here plan stack xs emitted k).sizes (segment_layout there plan stack ys emitted k).sizes
layouts_alike here there plan stack xs ys emitted same k =
    let left = in_any_file here plan xs emitted k (segment_record plan stack xs emitted k) in
    let middle = segments_alike plan stack xs ys emitted same k in
    let right = in_any_file there plan ys emitted k (segment_record plan stack ys emitted k) in
    record {
      size = left.size ∙ middle.size ∙ sym right.size;
      start = left.start ∙ middle.start ∙ sym right.start;
      alignment = left.alignment ∙ middle.alignment ∙ sym right.alignment;
    }

-- a segment that stands alike is refused alike
ends_alike : (here there : SegmentFileLayout) (plan : Plan) (stack : ℕ) (xs ys : List Record) (emitted : ℕ → Bool) → SameMemories xs ys → (k : ℕ)
    → end_refusal (segment_layout here plan stack xs emitted k) ≡ end_refusal (segment_layout there plan stack ys emitted k)
ends_alike here there plan stack xs ys emitted same k =
    let alike = layouts_alike here there plan stack xs ys emitted same k in
    λ i. if nat_lt (next_multiple_of (alike.start i + alike.size i) (alike.alignment i)) (2 ^ 64) then None else Some (AddressOverflow (at.Segment k))

-- so is the thread-local one among those that are active
thread_local_alike : (here there : SegmentFileLayout) (plan : Plan) (stack : ℕ) (xs ys : List Record) (emitted : ℕ → Bool) → SameMemories xs ys → (active : List ℕ)
    → option_and_then end_refusal (thread_local_one plan (segment_layouts here plan stack xs emitted active))
    ≡ option_and_then end_refusal (thread_local_one plan (segment_layouts there plan stack ys emitted active))
thread_local_alike here there plan stack xs ys emitted same [] = refl
thread_local_alike here there plan stack xs ys emitted same (k ∷ ks) =
    let a : SegmentLayout = segment_layout here plan stack xs emitted k in
    let b : SegmentLayout = segment_layout there plan stack ys emitted k in
    let left : Option SegmentLayout = thread_local_one plan (segment_layouts here plan stack xs emitted ks) in
    let right : Option SegmentLayout = thread_local_one plan (segment_layouts there plan stack ys emitted ks) in
    elim (is_tls (segment_at plan.segments k).kind) as (λ t. option_and_then end_refusal (if t then Some a else left) ≡ option_and_then end_refusal (if t then Some b else right)) [
      | true ↦ ends_alike here there plan stack xs ys emitted same k
      | false ↦ thread_local_alike here there plan stack xs ys emitted same ks
    ]

-- records that stand alike in memory give one refusal of segments, whatever the kind of the file
pub refused_alike : (here there : SegmentFileLayout) (link : LinkInput) (xs ys : List Record) (emitted : ℕ → Bool) (active : List ℕ) → SameMemories xs ys
    → segments_refusal here link xs emitted active ≡ segments_refusal there link ys emitted active
refused_alike here there link xs ys emitted active same =
    let outside : Option PlaceError = outside_refusal (first_outside link ys emitted) in
    let first = outside_alike link xs ys emitted same in
    let local = thread_local_alike here there link.plan link.options.stack xs ys emitted same active in
    λ i. option_or (outside_refusal (first i)) (local i)

pub same_memories : (xs : List Record) → SameMemories xs xs
same_memories xs s = same_record (record_at xs s)
