-- A plan with one load segment is plain.
use Rattle.std.proofs.Common.{◌≡◌, ℕ, ◌<◌, ◌≤◌, true, false, length, take, refl, ap, ◌∙◌, inl, inr, arith}
use Rattle.std.specs.Prelude.{◌&&◌, ◌||◌, if◌then◌else◌, not}
use Rattle.std.proofs.lemmas.Bool.{and_parts, cases_lt, not-true}
use Rattle.std.proofs.lemmas.List.{get_or_past}
use Rattle.lk_link.specs.declared.plan.OrderEvent.TheVariants.{Section}
use Rattle.lk_link.specs.declared.plan.Plan.{Plan}
use Rattle.lk_link.specs.declared.plan.PlanSection.{PlanSection}
use Rattle.lk_link.specs.declared.plan.attributes.TheConstants.{NOBITS, TLS}
use Rattle.lk_link.specs.Inside.{is_open}
use Rattle.lk_link.specs.PlanSections.{has_memory, is_allocated, is_file_backed, is_set, is_singletons, is_zero_fill_thread_local, no_section, own_attributes, section_at}
use Rattle.lk_link.specs.WellFormed.{IsEventOrder}
use Rattle.lk_place_laws.specs.Laws.{OneLoadSegmentIsPlain}
use Rattle.lk_place.specs.Plain.{PlacesInLoad}
use Rattle.lk_place.proofs.Insides.{placed_in_range}
use Rattle.lk_place.proofs.OpenSegments.{unopened}

-- what has memory is allocated, and isn't zero-fill thread-local
has : (plan : Plan) (s : ℕ) → has_memory plan s ≡ true → (is_allocated plan s ≡ true) × (is_zero_fill_thread_local plan s ≡ false)
has plan s h =
    let parts = and_parts (is_allocated plan s) (not (is_zero_fill_thread_local plan s)) h in
    (parts.0, not-true (is_zero_fill_thread_local plan s) parts.1)

-- nor is a section that isn't there
none_zero_fill : (plan : Plan) (s : ℕ) → length plan.sections ≤ s → is_zero_fill_thread_local plan s ≡ false
none_zero_fill plan s past =
    let own : own_attributes plan s ≡ 0
    = elim (is_singletons plan s) as (λ b. (if b then 0 else (section_at plan.sections s).attrs) ≡ 0) [
      | true ↦ refl
      | false ↦ ap (λ (x : PlanSection). x.attrs) (get_or_past plan.sections s no_section past)
    ] in
    ap (λ n. is_set TLS n && is_set NOBITS n) own

zero_fill_of : (plan : Plan) (s : ℕ) → ((s : ℕ) → s < length plan.sections → (has_memory plan s ≡ true) × (is_file_backed plan s ≡ true)) → is_zero_fill_thread_local plan s ≡ false
zero_fill_of plan s all =
    elim (cases_lt s (length plan.sections)) [
      | inl below ↦ (has plan s (all s below).0).1
      | inr past ↦ none_zero_fill plan s past
    ]

-- what is placed is there
there : (plan : Plan) (i s k : ℕ) → IsEventOrder plan → PlacesInLoad plan i s k → s < length plan.sections
there plan i s k order h = placed_in_range plan (Section s) s (order.in_range k (Section s) h.places.here) refl

pub one_load_segment_is_plain : OneLoadSegmentIsPlain
one_load_segment_is_plain plan output order whole regions unmoved one all =
    record {
      whole = whole;
      regions = regions;
      unmoved = unmoved;
      apart = λ i j k load opens. ap (λ n. is_open n (take k plan.events)) (one i j load opens.load) ∙ unopened plan order j k k opens.here (omega arith);
      allocated = λ i s k h. (has plan s (all s (there plan i s k order h)).0).0;
      zero_fill = λ i s k h zero. absurd (let no : is_zero_fill_thread_local plan s ≡ false = zero_fill_of plan s all in cc);
      backed_first = λ i s t m n less h g backed. ap (λ b. b || is_zero_fill_thread_local plan s) (all s (there plan i s m order h)).1;
    }
