-- What stands inside the segments of a plan is there.
use Rattle.std.proofs.Common.{◌≡◌, ℕ, suc, ◌+◌, ◌<◌, Bool, true, false, List, [], ◌∷◌, length, map, take, refl, subst, sym, Option, Some, None, arith}
use Rattle.std.specs.Prelude.{All, if◌then◌else◌, slice_get}
use Rattle.std.specs.List.{AllByRecursion, cons_option, enumerate_from, filter_map, slice_index_or}
use Rattle.std.proofs.lemmas.List.Elements.{All-from_recursion}
use Rattle.std.proofs.lemmas.Option.{slice_get-get_or}
use Rattle.lk_link.specs.declared.plan.Plan.{Plan}
use Rattle.lk_link.specs.declared.plan.OrderEvent.{OrderEvent}
use Rattle.lk_link.specs.declared.plan.OrderEvent.TheVariants.{SegmentStart, SegmentEnd, Section, SetLocation, SetLocationRelative, SetSectionAddress}
use Rattle.lk_link.specs.declared.plan.PlanSegment.{PlanSegment}
use Rattle.lk_link.specs.Inside.{is_open, placed_inside, placed_section, sections_inside, segment_insides}
use Rattle.lk_link.specs.WellFormed.{IsEventOrder, IsInRange, IsWellFormed}
use Rattle.lk_place.specs.declared.segments.Spans.{Spans}
use Rattle.lk_place.specs.Spans.{CanSpan}
use Rattle.lk_place.proofs.Tables.{by_number_count, by_number_read}

-- what is placed, if it is
placed_all : (P : ℕ → Type 0) (o : Option ℕ) (rest : List ℕ) → ((s : ℕ) → o ≡ Some s → P s) → AllByRecursion P rest → AllByRecursion P (cons_option o rest)
placed_all P None rest h all = all
placed_all P (Some s) rest h all = (h s refl, all)

chosen : (b : Bool) (o : Option ℕ) (s : ℕ) → (if b then o else None) ≡ Some s → o ≡ Some s
chosen true o s h = h
chosen false o s h = absurd (cc)

-- the section that an event places is there
pub placed_in_range : (plan : Plan) (e : OrderEvent) (s : ℕ) → IsInRange plan e → placed_section e ≡ Some s → s < length plan.sections
placed_in_range plan (Section t) s h is = let same : t ≡ s = cc in omega arith
placed_in_range plan (SegmentStart i) s h is = absurd (cc)
placed_in_range plan (SegmentEnd i) s h is = absurd (cc)
placed_in_range plan (SetLocation x) s h is = absurd (cc)
placed_in_range plan (SetLocationRelative x t) s h is = absurd (cc)
placed_in_range plan (SetSectionAddress x) s h is = absurd (cc)

-- the sections inside a segment are there
inside_from : (plan : Plan) (i j : ℕ) (es : List OrderEvent) → ((k : ℕ) (e : OrderEvent) → slice_get es k ≡ Some e → IsInRange plan e)
    → AllByRecursion (λ s. s < length plan.sections) (filter_map (placed_inside plan.events i) (enumerate_from j es))
inside_from plan i j [] h = tt
inside_from plan i j (e ∷ es) h =
    placed_all (λ s. s < length plan.sections) (placed_inside plan.events i (j, e)) (filter_map (placed_inside plan.events i) (enumerate_from (j + 1) es))
    (λ s is. placed_in_range plan e s (h 0 e refl) (chosen (is_open i (take j plan.events)) (placed_section e) s is))
    (inside_from plan i (j + 1) es (λ k x there. h (suc k) x there))

pub inside_in_range : (plan : Plan) (i : ℕ) → IsEventOrder plan → All (λ s. s < length plan.sections) (sections_inside plan.events i)
inside_in_range plan i order = All-from_recursion (λ s. s < length plan.sections) (sections_inside plan.events i) (inside_from plan i 0 plan.events order.in_range)

insides_from : (plan : Plan) (i : ℕ) (segments : List PlanSegment) → IsEventOrder plan
    → AllByRecursion (λ inside. All (λ s. s < length plan.sections) inside) (map (λ q. sections_inside plan.events q.0) (enumerate_from i segments))
insides_from plan i [] order = tt
insides_from plan i (x ∷ xs) order = (inside_in_range plan i order, insides_from plan (i + 1) xs order)

-- those inside all segments
pub insides_in_range : (plan : Plan) → IsEventOrder plan → All (λ inside. All (λ s. s < length plan.sections) inside) (segment_insides plan)
insides_in_range plan order = All-from_recursion (λ inside. All (λ s. s < length plan.sections) inside) (segment_insides plan) (insides_from plan 0 plan.segments order)

-- the same, of those that are found, by how many sections there are
pub insides_within : (plan : Plan) (n : ℕ) (insides : List (List ℕ)) → IsEventOrder plan → n ≡ length plan.sections → insides ≡ segment_insides plan → All (λ inside. All (λ s. s < n) inside) insides
insides_within plan n insides order count is =
    let P : ℕ → List (List ℕ) → Type 0 = λ m xs. All (λ inside. All (λ s. s < m) inside) xs in
    subst (λ m. P m insides) (sym count) (subst (P (length plan.sections)) (sym is) (insides_in_range plan order))

-- there are as many as segments, each with the sections inside its segment
pub insides_count : (plan : Plan) (insides : List (List ℕ)) → insides ≡ segment_insides plan → length insides ≡ length plan.segments
insides_count plan insides is = by_number_count (sections_inside plan.events) plan.segments insides is

pub inside_at : (plan : Plan) (insides : List (List ℕ)) (i : ℕ) (d : List ℕ) → insides ≡ segment_insides plan → i < length plan.segments → slice_index_or insides i d ≡ sections_inside plan.events i
inside_at plan insides i d is below = by_number_read (sections_inside plan.events) plan.segments insides i d is below

-- ---- segments

-- a well-formed link can be spanned by the records of its sections and what stands inside its segments
pub can_span : (spans : Spans) → IsWellFormed spans.link.now → length spans.records.now ≡ length spans.link.now.plan.sections → spans.insides.now ≡ segment_insides spans.link.now.plan → CanSpan spans
can_span spans good each are =
    let plan : Plan = spans.link.now.plan in
    record {
      each = each;
      insides = are;
      in_range = insides_within plan (length spans.records.now) spans.insides.now good.events each are;
      events = λ k d below. good.events.in_range k (slice_index_or plan.events k d) (slice_get-get_or plan.events k d below);
    }
