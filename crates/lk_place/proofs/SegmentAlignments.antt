-- The alignments of segments, by those of all sections.
use Rattle.std.proofs.Common.{◌≡◌, ℕ, ◌+◌, ◌<◌, List, [], ◌∷◌, length, map, refl, ap, sym, subst, ◌∙◌}
use Rattle.std.specs.Prelude.{All, slice_index}
use Rattle.std.specs.List.{AllByRecursion, enumerate_from}
use Rattle.std.proofs.lemmas.List.Elements.{recursion_from_All}
use Rattle.lk_link.specs.declared.plan.Plan.{Plan}
use Rattle.lk_link.specs.declared.plan.PlanSegment.{PlanSegment}
use Rattle.lk_link.specs.Inside.{sections_inside, segment_insides}
use Rattle.lk_link.specs.WellFormed.{IsEventOrder}
use Rattle.lk_place.specs.Alignments.{greatest_alignment, greatest_of, section_alignments, segment_alignment, segment_alignments}
use Rattle.lk_place.proofs.Insides.{inside_in_range, insides_in_range}
use Rattle.lk_place.proofs.Tables.{by_number_count, by_number_read}

-- each is that of its section
alignment_at : (plan : Plan) (sizes : List ℕ) (s : ℕ) → s < length plan.sections → slice_index (section_alignments plan sizes) s ≡ greatest_alignment plan sizes s
alignment_at plan sizes s below = by_number_read (greatest_alignment plan sizes) plan.sections (section_alignments plan sizes) s 0 refl below

-- read by number, they are those of the sections
read : (plan : Plan) (sizes some : List ℕ) → AllByRecursion (λ s. s < length plan.sections) some → map (slice_index (section_alignments plan sizes)) some ≡ map (greatest_alignment plan sizes) some
read plan sizes [] h = refl
read plan sizes (s ∷ some) h =
    let here = alignment_at plan sizes s h.0 in
    let rest = read plan sizes some h.1 in
    cc

reach_each : (plan : Plan) (sizes : List ℕ) (i : ℕ) (segments : List PlanSegment) → IsEventOrder plan
    → map (λ inside. greatest_of plan.page (map (slice_index (section_alignments plan sizes)) inside)) (map (λ q. sections_inside plan.events q.0) (enumerate_from i segments))
    ≡ map (λ q. segment_alignment plan sizes q.0) (enumerate_from i segments)
reach_each plan sizes i [] order = refl
reach_each plan sizes i (x ∷ xs) order =
    let here : greatest_of plan.page (map (slice_index (section_alignments plan sizes)) (sections_inside plan.events i)) ≡ segment_alignment plan sizes i
    = ap (greatest_of plan.page) (read plan sizes (sections_inside plan.events i) (recursion_from_All (λ s. s < length plan.sections) (sections_inside plan.events i) (inside_in_range plan i order))) in
    let rest = reach_each plan sizes (i + 1) xs order in
    cc

-- the greatest inside each segment, by the alignments of all sections, is its alignment
pub reach_insides : (plan : Plan) (sizes alignments : List ℕ) (insides : List (List ℕ)) → IsEventOrder plan → alignments ≡ section_alignments plan sizes → insides ≡ segment_insides plan
    → map (λ inside. greatest_of plan.page (map (slice_index alignments) inside)) insides ≡ segment_alignments plan sizes
reach_insides plan sizes alignments insides order is are =
    ap (λ (xs : List ℕ). map (λ inside. greatest_of plan.page (map (slice_index xs) inside)) insides) is
    ∙ ap (map (λ inside. greatest_of plan.page (map (slice_index (section_alignments plan sizes)) inside))) are
    ∙ reach_each plan sizes 0 plan.segments order

-- and all are there
pub insides_have : (plan : Plan) (sizes alignments : List ℕ) (insides : List (List ℕ)) → IsEventOrder plan → alignments ≡ section_alignments plan sizes → insides ≡ segment_insides plan
    → All (λ inside. All (λ s. s < length alignments) inside) insides
insides_have plan sizes alignments insides order is are =
    let P : ℕ → List (List ℕ) → Type 0 = λ n xs. All (λ inside. All (λ s. s < n) inside) xs in
    let count : length alignments ≡ length plan.sections = by_number_count (greatest_alignment plan sizes) plan.sections alignments is in
    subst (λ n. P n insides) (sym count) (subst (P (length plan.sections)) (sym are) (insides_in_range plan order))
