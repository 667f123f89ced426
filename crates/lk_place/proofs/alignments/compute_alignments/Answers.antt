use Rattle.std.proofs.Common.{◌≡◌, ℕ, List, Option, None, Some, SomeIff, map, sym, ap, ◌∙◌, arith}
use Rattle.std.specs.List.{slice_index}
use Rattle.std.proofs.lemmas.Grind.{common_steps}
use Rattle.lk_link.proofs.GoodLinks.{few}
use Rattle.lk_link.specs.declared.plan.Plan.{Plan}
use Rattle.lk_place.specs.Alignments.{greatest_alignment, greatest_of, section_alignments, thread_local_ones}
use Rattle.lk_link.specs.Inside.{segment_insides}
use Rattle.lk_place.proofs.Tables.{by_number_count}
use Rattle.lk_place.proofs.SegmentAlignments.{insides_have, reach_insides}
use Rattle.lk_place.proofs.alignments.compute_alignments.Goals as goal

pub sections_of_segments-requires : goal.sections_of_segments-requires
sections_of_segments-requires c = (few c.args.link.now c.requires.well_formed).segments

pub greatest_of_each-requires : goal.greatest_of_each-requires
greatest_of_each-requires c =
    insides_have c.args.link.now.plan c.args.sizes.now c.deref.result.now c.deref-2.result.now c.requires.well_formed.events (grind (arith, common_steps)) (grind (arith, common_steps))

pub thread_local_alignment-thread_local-requires : goal.thread_local_alignment-thread_local-requires
thread_local_alignment-thread_local-requires c =
    let plan : Plan = c.args.link.now.plan in
    let sizes : List ℕ = c.args.sizes.now in
    let all : c.deref-3.result.now ≡ section_alignments plan sizes = grind (arith, common_steps) in
    record { few = omega (arith, by_number_count (greatest_alignment plan sizes) plan.sections c.deref-3.result.now all, (few c.args.link.now c.requires.well_formed).sections) }

given_value : (o : Option ℕ) (P : Type 0) (v n : ℕ) → SomeIff o P v → o ≡ Some n → n ≡ v
given_value None P v n h is = absurd (cc)
given_value (Some m) P v n h is = let same : m ≡ n = cc in sym same ∙ h.1

pub returns : goal.returns
returns c =
    let plan : Plan = c.args.link.now.plan in
    let sizes : List ℕ = c.args.sizes.now in
    let sections : c.deref.result.now ≡ section_alignments plan sizes = c.deref.ensures.value ∙ c.in_ok-sections.ensures in
    let insides : c.deref-2.result.now ≡ segment_insides plan = c.deref-2.ensures.value ∙ c.in_ok-insides.ensures in
    let page : c.unwrap-page.result ≡ plan.page = given_value c.new.result _ plan.page c.unwrap-page.result c.new.ensures c.unwrap-page.ensures in
    record {
      sections = c.from_vec.ensures ∙ c.in_ok-sections.ensures;
      segments = c.from_vec-2.ensures ∙ c.in_ok-segments.ensures
          ∙ ap (λ (n : ℕ). map (λ inside. greatest_of n (map (slice_index c.deref.result.now) inside)) c.deref-2.result.now) page
          ∙ reach_insides plan sizes c.deref.result.now c.deref-2.result.now c.requires.well_formed.events sections insides;
      thread_local = c.thread_local_alignment-thread_local.ensures ∙ ap (λ (xs : List ℕ). greatest_of 1 (thread_local_ones plan xs)) (c.deref-3.ensures.value ∙ c.in_ok-sections.ensures);
    }
