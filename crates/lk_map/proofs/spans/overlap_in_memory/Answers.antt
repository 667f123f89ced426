use Rattle.std.proofs.Common.{refl, sym, ◌∙◌, subst}
use Rattle.lk_map.specs.Spans.{counts_in_memory, FindsOverlap, LinesRiseIn}
use Rattle.lk_map.proofs.Goodness.{memory_span}
use Rattle.lk_map.proofs.Overlaps.{spans_rise}
use Rattle.lk_map.proofs.spans.overlap_in_memory.Goals as goal

pub first_overlap-requires : goal.first_overlap-requires
first_overlap-requires c =
    subst LinesRiseIn (sym (c.as_mut_slice.ensures.value ∙ c.in_ok-spans.ensures {u = tt})) (spans_rise counts_in_memory memory_span (λ s. refl) c.args.sections.now c.requires)

pub returns-then-follow_in_memory : goal.returns-then-follow_in_memory
unfolding FindsOverlap
returns-then-follow_in_memory c = c.follow_in_memory.ensures.apart c.if-follow_in_memory.true
