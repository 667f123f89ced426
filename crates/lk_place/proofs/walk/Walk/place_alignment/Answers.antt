use Rattle.std.proofs.Common.{◌≡◌, ◌<◌, ℕ, List, length, ap, ◌∙◌, arith}
use Rattle.lk_link.specs.declared.plan.Plan.{Plan}
use Rattle.lk_place.specs.Alignments.{segment_alignment, segment_alignments}
use Rattle.lk_place.proofs.Tables.{by_number_count, by_number_read}
use Rattle.lk_place.proofs.walk.Walk.place_alignment.Goals as goal

pub bounds-as_slice-as_usize : goal.bounds-as_slice-as_usize
bounds-as_slice-as_usize g c =
    let plan : Plan = c.args.self.now.link.now.plan in
    let sizes : List ℕ = c.args.self.now.sizes.now in
    let all : c.as_slice.result.now ≡ segment_alignments plan sizes = c.as_slice.ensures ∙ c.requires.walkable.aligned.segments in
    omega (arith, by_number_count (segment_alignment plan sizes) plan.segments c.as_slice.result.now all, c.as_usize.ensures, c.requires.in_range)

pub returns : goal.returns
returns g c =
    let plan : Plan = c.args.self.now.link.now.plan in
    let sizes : List ℕ = c.args.self.now.sizes.now in
    let all : c.as_slice.result.now ≡ segment_alignments plan sizes = c.as_slice.ensures ∙ c.requires.walkable.aligned.segments in
    let below : c.as_usize.result < length plan.segments = omega (arith, c.as_usize.ensures, c.requires.in_range) in
    c.index-as_slice-as_usize.is
    ∙ by_number_read (segment_alignment plan sizes) plan.segments c.as_slice.result.now c.as_usize.result c.index-as_slice-as_usize.result all below
    ∙ ap (segment_alignment plan sizes) c.as_usize.ensures
