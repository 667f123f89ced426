use Rattle.std.proofs.Common.{◌≡◌, ◌<◌, ℕ, List, length, ap, ◌∙◌, arith}
use Rattle.lk_link.specs.declared.plan.Plan.{Plan}
use Rattle.lk_place.specs.Alignments.{greatest_alignment, section_alignments}
use Rattle.lk_place.proofs.Tables.{by_number_count, by_number_read}
use Rattle.lk_place.proofs.walk.Walk.section_alignment.Goals as goal

pub bounds-as_slice-as_usize : goal.bounds-as_slice-as_usize
bounds-as_slice-as_usize g c =
    let plan : Plan = c.args.self.now.link.now.plan in
    let sizes : List ℕ = c.args.self.now.sizes.now in
    let all : c.as_slice.result.now ≡ section_alignments plan sizes = c.as_slice.ensures ∙ c.requires.walkable.aligned.sections in
    omega (arith, by_number_count (greatest_alignment plan sizes) plan.sections c.as_slice.result.now all, c.as_usize.ensures, c.requires.in_range)

pub returns : goal.returns
returns g c =
    let plan : Plan = c.args.self.now.link.now.plan in
    let sizes : List ℕ = c.args.self.now.sizes.now in
    let all : c.as_slice.result.now ≡ section_alignments plan sizes = c.as_slice.ensures ∙ c.requires.walkable.aligned.sections in
    let below : c.as_usize.result < length plan.sections = omega (arith, c.as_usize.ensures, c.requires.in_range) in
    c.index-as_slice-as_usize.is
    ∙ by_number_read (greatest_alignment plan sizes) plan.sections c.as_slice.result.now c.as_usize.result c.index-as_slice-as_usize.result all below
    ∙ ap (greatest_alignment plan sizes) c.as_usize.ensures
