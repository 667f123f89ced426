use Rattle.std.proofs.Common.{ℕ, List, Some, ap, sym, ◌∙◌, arith}
use Rattle.std.specs.Prelude.{slice_get}
use Rattle.std.proofs.lemmas.Bool.Decides.{nat_tests}
use Rattle.lk_answers.specs.SectionResolutions.{resolution_told}
use Rattle.lk_answers.proofs.FileSections.{none_here, resolution_here}
use Rattle.lk_answers.proofs.section_resolution.SectionResolutions.get.Goals as goal

pub returns-then-index-self : goal.returns-then-index-self
returns-then-index-self c =
    let told = c.resolution_of.ensures ∙ (λ i. resolution_told (c.is_marked-live.ensures i) (c.number_at.ensures i)) in
    ap (λ (n : ℕ). Some n) told
    ∙ sym (resolution_here c.self.inside.marks.now c.self.inside.addresses.now c.self.inside.count c.args.index (grind (arith, nat_tests, c.if-index-self.true)))
    ∙ ap (λ (ns : List ℕ). slice_get ns c.args.index) c.self.view_is

pub returns-else-index-self : goal.returns-else-index-self
returns-else-index-self c =
    sym (none_here c.self.inside.marks.now c.self.inside.addresses.now c.self.inside.count c.args.index (grind (arith, nat_tests, c.if-index-self.false)))
    ∙ ap (λ (ns : List ℕ). slice_get ns c.args.index) c.self.view_is
