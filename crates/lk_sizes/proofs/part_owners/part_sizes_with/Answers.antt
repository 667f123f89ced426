use Rattle.std.proofs.Common.{List, map, ap, ◌∙◌}
use Rattle.rayon.proofs.ListFacts.{IfOk-then}
use Rattle.rayon.proofs.ToStd.{slice-map}
use Rattle.lk_sizes.specs.declared.owners.PartContents.{PartContents}
use Rattle.lk_sizes.proofs.Fitting.{contents_sizes}
use Rattle.lk_sizes.proofs.part_owners.part_sizes_with.Goals as goal

pub returns-clause-bytes : goal.returns-clause-bytes
returns-clause-bytes g c =
    let slice = ap (λ it. it.slice.now) c.map.ensures.base ∙ c.par_iter.ensures ∙ c.contents.ensures in
    IfOk-then c.collect.result _ _ c.collect.ensures (λ v h.
    let chain = h.1 in
    h.2 ∙ slice-map chain.0 c.args.owners.now.contents (chain.1 ∙ slice) (λ (p : PartContents). p.bytes) h.0 chain.2)

pub returns-clause-sizes : goal.returns-clause-sizes
returns-clause-sizes g c = λ filling is.
    let slice = ap (λ it. it.slice.now) c.map.ensures.base ∙ c.par_iter.ensures ∙ c.contents.ensures in
    let bytes : List PartContents → List _ = map (λ (p : PartContents). p.bytes) in
    IfOk-then c.collect.result _ _ c.collect.ensures (λ v h.
    let chain = h.1 in
    h.2 ∙ slice-map chain.0 c.args.owners.now.contents (chain.1 ∙ slice) (λ (p : PartContents). p.bytes) h.0 chain.2
    ∙ ap bytes is ∙ contents_sizes filling)
