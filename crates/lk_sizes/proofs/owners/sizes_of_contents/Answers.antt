use Rattle.std.proofs.Common.{◌≡◌, map, ap, ◌∙◌, arith}
use Rattle.std.proofs.lemmas.Grind.{common_steps}
use Rattle.lk_sizes.specs.declared.owners.PartContents.{PartContents}
use Rattle.lk_sizes.proofs.Fitting.{contents_sizes}
use Rattle.lk_sizes.proofs.owners.sizes_of_contents.Goals as goal

pub returns-clause-sizes : goal.returns-clause-sizes
returns-clause-sizes c = λ filling is.
    let bytes : c.loop-part.sizes.items ≡ map (λ (x : PartContents). x.bytes) c.args.contents.now = grind (arith, common_steps) in
    bytes ∙ ap (map (λ (x : PartContents). x.bytes)) is ∙ contents_sizes filling
