use Rattle.std.proofs.Common.{sym, ◌∙◌, subst}
use Rattle.lk_sizes.specs.Contents.{AreSums}
use Rattle.lk_sizes.specs.Owners.{in_link}
use Rattle.lk_sizes.specs.PartOwners.{tables_of}
use Rattle.lk_sizes.proofs.Fitting.{are_sums}
use Rattle.lk_sizes.proofs.owners.part_contents.Goals as goal

pub returns : goal.returns
returns c = λ given added told.
    let filling = in_link c.args.link.now given in
    let whole = c.in_ok-whole.ensures (tables_of filling.content) told in
    c.sum_up.ensures filling (subst (AreSums filling) (sym (c.deref.ensures.value ∙ whole)) (are_sums filling c.args.totals.now added))
