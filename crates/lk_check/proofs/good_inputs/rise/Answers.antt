use Rattle.std.proofs.Common.{◌+◌, nat_le, ap, ◌∙◌}
use Rattle.std.specs.List.{list_all, zip}
use Rattle.lk_link.specs.declared.relocation.RelaxCandidate.{RelaxCandidate}
use Rattle.lk_check.proofs.Neighbours.{behind_first, rise-pairs}
use Rattle.lk_check.proofs.good_inputs.rise.Goals as goal

pub returns : goal.returns
returns c =
    let rs = c.args.relaxations.now in
    c.rise_to.ensures
    ∙ ap (λ next. list_all (λ (p : RelaxCandidate × RelaxCandidate). nat_le (p.0.at + p.0.del) p.1.at) (zip rs next)) (behind_first rs c.min.result c.min.ensures)
    ∙ rise-pairs rs
