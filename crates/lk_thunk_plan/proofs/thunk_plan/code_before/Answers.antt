use Rattle.std.proofs.Common.{ℕ, ◌^◌, ◌-◌, List, min, sum_by, ap, ◌∙◌}
use Rattle.std.specs.List.{enumerate_from}
use Rattle.lk_sizes.specs.declared.owners.PartContents.{PartContents}
use Rattle.lk_sizes.specs.Attributes.{all_section_attributes}
use Rattle.lk_sizes.specs.Owners.{Filling, content_of, plain_filling}
use Rattle.lk_thunk_plan.specs.Planning.{other_code_by}
use Rattle.lk_thunk_plan.proofs.OtherCode.{code_of_contents}
use Rattle.lk_thunk_plan.proofs.thunk_plan.code_before.Goals as goal

pub returns : goal.returns
returns c sizes lens is =
    let link = c.args.link.now in
    let filling : Filling = plain_filling (content_of link sizes c.args._live.now lens) in
    let attributes = c.deref.ensures.value ∙ c.in_ok-attributes.ensures.contents filling is in
    c.sum_code.ensures
    ∙ ap (λ (told : List ℕ). min (sum_by (other_code_by link told) (enumerate_from 0 c.args.contents.now)) (2 ^ 64 - 1)) attributes
    ∙ ap (λ (cs : List PartContents). min (sum_by (other_code_by link (all_section_attributes link c.args._live.now)) (enumerate_from 0 cs)) (2 ^ 64 - 1)) is
    ∙ ap (λ (n : ℕ). min n (2 ^ 64 - 1)) (code_of_contents filling)
