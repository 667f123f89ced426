use Rattle.std.proofs.Common.{◌≡◌, List, None, Some, length, sym, ap, ◌∙◌, subst}
use Rattle.std.specs.List.{list_all}
use Rattle.std.proofs.lemmas.Bool.{eqb-true}
use Rattle.std.proofs.lemmas.List.{length-map}
use Rattle.lk_merge.specs.Image.{all_pieces}
use Rattle.lk_merge.specs.Inputs.{input_of, located}
use Rattle.lk_merge.specs.MergingTables.{GivesFitting, HasMerged}
use Rattle.lk_merge.specs.Pieces.{MergeInput, is_terminated}
use Rattle.lk_merge.proofs.Refusing.{position_inputs, all_from_none, refused_first, gives_all, nothing_refused}
use Rattle.lk_merge.proofs.merging.merge_section.Goals as goal

pub returns-in-Some : goal.returns-in-Some
returns-in-Some c =
    refused_first c.args.section c.args.limit c.args.inputs.now c.in-Some.input
    (position_inputs c.as_slice-sections.result.now c.args.inputs.now (Some c.in-Some.input) c.as_slice-sections.ensures.inputs c.in-Some.ensures)

pub returns-then-is_empty : goal.returns-then-is_empty
returns-then-is_empty c =
    let sections = c.as_slice-sections.result.now in
    let none : length c.args.inputs.now ≡ 0 = ap length (sym c.as_slice-sections.ensures.inputs) ∙ length-map sections input_of ∙ eqb-true _ _ (sym c.if-is_empty.ensures) in
    let r = nothing_refused c.args.section c.args.limit c.args.inputs.now none in
    (r.0, c.new.ensures ∙ r.1)

pub finish-requires-clause-terminated : goal.finish-requires-clause-terminated
finish-requires-clause-terminated c =
    let none = position_inputs c.as_slice-sections.result.now c.args.inputs.now None c.as_slice-sections.ensures.inputs c.in_default.ensures in
    ap (list_all is_terminated) c.in_ok-clone.ensures ∙ all_from_none c.args.inputs.now none

pub returns : goal.returns
returns c =
    let none = position_inputs c.as_slice-sections.result.now c.args.inputs.now None c.as_slice-sections.ensures.inputs c.in_default.ensures in
    let same : c.in_ok-clone.field-0 ≡ c.args.inputs.now = c.in_ok-clone.ensures in
    let merged : HasMerged c.args.section c.args.limit (located c.in_ok-clone.field-0) c.in_ok-merging.merging
    = subst (λ (xs : List MergeInput). HasMerged c.args.section c.args.limit (located xs) c.in_ok-merging.merging) (c.as_slice-sections.ensures.inputs ∙ sym same) c.in_ok-merging.ensures in
    gives_all c.args.section c.args.limit c.args.inputs.now c.finish.result none
    (subst (λ (xs : List MergeInput). GivesFitting c.args.section c.args.limit (all_pieces xs) xs c.finish.result) same
    (c.finish.ensures c.args.section c.args.limit c.requires merged))
