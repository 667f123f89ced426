use Rattle.std.proofs.Common.{◌≡◌, ◌≢◌, List, None, Some, length, sym, ap, ◌∙◌, subst}
use Rattle.std.specs.List.{list_all}
use Rattle.std.proofs.lemmas.Bool.{eqb-false}
use Rattle.lk_merge.specs.declared.groups.SectionGroup.{SectionGroup}
use Rattle.lk_merge.specs.Groups.{AreGroups}
use Rattle.lk_merge.specs.Image.{all_pieces}
use Rattle.lk_merge.specs.Inputs.{located}
use Rattle.lk_merge.specs.MatrixWork.{IsWork}
use Rattle.lk_merge.specs.MergingTables.{GivesFitting, HasMerged}
use Rattle.lk_merge.specs.Pieces.{MergeInput, is_terminated}
use Rattle.lk_merge.proofs.ByWorkers.{some_inputs}
use Rattle.lk_merge.proofs.Refusing.{position_inputs, all_from_none, refused_first, gives_all}
use Rattle.lk_merge.proofs.workers.merge_section_by_workers.Goals as goal

pub returns-in-Some : goal.returns-in-Some
returns-in-Some g c =
    refused_first c.args.section c.args.limit c.args.inputs.now c.in-Some.input
    (position_inputs c.as_slice.result.now c.args.inputs.now (Some c.in-Some.input) c.as_slice.ensures.inputs c.in-Some.ensures)

pub merge_groups-requires-clause-work : goal.merge_groups-requires-clause-work
merge_groups-requires-clause-work g c =
    let none = position_inputs c.as_slice.result.now c.args.inputs.now None c.as_slice.ensures.inputs c.in_default.ensures in
    let work : IsWork (record { section = c.args.section; limit = c.args.limit; inputs = c.args.inputs.now; groups = c.as_slice-groups.result.now })
    = record {
      limited = c.requires.limited;
      terminated = all_from_none c.args.inputs.now none;
      size = c.args.size;
      groups = subst (λ (gs : List SectionGroup). AreGroups c.args.inputs.now c.args.size 0 gs) (sym c.as_slice-groups.ensures.value) c.in_ok-groups.ensures;
    } in
    λ lifetimes outlive. work

pub finish-requires-clause-terminated : goal.finish-requires-clause-terminated
finish-requires-clause-terminated g c =
    let none = position_inputs c.as_slice.result.now c.args.inputs.now None c.as_slice.ensures.inputs c.in_default.ensures in
    ap (list_all is_terminated) c.in_ok-clone.ensures ∙ all_from_none c.args.inputs.now none

pub finish-requires-clause-some : goal.finish-requires-clause-some
finish-requires-clause-some g c =
    let groups : List SectionGroup = c.as_slice-groups.result.now in
    let are : AreGroups c.args.inputs.now c.args.size 0 groups = subst (λ (gs : List SectionGroup). AreGroups c.args.inputs.now c.args.size 0 gs) (sym c.as_slice-groups.ensures.value) c.in_ok-groups.ensures in
    let some : length groups ≢ 0 = eqb-false (length groups) 0 (sym c.if-is_empty.ensures) in
    subst (λ (xs : List MergeInput). length xs ≢ 0) (sym c.in_ok-clone.ensures) (some_inputs c.args.inputs.now c.args.size groups are some)

pub returns : goal.returns
returns g c =
    let none = position_inputs c.as_slice.result.now c.args.inputs.now None c.as_slice.ensures.inputs c.in_default.ensures in
    let same : c.in_ok-clone.field-0 ≡ c.args.inputs.now = c.in_ok-clone.ensures in
    let merged : HasMerged c.args.section c.args.limit (located c.in_ok-clone.field-0) c.in_ok-merging.merging
    = subst (λ (xs : List MergeInput). HasMerged c.args.section c.args.limit (located xs) c.in_ok-merging.merging) (sym same) c.in_ok-merging.ensures in
    gives_all c.args.section c.args.limit c.args.inputs.now c.finish.result none
    (subst (λ (xs : List MergeInput). GivesFitting c.args.section c.args.limit (all_pieces xs) xs c.finish.result) same
    (c.finish.ensures c.args.section c.args.limit c.requires.limited merged))
