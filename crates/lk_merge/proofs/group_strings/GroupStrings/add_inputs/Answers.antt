use Rattle.std.proofs.Common.{List, map, take, sym, subst, arith}
use Rattle.lk_merge.specs.declared.inputs.StringMergeInputSection.{StringMergeInputSection}
use Rattle.lk_merge.specs.Between.{between}
use Rattle.lk_merge.specs.GroupStrings.{HasBrought}
use Rattle.lk_merge.specs.Inputs.{Located, input_of, located}
use Rattle.lk_merge.proofs.GroupBrings.{inputs_begun, inputs_more, inputs_over}
use Rattle.lk_merge.proofs.LaidOut.{input_fits}
use Rattle.lk_merge.proofs.group_strings.GroupStrings.add_inputs.Goals as goal

pub loop-index-init : goal.loop-index-init
loop-index-init c =
    subst (λ ls. HasBrought ls c.args.self.now)
    (sym (inputs_begun c.args.from c.args.end c.args.total c.args.sections.now c.requires.inputs c.requires.terminated c.input_at-first.result c.input_at-first.ensures)) c.requires.none

pub returns-then-as_u64-end : goal.returns-then-as_u64-end
returns-then-as_u64-end c =
    let s : StringMergeInputSection = c.index-sections-index.result in
    subst (λ ls. HasBrought ls c.loop-index.self)
    (inputs_over c.args.from c.args.end c.args.total c.args.sections.now c.requires.inputs c.requires.terminated c.loop-index.index s c.loop-index-test.true c.index-sections-index.is
    (omega (arith, c.as_u64.ensures, c.if-as_u64-end.true))) c.loop-index.invariant

pub add_input-requires-clause-fits : goal.add_input-requires-clause-fits
add_input-requires-clause-fits c =
    input_fits c.args.total c.args.sections.now c.loop-index.index c.index-sections-index.result c.requires.inputs c.loop-index-test.true c.index-sections-index.is

pub loop-index-preserved : goal.loop-index-preserved
loop-index-preserved c =
    let s : StringMergeInputSection = c.index-sections-index.result in
    let a = c.args.from in
    let b = c.args.end in
    let done : List Located = between a b (located (map input_of (take c.loop-index.index c.args.sections.now))) in
    subst (λ ls. HasBrought ls c.add_input.new.self)
    (sym (inputs_more a b c.args.total c.args.sections.now c.requires.inputs c.requires.terminated c.loop-index.index s c.loop-index-test.true c.index-sections-index.is))
    (c.in_ok-add_input.ensures.made done c.loop-index.invariant)
