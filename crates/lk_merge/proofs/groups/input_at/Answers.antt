use Rattle.std.proofs.Common.{ap, arith}
use Rattle.lk_merge.specs.declared.inputs.StringMergeInputSection.{StringMergeInputSection}
use Rattle.lk_merge.proofs.Grouping.{halved_down, halved_first, halved_last, halved_up}
use Rattle.lk_merge.proofs.groups.input_at.Goals as goal

pub loop-high-init : goal.loop-high-init
loop-high-init c = halved_first c.args.total c.args.inputs.now c.requires.inputs c.args.at c.requires.within

pub loop-high-preserved-then-as_u64-at : goal.loop-high-preserved-then-as_u64-at
loop-high-preserved-then-as_u64-at c =
    let start = ap (λ (x : StringMergeInputSection). x.start_input_offset) c.index-inputs-middle.is in
    halved_up c.args.total c.args.inputs.now c.requires.inputs c.args.at c.loop-high.low c.loop-high.high c.between-middle.result
    c.index-inputs-middle.result c.loop-high.invariant c.between-middle.ensures.below c.index-inputs-middle.is (omega (arith, start, c.as_u64.ensures, c.if-as_u64-at.true))

pub loop-high-preserved : goal.loop-high-preserved
loop-high-preserved c =
    let start = ap (λ (x : StringMergeInputSection). x.start_input_offset) c.index-inputs-middle.is in
    halved_down c.args.total c.args.inputs.now c.requires.inputs c.args.at c.loop-high.low c.loop-high.high c.between-middle.result
    c.index-inputs-middle.result c.loop-high.invariant c.between-middle.ensures.above c.between-middle.ensures.below c.index-inputs-middle.is
    (omega (arith, start, c.as_u64.ensures, c.if-as_u64-at.false))

pub returns : goal.returns
returns c =
    halved_last c.args.total c.args.inputs.now c.requires.inputs c.args.at c.loop-high.low c.loop-high.high c.requires.within c.loop-high.invariant
    (omega (arith, c.loop-high-test.false))
