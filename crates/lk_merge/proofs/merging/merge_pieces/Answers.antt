use Rattle.std.proofs.Common.{◌≡◌, List, map, take, subst, arith}
use Rattle.std.proofs.lemmas.List.{take_all}
use Rattle.lk_merge.specs.declared.inputs.StringMergeInputSection.{StringMergeInputSection}
use Rattle.lk_merge.specs.Inputs.{input_of, located, padded_total}
use Rattle.lk_merge.specs.MergingTables.{HasMerged}
use Rattle.lk_merge.proofs.LaidOut.{input_fits, merged_first, merged_next}
use Rattle.lk_merge.proofs.merging.merge_pieces.Goals as goal

pub loop-index-init : goal.loop-index-init
loop-index-init c = merged_first c.args.output c.args.limit c.args.sections.now c.in_ok-merging.merging c.in_ok-merging.ensures

pub add_input-requires-clause-fits : goal.add_input-requires-clause-fits
add_input-requires-clause-fits c =
    input_fits (padded_total (map input_of c.args.sections.now)) c.args.sections.now c.loop-index.index c.index-sections-index.result c.requires.inputs c.loop-index-test.true
    c.index-sections-index.is

pub loop-index-preserved : goal.loop-index-preserved
loop-index-preserved c =
    let sections : List StringMergeInputSection = c.args.sections.now in
    merged_next c.args.output c.args.limit (padded_total (map input_of sections)) sections c.loop-index.index c.index-sections-index.result c.loop-index.merging c.add_input.new.self
    c.requires.inputs c.loop-index-test.true c.index-sections-index.is
    (c.in_ok-add_input.ensures.made c.args.output c.args.limit (located (map input_of (take c.loop-index.index sections))) c.loop-index.invariant)

pub returns : goal.returns
returns c =
    let sections : List StringMergeInputSection = c.args.sections.now in
    let all : take c.loop-index.index sections ≡ sections = take_all c.loop-index.index sections (omega (arith, c.loop-index-test.false)) in
    let merged = subst (λ (xs : List StringMergeInputSection). HasMerged c.args.output c.args.limit (located (map input_of xs)) c.loop-index.merging) all c.loop-index.invariant in
    record { count = merged.count; buckets = merged.buckets; entries = λ fit. c.shrink_to_fit.ensures _ (merged.entries fit) }
