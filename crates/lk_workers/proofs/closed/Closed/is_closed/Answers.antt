use Rattle.std.proofs.Common.{rules, ◌≡◌, false, true, length, arith, sym, ◌∙◌}
use Rattle.lk_link.specs.declared.file.InputFile.{InputFile}
use Rattle.lk_link.specs.Inputs.{NumberedFile}
use Rattle.lk_link.proofs.Places as places
use Rattle.lk_reach.proofs.Numbered.{are_numbered}
use Rattle.lk_slot_link.specs.LinkGraphs.{files_of_group}
use Rattle.lk_workers.specs.Closings.{is_file_closed}
use Rattle.lk_workers.proofs.Closing.{all_pass, file_at_index, files_count, group_there, next_passes, one_fails}
use Rattle.lk_workers.proofs.GroupFiles.{file_here, file_with}
use Rattle.lk_workers.proofs.closed.Closed.is_closed.Goals as goal

pub overflow_cast-id : goal.overflow_cast-id
overflow_cast-id g c =
    let groups = c.args.link.now.groups in
    let there = group_there groups c.as_slice.result.now c.args.group c.in-Some.files.now c.as_slice-files.result.now c.as_slice.ensures c.in-Some.ensures.lookup.0 c.in-Some.ensures.lookup.1 c.as_slice-files.ensures in
    omega (arith, c.loop-index-test.true, places.files_of_group groups c.args.group c.as_slice-files.result.now there, (are_numbered c.args.link.now c.requires.well_formed).few_files)

pub is_file_closed-requires-clause-there : goal.is_file_closed-requires-clause-there
is_file_closed-requires-clause-there g c =
    let groups = c.args.link.now.groups in
    let there = group_there groups c.as_slice.result.now c.args.group c.in-Some.files.now c.as_slice-files.result.now c.as_slice.ensures c.in-Some.ensures.lookup.0 c.in-Some.ensures.lookup.1 c.as_slice-files.ensures in
    file_at_index groups c.args.group c.loop-index.index c.as_slice-files.result.now c.index-files-index.result there c.loop-index-test.true c.index-files-index.is

pub returns-then-not-is_file_closed : goal.returns-then-not-is_file_closed
returns-then-not-is_file_closed g c =
    let groups = c.args.link.now.groups in
    let k = c.loop-index.index in
    let file : InputFile = c.index-files-index.result in
    let there = group_there groups c.as_slice.result.now c.args.group c.in-Some.files.now c.as_slice-files.result.now c.as_slice.ensures c.in-Some.ensures.lookup.0 c.in-Some.ensures.lookup.1 c.as_slice-files.ensures in
    let at = file_here groups c.args.group k file (file_at_index groups c.args.group k c.as_slice-files.result.now file there c.loop-index-test.true c.index-files-index.is) in
    let closed = is_file_closed c.args.self.now c.args.link.now in
    let f : NumberedFile = file_with c.args.group k file in
    let fails : closed f ≡ false = search rules in
    sym (one_fails closed (files_of_group groups c.args.group) k f at fails)

pub loop-index-preserved : goal.loop-index-preserved
loop-index-preserved g c =
    let groups = c.args.link.now.groups in
    let k = c.loop-index.index in
    let file : InputFile = c.index-files-index.result in
    let there = group_there groups c.as_slice.result.now c.args.group c.in-Some.files.now c.as_slice-files.result.now c.as_slice.ensures c.in-Some.ensures.lookup.0 c.in-Some.ensures.lookup.1 c.as_slice-files.ensures in
    let at = file_here groups c.args.group k file (file_at_index groups c.args.group k c.as_slice-files.result.now file there c.loop-index-test.true c.index-files-index.is) in
    let closed = is_file_closed c.args.self.now c.args.link.now in
    let f : NumberedFile = file_with c.args.group k file in
    let passes : closed f ≡ true = search rules in
    next_passes closed (files_of_group groups c.args.group) k f at c.loop-index.invariant passes

pub returns : goal.returns
returns g c =
    let groups = c.args.link.now.groups in
    let there = group_there groups c.as_slice.result.now c.args.group c.in-Some.files.now c.as_slice-files.result.now c.as_slice.ensures c.in-Some.ensures.lookup.0 c.in-Some.ensures.lookup.1 c.as_slice-files.ensures in
    let count : c.loop-index.index ≡ length c.as_slice-files.result.now = search rules in
    sym (all_pass (is_file_closed c.args.self.now c.args.link.now) (files_of_group groups c.args.group) c.loop-index.index
    (count ∙ sym (files_count groups c.args.group c.as_slice-files.result.now there)) c.loop-index.invariant)
