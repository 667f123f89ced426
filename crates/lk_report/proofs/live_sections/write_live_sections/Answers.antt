use Rattle.std.proofs.Common.{◌++◌, ℕ, List, ap, ◌∙◌}
use Rattle.std.specs.Prelude.{string_bytes}
use Rattle.std.specs.List.{flat_map}
use Rattle.lk_link.specs.Inputs.{NumberedFile, numbered_files}
use Rattle.lk_link.specs.Walks.{file_of}
use Rattle.lk_reach.proofs.Numbered.{are_numbered, file_at}
use Rattle.lk_reach.proofs.WalkLemmas.{all_files_done, file_turn}
use Rattle.lk_report.specs.LiveLines.{file_lines}
use Rattle.lk_report.proofs.LiveLines.{all_files, next_turn}
use Rattle.lk_report.proofs.live_sections.write_live_sections.Goals as goal

pub files-file-items-requires : goal.files-file-items-requires
files-file-items-requires c = are_numbered c.args.link.now c.requires.good

pub write_file-requires-clause-there : goal.write_file-requires-clause-there
write_file-requires-clause-there c =
    let groups = c.args.link.now.groups in
    let at = file_turn (numbered_files groups) c.into_iter-file-iterator.result c.loop-file.file-iterator c.next.new.self c.loop-file.yielded c.in-Some.file (cc) c.loop-file.yielded_by c.in-Some.ensures.steps in
    (file_at groups _ (file_of c.in-Some.file) at).there

pub loop-file-preserved : goal.loop-file-preserved
loop-file-preserved c = next_turn (file_lines c.args.link.now c.args.layout.now) file_of c.loop-file.yielded c.in-Some.file _ _ _ c.loop-file.invariant c.in_ok-write_file.ensures

pub returns : goal.returns
returns c =
    let link = c.args.link.now in
    let layout = c.args.layout.now in
    let done = all_files_done (numbered_files link.groups) c.into_iter-file-iterator.result c.loop-file.file-iterator c.next.new.self c.loop-file.yielded (cc) c.loop-file.yielded_by c.in-None.ensures.steps in
    let before : List ℕ = string_bytes c.args.text.now in
    c.loop-file.invariant ∙ ap (λ (fs : List NumberedFile). before ++ flat_map (file_lines link layout) fs) done ∙ ap (λ (t : List ℕ). before ++ t) (all_files link layout)
