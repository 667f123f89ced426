use Rattle.std.proofs.Common.{◌≡◌, ◌++◌, ℕ, List, Some, get_or, option_and_then, sym, ap, ◌∙◌, arith}
use Rattle.std.specs.List.{slice_get}
use Rattle.std.proofs.lemmas.Option.{slice_get-get_or}
use Rattle.lk_link.specs.declared.file.InputFile.{InputFile}
use Rattle.lk_link.specs.Inputs.{NumberedFile}
use Rattle.lk_link.proofs.Places.{files_of_group}
use Rattle.lk_reach.proofs.Numbered.{are_numbered}
use Rattle.lk_live.proofs.GroupJoining.{file_more}
use Rattle.lk_report.specs.LiveLines.{file_lines}
use Rattle.lk_report.proofs.live_sections.group_text.Goals as goal

pub overflow_cast-group : goal.overflow_cast-group
overflow_cast-group c = omega (arith, c.requires.within, (are_numbered c.args.link.now c.requires.good).few_groups)

pub overflow_cast-id : goal.overflow_cast-id
overflow_cast-id c = omega (arith, c.requires.within, (are_numbered c.args.link.now c.requires.good).few_groups)

pub overflow_cast-id-in-loop-index : goal.overflow_cast-id-in-loop-index
overflow_cast-id-in-loop-index c =
    let link = c.args.link.now in
    let files : List InputFile = c.as_slice-files.result.now in
    let group : slice_get link.groups c.args.group ≡ Some files
    = slice_get-get_or link.groups c.args.group c.index-as_slice-group.result c.requires.within
    ∙ ap (λ (fs : List InputFile). Some fs) (sym (c.as_slice-files.ensures ∙ c.index-as_slice-group.is ∙ ap (λ (gs : List (List InputFile)). get_or gs c.args.group c.index-as_slice-group.result) c.as_slice.ensures)) in
    omega (arith, c.loop-index-test.true, files_of_group link.groups c.args.group files group, (are_numbered link c.requires.good).few_files)

pub write_file-requires-clause-there : goal.write_file-requires-clause-there
write_file-requires-clause-there c =
    let groups = c.args.link.now.groups in
    let files : List InputFile = c.as_slice-files.result.now in
    let k : ℕ = c.loop-index.index in
    let x : InputFile = c.index-files-index.result in
    let group : slice_get groups c.args.group ≡ Some files
    = slice_get-get_or groups c.args.group c.index-as_slice-group.result c.requires.within
    ∙ ap (λ (fs : List InputFile). Some fs) (sym (c.as_slice-files.ensures ∙ c.index-as_slice-group.is ∙ ap (λ (gs : List (List InputFile)). get_or gs c.args.group c.index-as_slice-group.result) c.as_slice.ensures)) in
    let file : slice_get files k ≡ Some x = slice_get-get_or files k x c.loop-index-test.true ∙ ap (λ (y : InputFile). Some y) (sym c.index-files-index.is) in
    ap (option_and_then (λ (fs : List InputFile). slice_get fs k)) group ∙ file

pub loop-index-preserved : goal.loop-index-preserved
loop-index-preserved c =
    let each : NumberedFile → List ℕ = file_lines c.args.link.now c.args.layout.now in
    let files : List InputFile = c.as_slice-files.result.now in
    let k : ℕ = c.loop-index.index in
    let x : InputFile = c.index-files-index.result in
    let own : List ℕ = each (record { id = record { group = c.args.group; file = k }; file = x }) in
    record {
      made = c.in_ok-write_file.ensures ∙ ap (λ (rs : List ℕ). rs ++ own) c.loop-index.invariant.made
          ∙ sym (file_more each c.args.group k files x x c.loop-index-test.true c.index-files-index.is);
      within = omega (arith, c.loop-index-test.true);
    }
