use Rattle.std.proofs.Common.{◌≡◌, ◌++◌, ℕ, List, Option, Some, get_or, option_and_then, sym, ap, ◌∙◌, arith}
use Rattle.std.specs.List.{slice_get}
use Rattle.std.proofs.lemmas.Option.{slice_get-get_or}
use Rattle.lk_link.specs.declared.file.InputFile.{InputFile}
use Rattle.lk_link.specs.declared.resolution.Resolution.{Resolution}
use Rattle.lk_link.specs.Inputs.{NumberedFile}
use Rattle.lk_link.proofs.Places.{files_of_group}
use Rattle.lk_reach.proofs.Numbered.{are_numbered}
use Rattle.lk_resolutions.specs.AtHand.{places_at_hand, setting_at_hand}
use Rattle.lk_resolutions.specs.Resolutions.{file_resolutions}
use Rattle.lk_live.proofs.GroupJoining.{file_more}
use Rattle.lk_resolutions.proofs.by_groups.resolve_group.Goals as goal

pub overflow_cast-id : goal.overflow_cast-id
overflow_cast-id g c =
    let link = c.args.tables.now.merged.link.now in
    omega (arith, c.requires.within, (are_numbered link c.requires.tables.belong.good).few_groups)

pub overflow_cast-id-in-loop-index : goal.overflow_cast-id-in-loop-index
overflow_cast-id-in-loop-index g c =
    let link = c.args.tables.now.merged.link.now in
    let files : List InputFile = c.as_slice-files.result.now in
    let group : slice_get link.groups c.args.group ≡ Some files
    = slice_get-get_or link.groups c.args.group c.index-as_slice-group.result c.requires.within
    ∙ ap (λ (fs : List InputFile). Some fs) (sym (c.as_slice-files.ensures ∙ c.index-as_slice-group.is ∙ ap (λ (gs : List (List InputFile)). get_or gs c.args.group c.index-as_slice-group.result) c.as_slice.ensures)) in
    omega (arith, c.loop-index-test.true, files_of_group link.groups c.args.group files group, (are_numbered link c.requires.tables.belong.good).few_files)

pub resolve_file-requires-clause-there : goal.resolve_file-requires-clause-there
resolve_file-requires-clause-there g c =
    let groups = c.args.tables.now.merged.link.now.groups in
    let files : List InputFile = c.as_slice-files.result.now in
    let k : ℕ = c.loop-index.index in
    let x : InputFile = c.index-files-index.result in
    let group : slice_get groups c.args.group ≡ Some files
    = slice_get-get_or groups c.args.group c.index-as_slice-group.result c.requires.within
    ∙ ap (λ (fs : List InputFile). Some fs) (sym (c.as_slice-files.ensures ∙ c.index-as_slice-group.is ∙ ap (λ (gs : List (List InputFile)). get_or gs c.args.group c.index-as_slice-group.result) c.as_slice.ensures)) in
    let file : slice_get files k ≡ Some x = slice_get-get_or files k x c.loop-index-test.true ∙ ap (λ (y : InputFile). Some y) (sym c.index-files-index.is) in
    ap (option_and_then (λ (fs : List InputFile). slice_get fs k)) group ∙ file

pub loop-index-preserved : goal.loop-index-preserved
loop-index-preserved g c =
    let each : NumberedFile → List (Option Resolution)
    = file_resolutions (places_at_hand c.args.tables.now) (setting_at_hand (g.P.Platform.table_sizes c.args.platform.now) c.args.tables.now) in
    let files : List InputFile = c.as_slice-files.result.now in
    let k : ℕ = c.loop-index.index in
    let x : InputFile = c.index-files-index.result in
    let own : List (Option Resolution) = each (record { id = record { group = c.args.group; file = k }; file = x }) in
    record {
      made = c.in_ok-resolve_file.ensures ∙ ap (λ (rs : List (Option Resolution)). rs ++ own) c.loop-index.invariant.made
          ∙ sym (file_more each c.args.group k files x x c.loop-index-test.true c.index-files-index.is);
      within = omega (arith, c.loop-index-test.true);
    }
