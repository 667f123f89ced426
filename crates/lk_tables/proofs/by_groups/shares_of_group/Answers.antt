use Rattle.std.proofs.Common.{◌≡◌, ◌∷◌, [], ◌++◌, ℕ, List, Some, get_or, option_and_then, sym, ap, ◌∙◌, arith}
use Rattle.std.specs.List.{slice_get}
use Rattle.std.proofs.lemmas.Option.{slice_get-get_or}
use Rattle.lk_link.specs.declared.file.InputFile.{InputFile}
use Rattle.lk_link.specs.Inputs.{NumberedFile}
use Rattle.lk_link.proofs.Places.{files_of_group}
use Rattle.lk_reach.proofs.Numbered.{are_numbered}
use Rattle.lk_live.proofs.GroupJoining.{file_more, made_more}
use Rattle.lk_tables.specs.declared.commons.Common.{Common}
use Rattle.lk_tables.specs.declared.shares.FileShare.{FileShare}
use Rattle.lk_tables.specs.Commons.{commons_of}
use Rattle.lk_tables.specs.ShareWords.{first_share}
use Rattle.lk_tables.proofs.by_groups.shares_of_group.Goals as goal

pub overflow_cast-id : goal.overflow_cast-id
overflow_cast-id g c = omega (arith, c.requires.within, (are_numbered c.args.link.now c.requires.good).few_groups)

pub overflow_cast-id-in-loop-index : goal.overflow_cast-id-in-loop-index
overflow_cast-id-in-loop-index g c =
    let link = c.args.link.now in
    let files : List InputFile = c.as_slice-files.result.now in
    let group : slice_get link.groups c.args.group ≡ Some files
    = slice_get-get_or link.groups c.args.group c.index-as_slice-group.result c.requires.within
    ∙ ap (λ (fs : List InputFile). Some fs) (sym (c.as_slice-files.ensures ∙ c.index-as_slice-group.is ∙ ap (λ (gs : List (List InputFile)). get_or gs c.args.group c.index-as_slice-group.result) c.as_slice.ensures)) in
    omega (arith, c.loop-index-test.true, files_of_group link.groups c.args.group files group, (are_numbered link c.requires.good).few_files)

pub first_share-requires-clause-there : goal.first_share-requires-clause-there
first_share-requires-clause-there g c =
    let groups = c.args.link.now.groups in
    let files : List InputFile = c.as_slice-files.result.now in
    let k : ℕ = c.loop-index.index in
    let x : InputFile = c.index-files-index.result in
    let group : slice_get groups c.args.group ≡ Some files
    = slice_get-get_or groups c.args.group c.index-as_slice-group.result c.requires.within
    ∙ ap (λ (fs : List InputFile). Some fs) (sym (c.as_slice-files.ensures ∙ c.index-as_slice-group.is ∙ ap (λ (gs : List (List InputFile)). get_or gs c.args.group c.index-as_slice-group.result) c.as_slice.ensures)) in
    let file : slice_get files k ≡ Some x = slice_get-get_or files k x c.loop-index-test.true ∙ ap (λ (y : InputFile). Some y) (sym c.index-files-index.is) in
    ap (option_and_then (λ (fs : List InputFile). slice_get fs k)) group ∙ file

pub loop-index-preserved : goal.loop-index-preserved
loop-index-preserved g c =
    let sizes = g.P.Platform.table_sizes c.args.platform.now in
    let share : NumberedFile → FileShare = first_share sizes c.args.link.now c.args.live.now in
    let brought : NumberedFile → List Common = commons_of c.args.link.now c.args.live.now in
    let files : List InputFile = c.as_slice-files.result.now in
    let k : ℕ = c.loop-index.index in
    let x : InputFile = c.index-files-index.result in
    let here : NumberedFile = record { id = record { group = c.args.group; file = k }; file = x } in
    record {
      files = c.in_ok-push.ensures.items ∙ ap (λ (r : FileShare). c.loop-index.shares.items ++ r ∷ []) c.in_ok-share.ensures.share
          ∙ ap (λ (rs : List FileShare). rs ++ share here ∷ []) c.loop-index.invariant.files
          ∙ sym (made_more share c.args.group k files x x c.loop-index-test.true c.index-files-index.is);
      commons = c.in_ok-share.ensures.commons ∙ ap (λ (rs : List Common). rs ++ brought here) c.loop-index.invariant.commons
          ∙ sym (file_more brought c.args.group k files x x c.loop-index-test.true c.index-files-index.is);
      within = omega (arith, c.loop-index-test.true);
    }
