use Rattle.std.proofs.Common.{◌≡◌, false, ◌||◌, ◌∷◌, [], Bool, List, map, sym, ap, ◌∙◌}
use Rattle.std.specs.List.{list_any}
use Rattle.std.proofs.lemmas.List.{map_push}
use Rattle.std.proofs.lemmas.List.Folds.{list_any-append}
use Rattle.lk_link.specs.Inputs.{NumberedFile, numbered_files}
use Rattle.lk_link.specs.Walks.{file_of}
use Rattle.lk_reach.specs.Edges.{offers_candidates}
use Rattle.lk_reach.proofs.Passing.{or_last, some_holds}
use Rattle.lk_reach.proofs.Numbered.{are_numbered}
use Rattle.lk_reach.proofs.WalkLemmas.{all_files_done, file_turn}
use Rattle.lk_reach.proofs.edges.has_candidates.Goals as goal

pub files-file-items-requires : goal.files-file-items-requires
files-file-items-requires c = are_numbered c.args.link.now c.requires

pub returns-then-offers_candidates : goal.returns-then-offers_candidates
returns-then-offers_candidates c =
    let files : List NumberedFile = numbered_files c.args.link.now.groups in
    let at = file_turn files c.into_iter-file-iterator.result c.loop-file.file-iterator c.next.new.self c.loop-file.yielded c.in-Some.file (cc) c.loop-file.yielded_by c.in-Some.ensures.steps in
    let test : NumberedFile → Bool = λ f. offers_candidates f.file in
    sym (some_holds test files _ (file_of c.in-Some.file) at (sym c.offers_candidates.ensures ∙ c.if-offers_candidates.true))

pub loop-file-preserved : goal.loop-file-preserved
loop-file-preserved c =
    let test : NumberedFile → Bool = λ f. offers_candidates f.file in
    let own : test (file_of c.in-Some.file) ≡ false = sym c.offers_candidates.ensures ∙ c.if-offers_candidates.false in
    ap (list_any test) (map_push file_of c.loop-file.yielded c.in-Some.file) ∙ list_any-append test (map file_of c.loop-file.yielded) (file_of c.in-Some.file ∷ [])
    ∙ ap (λ b. b || (test (file_of c.in-Some.file) || false)) c.loop-file.invariant ∙ or_last (test (file_of c.in-Some.file)) ∙ own

pub returns : goal.returns
returns c =
    let files : List NumberedFile = numbered_files c.args.link.now.groups in
    let done = all_files_done files c.into_iter-file-iterator.result c.loop-file.file-iterator c.next.new.self c.loop-file.yielded (cc) c.loop-file.yielded_by c.in-None.ensures.steps in
    sym c.loop-file.invariant ∙ ap (list_any (λ (f : NumberedFile). offers_candidates f.file)) done
