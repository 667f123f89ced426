use Rattle.std.proofs.Common.{rules, ◌≡◌, true, false, List, map, length, sym, ap, ◌∙◌}
use Rattle.std.specs.List.{list_all}
use Rattle.std.proofs.lemmas.List.{map_push}
use Rattle.lk_link.specs.declared.walks.FileRef.{FileRef}
use Rattle.lk_link.specs.Inputs.{numbered_files}
use Rattle.lk_link.specs.Walks.{file_of}
use Rattle.lk_reach.proofs.Numbered.{are_numbered, file_at}
use Rattle.lk_reach.proofs.WalkLemmas.{all_files_done, file_turn}
use Rattle.lk_workers.specs.Shares.{is_passed}
use Rattle.lk_workers.proofs.Closing.{one_fails, one_more}
use Rattle.lk_workers.proofs.closed.Closed.is_share_closed.Goals as goal

pub files-file-items-requires : goal.files-file-items-requires
files-file-items-requires g c = are_numbered c.args.link.now c.requires.link.well_formed

pub is_passed-requires-clause-there : goal.is_passed-requires-clause-there
is_passed-requires-clause-there g c =
    let groups = c.args.link.now.groups in
    let at = file_turn (numbered_files groups) c.into_iter-file-iterator.result c.loop-file.file-iterator c.next.new.self c.loop-file.yielded c.in-Some.file (cc) c.loop-file.yielded_by c.in-Some.ensures.steps in
    (file_at groups _ (file_of c.in-Some.file) at).there

pub returns-then-not-is_passed : goal.returns-then-not-is_passed
returns-then-not-is_passed g c =
    let files = numbered_files c.args.link.now.groups in
    let passed = is_passed c.args.self.now c.args.link.now c.args.workers c.args.worker in
    let at = file_turn files c.into_iter-file-iterator.result c.loop-file.file-iterator c.next.new.self c.loop-file.yielded c.in-Some.file (cc) c.loop-file.yielded_by c.in-Some.ensures.steps in
    let fails : passed (file_of c.in-Some.file) ≡ false = search rules in
    sym (one_fails passed files (length c.loop-file.yielded) (file_of c.in-Some.file) at fails)

pub loop-file-preserved : goal.loop-file-preserved
loop-file-preserved g c =
    let passed = is_passed c.args.self.now c.args.link.now c.args.workers c.args.worker in
    let done : List FileRef = c.loop-file.yielded in
    let passes : passed (file_of c.in-Some.file) ≡ true = search rules in
    ap (list_all passed) (map_push file_of done c.in-Some.file) ∙ one_more passed (map file_of done) (file_of c.in-Some.file) c.loop-file.invariant passes

pub returns : goal.returns
returns g c =
    let passed = is_passed c.args.self.now c.args.link.now c.args.workers c.args.worker in
    let done = all_files_done (numbered_files c.args.link.now.groups) c.into_iter-file-iterator.result c.loop-file.file-iterator c.next.new.self c.loop-file.yielded (cc) c.loop-file.yielded_by c.in-None.ensures.steps in
    sym (ap (list_all passed) (sym done) ∙ c.loop-file.invariant)
