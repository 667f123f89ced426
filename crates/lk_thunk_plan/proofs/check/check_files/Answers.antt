use Rattle.std.proofs.Common.{◌≡◌, ℕ, ◌+◌, Bool, if◌then◌else◌, List, [], ◌∷◌, ◌++◌, length, Option, Some, is_some, sym, ap, subst, ◌∙◌, arith, length-append}
use Rattle.lk_link.specs.declared.ids.FileId.{FileId}
use Rattle.lk_link.specs.declared.walks.FileRef.{FileRef}
use Rattle.lk_link.specs.Inputs.{numbered_files}
use Rattle.lk_link.specs.Symbols.{file_number}
use Rattle.lk_link.specs.Walks.{file_of}
use Rattle.lk_reach.proofs.Numbered.{are_numbered, file_at}
use Rattle.lk_reach.proofs.WalkLemmas.{file_turn, one_file_more}
use Rattle.lk_sizes.proofs.LiveNumbers.{place_is_number}
use Rattle.lk_stops.proofs.Stopping.{exit, file_stops}
use Rattle.lk_thunk_plan.specs.declared.check.BranchPlace.{BranchPlace}
use Rattle.lk_thunk_plan.specs.Branches.{file_unreached}
use Rattle.lk_thunk_plan.specs.BranchWords.{IsNextUser, block_next, branching_of}
use Rattle.lk_thunk_plan.proofs.NextUsers.{block_is_next, next_is_moved}
use Rattle.lk_thunk_plan.proofs.check.check_files.Goals as goal

pub files-file-items-requires : goal.files-file-items-requires
files-file-items-requires c = are_numbered c.args.by.now.link.now c.requires.good

pub check_file-requires-clause-there : goal.check_file-requires-clause-there
check_file-requires-clause-there c =
    let groups = c.args.by.now.link.now.groups in
    let at = file_turn (numbered_files groups) c.into_iter-file-iterator.result c.loop-file.file-iterator c.next.new.self c.loop-file.yielded c.in-Some.file (cc) c.loop-file.yielded_by c.in-Some.ensures.steps in
    (file_at groups _ (file_of c.in-Some.file) at).there

pub check_file-requires-clause-block : goal.check_file-requires-clause-block
check_file-requires-clause-block c =
    let link = c.args.by.now.link.now in
    let users : List (FileId × ℕ × Bool) = c.args.by.now.plan.now.users in
    let id : FileId = c.in-Some.file.id in
    let at = file_turn (numbered_files link.groups) c.into_iter-file-iterator.result c.loop-file.file-iterator c.next.new.self c.loop-file.yielded c.in-Some.file (cc) c.loop-file.yielded_by c.in-Some.ensures.steps in
    let number : length c.loop-file.yielded ≡ file_number link.groups id = place_is_number link (length c.loop-file.yielded) (file_of c.in-Some.file) at in
    let next = subst (λ n. IsNextUser link users n c.loop-file.next) number c.loop-file.invariant.next in
    c.take_block-block.ensures.block ∙ ap (λ (us : List (FileId × ℕ × Bool)). block_next us c.loop-file.next id) c.as_slice-users.ensures
    ∙ block_is_next link users c.requires.order.users id c.loop-file.next next

pub loop-file-preserved : goal.loop-file-preserved
loop-file-preserved c =
    let link = c.args.by.now.link.now in
    let users : List (FileId × ℕ × Bool) = c.args.by.now.plan.now.users in
    let x : FileRef = c.in-Some.file in
    let f = file_unreached (branching_of c.args.by.now) c.args.config.now in
    let at = file_turn (numbered_files link.groups) c.into_iter-file-iterator.result c.loop-file.file-iterator c.next.new.self c.loop-file.yielded x (cc) c.loop-file.yielded_by c.in-Some.ensures.steps in
    let number : length c.loop-file.yielded ≡ file_number link.groups x.id = place_is_number link (length c.loop-file.yielded) (file_of x) at in
    let next = subst (λ n. IsNextUser link users n c.loop-file.next) number c.loop-file.invariant.next in
    let more : file_number link.groups x.id + 1 ≡ length (c.loop-file.yielded ++ x ∷ []) = omega (arith, number, length-append c.loop-file.yielded (x ∷ [])) in
    let block : c.take_block-block.result ≡ block_next users c.loop-file.next x.id
    = c.take_block-block.ensures.block ∙ ap (λ (us : List (FileId × ℕ × Bool)). block_next us c.loop-file.next x.id) c.as_slice-users.ensures in
    let moved : c.loop-file.next + (if is_some (block_next users c.loop-file.next x.id) then 1 else 0) ≡ c.take_block-block.new.next
    = ap (λ (o : Option ℕ). c.loop-file.next + (if is_some o then 1 else 0)) (sym block) ∙ sym c.take_block-block.ensures.moved in
    record {
      none = one_file_more f c.loop-file.yielded x ∙ ap (λ ps. ps ++ f (file_of x)) c.loop-file.invariant.none ∙ c.in_ok-check_file.ensures;
      next = subst (λ n. IsNextUser link users n c.take_block-block.new.next) more
          (subst (IsNextUser link users (file_number link.groups x.id + 1)) moved
          (next_is_moved link users c.requires.order.users x.id c.loop-file.next next x.file.now (file_at link.groups _ (file_of x) at).there));
    }

pub returns-in_err-check_file : goal.returns-in_err-check_file
returns-in_err-check_file c =
    let link = c.args.by.now.link.now in
    let begins : c.into_iter-file-iterator.result ≡ numbered_files link.groups = cc in
    let at = file_turn (numbered_files link.groups) c.into_iter-file-iterator.result c.loop-file.file-iterator c.next.new.self c.loop-file.yielded c.in-Some.file begins c.loop-file.yielded_by c.in-Some.ensures.steps in
    exit _ _ c.from_residual.result c.from_residual.ensures.1 (λ e is.
    file_stops (file_unreached (branching_of c.args.by.now) c.args.config.now) (numbered_files link.groups) c.into_iter-file-iterator.result c.loop-file.file-iterator c.loop-file.yielded c.in-Some.file _ begins
    c.loop-file.yielded_by at c.loop-file.invariant.none c.in_err-check_file.ensures ∙ ap (λ (p : BranchPlace). Some p) (sym is))
