use Rattle.std.proofs.Common.{◌≡◌, List, ◌++◌, Some, ap, sym, ◌∙◌}
use Rattle.lk_link.specs.Inputs.{numbered_files}
use Rattle.lk_link.specs.Walks.{file_of}
use Rattle.lk_reach.proofs.Numbered.{are_numbered, file_at}
use Rattle.lk_reach.proofs.WalkLemmas.{file_turn, one_file_more}
use Rattle.lk_relax.specs.declared.sites.RelaxedPlace.{RelaxedPlace}
use Rattle.lk_relax.specs.ScanWords.{pass_state_of}
use Rattle.lk_relax.specs.Sites.{file_past}
use Rattle.lk_stops.proofs.Stopping.{exit, file_stops}
use Rattle.lk_relax.proofs.sites.check_sites.Goals as goal

pub files-file-items-requires : goal.files-file-items-requires
files-file-items-requires c = are_numbered c.args.by.link.now c.requires.good

pub check_file-requires-clause-there : goal.check_file-requires-clause-there
check_file-requires-clause-there c =
    let groups = c.args.by.link.now.groups in
    let at = file_turn (numbered_files groups) c.into_iter-file-iterator.result c.loop-file.file-iterator c.next.new.self c.loop-file.yielded c.in-Some.file (cc) c.loop-file.yielded_by c.in-Some.ensures.steps in
    (file_at groups _ (file_of c.in-Some.file) at).there

pub loop-file-preserved : goal.loop-file-preserved
loop-file-preserved c =
    let f = file_past (pass_state_of c.args.by) in
    one_file_more f c.loop-file.yielded c.in-Some.file ∙ ap (λ (ps : List RelaxedPlace). ps ++ f (file_of c.in-Some.file)) c.loop-file.invariant ∙ c.in_ok-check_file.ensures

pub returns-in_err-check_file : goal.returns-in_err-check_file
returns-in_err-check_file c =
    let groups = c.args.by.link.now.groups in
    let begins : c.into_iter-file-iterator.result ≡ numbered_files groups = cc in
    let at = file_turn (numbered_files groups) c.into_iter-file-iterator.result c.loop-file.file-iterator c.next.new.self c.loop-file.yielded c.in-Some.file begins c.loop-file.yielded_by c.in-Some.ensures.steps in
    exit _ _ c.from_residual.result c.from_residual.ensures.1 (λ e is.
    file_stops (file_past (pass_state_of c.args.by)) (numbered_files groups) c.into_iter-file-iterator.result c.loop-file.file-iterator c.loop-file.yielded c.in-Some.file _ begins
    c.loop-file.yielded_by at c.loop-file.invariant c.in_err-check_file.ensures ∙ ap (λ (p : RelaxedPlace). Some p) (sym is))
