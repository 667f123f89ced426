use Rattle.std.proofs.Common.{◌≡◌, Some, sym, ap, ◌∙◌}
use Rattle.lk_link.specs.Inputs.{numbered_files}
use Rattle.lk_link.specs.Walks.{file_of}
use Rattle.lk_reach.proofs.Numbered.{are_numbered, file_at}
use Rattle.lk_reach.proofs.WalkLemmas.{file_turn}
use Rattle.lk_resolutions.specs.declared.outside.MergeOffsetPlace.{MergeOffsetPlace}
use Rattle.lk_resolutions.specs.Outside.{symbols_outside}
use Rattle.lk_stops.proofs.Stopping.{exit, file_stops}
use Rattle.lk_resolutions.proofs.outside.check_symbols.Goals as goal

pub files-file-items-requires : goal.files-file-items-requires
files-file-items-requires c = are_numbered c.args.link.now c.requires.good

pub check_file_symbols-requires-clause-there : goal.check_file_symbols-requires-clause-there
check_file_symbols-requires-clause-there c =
    let groups = c.args.link.now.groups in
    let at = file_turn (numbered_files groups) c.into_iter-file-iterator.result c.loop-file.file-iterator c.next.new.self c.loop-file.yielded c.in-Some.file (cc) c.loop-file.yielded_by c.in-Some.ensures.steps in
    (file_at groups _ (file_of c.in-Some.file) at).there

pub returns-in_err-check_file_symbols : goal.returns-in_err-check_file_symbols
returns-in_err-check_file_symbols c =
    let link = c.args.link.now in
    let begins : c.into_iter-file-iterator.result ≡ numbered_files link.groups = cc in
    let at = file_turn (numbered_files link.groups) c.into_iter-file-iterator.result c.loop-file.file-iterator c.next.new.self c.loop-file.yielded c.in-Some.file begins c.loop-file.yielded_by c.in-Some.ensures.steps in
    exit _ _ c.from_residual.result c.from_residual.ensures.1 (λ e is.
    file_stops (symbols_outside link c.args.live.now) (numbered_files link.groups) c.into_iter-file-iterator.result c.loop-file.file-iterator c.loop-file.yielded c.in-Some.file _ begins
    c.loop-file.yielded_by at c.loop-file.invariant c.in_err-check_file_symbols.ensures ∙ ap (λ (p : MergeOffsetPlace). Some p) (sym is))
