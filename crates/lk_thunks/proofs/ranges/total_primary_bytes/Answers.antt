use Rattle.lk_link.specs.Inputs.{numbered_files}
use Rattle.lk_link.specs.Walks.{file_of}
use Rattle.lk_reach.proofs.Numbered.{are_numbered, file_at}
use Rattle.lk_reach.proofs.WalkLemmas.{file_turn}
use Rattle.lk_thunks.specs.Ranges.{primary_bytes}
use Rattle.lk_thunks.proofs.Sums.{sum_turn_min}
use Rattle.lk_thunks.proofs.ranges.total_primary_bytes.Goals as goal

pub files-file-items-requires : goal.files-file-items-requires
files-file-items-requires c = are_numbered c.args.link.now c.requires

pub primary_bytes-requires-clause-there : goal.primary_bytes-requires-clause-there
primary_bytes-requires-clause-there c =
    let groups = c.args.link.now.groups in
    let at = file_turn (numbered_files groups) c.into_iter-file-iterator.result c.loop-file.file-iterator c.next.new.self c.loop-file.yielded c.in-Some.file (cc) c.loop-file.yielded_by c.in-Some.ensures.steps in
    (file_at groups _ (file_of c.in-Some.file) at).there

pub loop-file-preserved : goal.loop-file-preserved
loop-file-preserved c =
    sum_turn_min (primary_bytes c.args.link.now c.args.live.now) (file_of c.in-Some.file) c.loop-file.file-iterator c.next.new.self c.loop-file.total c.primary_bytes.result c.saturating_add-total.result _
    c.in-Some.ensures.steps c.primary_bytes.ensures c.saturating_add-total.ensures c.loop-file.invariant.0 c.loop-file.invariant.1
