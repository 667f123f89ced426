use Rattle.std.proofs.Common.{[], ap, ◌∙◌, map}
use Rattle.lk_link.specs.Inputs.{numbered_files}
use Rattle.lk_reach.proofs.Numbered.{are_numbered}
use Rattle.lk_reach.proofs.WalkLemmas.{all_files_done}
use Rattle.lk_relax.specs.Stages.{file_entries}
use Rattle.lk_relax.proofs.FirstLooks.{empty_next}
use Rattle.lk_relax.proofs.relaxation.no_deltas.Goals as goal

pub files-file-items-requires : goal.files-file-items-requires
files-file-items-requires c = are_numbered c.args.link.now c.requires

pub loop-file-preserved : goal.loop-file-preserved
loop-file-preserved c = empty_next c.loop-file.yielded c.in-Some._file c.loop-file.deltas.items c.push.new.self.items c.new.result c.loop-file.invariant c.new.ensures c.in_ok-push.ensures.items

pub returns : goal.returns
returns c =
    let files = numbered_files c.args.link.now.groups in
    c.loop-file.invariant ∙ ap (map (file_entries (λ _. []))) (all_files_done files c.into_iter-file-iterator.result c.loop-file._file-iterator c.next.new.self c.loop-file.yielded (cc) c.loop-file.yielded_by c.in-None.ensures.steps)
