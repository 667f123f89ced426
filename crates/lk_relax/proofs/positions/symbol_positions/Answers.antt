use Rattle.lk_link.specs.Inputs.{numbered_files}
use Rattle.lk_link.specs.Walks.{file_of}
use Rattle.lk_reach.proofs.Numbered.{are_numbered, file_at}
use Rattle.lk_reach.proofs.WalkLemmas.{file_turn}
use Rattle.lk_relax.proofs.positions.symbol_positions.Goals as goal

pub files-file-items-requires : goal.files-file-items-requires
files-file-items-requires c = are_numbered c.args.link.now c.requires.good

pub push_file_positions-requires-clause-there : goal.push_file_positions-requires-clause-there
push_file_positions-requires-clause-there c =
    let groups = c.args.link.now.groups in
    let at = file_turn (numbered_files groups) c.into_iter-file-iterator.result c.loop-file.file-iterator c.next.new.self c.loop-file.yielded c.in-Some.file (cc) c.loop-file.yielded_by c.in-Some.ensures.steps in
    (file_at groups _ (file_of c.in-Some.file) at).there
