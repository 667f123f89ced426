use Rattle.std.proofs.Common.{List, map, ap, ◌∙◌}
use Rattle.std.specs.List.{flat_map}
use Rattle.lk_link.specs.Inputs.{NumberedFile, numbered_files}
use Rattle.lk_link.specs.Walks.{file_of}
use Rattle.lk_reach.proofs.Numbered.{are_numbered, file_at}
use Rattle.lk_reach.proofs.WalkLemmas.{all_files_done, file_turn}
use Rattle.lk_thunks.specs.Homes.{home_number}
use Rattle.lk_thunks.proofs.HomeNumbers.{homes_whole}
use Rattle.lk_thunks.proofs.homes.home_numbers.Goals as goal

pub files-file-items-requires : goal.files-file-items-requires
files-file-items-requires c = are_numbered c.args.link.now c.requires

pub push_homes-requires-clause-there : goal.push_homes-requires-clause-there
push_homes-requires-clause-there c =
    let groups = c.args.link.now.groups in
    let at = file_turn (numbered_files groups) c.into_iter-file-iterator.result c.loop-file.file-iterator c.next.new.self c.loop-file.yielded c.in-Some.file (cc) c.loop-file.yielded_by c.in-Some.ensures.steps in
    (file_at groups _ (file_of c.in-Some.file) at).there

pub returns : goal.returns
returns c =
    let link = c.args.link.now in
    let done = all_files_done (numbered_files link.groups) c.into_iter-file-iterator.result c.loop-file.file-iterator c.next.new.self c.loop-file.yielded (cc) c.loop-file.yielded_by c.in-None.ensures.steps in
    c.loop-file.invariant ∙ ap (λ (fs : List NumberedFile). flat_map (λ (f : NumberedFile). map (home_number link f) f.file.symbols) fs) done ∙ homes_whole link (numbered_files link.groups)
