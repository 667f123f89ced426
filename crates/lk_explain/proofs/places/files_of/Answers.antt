use Rattle.std.proofs.Common.{map, ap, ◌∙◌}
use Rattle.lk_link.specs.Inputs.{NumberedFile, numbered_files}
use Rattle.lk_reach.proofs.Numbered.{are_numbered}
use Rattle.lk_reach.proofs.WalkLemmas.{all_files_done}
use Rattle.lk_explain.proofs.places.files_of.Goals as goal

pub files-file-items-requires : goal.files-file-items-requires
files-file-items-requires c = are_numbered c.args.link.now c.requires

pub returns : goal.returns
returns c =
    let done = all_files_done (numbered_files c.args.link.now.groups) c.into_iter-file-iterator.result c.loop-file.file-iterator c.next.new.self c.loop-file.yielded (cc) c.loop-file.yielded_by c.in-None.ensures.steps in
    c.loop-file.invariant ∙ ap (map (λ (f : NumberedFile). f.id)) done
