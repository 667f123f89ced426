use Rattle.std.proofs.Common.{List, ap, ◌∙◌}
use Rattle.std.specs.List.{flat_map}
use Rattle.lk_link.specs.Inputs.{NumberedFile, numbered_files}
use Rattle.lk_live.specs.Faults.{undefined_placements}
use Rattle.lk_live.proofs.FaultLemmas.{placements_whole}
use Rattle.lk_reach.proofs.Numbered.{are_numbered}
use Rattle.lk_reach.proofs.WalkLemmas.{all_files_done}
use Rattle.lk_live.proofs.faults.undefined_symbols.Goals as goal

pub files-file-items-requires : goal.files-file-items-requires
files-file-items-requires c = are_numbered c.args.link.now c.requires

pub returns : goal.returns
returns c =
    let link = c.args.link.now in
    let done = all_files_done (numbered_files link.groups) c.into_iter-file-iterator.result c.loop-file.file-iterator c.next.new.self c.loop-file.yielded (cc) c.loop-file.yielded_by c.in-None.ensures.steps in
    c.loop-file.invariant ∙ ap (λ (fs : List NumberedFile). flat_map (λ (f : NumberedFile). undefined_placements f.file.symbols) fs) done ∙ placements_whole link
