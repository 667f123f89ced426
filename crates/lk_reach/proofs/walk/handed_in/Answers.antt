use Rattle.std.proofs.Common.{◌∷◌, List, map, ap, ◌∙◌, arith}
use Rattle.std.specs.List.{flat_map}
use Rattle.lk_link.specs.Inputs.{NumberedFile, numbered_files}
use Rattle.lk_reach.specs.Marks.{flags_handed_in}
use Rattle.lk_reach.proofs.Numbered.{are_numbered}
use Rattle.lk_reach.proofs.SymbolNumbers.{symbols_few}
use Rattle.lk_reach.proofs.WalkLemmas.{all_files_done, handed_in_whole}
use Rattle.lk_reach.proofs.walk.handed_in.Goals as goal

pub overflow_add-symbol_count : goal.overflow_add-symbol_count
overflow_add-symbol_count c = omega (arith, symbols_few c.args.link.now c.requires)

pub files-file-items-requires : goal.files-file-items-requires
files-file-items-requires c = are_numbered c.args.link.now c.requires

pub returns : goal.returns
returns c =
    let link = c.args.link.now in
    let done = all_files_done (numbered_files link.groups) c.into_iter-file-iterator.result c.loop-file.file-iterator c.next.new.self c.loop-file.yielded (cc) c.loop-file.yielded_by c.in-None.ensures.steps in
    c.loop-file.invariant ∙ ap (λ (fs : List NumberedFile). 0 ∷ flat_map (λ (f : NumberedFile). map flags_handed_in f.file.symbols) fs) done ∙ ap (λ ws. 0 ∷ ws) (handed_in_whole link)
