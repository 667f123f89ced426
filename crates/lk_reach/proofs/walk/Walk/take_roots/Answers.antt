use Rattle.std.proofs.Common.{List, ◌++◌, map, sym, subst}
use Rattle.std.specs.List.{flat_map}
use Rattle.lk_link.specs.declared.walks.FileRef.{FileRef}
use Rattle.lk_link.specs.Inputs.{numbered_files}
use Rattle.lk_link.specs.Walks.{file_of}
use Rattle.lk_reach.specs.declared.units.Ask.{Ask}
use Rattle.lk_reach.specs.Units.{file_roots}
use Rattle.lk_reach.specs.Walking.{Adds}
use Rattle.lk_reach.proofs.Numbered.{are_numbered, file_at}
use Rattle.lk_reach.proofs.WalkLemmas.{adds_more, adds_none, file_turn, one_file_more, sized_more}
use Rattle.lk_reach.proofs.walk.Walk.take_roots.Goals as goal

pub files-file-items-requires : goal.files-file-items-requires
files-file-items-requires c = are_numbered c.args.link.now c.requires.well_formed

pub loop-file-init : goal.loop-file-init
loop-file-init c = (adds_none c.args.link.now c.args.self.now, λ set. absurd (cc))

pub take_file-requires-clause-there : goal.take_file-requires-clause-there
take_file-requires-clause-there c =
    let groups = c.args.link.now.groups in
    let at = file_turn (numbered_files groups) c.into_iter-file-iterator.result c.loop-file.file-iterator c.next.new.self c.loop-file.yielded c.in-Some.file (cc) c.loop-file.yielded_by c.in-Some.ensures.steps in
    (file_at groups _ (file_of c.in-Some.file) at).there

pub take_file-requires-clause-sized : goal.take_file-requires-clause-sized
take_file-requires-clause-sized c = sized_more c.args.link.now _ c.args.self.now c.loop-file.self c.requires.sized c.loop-file.invariant.0

pub loop-file-preserved : goal.loop-file-preserved
loop-file-preserved c =
    let link = c.args.link.now in
    let first = c.args.self.now in
    let new = c.take_file.new.self in
    let done : List FileRef = c.loop-file.yielded in
    let so_far : List Ask = flat_map (file_roots link) (map file_of done) in
    let took = c.in_ok-take_file.ensures in
    let more : Adds link (so_far ++ file_roots link (file_of c.in-Some.file)) first new
    = adds_more link so_far (file_roots link (file_of c.in-Some.file)) first c.loop-file.self new c.loop-file.invariant.0 took.0 in
    (subst (λ xs. Adds link xs first new) (sym (one_file_more (file_roots link) done c.in-Some.file)) more, took.1)
