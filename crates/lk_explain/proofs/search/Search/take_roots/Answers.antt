use Rattle.std.proofs.Common.{List, ℕ, ◌++◌, map, sym, subst, arith}
use Rattle.std.specs.List.{flat_map}
use Rattle.std.proofs.lemmas.List.{map-append}
use Rattle.lk_link.specs.declared.walks.FileRef.{FileRef}
use Rattle.lk_link.specs.Inputs.{numbered_files}
use Rattle.lk_link.specs.Walks.{file_of}
use Rattle.lk_reach.specs.declared.units.Ask.{Ask}
use Rattle.lk_reach.specs.Marks.{asking}
use Rattle.lk_reach.specs.Units.{file_roots}
use Rattle.lk_reach.proofs.Numbered.{are_numbered, file_at}
use Rattle.lk_reach.proofs.WalkLemmas.{all_files_done, file_turn, one_file_more}
use Rattle.lk_explain.specs.Searching.{Takes, with_asker}
use Rattle.lk_explain.proofs.TakeLemmas.{below_after, sized_after, takes_more, takes_none}
use Rattle.lk_explain.proofs.search.Search.take_roots.Goals as goal

pub files-file-items-requires : goal.files-file-items-requires
files-file-items-requires c = are_numbered c.args.link.now c.requires.well_formed

pub loop-file-init : goal.loop-file-init
loop-file-init c = (takes_none (asking c.args.link.now) 1 c.args.self.now (omega arith), λ set. absurd (cc))

pub take_file-requires-clause-there : goal.take_file-requires-clause-there
take_file-requires-clause-there c =
    let groups = c.args.link.now.groups in
    let at = file_turn (numbered_files groups) c.into_iter-file-iterator.result c.loop-file.file-iterator c.next.new.self c.loop-file.yielded c.in-Some.file (cc) c.loop-file.yielded_by c.in-Some.ensures.steps in
    (file_at groups _ (file_of c.in-Some.file) at).there

pub take_file-requires-clause-sized : goal.take_file-requires-clause-sized
take_file-requires-clause-sized c = sized_after (asking c.args.link.now) 1 _ c.args.self.now c.loop-file.self c.requires.sized c.loop-file.invariant.0

pub take_file-requires-clause-below : goal.take_file-requires-clause-below
take_file-requires-clause-below c =
    below_after (asking c.args.link.now) 1 0 (flat_map (file_roots c.args.link.now) (map file_of c.loop-file.yielded)) c.args.self.now c.loop-file.self (omega arith) c.requires.below c.loop-file.invariant.0

pub loop-file-preserved : goal.loop-file-preserved
loop-file-preserved c =
    let link = c.args.link.now in
    let g = asking link in
    let first = c.args.self.now in
    let new = c.take_file.new.self in
    let done : List FileRef = c.loop-file.yielded in
    let so_far : List Ask = flat_map (file_roots link) (map file_of done) in
    let own : List Ask = file_roots link (file_of c.in-Some.file) in
    let pair : Ask → ℕ × Ask = λ a. (0, a) in
    let took = c.in_ok-take_file.ensures in
    let more : Takes g 1 (with_asker 0 (so_far ++ own)) first new
    = subst (λ asks. Takes g 1 asks first new) (sym (map-append pair so_far own)) (takes_more g 1 (with_asker 0 so_far) (with_asker 0 own) first c.loop-file.self new (omega arith) c.loop-file.invariant.0 took.0) in
    (subst (λ xs. Takes g 1 (with_asker 0 xs) first new) (sym (one_file_more (file_roots link) done c.in-Some.file)) more, took.1)

pub returns : goal.returns
returns c =
    let link = c.args.link.now in
    let done = all_files_done (numbered_files link.groups) c.into_iter-file-iterator.result c.loop-file.file-iterator c.next.new.self c.loop-file.yielded (cc) c.loop-file.yielded_by c.in-None.ensures.steps in
    subst (λ fs. Takes (asking link) 1 (with_asker 0 (flat_map (file_roots link) fs)) c.args.self.now c.loop-file.self) done c.loop-file.invariant.0
