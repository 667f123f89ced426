use Rattle.std.proofs.Common.{◌≡◌, ◌||◌, Bool, List, length, map, subst, sym, ap, ◌∙◌, rules}
use Rattle.std.specs.List.{list_any}
use Rattle.std.proofs.lemmas.List.{map_push}
use Rattle.lk_link.specs.Inputs.{NumberedFile, numbered_files}
use Rattle.lk_link.specs.Marks.{is_marked}
use Rattle.lk_link.specs.Walks.{file_of}
use Rattle.lk_reach.proofs.Numbered.{are_numbered, file_at}
use Rattle.lk_reach.proofs.WalkLemmas.{all_files_done, file_turn}
use Rattle.lk_sizes.specs.Emitted.{file_keeps}
use Rattle.lk_sizes.proofs.SymbolsKeep.{AreMarkedBy, none_marked, one_marked}
use Rattle.lk_sizes.proofs.kept_symbols.mark_files.Goals as goal

pub files-file-items-requires : goal.files-file-items-requires
files-file-items-requires c = are_numbered c.args.link.now c.requires

pub mark_file-requires-clause-there : goal.mark_file-requires-clause-there
mark_file-requires-clause-there c =
    let groups = c.args.link.now.groups in
    let at = file_turn (numbered_files groups) c.into_iter-file-iterator.result c.loop-file.file-iterator c.next.new.self c.loop-file.yielded c.in-Some.file (cc) c.loop-file.yielded_by c.in-Some.ensures.steps in
    (file_at groups _ (file_of c.in-Some.file) at).there

pub loop-file-init : goal.loop-file-init
loop-file-init c = none_marked (file_keeps c.args.link.now c.args.live.now) c.args.marks.now

pub loop-file-preserved : goal.loop-file-preserved
loop-file-preserved c =
    let test = file_keeps c.args.link.now c.args.live.now in
    let f : NumberedFile = file_of c.in-Some.file in
    let middle : List Bool = c.loop-file.marks in
    let new : List Bool = c.mark_file.new.marks in
    let count : length new ≡ length middle = search rules in
    subst (λ (fs : List NumberedFile). AreMarkedBy test fs c.args.marks.now new) (sym (map_push file_of c.loop-file.yielded c.in-Some.file))
    (one_marked test (map file_of c.loop-file.yielded) f c.args.marks.now middle new c.loop-file.invariant count c.mark_file.ensures)

pub returns : goal.returns
returns c = λ s below.
    let groups = c.args.link.now.groups in
    let all = all_files_done (numbered_files groups) c.into_iter-file-iterator.result c.loop-file.file-iterator c.next.new.self c.loop-file.yielded (cc) c.loop-file.yielded_by c.in-None.ensures.steps in
    c.loop-file.invariant.each s below
    ∙ ap (λ (fs : List NumberedFile). is_marked c.args.marks.now s || list_any (file_keeps c.args.link.now c.args.live.now s) fs) all
