use Rattle.std.proofs.Common.{◌<◌, ◌||◌, length, refl, sym, ap, ◌∙◌, arith}
use Rattle.std.specs.List.{list_any}
use Rattle.lk_link.specs.Inputs.{numbered_files}
use Rattle.lk_link.specs.Marks.{is_marked}
use Rattle.lk_link.specs.Walks.{file_of}
use Rattle.lk_live.specs.KeptParts.{script_keeps}
use Rattle.lk_live.proofs.KeepLemmas.{file_next}
use Rattle.lk_reach.proofs.Passing.{or_last}
use Rattle.lk_reach.proofs.Numbered.{are_numbered, file_at}
use Rattle.lk_reach.proofs.WalkLemmas.{all_files_done, file_turn}
use Rattle.lk_live.proofs.named.keep_named.Goals as goal

pub files-file-items-requires : goal.files-file-items-requires
files-file-items-requires c = are_numbered c.args.link.now c.requires

pub loop-file-init : goal.loop-file-init
loop-file-init c = (refl, λ o lt. sym (or_last (is_marked c.args.kept.now.items o)))

pub keep_by_file-requires-clause-there : goal.keep_by_file-requires-clause-there
keep_by_file-requires-clause-there c =
    let groups = c.args.link.now.groups in
    let at = file_turn (numbered_files groups) c.into_iter-file-iterator.result c.loop-file.file-iterator c.next.new.self c.loop-file.yielded c.in-Some.file (cc) c.loop-file.yielded_by c.in-Some.ensures.steps in
    (file_at groups _ (file_of c.in-Some.file) at).there

pub loop-file-preserved : goal.loop-file-preserved
loop-file-preserved c = (
  c.keep_by_file.ensures.count ∙ c.loop-file.invariant.0,
  λ o lt.
      let before : o < length c.loop-file.kept.items = omega (arith, c.loop-file.invariant.0, lt) in
      file_next c.args.link.now c.args.marks.now o c.loop-file.yielded c.in-Some.file (is_marked c.args.kept.now.items o) (is_marked c.loop-file.kept.items o)
      (is_marked c.keep_by_file.new.kept.items o) (c.loop-file.invariant.1 o lt) (c.keep_by_file.ensures.marks o before),
)

pub returns-clause-marks : goal.returns-clause-marks
returns-clause-marks c o lt =
    let done = all_files_done (numbered_files c.args.link.now.groups) c.into_iter-file-iterator.result c.loop-file.file-iterator c.next.new.self c.loop-file.yielded (cc) c.loop-file.yielded_by c.in-None.ensures.steps in
    c.loop-file.invariant.1 o lt ∙ ap (λ fs. is_marked c.args.kept.now.items o || list_any (script_keeps c.args.link.now c.args.marks.now o) fs) done
