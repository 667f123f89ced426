use Rattle.std.proofs.Common.{List, [], length}
use Rattle.lk_link.specs.declared.file.InputFile.{InputFile}
use Rattle.lk_link.proofs.EndsLemmas.{next_end}
use Rattle.lk_link.proofs.groups.ends_of_groups.Goals as goal

pub loop-files-preserved : goal.loop-files-preserved
loop-files-preserved c =
    next_end (λ (files : List InputFile). length files) c.loop-files.ends.items c.push_end.new.ends.items [] c.args.groups.now c.loop-files.files-index c.files-item.result c.loop-files-test.true c.files-item.is
    (rw c.len.ensures at c.in_ok-push_end.ensures)
    c.loop-files.invariant
