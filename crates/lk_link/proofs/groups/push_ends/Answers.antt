use Rattle.lk_link.specs.Inputs.{sections_in}
use Rattle.lk_link.specs.Symbols.{symbols_in}
use Rattle.lk_link.proofs.EndsLemmas.{next_end}
use Rattle.lk_link.proofs.groups.push_ends.Goals as goal

pub loop-file-preserved : goal.loop-file-preserved
loop-file-preserved c = λ before h.
    let so_far = c.loop-file.invariant before h in
    record {
      symbols =
          next_end symbols_in c.loop-file.ends.symbols.items c.push_end.new.ends.items before c.args.files.now c.loop-file.file-index c.file-item.result c.loop-file-test.true c.file-item.is
          (rw c.len.ensures at c.in_ok-push_end.ensures)
          so_far.symbols;
      sections =
          next_end sections_in c.loop-file.ends.sections.items c.push_end-in-loop-file.new.ends.items before c.args.files.now c.loop-file.file-index c.file-item.result c.loop-file-test.true c.file-item.is
          (rw c.len-in-loop-file.ensures at c.in_ok-push_end-2.ensures)
          so_far.sections;
    }
