use Rattle.std.proofs.Common.{◌≡◌, ◌+◌, rules, arith, not}
use Rattle.std.specs.Prelude.{string_bytes}
use Rattle.lk_report.specs.Report.{part_text}
use Rattle.lk_report.proofs.Lines.{goes_on, ends}
use Rattle.lk_report.proofs.report.write_told.Goals as goal

pub loop-offset-preserved : goal.loop-offset-preserved
loop-offset-preserved c =
    let f = part_text (not c.any_takes_memory-is_empty.result) c.args.first in
    let i = c.loop-offset.offset in
    let next = goes_on f (c.args.first + i) c.args.parts.now i _ _ (string_bytes c.write_part.new.text) _ (omega arith) c.index-parts-offset.is c.loop-offset.invariant (search rules) in
    let same : c.args.first + (i + 1) ≡ c.args.first + i + 1 = omega arith in
    rw same next

pub returns : goal.returns
returns c =
    ends (part_text (not c.any_takes_memory-is_empty.result) c.args.first) _ c.args.parts.now _ _ _ (omega arith) c.loop-offset.invariant
