use Rattle.std.proofs.Common.{None, arith}
use Rattle.std.proofs.lemmas.List.{get_or_default}
use Rattle.lk_report.specs.Report.{block_text}
use Rattle.lk_report.proofs.Lines.{goes_on, ends}
use Rattle.lk_report.proofs.thunks.write_blocks.Goals as goal

pub loop-number-preserved : goal.loop-number-preserved
loop-number-preserved c =
    goes_on block_text _ c.args.owners.now _ _ _ _ _ (omega arith) (get_or_default c.args.owners.now c.loop-number.number None _ (omega arith)) c.loop-number.invariant c.in_ok-write_block.ensures

pub returns : goal.returns
returns c = ends block_text _ c.args.owners.now _ _ _ (omega arith) c.loop-number.invariant
