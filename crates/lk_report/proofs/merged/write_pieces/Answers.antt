use Rattle.std.proofs.Common.{rules, arith}
use Rattle.lk_merge.specs.Addresses.{image_start}
use Rattle.lk_merge.specs.Image.{all_pieces}
use Rattle.lk_report.specs.Report.{piece_lines}
use Rattle.lk_report.proofs.Lines.{goes_on, ends}
use Rattle.lk_report.proofs.merged.write_pieces.Goals as goal

pub loop-number-preserved : goal.loop-number-preserved
loop-number-preserved c =
    goes_on (λ s inputs. piece_lines s (image_start c.args.starts.now s) (all_pieces inputs)) _ c.args.merged.now _ _ _ _ _ (omega arith) c.index-merged-number.is c.loop-number.invariant (search rules)

pub returns : goal.returns
returns c = ends (λ s inputs. piece_lines s (image_start c.args.starts.now s) (all_pieces inputs)) _ c.args.merged.now _ _ _ (omega arith) c.loop-number.invariant
