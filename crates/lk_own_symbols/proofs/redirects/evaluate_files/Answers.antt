use Rattle.std.proofs.Common.{ap, arith, List}
use Rattle.std.proofs.Math.ListN.{drop_of_length-le}
use Rattle.lk_link.specs.declared.file.InputFile.{InputFile}
use Rattle.lk_link.specs.SymbolRules.{file_symbols}
use Rattle.lk_own_symbols.proofs.Redirecting.{file_count, file_goes_on, file_stops, handed_on, none_left}
use Rattle.lk_own_symbols.proofs.redirects.evaluate_files.Goals as goal

pub returns-in_err-evaluate_file-clause-redirected : goal.returns-in_err-evaluate_file-clause-redirected
returns-in_err-evaluate_file-clause-redirected g c =
    handed_on _ c.from_residual.result c.evaluate_file.new.values c.in_err-evaluate_file.field-0.0 c.from_residual.ensures.1
    (file_stops _ _ _ _ c.args.files.now c.file-item.result c.loop-file.file-index c.loop-file.number c.in_err-evaluate_file.field-0.0
    c.loop-file-test.true c.file-item.is c.in_err-evaluate_file.ensures c.loop-file.invariant.left)

pub loop-file-preserved : goal.loop-file-preserved
loop-file-preserved g c =
    let one = file_count c.args.files.now c.loop-file.file-index c.file-item.result c.loop-file-test.true c.file-item.is in
    record {
      left = file_goes_on _ _ _ _ _ c.args.files.now c.file-item.result c.loop-file.file-index c.loop-file.number _
          c.loop-file-test.true c.file-item.is (omega (arith, c.len.ensures)) c.in_ok-evaluate_file.ensures c.loop-file.invariant.left;
      count = omega (arith, c.len.ensures, one, c.loop-file.invariant.count);
    }

pub returns-clause-redirected : goal.returns-clause-redirected
returns-clause-redirected g c =
    let files : List InputFile = c.args.files.now in
    none_left _ _ _ _ _ _ (ap file_symbols (drop_of_length-le files c.loop-file-test.false)) c.loop-file.invariant.left
