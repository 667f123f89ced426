use Rattle.std.proofs.Common.{◌≡◌, ap, arith, List}
use Rattle.std.proofs.Math.ListN.{drop_of_length-le}
use Rattle.lk_link.specs.declared.file.InputFile.{InputFile}
use Rattle.lk_link.specs.SymbolRules.{file_symbols}
use Rattle.lk_link.specs.Symbols.{all_files, symbol_count}
use Rattle.lk_link.proofs.GoodLinks.{few}
use Rattle.lk_own_symbols.specs.AtHand.{all_placed}
use Rattle.lk_own_symbols.proofs.Redirecting.{group_count, group_goes_on, group_stops, handed_on, none_left}
use Rattle.lk_own_symbols.proofs.RedirectLaws.{redirects_hold}
use Rattle.lk_own_symbols.proofs.redirects.evaluate_redirects.Goals as goal

pub evaluate_files-requires-clause-numbered : goal.evaluate_files-requires-clause-numbered
evaluate_files-requires-clause-numbered g c =
    let within = few c.args.placed.now.link.now c.requires.well_formed in
    record { few_groups = within.groups; few_files = within.files }

pub evaluate_files-requires-clause-few : goal.evaluate_files-requires-clause-few
evaluate_files-requires-clause-few g c =
    let within = few c.args.placed.now.link.now c.requires.well_formed in
    let one = group_count c.as_slice-groups.result.now c.loop-files.files-index c.files-item.result c.as_slice.result.now c.loop-files-test.true c.files-item.is c.as_slice.ensures in
    let all : symbol_count (all_files c.as_slice-groups.result.now) ≡ symbol_count (all_files c.args.placed.now.link.now.groups)
    = ap (λ (groups : List (List InputFile)). symbol_count (all_files groups)) c.as_slice-groups.ensures in
    omega (arith, within.symbols, one, all, c.loop-files.invariant.count)

pub returns-in_err-number-clause-redirected : goal.returns-in_err-number-clause-redirected
returns-in_err-number-clause-redirected g c =
    handed_on _ c.from_residual.result c.evaluate_files.new.values c.in_err-number.field-0.0 c.from_residual.ensures.1
    (group_stops _ _ _ _ c.as_slice-groups.result.now c.files-item.result c.as_slice.result.now c.loop-files.files-index c.loop-files.number c.in_err-number.field-0.0
    c.loop-files-test.true c.files-item.is c.as_slice.ensures c.in_err-number.ensures.redirected c.loop-files.invariant.left)

pub loop-files-preserved : goal.loop-files-preserved
loop-files-preserved g c =
    let one = group_count c.as_slice-groups.result.now c.loop-files.files-index c.files-item.result c.as_slice.result.now c.loop-files-test.true c.files-item.is c.as_slice.ensures in
    record {
      left = group_goes_on _ _ _ _ _ c.as_slice-groups.result.now c.files-item.result c.as_slice.result.now c.loop-files.files-index c.loop-files.number c.in_ok-number.number
          c.loop-files-test.true c.files-item.is c.as_slice.ensures c.in_ok-number.ensures.behind c.in_ok-number.ensures.redirected c.loop-files.invariant.left;
      count = omega (arith, one, c.in_ok-number.ensures.behind, c.loop-files.invariant.count);
    }

pub returns-clause-redirected : goal.returns-clause-redirected
returns-clause-redirected g c =
    let groups : List (List InputFile) = c.as_slice-groups.result.now in
    none_left _ _ _ _ _ _ (ap (λ (gs : List (List InputFile)). file_symbols (all_files gs)) (drop_of_length-le groups c.loop-files-test.false)) c.loop-files.invariant.left

pub returns-clause-hold : goal.returns-clause-hold
returns-clause-hold g c =
    let groups : List (List InputFile) = c.as_slice-groups.result.now in
    redirects_hold _ g.met.V.SymbolValues.sets_alone (all_placed c.args.placed.now) c.args.values.now c.loop-files.values
    (none_left _ _ _ _ _ _ (ap (λ (gs : List (List InputFile)). file_symbols (all_files gs)) (drop_of_length-le groups c.loop-files-test.false)) c.loop-files.invariant.left)
