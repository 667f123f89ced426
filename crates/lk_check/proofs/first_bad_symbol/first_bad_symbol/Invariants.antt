use Rattle.std.proofs.Common.{◌≡◌}
use Rattle.lk_link.specs.Inputs.{numbered_files}
use Rattle.lk_link.specs.SymbolRules.{is_good_symbol}
use Rattle.lk_check.specs.FirstAnswer.{first_of}
use Rattle.lk_check.specs.FirstBadFile.{first_bad_in_file}
use Rattle.lk_check.proofs.first_bad_symbol.first_bad_symbol.Given as goal

abbrev pub invariant-loop-at : goal.invariant-loop-at
invariant-loop-at l =
    first_of (first_bad_in_file (λ f. f.symbols) (is_good_symbol l.link)) l.at-iterator
    ≡ first_of (first_bad_in_file (λ f. f.symbols) (is_good_symbol l.link)) (numbered_files l.link.groups)
