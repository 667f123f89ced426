use Rattle.std.proofs.Common.{◌≡◌, drop, map}
use Rattle.std.specs.Prelude.{fold}
use Rattle.lk_expressions.specs.Constants.{with_next}
use Rattle.lk_expressions.specs.KnownThen.{before_of}
use Rattle.lk_expressions.proofs.constants.push_file.Given as goal

-- those so far with those that are left are all
abbrev pub invariant-loop-symbol : goal.invariant-loop-symbol
invariant-loop-symbol l =
    fold (with_next (before_of l.known)) l.constants.items (map (λ x. (l.file, x)) (drop l.symbol-index l.symbols))
    ≡ fold (with_next (before_of l.known)) l.fn.constants.items (map (λ x. (l.file, x)) l.symbols)
