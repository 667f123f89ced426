use Rattle.std.proofs.Common.{◌≡◌, drop}
use Rattle.std.specs.Prelude.{fold}
use Rattle.lk_link.specs.SymbolRules.{file_symbols}
use Rattle.lk_link.specs.Symbols.{all_files}
use Rattle.lk_expressions.specs.Constants.{constants_of, with_next}
use Rattle.lk_expressions.specs.KnownThen.{before_of}
use Rattle.lk_expressions.proofs.constants.constant_redirects.Given as goal

-- those so far with those that are left are all
abbrev pub invariant-loop-files : goal.invariant-loop-files
invariant-loop-files l =
    fold (with_next (before_of l.known)) l.constants.items (file_symbols (all_files (drop l.files-index l.groups))) ≡ constants_of (before_of l.known)
