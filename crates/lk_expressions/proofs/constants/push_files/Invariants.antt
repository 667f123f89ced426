use Rattle.std.proofs.Common.{◌≡◌, drop}
use Rattle.std.specs.Prelude.{fold}
use Rattle.lk_link.specs.SymbolRules.{file_symbols}
use Rattle.lk_expressions.specs.Constants.{with_next}
use Rattle.lk_expressions.specs.KnownThen.{before_of}
use Rattle.lk_expressions.proofs.constants.push_files.Given as goal

-- those so far with those that are left are all
abbrev pub invariant-loop-file : goal.invariant-loop-file
invariant-loop-file l =
    fold (with_next (before_of l.known)) l.constants.items (file_symbols (drop l.file-index l.files))
    ≡ fold (with_next (before_of l.known)) l.fn.constants.items (file_symbols l.files)
