use Rattle.std.proofs.Common.{◌≡◌, drop}
use Rattle.lk_layout.specs.LateWords.{marked_from}
use Rattle.lk_layout.proofs.late_marks.mark_symbols.Given as goal

-- the marks so far, and then those of what is left, are those of all
abbrev pub invariant-loop-index : goal.invariant-loop-index
invariant-loop-index l =
    marked_from l.link l.told l.first.kind l.index (drop l.index l.first.symbols) l.flags.items
    ≡ marked_from l.link l.told l.first.kind 0 l.first.symbols l.fn.flags.items
