use Rattle.std.proofs.Common.{take}
use Rattle.lk_reach.specs.Marks.{asking}
use Rattle.lk_explain.specs.Searching.{Takes, with_asker}
use Rattle.lk_explain.specs.Sharing.{references}
use Rattle.lk_explain.proofs.search.Search.take_relocations.Given as goal

-- what the relocations so far refer to was taken
abbrev pub invariant-loop-relocation : goal.invariant-loop-relocation
invariant-loop-relocation l =
    Takes (asking l.asker.link.now) l.asker.distance (with_asker l.asker.number (references l.references.first l.references.symbols.now (take l.relocation-index l.references.relocations.now))) l.fn.self l.self
