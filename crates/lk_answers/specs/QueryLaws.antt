-- Laws on what a layout answers: statements that functions of their own prove.
use Rattle.std.specs.Prelude.{◌<◌, ◌^◌, Ok}
use Rattle.lk_link.specs.declared.link.LinkInput.{LinkInput}
use Rattle.lk_layout.specs.Defined.{IsDefined}
use Rattle.lk_layout.specs.LayoutRecord.{LayoutRecord}
use Rattle.lk_layout.specs.Machines.{Machine}
use Rattle.lk_answers.specs.Queries.{aligned_end}

-- the thread-local segment of a defined layout ends below 2^64, rounded up to its alignment
abbrev pub ThreadLocalDataEndsBelow : Type 0
ThreadLocalDataEndsBelow = (machine : Machine) (link : LinkInput) (layout : LayoutRecord) → IsDefined machine link (Ok layout)
    → aligned_end layout.tls_layout < 2 ^ 64
