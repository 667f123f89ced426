-- Laws: every link has one defined answer, and one that has a layout is well formed.
use Rattle.std.specs.Prelude.{◌≡◌, Result, Ok}
use Rattle.lk_link.specs.declared.link.LinkInput.{LinkInput}
use Rattle.lk_link.specs.WellFormed.{IsWellFormed}
use Rattle.lk_layout.specs.declared.error.LayoutError.{LayoutError}
use Rattle.lk_layout.specs.LayoutRecord.{LayoutRecord}
use Rattle.lk_layout.specs.Defined.{IsDefined}
use Rattle.lk_layout.specs.Machines.{Machine}

-- every link has a defined answer
abbrev pub DefinedAnswerExists : Type 0
DefinedAnswerExists = (machine : Machine) (link : LinkInput) → (answer : Result LayoutRecord LayoutError) × IsDefined machine link answer

-- it is one
abbrev pub DefinedAnswerIsOne : Type 0
DefinedAnswerIsOne = (machine : Machine) (link : LinkInput) (a b : Result LayoutRecord LayoutError)
    → IsDefined machine link a → IsDefined machine link b → a ≡ b

-- a link that has a layout is well formed
abbrev pub LaidOutLinksAreWellFormed : Type 0
LaidOutLinksAreWellFormed = (machine : Machine) (link : LinkInput) (layout : LayoutRecord) → IsDefined machine link (Ok layout) → IsWellFormed link
