-- What a traversal shows.
use Rattle.std.specs.Prelude.{◌≡◌, List, ◌++◌}
use Rattle.lk_flags.specs.declared.flags.FlagSet.{FlagSet}
use Rattle.lk_flags.specs.Flags.{TableId}
use Rattle.lk_link.specs.declared.link.LinkInput.{LinkInput}

-- the link, and the table of flags
pub record TraversalValue : Type 0 where
  pub link : LinkInput
  pub table : TableId

-- what a pass had set it has still, and then what it set since
abbrev pub GoesOn : List FlagSet → List FlagSet → Type 0
GoesOn before after = (more : List FlagSet) × (after ≡ before ++ more)
