-- The input sections of which the output has something.
use Rattle.std.specs.Prelude.{◌||◌, Bool, if◌then◌else◌, List, [], ◌∷◌}
use Rattle.lk_link.specs.declared.link.LinkInput.{LinkInput}
use Rattle.lk_link.specs.Inputs.{Input, all_inputs}
use Rattle.lk_live.specs.declared.live.Live.{Live}
use Rattle.lk_sizes.specs.Owners.{is_merged}

-- of some input sections those with a mark, and those that are merged, in order
abbrev pub kept_of : List Bool → List Input → List Input
kept_of [] xs = []
kept_of (m ∷ marks) [] = []
kept_of (m ∷ marks) (x ∷ xs) = if m || is_merged x then x ∷ kept_of marks xs else kept_of marks xs

-- the live input sections and those that are merged, by file and index
abbrev pub kept_inputs : LinkInput → Live → List Input
kept_inputs link live = kept_of live.marks (all_inputs link.groups)
