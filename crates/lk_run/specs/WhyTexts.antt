-- What `why G F I` tells: the path by which a section is kept, unit by unit, or that it isn't reached.
use Rattle.std.specs.Prelude.{ℕ, List, [], ◌∷◌, Option, Some, None, codes}
use Rattle.std.specs.List.{flat_map}
use Rattle.std.specs.Fmt.{decimal}
use Rattle.lk_explain.specs.KeepPath.{IsShown}
use Rattle.lk_link.specs.declared.ids.FileId.{FileId}
use Rattle.lk_link.specs.declared.link.LinkInput.{LinkInput}
use Rattle.lk_link.specs.Texts.{joined}
use Rattle.lk_reach.specs.declared.units.Unit.{Unit as LinkUnit}
use Rattle.lk_reach.specs.declared.units.Unit.TheVariants.{Sym, Sec}
use Rattle.lk_reach.specs.Reach.{IsReached}

-- the way to a unit: the path that is shown to it, or none where it isn't reached
abbrev pub IsWay : LinkInput → LinkUnit → Option (List LinkUnit) → Type 0
IsWay link unit (Some path) = IsShown link path unit
IsWay link unit None = IsReached link unit → ⊥

-- the line of a unit
unfoldable pub unit_line : LinkUnit → List ℕ
unit_line (Sym s) = joined (codes "symbol " ∷ decimal s ∷ codes "\n" ∷ [])
unit_line (Sec file index) = joined (
    codes "section " ∷ decimal file.group ∷ codes " " ∷ decimal file.file ∷ codes " " ∷ decimal index ∷ codes "\n" ∷ [])

-- the lines of a way
abbrev pub way_lines : Option (List LinkUnit) → List ℕ
way_lines (Some path) = flat_map unit_line path
way_lines None = codes "not reached\n"

-- the line of the words
unfoldable pub why_line : FileId → ℕ → List ℕ
why_line file index = joined (
    codes "why " ∷ decimal file.group ∷ codes " " ∷ decimal file.file ∷ codes " " ∷ decimal index ∷ codes "\n" ∷ [])

-- what is told of a section and the way to it
abbrev pub why_text : FileId → ℕ → Option (List LinkUnit) → List ℕ
why_text file index way = joined (why_line file index ∷ way_lines way ∷ codes "end\n" ∷ [])

-- that there is no such section
unfoldable pub no_section_text : FileId → ℕ → List ℕ
no_section_text file index = joined (
    codes "no such section: " ∷ decimal file.group ∷ codes " " ∷ decimal file.file ∷ codes " " ∷ decimal index ∷ codes "\n" ∷ [])
