-- What `check` tells of a text: what the map has, its first fault, or where the text is no map.
use Rattle.std.specs.Prelude.{ℕ, List, [], ◌∷◌, codes}
use Rattle.std.specs.Fmt.{decimal}
use Rattle.lk_link.specs.Texts.{joined}
use Rattle.lk_map.specs.declared.check.MapFault.{MapFault}
use Rattle.lk_map.specs.declared.check.MapFault.TheVariants.{Overflow, MemOverlap, FileOverlap, NoSegment, NoMemory}

-- how many sections and segments a good map has
abbrev pub good_map_text : ℕ → ℕ → List ℕ
good_map_text sections segments = joined (codes "map ok: " ∷ decimal sections ∷ codes " sections, " ∷ decimal segments ∷ codes " segments\n" ∷ [])

-- why a map isn't good; want of memory has no text
abbrev pub map_fault_text : MapFault → List ℕ
map_fault_text (Overflow line) = joined (codes "map overflow: line " ∷ decimal line ∷ codes "\n" ∷ [])
map_fault_text (MemOverlap a b) = joined (codes "memory overlap: lines " ∷ decimal a ∷ codes " and " ∷ decimal b ∷ codes "\n" ∷ [])
map_fault_text (FileOverlap a b) = joined (codes "file overlap: lines " ∷ decimal a ∷ codes " and " ∷ decimal b ∷ codes "\n" ∷ [])
map_fault_text (NoSegment line) = joined (codes "line " ∷ decimal line ∷ codes " is in no segment\n" ∷ [])
map_fault_text NoMemory = []

-- the line at which a text is no map
abbrev pub no_map_text : ℕ → List ℕ
no_map_text line = joined (codes "not a map: line " ∷ decimal line ∷ codes "\n" ∷ [])
