-- What `gen SEED SIZE` tells of its link's layout: one line.
use Rattle.std.specs.Prelude.{ℕ, ◌*◌, Bool, List, [], ◌∷◌, Option, None, Some, codes, filter, fold, length, map, max, slice_get}
use Rattle.std.specs.Fmt.{decimal}
use Rattle.lk_expressions.specs.Records.{Record, mem_end}
use Rattle.lk_layout.specs.LayoutRecord.{LayoutRecord}
use Rattle.lk_link.specs.Texts.{joined}
use Rattle.lk_merge.specs.Hash.{fnv64}
use Rattle.lk_merge.specs.Image.{all_pieces, image}
use Rattle.lk_merge.specs.Pieces.{MergeInput}
use Rattle.lk_line.specs.Hexadecimal.{hexadecimal}
use Rattle.lk_report.specs.declared.summary.TheConstants.{STRINGS_SECTION}

abbrev pub is_live : Bool → Bool
is_live mark = mark

-- how many input sections are live
abbrev pub live_count : LayoutRecord → ℕ
live_count layout = length (filter is_live layout.live_marks)

-- the bytes of the distinct pieces of what is merged, of nothing where there is no such section
abbrev pub merged_bytes : Option (List MergeInput) → ℕ
merged_bytes None = 0
merged_bytes (Some inputs) = length (image fnv64 (all_pieces inputs))

-- the bytes that the strings of a generated link have together in the output
abbrev pub merged_length : LayoutRecord → ℕ
merged_length layout = merged_bytes (slice_get layout.merged_strings STRINGS_SECTION)

-- the greatest end in memory of some parts, 0 where there are none
abbrev pub greatest_end : List Record → ℕ
greatest_end parts = fold max 0 (map mem_end parts)

-- the line: the words, how many of two sections an object are live, the bytes of the strings together, and where memory ends
unfoldable pub summary : ℕ → ℕ → LayoutRecord → List ℕ
summary seed size layout = joined (
    codes "gen " ∷ decimal seed ∷ codes " " ∷ decimal size ∷ codes " live " ∷ decimal (live_count layout) ∷ codes " of " ∷ decimal (2 * size) ∷
    codes " merged " ∷ decimal (merged_length layout) ∷ codes " end 0x" ∷ hexadecimal (greatest_end layout.section_part_layouts) ∷ codes "\n" ∷ [])
