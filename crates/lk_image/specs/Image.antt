-- The bytes of the output file, as far as a layout tells them.
use Rattle.std.specs.Prelude.{ℕ, List, [], ◌∷◌, ◌++◌, if◌then◌else◌}
use Rattle.std.specs.List.{enumerate_from, flat_map}
use Rattle.std.specs.Option.{option_map_or}
use Rattle.lk_link.specs.declared.link.LinkInput.{LinkInput}
use Rattle.lk_link.specs.Inputs.{Input, all_inputs}
use Rattle.lk_merge.specs.Hash.{fnv64}
use Rattle.lk_merge.specs.Image.{all_pieces, image}
use Rattle.lk_merge.specs.Pieces.{MergeInput}
use Rattle.lk_layout.specs.LayoutRecord.{LayoutRecord}
use Rattle.lk_image.specs.Contents.{content}
use Rattle.lk_image.specs.Places.{image_length, is_in_file, merged_file_part, merged_place, section_place}
use Rattle.lk_image.specs.References.{relocation_value}
use Rattle.lk_image.specs.Stretches.{Stretch, laid_out}

-- the bytes of an input section, with its number, if they stand in the file
abbrev pub section_stretch : LinkInput → LayoutRecord → ℕ × Input → List Stretch
section_stretch link layout q =
    if is_in_file link layout q
    then record { at = section_place link layout q; bytes = content (relocation_value link layout q.1.file) q.1.section } ∷ [] else []

-- what is merged in an output section, with its number, if that stands in the file
abbrev pub merged_stretch : LinkInput → LayoutRecord → ℕ × List MergeInput → List Stretch
merged_stretch link layout q =
    option_map_or (λ p. record { at = merged_place layout q.0 p; bytes = image fnv64 (all_pieces q.1) } ∷ []) (merged_file_part link.plan q.0) []

-- all that stands in the file: the input sections, by file and index, and what is merged in each output section
abbrev pub stretches : LinkInput → LayoutRecord → List Stretch
stretches link layout =
    flat_map (section_stretch link layout) (enumerate_from 0 (all_inputs link.groups)) ++ flat_map (merged_stretch link layout) (enumerate_from 0 layout.merged_strings)

-- the image: it ends where the last output section does in the file, and all but these stretches is zero
abbrev pub image_of : LinkInput → LayoutRecord → List ℕ
image_of link layout = laid_out (image_length layout) (stretches link layout)
