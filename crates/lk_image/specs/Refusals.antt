-- Why there is no image of a layout.
use Rattle.std.specs.Prelude.{ℕ, ◌+◌, ◌&&◌, not, List, [], ◌∷◌, Option, Some, if◌then◌else◌, nat_lt, slice_get}
use Rattle.std.specs.List.{enumerate_from, flat_map}
use Rattle.lk_link.specs.declared.link.LinkInput.{LinkInput}
use Rattle.lk_link.specs.declared.relocation.Relocation.{Relocation}
use Rattle.lk_link.specs.Inputs.{Input, all_inputs}
use Rattle.lk_link.specs.InputSlots.{is_debug}
use Rattle.lk_layout.specs.LayoutRecord.{LayoutRecord}
use Rattle.lk_image.specs.declared.error.ImageError.{ImageError}
use Rattle.lk_image.specs.declared.error.ImageError.TheVariants.{NoRoom, Relaxed, TooLong}
use Rattle.lk_image.specs.declared.error.TheConstants.{LONGEST_IMAGE}
use Rattle.lk_image.specs.Contents.{is_absolute}
use Rattle.lk_image.specs.Places.{image_length, is_in_file}

-- the refusal of a relocation of a section, with its index there, that writes past its end
abbrev pub relocation_refusals : Input → ℕ × Relocation → List ImageError
relocation_refusals x q = if is_absolute q.1.kind && nat_lt x.section.size (q.1.offset + 8) then NoRoom x.file x.index q.0 ∷ [] else []

-- those of all relocations of a section, with its number, whose bytes stand in the file, but of debug data
abbrev pub room_refusals_in : LinkInput → LayoutRecord → ℕ × Input → List ImageError
room_refusals_in link layout q =
    if is_in_file link layout q && not (is_debug q.1.section.slot) then flat_map (relocation_refusals q.1) (enumerate_from 0 q.1.section.relocs) else []

-- the first of: the link is to be relaxed; the image would be too long; a relocation has no room, by file and index of its section
abbrev pub image_refusal : LinkInput → LayoutRecord → Option ImageError
image_refusal link layout =
    if link.options.relax then Some Relaxed
    else if nat_lt LONGEST_IMAGE (image_length layout) then Some (TooLong (image_length layout))
    else slice_get (flat_map (room_refusals_in link layout) (enumerate_from 0 (all_inputs link.groups))) 0
