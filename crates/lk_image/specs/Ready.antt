-- What lets an image be written: private contracts speak of this.
use Rattle.std.specs.Prelude.{◌≡◌, ℕ, ◌+◌, ◌<◌, ◌≤◌, true, false, All, List, Some, length, slice_get}
use Rattle.lk_link.specs.declared.link.LinkInput.{LinkInput}
use Rattle.lk_link.specs.declared.relocation.Relocation.{Relocation}
use Rattle.lk_link.specs.Inputs.{Input, all_inputs}
use Rattle.lk_link.specs.InputSlots.{can_be_kept, is_debug}
use Rattle.lk_link.specs.WellFormed.{IsWellFormed}
use Rattle.lk_merge.specs.Addresses.{AreStartsOf}
use Rattle.lk_merge.specs.Hash.{fnv64}
use Rattle.lk_merge.specs.Image.{all_pieces, image}
use Rattle.lk_merge.specs.LinkInputs.{link_inputs}
use Rattle.lk_merge.specs.Pieces.{MergeInput}
use Rattle.lk_layout.specs.LayoutRecord.{LayoutRecord}
use Rattle.lk_image.specs.Contents.{data_of, is_absolute}
use Rattle.lk_image.specs.Places.{image_length, is_in_file, merged_file_part, merged_place, section_place}

-- a relocation writes inside of so many bytes, if it writes any
abbrev pub HasRoom : ℕ → Relocation → Type 0
HasRoom size r = is_absolute r.kind ≡ true → r.offset + 8 ≤ size

-- of an input section, with its number: if its bytes stand in the file, it is kept, its data is as long as it says, and it ends inside the
-- image
pub record StandsInside (link : LinkInput) (layout : LayoutRecord) (q : ℕ × Input) : Type 0 where
  pub kept : is_in_file link layout q ≡ true → can_be_kept q.1.section.slot ≡ true
  pub whole : is_in_file link layout q ≡ true → length (data_of q.1.section) ≡ q.1.section.size
  pub ends : is_in_file link layout q ≡ true → 0 < q.1.section.size → section_place link layout q + q.1.section.size ≤ image_length layout

-- each does
abbrev pub AllStandInside : LinkInput → LayoutRecord → Type 0
AllStandInside link layout = (k : ℕ) (x : Input) → slice_get (all_inputs link.groups) k ≡ Some x → StandsInside link layout (k, x)

-- what is merged ends inside the image, if it has bytes that stand in the file
abbrev pub MergedStandInside : LinkInput → LayoutRecord → Type 0
MergedStandInside link layout = (s p : ℕ) (inputs : List MergeInput) → slice_get layout.merged_strings s ≡ Some inputs
    → 0 < length (image fnv64 (all_pieces inputs)) → merged_file_part link.plan s ≡ Some p
    → merged_place layout s p + length (image fnv64 (all_pieces inputs)) ≤ image_length layout

-- a well-formed link with its merged data, all of which ends inside the image
pub record IsReady (link : LinkInput) (layout : LayoutRecord) : Type 0 where
  pub good : IsWellFormed link
  pub outputs : layout.merged_strings ≡ (link_inputs link).outputs
  pub starts : AreStartsOf layout.merged_strings layout.merged_string_start_addresses
  pub sections : AllStandInside link layout
  pub merged : MergedStandInside link layout

-- relocations of an input section, with its number, have room, if its bytes stand in the file and aren't debug data
abbrev pub HaveRoom : LinkInput → LayoutRecord → ℕ × Input → Type 0
HaveRoom link layout q = is_in_file link layout q ≡ true → is_debug q.1.section.slot ≡ false → All (HasRoom q.1.section.size) q.1.section.relocs

-- those of each have
abbrev pub AllHaveRoom : LinkInput → LayoutRecord → Type 0
AllHaveRoom link layout = (k : ℕ) (x : Input) → slice_get (all_inputs link.groups) k ≡ Some x → HaveRoom link layout (k, x)
