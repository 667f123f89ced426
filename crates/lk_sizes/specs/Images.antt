-- Where merged images stand.
use Rattle.std.specs.Prelude.{◌≡◌, ℕ, ◌<◌, ◌==◌, Bool, false, true, List, find, length, Option, Some, slice_get, slice_index}
use Rattle.std.specs.List.{position_or_len}
use Rattle.std.specs.Option.{option_map_or}
use Rattle.lk_link.specs.declared.link.LinkInput.{LinkInput}
use Rattle.lk_link.specs.Inputs.{Input, all_inputs}
use Rattle.lk_link.specs.Parts.{part_at}
use Rattle.lk_link.specs.PartRules.{is_table_part}
use Rattle.lk_link.specs.WellFormed.{IsWellFormed}
use Rattle.lk_sizes.specs.Attributes.{by_section, parts_of}
use Rattle.lk_sizes.specs.Owners.{Filling, ImageOwner, Owner, has_image, is_merged}
use Rattle.lk_sizes.specs.PartOwners.{address_of_owner, owners_of}
use Rattle.lk_link.specs.Parts.{part_sections}

-- the part of an output section in which its merged image stands; none where nothing is merged
abbrev pub image_part : LinkInput → ℕ → Option ℕ
image_part link s = find (has_image link) (parts_of link.plan.sections s)

-- whether an owner is the image of this output section
abbrev pub is_image_of : ℕ → Owner → Bool
is_image_of s (ImageOwner section len) = section == s
is_image_of s _ = false

-- how many owners of its part stand before it
abbrev pub image_number : Filling → ℕ → ℕ → ℕ
image_number filling s p = position_or_len (is_image_of s) (owners_of filling p)

-- the image's address, by the starts of all parts in memory; 0 where there is no image
abbrev pub image_address : Filling → List ℕ → ℕ → ℕ
image_address filling starts s =
    option_map_or (λ p. address_of_owner filling starts p (image_number filling s p)) (image_part filling.content.link s) 0

-- those of the images of all output sections
abbrev pub image_addresses : Filling → List ℕ → List ℕ
image_addresses filling starts = by_section (image_address filling starts) filling.content.link

-- ---- laws

-- an image stands among the owners of its part under its number there, with its length
abbrev pub ImagesAreOwners : Type 0
ImagesAreOwners = (filling : Filling) (s p : ℕ) → s < length filling.content.link.plan.sections → image_part filling.content.link s ≡ Some p
    → slice_get (owners_of filling p) (image_number filling s p) ≡ Some (ImageOwner s (slice_index filling.content.merged_lens s))

-- where a section that is merged goes, the image of its output section stands: in that one's part of alignment 1, which is no table part
pub record StandsWhereItsInputsGo (link : LinkInput) (x : Input) : Type 0 where
  pub part : image_part link (slice_index (part_sections link.plan.sections) x.section.part) ≡ Some x.section.part
  pub alignment : (part_at link.plan.sections x.section.part).alignment ≡ 1
  pub no_table : is_table_part link.plan.named x.section.part ≡ false

abbrev pub ImagesStandWhereInputsGo : Type 0
ImagesStandWhereInputsGo = (link : LinkInput) (k : ℕ) (x : Input) → IsWellFormed link → slice_get (all_inputs link.groups) k ≡ Some x
    → is_merged x ≡ true → StandsWhereItsInputsGo link x
