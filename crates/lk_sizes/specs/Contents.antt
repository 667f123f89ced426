-- What images and input sections bring to each part, and when that is too much.
use Rattle.std.specs.Prelude.{◌≡◌, ℕ, ◌^◌, List, Option, Some, None, Result, Ok, Err, length, min, option_map, slice_get}
use Rattle.lk_link.specs.declared.fault.Place.TheVariants.{Part}
use Rattle.lk_link.specs.Files.{first_some}
use Rattle.lk_link.specs.Parts.{all_parts}
use Rattle.lk_sizes.specs.declared.error.SizeError.{SizeError}
use Rattle.lk_sizes.specs.declared.error.SizeError.TheVariants.{AddressOverflow, NoMemory}
use Rattle.lk_sizes.specs.declared.owners.PartContents.{PartContents}
use Rattle.lk_sizes.specs.declared.owners.PartTotal.{PartTotal}
use Rattle.lk_sizes.specs.Attributes.{part_attributes}
use Rattle.lk_sizes.specs.Owners.{Filling, by_part, content_size, has_image, without_thunks}
use Rattle.lk_sizes.specs.PartOwners.{overflowing_part, part_size, part_sizes}

-- what comes into a part
abbrev pub contents_of : Filling → ℕ → PartContents
contents_of filling p = record {
  bytes = part_size filling p;
  has_image = has_image filling.content.link p;
  attrs = part_attributes filling.content.link filling.content.live p;
}

-- what comes into each part
abbrev pub part_contents : Filling → List PartContents
part_contents filling = by_part (contents_of filling) filling.content.link

-- what was added up for a part is what its owners but for entries of tables bring; sums are told apart below 2^64
pub record IsContentTotal (filling : Filling) (p : ℕ) (total : PartTotal) : Type 0 where
  pub bytes : min total.bytes (2 ^ 64) ≡ min (content_size filling p) (2 ^ 64)
  pub image : total.has_image ≡ has_image filling.content.link p
  pub attrs : total.attrs ≡ part_attributes filling.content.link filling.content.live p

-- so it is of each part
pub record AreContentTotals (filling : Filling) (totals : List PartTotal) : Type 0 where
  pub count : length totals ≡ length (all_parts filling.content.link.plan.sections)
  pub each : (p : ℕ) (total : PartTotal) → slice_get totals p ≡ Some total → IsContentTotal filling p total

-- these are the sizes of the parts, with what else comes into them; sums are told apart below 2^64
pub record AreSums (filling : Filling) (totals : List PartTotal) : Type 0 where
  pub count : length totals ≡ length (all_parts filling.content.link.plan.sections)
  pub bytes : (p : ℕ) (total : PartTotal) → slice_get totals p ≡ Some total → min total.bytes (2 ^ 64) ≡ min (part_size filling p) (2 ^ 64)
  pub image : (p : ℕ) (total : PartTotal) → slice_get totals p ≡ Some total → total.has_image ≡ has_image filling.content.link p
  pub attrs : (p : ℕ) (total : PartTotal) → slice_get totals p ≡ Some total → total.attrs ≡ part_attributes filling.content.link filling.content.live p

-- the first part at which the sizes pass 2^64 - 1 together is refused
abbrev pub sum_refusal : Filling → Option SizeError
sum_refusal filling = option_map (λ p. AddressOverflow (Part p)) (overflowing_part (part_sizes filling))

-- the same, but that it is looked at without thunks first
abbrev pub size_refusal : Filling → Option SizeError
size_refusal filling = first_some (sum_refusal (without_thunks filling)) (sum_refusal filling)

-- what adding up answers: the contents of the parts, or the refusal; nothing is said for want of memory
abbrev pub GivesContents : Filling → Result (List PartContents) SizeError → Type 0
GivesContents filling (Ok contents) = (sum_refusal filling ≡ None) × (contents ≡ part_contents filling)
GivesContents filling (Err NoMemory) = Unit {0}
GivesContents filling (Err error) = sum_refusal filling ≡ Some error
