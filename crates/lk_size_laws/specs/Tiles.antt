-- The owners of a part share out its bytes.
use Rattle.std.specs.Prelude.{◌≡◌, ℕ, ◌+◌, ◌<◌, ◌≤◌, List, take, Some, slice_get, false}
use Rattle.std.specs.Int.{◌∣◌}
use Rattle.lk_link.specs.declared.plan.PlanPart.{PlanPart}
use Rattle.lk_link.specs.WellFormed.{IsWellFormed}
use Rattle.lk_sizes.specs.Owners.{Filling, Owner, bytes_of, owner_address, owner_bytes}
use Rattle.lk_sizes.specs.PartOwners.{owners_of}
use Rattle.lk_link.specs.PartRules.{is_table_part}
use Rattle.lk_link.specs.Parts.{part_at}

-- owner k has the byte at this address
pub record HasByte (start : ℕ) (part : PlanPart) (owners : List Owner) (k : ℕ) (address : ℕ) : Type 0 where
  pub owner : Owner
  pub there : slice_get owners k ≡ Some owner
  pub from : owner_address start part owners k ≤ address
  pub below : address < owner_address start part owners k + owner_bytes part owner

-- the owners stay within their part, each byte of the part has an owner, and no byte has two
pub record IsTiled (start : ℕ) (part : PlanPart) (owners : List Owner) : Type 0 where
  pub inside : (k address : ℕ) → HasByte start part owners k address → (start ≤ address) × (address < start + bytes_of part owners)
  pub covered : (address : ℕ) → start ≤ address → address < start + bytes_of part owners → (k : ℕ) × HasByte start part owners k address
  pub apart : (j k address : ℕ) → HasByte start part owners j address → HasByte start part owners k address → j ≡ k

-- the owners of each part tile it, wherever it starts
abbrev pub OwnersTileTheirPart : Type 0
OwnersTileTheirPart = (filling : Filling) (p start : ℕ)
    → IsTiled start (part_at filling.content.link.plan.sections p) (owners_of filling p)

-- where a part is no table part and isn't packed, each owner stands at a multiple of the alignment from the part's start
abbrev pub OwnersAreAligned : Type 0
OwnersAreAligned = (filling : Filling) (p k : ℕ) → IsWellFormed filling.content.link
    → is_table_part filling.content.link.plan.named p ≡ false → (part_at filling.content.link.plan.sections p).packed ≡ false
    → (part_at filling.content.link.plan.sections p).alignment
    ∣ bytes_of (part_at filling.content.link.plan.sections p) (take k (owners_of filling p))
