-- What blocks of thunks bring to parts. Contracts of private functions speak of these.
use Rattle.std.specs.Prelude.{◌≡◌, ℕ, ◌+◌, ◌==◌, ◌^◌, if◌then◌else◌, List, min, sum_by, length, slice_get, Some}
use Rattle.std.specs.Option.{option_map_or}
use Rattle.lk_link.specs.declared.ids.FileId.{FileId}
use Rattle.lk_link.specs.declared.link.LinkInput.{LinkInput}
use Rattle.lk_link.specs.declared.plan.PlanPart.{PlanPart}
use Rattle.lk_link.specs.Parts.{part_at}
use Rattle.lk_link.specs.Sizes.{capacity}
use Rattle.lk_sizes.specs.declared.owners.PartContents.{PartContents}
use Rattle.lk_sizes.specs.declared.owners.PartTotal.{PartTotal}

-- what blocks take in a part
abbrev pub block_bytes : PlanPart → List (FileId × ℕ) → ℕ
block_bytes part thunks = sum_by (λ q. capacity part q.1) thunks

-- what they bring to a part, the primary one alone
abbrev pub blocks_in : LinkInput → List (FileId × ℕ) → ℕ → ℕ
blocks_in link thunks p =
    option_map_or (λ q. if q == p then block_bytes (part_at link.plan.sections p) thunks else 0) link.plan.named.primary 0

-- totals are those of contents with what blocks bring; sums are told apart below 2^64
pub record AreWithBlocks (link : LinkInput) (thunks : List (FileId × ℕ)) (contents : List PartContents) (totals : List PartTotal) : Type 0 where
  pub count : length totals ≡ length contents
  pub each : (p : ℕ) (c : PartContents) (total : PartTotal) → slice_get contents p ≡ Some c → slice_get totals p ≡ Some total
      → min total.bytes (2 ^ 64) ≡ min (c.bytes + blocks_in link thunks p) (2 ^ 64)
  pub image : (p : ℕ) (c : PartContents) (total : PartTotal) → slice_get contents p ≡ Some c → slice_get totals p ≡ Some total
      → total.has_image ≡ c.has_image
  pub attrs : (p : ℕ) (c : PartContents) (total : PartTotal) → slice_get contents p ≡ Some c → slice_get totals p ≡ Some total
      → total.attrs ≡ c.attrs
