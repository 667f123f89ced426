-- Where merged images and their buckets stand in memory.
use Rattle.std.specs.Prelude.{◌≡◌, ℕ, ◌+◌, ◌*◌, ◌<◌, ◌^◌, List, Some, length, map, slice_get, slice_index}
use Rattle.std.specs.List.{enumerate_from, flat_map}
use Rattle.lk_merge.specs.Hash.{fnv64}
use Rattle.lk_merge.specs.Image.{all_buckets, all_pieces, image}
use Rattle.lk_merge.specs.Pieces.{Piece, MergeInput}
use Rattle.lk_merge.specs.Places.{bucket_start}

-- where each bucket of an output section stands, whose image starts at an address
abbrev pub bucket_addresses : (Piece → ℕ) → ℕ → List MergeInput → List ℕ
bucket_addresses hash start inputs = map (λ b. start + bucket_start hash (all_pieces inputs) b) all_buckets

-- those of all output sections, sixteen for each, by where the images start (libwild: `MergedStringStartAddresses`)
abbrev pub start_addresses : (Piece → ℕ) → List (List MergeInput) → List ℕ → List ℕ
start_addresses hash merged starts = flat_map (λ q. bucket_addresses hash (slice_index starts q.0) q.1) (enumerate_from 0 merged)

-- there is a start for each image, which ends at 2^64 - 1 or before
pub record ImagesFit (merged : List (List MergeInput)) (starts : List ℕ) : Type 0 where
  pub count : length starts ≡ length merged
  pub ends : (s : ℕ) (inputs : List MergeInput) → slice_get merged s ≡ Some inputs
      → slice_index starts s + length (image fnv64 (all_pieces inputs)) < 2 ^ 64

-- where the image of an output section starts, by the addresses of buckets: where its first bucket stands
abbrev pub image_start : List ℕ → ℕ → ℕ
image_start addresses s = slice_index addresses (16 * s)

-- addresses of the buckets of merged sections: in each the buckets follow each other, and end at 2^64 - 1 or before
pub record AreStartsOf (merged : List (List MergeInput)) (addresses : List ℕ) : Type 0 where
  pub count : length addresses ≡ 16 * length merged
  pub each : (s b : ℕ) (inputs : List MergeInput) → slice_get merged s ≡ Some inputs → b < 16
      → slice_index addresses (16 * s + b) ≡ image_start addresses s + bucket_start fnv64 (all_pieces inputs) b
  pub ends : (s : ℕ) (inputs : List MergeInput) → slice_get merged s ≡ Some inputs
      → image_start addresses s + length (image fnv64 (all_pieces inputs)) < 2 ^ 64
