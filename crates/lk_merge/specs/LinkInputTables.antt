-- Of the gathering of what is merged. Cited by private parts alone.
use Rattle.std.specs.Prelude.{◌≡◌, ℕ, ◌+◌, ◌<◌, ◌≤◌, ◌^◌, List, Some, length, slice_get}
use Rattle.lk_link.specs.declared.section.InputSection.{InputSection}
use Rattle.lk_merge.specs.Inputs.{padded_len, padded_total}
use Rattle.lk_merge.specs.LinkInputs.{merge_input}
use Rattle.lk_merge.specs.Pieces.{MergeInput}

-- inputs can take one more: they are few, have lesser numbers, and stay within 63 bits
pub record HaveRoom (inputs : List MergeInput) (number : ℕ) (x : InputSection) : Type 0 where
  pub few : length inputs + 1 < 2 ^ 32
  pub behind : (k : ℕ) (y : MergeInput) → slice_get inputs k ≡ Some y → y.number < number
  pub fits : padded_total inputs + padded_len (merge_input number x) < 2 ^ 63

-- an input section that is merged goes to an output section that has room
pub record CanGo (sections : List ℕ) (outputs : List (List MergeInput)) (number : ℕ) (x : InputSection) : Type 0 where
  pub output : ℕ
  pub goes : slice_get sections x.part ≡ Some output
  pub there : output < length outputs
  pub room : (inputs : List MergeInput) → slice_get outputs output ≡ Some inputs → HaveRoom inputs number x

-- the most bytes of a bucket, and about how many are merged in one go, are in their ranges
pub record AreSettings (limit group : ℕ) : Type 0 where
  pub limited : limit ≤ 2 ^ 28
  pub some : 0 < group
  pub most : group ≤ 2 ^ 32
