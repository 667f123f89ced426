-- Of the insides of groups: the input that an offset is in. Cited by private parts alone.
use Rattle.std.specs.Prelude.{◌≡◌, ℕ, ◌+◌, ◌<◌, ◌≤◌, List, Some, slice_get}
use Rattle.lk_merge.specs.Inputs.{input_start, padded_len}
use Rattle.lk_merge.specs.Pieces.{MergeInput}

-- the k-th input holds a padded offset
pub record IsInputAt (inputs : List MergeInput) (at k : ℕ) : Type 0 where
  pub input : MergeInput
  pub there : slice_get inputs k ≡ Some input
  pub from : input_start inputs k ≤ at
  pub below : at < input_start inputs k + padded_len input
