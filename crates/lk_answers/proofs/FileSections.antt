-- The resolutions of the sections of a file, by index.
use Rattle.std.proofs.Common.{◌≡◌, ℕ, ◌≤◌, ◌<◌, Bool, List, Some, None, length, ap, ◌∙◌, arith, zero-add}
use Rattle.std.specs.Prelude.{slice_get, slice_index}
use Rattle.std.specs.List.{range_with_len}
use Rattle.std.proofs.lemmas.List.{get_or-map, length-map}
use Rattle.std.proofs.lemmas.List.FromFn.{get_or-range_with_len, length-range_with_len}
use Rattle.std.proofs.lemmas.Option.{slice_get-get_or, slice_get_past}
use Rattle.lk_link.specs.Marks.{is_marked}
use Rattle.lk_answers.specs.SectionResolutions.{resolution_told, resolutions_of}

pub resolutions_count : (marks : List Bool) (addresses : List ℕ) (count : ℕ) → length (resolutions_of marks addresses count) ≡ count
resolutions_count marks addresses count =
    length-map (range_with_len 0 count) (λ (k : ℕ). resolution_told (is_marked marks k) (slice_index addresses k)) ∙ length-range_with_len 0 count

-- that of a section that is there
pub resolution_here : (marks : List Bool) (addresses : List ℕ) (count k : ℕ) → k < count
    → slice_get (resolutions_of marks addresses count) k ≡ Some (resolution_told (is_marked marks k) (slice_index addresses k))
resolution_here marks addresses count k below =
    let f : ℕ → ℕ = λ j. resolution_told (is_marked marks j) (slice_index addresses j) in
    slice_get-get_or (resolutions_of marks addresses count) k 0 (omega (arith, below, resolutions_count marks addresses count))
    ∙ ap (λ (n : ℕ). Some n) (get_or-map f (range_with_len 0 count) k 0 0 (omega (arith, below, length-range_with_len 0 count)) ∙ ap f (get_or-range_with_len 0 count k 0 below ∙ zero-add k))

-- none behind them
pub none_here : (marks : List Bool) (addresses : List ℕ) (count k : ℕ) → count ≤ k → slice_get (resolutions_of marks addresses count) k ≡ None
none_here marks addresses count k past = slice_get_past (resolutions_of marks addresses count) k (omega (arith, past, resolutions_count marks addresses count))
