-- Lists of names.
use Rattle.std.specs.Prelude.{◌≡◌, ℕ, Bool, List, [], slice_get, unwrap_or}
use Rattle.std.specs.Cmp.Lexicographic.{slice_cmp}
use Rattle.std.specs.List.{list_any}
use Rattle.std.specs.List.Sorted.{IsSortedByKey}
use Rattle.std.specs.Ordering.{nat_cmp}
use Rattle.std.specs.Str.{bytes_eq}

-- whether a text is one of the names
abbrev pub has_name : List (List ℕ) → List ℕ → Bool
has_name names text = list_any (λ n. bytes_eq n text) names

-- the name at a place; empty behind the last one
abbrev pub name_at : List (List ℕ) → ℕ → List ℕ
name_at names place = unwrap_or (slice_get names place) []

-- the places of the names, in the order of the names' bytes
pub record IsOrderOf (names : List (List ℕ)) (order : List ℕ) : Type 0 where
  pub rising : IsSortedByKey (name_at names) (slice_cmp nat_cmp) order
  pub same : (text : List ℕ) → list_any (λ place. bytes_eq (name_at names place) text) order ≡ has_name names text
