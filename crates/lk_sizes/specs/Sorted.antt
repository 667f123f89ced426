-- Sorted sections: those that stand last in their parts, in the order of their names.
use Rattle.std.specs.Prelude.{◌≡◌, ℕ, ◌+◌, Bool, true, if◌then◌else◌, List, [], ◌∷◌, Some, filter, slice_get}
use Rattle.std.specs.Cmp.Lexicographic.{slice_cmp}
use Rattle.std.specs.List.Sorted.{IsPermutation}
use Rattle.std.specs.Ordering.{is_lt, nat_cmp, ordering_then}
use Rattle.std.specs.declared.cmp.Ordering.{Ordering}
use Rattle.lk_link.specs.declared.link.LinkInput.{LinkInput}
use Rattle.lk_link.specs.Files.{file_cmp}
use Rattle.lk_link.specs.Inputs.{Input}
use Rattle.lk_live.specs.declared.live.Live.{Live}
use Rattle.lk_live.specs.Reach.{live_inputs}

-- two input sections compare by the bytes of their names, then by file, then by index
abbrev pub name_cmp : Input → Input → Ordering
name_cmp x y =
    ordering_then (slice_cmp nat_cmp x.section.name y.section.name) (ordering_then (file_cmp x.file y.file) (nat_cmp x.index y.index))

-- whether the first stands before the second
abbrev pub before : Input → Input → Bool
before x y = is_lt (name_cmp x y)

-- one in front of the first of some that it stands before, else behind them all
unfoldable pub insert_by_name : Input → List Input → List Input
insert_by_name x [] = x ∷ []
insert_by_name x (y ∷ ys) = if before x y then x ∷ y ∷ ys else y ∷ insert_by_name x ys

-- some in that order
unfoldable pub by_name : List Input → List Input
by_name [] = []
by_name (x ∷ xs) = insert_by_name x (by_name xs)

-- the live sections that are sorted, by file and index
abbrev pub sorted_ones : LinkInput → Live → List Input
sorted_ones link live = filter (λ x. x.section.sorted) (live_inputs link live)

-- the same by name, then by file and index
abbrev pub sorted_inputs : LinkInput → Live → List Input
sorted_inputs link live = by_name (sorted_ones link live)

-- ---- laws

-- a list has the live sorted sections, each once, and each of them stands before the next
pub record IsByName (link : LinkInput) (live : Live) (xs : List Input) : Type 0 where
  pub all : IsPermutation (sorted_ones link live) xs
  pub rising : (k : ℕ) (x y : Input) → slice_get xs k ≡ Some x → slice_get xs (k + 1) ≡ Some y → before x y ≡ true

-- the sorted sections stand so
abbrev pub SortedStandByName : Type 0
SortedStandByName = (link : LinkInput) (live : Live) → IsByName link live (sorted_inputs link live)

-- and in no other order
abbrev pub NoOtherOrder : Type 0
NoOtherOrder = (link : LinkInput) (live : Live) (xs : List Input) → IsByName link live xs → xs ≡ sorted_inputs link live
