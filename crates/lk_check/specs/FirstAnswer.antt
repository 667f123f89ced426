-- The first answer over a list, and the first element that isn't good.
use Rattle.std.specs.Prelude.{ℕ, not, Bool, if◌then◌else◌, List, [], ◌∷◌, Option, Some, None, position}
use Rattle.std.specs.List.{enumerate_from}
use Rattle.lk_link.specs.Files.{first_some}

-- what f answers first, over a list in order
unfoldable pub first_of : {X Y : Type 0} → (X → Option Y) → List X → Option Y
first_of f [] = None
first_of f (x ∷ xs) = first_some (f x) (first_of f xs)

-- this answer, where that doesn't hold
abbrev pub where_not : {X : Type 0} → Bool → X → Option X
where_not holds x = if holds then None else Some x

-- the index of the first that isn't good
abbrev pub first_bad : {X : Type 0} → (X → Bool) → List X → Option ℕ
first_bad good xs = position (λ x. not (good x)) xs

-- the same, where what is good goes by the index too
abbrev pub first_bad_at : {X : Type 0} → (ℕ × X → Bool) → List X → Option ℕ
first_bad_at good xs = first_of (λ x. where_not (good x) x.0) (enumerate_from 0 xs)
