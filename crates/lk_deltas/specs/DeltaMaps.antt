-- What is deleted of the sections of a file, by their indexes.
use Rattle.std.specs.Prelude.{ℕ, ◌==◌, if◌then◌else◌, List, [], ◌∷◌, Option, find, nat_lt, option_map}
use Rattle.std.specs.List.{insert, prefix_len}

-- what is deleted of the section with an index, if there is an entry for it
abbrev pub deltas_at : List (ℕ × List (ℕ × ℕ)) → ℕ → Option (List (ℕ × ℕ))
deltas_at entries section = option_map (λ e. e.1) (find (λ e. e.0 == section) entries)

-- the entries with one more, behind those of lower indexes
abbrev pub with_entry : ℕ → List (ℕ × ℕ) → List (ℕ × List (ℕ × ℕ)) → List (ℕ × List (ℕ × ℕ))
with_entry section ranges entries = insert entries (prefix_len (λ e. nat_lt e.0 section) entries) (section, ranges)

-- the entries with these ranges for a section: in place of those that it has, or as one more behind those of lower indexes
abbrev pub with_ranges : ℕ → List (ℕ × ℕ) → List (ℕ × List (ℕ × ℕ)) → List (ℕ × List (ℕ × ℕ))
with_ranges section ranges [] = (section, ranges) ∷ []
with_ranges section ranges (e ∷ es) =
    if nat_lt e.0 section then e ∷ with_ranges section ranges es
    else (section, ranges) ∷ (if e.0 == section then es else e ∷ es)
