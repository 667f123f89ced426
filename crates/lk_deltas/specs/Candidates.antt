-- What a pass over the candidates of a section deletes of it.
use Rattle.std.specs.Prelude.{◌≡◌, ℕ, ◌==◌, Bool, true, false, not, ◌&&◌, ◌||◌, List, [], ◌∷◌, Option, Some, None, map, min}
use Rattle.std.specs.List.{filter, filter_map, list_any}
use Rattle.lk_link.specs.declared.relocation.RelaxCandidate.{RelaxCandidate}
use Rattle.lk_deltas.specs.declared.candidates.Outcome.{Outcome}
use Rattle.lk_deltas.specs.Deletions.{AreDeletions}

-- the bytes that a candidate can do without
abbrev pub range_of : RelaxCandidate → ℕ × ℕ
range_of c = (c.at, c.del)

-- the bytes of all candidates can be deleted
abbrev pub AreCandidates : List RelaxCandidate → Type 0
AreCandidates cs = AreDeletions (map range_of cs)

-- a candidate's bytes are gone: a range starts there
abbrev pub is_gone : List (ℕ × ℕ) → RelaxCandidate → Bool
is_gone old c = list_any (λ r. r.0 == c.at) old

-- ranges are those of some of the candidates, in order
abbrev pub AreOf : List (ℕ × ℕ) → List RelaxCandidate → Type 0
AreOf old cs = old ≡ map range_of (filter (is_gone old) cs)

-- the ranges of no section, if there are none
abbrev pub ranges_in : Option (List (ℕ × ℕ)) → List (ℕ × ℕ)
ranges_in None = []
ranges_in (Some ranges) = ranges

abbrev pub goes : Outcome → Bool
goes Outcome.Goes = true
goes outcome = false

-- by how many bytes a candidate is too far from its symbol, if it is
abbrev pub short_by : Outcome → Option ℕ
short_by (Outcome.Short bytes) = Some bytes
short_by outcome = None

-- the lesser of two numbers, either of which may be missing
abbrev pub lesser : Option ℕ → Option ℕ → Option ℕ
lesser None n = n
lesser (Some m) None = Some m
lesser (Some m) (Some n) = Some (min m n)

abbrev pub least : List ℕ → Option ℕ
least [] = None
least (n ∷ ns) = lesser (Some n) (least ns)

-- by what comes of a candidate whose bytes aren't gone: the new ranges of a pass, in order
abbrev pub picked : (RelaxCandidate → Outcome) → List (ℕ × ℕ) → List RelaxCandidate → List (ℕ × ℕ)
picked told old cs = map range_of (filter (λ c. not (is_gone old c) && goes (told c)) cs)

-- all that is deleted behind it, in order
abbrev pub shrunk : (RelaxCandidate → Outcome) → List (ℕ × ℕ) → List RelaxCandidate → List (ℕ × ℕ)
shrunk told old cs = map range_of (filter (λ c. is_gone old c || goes (told c)) cs)

-- the least number of bytes by which one is too far, if one is
abbrev pub margin : (RelaxCandidate → Outcome) → List (ℕ × ℕ) → List RelaxCandidate → Option ℕ
margin told old cs = least (filter_map (λ c. short_by (told c)) (filter (λ c. not (is_gone old c)) cs))

-- a candidate is too far from its symbol
abbrev pub is_short : Outcome → Bool
is_short (Outcome.Short bytes) = true
is_short outcome = false

-- a candidate is past its limit: its bytes are gone, and it is too far
abbrev pub is_past : (RelaxCandidate → Outcome) → List (ℕ × ℕ) → RelaxCandidate → Bool
is_past told old c = is_gone old c && is_short (told c)
