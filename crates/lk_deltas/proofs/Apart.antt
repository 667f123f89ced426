-- Ranges that are apart, put in order.
use Rattle.std.proofs.Common.{◌+◌, ◌-◌, ◌^◌, ◌∷◌, ◌++◌, [], List, ℕ, inl, inr, subst, sym}
use Rattle.std.specs.List.{All, slice_index_or}
use Rattle.std.specs.List.Sorted.{IsPermutation}
use Rattle.std.proofs.lemmas.List.{append-nil}
use Rattle.std.proofs.lemmas.List.Elements.{All-head, All-tail}
use Rattle.std.proofs.lemmas.List.Sorted.{IsPermutation-cons, IsPermutation-middle, IsPermutation-refl, IsPermutation-trans}
use Rattle.lk_deltas.specs.Deletions.{AreApart, IsApart, RiseWithin}
use Rattle.lk_deltas.specs.Laws.{ApartHaveBoth}

-- a list of both
abbrev Both : ℕ → ℕ → List (ℕ × ℕ) → List (ℕ × ℕ) → Type 0
Both low high old more = (all : List (ℕ × ℕ)) × IsPermutation (old ++ more) all × RiseWithin low high all

-- so for one list of old ranges, whatever stands beside them
abbrev BothWith : ℕ → List (ℕ × ℕ) → Type 0
BothWith high old = (low : ℕ) (more : List (ℕ × ℕ)) → RiseWithin low high old → RiseWithin low high more → AreApart old more → Both low high old more

-- no range is apart from fewer
fewer : (s : ℕ × ℕ) (old more : List (ℕ × ℕ)) → AreApart old (s ∷ more) → AreApart old more
fewer s old more apart k d within = All-tail (IsApart (slice_index_or old k d)) s more (apart k d within)

-- one range before all others of both lists, or the first of the others
first_too : (high : ℕ) (r : ℕ × ℕ) (old : List (ℕ × ℕ)) → BothWith high old → BothWith high (r ∷ old)
first_too high r old rest low [] h g apart =
    (r ∷ old, subst (λ (rs : List (ℕ × ℕ)). IsPermutation rs (r ∷ old)) (sym (append-nil (r ∷ old))) (IsPermutation-refl (r ∷ old)), h)
first_too high r old rest low (s ∷ more) h g apart = elim (All-head (IsApart r) s more (All-head (λ (x : ℕ × ℕ). All (IsApart x) (s ∷ more)) r old apart)) [
  | inl before ↦
      let both = rest (r.0 + r.1) (s ∷ more) h.2 (before, g.1, g.2) (All-tail (λ (x : ℕ × ℕ). All (IsApart x) (s ∷ more)) r old apart) in
      (r ∷ both.0, IsPermutation-cons r (old ++ s ∷ more) both.0 both.1, (h.0, h.1, both.2))
  | inr behind ↦
      let both = first_too high r old rest (s.0 + s.1) more (behind, h.1, h.2) g.2 (fewer s (r ∷ old) more apart) in (
        s ∷ both.0,
        IsPermutation-trans ((r ∷ old) ++ s ∷ more) (s ∷ ((r ∷ old) ++ more)) (s ∷ both.0)
            (IsPermutation-middle (r ∷ old) s more)
            (IsPermutation-cons s ((r ∷ old) ++ more) both.0 both.1),
        (g.0, g.1, both.2),
      )
]

all_too : (high : ℕ) (old : List (ℕ × ℕ)) → BothWith high old
all_too high [] = λ low more h g apart. (more, IsPermutation-refl more, g)
all_too high (r ∷ old) = first_too high r old (all_too high old)

pub apart_have_both : ApartHaveBoth
apart_have_both old more h g apart =
    let both = all_too (2 ^ 64 - 1) old 0 more h g apart in
    (both.0, record { moved = both.1; rising = both.2 })
