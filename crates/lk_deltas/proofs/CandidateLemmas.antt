-- Candidates of a section, and the ranges of some of them.
use Rattle.std.proofs.Common.{◌≡◌, ◌==◌, ◌<◌, ◌≤◌, ◌+◌, ◌-◌, ◌^◌, ◌∙◌, ◌∷◌, ◌++◌, ◌&&◌, ◌||◌, [], List, ℕ, Bool, true, false, Some, not, ap, arith, cond, eq-eqb, map, ne_eqb, refl, subst, suc, sym}
use Rattle.std.specs.List.{filter, list_any, slice_get}
use Rattle.std.specs.List.Sorted.{IsPermutation}
use Rattle.std.proofs.lemmas.List.Sorted.{IsPermutation-cons, IsPermutation-middle, IsPermutation-refl, IsPermutation-trans}
use Rattle.lk_link.specs.declared.relocation.RelaxCandidate.{RelaxCandidate}
use Rattle.lk_deltas.specs.Candidates.{goes, is_gone, picked, range_of, shrunk}
use Rattle.lk_deltas.specs.Deletions.{RiseWithin}
use Rattle.lk_deltas.specs.Laws.{GoodCandidatesCanGo, NothingIsOf, PickedAreNew, PickedCanGo, ShrunkAreOf}

pub rise_from : (lower low high : ℕ) (rs : List (ℕ × ℕ)) → lower ≤ low → RiseWithin low high rs → RiseWithin lower high rs
rise_from lower low high [] less h = omega (arith, less, h)
rise_from lower low high (r ∷ rs) less h = (omega (arith, less, h.0), h.1, h.2)

-- some of them rise too
pub kept_rise : (f : RelaxCandidate → Bool) (low high : ℕ) (cs : List RelaxCandidate) → RiseWithin low high (map range_of cs) → RiseWithin low high (map range_of (filter f cs))
kept_rise f low high [] h = h
kept_rise f low high (c ∷ cs) h = by (f c) (kept_rise f (c.at + c.del) high cs h.2)
  where
    by : (b : Bool) → RiseWithin (c.at + c.del) high (map range_of (filter f cs)) → RiseWithin low high (map range_of (cond b (c ∷ filter f cs) (filter f cs)))
    by true rest = (h.0, h.1, rest)
    by false rest = rise_from low (c.at + c.del) high (map range_of (filter f cs)) (omega (arith, h.0)) rest

-- none of them starts before where they rise from
none_here : (f : RelaxCandidate → Bool) (at low high : ℕ) (cs : List RelaxCandidate) → at < low → RiseWithin low high (map range_of cs)
    → list_any (λ (r : ℕ × ℕ). r.0 == at) (map range_of (filter f cs)) ≡ false
none_here f at low high [] below h = refl
none_here f at low high (c ∷ cs) below h = by (f c) (none_here f at (c.at + c.del) high cs (omega (arith, below, h.0)) h.2)
  where
    by : (b : Bool) → list_any (λ (r : ℕ × ℕ). r.0 == at) (map range_of (filter f cs)) ≡ false
        → list_any (λ (r : ℕ × ℕ). r.0 == at) (map range_of (cond b (c ∷ filter f cs) (filter f cs))) ≡ false
    by true rest = ap (λ b. b || list_any (λ (r : ℕ × ℕ). r.0 == at) (map range_of (filter f cs))) (ne_eqb c.at at (λ same. absurd (omega (arith, same, below, h.0)))) ∙ rest
    by false rest = rest

-- a range before all of them tells nothing of them
other : (r : ℕ × ℕ) (old : List (ℕ × ℕ)) (low high : ℕ) (cs : List RelaxCandidate) → r.0 < low → RiseWithin low high (map range_of cs)
    → filter (is_gone (r ∷ old)) cs ≡ filter (is_gone old) cs
other r old low high [] below h = refl
other r old low high (c ∷ cs) below h =
    ap (λ b. cond (b || is_gone old c) (c ∷ filter (is_gone (r ∷ old)) cs) (filter (is_gone (r ∷ old)) cs)) (ne_eqb r.0 c.at (λ same. absurd (omega (arith, same, below, h.0))))
    ∙ ap (λ (rest : List RelaxCandidate). cond (is_gone old c) (c ∷ rest) rest) (other r old (c.at + c.del) high cs (omega (arith, below, h.0)) h.2)

-- those whose ranges are deleted are told by these ranges
pub gone_again : (f : RelaxCandidate → Bool) (low high : ℕ) (cs : List RelaxCandidate) → RiseWithin low high (map range_of cs)
    → filter (is_gone (map range_of (filter f cs))) cs ≡ filter f cs
gone_again f low high [] h = refl
gone_again f low high (c ∷ cs) h = by (f c) (gone_again f (c.at + c.del) high cs h.2)
  where
    by : (b : Bool) → filter (is_gone (map range_of (filter f cs))) cs ≡ filter f cs
        → filter (is_gone (map range_of (cond b (c ∷ filter f cs) (filter f cs)))) (c ∷ cs) ≡ cond b (c ∷ filter f cs) (filter f cs)
    by true rest =
        let old : List (ℕ × ℕ) = map range_of (filter f cs) in
        let next : List RelaxCandidate = filter (is_gone (range_of c ∷ old)) cs in
        ap (λ b. cond (b || is_gone old c) (c ∷ next) next) (eq-eqb c.at c.at refl)
        ∙ ap (λ (rest : List RelaxCandidate). c ∷ rest) (other (range_of c) old (c.at + c.del) high cs (omega (arith, h.1)) h.2 ∙ rest)
    by false rest =
        let next : List RelaxCandidate = filter (is_gone (map range_of (filter f cs))) cs in
        ap (λ b. cond b (c ∷ next) next) (none_here f c.at (c.at + c.del) high cs (omega (arith, h.1)) h.2) ∙ rest

-- those of one kind and the others of another are together those of either
together : (g q : RelaxCandidate → Bool) (cs : List RelaxCandidate)
    → IsPermutation (map range_of (filter g cs) ++ map range_of (filter (λ c. not (g c) && q c) cs)) (map range_of (filter (λ c. g c || q c) cs))
together g q [] = IsPermutation-refl []
together g q (c ∷ cs) = by (g c) (q c) (together g q cs)
  where
    first : List RelaxCandidate
    first = filter g cs

    second : List RelaxCandidate
    second = filter (λ d. not (g d) && q d) cs

    all : List RelaxCandidate
    all = filter (λ d. g d || q d) cs

    by : (b d : Bool) → IsPermutation (map range_of first ++ map range_of second) (map range_of all)
        → IsPermutation (map range_of (cond b (c ∷ first) first) ++ map range_of (cond (not b && d) (c ∷ second) second)) (map range_of (cond (b || d) (c ∷ all) all))
    by true d rest = IsPermutation-cons (range_of c) (map range_of first ++ map range_of second) (map range_of all) rest
    by false true rest =
        IsPermutation-trans (map range_of first ++ range_of c ∷ map range_of second) (range_of c ∷ (map range_of first ++ map range_of second)) (range_of c ∷ map range_of all)
        (IsPermutation-middle (map range_of first) (range_of c) (map range_of second))
        (IsPermutation-cons (range_of c) (map range_of first ++ map range_of second) (map range_of all) rest)
    by false false rest = rest

-- candidates that end inside a section, each behind those before it, rise
pub rise_by : (low size : ℕ) (cs : List RelaxCandidate) → low ≤ size
    → ((k : ℕ) (r : RelaxCandidate) → slice_get cs k ≡ Some r → (low ≤ r.at) × (1 ≤ r.del) × (r.at + r.del ≤ size))
    → ((j k : ℕ) (q r : RelaxCandidate) → j < k → slice_get cs j ≡ Some q → slice_get cs k ≡ Some r → q.at + q.del ≤ r.at)
    → RiseWithin low size (map range_of cs)
rise_by low size [] fits inside apart = fits
rise_by low size (c ∷ cs) fits inside apart =
    let here = inside 0 c refl in (
      here.0,
      omega (arith, here.1),
      rise_by (c.at + c.del) size cs here.2
          (λ k r e. (apart 0 (suc k) c r (omega arith) refl e, (inside (suc k) r e).1, (inside (suc k) r e).2))
          (λ j k q r less at_j at_k. apart (suc j) (suc k) q r (omega (arith, less)) at_j at_k),
    )

rise_to : (low high higher : ℕ) (rs : List (ℕ × ℕ)) → high ≤ higher → RiseWithin low high rs → RiseWithin low higher rs
rise_to low high higher [] more h = omega (arith, more, h)
rise_to low high higher (r ∷ rs) more h = (h.0, h.1, rise_to (r.0 + r.1) high higher rs more h.2)

pub good_candidates_can_go : GoodCandidatesCanGo
good_candidates_can_go plan symbols s good fits =
    let inside : RiseWithin 0 s.size (map range_of s.relax)
    = rise_by 0 s.size s.relax (omega arith) (λ k r e. (omega arith, (good.in_relax k r e).0, (good.in_relax k r e).1)) good.apart in
    (rise_to 0 s.size (2 ^ 64 - 1) (map range_of s.relax) (omega (arith, fits)) inside, inside)

pub nothing_is_of : NothingIsOf
nothing_is_of [] = refl
nothing_is_of (c ∷ cs) = nothing_is_of cs

pub picked_can_go : PickedCanGo
picked_can_go told old cs rising = kept_rise (λ c. not (is_gone old c) && goes (told c)) 0 (2 ^ 64 - 1) cs rising

pub picked_are_new : PickedAreNew
picked_are_new told old cs rising some = record {
  moved = subst (λ (first : List (ℕ × ℕ)). IsPermutation (first ++ picked told old cs) (shrunk told old cs)) (sym some) (together (is_gone old) (λ c. goes (told c)) cs);
  rising = kept_rise (λ c. is_gone old c || goes (told c)) 0 (2 ^ 64 - 1) cs rising;
}

pub shrunk_are_of : ShrunkAreOf
shrunk_are_of told old cs rising = ap (map range_of) (sym (gone_again (λ c. is_gone old c || goes (told c)) 0 (2 ^ 64 - 1) cs rising))
