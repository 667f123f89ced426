-- What is laid out over zeros is made of its stretches.
use Rattle.std.proofs.Common.{◌≡◌, ℕ, zero, suc, ◌+◌, ◌-◌, ◌<◌, ◌≤◌, inl, inr, List, [], ◌∷◌, ◌++◌, Some, length, take, drop, get_or, fold, replicate, refl, sym, ap, ◌∙◌, arith, subst}
use Rattle.std.specs.Prelude.{◌⊎◌}
use Rattle.std.specs.List.{slice_get, slice_index}
use Rattle.std.proofs.lemmas.List.{get_or-append_right, get_or-drop, get_or-replicate, get_or-take, get_or_append_left, length-replicate, length-take-le, take-append-drop}
use Rattle.std.proofs.lemmas.Grind.{same_number_lists}
use Rattle.lk_image.specs.StretchLaws.{LaidOutIsMade, MadeIsOne}
use Rattle.lk_image.specs.Stretches.{AreApart, EndWithin, IsInStretch, IsMadeOf, Stretch, put, with_stretch}
use Rattle.lk_image.proofs.Puts.{length-put}

-- ---- one stretch

inside : (at : ℕ) (bytes under : List ℕ) (n : ℕ) → at + length bytes ≤ length under → n < length bytes → slice_index (put at bytes under) (at + n) ≡ slice_index bytes n
inside at bytes under n room lt =
    let behind : List ℕ = drop (length bytes) (drop at under) in
    let front : length (take at under) ≡ at = length-take-le at under (omega (arith, room)) in
    let place : at + n - at ≡ n = omega arith in
    get_or-append_right (take at under) (bytes ++ behind) at (at + n) 0 front (omega arith)
    ∙ ap (λ (i : ℕ). get_or (bytes ++ behind) i 0) place ∙ get_or_append_left bytes behind 0 n lt

below : (at : ℕ) (bytes under : List ℕ) (p : ℕ) → at ≤ length under → p < at → slice_index (put at bytes under) p ≡ slice_index under p
below at bytes under p room lt =
    get_or_append_left (take at under) (bytes ++ drop (length bytes) (drop at under)) 0 p (omega (arith, lt, length-take-le at under room)) ∙ get_or-take at under p 0 lt

above : (at : ℕ) (bytes under : List ℕ) (p : ℕ) → at + length bytes ≤ length under → at + length bytes ≤ p → slice_index (put at bytes under) p ≡ slice_index under p
above at bytes under p room le =
    let behind : List ℕ = drop (length bytes) (drop at under) in
    let front : length (take at under) ≡ at = length-take-le at under (omega (arith, room)) in
    let place : at + (length bytes + (p - at - length bytes)) ≡ p = omega (arith, le) in
    get_or-append_right (take at under) (bytes ++ behind) at p 0 front (omega (arith, le))
    ∙ get_or-append_right bytes behind (length bytes) (p - at) 0 refl (omega (arith, le))
    ∙ get_or-drop (length bytes) (drop at under) (p - at - length bytes) 0
    ∙ get_or-drop at under (length bytes + (p - at - length bytes)) 0
    ∙ ap (λ (i : ℕ). get_or under i 0) place

-- without bytes nothing is put
pub put_nothing : (at : ℕ) (bytes under : List ℕ) → length bytes ≡ 0 → put at bytes under ≡ under
put_nothing at [] under none = take-append-drop at under
put_nothing at (b ∷ bytes) under none = absurd (omega (arith, none))

-- a stretch without a byte at a number or past it
abbrev EndsIn : ℕ → Stretch → Type 0
EndsIn count w = (offset : ℕ) → IsInStretch offset w → offset < count

room_for : (count : ℕ) (w : Stretch) → EndsIn count w → 0 < length w.bytes → w.at + length w.bytes ≤ count
room_for count w ends some =
    let last = ends (w.at + length w.bytes - 1) (record { begins = omega (arith, some); ends = omega (arith, some) }) in
    omega (arith, last, some)

some_or_none : (bytes : List ℕ) → (length bytes ≡ 0) ⊎ (0 < length bytes)
some_or_none [] = inl refl
some_or_none (b ∷ bytes) = inr (omega arith)

one_long : (w : Stretch) (under : List ℕ) → EndsIn (length under) w → length (with_stretch under w) ≡ length under
one_long w under ends = elim (some_or_none w.bytes) [
  | inl none ↦ ap (λ (bs : List ℕ). length bs) (put_nothing w.at w.bytes under none)
  | inr some ↦ length-put w.at w.bytes under (room_for (length under) w ends some)
]

order : (a b : ℕ) → (a < b) ⊎ (b ≤ a)
order zero zero = inr (omega arith)
order zero (suc b) = inl (omega arith)
order (suc a) zero = inr (omega arith)
order (suc a) (suc b) = elim (order a b) [
  | inl h ↦ inl (omega (arith, h))
  | inr h ↦ inr (omega (arith, h))
]

one_stays : (w : Stretch) (under : List ℕ) (p : ℕ) → EndsIn (length under) w → (IsInStretch p w → ⊥) → slice_index (with_stretch under w) p ≡ slice_index under p
one_stays w under p ends out = elim (some_or_none w.bytes) [
  | inl none ↦ ap (λ (bs : List ℕ). slice_index bs p) (put_nothing w.at w.bytes under none)
  | inr some ↦
      let room = room_for (length under) w ends some in
      elim (order p w.at) [
        | inl h ↦ below w.at w.bytes under p (omega (arith, room)) h
        | inr h ↦ elim (order p (w.at + length w.bytes)) [
          | inl lt ↦ absurd (out (record { begins = h; ends = lt }))
          | inr le ↦ above w.at w.bytes under p room le
        ]
      ]
]

-- ---- all

first_ends : (count : ℕ) (w : Stretch) (ws : List Stretch) → EndWithin count (w ∷ ws) → EndsIn count w
first_ends count w ws ends offset h = ends 0 offset w refl h

rest_ends : (count : ℕ) (w : Stretch) (ws : List Stretch) → EndWithin count (w ∷ ws) → EndWithin count ws
rest_ends count w ws ends k offset v at h = ends (suc k) offset v at h

ends_still : (w : Stretch) (ws : List Stretch) (under : List ℕ) → EndWithin (length under) (w ∷ ws) → EndWithin (length (with_stretch under w)) ws
ends_still w ws under ends k offset v at h =
    let long = one_long w under (first_ends (length under) w ws ends) in
    omega (arith, long, ends (suc k) offset v at h)

all_long : (ws : List Stretch) (under : List ℕ) → EndWithin (length under) ws → length (fold with_stretch under ws) ≡ length under
all_long [] under ends = refl
all_long (w ∷ ws) under ends = all_long ws (with_stretch under w) (ends_still w ws under ends) ∙ one_long w under (first_ends (length under) w ws ends)

-- a place in none of them stays
stays : (ws : List Stretch) (under : List ℕ) (p : ℕ) → EndWithin (length under) ws → ((k : ℕ) (w : Stretch) → slice_get ws k ≡ Some w → IsInStretch p w → ⊥)
    → slice_index (fold with_stretch under ws) p ≡ slice_index under p
stays [] under p ends out = refl
stays (w ∷ ws) under p ends out =
    stays ws (with_stretch under w) p (ends_still w ws under ends) (λ k v at. out (suc k) v at) ∙ one_stays w under p (first_ends (length under) w ws ends) (out 0 w refl)

stand : (ws : List Stretch) (under : List ℕ) (k n : ℕ) (w : Stretch) → EndWithin (length under) ws → AreApart ws → slice_get ws k ≡ Some w → n < length w.bytes
    → slice_index (fold with_stretch under ws) (w.at + n) ≡ slice_index w.bytes n
stand [] under k n w ends apart at lt = absurd (cc)
stand (v ∷ ws) under zero n w ends apart at lt =
    let same : v ≡ w = cc in
    let ends_here : EndsIn (length under) w = λ offset h. ends 0 offset w at h in
    let room = room_for (length under) w ends_here (omega (arith, lt)) in
    let here : IsInStretch (w.at + n) w = record { begins = omega arith; ends = omega (arith, lt) } in
    stays ws (with_stretch under v) (w.at + n) (ends_still v ws under ends) (λ k u at_k h. let clash : 0 ≡ suc k = apart 0 (suc k) (w.at + n) w u at at_k here h in absurd (omega (arith, clash)))
    ∙ ap (λ (u : Stretch). slice_index (with_stretch under u) (w.at + n)) same ∙ inside w.at w.bytes under n room lt
stand (v ∷ ws) under (suc k) n w ends apart at lt =
    let apart_there : AreApart ws = λ i j offset a b at_i at_j h g. let same : suc i ≡ suc j = apart (suc i) (suc j) offset a b at_i at_j h g in omega (arith, same) in
    stand ws (with_stretch under v) k n w (ends_still v ws under ends) apart_there at lt

pub laid_out_is_made : LaidOutIsMade
laid_out_is_made count all ends apart =
    let none : List ℕ = replicate count 0 in
    let long : length none ≡ count = length-replicate count 0 in
    let within : EndWithin (length none) all = λ k offset w at h. omega (arith, long, ends k offset w at h) in
    record {
      long = all_long all none within ∙ long;
      stands = λ k n w at lt. stand all none k n w within apart at lt;
      rest = λ offset lt out. stays all none offset within out ∙ get_or-replicate count offset 0 0 lt;
    }

-- ---- one

out : (v : Stretch) (ws : List Stretch) (p : ℕ) → ((k : ℕ) (w : Stretch) → slice_get ws k ≡ Some w → IsInStretch p w → ⊥) → (IsInStretch p v → ⊥)
    → (k : ℕ) (w : Stretch) → slice_get (v ∷ ws) k ≡ Some w → IsInStretch p w → ⊥
out v ws p none here zero w at h =
    let same : v ≡ w = cc in
    here (subst (IsInStretch p) (sym same) h)
out v ws p none here (suc k) w at h = none k w at h

-- an offset lies in one of some stretches, or in none
is_in : (ws : List Stretch) (p : ℕ) → ((k : ℕ) × (w : Stretch) × (slice_get ws k ≡ Some w) × IsInStretch p w) ⊎ ((k : ℕ) (w : Stretch) → slice_get ws k ≡ Some w → IsInStretch p w → ⊥)
is_in [] p = inr (λ k w at h. absurd (cc))
is_in (v ∷ ws) p = elim (is_in ws p) [
  | inl r ↦ inl (suc r.0, r.1, r.2, r.3)
  | inr none ↦ elim (order p v.at) [
    | inl lt ↦ inr (λ k. out v ws p none (λ h. omega (arith, h.begins, lt)) k)
    | inr le ↦ elim (order p (v.at + length v.bytes)) [
      | inl lt ↦ inl (0, v, refl, record { begins = le; ends = lt })
      | inr past ↦ inr (λ k. out v ws p none (λ h. omega (arith, h.ends, past)) k)
    ]
  ]
]

-- a place in a stretch is told by its bytes
same_in : (count p : ℕ) (all : List Stretch) (a b : List ℕ) (k : ℕ) (w : Stretch) → slice_get all k ≡ Some w → IsInStretch p w → IsMadeOf count all a → IsMadeOf count all b
    → slice_index a p ≡ slice_index b p
same_in count p all a b k w at h made_a made_b =
    let n : ℕ = p - w.at in
    let place : w.at + n ≡ p = omega (arith, h.begins) in
    let within : n < length w.bytes = omega (arith, h.begins, h.ends) in
    let first : slice_index a (w.at + n) ≡ slice_index w.bytes n = made_a.stands k n w at within in
    let second : slice_index b (w.at + n) ≡ slice_index w.bytes n = made_b.stands k n w at within in
    ap (λ (i : ℕ). slice_index a i) (sym place) ∙ first ∙ sym second ∙ ap (λ (i : ℕ). slice_index b i) place

same_at : (count p : ℕ) (all : List Stretch) (a b : List ℕ) → p < count → IsMadeOf count all a → IsMadeOf count all b → slice_index a p ≡ slice_index b p
same_at count p all a b lt made_a made_b = elim (is_in all p) [
  | inl r ↦ same_in count p all a b r.0 r.1 r.2 r.3 made_a made_b
  | inr none ↦ made_a.rest p lt none ∙ sym (made_b.rest p lt none)
]

pub made_is_one : MadeIsOne
made_is_one count all a b made_a made_b =
    same_number_lists a b (made_a.long ∙ sym made_b.long) (λ p lt. same_at count p all a b (omega (arith, lt, made_a.long)) made_a made_b)
