-- Ranges with the bytes that are deleted before each.
use Rattle.std.proofs.Common.{◌≡◌, ◌<◌, ◌≤◌, ◌+◌, ◌-◌, ◌^◌, ◌∷◌, ◌++◌, [], List, ℕ, Bool, true, false, arith, cond, drop, get_or, length, ltb-true, ltb-false, min, nat_lt, refl, subst, sum_by, zero, suc}
use Rattle.std.specs.List.{prefix_len}
use Rattle.std.proofs.lemmas.List.{append-nil, drop_more}
use Rattle.std.proofs.lemmas.List.Sums.{prefix_len-le-length, sum_by-cons}
use Rattle.lk_deltas.specs.declared.deltas.Delta.{Delta}
use Rattle.lk_deltas.specs.Deletions.{RiseWithin, bytes_before}
use Rattle.lk_deltas.specs.DeltaWords.{AreDeltas, ranges_of}
use Rattle.lk_deltas.proofs.Rising.{Rises, key_above, rises_above}

-- the starts rise
pub starts_rise : (low bytes : ℕ) (ds : List Delta) → AreDeltas low bytes ds → Rises (λ (d : Delta). d.range.0) low ds
starts_rise low bytes [] h = tt
starts_rise low bytes (x ∷ xs) h =
    (h.0, rises_above (λ (d : Delta). d.range.0) (x.range.0 + x.range.1) x.range.0 xs (omega arith) (starts_rise (x.range.0 + x.range.1) (bytes + x.range.1) xs h.3))

-- the ranges rise
pub ranges_rise : (low bytes : ℕ) (ds : List Delta) → AreDeltas low bytes ds → RiseWithin low (2 ^ 64 - 1) (ranges_of ds)
ranges_rise low bytes [] h = h
ranges_rise low bytes (x ∷ xs) h = (h.0, h.1, ranges_rise (x.range.0 + x.range.1) (bytes + x.range.1) xs h.3)

-- ranges that rise from an offset on, or from behind it, have no byte before it
pub none_before : (low high offset : ℕ) (rs : List (ℕ × ℕ)) → RiseWithin low high rs → offset ≤ low → sum_by (bytes_before offset) rs ≡ 0
none_before low high offset [] h past = refl
none_before low high offset (r ∷ rs) h past =
    omega (arith, sum_by-cons (bytes_before offset) r rs, none_before (r.0 + r.1) high offset rs h.2 (omega (arith, past, h.0)), past, h.0)

-- of what is deleted from a number on, no more is before an offset than there is between both
pub few_before : (low high offset : ℕ) (rs : List (ℕ × ℕ)) → RiseWithin low high rs → sum_by (bytes_before offset) rs ≤ offset - low
few_before low high offset [] h = omega arith
few_before low high offset (r ∷ rs) h =
    omega (arith, sum_by-cons (bytes_before offset) r rs, few_before (r.0 + r.1) high offset rs h.2, h.0)

-- a first element that passes, and one that doesn't
pub first_in : (b : Bool) (m n : ℕ) → cond b (1 + m) 0 ≡ suc n → (b ≡ true) × (m ≡ n)
first_in true m n e = (refl, omega (arith, e))
first_in false m n e = absurd (omega (arith, e))

pub first_out : (b : Bool) (m : ℕ) → cond b (1 + m) 0 ≡ 0 → b ≡ false
first_out true m e = absurd (omega (arith, e))
first_out false m e = refl

-- where no range starts before an offset none has a byte before it
pub none_starts : (low bytes offset : ℕ) (ds : List Delta) → AreDeltas low bytes ds → prefix_len (λ (d : Delta). nat_lt d.range.0 offset) ds ≡ 0
    → sum_by (bytes_before offset) (ranges_of ds) ≡ 0
none_starts low bytes offset [] h e = refl
none_starts low bytes offset (x ∷ xs) h e =
    let past : offset ≤ x.range.0 = ltb-false x.range.0 offset (first_out _ _ e) in
    none_before x.range.0 (2 ^ 64 - 1) offset (ranges_of (x ∷ xs)) (omega arith, h.1, ranges_rise (x.range.0 + x.range.1) (bytes + x.range.1) xs h.3) past

-- the last one that starts before an offset tells all the bytes before it
pub last_tells : (low bytes offset : ℕ) (ds : List Delta) (n : ℕ) (d : Delta) → AreDeltas low bytes ds
    → prefix_len (λ (x : Delta). nat_lt x.range.0 offset) ds ≡ suc n
    → ((get_or ds n d).range.0 < offset)
    × ((get_or ds n d).before + min (get_or ds n d).range.1 (offset - (get_or ds n d).range.0) ≡ bytes + sum_by (bytes_before offset) (ranges_of ds))
last_tells low bytes offset [] n d h e = absurd (omega (arith, e))
last_tells low bytes offset (x ∷ xs) zero d h e =
    let here = first_in _ _ _ e in
    let starts : x.range.0 < offset = ltb-true x.range.0 offset here.0 in
    let none = none_starts (x.range.0 + x.range.1) (bytes + x.range.1) offset xs h.3 here.1 in
    (starts, omega (arith, sum_by-cons (bytes_before offset) x.range (ranges_of xs), none, h.2))
last_tells low bytes offset (x ∷ xs) (suc n) d h e =
    let here = first_in _ _ _ e in
    let rest = last_tells (x.range.0 + x.range.1) (bytes + x.range.1) offset xs n d h.3 here.1 in
    let within : n < length xs = omega (arith, prefix_len-le-length (λ (y : Delta). nat_lt y.range.0 offset) xs, here.1) in
    let behind = key_above (λ (y : Delta). y.range.0) xs (x.range.0 + x.range.1) n d (starts_rise (x.range.0 + x.range.1) (bytes + x.range.1) xs h.3) within in
    (rest.0, omega (arith, sum_by-cons (bytes_before offset) x.range (ranges_of xs), rest.0, rest.1, behind))

pub rise_ends : (low high : ℕ) (rs : List (ℕ × ℕ)) → RiseWithin low high rs → low ≤ high
rise_ends low high [] h = h
rise_ends low high (r ∷ rs) h = omega (arith, rise_ends (r.0 + r.1) high rs h.2, h.0)

-- what is left begins with the next range
pub next_range : (low high i : ℕ) (rs : List (ℕ × ℕ)) (r : ℕ × ℕ) → i < length rs → RiseWithin low high (drop i rs)
    → (low ≤ (get_or rs i r).0) × (0 < (get_or rs i r).1) × RiseWithin ((get_or rs i r).0 + (get_or rs i r).1) high (drop (i + 1) rs)
next_range low high i rs r within h = subst (RiseWithin low high) (drop_more rs i r within) h

-- at the end all ranges are there
pub all_there : (low before : ℕ) (ds : List Delta) → low ≤ 2 ^ 64 - 1 → ((more : List Delta) → AreDeltas low before more → AreDeltas 0 0 (ds ++ more)) → AreDeltas 0 0 ds
all_there low before ds fits on = subst (AreDeltas 0 0) (append-nil ds) (on [] fits)
