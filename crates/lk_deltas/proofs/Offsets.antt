-- Where offsets go.
use Rattle.std.proofs.Common.{◌≡◌, ◌<◌, ◌≤◌, ◌+◌, ◌-◌, ◌^◌, ◌∷◌, ◌++◌, [], List, ℕ, ap, arith, get_or, length, sum_by, zero, suc}
use Rattle.std.proofs.lemmas.List.Sums.{sum_by-append, sum_by-cons}
use Rattle.std.proofs.lemmas.List.Sorted.{sum_by-IsPermutation}
use Rattle.lk_deltas.specs.Deletions.{RiseWithin, bytes_before, mapped}
use Rattle.lk_deltas.specs.Laws.{OffsetsKeepOrder, OffsetsOnlyFall, RangesGoToTheirStarts}
use Rattle.lk_deltas.proofs.DeltaLemmas.{few_before, none_before}

-- between two offsets no more is deleted than there is
grows : (low high a b : ℕ) (rs : List (ℕ × ℕ)) → RiseWithin low high rs → a ≤ b
    → (sum_by (bytes_before b) rs ≤ sum_by (bytes_before a) rs + (b - a)) × (sum_by (bytes_before b) rs ≤ sum_by (bytes_before a) rs + (b - low))
grows low high a b [] h order = (omega arith, omega arith)
grows low high a b (r ∷ rs) h order =
    let rest = grows (r.0 + r.1) high a b rs h.2 order in (
      omega (arith, sum_by-cons (bytes_before a) r rs, sum_by-cons (bytes_before b) r rs, rest.0, rest.1, order),
      omega (arith, sum_by-cons (bytes_before a) r rs, sum_by-cons (bytes_before b) r rs, rest.0, rest.1, order, h.0),
    )

pub offsets_keep_order : OffsetsKeepOrder
unfolding mapped
offsets_keep_order ranges a b h order = omega (arith, (grows 0 (2 ^ 64 - 1) a b ranges h order).0, order)

-- inside a range each byte is deleted
inside : (low high a : ℕ) (rs : List (ℕ × ℕ)) (k : ℕ) (r : ℕ × ℕ) → RiseWithin low high rs → k < length rs → get_or rs k r ≡ r → r.0 ≤ a → a ≤ r.0 + r.1
    → (low ≤ r.0) × (sum_by (bytes_before a) rs ≡ sum_by (bytes_before r.0) rs + (a - r.0))
inside low high a [] k r h within at from to = absurd (omega (arith, within))
inside low high a (x ∷ rs) zero r h within at from to =
    let start = ap (λ (y : ℕ × ℕ). y.0) at in
    let len = ap (λ (y : ℕ × ℕ). y.1) at in (
      omega (arith, start, h.0),
      omega (
        arith,
        sum_by-cons (bytes_before a) x rs,
        sum_by-cons (bytes_before r.0) x rs,
        start,
        len,
        from,
        to,
        none_before (x.0 + x.1) high a rs h.2 (omega (arith, start, len, to)),
        none_before (x.0 + x.1) high r.0 rs h.2 (omega (arith, start)),
      ),
    )
inside low high a (x ∷ rs) (suc k) r h within at from to =
    let rest = inside (x.0 + x.1) high a rs k r h.2 (omega (arith, within)) at from to in
    (omega (arith, rest.0, h.0), omega (arith, sum_by-cons (bytes_before a) x rs, sum_by-cons (bytes_before r.0) x rs, rest.0, rest.1, from))

pub ranges_go_to_their_starts : RangesGoToTheirStarts
unfolding mapped
ranges_go_to_their_starts ranges r a h there from to =
    let both = inside 0 (2 ^ 64 - 1) a ranges there.0 r h there.1 there.2 from to in
    omega (arith, both.1, few_before 0 (2 ^ 64 - 1) r.0 ranges h, from)

pub offsets_only_fall : OffsetsOnlyFall
unfolding mapped
offsets_only_fall old more all a h =
    omega (arith, sum_by-IsPermutation (bytes_before a) (old ++ more) all h.moved, sum_by-append (bytes_before a) old more)
