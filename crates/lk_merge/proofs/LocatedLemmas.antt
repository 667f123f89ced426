-- Where the pieces of inputs start, and which of them an offset is in.
use Rattle.std.proofs.Common.{◌≡◌, ℕ, zero, suc, ◌+◌, ◌-◌, ◌≤◌, ◌<◌, Bool, true, false, cond, ltb, List, [], ◌∷◌, ◌++◌, length, take, None, Some, refl, sym, ap, ◌∙◌, subst, arith, inl, inr, append_assoc, length-append}
use Rattle.std.specs.List.{concat, slice_get}
use Rattle.std.proofs.lemmas.Bool.{ltb-true, ltb-false}
use Rattle.std.proofs.lemmas.List.Sums.{sum_by-cons}
use Rattle.lk_link.proofs.Elements.{append_at, append_left, append_right}
use Rattle.lk_merge.specs.Image.{piece_at}
use Rattle.lk_merge.specs.Inputs.{Located, located_in, located_from, padded_len, padded_total}
use Rattle.lk_merge.specs.Pieces.{Piece, MergeInput, pieces_of}
use Rattle.lk_merge.proofs.InputLemmas.{located_in_none, located_in_step}

-- ---- inputs behind others

pub located_from_append : (k at n : ℕ) (xs ys : List MergeInput) → n ≡ k + length xs
    → located_from k at (xs ++ ys) ≡ located_from k at xs ++ located_from n (at + padded_total xs) ys
unfolding located_from
located_from_append k at n [] ys e =
    let same : k ≡ n = omega (arith, e) in
    let here : at ≡ at + 0 = omega arith in
    λ i. located_from (same i) (here i) ys
located_from_append k at n (x ∷ xs) ys e =
    let more = sum_by-cons padded_len x xs in
    let here : (at + padded_len x) + padded_total xs ≡ at + padded_total (x ∷ xs) = omega (arith, more) in
    ap (λ l. located_in k at (pieces_of x) ++ l) (located_from_append (k + 1) (at + padded_len x) n xs ys (omega (arith, e)))
    ∙ sym (append_assoc (located_in k at (pieces_of x)) (located_from (k + 1) (at + padded_len x) xs) (located_from n ((at + padded_len x) + padded_total xs) ys))
    ∙ ap (λ a. (located_in k at (pieces_of x) ++ located_from (k + 1) (at + padded_len x) xs) ++ located_from n a ys) here

pub located_from_cons : (k at : ℕ) (x : MergeInput) (xs : List MergeInput)
    → located_from k at (x ∷ xs) ≡ located_in k at (pieces_of x) ++ located_from (k + 1) (at + padded_len x) xs
unfolding located_from
located_from_cons k at x xs = refl

-- ---- bounds

-- pieces that have bytes
abbrev pub HaveBytes : List Piece → Type 0
HaveBytes ps = (k : ℕ) (p : Piece) → slice_get ps k ≡ Some p → 0 < length p

-- a located piece has bytes, and stands between two offsets
pub record IsBetween (low high : ℕ) (l : Located) : Type 0 where
  pub some : 0 < length l.piece
  pub from : low ≤ l.start
  pub to : l.start + length l.piece ≤ high

pub between_in : (k at : ℕ) (ps : List Piece) (j : ℕ) (l : Located) → HaveBytes ps → slice_get (located_in k at ps) j ≡ Some l
    → IsBetween at (at + length (concat ps)) l
between_in k at [] j l h there = absurd (let none : None ≡ Some l = ap (λ ls. slice_get ls j) (sym (located_in_none k at)) ∙ there in cc)
between_in k at (p ∷ ps) zero l h there =
    let same : record { input = k; start = at; piece = p } ≡ l = some_same _ _ (ap (λ ls. slice_get ls 0) (sym (located_in_step k at p ps)) ∙ there) in
    let more : length (p ++ concat ps) ≡ length p + length (concat ps) = length-append p (concat ps) in
    subst (IsBetween at (at + length (p ++ concat ps))) same (record { some = h 0 p refl; from = omega arith; to = omega (arith, more) })
  where
    some_same : (a b : Located) → Some a ≡ Some b → a ≡ b
    some_same a b e = cc
between_in k at (p ∷ ps) (suc j) l h there =
    let rest = between_in k (at + length p) ps j l (λ i q e. h (suc i) q e) (ap (λ ls. slice_get ls (suc j)) (sym (located_in_step k at p ps)) ∙ there) in
    let more : length (p ++ concat ps) ≡ length p + length (concat ps) = length-append p (concat ps) in
    record { some = rest.some; from = omega (arith, rest.from); to = omega (arith, rest.to, more) }

-- inputs whose pieces have bytes and are no longer than the data
abbrev pub HaveGoodPieces : List MergeInput → Type 0
HaveGoodPieces xs = (k : ℕ) (x : MergeInput) → slice_get xs k ≡ Some x → HaveBytes (pieces_of x) × (length (concat (pieces_of x)) ≤ length x.bytes)

pub between_from : (k at : ℕ) (xs : List MergeInput) (j : ℕ) (l : Located) → HaveGoodPieces xs → slice_get (located_from k at xs) j ≡ Some l
    → IsBetween at (at + padded_total xs) l
unfolding located_from
between_from k at [] j l h there = absurd (cc)
between_from k at (x ∷ xs) j l h there =
    let more = sum_by-cons padded_len x xs in
    let good = h 0 x refl in
    elim (append_at (located_in k at (pieces_of x)) (located_from (k + 1) (at + padded_len x) xs) j l there) [
      | inl a ↦
          let b = between_in k at (pieces_of x) j l good.0 a in
          record { some = b.some; from = b.from; to = omega (arith, b.to, good.1, more) }
      | inr a ↦
          let b = between_from (k + 1) (at + padded_len x) xs a.0 l (λ i y e. h (suc i) y e) a.2 in
          record { some = b.some; from = omega (arith, b.from); to = omega (arith, b.to, more) }
    ]

-- ---- starts rise

abbrev pub Rise : List Located → Type 0
Rise ls = (i j : ℕ) (l m : Located) → i < j → slice_get ls i ≡ Some l → slice_get ls j ≡ Some m → l.start + length l.piece ≤ m.start

pub slice_within : {X : Type 0} (zs : List X) (n : ℕ) (z : X) → slice_get zs n ≡ Some z → n < length zs
slice_within [] n z e = absurd (cc)
slice_within (y ∷ zs) zero z e = omega arith
slice_within (y ∷ zs) (suc n) z e = let r = slice_within zs n z e in omega (arith, r)

rise_append : (xs ys : List Located) (middle : ℕ) → Rise xs → Rise ys → ((i : ℕ) (l : Located) → slice_get xs i ≡ Some l → l.start + length l.piece ≤ middle)
    → ((i : ℕ) (l : Located) → slice_get ys i ≡ Some l → middle ≤ l.start) → Rise (xs ++ ys)
rise_append xs ys middle rx ry low high i j l m below l_at m_at =
    elim (append_at xs ys i l l_at) [
      | inl a ↦ elim (append_at xs ys j m m_at) [
        | inl b ↦ rx i j l m below a b
        | inr b ↦ omega (arith, low i l a, high b.0 m b.2)
      ]
      | inr a ↦ elim (append_at xs ys j m m_at) [
        | inl b ↦ absurd (omega (arith, a.1, below, slice_within xs j m b))
        | inr b ↦ ry a.0 b.0 l m (omega (arith, a.1, b.1, below)) a.2 b.2
      ]
    ]

rise_in : (k at : ℕ) (ps : List Piece) → HaveBytes ps → Rise (located_in k at ps)
rise_in k at [] h = subst Rise (sym (located_in_none k at)) (λ i j l m below l_at m_at. absurd (cc))
rise_in k at (p ∷ ps) h =
    subst Rise (sym (located_in_step k at p ps))
    (rise_append (record { input = k; start = at; piece = p } ∷ []) (located_in k (at + length p) ps) (at + length p) one
    (rise_in k (at + length p) ps (λ i q e. h (suc i) q e)) low
    (λ i l e. (between_in k (at + length p) ps i l (λ n q f. h (suc n) q f) e).from))
  where
    one : Rise (record { input = k; start = at; piece = p } ∷ [])
    one i zero l m below l_at m_at = absurd (omega (arith, below))
    one i (suc j) l m below l_at m_at = absurd (cc)

    low : (i : ℕ) (l : Located) → slice_get (record { input = k; start = at; piece = p } ∷ []) i ≡ Some l → l.start + length l.piece ≤ at + length p
    low zero l e =
        let only : Located = record { input = k; start = at; piece = p } in
        let same : only ≡ l = cc in
        subst (λ (x : Located). x.start + length x.piece ≤ at + length p) same (omega arith)
    low (suc i) l e = absurd (cc)

pub rise_from : (k at : ℕ) (xs : List MergeInput) → HaveGoodPieces xs → Rise (located_from k at xs)
unfolding located_from
rise_from k at [] h = λ i j l m below l_at m_at. absurd (cc)
rise_from k at (x ∷ xs) h =
    let good = h 0 x refl in
    rise_append (located_in k at (pieces_of x)) (located_from (k + 1) (at + padded_len x) xs) (at + padded_len x) (rise_in k at (pieces_of x) good.0)
    (rise_from (k + 1) (at + padded_len x) xs (λ i y e. h (suc i) y e))
    (λ i l e. let b = between_in k at (pieces_of x) i l good.0 e in omega (arith, b.to, good.1))
    (λ i l e. (between_from (k + 1) (at + padded_len x) xs i l (λ n y f. h (suc n) y f) e).from)

-- ---- the piece that an offset is in

-- which of some pieces an offset is in: the piece starts at or before it, and all later ones behind it
pub record Covers (ls : List Located) (at : ℕ) (l : Located) : Type 0 where
  pub index : ℕ
  pub there : slice_get ls index ≡ Some l
  pub from : l.start ≤ at
  pub later : (j : ℕ) (m : Located) → index < j → slice_get ls j ≡ Some m → at < m.start

pub piece_at_none : (offset : ℕ) → piece_at [] offset ≡ None
unfolding piece_at
piece_at_none offset = refl

pub piece_at_step : (p : Piece) (ps : List Piece) (offset : ℕ) (t : Bool) → ltb offset (length p) ≡ t
    → piece_at (p ∷ ps) offset ≡ cond t (Some (p, offset)) (piece_at ps (offset - length p))
unfolding piece_at
piece_at_step p ps offset t h = ap (λ b. cond b (Some (p, offset)) (piece_at ps (offset - length p))) h

some_pair : (a b : Piece × ℕ) → Some a ≡ Some b → a ≡ b
some_pair a b e = cc

pub covers_in : (k at : ℕ) (ps : List Piece) (offset : ℕ) (p : Piece) (d : ℕ) → HaveBytes ps → piece_at ps offset ≡ Some (p, d)
    → (d ≤ offset) × (d < length p) × Covers (located_in k at ps) (at + offset) (record { input = k; start = at + (offset - d); piece = p })
covers_in k at [] offset p d h there = absurd (let none : None ≡ Some (p, d) = sym (piece_at_none offset) ∙ there in cc)
covers_in k at (q ∷ ps) offset p d h there = by (ltb offset (length q)) refl (covers_in k (at + length q) ps (offset - length q) p d (λ i r e. h (suc i) r e))
  where
    step : located_in k at (q ∷ ps) ≡ record { input = k; start = at; piece = q } ∷ located_in k (at + length q) ps
    step = located_in_step k at q ps

    by : (t : Bool) → ltb offset (length q) ≡ t
        → (piece_at ps (offset - length q) ≡ Some (p, d) → (d ≤ offset - length q) × (d < length p)
        × Covers (located_in k (at + length q) ps) ((at + length q) + (offset - length q)) (record { input = k; start = (at + length q) + ((offset - length q) - d); piece = p }))
        → (d ≤ offset) × (d < length p) × Covers (located_in k at (q ∷ ps)) (at + offset) (record { input = k; start = at + (offset - d); piece = p })
    by true e rest =
        let pair = some_pair (q, offset) (p, d) (sym (piece_at_step q ps offset true e) ∙ there) in
        let piece : q ≡ p = ap (λ (z : Piece × ℕ). z.0) pair in
        let far : offset ≡ d = ap (λ (z : Piece × ℕ). z.1) pair in
        let short : offset < length q = ltb-true _ _ e in
        let same : length q ≡ length p = ap length piece in
        let start : at ≡ at + (offset - d) = omega (arith, far) in (
          omega (arith, far),
          omega (arith, far, short, same),
          record {
            index = 0;
            there = ap (λ ls. slice_get ls 0) step ∙ (λ i. Some (record { input = k; start = start i; piece = piece i }));
            from = omega (arith, far);
            later = λ j m below m_at. at_later j m below (ap (λ ls. slice_get ls j) (sym step) ∙ m_at) short;
          },
        )
      where
        at_later : (j : ℕ) (m : Located) → 0 < j → slice_get (record { input = k; start = at; piece = q } ∷ located_in k (at + length q) ps) j ≡ Some m → offset < length q → at + offset < m.start
        at_later zero m below m_at short = absurd (omega (arith, below))
        at_later (suc j) m below m_at short = let b = between_in k (at + length q) ps j m (λ n r f. h (suc n) r f) m_at in omega (arith, b.from, short)
    by false e rest =
        let long : length q ≤ offset = ltb-false _ _ e in
        let r = rest (sym (piece_at_step q ps offset false e) ∙ there) in
        let c = r.2 in
        let at_is : (at + length q) + (offset - length q) ≡ at + offset = omega (arith, long) in
        let start_is : (at + length q) + ((offset - length q) - d) ≡ at + (offset - d) = omega (arith, long, r.0) in (
          omega (arith, r.0),
          r.1,
          record {
            index = suc c.index;
            there = ap (λ ls. slice_get ls (suc c.index)) step ∙ c.there ∙ (λ i. Some (record { input = k; start = start_is i; piece = p }));
            from = omega arith;
            later = λ j m below m_at. at_later j m c.index below (ap (λ ls. slice_get ls j) (sym step) ∙ m_at) c.later at_is;
          },
        )
      where
        at_later : (j : ℕ) (m : Located) → (n : ℕ) → suc n < j → slice_get (record { input = k; start = at; piece = q } ∷ located_in k (at + length q) ps) j ≡ Some m
            → ((i : ℕ) (o : Located) → n < i → slice_get (located_in k (at + length q) ps) i ≡ Some o → (at + length q) + (offset - length q) < o.start)
            → (at + length q) + (offset - length q) ≡ at + offset → at + offset < m.start
        at_later zero m n below m_at later is = absurd (omega (arith, below))
        at_later (suc j) m n below m_at later is = let r = later j m (omega (arith, below)) m_at in omega (arith, r, is)

-- ---- among all inputs

pub at_split : {X : Type 0} (xs : List X) (k : ℕ) (x : X) → slice_get xs k ≡ Some x → (rest : List X) × (xs ≡ take k xs ++ x ∷ rest) × (length (take k xs) ≡ k)
at_split [] k x h = absurd (cc)
at_split (y ∷ xs) zero x h = let same : y ≡ x = cc in (xs, ap (λ z. z ∷ xs) same, refl)
at_split (y ∷ xs) (suc k) x h = let r = at_split xs k x h in (r.0, ap (λ zs. y ∷ zs) r.1, ap (λ n. suc n) r.2)

-- an offset of an input is in its piece, among those of all
pub covers_all : (xs : List MergeInput) (k : ℕ) (x : MergeInput) (offset : ℕ) (p : Piece) (d : ℕ) → slice_get xs k ≡ Some x → HaveGoodPieces xs
    → piece_at (pieces_of x) offset ≡ Some (p, d) → offset < padded_len x
    → (d ≤ offset) × (d < length p) × Covers (located_from 0 0 xs) (padded_total (take k xs) + offset) (record { input = k; start = padded_total (take k xs) + (offset - d); piece = p })
covers_all xs k x offset p d there good found short =
    let split = at_split xs k x there in
    let front : List MergeInput = take k xs in
    let start : ℕ = padded_total front in
    let own = covers_in k start (pieces_of x) offset p d (good k x there).0 found in
    let c = own.2 in
    let tail : List Located = located_from (k + 1) (start + padded_len x) split.0 in
    let whole : located_from 0 0 xs ≡ located_from 0 0 front ++ (located_in k start (pieces_of x) ++ tail)
    = ap (located_from 0 0) split.1 ∙ located_from_append 0 0 k front (x ∷ split.0) (omega (arith, split.2))
    ∙ ap (λ a. located_from 0 0 front ++ located_from k a (x ∷ split.0)) (omega arith)
    ∙ ap (λ l. located_from 0 0 front ++ l) (located_from_cons k start x split.0) in
    let n : ℕ = length (located_from 0 0 front) in
    let good_tail : HaveGoodPieces split.0 = λ i y e. good (k + 1 + i) y (ap (λ l. slice_get l (k + 1 + i)) split.1
    ∙ append_right front (x ∷ split.0) (suc i) (k + 1 + i) y (omega (arith, split.2)) e) in (
      own.0,
      own.1,
      record {
        index = n + c.index;
        there = ap (λ l. slice_get l (n + c.index)) whole
            ∙ append_right (located_from 0 0 front) (located_in k start (pieces_of x) ++ tail) c.index (n + c.index) _ refl
            (append_left (located_in k start (pieces_of x)) tail c.index _ c.there);
        from = c.from;
        later = λ j m below m_at.
            elim (append_at (located_from 0 0 front) (located_in k start (pieces_of x) ++ tail) j m (ap (λ l. slice_get l j) (sym whole) ∙ m_at)) [
              | inl a ↦ absurd (omega (arith, below, slice_within (located_from 0 0 front) j m a))
              | inr a ↦ elim (append_at (located_in k start (pieces_of x)) tail a.0 m a.2) [
                | inl b ↦ c.later a.0 m (omega (arith, below, a.1)) b
                | inr b ↦ let e = between_from (k + 1) (start + padded_len x) split.0 b.0 m good_tail b.2 in omega (arith, e.from, short)
              ]
            ];
      },
    )
