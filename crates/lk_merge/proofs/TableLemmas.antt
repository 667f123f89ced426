-- The table of a bucket: each of its pieces with its place.
use Rattle.std.proofs.Common.{◌≡◌, ℕ, ◌+◌, Bool, true, false, cond, ◌||◌, List, [], ◌∷◌, ◌++◌, length, map, None, Some, refl, sym, ap, ◌∙◌, arith, length-append, append-nil}
use Rattle.std.specs.List.{concat}
use Rattle.std.specs.Map.{keys_of, lookup}
use Rattle.std.specs.Str.{bytes_eq}
use Rattle.std.proofs.lemmas.Bool.{true≢false}
use Rattle.lk_merge.specs.declared.string.MergeString.{MergeString}
use Rattle.lk_merge.specs.BucketTables.{placed_from}
use Rattle.lk_merge.specs.Buckets.{piece_of}
use Rattle.lk_merge.specs.Image.{is_among, place_in}
use Rattle.lk_merge.specs.Pieces.{Piece}
use Rattle.lk_merge.proofs.AmongLemmas.{concat-append, place_step, place_none}

-- whether a stored string is equal to some piece
abbrev pub is_key : Piece → MergeString → Bool
is_key p s = bytes_eq p s.bytes.now

pub keys-placed_from : (at : ℕ) (ss : List MergeString) → keys_of (placed_from at ss) ≡ ss
keys-placed_from at [] = refl
keys-placed_from at (s ∷ ss) = ap (λ l. s ∷ l) (keys-placed_from (at + length s.bytes.now) ss)

-- a piece that the table has is found at its place
pub lookup_there : (at : ℕ) (ss : List MergeString) (p : Piece) → is_among (map piece_of ss) p ≡ true
    → lookup (is_key p) (placed_from at ss) ≡ Some (at + place_in (map piece_of ss) p)
lookup_there at [] p h = absurd (true≢false (sym h))
lookup_there at (s ∷ ss) p h = by (lookup_there (at + length s.bytes.now) ss p) (bytes_eq p s.bytes.now) refl
  where
    by : (is_among (map piece_of ss) p ≡ true
        → lookup (is_key p) (placed_from (at + length s.bytes.now) ss) ≡ Some ((at + length s.bytes.now) + place_in (map piece_of ss) p))
        → (t : Bool) → bytes_eq p s.bytes.now ≡ t → lookup (is_key p) (placed_from at (s ∷ ss)) ≡ Some (at + place_in (map piece_of (s ∷ ss)) p)
    by rest true e =
        let n : at ≡ at + place_in (map piece_of (s ∷ ss)) p = omega (arith, place_step s.bytes.now (map piece_of ss) p true e) in
        ap (λ b. cond b (Some at) (lookup (is_key p) (placed_from (at + length s.bytes.now) ss))) e ∙ ap Some n
    by rest false e =
        let there : is_among (map piece_of ss) p ≡ true = ap (λ b. b || is_among (map piece_of ss) p) (sym e) ∙ h in
        let n : (at + length s.bytes.now) + place_in (map piece_of ss) p ≡ at + place_in (map piece_of (s ∷ ss)) p
        = omega (arith, place_step s.bytes.now (map piece_of ss) p false e) in
        ap (λ b. cond b (Some at) (lookup (is_key p) (placed_from (at + length s.bytes.now) ss))) e ∙ rest there ∙ ap Some n

-- and one that it hasn't isn't
pub lookup_absent : (at : ℕ) (ss : List MergeString) (p : Piece) → is_among (map piece_of ss) p ≡ false → lookup (is_key p) (placed_from at ss) ≡ None
lookup_absent at [] p h = refl
lookup_absent at (s ∷ ss) p h = by (lookup_absent (at + length s.bytes.now) ss p) (bytes_eq p s.bytes.now) refl
  where
    by : (is_among (map piece_of ss) p ≡ false → lookup (is_key p) (placed_from (at + length s.bytes.now) ss) ≡ None)
        → (t : Bool) → bytes_eq p s.bytes.now ≡ t → lookup (is_key p) (placed_from at (s ∷ ss)) ≡ None
    by rest true e = absurd (true≢false (ap (λ b. b || is_among (map piece_of ss) p) (sym e) ∙ h))
    by rest false e =
        let there : is_among (map piece_of ss) p ≡ false = ap (λ b. b || is_among (map piece_of ss) p) (sym e) ∙ h in
        ap (λ b. cond b (Some at) (lookup (is_key p) (placed_from (at + length s.bytes.now) ss))) e ∙ rest there

-- one more string goes where the others end
pub placed-push : (at : ℕ) (ss : List MergeString) (s : MergeString)
    → placed_from at (ss ++ s ∷ []) ≡ placed_from at ss ++ (s, at + length (concat (map piece_of ss))) ∷ []
placed-push at [] s = let n : at ≡ at + 0 = omega arith in ap (λ k. (s, k) ∷ []) n
placed-push at (r ∷ ss) s =
    let more : length (r.bytes.now ++ concat (map piece_of ss)) ≡ length r.bytes.now + length (concat (map piece_of ss))
    = length-append r.bytes.now (concat (map piece_of ss)) in
    let n : (at + length r.bytes.now) + length (concat (map piece_of ss)) ≡ at + length (concat (map piece_of (r ∷ ss))) = omega (arith, more) in
    ap (λ l. (r, at) ∷ l) (placed-push (at + length r.bytes.now) ss s ∙ ap (λ k. placed_from (at + length r.bytes.now) ss ++ (s, k) ∷ []) n)

pub concat-push : (ps : List Piece) (p : Piece) → length (concat (ps ++ p ∷ [])) ≡ length (concat ps) + length p
concat-push ps p =
    let one : length (p ++ []) ≡ length p = ap length (append-nil p) in
    ap length (concat-append ps (p ∷ [])) ∙ length-append (concat ps) (p ++ []) ∙ omega (arith, one)

-- a piece that isn't there has its place behind all
pub place_behind : (ps : List Piece) (p : Piece) → is_among ps p ≡ false → place_in ps p ≡ length (concat ps)
place_behind [] p h = place_none p
place_behind (q ∷ ps) p h = by (place_behind ps p) (bytes_eq p q) refl
  where
    by : (is_among ps p ≡ false → place_in ps p ≡ length (concat ps)) → (t : Bool) → bytes_eq p q ≡ t → place_in (q ∷ ps) p ≡ length (concat (q ∷ ps))
    by rest true e = absurd (true≢false (ap (λ b. b || is_among ps p) (sym e) ∙ h))
    by rest false e =
        let there : is_among ps p ≡ false = ap (λ b. b || is_among ps p) (sym e) ∙ h in
        let more : length (q ++ concat ps) ≡ length q + length (concat ps) = length-append q (concat ps) in
        place_step q ps p false e ∙ omega (arith, rest there, more)
