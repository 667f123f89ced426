-- The pieces of terminated inputs have bytes, and are their data.
use Rattle.std.proofs.Common.{◌≡◌, ℕ, zero, suc, ◌+◌, ◌-◌, ◌≤◌, ◌<◌, Bool, true, false, ltb, ◌&&◌, List, [], ◌∷◌, ◌++◌, length, get_or, None, Some, refl, sym, ap, ◌∙◌, subst, arith, append-nil, length-append}
use Rattle.std.specs.List.{concat, list_all, slice_get}
use Rattle.std.proofs.lemmas.Bool.{true≢false, eqb-true, le-ltb, ltb-false}
use Rattle.std.proofs.lemmas.Option.{slice_get_within, get_or_from_slice_get}
use Rattle.lk_merge.specs.Image.{piece_at}
use Rattle.lk_merge.specs.Pieces.{Piece, MergeInput, IsString, cut, constant, pieces_of, is_terminated}
use Rattle.lk_merge.proofs.LocatedLemmas.{HaveBytes, HaveGoodPieces, piece_at_none, piece_at_step}
use Rattle.lk_merge.proofs.PieceLemmas.{concat-cut, each-cut}
use Rattle.lk_merge.proofs.Strings.{string_some}

cut_bytes : (bytes : List ℕ) → HaveBytes (cut bytes)
cut_bytes bytes k p h =
    let same : get_or (cut bytes) k p ≡ p = get_or_from_slice_get (cut bytes) k p p h in
    string_some p (subst IsString same (each-cut bytes k p (slice_get_within (cut bytes) k p h)))

constant_bytes : (bytes : List ℕ) → HaveBytes (constant bytes)
constant_bytes [] k p h = absurd (cc)
constant_bytes (b ∷ bs) zero p h = let same : b ∷ bs ≡ p = cc in subst (λ q. 0 < length q) same (omega arith)
constant_bytes (b ∷ bs) (suc k) p h = absurd (cc)

concat_constant : (bytes : List ℕ) → concat (constant bytes) ≡ bytes
concat_constant [] = refl
concat_constant (b ∷ bs) = append-nil (b ∷ bs)

bytes_by : (n : ℕ) (bytes : List ℕ) (strings : Bool) → HaveBytes (pieces_of (record { number = n; bytes = bytes; strings = strings }))
bytes_by n bytes true = cut_bytes bytes
bytes_by n bytes false = constant_bytes bytes

concat_by : (n : ℕ) (bytes : List ℕ) (strings : Bool) → let x : MergeInput = record { number = n; bytes = bytes; strings = strings } in
    is_terminated x ≡ true → concat (pieces_of x) ≡ bytes
concat_by n bytes true h = concat-cut bytes (eqb-true (get_or bytes (length bytes - 1) 0) 0 h)
concat_by n bytes false h = concat_constant bytes

pub have_bytes : (x : MergeInput) → HaveBytes (pieces_of x)
have_bytes x = bytes_by x.number x.bytes x.strings

-- the pieces of a terminated input are its data
pub concat_pieces : (x : MergeInput) → is_terminated x ≡ true → concat (pieces_of x) ≡ x.bytes
concat_pieces x h = concat_by x.number x.bytes x.strings h

pub terminated_at : (xs : List MergeInput) (k : ℕ) (x : MergeInput) → list_all is_terminated xs ≡ true → slice_get xs k ≡ Some x → is_terminated x ≡ true
terminated_at [] k x h there = absurd (cc)
terminated_at (y ∷ xs) k x h there = by (is_terminated y) refl k there (terminated_at xs)
  where
    by : (t : Bool) → is_terminated y ≡ t → (j : ℕ) → slice_get (y ∷ xs) j ≡ Some x
        → ((i : ℕ) (z : MergeInput) → list_all is_terminated xs ≡ true → slice_get xs i ≡ Some z → is_terminated z ≡ true) → is_terminated x ≡ true
    by false e j at rest = absurd (true≢false (sym h ∙ ap (λ b. b && list_all is_terminated xs) e))
    by true e zero at rest = let same : y ≡ x = cc in ap is_terminated (sym same) ∙ e
    by true e (suc j) at rest = rest j x (ap (λ b. b && list_all is_terminated xs) (sym e) ∙ h) at

pub good_pieces : (xs : List MergeInput) → list_all is_terminated xs ≡ true → HaveGoodPieces xs
good_pieces xs h k x there =
    let n : length (concat (pieces_of x)) ≡ length x.bytes = ap length (concat_pieces x (terminated_at xs k x h there)) in
    (have_bytes x, omega (arith, n))

-- an offset within pieces is in one of them, and one behind them in none
pub piece_at_some : (ps : List Piece) (offset : ℕ) → offset < length (concat ps) → (p : Piece) × (d : ℕ) × (piece_at ps offset ≡ Some (p, d))
piece_at_some [] offset h = absurd (omega arith)
piece_at_some (p ∷ ps) offset h = by (ltb offset (length p)) refl (piece_at_some ps (offset - length p))
  where
    by : (t : Bool) → ltb offset (length p) ≡ t → (offset - length p < length (concat ps) → (q : Piece) × (d : ℕ) × (piece_at ps (offset - length p) ≡ Some (q, d)))
        → (q : Piece) × (d : ℕ) × (piece_at (p ∷ ps) offset ≡ Some (q, d))
    by true e rest = (p, offset, piece_at_step p ps offset true e)
    by false e rest =
        let more : length (p ++ concat ps) ≡ length p + length (concat ps) = length-append p (concat ps) in
        let long : length p ≤ offset = ltb-false _ _ e in
        let r = rest (omega (arith, more, long)) in
        (r.0, r.1, piece_at_step p ps offset false e ∙ r.2)

pub piece_at_past : (ps : List Piece) (offset : ℕ) → length (concat ps) ≤ offset → piece_at ps offset ≡ None
piece_at_past [] offset h = piece_at_none offset
piece_at_past (p ∷ ps) offset h =
    let more : length (p ++ concat ps) ≡ length p + length (concat ps) = length-append p (concat ps) in
    piece_at_step p ps offset false (le-ltb offset (length p) (omega (arith, more))) ∙ piece_at_past ps (offset - length p) (omega (arith, more))
