-- Which pieces stand in their places, and which input is the last one at a start.
use Rattle.std.proofs.Common.{◌≡◌, ℕ, zero, suc, ◌+◌, List, [], ◌∷◌, ◌++◌, length, take, Option, None, Some, refl, sym, ap, ◌∙◌, subst, arith, inl, inr, ⊎_elim, length-append}
use Rattle.std.specs.List.{Contains, concat, slice_get}
use Rattle.std.proofs.lemmas.Bool.{cases_lt}
use Rattle.std.proofs.lemmas.List.Sums.{sum_by-cons}
use Rattle.lk_link.proofs.Elements.{append_at, append_left, append_right, at_contained, contains_at}
use Rattle.lk_merge.specs.Inputs.{IsLocated, Located, PiecesAreLocated, located, located_from, located_in, padded_len, padded_total}
use Rattle.lk_merge.specs.Merging.{IsLastStart, LastStartIsFound, last_from}
use Rattle.lk_merge.specs.Pieces.{Piece, MergeInput, pieces_of}
use Rattle.lk_merge.proofs.Finding.{last_found}
use Rattle.lk_merge.proofs.InputLemmas.{pieces_located_from}

-- ---- pieces of one input

-- a located piece is the one with an index, behind those before it
record IsLocatedIn (k at : ℕ) (ps : List Piece) (j : ℕ) (l : Located) : Type 0 where
  number : l.input ≡ k
  piece : slice_get ps j ≡ Some l.piece
  start : l.start ≡ at + length (concat (take j ps))

in_where : (k at : ℕ) (ps : List Piece) (j : ℕ) (l : Located) → slice_get (located_in k at ps) j ≡ Some l → IsLocatedIn k at ps j l
unfolding located_in
in_where k at [] j l h = absurd (cc)
in_where k at (p ∷ ps) zero l h =
    let first : Located = record { input = k; start = at; piece = p } in
    let same : first ≡ l = cc in
    subst (IsLocatedIn k at (p ∷ ps) 0) same (record { number = refl; piece = refl; start = omega arith })
in_where k at (p ∷ ps) (suc j) l h =
    let r = in_where k (at + length p) ps j l h in
    let more : length (p ++ concat (take j ps)) ≡ length p + length (concat (take j ps)) = length-append p (concat (take j ps)) in
    record { number = r.number; piece = r.piece; start = omega (arith, r.start, more) }

in_there : (k at : ℕ) (ps : List Piece) (j : ℕ) (p : Piece) → slice_get ps j ≡ Some p
    → slice_get (located_in k at ps) j ≡ Some (record { input = k; start = at + length (concat (take j ps)); piece = p })
unfolding located_in
in_there k at [] j p h = absurd (cc)
in_there k at (q ∷ ps) zero p h =
    let same : q ≡ p = cc in
    let start : at ≡ at + 0 = omega arith in
    λ i. Some (record { input = k; start = start i; piece = same i })
in_there k at (q ∷ ps) (suc j) p h =
    let more : length (q ++ concat (take j ps)) ≡ length q + length (concat (take j ps)) = length-append q (concat (take j ps)) in
    let start : (at + length q) + length (concat (take j ps)) ≡ at + length (q ++ concat (take j ps)) = omega (arith, more) in
    in_there k (at + length q) ps j p h ∙ ap (λ n. Some (record { input = k; start = n; piece = p })) start

-- ---- pieces of some inputs

-- a located piece is one of the input with an index
record IsLocatedFrom (k at : ℕ) (xs : List MergeInput) (l : Located) : Type 0 where
  index : ℕ
  input : MergeInput
  there : slice_get xs index ≡ Some input
  inside : ℕ
  located : IsLocatedIn (k + index) (at + padded_total (take index xs)) (pieces_of input) inside l

from_where : (k at : ℕ) (xs : List MergeInput) (j : ℕ) (l : Located) → slice_get (located_from k at xs) j ≡ Some l → IsLocatedFrom k at xs l
unfolding located_from
from_where k at [] j l h = absurd (cc)
from_where k at (x ∷ xs) j l h = elim (append_at (located_in k at (pieces_of x)) (located_from (k + 1) (at + padded_len x) xs) j l h) [
  | inl own ↦
      let r = in_where k at (pieces_of x) j l own in
      record { index = 0; input = x; there = refl; inside = j; located = record { number = omega (arith, r.number); piece = r.piece; start = omega (arith, r.start) } }
  | inr rest ↦
      let r = from_where (k + 1) (at + padded_len x) xs rest.0 l rest.2 in
      let more = sum_by-cons padded_len x (take r.index xs) in
      record {
        index = suc r.index;
        input = r.input;
        there = r.there;
        inside = r.inside;
        located = record { number = omega (arith, r.located.number); piece = r.located.piece; start = omega (arith, r.located.start, more) };
      }
]

from_there : (k at : ℕ) (xs : List MergeInput) (i : ℕ) (x : MergeInput) (m : ℕ) (p : Piece) → slice_get xs i ≡ Some x → slice_get (pieces_of x) m ≡ Some p
    → (j : ℕ) × (slice_get (located_from k at xs) j ≡ Some (record { input = k + i; start = (at + padded_total (take i xs)) + length (concat (take m (pieces_of x))); piece = p }))
unfolding located_from
from_there k at [] i x m p h e = absurd (cc)
from_there k at (y ∷ xs) zero x m p h e =
    let same : y ≡ x = cc in
    let own : slice_get (pieces_of y) m ≡ Some p = ap (λ z. slice_get (pieces_of z) m) same ∙ e in
    let taken : length (concat (take m (pieces_of y))) ≡ length (concat (take m (pieces_of x))) = ap (λ z. length (concat (take m (pieces_of z)))) same in
    let number : k ≡ k + 0 = omega arith in
    let start : at + length (concat (take m (pieces_of y))) ≡ (at + 0) + length (concat (take m (pieces_of x))) = omega (arith, taken) in
    let here = append_left (located_in k at (pieces_of y)) (located_from (k + 1) (at + padded_len y) xs) m _ (in_there k at (pieces_of y) m p own) in
    (m, here ∙ (λ i. Some (record { input = number i; start = start i; piece = p })))
from_there k at (y ∷ xs) (suc i) x m p h e =
    let r = from_there (k + 1) (at + padded_len y) xs i x m p h e in
    let more = sum_by-cons padded_len y (take i xs) in
    let number : (k + 1) + i ≡ k + suc i = omega arith in
    let start : ((at + padded_len y) + padded_total (take i xs)) + length (concat (take m (pieces_of x))) ≡ (at + padded_total (y ∷ take i xs)) + length (concat (take m (pieces_of x)))
    = omega (arith, more) in
    let own : List Located = located_in k at (pieces_of y) in
    let there = append_right own (located_from (k + 1) (at + padded_len y) xs) r.0 (length own + r.0) _ refl r.1 in
    (length own + r.0, there ∙ (λ i. Some (record { input = number i; start = start i; piece = p })))

is_located : (inputs : List MergeInput) (l : Located) → IsLocatedFrom 0 0 inputs l → IsLocated inputs l
is_located inputs l h =
    let number : h.index ≡ l.input = omega (arith, h.located.number) in
    let total : padded_total (take h.index inputs) ≡ padded_total (take l.input inputs) = ap (λ n. padded_total (take n inputs)) number in
    record {
      input = h.input;
      there = ap (slice_get inputs) (sym number) ∙ h.there;
      index = h.inside;
      at = h.located.piece;
      start = omega (arith, h.located.start, total);
    }

among_located : (inputs : List MergeInput) (l : Located) → IsLocated inputs l → Contains (located inputs) l
among_located inputs l h =
    let r = from_there 0 0 inputs l.input h.input h.index l.piece h.there h.at in
    let number : 0 + l.input ≡ l.input = omega arith in
    let start : (0 + padded_total (take l.input inputs)) + length (concat (take h.index (pieces_of h.input))) ≡ l.start = omega (arith, h.start) in
    contains_at (located inputs) r.0 l (r.1 ∙ (λ i. Some (record { input = number i; start = start i; piece = l.piece })))

pub pieces_are_located : PiecesAreLocated
pieces_are_located = record {
  pieces = pieces_located_from 0 0;
  each = λ inputs l. (λ among. let at = at_contained (located inputs) l among in is_located inputs l (from_where 0 0 inputs at.0 l at.1), among_located inputs l);
}

-- ---- the last input at a start

same_input : (o : Option MergeInput) (x y : MergeInput) → o ≡ Some x → o ≡ Some y → x ≡ y
same_input o x y h k = cc

is_last : (inputs : List MergeInput) (start : ℕ) (x : MergeInput) → last_from 0 inputs start ≡ Some x → IsLastStart inputs start x
is_last inputs start x h = elim (last_found 0 inputs start) [
  | inl n ↦ absurd (let both : None ≡ Some x = sym n.none ∙ h in cc)
  | inr o ↦
      record {
        index = o.index;
        there = o.there ∙ sym o.found ∙ h;
        starts = omega (arith, o.starts);
        last = λ j y behind at same. o.apart j y behind at (omega (arith, same));
      }
]

last_is : (inputs : List MergeInput) (start : ℕ) (x : MergeInput) → IsLastStart inputs start x → last_from 0 inputs start ≡ Some x
last_is inputs start x h = elim (last_found 0 inputs start) [
  | inl n ↦ absurd (n.apart h.index x h.there (omega (arith, h.starts)))
  | inr o ↦
      o.found ∙ ap (λ (z : MergeInput). Some z) (⊎_elim
      (λ before. absurd (o.apart h.index x before h.there (omega (arith, h.starts))))
      (λ behind. ⊎_elim
      (λ after. absurd (h.last o.index o.input after o.there (omega (arith, o.starts))))
      (λ back.
      let same : o.index ≡ h.index = omega (arith, behind, back) in
      same_input (slice_get inputs h.index) o.input x (ap (slice_get inputs) (sym same) ∙ o.there) h.there) (cases_lt h.index o.index)) (cases_lt o.index h.index))
]

pub last_start_is_found : LastStartIsFound
last_start_is_found inputs start x = (is_last inputs start x, last_is inputs start x)
