-- The strings of some data from an offset on.
use Rattle.std.proofs.Common.{◌≡◌, ℕ, zero, suc, ◌+◌, ◌≤◌, ◌<◌, Bool, true, false, cond, ◌&&◌, leb, ltb, List, [], ◌∷◌, ◌++◌, length, take, drop, None, Some, ◌-◌, refl, sym, ap, ◌∙◌, arith, inl, inr}
use Rattle.std.specs.List.{Contains}
use Rattle.std.proofs.Math.Seq.{drop-length, drop-nil}
use Rattle.std.proofs.lemmas.Bool.{cases_eq, le-leb, le-ltb, lt-leb, lt-ltb}
use Rattle.std.proofs.lemmas.List.{take-append-drop, length-take-le}
use Rattle.memchr.specs.Find.{IsFirstByte, is_byte}
use Rattle.lk_merge.specs.Between.{between, from_on, until}
use Rattle.lk_merge.specs.Inputs.{Located, located_in}
use Rattle.lk_merge.specs.Pieces.{IsString, Piece, cut, lengthen}
use Rattle.lk_merge.proofs.PieceLemmas.{cut-string, cut_none, cut_other, cut_zero}
use Rattle.lk_merge.proofs.Strings.{cut_no_zero, string_some}
use Rattle.lk_merge.proofs.ZeroBytes.{none_found, string_found, within_found}

-- ---- pieces by where they start

abbrev at_start : ℕ → ℕ → Piece → Located
at_start k at p = record { input = k; start = at; piece = p }

from_drop : (b : ℕ) (l : Located) (ls : List Located) → l.start < b → from_on b (l ∷ ls) ≡ from_on b ls
from_drop b l ls h = ap (λ c. cond c (l ∷ from_on b ls) (from_on b ls)) (lt-leb b l.start h)

from_keep : (b : ℕ) (l : Located) (ls : List Located) → b ≤ l.start → from_on b (l ∷ ls) ≡ l ∷ from_on b ls
from_keep b l ls h = ap (λ c. cond c (l ∷ from_on b ls) (from_on b ls)) (le-leb b l.start h)

until_drop : (e : ℕ) (l : Located) (ls : List Located) → e ≤ l.start → until e (l ∷ ls) ≡ until e ls
until_drop e l ls h = ap (λ c. cond c (l ∷ until e ls) (until e ls)) (le-ltb l.start e h)

until_keep : (e : ℕ) (l : Located) (ls : List Located) → l.start < e → until e (l ∷ ls) ≡ l ∷ until e ls
until_keep e l ls h = ap (λ c. cond c (l ∷ until e ls) (until e ls)) (lt-ltb l.start e h)

pub between_is : (a b : ℕ) (ls : List Located) → between a b ls ≡ until b (from_on a ls)
between_is a b [] = refl
between_is a b (l ∷ ls) = by (leb a l.start) (between_is a b ls)
  where
    by : (t : Bool) → between a b ls ≡ until b (from_on a ls)
        → cond (t && ltb l.start b) (l ∷ between a b ls) (between a b ls) ≡ until b (cond t (l ∷ from_on a ls) (from_on a ls))
    by true rest = λ i. cond (ltb l.start b) (l ∷ rest i) (rest i)
    by false rest = rest

pub until_none : (e k at : ℕ) (ps : List Piece) → e ≤ at → until e (located_in k at ps) ≡ []
unfolding located_in
until_none e k at [] h = refl
until_none e k at (p ∷ ps) h = until_drop e (at_start k at p) (located_in k (at + length p) ps) h ∙ until_none e k (at + length p) ps (omega (arith, h))

pub until_next : (e k at : ℕ) (p : Piece) (ps : List Piece) → at < e
    → until e (located_in k at (p ∷ ps)) ≡ record { input = k; start = at; piece = p } ∷ until e (located_in k (at + length p) ps)
unfolding located_in
until_next e k at p ps h = until_keep e (at_start k at p) (located_in k (at + length p) ps) h

pub from_all : (b k at : ℕ) (ps : List Piece) → b ≤ at → from_on b (located_in k at ps) ≡ located_in k at ps
unfolding located_in
from_all b k at [] h = refl
from_all b k at (p ∷ ps) h =
    from_keep b (at_start k at p) (located_in k (at + length p) ps) h
    ∙ ap (λ (ls : List Located). at_start k at p ∷ ls) (from_all b k (at + length p) ps (omega (arith, h)))

from_first : (b k at : ℕ) (p : Piece) (ps : List Piece) → at < b → from_on b (located_in k at (p ∷ ps)) ≡ from_on b (located_in k (at + length p) ps)
unfolding located_in
from_first b k at p ps h = from_drop b (at_start k at p) (located_in k (at + length p) ps) h

-- a byte in front of the first string leaves the others where they are
from_longer : (b k at a : ℕ) (ps : List Piece) → at + 1 < b → from_on b (located_in k at (lengthen a ps)) ≡ from_on b (located_in k (at + 1) ps)
unfolding located_in
from_longer b k at a [] h = refl
from_longer b k at a (p ∷ ps) h =
    let same : at + length (a ∷ p) ≡ at + 1 + length p = omega arith in
    from_first b k at (a ∷ p) ps (omega (arith, h)) ∙ ap (λ n. from_on b (located_in k n ps)) same ∙ sym (from_first b k (at + 1) p ps h)

-- ---- strings behind some bytes

-- those behind a string that the last of the bytes is in
skip_found : (front w rest : List ℕ) (k at b : ℕ) → IsString w → b ≡ at + length front + 1
    → from_on b (located_in k at (cut (front ++ (w ++ rest)))) ≡ located_in k (at + length front + length w) (cut rest)
skip_found [] w rest k at b string e =
    let some = string_some w string in
    let same : at + length w ≡ at + 0 + length w = omega arith in
    ap (λ ps. from_on b (located_in k at ps)) (cut-string w rest string) ∙ from_first b k at w (cut rest) (omega (arith, e))
    ∙ from_all b k (at + length w) (cut rest) (omega (arith, e, some)) ∙ ap (λ n. located_in k n (cut rest)) same
skip_found (a ∷ front) w rest k at b string e =
    let same : at + 1 + length front + length w ≡ at + length (a ∷ front) + length w = omega arith in
    let further : b ≡ at + 1 + length front + 1 = e ∙ omega arith in
    let later = skip_found front w rest k (at + 1) b string further ∙ ap (λ n. located_in k n (cut rest)) same in
    elim (cases_eq a 0) [
      | inl none ↦ ap (λ ps. from_on b (located_in k at ps)) (cut_zero a (front ++ (w ++ rest)) none) ∙ from_first b k at (a ∷ []) (cut (front ++ (w ++ rest))) (omega (arith, e)) ∙ later
      | inr some ↦ ap (λ ps. from_on b (located_in k at ps)) (cut_other a (front ++ (w ++ rest)) some) ∙ from_longer b k at a (cut (front ++ (w ++ rest))) (omega (arith, e)) ∙ later
    ]

-- none, where no zero byte follows
skip_none : (front rest : List ℕ) (k at b : ℕ) → ¬ Contains rest 0 → at + length front < b → from_on b (located_in k at (cut (front ++ rest))) ≡ []
unfolding located_in
skip_none [] rest k at b none h = ap (λ ps. from_on b (located_in k at ps)) (cut_no_zero rest none)
skip_none (a ∷ front) rest k at b none h =
    let later = skip_none front rest k (at + 1) b none (omega (arith, h)) in
    elim (cases_eq a 0) [
      | inl e ↦ ap (λ ps. from_on b (located_in k at ps)) (cut_zero a (front ++ rest) e) ∙ from_first b k at (a ∷ []) (cut (front ++ rest)) (omega (arith, h)) ∙ later
      | inr e ↦ ap (λ ps. from_on b (located_in k at ps)) (cut_other a (front ++ rest) e) ∙ from_longer b k at a (cut (front ++ rest)) (omega (arith, h)) ∙ later
    ]

-- none behind all bytes
skip_all : (bytes : List ℕ) (k at b : ℕ) → at + length bytes ≤ b → from_on b (located_in k at (cut bytes)) ≡ []
unfolding located_in
skip_all [] k at b h = ap (λ ps. from_on b (located_in k at ps)) cut_none
skip_all (a ∷ []) k at b h = elim (cases_eq a 0) [
  | inl e ↦ ap (λ ps. from_on b (located_in k at ps)) (cut_zero a [] e ∙ ap (λ ps. (a ∷ []) ∷ ps) cut_none) ∙ from_first b k at (a ∷ []) [] (omega (arith, h))
  | inr e ↦ ap (λ ps. from_on b (located_in k at ps)) (cut_other a [] e ∙ ap (lengthen a) cut_none)
]
skip_all (a ∷ c ∷ bytes) k at b h =
    let later = skip_all (c ∷ bytes) k (at + 1) b (omega (arith, h)) in
    elim (cases_eq a 0) [
      | inl e ↦ ap (λ ps. from_on b (located_in k at ps)) (cut_zero a (c ∷ bytes) e) ∙ from_first b k at (a ∷ []) (cut (c ∷ bytes)) (omega (arith, h)) ∙ later
      | inr e ↦ ap (λ ps. from_on b (located_in k at ps)) (cut_other a (c ∷ bytes) e) ∙ from_longer b k at a (cut (c ∷ bytes)) (omega (arith, h)) ∙ later
    ]

nothing_left : (k at : ℕ) (bytes : List ℕ) → [] ≡ located_in k at (cut (drop (length bytes) bytes))
unfolding located_in
nothing_left k at bytes = sym (ap (λ l. located_in k at (cut l)) (drop-length bytes) ∙ ap (located_in k at) cut_none)

drop_drop : (i j : ℕ) (xs : List ℕ) → drop j (drop i xs) ≡ drop (i + j) xs
drop_drop zero j xs = ap (λ n. drop n xs) (let same : j ≡ 0 + j = omega arith in same)
drop_drop (suc i) j [] = drop-nil j ∙ sym (drop-nil (suc i + j))
drop_drop (suc i) j (x ∷ xs) = drop_drop i j xs ∙ ap (λ n. drop n (x ∷ xs)) (let same : suc (i + j) ≡ suc i + j = omega arith in same)

-- ---- the first string from an offset on

pub first_at_start : (k at offset : ℕ) (bytes : List ℕ) → offset ≡ 0 → from_on (at + offset) (located_in k at (cut bytes)) ≡ located_in k (at + 0) (cut bytes)
first_at_start k at offset bytes e =
    let same : at ≡ at + 0 = omega arith in
    from_all (at + offset) k at (cut bytes) (omega (arith, e)) ∙ ap (λ n. located_in k n (cut bytes)) same

pub first_past_end : (k at offset : ℕ) (bytes : List ℕ) → length bytes ≤ offset
    → from_on (at + offset) (located_in k at (cut bytes)) ≡ located_in k (at + length bytes) (cut (drop (length bytes) bytes))
first_past_end k at offset bytes h = skip_all bytes k at (at + offset) (omega (arith, h)) ∙ nothing_left k (at + length bytes) bytes

module _ (k at offset : ℕ) (bytes rest : List ℕ) (some : 0 < offset) (within : offset < length bytes) (is : rest ≡ drop (offset - 1) bytes) where
  len : length (take (offset - 1) bytes) ≡ offset - 1
  len = length-take-le (offset - 1) bytes (omega (arith, within))

  whole : take (offset - 1) bytes ++ rest ≡ bytes
  whole = ap (λ l. take (offset - 1) bytes ++ l) is ∙ take-append-drop (offset - 1) bytes

  pub first_found : (last : ℕ) → IsFirstByte (is_byte 0) rest (Some last)
      → from_on (at + offset) (located_in k at (cut bytes)) ≡ located_in k (at + (offset - 1 + last + 1)) (cut (drop (offset - 1 + last + 1) bytes))
  first_found last h =
      let w : List ℕ = take (last + 1) rest in
      let there = within_found rest last h in
      let long : length w ≡ last + 1 = length-take-le (last + 1) rest (omega (arith, there)) in
      let split : take (offset - 1) bytes ++ (w ++ drop (last + 1) rest) ≡ bytes = ap (λ l. take (offset - 1) bytes ++ l) (take-append-drop (last + 1) rest) ∙ whole in
      let bound : at + offset ≡ at + length (take (offset - 1) bytes) + 1 = omega (arith, len, some) in
      let place : at + length (take (offset - 1) bytes) + length w ≡ at + (offset - 1 + last + 1) = omega (arith, len, long) in
      let next : drop (last + 1) rest ≡ drop (offset - 1 + last + 1) bytes
      = ap (drop (last + 1)) is ∙ drop_drop (offset - 1) (last + 1) bytes ∙ ap (λ n. drop n bytes) (let same : offset - 1 + (last + 1) ≡ offset - 1 + last + 1 = omega arith in same) in
      ap (λ l. from_on (at + offset) (located_in k at (cut l))) (sym split)
      ∙ skip_found (take (offset - 1) bytes) w (drop (last + 1) rest) k at (at + offset) (string_found rest last h) bound
      ∙ (λ i. located_in k (place i) (cut (next i)))

  pub first_missing : IsFirstByte (is_byte 0) rest None → from_on (at + offset) (located_in k at (cut bytes)) ≡ located_in k (at + length bytes) (cut (drop (length bytes) bytes))
  first_missing h =
      ap (λ l. from_on (at + offset) (located_in k at (cut l))) (sym whole)
      ∙ skip_none (take (offset - 1) bytes) rest k at (at + offset) (none_found rest h) (omega (arith, len, some))
      ∙ nothing_left k (at + length bytes) bytes
