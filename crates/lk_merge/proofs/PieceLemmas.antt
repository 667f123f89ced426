-- The pieces of an input are the ones that are found.
use Rattle.std.proofs.Common.{◌≡◌, ◌≢◌, ℕ, zero, suc, ◌-◌, ◌<◌, Bool, true, false, cond, List, [], ◌∷◌, ◌++◌, length, get_or, refl, sym, ap, ◌∙◌, subst, arith, eqb}
use Rattle.std.specs.List.{All, Contains, concat}
use Rattle.std.proofs.lemmas.Bool.{eqb-true, eqb-false, eq-eqb, ne_eqb}
use Rattle.std.proofs.lemmas.List.Elements.{All-nil, All-cons, All-head, All-tail}
use Rattle.lk_merge.specs.Pieces.{Piece, MergeInput, IsString, AreStrings, ArePieces, lengthen, cut, pieces_of, is_terminated, PiecesAreOne}

-- ---- the last byte

-- the last of some bytes, and zero where there are none
abbrev last_byte : List ℕ → ℕ
last_byte bytes = get_or bytes (length bytes - 1) 0

last_of_more : (b c : ℕ) (bs : List ℕ) → last_byte (b ∷ c ∷ bs) ≡ last_byte (c ∷ bs)
last_of_more b c bs =
    let n : length (b ∷ c ∷ bs) - 1 ≡ suc (length (c ∷ bs) - 1) = omega arith in
    ap (λ k. get_or (b ∷ c ∷ bs) k 0) n

last_of_one : (b : ℕ) → last_byte (b ∷ []) ≡ b
last_of_one b = refl

-- behind a zero byte the rest tells
last_after_zero : (bs : List ℕ) → last_byte (0 ∷ bs) ≡ last_byte bs
last_after_zero [] = refl
last_after_zero (c ∷ bs) = last_of_more 0 c bs

-- ---- cutting

pub cut_zero : (b : ℕ) (bs : List ℕ) → b ≡ 0 → cut (b ∷ bs) ≡ (b ∷ []) ∷ cut bs
unfolding cut
cut_zero b bs h = ap (λ t. cond t ((b ∷ []) ∷ cut bs) (lengthen b (cut bs))) (eq-eqb b 0 h)

pub cut_other : (b : ℕ) (bs : List ℕ) → b ≢ 0 → cut (b ∷ bs) ≡ lengthen b (cut bs)
unfolding cut
cut_other b bs h = ap (λ t. cond t ((b ∷ []) ∷ cut bs) (lengthen b (cut bs))) (ne_eqb b 0 h)

pub cut_none : cut [] ≡ []
unfolding cut
cut_none = refl

-- a byte that isn't zero, before pieces that are some data which aren't empty
concat-lengthen : (b : ℕ) (ps : List Piece) (c : ℕ) (bs : List ℕ) → concat ps ≡ c ∷ bs → concat (lengthen b ps) ≡ b ∷ c ∷ bs
concat-lengthen b [] c bs h = absurd (cc)
concat-lengthen b (p ∷ ps) c bs h = ap (λ l. b ∷ l) h

-- the pieces together are the data, where these end in a zero byte
pub concat-cut : (bytes : List ℕ) → last_byte bytes ≡ 0 → concat (cut bytes) ≡ bytes
concat-cut [] h = ap concat cut_none
concat-cut (b ∷ []) h = ap concat (cut_zero b [] h) ∙ ap (λ ps. b ∷ concat ps) cut_none
concat-cut (b ∷ c ∷ bs) h = by (concat-cut (c ∷ bs) (sym (last_of_more b c bs) ∙ h)) (eqb b 0) refl
  where
    by : concat (cut (c ∷ bs)) ≡ c ∷ bs → (t : Bool) → eqb b 0 ≡ t → concat (cut (b ∷ c ∷ bs)) ≡ b ∷ c ∷ bs
    by rest true e = ap concat (cut_zero b (c ∷ bs) (eqb-true b 0 e)) ∙ ap (λ l. b ∷ l) rest
    by rest false e = ap concat (cut_other b (c ∷ bs) (eqb-false b 0 e)) ∙ concat-lengthen b (cut (c ∷ bs)) c bs rest

-- ---- strings

pub no_bytes : ¬ Contains {X = ℕ} [] 0
no_bytes h = absurd (omega (arith, h.1))

longer_text : (b : ℕ) (text : List ℕ) → b ≢ 0 → ¬ Contains text 0 → ¬ Contains (b ∷ text) 0
longer_text b text nonzero only (k, k_in, at) = by k k_in at
  where
    by : (j : ℕ) → j < length (b ∷ text) → get_or (b ∷ text) j 0 ≡ 0 → ⊥
    by zero j_in e = nonzero e
    by (suc j) j_in e = only (j, omega arith, e)

longer_string : (b : ℕ) (p : Piece) → b ≢ 0 → IsString p → IsString (b ∷ p)
longer_string b p nonzero h = record { text = b ∷ h.text; ends = ap (λ l. b ∷ l) h.ends; only = longer_text b h.text nonzero h.only }

zero_string : (b : ℕ) → b ≡ 0 → IsString (b ∷ [])
zero_string b h = record { text = []; ends = ap (λ c. c ∷ []) h; only = no_bytes }

each-lengthen : (b : ℕ) (ps : List Piece) → b ≢ 0 → All IsString ps → All IsString (lengthen b ps)
each-lengthen b [] nonzero h = h
each-lengthen b (p ∷ ps) nonzero h = All-cons IsString (b ∷ p) ps (longer_string b p nonzero (All-head IsString p ps h)) (All-tail IsString p ps h)

pub each-cut : (bytes : List ℕ) → All IsString (cut bytes)
each-cut [] = subst (All IsString) (sym cut_none) (All-nil IsString)
each-cut (b ∷ bs) = by (each-cut bs) (eqb b 0) refl
  where
    by : All IsString (cut bs) → (t : Bool) → eqb b 0 ≡ t → All IsString (cut (b ∷ bs))
    by rest true e = let is : b ≡ 0 = eqb-true b 0 e in subst (All IsString) (sym (cut_zero b bs is)) (All-cons IsString (b ∷ []) (cut bs) (zero_string b is) rest)
    by rest false e = let is : b ≢ 0 = eqb-false b 0 e in subst (All IsString) (sym (cut_other b bs is)) (each-lengthen b (cut bs) is rest)

-- ---- one list

-- the first string of some data is cut off
cut-text : (text rest : List ℕ) → ¬ Contains text 0 → cut ((text ++ 0 ∷ []) ++ rest) ≡ (text ++ 0 ∷ []) ∷ cut rest
cut-text [] rest only = cut_zero 0 rest refl
cut-text (b ∷ text) rest only =
    let nonzero : b ≢ 0 = λ e. only (0, omega arith, e) in
    let below : ¬ Contains text 0 = λ h. only (suc h.0, omega (arith, h.1), h.2) in
    cut_other b ((text ++ 0 ∷ []) ++ rest) nonzero ∙ ap (lengthen b) (cut-text text rest below)

pub cut-string : (p rest : List ℕ) → IsString p → cut (p ++ rest) ≡ p ∷ cut rest
cut-string p rest h = subst (λ q. cut (q ++ rest) ≡ q ∷ cut rest) (sym h.ends) (cut-text h.text rest h.only)

last-text : (text rest : List ℕ) → last_byte ((text ++ 0 ∷ []) ++ rest) ≡ last_byte rest
last-text [] rest = last_after_zero rest
last-text (b ∷ []) rest = last_of_more b 0 rest ∙ last_after_zero rest
last-text (b ∷ c ∷ text) rest = last_of_more b c ((text ++ 0 ∷ []) ++ rest) ∙ last-text (c ∷ text) rest

last-string : (p rest : List ℕ) → IsString p → last_byte (p ++ rest) ≡ last_byte rest
last-string p rest h = subst (λ q. last_byte (q ++ rest) ≡ last_byte rest) (sym h.ends) (last-text h.text rest)

strings_are_cut : (ps : List Piece) → All IsString ps → (last_byte (concat ps) ≡ 0) × (ps ≡ cut (concat ps))
strings_are_cut [] h = (refl, sym cut_none)
strings_are_cut (p ∷ ps) h =
    let string = All-head IsString p ps h in
    let rest = strings_are_cut ps (All-tail IsString p ps h) in
    (last-string p (concat ps) string ∙ rest.0, ap (λ l. p ∷ l) rest.1 ∙ sym (cut-string p (concat ps) string))

-- ---- the law

pub cut_is_one : (bytes : List ℕ) (ps : List Piece) → AreStrings bytes ps → (last_byte bytes ≡ 0) × (ps ≡ cut bytes)
cut_is_one bytes ps h =
    let both = strings_are_cut ps h.each in
    (ap last_byte (sym h.whole) ∙ both.0, both.1 ∙ ap cut h.whole)

pub cut_is_found : (bytes : List ℕ) → last_byte bytes ≡ 0 → AreStrings bytes (cut bytes)
cut_is_found bytes h = record { each = each-cut bytes; whole = concat-cut bytes h }

found_by : (n : ℕ) (bytes : List ℕ) (strings : Bool) → let x : MergeInput = record { number = n; bytes = bytes; strings = strings } in
    is_terminated x ≡ true → ArePieces x (pieces_of x)
found_by n bytes true h = cut_is_found bytes (eqb-true (last_byte bytes) 0 h)
found_by n bytes false h = refl

one_by : (n : ℕ) (bytes : List ℕ) (strings : Bool) (ps : List Piece)
    → let x : MergeInput = record { number = n; bytes = bytes; strings = strings } in
    ArePieces x ps → (is_terminated x ≡ true) × (ps ≡ pieces_of x)
one_by n bytes true ps h = let r = cut_is_one bytes ps h in (eq-eqb (last_byte bytes) 0 r.0, r.1)
one_by n bytes false ps h = (refl, h)

pub found_pieces : (x : MergeInput) → is_terminated x ≡ true → ArePieces x (pieces_of x)
found_pieces x h = found_by x.number x.bytes x.strings h

pub one_pieces : (x : MergeInput) (ps : List Piece) → ArePieces x ps → (is_terminated x ≡ true) × (ps ≡ pieces_of x)
one_pieces x ps h = one_by x.number x.bytes x.strings ps h

pub pieces_are_one : PiecesAreOne
pieces_are_one = record { found = found_pieces; one = one_pieces }
