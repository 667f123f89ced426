-- Inputs one behind another, and the places of their pieces.
use Rattle.std.proofs.Common.{◌≡◌, ℕ, zero, suc, ◌+◌, ◌<◌, List, [], ◌∷◌, ◌++◌, length, map, take, Some, option_map, inl, inr, ◌⊎◌, ◌^◌, refl, sym, ap, ◌∙◌, arith, append_assoc, append-nil, length-append}
use Rattle.std.specs.List.{concat, slice_get}
use Rattle.std.proofs.lemmas.List.{map-append, length_push, take-append-le, take_all}
use Rattle.std.proofs.lemmas.List.Sums.{sum_by_push, sum_by-cons}
use Rattle.std.proofs.lemmas.Option.{slice_get-map, slice_get_within}
use Rattle.lk_merge.specs.declared.inputs.StringMergeInputSection.{StringMergeInputSection}
use Rattle.lk_merge.specs.Image.{all_pieces}
use Rattle.lk_merge.specs.Inputs.{AreInputs, input_of, padded_len, padded_total, Located, located_in, located_from}
use Rattle.lk_merge.specs.Pieces.{Piece, MergeInput, pieces_of}

pub padded_total_push : (ss : List StringMergeInputSection) (s : StringMergeInputSection)
    → padded_total (map input_of (ss ++ s ∷ [])) ≡ padded_total (map input_of ss) + padded_len (input_of s)
padded_total_push ss s = ap padded_total (map-append input_of ss (s ∷ [])) ∙ sum_by_push padded_len (map input_of ss) (input_of s)

pub no_inputs : AreInputs 0 []
no_inputs = record {
  starts = λ k s there. absurd (cc);
  sum = refl;
  fits = omega arith;
  few = omega arith;
  rise = λ j k r s h a b. absurd (cc);
}

-- what stands at an index of one more
pub push_at : {X : Type 0} (xs : List X) (x y : X) (k : ℕ) → slice_get (xs ++ x ∷ []) k ≡ Some y → (slice_get xs k ≡ Some y) ⊎ ((k ≡ length xs) × (x ≡ y))
push_at [] x y zero h = inr (refl, cc)
push_at [] x y (suc k) h = absurd (cc)
push_at (z ∷ xs) x y zero h = inl h
push_at (z ∷ xs) x y (suc k) h = elim (push_at xs x y k h) [ inl a ↦ inl a | inr b ↦ inr (omega (arith, b.0), b.1) ]

starts_push : (ss : List StringMergeInputSection) (s : StringMergeInputSection)
    → ((k : ℕ) (r : StringMergeInputSection) → slice_get ss k ≡ Some r → r.start_input_offset ≡ padded_total (map input_of (take k ss)))
    → s.start_input_offset ≡ padded_total (map input_of ss)
    → (k : ℕ) (r : StringMergeInputSection) → slice_get (ss ++ s ∷ []) k ≡ Some r → r.start_input_offset ≡ padded_total (map input_of (take k (ss ++ s ∷ [])))
starts_push ss s h last k r there =
    let total : List StringMergeInputSection → ℕ = λ rs. padded_total (map input_of rs) in
    elim (push_at ss s r k there) [
      | inl a ↦
          let within = slice_get_within ss k r a in
          h k r a ∙ ap total (sym (take-append-le k ss (s ∷ []) (omega (arith, within))))
      | inr b ↦
          ap (λ (x : StringMergeInputSection). x.start_input_offset) (sym b.1) ∙ last
          ∙ ap total (sym (take-append-le k ss (s ∷ []) (omega (arith, b.0)) ∙ take_all k ss (omega (arith, b.0))))
    ]

pub one_more_input : (total : ℕ) (ss : List StringMergeInputSection) (s : StringMergeInputSection) → AreInputs total ss → s.start_input_offset ≡ total
    → total + padded_len (input_of s) < 2 ^ 63 → length ss + 1 < 2 ^ 32
    → ((k : ℕ) (x : MergeInput) → slice_get (map input_of ss) k ≡ Some x → x.number < s.number)
    → AreInputs (total + padded_len (input_of s)) (ss ++ s ∷ [])
one_more_input total ss s h at fits few behind = record {
  starts = starts_push ss s h.starts (at ∙ h.sum);
  sum = let n = padded_total_push ss s in omega (arith, n, h.sum);
  fits = fits;
  few = let n = length_push ss s in omega (arith, n, few);
  rise = λ j k r t below r_at t_at. elim (push_at ss s t k t_at) [
    | inl b ↦ elim (push_at ss s r j r_at) [
      | inl a ↦ h.rise j k r t below a b
      | inr a ↦ absurd (omega (arith, a.0, below, slice_get_within ss k t b))
    ]
    | inr b ↦ elim (push_at ss s r j r_at) [
      | inl a ↦ let less = behind j (input_of r) (slice_get-map input_of ss j ∙ ap (option_map input_of) a) in let n : s.number ≡ t.number = ap (λ (x : StringMergeInputSection). x.number) b.1 in omega (arith, less, n)
      | inr a ↦ absurd (omega (arith, a.0, b.0, below))
    ]
  ];
}

-- ---- located pieces

pub located_in_none : (k at : ℕ) → located_in k at [] ≡ []
unfolding located_in
located_in_none k at = refl

pub located_in_step : (k at : ℕ) (p : Piece) (ps : List Piece)
    → located_in k at (p ∷ ps) ≡ record { input = k; start = at; piece = p } ∷ located_in k (at + length p) ps
unfolding located_in
located_in_step k at p ps = refl

pub located_in_append : (k at : ℕ) (ps qs : List Piece)
    → located_in k at (ps ++ qs) ≡ located_in k at ps ++ located_in k (at + length (concat ps)) qs
unfolding located_in
located_in_append k at [] qs = let n : at ≡ at + 0 = omega arith in ap (λ a. located_in k a qs) n
located_in_append k at (p ∷ ps) qs =
    let more : length (p ++ concat ps) ≡ length p + length (concat ps) = length-append p (concat ps) in
    let n : (at + length p) + length (concat ps) ≡ at + length (concat (p ∷ ps)) = omega (arith, more) in
    ap (λ l. record { input = k; start = at; piece = p } ∷ l)
    (located_in_append k (at + length p) ps qs ∙ ap (λ a. located_in k (at + length p) ps ++ located_in k a qs) n)

pub located_in_push : (k at : ℕ) (ps : List Piece) (p : Piece)
    → located_in k at (ps ++ p ∷ []) ≡ located_in k at ps ++ record { input = k; start = at + length (concat ps); piece = p } ∷ []
unfolding located_in
located_in_push k at [] p =
    let n : at ≡ at + 0 = omega arith in
    let one : ℕ → List Located = λ a. record { input = k; start = a; piece = p } ∷ [] in
    ap one n
located_in_push k at (q ∷ ps) p =
    let more : length (q ++ concat ps) ≡ length q + length (concat ps) = length-append q (concat ps) in
    let n : (at + length q) + length (concat ps) ≡ at + length (q ++ concat ps) = omega (arith, more) in
    let whole : ℕ → List Located = λ a. record { input = k; start = at; piece = q } ∷ located_in k (at + length q) ps ++ record { input = k; start = a; piece = p } ∷ [] in
    ap (λ l. record { input = k; start = at; piece = q } ∷ l) (located_in_push k (at + length q) ps p) ∙ ap whole n

pub located_from_push : (k at n : ℕ) (xs : List MergeInput) (x : MergeInput) → n ≡ k + length xs
    → located_from k at (xs ++ x ∷ []) ≡ located_from k at xs ++ located_in n (at + padded_total xs) (pieces_of x)
unfolding located_from
located_from_push k at n [] x e =
    let same : k ≡ n = omega (arith, e) in
    let here : at ≡ at + 0 = omega arith in
    append-nil (located_in k at (pieces_of x)) ∙ (λ i. located_in (same i) (here i) (pieces_of x))
located_from_push k at n (y ∷ xs) x e =
    let more = sum_by-cons padded_len y xs in
    let here : (at + padded_len y) + padded_total xs ≡ at + padded_total (y ∷ xs) = omega (arith, more) in
    ap (λ l. located_in k at (pieces_of y) ++ l) (located_from_push (k + 1) (at + padded_len y) n xs x (omega (arith, e)))
    ∙ sym (append_assoc (located_in k at (pieces_of y)) (located_from (k + 1) (at + padded_len y) xs) (located_in n ((at + padded_len y) + padded_total xs) (pieces_of x)))
    ∙ ap (λ a. (located_in k at (pieces_of y) ++ located_from (k + 1) (at + padded_len y) xs) ++ located_in n a (pieces_of x)) here

pub located_none : (k at : ℕ) → located_from k at [] ≡ []
unfolding located_from
located_none k at = refl

-- without their places they are the pieces
pub pieces_located_in : (k at : ℕ) (ps : List Piece) → map (λ l. l.piece) (located_in k at ps) ≡ ps
unfolding located_in
pieces_located_in k at [] = refl
pieces_located_in k at (p ∷ ps) = ap (λ l. p ∷ l) (pieces_located_in k (at + length p) ps)

pub pieces_located_from : (k at : ℕ) (xs : List MergeInput) → map (λ l. l.piece) (located_from k at xs) ≡ all_pieces xs
unfolding located_from
pieces_located_from k at [] = refl
pieces_located_from k at (x ∷ xs) =
    map-append (λ (l : Located). l.piece) (located_in k at (pieces_of x)) (located_from (k + 1) (at + padded_len x) xs)
    ∙ (λ i. pieces_located_in k at (pieces_of x) i ++ pieces_located_from (k + 1) (at + padded_len x) xs i)
