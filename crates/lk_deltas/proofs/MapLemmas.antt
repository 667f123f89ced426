-- What a map of entries by indexes answers.
use Rattle.std.proofs.Common.{◌≡◌, ◌==◌, ◌∙◌, ◌∷◌, [], List, ℕ, Bool, true, false, Less, Equal, Greater, Option, Some, None, ap, arith, cond, eq-eqb, ltb-true, ltb-false, nat_lt, ne_eqb, option_map, refl, suc, sym, ◌+◌}
use Rattle.std.specs.BTreeMap.{insert_entry, is_at}
use Rattle.std.specs.List.{find, insert, prefix_len}
use Rattle.std.specs.Map.{lookup}
use Rattle.std.specs.Ordering.{is_eq, match_ordering, nat_cmp}
use Rattle.std.specs.Prelude.{if◌then◌else◌}
use Rattle.std.proofs.lemmas.Bool.{eqb-true}
use Rattle.lk_deltas.specs.DeltaMaps.{deltas_at, with_entry, with_ranges}

abbrev pub Entry : Type 0
Entry = ℕ × List (ℕ × ℕ)

-- numbers that compare as equal are
same_index : (s k : ℕ) → is_eq (nat_cmp s k) ≡ (k == s)
same_index s k = by (nat_lt s k) (s == k) refl refl
  where
    by : (b c : Bool) → nat_lt s k ≡ b → (s == k) ≡ c → is_eq (cond b Less (cond c Equal Greater)) ≡ (k == s)
    by true c lt same = sym (ne_eqb k s (λ is. absurd (omega (arith, ltb-true s k lt, is))))
    by false true lt same = sym (eq-eqb k s (sym (eqb-true s k same)))
    by false false lt same = sym (ne_eqb k s (λ is. let both : true ≡ false = sym (eq-eqb s k (sym is)) ∙ same in absurd (cc)))

-- what is found of a section
pub found : (s : ℕ) (es : List Entry) → lookup (is_at (nat_cmp s)) es ≡ deltas_at es s
found s [] = refl
found s (e ∷ es) = ap (λ b. cond b (Some e.1) (lookup (is_at (nat_cmp s)) es)) (same_index s e.0) ∙ by (e.0 == s) (found s es)
  where
    by : (b : Bool) → lookup (is_at (nat_cmp s)) es ≡ deltas_at es s
        → cond b (Some e.1) (lookup (is_at (nat_cmp s)) es) ≡ option_map (λ (x : Entry). x.1) (cond b (Some e) (find (λ (x : Entry). x.0 == s) es))
    by true later = refl
    by false later = later

-- other ranges for a section
pub put : (s : ℕ) (ranges : List (ℕ × ℕ)) (es : List Entry) → insert_entry nat_cmp es s ranges ≡ with_ranges s ranges es
put s ranges [] = refl
put s ranges (e ∷ es) = by (nat_lt s e.0) (s == e.0) (nat_lt e.0 s) refl refl refl (put s ranges es)
  where
    by : (a b c : Bool) → nat_lt s e.0 ≡ a → (s == e.0) ≡ b → nat_lt e.0 s ≡ c → insert_entry nat_cmp es s ranges ≡ with_ranges s ranges es
        → match_ordering (cond a Less (cond b Equal Greater)) ((s, ranges) ∷ e ∷ es) ((e.0, ranges) ∷ es) (e ∷ insert_entry nat_cmp es s ranges)
        ≡ (if c then e ∷ with_ranges s ranges es else (s, ranges) ∷ (if e.0 == s then es else e ∷ es))
    by true b true lt same gt later = absurd (omega (arith, ltb-true s e.0 lt, ltb-true e.0 s gt))
    by true b false lt same gt later =
        ap (λ x. (s, ranges) ∷ (if x then es else e ∷ es)) (sym (ne_eqb e.0 s (λ is. absurd (omega (arith, ltb-true s e.0 lt, is)))))
    by false true true lt same gt later = absurd (omega (arith, eqb-true s e.0 same, ltb-true e.0 s gt))
    by false true false lt same gt later =
        let is : e.0 ≡ s = sym (eqb-true s e.0 same) in
        ap (λ (n : ℕ). (n, ranges) ∷ es) is ∙ ap (λ x. (s, ranges) ∷ (if x then es else e ∷ es)) (sym (eq-eqb e.0 s is))
    by false false true lt same gt later = ap (λ (xs : List Entry). e ∷ xs) later
    by false false false lt same gt later =
        let is : s ≡ e.0 = omega (arith, ltb-false s e.0 lt, ltb-false e.0 s gt) in
        absurd (let both : true ≡ false = sym (eq-eqb s e.0 is) ∙ same in cc)

-- what is found is none where what is deleted of it is
none_mapped : {X Y : Type 0} (f : X → Y) (o : Option X) → option_map f o ≡ None → o ≡ None
none_mapped f None e = refl
none_mapped f (Some x) e = absurd (cc)

-- as one entry more
inserted : (s : ℕ) (ranges : List (ℕ × ℕ)) (es : List Entry) → find (λ (e : Entry). e.0 == s) es ≡ None → with_ranges s ranges es ≡ with_entry s ranges es
inserted s ranges [] none = refl
inserted s ranges (e ∷ es) none = by (nat_lt e.0 s) (e.0 == s) none (inserted s ranges es)
  where
    m : ℕ
    m = prefix_len (λ (x : Entry). nat_lt x.0 s) es

    one_more : 1 + m ≡ suc m
    one_more = omega arith

    by : (b c : Bool) → cond c (Some e) (find (λ (x : Entry). x.0 == s) es) ≡ None → (find (λ (x : Entry). x.0 == s) es ≡ None → with_ranges s ranges es ≡ insert es m (s, ranges))
        → (if b then e ∷ with_ranges s ranges es else (s, ranges) ∷ (if c then es else e ∷ es)) ≡ insert (e ∷ es) (cond b (1 + m) 0) (s, ranges)
    by b true new later = absurd (cc)
    by true false new later = ap (λ (xs : List Entry). e ∷ xs) (later new) ∙ sym (ap (λ (k : ℕ). insert (e ∷ es) k (s, ranges)) one_more)
    by false false new later = refl

pub entered : (s : ℕ) (ranges : List (ℕ × ℕ)) (es : List Entry) → deltas_at es s ≡ None → insert_entry nat_cmp es s ranges ≡ with_entry s ranges es
entered s ranges es new = put s ranges es ∙ inserted s ranges es (none_mapped (λ (e : Entry). e.1) (find (λ (e : Entry). e.0 == s) es) new)
