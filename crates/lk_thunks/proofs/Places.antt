-- Where a number stands in a list that rises.
use Rattle.std.proofs.Common.{◌≡◌, ◌≢◌, ℕ, ◌<◌, ◌==◌, inl, inr, true, false, cond, List, Some, None, get_or, length, nat_lt, position, sym, ap, ◌∙◌, arith}
use Rattle.std.specs.List.{position_or_len}
use Rattle.std.proofs.lemmas.Bool.{cases_Bool, cases_eq, cases_lt, eqb-false, eqb-true, le-ltb, lt-ltb}
use Rattle.std.proofs.lemmas.List.Sums.{position_or_len_is}
use Rattle.std.proofs.lemmas.Option.{get_or_from_slice_get, slice_get-get_or}
use Rattle.lk_thunks.specs.SetLaws.{IsPlaceFor, IsRising}

differs : (a b : ℕ) → a ≢ b → (a == b) ≡ false
differs a b h = elim (cases_Bool (a == b)) [ inl t ↦ absurd (h (eqb-true a b t)) | inr f ↦ f ]

equals : (a b : ℕ) → a ≡ b → (a == b) ≡ true
equals a b h = elim (cases_Bool (a == b)) [ inl t ↦ t | inr f ↦ absurd (eqb-false a b f h) ]

-- another default tells the same of what is there
pub whatever : (xs : List ℕ) (k d : ℕ) → k < length xs → get_or xs k 0 ≡ get_or xs k d
whatever xs k d lt = get_or_from_slice_get xs k (get_or xs k d) 0 (slice_get-get_or xs k d lt)

-- at its place
pub found_there : (d place : ℕ) (xs : List ℕ) → IsPlaceFor xs d place → place < length xs → get_or xs place 0 ≡ d → Some place ≡ position (λ s. s == d) xs
found_there d place xs h there here =
    let first : position_or_len (λ s. s == d) xs ≡ place
    = position_or_len_is (λ s. s == d) xs place 0 (omega (arith, there)) (λ k lt. differs (get_or xs k 0) d (λ e. absurd (omega (arith, h.below k lt, e)))) (λ lt. equals (get_or xs place 0) d here) in
    ap (λ b. cond b (Some place) None) (sym (lt-ltb place (length xs) there)) ∙ ap (λ n. cond (nat_lt n (length xs)) (Some n) None) (sym first)

-- nowhere, where its place has none or another
pub found_nowhere : (d place : ℕ) (xs : List ℕ) → IsRising xs → IsPlaceFor xs d place → ((place < length xs) → get_or xs place 0 ≢ d) → None ≡ position (λ s. s == d) xs
found_nowhere d place xs rising h other =
    let first : position_or_len (λ s. s == d) xs ≡ length xs
    = position_or_len_is (λ s. s == d) xs (length xs) 0 (omega arith) (λ k lt. differs (get_or xs k 0) d (λ e. elim (cases_lt k place) [
      | inl before ↦ absurd (omega (arith, h.below k before, e))
      | inr le ↦ elim (cases_eq place k) [
        | inl equal ↦ absurd (other (omega (arith, equal, lt)) (ap (λ j. get_or xs j 0) equal ∙ e))
        | inr apart ↦ absurd (omega (arith, rising place k (omega (arith, le, apart)) lt, h.above place (omega arith) (omega (arith, le, lt)), e))
      ]
    ])) (λ lt. absurd (omega (arith, lt)))
    in
    ap (λ b. cond b (Some (length xs)) None) (sym (le-ltb (length xs) (length xs) (omega arith))) ∙ ap (λ n. cond (nat_lt n (length xs)) (Some n) None) (sym first)
