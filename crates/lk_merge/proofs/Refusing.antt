-- The refusal of an output section, by what was found.
use Rattle.std.proofs.Common.{◌≡◌, ℕ, ◌+◌, ◌≤◌, Bool, true, false, cond, ◌&&◌, not, ltb, List, [], ◌∷◌, length, map, Option, None, Some, Result, Ok, Err, option_map, refl, sym, ap, ◌∙◌, arith}
use Rattle.std.specs.List.{list_all, prefix_len, position, position_or_len}
use Rattle.std.proofs.lemmas.Bool.{ltb-false}
use Rattle.std.proofs.lemmas.List.{length-map}
use Rattle.lk_link.specs.Files.{first_some}
use Rattle.lk_merge.specs.declared.error.MergeError.{MergeError}
use Rattle.lk_merge.specs.declared.error.MergeError.TheVariants.{NotTerminated, TooLarge, NoMemory}
use Rattle.lk_merge.specs.declared.inputs.StringMergeInputSection.{StringMergeInputSection}
use Rattle.lk_merge.specs.Hash.{fnv64}
use Rattle.lk_merge.specs.Image.{all_pieces}
use Rattle.lk_merge.specs.Inputs.{input_of}
use Rattle.lk_merge.specs.Merging.{GivesMerged, bucket_refusal, long_refusal, merge_refusal}
use Rattle.lk_merge.specs.MergingTables.{GivesFitting}
use Rattle.lk_merge.specs.Pieces.{MergeInput, is_terminated}
use Rattle.lk_merge.proofs.Beginning.{fine, no_list}
use Rattle.lk_merge.proofs.MergedLemmas.{no_long}
use Rattle.lk_merge.proofs.TooLong.{none_first, some_first}

prefix_map : {X Y : Type 0} (q : Y → Bool) (g : X → Y) (xs : List X) → prefix_len q (map g xs) ≡ prefix_len (λ x. q (g x)) xs
prefix_map q g [] = refl
prefix_map q g (x ∷ xs) = ap (λ n. cond (q (g x)) (1 + n) 0) (prefix_map q g xs)

position_map : {X Y : Type 0} (f : Y → Bool) (g : X → Y) (xs : List X) → position f (map g xs) ≡ position (λ x. f (g x)) xs
position_map f g xs = λ i. cond (ltb (prefix_map (λ y. not (f y)) g xs i) (length-map xs g i)) (Some (prefix_map (λ y. not (f y)) g xs i)) None

pub position_inputs : (sections : List StringMergeInputSection) (inputs : List MergeInput) (o : Option ℕ) → map input_of sections ≡ inputs
    → o ≡ position (λ s. not (is_terminated (input_of s))) sections → position (λ x. not (is_terminated x)) inputs ≡ o
position_inputs sections inputs o are found =
    ap (position (λ x. not (is_terminated x))) (sym are) ∙ position_map (λ x. not (is_terminated x)) input_of sections ∙ sym found

all_from_prefix : {X : Type 0} (t : X → Bool) (xs : List X) → length xs ≤ prefix_len (λ x. not (not (t x))) xs → list_all t xs ≡ true
all_from_prefix t [] h = refl
all_from_prefix t (x ∷ xs) h = by (t x) refl (all_from_prefix t xs)
  where
    by : (b : Bool) → t x ≡ b → (length xs ≤ prefix_len (λ y. not (not (t y))) xs → list_all t xs ≡ true) → list_all t (x ∷ xs) ≡ true
    by true e rest =
        let n : prefix_len (λ y. not (not (t y))) (x ∷ xs) ≡ 1 + prefix_len (λ y. not (not (t y))) xs
        = ap (λ b. cond (not (not b)) (1 + prefix_len (λ y. not (not (t y))) xs) 0) e in
        ap (λ b. b && list_all t xs) e ∙ rest (omega (arith, h, n))
    by false e rest =
        let n : prefix_len (λ y. not (not (t y))) (x ∷ xs) ≡ 0 = ap (λ b. cond (not (not b)) (1 + prefix_len (λ y. not (not (t y))) xs) 0) e in
        absurd (omega (arith, h, n))

pub all_from_none : (xs : List MergeInput) → position (λ x. not (is_terminated x)) xs ≡ None → list_all is_terminated xs ≡ true
all_from_none xs h = by (ltb (position_or_len (λ x. not (is_terminated x)) xs) (length xs)) refl
  where
    by : (b : Bool) → ltb (position_or_len (λ x. not (is_terminated x)) xs) (length xs) ≡ b → list_all is_terminated xs ≡ true
    by true e = absurd (let some : Some (position_or_len (λ x. not (is_terminated x)) xs) ≡ None
        = sym (ap (λ b. cond b (Some (position_or_len (λ x. not (is_terminated x)) xs)) None) e) ∙ h in cc)
    by false e = all_from_prefix is_terminated xs (ltb-false _ _ e)

module _ (section limit : ℕ) (inputs : List MergeInput) where
  pub refused_first : (k : ℕ) → position (λ x. not (is_terminated x)) inputs ≡ Some k → merge_refusal fnv64 section limit inputs ≡ Some (NotTerminated section k)
  refused_first k h =
      ap (λ o. first_some (option_map (λ (j : ℕ). NotTerminated section j) o) (long_refusal fnv64 section limit (all_pieces inputs))) h ∙ some_first (NotTerminated section k) _

  unrefused : position (λ x. not (is_terminated x)) inputs ≡ None → merge_refusal fnv64 section limit inputs ≡ long_refusal fnv64 section limit (all_pieces inputs)
  unrefused h =
      ap (λ o. first_some (option_map (λ (j : ℕ). NotTerminated section j) o) (long_refusal fnv64 section limit (all_pieces inputs))) h ∙ none_first _

  pub gives_all : (r : Result (List MergeInput) MergeError) → position (λ x. not (is_terminated x)) inputs ≡ None
      → GivesFitting section limit (all_pieces inputs) inputs r → GivesMerged fnv64 section limit inputs r
  gives_all (Ok merged) none h = (unrefused none ∙ h.0, h.1)
  gives_all (Err (NotTerminated s i)) none h = unrefused none ∙ h
  gives_all (Err (TooLarge s b o n)) none h = unrefused none ∙ h
  gives_all (Err NoMemory) none h = tt

  pub nothing_refused : length inputs ≡ 0 → (merge_refusal fnv64 section limit inputs ≡ None) × ([] ≡ inputs)
  nothing_refused h = by inputs h
    where
      by : (xs : List MergeInput) → length xs ≡ 0 → (merge_refusal fnv64 section limit xs ≡ None) × ([] ≡ xs)
      by [] e = (none_first (long_refusal fnv64 section limit []) ∙ no_long section limit [] (λ b small. ap (bucket_refusal section limit b) (no_list b) ∙ fine section limit b), refl)
      by (x ∷ xs) e = absurd (omega (arith, e))
