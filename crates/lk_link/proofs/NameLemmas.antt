-- Names in the order of their bytes.
use Rattle.std.specs.Cmp.Lexicographic.{slice_cmp}
use Rattle.std.specs.List.{AllWithin, list_any, range_with_len}
use Rattle.std.specs.List.Sorted.{IsBinarySearchResult, IsPermutation, IsSearchInRange, IsSortedByKey}
use Rattle.std.specs.Ordering.{is_eq, nat_cmp}
use Rattle.std.specs.Result.{is_ok}
use Rattle.std.specs.Str.{bytes_eq}
use Rattle.std.specs.declared.cmp.Ordering.{Ordering}
use Rattle.std.specs.declared.cmp.Ordering.TheVariants.{Less, Equal, Greater}
use Rattle.std.proofs.Common.{◌≡◌, ℕ, ◌+◌, Bool, false, ◌||◌, List, [], ◌∷◌, ◌++◌, Result, Ok, Err, length, get_or, refl, sym, ap, ◌∙◌, ⊎_elim, arith}
use Rattle.std.proofs.lemmas.Bool.{cases_lt}
use Rattle.std.proofs.lemmas.Cmp.{nat_list_cmp_total}
use Rattle.std.proofs.lemmas.List.{append_assoc, get_or_at, length_push, map-id}
use Rattle.std.proofs.lemmas.List.FromFn.{map-range_with_len_more}
use Rattle.std.proofs.lemmas.Option.{unwrap_or-slice_get}
use Rattle.std.proofs.lemmas.List.Elements.{All-from_all_within}
use Rattle.std.proofs.lemmas.List.Folds.{list_any_at, list_any_none}
use Rattle.std.proofs.lemmas.List.Sorted.{list_any-IsPermutation, searchable_from_sorted}
use Rattle.std.proofs.lemmas.Map.Text.{is_eq-slice_cmp}
use Rattle.lk_link.specs.Names.{has_name, name_at, IsOrderOf}

-- what a comparison says of equality
differs : (o : Ordering) (xs ys : List ℕ) → slice_cmp nat_cmp xs ys ≡ o → bytes_eq xs ys ≡ is_eq o
differs o xs ys h = sym (is_eq-slice_cmp xs ys) ∙ ap is_eq h

-- what a search in the order answers
pub search_answers : (names : List (List ℕ)) (order text : List ℕ) (r : Result ℕ ℕ) → IsOrderOf names order → IsSearchInRange r (length order) → IsBinarySearchResult (λ place. slice_cmp nat_cmp (name_at names place) text) order r → is_ok r ≡ has_name names text
search_answers names order text (Ok k) o in_range found =
    sym (list_any_at (λ place. bytes_eq (name_at names place) text) order k 0 in_range (differs Equal (name_at names (get_or order k 0)) text (found 0)))
    ∙ o.same text
search_answers names order text (Err i) o in_range found =
    let parts = found (searchable_from_sorted nat_list_cmp_total (name_at names) order text o.rising) in
    let none : AllWithin (λ place. bytes_eq (name_at names place) text ≡ false) order 0 (length order) =
    λ k d from lt. ⊎_elim
    (λ before. differs Less (name_at names (get_or order k d)) text (parts.0 k d from before))
    (λ behind. differs Greater (name_at names (get_or order k d)) text (parts.1 k d behind lt))
    (cases_lt k i) in
    sym (list_any_none (λ place. bytes_eq (name_at names place) text) order (All-from_all_within (λ place. bytes_eq (name_at names place) text ≡ false) order none))
    ∙ o.same text

-- the places of names that stand behind others
all_places : (before rest : List (List ℕ)) (p : List ℕ → Bool) → list_any (λ place. p (name_at (before ++ rest) place)) (range_with_len (length before) (length rest)) ≡ list_any p rest
all_places before [] p = refl
all_places before (name ∷ rest) p =
    let here : name_at (before ++ name ∷ rest) (length before) ≡ name = unwrap_or-slice_get (before ++ name ∷ rest) (length before) [] ∙ get_or_at before name rest [] (length before) refl in
    let next : length before + 1 ≡ length (before ++ name ∷ []) = sym (length_push before name) in
    let same : before ++ name ∷ rest ≡ before ++ name ∷ [] ++ rest = sym (append_assoc before (name ∷ []) rest) in
    ap (λ n. p n || list_any (λ place. p (name_at (before ++ name ∷ rest) place)) (range_with_len (length before + 1) (length rest))) here
    ∙ ap (λ b. p name || b) (ap (λ ns. list_any (λ place. p (name_at ns place)) (range_with_len (length before + 1) (length rest))) same
    ∙ ap (λ k. list_any (λ place. p (name_at (before ++ name ∷ [] ++ rest) place)) (range_with_len k (length rest))) next
    ∙ all_places (before ++ name ∷ []) rest p)

-- a sorted list of all places is the order
pub order_from : (names : List (List ℕ)) (order : List ℕ) → IsSortedByKey (name_at names) (slice_cmp nat_cmp) order → IsPermutation (range_with_len 0 (length names)) order → IsOrderOf names order
order_from names order rising all = record {
  rising = rising;
  same = λ text.
      sym (list_any-IsPermutation (λ place. bytes_eq (name_at names place) text) (range_with_len 0 (length names)) order all)
      ∙ all_places [] names (λ n. bytes_eq n text);
}

-- one place more
pub places_more : (n : ℕ) → range_with_len 0 n ++ n ∷ [] ≡ range_with_len 0 (n + 1)
places_more n = sym (sym (map-id (range_with_len 0 (n + 1))) ∙ map-range_with_len_more (λ k. k) 0 n n (omega arith) ∙ ap (λ ns. ns ++ n ∷ []) (map-id (range_with_len 0 n)))
