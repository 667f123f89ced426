-- A part has the table for which it is named.
use Rattle.std.proofs.Common.{◌≡◌, ℕ, zero, suc, ◌||◌, Bool, true, false, if◌then◌else◌, List, [], ◌∷◌, ◌++◌, Option, Some, None, refl, ap, ◌∙◌, arith}
use Rattle.std.specs.List.{flat_map, list_any, slice_get, zip}
use Rattle.std.proofs.lemmas.Bool.{eq-eqb, eqb-true}
use Rattle.std.proofs.lemmas.List.{append-nil}
use Rattle.std.proofs.lemmas.List.Concat.{flat_map-cons}
use Rattle.lk_link.specs.PartRules.{is_part, table_parts}
use Rattle.lk_link.proofs.GoodPartFields.{good_part_fields}
use Rattle.lk_tables.specs.SymbolTable.{TableEntry}
use Rattle.lk_tables.specs.TableLaws.{NamedPartsHaveTheirTable, OtherPartsHaveNoEntries}
use Rattle.lk_tables.specs.TableLists.{all_lists, entries_if}

-- the part that is meant
meant : (p : ℕ) (n : Option ℕ) → is_part p n ≡ true → n ≡ Some p
meant p (Some q) h = ap Some (eqb-true q p h)
meant p None h = cc

left_false : (a b : Bool) → (a || b) ≡ false → a ≡ false
left_false true b h = cc
left_false false b h = refl

right_false : (a b : Bool) → (a || b) ≡ false → b ≡ false
right_false true b h = cc
right_false false b h = h

-- where no table is meant, there is nothing
none_meant : (p : ℕ) (ns : List (Option ℕ)) (ls : List (List TableEntry)) → list_any (is_part p) ns ≡ false → flat_map (entries_if p) (zip ns ls) ≡ []
none_meant p [] ls h = refl
none_meant p (n ∷ ns) [] h = refl
none_meant p (n ∷ ns) (l ∷ ls) h =
    flat_map-cons (entries_if p) (n, l) (zip ns ls)
    ∙ ap (λ b. (if b then l else []) ++ flat_map (entries_if p) (zip ns ls)) (left_false (is_part p n) (list_any (is_part p) ns) h)
    ∙ none_meant p ns ls (right_false (is_part p n) (list_any (is_part p) ns) h)

pub other_parts : OtherPartsHaveNoEntries
other_parts named lists p h = none_meant p (table_parts named) (all_lists lists) h

-- where it isn't meant before, it is none of them
none_of : (p : ℕ) (ns : List (Option ℕ)) → ((j : ℕ) → slice_get ns j ≡ Some (Some p) → ⊥) → list_any (is_part p) ns ≡ false
none_of p [] none = refl
none_of p (n ∷ ns) none = by_test (is_part p n) refl (none_of p ns (λ j h. none (suc j) h))
  where
    by_test : (b : Bool) → is_part p n ≡ b → list_any (is_part p) ns ≡ false → list_any (is_part p) (n ∷ ns) ≡ false
    by_test true h rest = absurd (none 0 (ap Some (meant p n h)))
    by_test false h rest = ap (λ b. b || list_any (is_part p) ns) h ∙ rest

-- the one table that is meant
one_meant : (p : ℕ) (ns : List (Option ℕ)) (ls : List (List TableEntry)) (k : ℕ) (l : List TableEntry)
    → ((i j : ℕ) → slice_get ns i ≡ Some (Some p) → slice_get ns j ≡ Some (Some p) → i ≡ j)
    → slice_get ns k ≡ Some (Some p) → slice_get ls k ≡ Some l → flat_map (entries_if p) (zip ns ls) ≡ l
one_meant p [] ls k l once here there = cc
one_meant p (n ∷ ns) [] k l once here there = cc
one_meant p (n ∷ ns) (m ∷ ls) zero l once here there =
    let named : n ≡ Some p = cc in
    let same : m ≡ l = cc in
    let none : (j : ℕ) → slice_get ns j ≡ Some (Some p) → ⊥ = λ j h. omega (arith, once zero (suc j) here h) in
    flat_map-cons (entries_if p) (n, m) (zip ns ls)
    ∙ ap (λ (o : Option ℕ). entries_if p (o, m) ++ flat_map (entries_if p) (zip ns ls)) named
    ∙ ap (λ b. (if b then m else []) ++ flat_map (entries_if p) (zip ns ls)) (same_number p)
    ∙ ap (λ es. m ++ es) (none_meant p ns ls (none_of p ns none))
    ∙ append-nil m
    ∙ same
  where
    same_number : (q : ℕ) → is_part q (Some q) ≡ true
    same_number q = eq-eqb q q refl
one_meant p (n ∷ ns) (m ∷ ls) (suc k) l once here there =
    by_test (is_part p n) refl (one_meant p ns ls k l (λ i j h g. let e = once (suc i) (suc j) h g in omega (arith, e)) here there)
  where
    by_test : (b : Bool) → is_part p n ≡ b → flat_map (entries_if p) (zip ns ls) ≡ l → flat_map (entries_if p) ((n, m) ∷ zip ns ls) ≡ l
    by_test true h rest =
        let e = once zero (suc k) (ap Some (meant p n h)) here in absurd (omega (arith, e))
    by_test false h rest =
        flat_map-cons (entries_if p) (n, m) (zip ns ls) ∙ ap (λ b. (if b then m else []) ++ flat_map (entries_if p) (zip ns ls)) h ∙ rest

pub named_parts : NamedPartsHaveTheirTable
named_parts link lists k p entries good here there =
    one_meant p (table_parts link.plan.named) (all_lists lists) k entries (λ i j h g. (good_part_fields link good).apart i j p h g) here there
