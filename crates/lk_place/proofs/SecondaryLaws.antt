-- One more section, joined to its primary.
use Rattle.std.proofs.Common.{◌≡◌, ℕ, zero, suc, ◌+◌, ◌<◌, true, false, List, [], ◌∷◌, ◌++◌, length, take, drop, Option, Some, None, refl, sym, ap, subst, ◌∙◌, arith, inl, inr, eq-eqb}
use Rattle.std.specs.Prelude.{◌==◌, if◌then◌else◌, filter, fold, nat_lt, slice_get}
use Rattle.std.specs.List.{cons_option, enumerate_from, filter_map}
use Rattle.std.specs.Option.{IfSome, option_map_or}
use Rattle.std.proofs.lemmas.Bool.{cases_Bool, eqb-true}
use Rattle.std.proofs.lemmas.Bool.Decides.{nat_tests}
use Rattle.std.proofs.lemmas.List.Elements.{filter-append}
use Rattle.std.proofs.lemmas.List.Sums.{fold-append}
use Rattle.std.proofs.lemmas.Option.{get_or_from_slice_get, slice_get_within}
use Rattle.lk_link.specs.declared.plan.PlanSection.{PlanSection}
use Rattle.lk_link.specs.PlanSections.{no_section, section_at}
use Rattle.lk_expressions.specs.Records.{Record, nowhere, record_at}
use Rattle.lk_place.specs.declared.error.PlaceError.TheVariants.{AddressOverflow}
use Rattle.lk_place.specs.Secondaries.{is_fitting, is_secondary_to, joined, joined_among, merge_refusal, merged_among, overflowing, overfull, secondaries_among}
use Rattle.lk_place.specs.SecondariesSoFar.{joined_to, merged_by, merged_so_far}
use Rattle.lk_place.proofs.Checked.{AreGood}
use Rattle.lk_link.proofs.GoodLinks.{good_section}
use Rattle.lk_link.proofs.Places.{all_at}
use Rattle.lk_link.specs.Rules.{IsPrimary, is_good_section}
use Rattle.lk_link.specs.declared.fault.Place.TheVariants as place

-- the numbered elements up to the next one
take_numbered : {X : Type 0} (xs : List X) (x : X) (o n : ℕ) → slice_get xs n ≡ Some x → take (n + 1) (enumerate_from o xs) ≡ take n (enumerate_from o xs) ++ ((o + n, x) ∷ [])
take_numbered {X} [] x o n h = absurd (cc)
take_numbered {X} (y ∷ ys) x o zero h =
    let same : y ≡ x = cc in
    let at : o ≡ o + 0 = omega arith in
    cc
take_numbered {X} (y ∷ ys) x o (suc n) h =
    let at : (o + 1) + n ≡ o + suc n = omega arith in
    let more : take (n + 1) (enumerate_from (o + 1) ys) ≡ take n (enumerate_from (o + 1) ys) ++ (((o + 1) + n, x) ∷ []) = take_numbered ys x (o + 1) n h in
    let e : suc n + 1 ≡ suc (n + 1) = omega arith in
    ap (λ m. take m ((o, y) ∷ enumerate_from (o + 1) ys)) e
    ∙ ap (λ (zs : List (ℕ × X)). (o, y) ∷ zs) (more ∙ ap (λ m. take n (enumerate_from (o + 1) ys) ++ ((m, x) ∷ [])) at)

-- the secondaries up to the next section: that one too, if it is one
one_more : (sections : List PlanSection) (section : PlanSection) (n p : ℕ) → slice_get sections n ≡ Some section
    → secondaries_among sections (n + 1) p ≡ secondaries_among sections n p ++ (if is_secondary_to p section then (n, section) ∷ [] else [])
one_more sections section n p here =
    ap (filter (λ (q : ℕ × PlanSection). is_secondary_to p q.1)) (take_numbered sections section 0 n here)
    ∙ filter-append (λ (q : ℕ × PlanSection). is_secondary_to p q.1) (take n (enumerate_from 0 sections)) ((0 + n, section) ∷ [])
    ∙ ap (λ (m : ℕ). secondaries_among sections n p ++ (if is_secondary_to p section then (m, section) ∷ [] else [])) (omega arith)

-- what a section spans with it
pub joined_more : (sections : List PlanSection) (records : List Record) (section : PlanSection) (n p : ℕ) → slice_get sections n ≡ Some section
    → joined_among sections records (n + 1) p ≡ (if is_secondary_to p section then joined section (joined_among sections records n p) (record_at records n) else joined_among sections records n p)
joined_more sections records section n p here =
    let step : Record → (ℕ × PlanSection) → Record = λ h q. joined q.1 h (record_at records q.0) in
    ap (fold step (record_at records p)) (one_more sections section n p here)
    ∙ fold-append step (record_at records p) (secondaries_among sections n p) (if is_secondary_to p section then (n, section) ∷ [] else [])
    ∙ elim (is_secondary_to p section) as (λ b. fold step (joined_among sections records n p) (if b then (n, section) ∷ [] else []) ≡ (if b then joined section (joined_among sections records n p) (record_at records n) else joined_among sections records n p)) [ true ↦ refl | false ↦ refl ]

-- what is said of a primary, if there is one
pub if_primary : (P : ℕ → Type 0) (o : Option ℕ) → ((p : ℕ) → o ≡ Some p → P p) → IfSome o P
if_primary P None h = tt
if_primary P (Some p) h = h p refl

pub of_primary : (P : ℕ → Type 0) (o : Option ℕ) (p : ℕ) → IfSome o P → o ≡ Some p → P p
of_primary P None p h some = absurd (cc)
of_primary P (Some q) p h some = subst P (cc) h

-- ---- the records so far

not_same : (a b : ℕ) → (b == a) ≡ false → (a == b) ≡ false
not_same a b h = grind (arith, nat_tests)

before_end : (s n : ℕ) → s < n → nat_lt s n ≡ true
before_end s n h = grind (arith, nat_tests)

before_next : (n : ℕ) → nat_lt n (n + 1) ≡ true
before_next n = grind (arith, nat_tests)

-- no other section is before the next one and not before it
still : (s n : ℕ) → (s == n) ≡ false → nat_lt s n ≡ nat_lt s (n + 1)
still s n h = grind (arith, nat_tests)

-- a section that the next one isn't secondary to, and that isn't the next one, stays
stays : (o : Option ℕ) (sections : List PlanSection) (records : List Record) (section : PlanSection) (n s : ℕ) → slice_get sections n ≡ Some section
    → (o ≡ None → is_secondary_to s section ≡ false) → ((q : ℕ) → o ≡ Some q → (s == n) ≡ false)
    → merged_by o sections records n s ≡ merged_by o sections records (n + 1) s
stays None sections records section n s here free other =
    sym (joined_more sections records section n s here ∙ ap (λ b. if b then joined section (joined_among sections records n s) (record_at records n) else joined_among sections records n s) (free refl))
stays (Some q) sections records section n s here free other =
    ap (λ b. if b then nowhere else record_at records s) (still s n (other q refl))

-- the section with the next number
section_is : (sections : List PlanSection) (section : PlanSection) (n : ℕ) → slice_get sections n ≡ Some section → section_at sections n ≡ section
section_is sections section n here = get_or_from_slice_get sections n section no_section here

-- after a section that isn't secondary
after_primary : (o : Option ℕ) (sections : List PlanSection) (records : List Record) (section : PlanSection) (n s : ℕ) → slice_get sections n ≡ Some section → section.primary ≡ None
    → (section_at sections s).primary ≡ o → merged_by o sections records n s ≡ merged_by o sections records (n + 1) s
after_primary o sections records section n s here none is =
    stays o sections records section n s here (λ _. ap (λ (m : Option ℕ). option_map_or (λ k. k == s) m false) none) (λ q some.
    elim (cases_Bool (s == n)) [
      | inl at ↦
          let same : section_at sections s ≡ section = ap (section_at sections) (eqb-true s n at) ∙ section_is sections section n here in
          let both : None ≡ Some q = sym none ∙ sym (ap (λ (x : PlanSection). x.primary) same) ∙ is ∙ some in
          absurd (cc)
      | inr other ↦ other
    ])

-- after a secondary: it spans nothing
emptied : (o : Option ℕ) (sections : List PlanSection) (records : List Record) (n p : ℕ) → o ≡ Some p → merged_by o sections records (n + 1) n ≡ nowhere
emptied None sections records n p h = absurd (cc)
emptied (Some q) sections records n p h = ap (λ b. if b then nowhere else record_at records n) (before_next n)

-- its primary spans it too
stretched : (o : Option ℕ) (sections : List PlanSection) (records : List Record) (section : PlanSection) (n p : ℕ) → slice_get sections n ≡ Some section → section.primary ≡ Some p → o ≡ None
    → joined section (merged_by o sections records n p) (record_at records n) ≡ merged_by o sections records (n + 1) p
stretched None sections records section n p here some none =
    let yes : is_secondary_to p section ≡ true = ap (λ (m : Option ℕ). option_map_or (λ k. k == p) m false) some ∙ eq-eqb p p refl in
    sym (joined_more sections records section n p here ∙ ap (λ b. if b then joined section (joined_among sections records n p) (record_at records n) else joined_among sections records n p) yes)
stretched (Some q) sections records section n p here some none = absurd (cc)

-- what a section's record is after the next section is what it is to be
abbrev pub Goes : List PlanSection → List Record → ℕ → ℕ → Record → Type 0
Goes sections records n s r = r ≡ merged_so_far sections records n s

more_secondary : (sections : List PlanSection) (records old : List Record) (section : PlanSection) (n p s : ℕ) → slice_get sections n ≡ Some section → section.primary ≡ Some p
    → (section_at sections p).primary ≡ None → Goes sections records n s (record_at old s) → Goes sections records n p (record_at old p)
    → Goes sections records (n + 1) s (joined_to (Some p) section n (record_at records n) old s)
more_secondary sections records old section n p s here some first each there =
    let next : section_at sections n ≡ section = section_is sections section n here in
    elim (cases_Bool (s == n)) [
      | inl at ↦
          let same : s ≡ n = eqb-true s n at in
          ap (λ b. if b then nowhere else if s == p then joined section (record_at old p) (record_at records n) else record_at old s) at
          ∙ sym (ap (λ m. merged_so_far sections records (n + 1) m) same ∙ emptied (section_at sections n).primary sections records n p (ap (λ (x : PlanSection). x.primary) next ∙ some))
      | inr other ↦
          ap (λ b. if b then nowhere else if s == p then joined section (record_at old p) (record_at records n) else record_at old s) other
          ∙ elim (cases_Bool (s == p)) [
            | inl at ↦
                ap (λ b. if b then joined section (record_at old p) (record_at records n) else record_at old s) at
                ∙ ap (λ r. joined section r (record_at records n)) there
                ∙ stretched (section_at sections p).primary sections records section n p here some first
                ∙ ap (λ m. merged_so_far sections records (n + 1) m) (sym (eqb-true s p at))
            | inr away ↦
                ap (λ b. if b then joined section (record_at old p) (record_at records n) else record_at old s) away
                ∙ each
                ∙ stays (section_at sections s).primary sections records section n s here
                (λ _. ap (λ (m : Option ℕ). option_map_or (λ k. k == s) m false) some ∙ not_same p s away) (λ _ _. other)
          ]
    ]

-- all records after the next section
pub merged_more : (o : Option ℕ) (sections : List PlanSection) (records old : List Record) (section : PlanSection) (n s : ℕ) → slice_get sections n ≡ Some section → section.primary ≡ o
    → ((p : ℕ) → o ≡ Some p → (section_at sections p).primary ≡ None) → ((p : ℕ) → o ≡ Some p → p < length sections)
    → ((t : ℕ) → t < length sections → Goes sections records n t (record_at old t)) → s < length sections
    → Goes sections records (n + 1) s (joined_to o section n (record_at records n) old s)
merged_more None sections records old section n s here is first within each below =
    each s below ∙ after_primary (section_at sections s).primary sections records section n s here is refl
merged_more (Some p) sections records old section n s here is first within each below =
    more_secondary sections records old section n p s here is (first p refl) (each s below) (each p (within p refl))

-- ---- what passes 64 bits

-- what is left behind the next element
numbered_drop : {X : Type 0} (xs : List X) (x : X) (o n : ℕ) → slice_get xs n ≡ Some x → enumerate_from o (drop n xs) ≡ (o, x) ∷ enumerate_from (o + 1) (drop (n + 1) xs)
numbered_drop [] x o n h = absurd (cc)
numbered_drop {X} (y ∷ ys) x o zero h = ap (λ (z : X). (o, z) ∷ enumerate_from (o + 1) ys) (cc)
numbered_drop {X} (y ∷ ys) x o (suc n) h =
    let e : suc (n + 1) ≡ suc n + 1 = omega arith in
    numbered_drop ys x o n h ∙ ap (λ m. (o, x) ∷ enumerate_from (o + 1) (drop m (y ∷ ys))) e

-- the primary of a section that is there is there, and isn't secondary
pub primary_there : (sections : List PlanSection) (section : PlanSection) (n p : ℕ) → AreGood sections → slice_get sections n ≡ Some section → section.primary ≡ Some p → IsPrimary sections p
primary_there sections section n p good here some =
    let is = good_section sections section (all_at (is_good_section sections) sections n section good here) in
    is.primary p some

pub primary_below : (sections : List PlanSection) (section : PlanSection) (n p : ℕ) → AreGood sections → slice_get sections n ≡ Some section → section.primary ≡ Some p → p < length sections
primary_below sections section n p good here some =
    let there = primary_there sections section n p good here some in slice_get_within sections p there.0 there.1

pub primary_first : (sections : List PlanSection) (section : PlanSection) (n p : ℕ) → AreGood sections → slice_get sections n ≡ Some section → section.primary ≡ Some p → (section_at sections p).primary ≡ None
primary_first sections section n p good here some =
    let there = primary_there sections section n p good here some in
    ap (λ (x : PlanSection). x.primary) (section_is sections there.0 p there.1) ∙ there.2

-- what is joined is what it spans with it
pub joined_is : (sections : List PlanSection) (records old : List Record) (section : PlanSection) (n p : ℕ) → AreGood sections → slice_get sections n ≡ Some section → section.primary ≡ Some p
    → ((t : ℕ) → t < length sections → Goes sections records n t (record_at old t))
    → joined section (record_at old p) (record_at records n) ≡ joined_among sections records (n + 1) p
joined_is sections records old section n p good here some each =
    let first = primary_first sections section n p good here some in
    ap (λ r. joined section r (record_at records n)) (each p (primary_below sections section n p good here some))
    ∙ stretched (section_at sections p).primary sections records section n p here some first
    ∙ ap (λ (o : Option ℕ). merged_by o sections records (n + 1) p) first

-- a section that fits passes nothing
passes_none : (o : Option ℕ) (sections : List PlanSection) (records : List Record) (n : ℕ) → ((p : ℕ) → o ≡ Some p → is_fitting (joined_among sections records (n + 1) p) ≡ true) → overfull sections records n o ≡ None
passes_none None sections records n fits = refl
passes_none (Some p) sections records n fits = ap (λ b. if b then None else Some p) (fits p refl)

pub left_more : (sections : List PlanSection) (records : List Record) (section : PlanSection) (n : ℕ) → slice_get sections n ≡ Some section
    → ((p : ℕ) → section.primary ≡ Some p → is_fitting (joined_among sections records (n + 1) p) ≡ true)
    → filter_map (overflowing sections records) (enumerate_from n (drop n sections)) ≡ filter_map (overflowing sections records) (enumerate_from (n + 1) (drop (n + 1) sections))
left_more sections records section n here fits =
    ap (filter_map (overflowing sections records)) (numbered_drop sections section n n here)
    ∙ ap (λ (o : Option ℕ). cons_option o (filter_map (overflowing sections records) (enumerate_from (n + 1) (drop (n + 1) sections)))) (passes_none section.primary sections records n fits)

-- the first that doesn't fit is refused
pub refused_here : (sections : List PlanSection) (records : List Record) (section : PlanSection) (n p : ℕ) → slice_get sections n ≡ Some section → section.primary ≡ Some p
    → is_fitting (joined_among sections records (n + 1) p) ≡ false
    → filter_map (overflowing sections records) (enumerate_from n (drop n sections)) ≡ filter_map (overflowing sections records) (enumerate_from 0 sections)
    → merge_refusal sections records ≡ Some (AddressOverflow (place.Section p))
refused_here sections records section n p here some long left =
    let passes : overflowing sections records (n, section) ≡ Some p =
    ap (overfull sections records n) some ∙ ap (λ b. if b then None else Some p) long in
    let all = sym (ap (filter_map (overflowing sections records)) (numbered_drop sections section n n here)) ∙ left in
    cc

merged_end : (o : Option ℕ) (sections : List PlanSection) (records : List Record) (s : ℕ) → s < length sections
    → merged_by o sections records (length sections) s ≡ option_map_or (λ _. nowhere) o (joined_among sections records (length sections) s)
merged_end None sections records s below = refl
merged_end (Some p) sections records s below = ap (λ b. if b then nowhere else record_at records s) (before_end s (length sections) below)

-- at the end all are merged
pub merged_all : (sections : List PlanSection) (records : List Record) (n s : ℕ) → n ≡ length sections → s < length sections → merged_so_far sections records n s ≡ merged_among sections records (length sections) s
merged_all sections records n s all below =
    ap (λ m. merged_so_far sections records m s) all ∙ merged_end (section_at sections s).primary sections records s below
