-- A section that is moved in the file keeps the ends of what sections span with their secondaries below 2^64.
use Rattle.std.proofs.Common.{◌≡◌, ℕ, zero, suc, ◌+◌, ◌≤◌, ◌<◌, ◌^◌, Bool, true, false, List, [], ◌∷◌, length, take, Option, Some, None, refl, sym, ap, subst, ◌∙◌, arith, inl, inr}
use Rattle.std.specs.Prelude.{◌==◌, ◌&&◌, if◌then◌else◌, filter, fold, max, nat_lt, slice_get, sum_by, option_map}
use Rattle.std.specs.List.{cons_option, enumerate_from, filter_map}
use Rattle.std.specs.Option.{option_map_or}
use Rattle.std.proofs.lemmas.Bool.{cases_Bool}
use Rattle.std.proofs.lemmas.Bool.Decides.{nat_tests}
use Rattle.std.proofs.lemmas.List.Sums.{sum_by-cons}
use Rattle.lk_link.specs.declared.fault.Place.TheVariants as place
use Rattle.lk_link.specs.declared.plan.PlanSection.{PlanSection}
use Rattle.lk_link.specs.Rules.{is_good_section}
use Rattle.std.specs.List.{list_all}
use Rattle.lk_link.proofs.GoodLinks.{good_section}
use Rattle.lk_link.proofs.Places.{all_at}
use Rattle.lk_expressions.specs.Records.{Record, file_end, mem_end, record_at}
use Rattle.lk_place.specs.declared.error.PlaceError.{PlaceError}
use Rattle.lk_place.specs.declared.error.PlaceError.TheVariants.{AddressOverflow}
use Rattle.lk_place.specs.Secondaries.{is_fitting, is_secondary_to, joined, joined_among, joined_size, merge_refusal, overflowing, overfull, secondaries_among}
use Rattle.lk_layout.specs.FileRanges.{file_bytes}
use Rattle.lk_layout.proofs.SameMemory.{SameMemories}

-- in memory all stands as it did; in the file nothing got longer, and what ends elsewhere starts no later than this
pub record MovesTo (old new : List Record) (start : ℕ) : Type 0 where
  pub memory : SameMemories new old
  pub sizes : (s : ℕ) → (record_at new s).file_size ≤ (record_at old s).file_size
  pub ends : (s : ℕ) → file_end (record_at new s) ≤ max (file_end (record_at old s)) (start + (record_at old s).file_size)

-- ---- one more secondary

joined_end : (b : Bool) (io is ho hs mo ms oo os start most : ℕ) → io + is ≤ max (ho + hs) (start + most) → ms ≤ os → mo + ms ≤ max (oo + os) (start + os)
    → io + joined_size b io is mo ms ≤ max (ho + joined_size b ho hs oo os) (start + (most + os))
joined_end true io is ho hs mo ms oo os start most end size ends = omega (arith, end, size, ends)
joined_end false io is ho hs mo ms oo os start most end size ends = omega (arith, end, size, ends)

-- what records span one after the other, from a first one on
abbrev span : List Record → Record → List (ℕ × PlanSection) → Record
span records h qs = fold (λ h q. joined q.1 h (record_at records q.0)) h qs

record AreLow (old new : List Record) (start most : ℕ) (h i : Record) (qs : List (ℕ × PlanSection)) : Type 0 where
  file : file_end (span new i qs) ≤ max (file_end (span old h qs)) (start + (most + sum_by (λ q. (record_at old q.0).file_size) qs))
  memory : mem_end (span new i qs) ≡ mem_end (span old h qs)

low_ends : (old new : List Record) (start most : ℕ) (h i : Record) (qs : List (ℕ × PlanSection)) → MovesTo old new start → file_end i ≤ max (file_end h) (start + most)
    → i.mem_offset ≡ h.mem_offset → i.mem_size ≡ h.mem_size → AreLow old new start most h i qs
low_ends old new start most h i [] moves end at size =
    record { file = omega (arith, end); memory = λ j. at j + size j }
low_ends old new start most h i (q ∷ qs) moves end at size =
    let n : Record = record_at new q.0 in
    let o : Record = record_at old q.0 in
    let c : Bool = q.1.counters in
    let alike = moves.memory q.0 in
    let longer : (joined q.1 i n).mem_size ≡ (joined q.1 h o).mem_size = λ j. joined_size c (at j) (size j) (alike.start j) (alike.size j) in
    let ends : file_end (joined q.1 i n) ≤ max (file_end (joined q.1 h o)) (start + (most + o.file_size))
    = joined_end c i.file_offset i.file_size h.file_offset h.file_size n.file_offset n.file_size o.file_offset o.file_size start most end (moves.sizes q.0) (moves.ends q.0) in
    let rest = low_ends old new start (most + o.file_size) (joined q.1 h o) (joined q.1 i n) qs moves ends at longer in
    record { file = omega (arith, rest.file, sum_by-cons (λ (x : ℕ × PlanSection). (record_at old x.0).file_size) q qs); memory = rest.memory }

-- ---- sums

-- those that are picked among the first few take no more than all
picked_sum : (f : ℕ × PlanSection → ℕ) (p : ℕ × PlanSection → Bool) (n : ℕ) (xs : List (ℕ × PlanSection)) → sum_by f (filter p (take n xs)) ≤ sum_by f xs
picked_sum f p zero xs = omega arith
picked_sum f p (suc n) [] = omega arith
picked_sum f p (suc n) (x ∷ xs) =
    let rest = picked_sum f p n xs in
    elim (p x) as (λ b. sum_by f (if b then x ∷ filter p (take n xs) else filter p (take n xs)) ≤ sum_by f (x ∷ xs)) [
      | true ↦ omega (arith, rest, sum_by-cons f x xs, sum_by-cons f x (filter p (take n xs)))
      | false ↦ omega (arith, rest, sum_by-cons f x xs)
    ]

-- with one that isn't picked, still no more than all
with_own_sum : (f : ℕ → ℕ) (p k o n : ℕ) (sections : List PlanSection) (x : PlanSection) → p ≡ o + k → slice_get sections k ≡ Some x → is_secondary_to p x ≡ false
    → f p + sum_by (λ q. f q.0) (filter (λ q. is_secondary_to p q.1) (take n (enumerate_from o sections))) ≤ sum_by (λ q. f q.0) (enumerate_from o sections)
with_own_sum f p k o n [] x at here free = absurd (cc)
with_own_sum f p zero o zero (y ∷ ys) x at here free =
    let same : f p ≡ f o = let e : p ≡ o = omega (arith, at) in ap f e in
    omega (arith, same, sum_by-cons (λ (q : ℕ × PlanSection). f q.0) (o, y) (enumerate_from (o + 1) ys))
with_own_sum f p zero o (suc n) (y ∷ ys) x at here free =
    let same : f p ≡ f o = let e : p ≡ o = omega (arith, at) in ap f e in
    let first : y ≡ x = cc in
    let none : is_secondary_to p y ≡ false = ap (is_secondary_to p) first ∙ free in
    let rest = picked_sum (λ (q : ℕ × PlanSection). f q.0) (λ q. is_secondary_to p q.1) n (enumerate_from (o + 1) ys) in
    let left : List (ℕ × PlanSection) = filter (λ q. is_secondary_to p q.1) (take n (enumerate_from (o + 1) ys)) in
    subst (λ b. f p + sum_by (λ (q : ℕ × PlanSection). f q.0) (if b then (o, y) ∷ left else left) ≤ sum_by (λ (q : ℕ × PlanSection). f q.0) (enumerate_from o (y ∷ ys))) (sym none) (omega (arith, same, rest, sum_by-cons (λ (q : ℕ × PlanSection). f q.0) (o, y) (enumerate_from (o + 1) ys)))
with_own_sum f p (suc k) o zero (y ∷ ys) x at here free =
    let rest = with_own_sum f p k (o + 1) zero ys x (omega (arith, at)) here free in
    omega (arith, rest, sum_by-cons (λ (q : ℕ × PlanSection). f q.0) (o, y) (enumerate_from (o + 1) ys))
with_own_sum f p (suc k) o (suc n) (y ∷ ys) x at here free =
    let rest = with_own_sum f p k (o + 1) n ys x (omega (arith, at)) here free in
    let left : List (ℕ × PlanSection) = filter (λ q. is_secondary_to p q.1) (take n (enumerate_from (o + 1) ys)) in
    elim (is_secondary_to p y) as (λ b. f p + sum_by (λ (q : ℕ × PlanSection). f q.0) (if b then (o, y) ∷ left else left) ≤ sum_by (λ (q : ℕ × PlanSection). f q.0) (enumerate_from o (y ∷ ys))) [
      | true ↦ omega (arith, rest, sum_by-cons (λ (q : ℕ × PlanSection). f q.0) (o, y) (enumerate_from (o + 1) ys), sum_by-cons (λ (q : ℕ × PlanSection). f q.0) (o, y) left)
      | false ↦ omega (arith, rest, sum_by-cons (λ (q : ℕ × PlanSection). f q.0) (o, y) (enumerate_from (o + 1) ys))
    ]

-- by number they take what the records take
numbered_sum : (f : ℕ → ℕ) (o : ℕ) (sections : List PlanSection) (records : List Record) → length sections ≡ length records
    → ((k : ℕ) → k < length records → f (o + k) ≡ (record_at records k).file_size) → sum_by (λ q. f q.0) (enumerate_from o sections) ≤ file_bytes records
numbered_sum f o [] records same each = omega arith
numbered_sum f o (x ∷ xs) [] same each = absurd (omega (arith, same))
numbered_sum f o (x ∷ xs) (r ∷ rs) same each =
    let first : f o ≡ r.file_size = let e : o ≡ o + 0 = omega arith in ap f e ∙ each 0 (omega arith) in
    let rest = numbered_sum f (o + 1) xs rs (omega (arith, same))
    (λ k below. let e : (o + 1) + k ≡ o + suc k = omega arith in ap f e ∙ each (suc k) (omega (arith, below))) in
    omega (arith, first, rest, sum_by-cons (λ (q : ℕ × PlanSection). f q.0) (o, x) (enumerate_from (o + 1) xs), sum_by-cons (λ (y : Record). y.file_size) r rs)

-- ---- one primary

both_fit : (a b : ℕ) → (nat_lt a (2 ^ 64) && nat_lt b (2 ^ 64)) ≡ true → (a < 2 ^ 64) × (b < 2 ^ 64)
both_fit a b h = (grind (arith, nat_tests), grind (arith, nat_tests))

fit_both : (a b : ℕ) → a < 2 ^ 64 → b < 2 ^ 64 → (nat_lt a (2 ^ 64) && nat_lt b (2 ^ 64)) ≡ true
fit_both a b h g = grind (arith, nat_tests)

-- what a primary spans with its secondaries still fits
still_fits : (sections : List PlanSection) (old new : List Record) (start n p : ℕ) → MovesTo old new start → start + file_bytes old < 2 ^ 64
    → (record_at old p).file_size + sum_by (λ q. (record_at old q.0).file_size) (secondaries_among sections n p) ≤ file_bytes old
    → is_fitting (joined_among sections old n p) ≡ true → is_fitting (joined_among sections new n p) ≡ true
still_fits sections old new start n p moves room few fits =
    let alike = moves.memory p in
    let low = low_ends old new start (record_at old p).file_size (record_at old p) (record_at new p) (secondaries_among sections n p) moves (moves.ends p) alike.start alike.size in
    let before = both_fit (file_end (joined_among sections old n p)) (mem_end (joined_among sections old n p)) fits in
    fit_both (file_end (joined_among sections new n p)) (mem_end (joined_among sections new n p)) (omega (arith, low.file, before.0, room, few)) (omega (arith, low.memory, before.1))

-- ---- all of them

-- where f picks none, neither does what picks where f does alone
none_picked : {X Y : Type 0} (f g : X → Option Y) (xs : List X) → ((k : ℕ) (x : X) → slice_get xs k ≡ Some x → f x ≡ None → g x ≡ None) → filter_map f xs ≡ [] → filter_map g xs ≡ []
none_picked f g [] each none = refl
none_picked {X} {Y} f g (x ∷ xs) each none =
    let parts : (o : Option Y) (ys : List Y) → cons_option o ys ≡ [] → (o ≡ None) × (ys ≡ [])
    = λ o ys. elim o as (λ (o : Option Y). cons_option o ys ≡ [] → (o ≡ None) × (ys ≡ [])) [ None ↦ λ h. (refl, h) | (Some y) ↦ λ h. absurd (cc) ] in
    let both = parts (f x) (filter_map f xs) none in
    let first : g x ≡ None = each 0 x refl both.0 in
    let rest : filter_map g xs ≡ [] = none_picked f g xs (λ k y at. each (suc k) y at) both.1 in
    λ i. cons_option (first i) (rest i)

first_none : {X Y : Type 0} (f : X → Y) (xs : List X) → option_map f (slice_get xs 0) ≡ None → xs ≡ []
first_none f [] h = refl
first_none f (x ∷ xs) h = absurd (cc)

-- the elements of a numbered list
pub numbered_at : (sections : List PlanSection) (o k : ℕ) (q : ℕ × PlanSection) → slice_get (enumerate_from o sections) k ≡ Some q → (q.0 ≡ o + k) × (slice_get sections k ≡ Some q.1)
numbered_at [] o k q h = absurd (cc)
numbered_at (x ∷ xs) o zero q h =
    let same : (o, x) ≡ q = cc in
    (sym (ap (λ (r : ℕ × PlanSection). r.0) same) ∙ omega arith, ap (λ (r : ℕ × PlanSection). Some r.1) same)
numbered_at (x ∷ xs) o (suc k) q h =
    let rest = numbered_at xs (o + 1) k q h in
    (rest.0 ∙ omega arith, rest.1)

-- of one section
still_room : (sections : List PlanSection) (old new : List Record) (start n : ℕ) (o : Option ℕ) → MovesTo old new start → start + file_bytes old < 2 ^ 64
    → ((p : ℕ) → o ≡ Some p → (record_at old p).file_size + sum_by (λ q. (record_at old q.0).file_size) (secondaries_among sections (n + 1) p) ≤ file_bytes old)
    → overfull sections old n o ≡ None → overfull sections new n o ≡ None
still_room sections old new start n None moves room few none = refl
still_room sections old new start n (Some p) moves room few none =
    elim (cases_Bool (is_fitting (joined_among sections old (n + 1) p))) [
      | inl fits ↦ ap (λ b. if b then None else Some p) (still_fits sections old new start (n + 1) p moves room (few p refl) fits)
      | inr past ↦
          let some : Some p ≡ None = sym (ap (λ b. if b then None else Some p) past) ∙ none in
          absurd (cc)
    ]

-- where all sections fit behind the start, moving one refuses no secondary
pub moves_keep : (sections : List PlanSection) (old new : List Record) (start : ℕ) → list_all (is_good_section sections) sections ≡ true → length sections ≡ length old
    → MovesTo old new start → start + file_bytes old < 2 ^ 64 → merge_refusal sections old ≡ None → merge_refusal sections new ≡ None
moves_keep sections old new start good count moves room none =
    let fail : ℕ → PlaceError = λ p. AddressOverflow (place.Section p) in
    let before : filter_map (overflowing sections old) (enumerate_from 0 sections) ≡ [] = first_none fail (filter_map (overflowing sections old) (enumerate_from 0 sections)) none in
    let each : (k : ℕ) (q : ℕ × PlanSection) → slice_get (enumerate_from 0 sections) k ≡ Some q → overflowing sections old q ≡ None → overflowing sections new q ≡ None
    = λ k q at free.
    let here = numbered_at sections 0 k q at in
    still_room sections old new start q.0 q.1.primary moves room (λ p some.
    let there = (good_section sections q.1 (all_at (is_good_section sections) sections k q.1 good here.1)).primary p some in
    let alone : is_secondary_to p there.0 ≡ false = ap (λ (m : Option ℕ). option_map_or (λ j. j == p) m false) there.2 in
    let own = with_own_sum (λ s. (record_at old s).file_size) p p 0 (q.0 + 1) sections there.0 (omega arith) there.1 alone in
    let all = numbered_sum (λ s. (record_at old s).file_size) 0 sections old count (λ j below. let e : 0 + j ≡ j = omega arith in ap (λ s. (record_at old s).file_size) e) in
    omega (arith, own, all)) free in
    let after : filter_map (overflowing sections new) (enumerate_from 0 sections) ≡ [] = none_picked (overflowing sections old) (overflowing sections new) (enumerate_from 0 sections) each before in
    ap (λ (ps : List ℕ). option_map fail (slice_get ps 0)) after
