-- One more section, whose primary's end is raised to its own.
use Rattle.std.proofs.Common.{◌≡◌, ◌∙◌, ap, arith, refl, sym, ℕ, zero, suc, ◌+◌, ◌<◌, ◌≤◌, true, false, List, [], ◌∷◌, ◌++◌, length, drop, take, map, Option, Some, None}
use Rattle.std.specs.Prelude.{if◌then◌else◌, filter, fold, max, slice_get}
use Rattle.std.specs.List.{enumerate_from, list_all, slice_index_or}
use Rattle.std.specs.Option.{IfSome}
use Rattle.std.proofs.Math.ListN.{drop_of_length-le}
use Rattle.std.proofs.Math.Seq.{take-append_seam}
use Rattle.std.proofs.lemmas.Option.{slice_get-get_or, slice_get_within}
use Rattle.lk_link.specs.declared.plan.PlanSection.{PlanSection}
use Rattle.lk_link.specs.Rules.{is_good_section}
use Rattle.lk_link.proofs.GoodLinks.{good_section}
use Rattle.lk_link.proofs.Places.{all_at}
use Rattle.lk_expressions.specs.Records.{Record, mem_end, record_at}
use Rattle.lk_place.specs.Secondaries.{is_secondary_to}

-- an end that is raised to those of the secondaries of section s among some sections, by their numbers
abbrev pub raised : List Record → ℕ → ℕ → List (ℕ × PlanSection) → ℕ
raised records s end qs = fold max end (map (λ t. mem_end (record_at records t)) (map (λ q. q.0) (filter (λ q. is_secondary_to s q.1) qs)))

-- the first of these, and the others
raised_first : (records : List Record) (s end n : ℕ) (section : PlanSection) (qs : List (ℕ × PlanSection))
    → raised records s end ((n, section) ∷ qs)
    ≡ raised records s (if is_secondary_to s section then max end (mem_end (record_at records n)) else end) qs
raised_first records s end n section qs =
    elim (is_secondary_to s section) as (λ b. fold max end (map (λ t. mem_end (record_at records t)) (map (λ q. q.0) (if b then (n, section) ∷ filter (λ q. is_secondary_to s q.1) qs else filter (λ q. is_secondary_to s q.1) qs)))
    ≡ raised records s (if b then max end (mem_end (record_at records n)) else end) qs) [ true ↦ refl | false ↦ refl ]

-- what is left behind the next element
numbered_drop : {X : Type 0} (xs : List X) (x : X) (o n : ℕ) → slice_get xs n ≡ Some x → enumerate_from o (drop n xs) ≡ (o, x) ∷ enumerate_from (o + 1) (drop (n + 1) xs)
numbered_drop [] x o n h = absurd (cc)
numbered_drop {X} (y ∷ ys) x o zero h = ap (λ (z : X). (o, z) ∷ enumerate_from (o + 1) ys) (cc)
numbered_drop {X} (y ∷ ys) x o (suc n) h =
    let e : suc (n + 1) ≡ suc n + 1 = omega arith in
    numbered_drop ys x o n h ∙ ap (λ m. (o, x) ∷ enumerate_from (o + 1) (drop m (y ∷ ys))) e

-- what is left raises the next end to what it was to be raised to
pub raised_more : (sections : List PlanSection) (records : List Record) (section : PlanSection) (n s end next : ℕ) → slice_get sections n ≡ Some section
    → next ≡ (if is_secondary_to s section then max end (mem_end (record_at records n)) else end)
    → raised records s next (enumerate_from (n + 1) (drop (n + 1) sections)) ≡ raised records s end (enumerate_from n (drop n sections))
raised_more sections records section n s end next here is =
    let rest : List (ℕ × PlanSection) = enumerate_from (n + 1) (drop (n + 1) sections) in
    ap (λ e. raised records s e rest) is
    ∙ sym (raised_first records s end n section rest)
    ∙ ap (raised records s end) (sym (numbered_drop sections section n n here))

-- behind the last section nothing raises an end
pub none_left : (sections : List PlanSection) (records : List Record) (n s end : ℕ) → length sections ≤ n
    → end ≡ raised records s end (enumerate_from n (drop n sections))
none_left sections records n s end far = ap (λ (xs : List PlanSection). raised records s end (enumerate_from n xs)) (sym (drop_of_length-le sections far))

-- ---- what is read and written by number

-- an element of a list, by the same list that is lent
pub read_there : {X : Type 0} (xs ys : List X) (k : ℕ) (x : X) → ys ≡ xs → k < length ys → x ≡ slice_index_or ys k x → slice_get xs k ≡ Some x
read_there {X} xs ys k x same below is = ap (λ (zs : List X). slice_get zs k) (sym same) ∙ slice_get-get_or ys k x below ∙ ap (λ (y : X). Some y) (sym is)

-- a vector whose elements were all written has those that were
pub written_back : {X : Type 0} (n : ℕ) (new old : List X) → n ≡ length new → take n (new ++ drop (length new) old) ≡ new
written_back {X} n new old all = ap (λ (k : ℕ). take k (new ++ drop (length new) old)) all ∙ take-append_seam new (drop (length new) old)

-- what is said of a primary, if there is one
pub if_primary : (P : ℕ → Type 0) (o : Option ℕ) → ((p : ℕ) → o ≡ Some p → P p) → IfSome o P
if_primary P None h = tt
if_primary P (Some p) h = h p refl

-- the primary of a good section is there
pub primary_below : (sections : List PlanSection) (section : PlanSection) (n p : ℕ) → list_all (is_good_section sections) sections ≡ true
    → slice_get sections n ≡ Some section → section.primary ≡ Some p → p < length sections
primary_below sections section n p good here some =
    let there = (good_section sections section (all_at (is_good_section sections) sections n section good here)).primary p some in
    slice_get_within sections p there.0 there.1
