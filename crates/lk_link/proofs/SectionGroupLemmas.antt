-- The members of section groups.
use Rattle.std.specs.List.{All, Contains, enumerate_from, filter}
use Rattle.std.specs.List.Sorted.{IsStrictlyIncreasing}
use Rattle.std.specs.Option.{option_map_or, option_to_list}
use Rattle.std.proofs.Common.{◌≡◌, ℕ, zero, suc, ◌+◌, ◌<◌, Bool, true, false, eqb, cond, List, [], ◌∷◌, ◌++◌, Option, Some, None, length, take, map, get_or, option_map, refl, sym, ap, ◌∙◌, ⊎_elim, subst, arith, add-one}
use Rattle.std.proofs.lemmas.Bool.{eqb-true, eq-eqb, cases_Bool}
use Rattle.std.proofs.lemmas.List.{length-take-le, map-append, take_more}
use Rattle.std.proofs.lemmas.List.Elements.{All-nil, All-cons, All-same, All-weaker, All-contains, filter-append}
use Rattle.lk_link.specs.declared.section.InputSection.{InputSection}
use Rattle.lk_link.specs.Numbered.{items_of}
use Rattle.lk_link.specs.SectionGroups.{group_members, is_member, GroupMembersRise, IsMember}

-- ---- one section more

numbers_more : {X : Type 0} (n : ℕ) (xs : List X) (x : X) → enumerate_from n (xs ++ x ∷ []) ≡ enumerate_from n xs ++ (n + length xs, x) ∷ []
numbers_more n [] x = let e : n ≡ n + 0 = omega arith in ap (λ k. (k, x) ∷ []) e
numbers_more n (y ∷ xs) x =
    let e : n + 1 + length xs ≡ n + suc (length xs) = omega arith in
    ap (λ ps. (n, y) ∷ ps) (numbers_more (n + 1) xs x) ∙ ap (λ k. (n, y) ∷ (enumerate_from (n + 1) xs ++ (k, x) ∷ [])) e

taken : (b : Bool) (g i : ℕ) (x : InputSection) → map (λ (p : ℕ × ℕ). p.1) (cond b ((g, i) ∷ []) []) ≡ map (λ (p : ℕ × InputSection). p.0) (cond b ((i, x) ∷ []) [])
taken true g i x = refl
taken false g i x = refl

-- what one section adds to the pairs, and to the members of a group
same_more : (o : Option ℕ) (i group : ℕ) (x : InputSection) → items_of group (option_to_list (option_map (λ g. (g, i)) o)) ≡ map (λ (p : ℕ × InputSection). p.0) (cond (option_map_or (λ g. eqb g group) o false) ((i, x) ∷ []) [])
same_more None i group x = refl
same_more (Some g) i group x = taken (eqb g group) g i x

items_append : {X : Type 0} (n : ℕ) (ps qs : List (ℕ × X)) → items_of n (ps ++ qs) ≡ items_of n ps ++ items_of n qs
items_append n ps qs = ap (λ rs. map (λ p. p.1) rs) (filter-append (λ p. eqb p.0 n) ps qs) ∙ map-append (λ p. p.1) (filter (λ p. eqb p.0 n) ps) (filter (λ p. eqb p.0 n) qs)

-- the pairs that are the index of some sections, and one section more
index_more : (xs : List InputSection) (x : InputSection) (ps : List (ℕ × ℕ)) (group : ℕ) → items_of group ps ≡ group_members xs group → items_of group (ps ++ option_to_list (option_map (λ g. (g, length xs)) x.group)) ≡ group_members (xs ++ x ∷ []) group
index_more xs x ps group h =
    let test : ℕ × InputSection → Bool = λ p. is_member group p.1 in
    let one : List (ℕ × ℕ) = option_to_list (option_map (λ g. (g, length xs)) x.group) in
    let numbers = numbers_more 0 xs x in
    let e : 0 + length xs ≡ length xs = omega arith in
    items_append group ps one
    ∙ ap (λ ys. ys ++ items_of group one) h
    ∙ ap (λ ys. group_members xs group ++ ys) (same_more x.group (length xs) group x)
    ∙ sym (ap (λ qs. map (λ p. p.0) (filter test qs)) (numbers ∙ ap (λ k. enumerate_from 0 xs ++ (k, x) ∷ []) e) ∙ ap (λ qs. map (λ p. p.0) qs) (filter-append test (enumerate_from 0 xs) ((length xs, x) ∷ [])) ∙ map-append (λ p. p.0) (filter test (enumerate_from 0 xs)) (filter test ((length xs, x) ∷ [])))

-- the next section of a list
pub next_index : (xs : List InputSection) (i : ℕ) (x : InputSection) (ps new : List (ℕ × ℕ)) (group : ℕ) → i < length xs → x ≡ get_or xs i x → new ≡ ps ++ option_to_list (option_map (λ g. (g, i)) x.group) → items_of group ps ≡ group_members (take i xs) group → items_of group new ≡ group_members (take (i + 1) xs) group
next_index xs i x ps new group lt at_i e h =
    let size : length (take i xs) ≡ i = length-take-le i xs (omega arith) in
    let more : take i xs ++ x ∷ [] ≡ take (i + 1) xs = sym (take_more xs i x lt ∙ ap (λ y. take i xs ++ y ∷ []) (sym at_i)) in
    ap (items_of group) e
    ∙ sym (ap (λ k. items_of group (ps ++ option_to_list (option_map (λ g. (g, k)) x.group))) size)
    ∙ index_more (take i xs) x ps group h
    ∙ ap (λ ys. group_members ys group) more

-- ---- the members

-- the members of a group, the first section having number n
abbrev members_from : ℕ → List InputSection → ℕ → List ℕ
members_from n sections group = map (λ p. p.0) (filter (λ p. is_member group p.1) (enumerate_from n sections))

-- i is the number of a member, the first section having number n
abbrev IsMemberFrom : ℕ → List InputSection → ℕ → ℕ → Type 0
IsMemberFrom n sections group i = (j : ℕ) × (i ≡ n + j) × IsMember sections group j

with_head : (n group : ℕ) (x : InputSection) (xs : List InputSection) → is_member group x ≡ true → members_from n (x ∷ xs) group ≡ n ∷ members_from (n + 1) xs group
with_head n group x xs e = ap (λ b. map (λ (p : ℕ × InputSection). p.0) (cond b ((n, x) ∷ filter (λ p. is_member group p.1) (enumerate_from (n + 1) xs)) (filter (λ p. is_member group p.1) (enumerate_from (n + 1) xs)))) e

without_head : (n group : ℕ) (x : InputSection) (xs : List InputSection) → is_member group x ≡ false → members_from n (x ∷ xs) group ≡ members_from (n + 1) xs group
without_head n group x xs e = ap (λ b. map (λ (p : ℕ × InputSection). p.0) (cond b ((n, x) ∷ filter (λ p. is_member group p.1) (enumerate_from (n + 1) xs)) (filter (λ p. is_member group p.1) (enumerate_from (n + 1) xs)))) e

group_of : (group : ℕ) (o : Option ℕ) → option_map_or (λ g. eqb g group) o false ≡ true → o ≡ Some group
group_of group None e = absurd (cc)
group_of group (Some g) e = ap (λ k. Some k) (eqb-true g group e)

in_group : (group : ℕ) (o : Option ℕ) → o ≡ Some group → option_map_or (λ g. eqb g group) o false ≡ true
in_group group o e = ap (λ w. option_map_or (λ g. eqb g group) w false) e ∙ eq-eqb group group refl

later : (n group : ℕ) (x : InputSection) (xs : List InputSection) (i : ℕ) → IsMemberFrom (n + 1) xs group i → IsMemberFrom n (x ∷ xs) group i
later n group x xs i h = (suc h.0, omega (arith, h.1), record { section = h.2.section; there = h.2.there; grouped = h.2.grouped })

-- all that are listed are members
all_members : (n : ℕ) (xs : List InputSection) (group : ℕ) → All (IsMemberFrom n xs group) (members_from n xs group)
all_members n [] group = All-nil (IsMemberFrom n [] group)
all_members n (x ∷ xs) group =
    let P = IsMemberFrom n (x ∷ xs) group in
    let rest = All-weaker (IsMemberFrom (n + 1) xs group) P (later n group x xs) (members_from (n + 1) xs group) (all_members (n + 1) xs group) in
    ⊎_elim
    (λ yes.
    let here : IsMemberFrom n (x ∷ xs) group n = (0, omega arith, record { section = x; there = refl; grouped = group_of group x.group yes }) in
    All-same P _ _ (with_head n group x xs yes) (All-cons P n (members_from (n + 1) xs group) here rest))
    (λ no. All-same P _ _ (without_head n group x xs no) rest)
    (cases_Bool (is_member group x))

in_tail : (n : ℕ) (ys : List ℕ) (i : ℕ) → Contains ys i → Contains (n ∷ ys) i
in_tail n ys i h = (suc h.0, omega (arith, h.1), h.2)

-- all members are listed
listed : (n : ℕ) (xs : List InputSection) (group j : ℕ) → IsMember xs group j → Contains (members_from n xs group) (n + j)
listed n [] group j h = absurd (let there = h.there in cc)
listed n (x ∷ xs) group zero h =
    let there = h.there in
    let same : x ≡ h.section = cc in
    let yes = in_group group x.group (ap (λ (s : InputSection). s.group) same ∙ h.grouped) in
    let here : Contains (n ∷ members_from (n + 1) xs group) n = (0, omega arith, refl) in
    let e : n ≡ n + 0 = omega arith in
    subst (λ i. Contains (members_from n (x ∷ xs) group) i) e (subst (λ ys. Contains ys n) (sym (with_head n group x xs yes)) here)
listed n (x ∷ xs) group (suc j) h =
    let rest = listed (n + 1) xs group j (record { section = h.section; there = h.there; grouped = h.grouped }) in
    let e : n + 1 + j ≡ n + suc j = omega arith in
    subst (λ i. Contains (members_from n (x ∷ xs) group) i) e (⊎_elim
    (λ yes. subst (λ ys. Contains ys (n + 1 + j)) (sym (with_head n group x xs yes)) (in_tail n (members_from (n + 1) xs group) (n + 1 + j) rest))
    (λ no. subst (λ ys. Contains ys (n + 1 + j)) (sym (without_head n group x xs no)) rest)
    (cases_Bool (is_member group x)))

above : (n : ℕ) (ys : List ℕ) → All (λ i. n < i) ys → IsStrictlyIncreasing ys → IsStrictlyIncreasing (n ∷ ys)
above n ys low h zero lt = low 0 0 (omega arith)
above n ys low h (suc k) lt = rw add-one (rw add-one at (h k (omega arith)))

-- the members rise
rise : (n : ℕ) (xs : List InputSection) (group : ℕ) → IsStrictlyIncreasing (members_from n xs group)
rise n [] group = λ k lt. absurd (omega arith)
rise n (x ∷ xs) group =
    let rest = rise (n + 1) xs group in
    ⊎_elim
    (λ yes.
    let low = All-weaker (IsMemberFrom (n + 1) xs group) (λ i. n < i) (λ i h. omega (arith, h.1)) (members_from (n + 1) xs group) (all_members (n + 1) xs group) in
    subst IsStrictlyIncreasing (sym (with_head n group x xs yes)) (above n (members_from (n + 1) xs group) low rest))
    (λ no. subst IsStrictlyIncreasing (sym (without_head n group x xs no)) rest)
    (cases_Bool (is_member group x))

-- the members of a group are the sections with its number, in rising order
pub members_rise : GroupMembersRise
members_rise = λ sections group. (
  λ i. (
    λ h.
        let m = All-contains (IsMemberFrom 0 sections group) (group_members sections group) i (all_members 0 sections group) h in
        let e : m.0 ≡ i = omega (arith, m.1) in
        subst (IsMember sections group) e m.2,
    λ h. let e : 0 + i ≡ i = omega arith in subst (λ k. Contains (group_members sections group) k) e (listed 0 sections group i h),
  ),
  rise 0 sections group,
)
