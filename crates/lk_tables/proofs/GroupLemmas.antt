-- Singletons by group: what is counted on the way, and that each is in one group.
use Rattle.std.proofs.Common.{◌≡◌, ℕ, zero, suc, ◌+◌, ◌-◌, ◌<◌, ◌≤◌, ◌^◌, ◌==◌, ◌&&◌, cond, min, Bool, true, false, if◌then◌else◌, List, [], ◌∷◌, ◌++◌, All, filter, length, map, replicate, sum_by, refl, ap, ◌∙◌, arith}
use Rattle.std.specs.List.{count_by, enumerate_from, slice_index_or}
use Rattle.std.proofs.lemmas.List.{length-replicate}
use Rattle.std.proofs.lemmas.List.Elements.{All-append, All-cons, All-filter, All-head, All-map, All-nil, All-tail}
use Rattle.std.proofs.lemmas.List.Sums.{count_by-le-length, length-filter, sum_by-cons}
use Rattle.lk_link.specs.declared.file.InputFile.{InputFile}
use Rattle.lk_link.specs.declared.link.LinkInput.{LinkInput}
use Rattle.lk_link.specs.declared.walks.InputRef.{InputRef}
use Rattle.lk_link.specs.Inputs.{Input, NumberedFile, all_inputs, files_from, group_files, inputs_from, inputs_of, numbered_file, numbered_files, numbered_section}
use Rattle.lk_link.specs.Walks.{input_of}
use Rattle.lk_link.specs.WellFormed.{IsWellFormed}
use Rattle.lk_live.specs.declared.live.Live.{Live}
use Rattle.lk_live.specs.Reach.{live_inputs, marked}
use Rattle.lk_live.specs.Slots.{is_singleton}
use Rattle.lk_tables.specs.SingletonCounts.{singleton_count, with_one}
use Rattle.lk_tables.specs.Singletons.{group_singletons, group_size, group_sizes, input_name_bytes, singletons}
use Rattle.lk_tables.proofs.ShareSums.{sum_alike, sum_both, sum_made}
use Rattle.lk_tables.proofs.SingletonLemmas.{count_next, singleton_names_few, singletons_few, sum_filtered, sum_next, sum_passes}

-- whether one is a singleton of a group
abbrev pub is_in : LinkInput → ℕ → Input → Bool
is_in link g x = x.file.group == g && is_singleton link x.section

-- the bytes of its name, if it is
abbrev pub name_in : LinkInput → ℕ → Input → ℕ
name_in link g x = if is_in link g x then input_name_bytes x else 0

-- what is counted for a group behind some
abbrev pub counted_of : LinkInput → ℕ → List Input → ℕ × ℕ
counted_of link g xs = (min (count_by (is_in link g) xs) (2 ^ 32 - 1), min (sum_by (name_in link g) xs) (2 ^ 64 - 1))

paired : (a b c d : ℕ) → a ≡ c → b ≡ d → ◌≡◌ {A = ℕ × ℕ} (a, b) (c, d)
paired a b c d h i = cc

-- and behind one more
counted_by : (b : Bool) (n c s c' s' : ℕ) (old new : ℕ × ℕ) → new ≡ (if b then with_one n old else old)
    → old ≡ (min c (2 ^ 32 - 1), min s (2 ^ 64 - 1)) → c' ≡ c + cond b 1 0 → s' ≡ s + (if b then n + 1 else 0)
    → new ≡ (min c' (2 ^ 32 - 1), min s' (2 ^ 64 - 1))
counted_by true n c s c' s' old new step so_far more longer =
    step ∙ ap (with_one n) so_far
    ∙ paired (min (min c (2 ^ 32 - 1) + 1) (2 ^ 32 - 1)) (min (min s (2 ^ 64 - 1) + (n + 1)) (2 ^ 64 - 1)) (min c' (2 ^ 32 - 1)) (min s' (2 ^ 64 - 1))
    (omega (arith, more)) (omega (arith, longer))
counted_by false n c s c' s' old new step so_far more longer =
    step ∙ so_far
    ∙ paired (min c (2 ^ 32 - 1)) (min s (2 ^ 64 - 1)) (min c' (2 ^ 32 - 1)) (min s' (2 ^ 64 - 1)) (omega (arith, more)) (omega (arith, longer))

pub counted_next : (link : LinkInput) (g : ℕ) (done : List InputRef) (x : InputRef) (one : Bool) (n : ℕ) (old new : ℕ × ℕ)
    → one ≡ is_singleton link (input_of x).section → n ≡ length (input_of x).section.name
    → new ≡ (if (input_of x).file.group == g && one then with_one n old else old)
    → old ≡ counted_of link g (map input_of done) → new ≡ counted_of link g (map input_of (done ++ x ∷ []))
counted_next link g done x one n old new is_one len step so_far =
    let y = input_of x in
    let exact : new ≡ (if is_in link g y then with_one (length y.section.name) old else old)
    = step ∙ ap (λ b. if y.file.group == g && b then with_one n old else old) is_one
    ∙ ap (λ m. if is_in link g y then with_one m old else old) len in
    counted_by (is_in link g y) (length y.section.name) (count_by (is_in link g) (map input_of done)) (sum_by (name_in link g) (map input_of done))
    (count_by (is_in link g) (map input_of (done ++ x ∷ []))) (sum_by (name_in link g) (map input_of (done ++ x ∷ []))) old new exact so_far
    (count_next (is_in link g) done x) (sum_next (name_in link g) done x)

-- ---- each is in one group

-- a number that is none of these
none_there : {X : Type 0} (n o : ℕ) (gs : List X) → n < o → sum_by (λ (q : ℕ × X). cond (n == q.0) 1 0) (enumerate_from o gs) ≡ 0
none_there n o [] h = refl
none_there n o (g ∷ gs) h =
    let other : n == o ≡ false = grind arith in
    omega (
      arith,
      sum_by-cons (λ (q : ℕ × _). cond (n == q.0) 1 0) (o, g) (enumerate_from (o + 1) gs),
      none_there n (o + 1) gs (omega arith),
      ap {B = ℕ} (λ b. cond b 1 0) other,
    )

-- and one that is
one_head : {X : Type 0} (n o : ℕ) (g : X) (gs : List X) (b : Bool) → n == o ≡ b → o ≤ n → n < o + length (g ∷ gs)
    → ((o + 1 ≤ n) → sum_by (λ (q : ℕ × X). cond (n == q.0) 1 0) (enumerate_from (o + 1) gs) ≡ 1)
    → sum_by (λ (q : ℕ × X). cond (n == q.0) 1 0) (enumerate_from o (g ∷ gs)) ≡ 1
one_head n o g gs true h from below rest =
    let same : n ≡ o = grind arith in
    omega (
      arith,
      sum_by-cons (λ (q : ℕ × _). cond (n == q.0) 1 0) (o, g) (enumerate_from (o + 1) gs),
      none_there n (o + 1) gs (omega arith),
      ap {B = ℕ} (λ b. cond b 1 0) h,
    )
one_head n o g gs false h from below rest =
    let behind : o + 1 ≤ n = grind arith in
    omega (
      arith,
      sum_by-cons (λ (q : ℕ × _). cond (n == q.0) 1 0) (o, g) (enumerate_from (o + 1) gs),
      rest behind,
      ap {B = ℕ} (λ b. cond b 1 0) h,
    )

one_there : {X : Type 0} (n o : ℕ) (gs : List X) → o ≤ n → n < o + length gs
    → sum_by (λ (q : ℕ × X). cond (n == q.0) 1 0) (enumerate_from o gs) ≡ 1
one_there n o [] from below = omega (arith, from, below)
one_there n o (g ∷ gs) from below =
    one_head n o g gs (n == o) refl from below (λ behind. one_there n (o + 1) gs behind (omega arith))

-- so counts by group come to all
pub counted_in_all : {X : Type 0} (xs : List Input) (gs : List X) → All (λ (x : Input). x.file.group < length gs) xs
    → sum_by (λ (q : ℕ × X). count_by (λ (x : Input). x.file.group == q.0) xs) (enumerate_from 0 gs) ≡ length xs
counted_in_all [] gs h = nothing 0 gs
  where
    nothing : {X : Type 0} (o : ℕ) (gs : List X) → sum_by (λ (q : ℕ × X). 0) (enumerate_from o gs) ≡ 0
    nothing o [] = refl
    nothing o (g ∷ gs) = nothing (o + 1) gs
counted_in_all {X = X} (x ∷ xs) gs h =
    let here : ℕ × X → ℕ = λ q. cond (x.file.group == q.0) 1 0 in
    let inside : x.file.group < length gs = All-head (λ (x : Input). x.file.group < length gs) x xs h in
    let below : x.file.group < 0 + length gs = omega (arith, inside) in
    let rest : ℕ × X → ℕ = λ q. count_by (λ (y : Input). y.file.group == q.0) xs in
    omega (
      arith,
      sum_alike (λ (q : ℕ × X). count_by (λ (y : Input). y.file.group == q.0) (x ∷ xs)) (λ q. here q + rest q) (enumerate_from 0 gs)
          (λ q. sum_by-cons (λ (y : Input). cond (y.file.group == q.0) 1 0) x xs),
      sum_both here rest (enumerate_from 0 gs),
      one_there x.file.group 0 gs (omega arith) below,
      counted_in_all xs gs (All-tail (λ (x : Input). x.file.group < length gs) x xs h),
    )

-- ---- the groups of input sections

files_in : (n g : ℕ) (groups : List (List InputFile)) → g + length groups ≤ n → All (λ (f : NumberedFile). f.id.group < n) (files_from g groups)
files_in n g [] h = All-nil (λ (f : NumberedFile). f.id.group < n)
files_in n g (files ∷ groups) h =
    All-append (λ (f : NumberedFile). f.id.group < n) (group_files g 0 files) (files_from (g + 1) groups)
    (All-map (λ (f : NumberedFile). f.id.group < n) (numbered_file g) (enumerate_from 0 files) (λ k d lt. omega arith))
    (files_in n (g + 1) groups (omega arith))

inputs_in : (n : ℕ) (fs : List NumberedFile) → All (λ (f : NumberedFile). f.id.group < n) fs → All (λ (x : Input). x.file.group < n) (inputs_of fs)
inputs_in n [] h = All-nil (λ (x : Input). x.file.group < n)
inputs_in n (f ∷ fs) h =
    let here : f.id.group < n = All-head (λ (f : NumberedFile). f.id.group < n) f fs h in
    All-append (λ (x : Input). x.file.group < n) (inputs_from f.id 0 f.file.sections) (inputs_of fs)
    (All-map (λ (x : Input). x.file.group < n) (numbered_section f.id) (enumerate_from 0 f.file.sections) (λ k d lt. here))
    (inputs_in n fs (All-tail (λ (f : NumberedFile). f.id.group < n) f fs h))

marked_by : {X : Type 0} (P : X → Type 0) (m : Bool) (x : X) (xs : List X) → P x → All P xs → All P (if m then x ∷ xs else xs)
marked_by P true x xs here rest = All-cons P x xs here rest
marked_by P false x xs here rest = rest

marked_in : {X : Type 0} (P : X → Type 0) (marks : List Bool) (xs : List X) → All P xs → All P (marked marks xs)
marked_in P [] xs h = All-nil P
marked_in P (m ∷ marks) [] h = All-nil P
marked_in P (m ∷ marks) (x ∷ xs) h =
    marked_by P m x (marked marks xs) (All-head P x xs h) (marked_in P marks xs (All-tail P x xs h))

singletons_in : (link : LinkInput) (live : Live) → All (λ (x : Input). x.file.group < length link.groups) (singletons link live)
singletons_in link live =
    let P : Input → Type 0 = λ x. x.file.group < length link.groups in
    All-filter (λ (x : Input). is_singleton link x.section) P (live_inputs link live)
    (marked_in P live.marks (all_inputs link.groups) (inputs_in (length link.groups) (numbered_files link.groups) (files_in (length link.groups) 0 link.groups (omega arith))))

-- the sizes of groups count all singletons
pub sizes_count : (link : LinkInput) (live : Live) → singleton_count (group_sizes link live) ≡ length (singletons link live)
sizes_count link live =
    let one : ℕ → Input → Bool = λ g x. x.file.group == g in
    sum_made (λ (g : ℕ × ℕ). g.0) (λ (q : ℕ × List InputFile). group_size link live q.0) (enumerate_from 0 link.groups)
    ∙ sum_alike (λ (q : ℕ × List InputFile). length (group_singletons link live q.0)) (λ q. count_by (one q.0) (singletons link live)) (enumerate_from 0 link.groups)
    (λ q. length-filter (one q.0) (singletons link live))
    ∙ counted_in_all (singletons link live) link.groups (singletons_in link live)

-- what is counted of a group behind all live sections is its size
pub size_counted : (link : LinkInput) (live : Live) (g : ℕ) → IsWellFormed link → counted_of link g (live_inputs link live) ≡ group_size link live g
size_counted link live g wf =
    let one : Input → Bool = λ x. x.file.group == g in
    let single : Input → Bool = λ x. is_singleton link x.section in
    let all : filter one (singletons link live) ≡ filter (is_in link g) (live_inputs link live) = both_pass one single (live_inputs link live) in
    let few = singletons_few link live wf in
    let short = singleton_names_few link live wf in
    paired (min (count_by (is_in link g) (live_inputs link live)) (2 ^ 32 - 1)) (min (sum_by (name_in link g) (live_inputs link live)) (2 ^ 64 - 1))
    (length (group_singletons link live g)) (sum_by input_name_bytes (group_singletons link live g))
    (omega (
      arith,
      few,
      length-filter (is_in link g) (live_inputs link live),
      ap {B = ℕ} (λ (xs : List Input). length xs) all,
      length-filter one (singletons link live),
      count_by-le-length one (singletons link live),
    ))
    (omega (
      arith,
      short,
      sum_filtered (is_in link g) input_name_bytes (live_inputs link live),
      ap (sum_by input_name_bytes) all,
      sum_passes one input_name_bytes (singletons link live),
    ))
  where
    -- two tests one after the other are one
    pass_by : {X : Type 0} (p q : X → Bool) (x : X) (xs : List X) (ys : List X) (b c : Bool) → p x ≡ b → q x ≡ c → filter p xs ≡ ys
        → filter p (if c then x ∷ xs else xs) ≡ (if b && c then x ∷ ys else ys)
    pass_by p q x xs ys true true h i rest = ap (λ d. if d then x ∷ filter p xs else filter p xs) h ∙ ap (λ zs. x ∷ zs) rest
    pass_by p q x xs ys false true h i rest = ap (λ d. if d then x ∷ filter p xs else filter p xs) h ∙ rest
    pass_by p q x xs ys true false h i rest = rest
    pass_by p q x xs ys false false h i rest = rest

    both_pass : {X : Type 0} (p q : X → Bool) (xs : List X) → filter p (filter q xs) ≡ filter (λ x. p x && q x) xs
    both_pass p q [] = refl
    both_pass p q (x ∷ xs) = pass_by p q x (filter q xs) (filter (λ x. p x && q x) xs) (p x) (q x) refl refl (both_pass p q xs)

-- at first nothing is counted
pub nothing_counted : (link : LinkInput) (sizes : List (ℕ × ℕ)) → sizes ≡ replicate (length link.groups) (0, 0)
    → (length sizes ≡ length link.groups) × ((g : ℕ) → g < length link.groups → slice_index_or sizes g (0, 0) ≡ counted_of link g [])
nothing_counted link sizes h = (
  ap (λ (xs : List (ℕ × ℕ)). length xs) h ∙ length-replicate (length link.groups) (0, 0),
  λ g lt. ap (λ xs. slice_index_or xs g (0, 0)) h ∙ all_alike (length link.groups) g,
)
  where
    all_alike : (n g : ℕ) → ◌≡◌ {A = ℕ × ℕ} (slice_index_or (replicate n (0, 0)) g (0, 0)) (0, 0)
    all_alike zero g = refl
    all_alike (suc n) zero = refl
    all_alike (suc n) (suc g) = all_alike n g
