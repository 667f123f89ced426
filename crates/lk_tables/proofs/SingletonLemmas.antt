-- How many sections output that is linked again tells one by one, and the bytes of their entries and names.
use Rattle.std.proofs.Common.{◌≡◌, ℕ, zero, suc, ◌+◌, ◌*◌, ◌-◌, ◌≤◌, ◌^◌, ◌&&◌, cond, min, not, Bool, true, false, if◌then◌else◌, List, [], ◌∷◌, ◌++◌, filter, length, map, sum_by, refl, sym, ap, ◌∙◌, arith}
use Rattle.std.specs.List.{count_by, enumerate_from, flat_map, range_with_len}
use Rattle.std.proofs.lemmas.List.{length-map, map_push}
use Rattle.std.proofs.lemmas.List.Filters.{sum_by-filter_both}
use Rattle.std.proofs.lemmas.List.FromFn.{length-enumerate_from}
use Rattle.std.proofs.lemmas.List.Sums.{count_by-le-length, length-filter, sum_by-append, sum_by-cons, sum_by_push}
use Rattle.lk_link.specs.declared.fault.Limited.TheVariants as limited
use Rattle.lk_link.specs.declared.file.InputFile.{InputFile}
use Rattle.lk_link.specs.declared.link.LinkInput.{LinkInput}
use Rattle.lk_link.specs.declared.plan.PlanSection.{PlanSection}
use Rattle.lk_link.specs.declared.section.InputSection.{InputSection}
use Rattle.lk_link.specs.declared.symbol.InputSymbol.{InputSymbol}
use Rattle.lk_link.specs.declared.walks.InputRef.{InputRef}
use Rattle.lk_link.specs.Inputs.{Input, NumberedFile, all_inputs, group_files, inputs_from, numbered_file, numbered_files, numbered_section}
use Rattle.lk_link.specs.Limits.{counted, file_name_bytes, limit_of, name_bytes, over_files}
use Rattle.lk_link.specs.Marks.{is_marked}
use Rattle.lk_link.specs.OutputKinds.{is_partial}
use Rattle.lk_link.specs.Walks.{input_of}
use Rattle.lk_link.specs.PartRules.{is_singleton_part}
use Rattle.lk_link.specs.WellFormed.{IsWellFormed}
use Rattle.lk_link.proofs.InputLemmas.{inputs_follow}
use Rattle.lk_live.specs.declared.live.Live.{Live}
use Rattle.lk_live.specs.Reach.{live_inputs, marked}
use Rattle.lk_live.specs.Slots.{is_singleton}
use Rattle.lk_reach.proofs.SymbolNumbers.{inputs_few}
use Rattle.lk_tables.specs.ShareSteps.{own_locals}
use Rattle.lk_tables.specs.Singletons.{input_name_bytes, singleton_name_bytes, singletons, told_sections}
use Rattle.lk_tables.specs.SymbolTable.{TableEntry, entry_bytes, first_entry, local_start, section_entry, section_symbols, singleton_entry}
use Rattle.lk_tables.proofs.HeaderLemmas.{sum_same}
use Rattle.lk_tables.proofs.ShareSums.{sum_alike, sum_made}
use Rattle.lk_tables.proofs.TableSums.{sum_numbered}

-- ---- what the table of local symbols has itself

symbols_bytes : (p : Bool) (entry : ℕ) (ss : List ℕ) (xs : List Input)
    → entry + entry_bytes (if p then map (section_entry entry) ss ++ map (singleton_entry entry) xs else [])
    ≡ entry * (if p then 1 + length ss + length xs else 1)
symbols_bytes true entry ss xs =
    omega (
      arith,
      sum_by-append (λ (e : TableEntry). e.bytes) (map (section_entry entry) ss) (map (singleton_entry entry) xs),
      sum_same entry (section_entry entry) ss (λ s. refl),
      sum_same entry (singleton_entry entry) xs (λ x. refl),
    )
symbols_bytes false entry ss xs = omega arith

pub start_bytes : (entry : ℕ) (link : LinkInput) (live : Live) (told : List Bool)
    → entry_bytes (local_start entry link live told) ≡ entry * own_locals link live told
start_bytes entry link live told =
    sum_by-cons (λ (e : TableEntry). e.bytes) (first_entry entry) (section_symbols entry link live told)
    ∙ symbols_bytes (is_partial link.options.output) entry (told_sections link told) (singletons link live)

-- ---- how many there are

sum_at_most_of : {X : Type 0} (f g : X → ℕ) → ((x : X) → f x ≤ g x) → (xs : List X) → sum_by f xs ≤ sum_by g xs
sum_at_most_of f g h [] = omega arith
sum_at_most_of f g h (x ∷ xs) = omega (arith, h x, sum_at_most_of f g h xs, sum_by-cons f x xs, sum_by-cons g x xs)

-- what is marked is some of all
sum_marked : (f : Input → ℕ) (marks : List Bool) (xs : List Input) → sum_by f (marked marks xs) ≤ sum_by f xs
sum_marked f [] xs = omega arith
sum_marked f (m ∷ marks) [] = omega arith
sum_marked f (true ∷ marks) (x ∷ xs) = omega (arith, sum_marked f marks xs, sum_by-cons f x (marked marks xs), sum_by-cons f x xs)
sum_marked f (false ∷ marks) (x ∷ xs) = omega (arith, sum_marked f marks xs, sum_by-cons f x xs)

length_marked : (marks : List Bool) (xs : List Input) → length (marked marks xs) ≤ length xs
length_marked [] xs = omega arith
length_marked (m ∷ marks) [] = omega arith
length_marked (true ∷ marks) (x ∷ xs) = omega (arith, length_marked marks xs)
length_marked (false ∷ marks) (x ∷ xs) = omega (arith, length_marked marks xs)

-- what passes too
pub sum_passes : {X : Type 0} (p : X → Bool) (f : X → ℕ) (xs : List X) → sum_by f (filter p xs) ≤ sum_by f xs
sum_passes p f xs = omega (arith, sum_by-filter_both p (λ x. not (p x)) (λ x. refl) f xs)

none_pass : {X : Type 0} (xs : List X) → filter (λ _. false) xs ≡ []
none_pass [] = refl
none_pass (x ∷ xs) = none_pass xs

-- other output has none
pub no_singletons : (link : LinkInput) (live : Live) → is_partial link.options.output ≡ false → singletons link live ≡ []
no_singletons link live h =
    ap (λ b. filter (λ (x : Input). b && is_singleton_part link.plan x.section.part) (live_inputs link live)) h ∙ none_pass (live_inputs link live)

pub singletons_few : (link : LinkInput) (live : Live) → IsWellFormed link → length (singletons link live) ≤ 16777216
singletons_few link live wf =
    let one : Input → Bool = λ x. is_singleton link x.section in
    omega (
      arith,
      length-filter one (live_inputs link live),
      count_by-le-length one (live_inputs link live),
      length_marked live.marks (all_inputs link.groups),
      inputs_follow.count link.groups,
      inputs_few link wf,
    )

pub told_few : (link : LinkInput) (told : List Bool) → IsWellFormed link → length (told_sections link told) ≤ 65279
unfolding counted limit_of
told_few link told wf =
    let numbers = map (λ (q : ℕ × PlanSection). q.0) (enumerate_from 0 link.plan.sections) in
    let few : length link.plan.sections ≤ 65279 = wf.within limited.OutputSections in
    omega (
      arith,
      few,
      length-filter (is_marked told) numbers,
      count_by-le-length (is_marked told) numbers,
      length-map (enumerate_from 0 link.plan.sections) (λ (q : ℕ × PlanSection). q.0),
      length-enumerate_from 0 link.plan.sections,
    )

own_by : (p : Bool) (a b : ℕ) → a ≤ 65279 → b ≤ 16777216 → (if p then 1 + a + b else 1) ≤ 16842496
own_by true a b h i = omega (arith, h, i)
own_by false a b h i = omega arith

pub own_few : (link : LinkInput) (live : Live) (told : List Bool) → IsWellFormed link → own_locals link live told ≤ 16842496
own_few link live told wf =
    own_by (is_partial link.options.output) (length (told_sections link told)) (length (singletons link live)) (told_few link told wf) (singletons_few link live wf)

-- ---- the bytes of their names

sum_flat : {X Y : Type 0} (g : Y → ℕ) (f : X → List Y) (xs : List X) → sum_by g (flat_map f xs) ≡ sum_by (λ x. sum_by g (f x)) xs
sum_flat g f [] = refl
sum_flat g f (x ∷ xs) =
    omega (arith, sum_by-append g (f x) (flat_map f xs), sum_flat g f xs, sum_by-cons (λ y. sum_by g (f y)) x xs)

-- a sum over all input sections is one over the sections of all files
sum_inputs : (g : InputSection → ℕ) (groups : List (List InputFile)) → sum_by (λ x. g x.section) (all_inputs groups) ≡ over_files (λ f. sum_by g f.sections) groups
sum_inputs g groups =
    let of_file : NumberedFile → ℕ = λ f. sum_by g f.file.sections in
    let in_group : ℕ × List InputFile → ℕ = λ q. sum_by (λ f. sum_by g f.sections) q.1 in
    sum_flat (λ x. g x.section) (λ f. inputs_from f.id 0 f.file.sections) (numbered_files groups)
    ∙ sum_alike (λ f. sum_by (λ x. g x.section) (inputs_from f.id 0 f.file.sections)) of_file (numbered_files groups)
    (λ f. sum_made (λ (x : Input). g x.section) (numbered_section f.id) (enumerate_from 0 f.file.sections) ∙ sum_numbered g 0 f.file.sections)
    ∙ sum_flat of_file (λ (q : ℕ × List InputFile). group_files q.0 0 q.1) (enumerate_from 0 groups)
    ∙ sum_alike (λ (q : ℕ × List InputFile). sum_by of_file (group_files q.0 0 q.1)) in_group (enumerate_from 0 groups)
    (λ q. sum_made of_file (numbered_file q.0) (enumerate_from 0 q.1) ∙ sum_numbered (λ (f : InputFile). sum_by g f.sections) 0 q.1)
    ∙ sum_numbered (λ (files : List InputFile). sum_by (λ f. sum_by g f.sections) files) 0 groups

pub singleton_names_few : (link : LinkInput) (live : Live) → IsWellFormed link → singleton_name_bytes link live ≤ 2147483647
unfolding counted limit_of
singleton_names_few link live wf =
    let few : name_bytes link ≤ 2147483647 = wf.within limited.NameBytes in
    let name : InputSection → ℕ = λ s. length s.name + 1 in
    let symbols : InputSymbol → ℕ = λ s. length s.name + 1 in
    let of_file : InputFile → ℕ = λ f. sum_by name f.sections in
    let in_files : over_files of_file link.groups ≤ over_files file_name_bytes link.groups
    = sum_at_most_of (λ (fs : List InputFile). sum_by of_file fs) (λ fs. sum_by file_name_bytes fs)
    (λ fs. sum_at_most_of of_file file_name_bytes (λ f. one_of_two (sum_by symbols f.symbols) (sum_by name f.sections)) fs) link.groups in
    omega (
      arith,
      few,
      in_files,
      sum_inputs name link.groups,
      sum_marked input_name_bytes live.marks (all_inputs link.groups),
      sum_passes (λ (x : Input). is_singleton link x.section) input_name_bytes (live_inputs link live),
    )
  where
    one_of_two : (a b : ℕ) → b ≤ a + b
    one_of_two a b = omega arith

-- ---- one by one

-- the numbers of a list's elements
numbers_are : {X : Type 0} (o : ℕ) (xs : List X) → map (λ (q : ℕ × X). q.0) (enumerate_from o xs) ≡ range_with_len o (length xs)
numbers_are o [] = refl
numbers_are o (x ∷ xs) = ap (λ (ns : List ℕ). o ∷ ns) (numbers_are (o + 1) xs)

-- one more number
number_more : (p : ℕ → Bool) (a n : ℕ) → count_by p (range_with_len a (suc n)) ≡ count_by p (range_with_len a n) + cond (p (a + n)) 1 0
number_more p a zero =
    let same : a ≡ a + 0 = omega arith in
    omega (arith, sum_by-cons (λ i. cond (p i) 1 0) a [], ap {B = ℕ} (λ i. cond (p i) 1 0) same)
number_more p a (suc n) =
    let same : a + 1 + n ≡ a + suc n = omega arith in
    omega (
      arith,
      sum_by-cons (λ i. cond (p i) 1 0) a (range_with_len (a + 1) (suc n)),
      sum_by-cons (λ i. cond (p i) 1 0) a (range_with_len (a + 1) n),
      number_more p (a + 1) n,
      ap {B = ℕ} (λ i. cond (p i) 1 0) same,
    )

number_next : (p : ℕ → Bool) (a n : ℕ) → count_by p (range_with_len a (n + 1)) ≡ count_by p (range_with_len a n) + cond (p (a + n)) 1 0
number_next p a n = let next : n + 1 ≡ suc n = omega arith in ap (λ k. count_by p (range_with_len a k)) next ∙ number_more p a n

-- the count goes on by it
pub counted_next : (p : ℕ → Bool) (n old new : ℕ) (b : Bool) → p n ≡ b → old ≡ min (count_by p (range_with_len 0 n)) (2 ^ 32 - 1)
    → new ≡ (if b then min (old + 1) (2 ^ 32 - 1) else old) → new ≡ min (count_by p (range_with_len 0 (n + 1))) (2 ^ 32 - 1)
counted_next p n old new true h so_far step =
    let same : 0 + n ≡ n = omega arith in
    let one : ◌≡◌ {A = ℕ} (cond (p (0 + n)) 1 0) 1 = ap {B = ℕ} (λ i. cond (p i) 1 0) same ∙ ap {B = ℕ} (λ b. cond b 1 0) h in
    omega (arith, so_far, step, number_next p 0 n, one)
counted_next p n old new false h so_far step =
    let same : 0 + n ≡ n = omega arith in
    let none : ◌≡◌ {A = ℕ} (cond (p (0 + n)) 1 0) 0 = ap {B = ℕ} (λ i. cond (p i) 1 0) same ∙ ap {B = ℕ} (λ b. cond b 1 0) h in
    omega (arith, so_far, step, number_next p 0 n, none)

pub told_numbers : (link : LinkInput) (told : List Bool) (n : ℕ) → n ≡ length link.plan.sections
    → count_by (is_marked told) (range_with_len 0 n) ≡ length (told_sections link told)
told_numbers link told n h =
    ap (λ k. count_by (is_marked told) (range_with_len 0 k)) h
    ∙ ap (count_by (is_marked told)) (sym (numbers_are 0 link.plan.sections))
    ∙ sym (length-filter (is_marked told) (map (λ (q : ℕ × PlanSection). q.0) (enumerate_from 0 link.plan.sections)))

-- as many of those so far, and one more
pub count_next : (p : Input → Bool) (done : List InputRef) (x : InputRef)
    → count_by p (map input_of (done ++ x ∷ [])) ≡ count_by p (map input_of done) + cond (p (input_of x)) 1 0
count_next p done x = ap (count_by p) (map_push input_of done x) ∙ sum_by_push (λ y. cond (p y) 1 0) (map input_of done) (input_of x)

pub sum_next : (f : Input → ℕ) (done : List InputRef) (x : InputRef)
    → sum_by f (map input_of (done ++ x ∷ [])) ≡ sum_by f (map input_of done) + f (input_of x)
sum_next f done x = ap (sum_by f) (map_push input_of done x) ∙ sum_by_push f (map input_of done) (input_of x)

-- a sum over those that pass
passing_by : {X : Type 0} (p : X → Bool) (f : X → ℕ) (x : X) (xs : List X) (b : Bool) → p x ≡ b → sum_by f (filter p xs) ≡ sum_by (λ y. if p y then f y else 0) xs
    → sum_by f (filter p (x ∷ xs)) ≡ (if p x then f x else 0) + sum_by (λ y. if p y then f y else 0) xs
passing_by p f x xs true h rest =
    ap (λ c. sum_by f (if c then x ∷ filter p xs else filter p xs)) h
    ∙ sum_by-cons f x (filter p xs)
    ∙ ap (λ n. f x + n) rest
    ∙ ap (λ c. (if c then f x else 0) + sum_by (λ y. if p y then f y else 0) xs) (sym h)
passing_by p f x xs false h rest =
    let none : sum_by (λ y. if p y then f y else 0) xs ≡ 0 + sum_by (λ y. if p y then f y else 0) xs = omega arith in
    ap (λ c. sum_by f (if c then x ∷ filter p xs else filter p xs)) h
    ∙ rest
    ∙ none
    ∙ ap (λ c. (if c then f x else 0) + sum_by (λ y. if p y then f y else 0) xs) (sym h)

pub sum_filtered : {X : Type 0} (p : X → Bool) (f : X → ℕ) (xs : List X) → sum_by f (filter p xs) ≡ sum_by (λ x. if p x then f x else 0) xs
sum_filtered p f [] = refl
sum_filtered p f (x ∷ xs) = passing_by p f x xs (p x) refl (sum_filtered p f xs) ∙ sym (sum_by-cons (λ y. if p y then f y else 0) x xs)
