-- Sorted sections get their addresses behind all files, and these are written among the others.
use Rattle.std.proofs.Common.{◌≡◌, ℕ, zero, suc, ◌+◌, ◌<◌, ◌==◌, ◌&&◌, ◌||◌, ◌^◌, not, Bool, true, false, cond, if◌then◌else◌, List, [], ◌∷◌, ◌++◌, length, map, filter, take, set, Option, Some, IsSome, sum_by, refl, sym, ap, ◌∙◌, subst, arith, inl, inr, append_assoc}
use Rattle.std.specs.List.{enumerate_from, flat_map, list_any, slice_get, slice_index, slice_index_or}
use Rattle.std.proofs.lemmas.Bool.{eqb-true, false_from_ne_true}
use Rattle.std.proofs.lemmas.Bool.Decides.{eqb_tells}
use Rattle.std.proofs.lemmas.List.{ext_get_or, get_or-set_other, get_or-set_same, length-map, length-set, map-append}
use Rattle.std.proofs.lemmas.List.Elements.{filter-append}
use Rattle.std.proofs.lemmas.List.Folds.{list_any-append}
use Rattle.std.proofs.lemmas.List.FromFn.{length-enumerate_from}
use Rattle.std.proofs.lemmas.List.Sums.{sum_by-append}
use Rattle.std.proofs.lemmas.Option.{get_or_from_slice_get, slice_get_within}
use Rattle.lk_link.specs.declared.link.LinkInput.{LinkInput}
use Rattle.lk_link.specs.declared.file.InputFile.{InputFile}
use Rattle.lk_link.specs.Files.{file_in}
use Rattle.lk_link.specs.Inputs.{Input, all_inputs, numbered_files}
use Rattle.lk_link.specs.Marks.{is_marked}
use Rattle.lk_link.specs.Parts.{all_parts, part_at}
use Rattle.lk_link.specs.Sizes.{capacity}
use Rattle.lk_link.specs.WellFormed.{IsWellFormed}
use Rattle.lk_link.proofs.Elements.{at_index, map_at, map_in}
use Rattle.lk_link.proofs.InputLemmas.{numbered_get}
use Rattle.lk_live.specs.declared.live.Live.{Live}
use Rattle.lk_live.specs.Reach.{AreLive, live_inputs, marked}
use Rattle.lk_reach.proofs.LiveWalk.{split_at}
use Rattle.lk_reach.proofs.Numbered.{file_of_input}
use Rattle.lk_sizes.specs.declared.sorted.InputSortedSection.{InputSortedSection}
use Rattle.lk_sizes.specs.Addresses.{section_address, section_addresses}
use Rattle.lk_sizes.specs.Harvest.{sorted_section, sorted_sections}
use Rattle.lk_sizes.specs.Owners.{Filling, Taker, all_file_takers, file_takers, section_taker, size_of, sorted_takers, takers}
use Rattle.lk_sizes.specs.PartOwners.{EndsFit, live_address}
use Rattle.lk_sizes.specs.Sorted.{sorted_inputs}
use Rattle.lk_sizes.specs.Tables.{ArePassed, AreBehind, AreSortedThere, AreTheirs, AreWritten, HaveSortedSpace, bytes_in, sorted_bytes, sorted_number}
use Rattle.lk_sizes.proofs.Addressing.{section_behind}
use Rattle.lk_sizes.proofs.Keys.{same_number}
use Rattle.lk_sizes.proofs.LiveByFiles.{number_of}
use Rattle.lk_sizes.proofs.LiveOnes.{live_goes, marked_at}
use Rattle.lk_sizes.proofs.Placed.{AreEnds, all_fit, early_address, end_at, ends_count}
use Rattle.lk_sizes.proofs.SortedOnes.{sorted_at, sorted_in}
use Rattle.lk_sizes.proofs.Takers.{bytes_in-append, bytes_in_here, bytes_in_other}

-- ---- one after the other

pub sorted_bytes-append : (p : ℕ) (ss ts : List InputSortedSection) → sorted_bytes p (ss ++ ts) ≡ sorted_bytes p ss + sorted_bytes p ts
sorted_bytes-append p ss ts =
    ap (sum_by (λ (s : InputSortedSection). s.size)) (filter-append (λ (s : InputSortedSection). s.part_id == p) ss ts)
    ∙ sum_by-append (λ (s : InputSortedSection). s.size) (filter (λ (s : InputSortedSection). s.part_id == p) ss) (filter (λ (s : InputSortedSection). s.part_id == p) ts)

pub sorted_bytes_here : (p : ℕ) (s : InputSortedSection) → s.part_id ≡ p → sorted_bytes p (s ∷ []) ≡ s.size
sorted_bytes_here p s h =
    elim (eqb_tells s.part_id p) [
      | inl hit ↦ ap (λ b. sum_by (λ (t : InputSortedSection). t.size) (cond b (s ∷ []) [])) hit.0 ∙ omega arith
      | inr miss ↦ absurd (miss.1 h)
    ]

pub sorted_bytes_other : (p : ℕ) (s : InputSortedSection) → (s.part_id ≡ p → ⊥) → sorted_bytes p (s ∷ []) ≡ 0
sorted_bytes_other p s h =
    elim (eqb_tells s.part_id p) [
      | inl hit ↦ absurd (h hit.1)
      | inr miss ↦ ap (λ b. sum_by (λ (t : InputSortedSection). t.size) (cond b (s ∷ []) [])) miss.0
    ]

pub none_behind : (next : List ℕ) → AreBehind next [] next
none_behind next = record { count = refl; moved = λ p h. omega arith }

pub one_behind : (old : List ℕ) (done : List InputSortedSection) (s : InputSortedSection) (next : List ℕ) (at moved : ℕ) → AreBehind old done next → at ≡ s.part_id → at < length old
    → moved ≡ slice_index next at + s.size → AreBehind old (done ++ s ∷ []) (set next at moved)
one_behind old done s next at moved h here within is = record {
  count = length-set next at moved ∙ h.count;
  moved = λ p below. elim (eqb_tells at p) [
    | inl hit ↦ subst (λ (q : ℕ). slice_index (set next at moved) q ≡ slice_index old q + sorted_bytes q (done ++ s ∷ [])) hit.1
        (omega (
          arith,
          get_or-set_same next at moved 0 (omega (arith, h.count)),
          is,
          h.moved at within,
          sorted_bytes-append at done (s ∷ []),
          sorted_bytes_here at s (sym here),
        ))
    | inr miss ↦
        omega (
          arith,
          get_or-set_other next at p moved 0 (λ same. miss.1 (sym same)),
          h.moved p below,
          sorted_bytes-append p done (s ∷ []),
          sorted_bytes_other p s (λ goes. miss.1 (here ∙ goes)),
        )
  ];
}

-- there is room for the next one
pub room_behind : (old : List ℕ) (done : List InputSortedSection) (s : InputSortedSection) (rest : List InputSortedSection) (next : List ℕ) (at : ℕ)
    → ((p : ℕ) → p < length old → slice_index old p + sorted_bytes p (done ++ s ∷ rest) < 2 ^ 64) → AreBehind old done next → at ≡ s.part_id → at < length old
    → slice_index next at + s.size < 2 ^ 64
room_behind old done s rest next at space h here within =
    omega (
      arith,
      h.moved at within,
      space at within,
      sorted_bytes-append at done (s ∷ rest),
      sorted_bytes-append at (s ∷ []) rest,
      sorted_bytes_here at s (sym here),
    )

-- ---- what is written

or_true : (b : Bool) → (b || true) ≡ true
or_true true = refl
or_true false = refl

or_none : (b : Bool) → (b || false) ≡ b
or_none true = refl
or_none false = refl

pub none_written : (link : LinkInput) (table : ℕ → ℕ) (addresses : List ℕ) → AreWritten link table [] addresses addresses
none_written link table addresses = record { count = refl; each = λ n h. refl }

pub one_written : (link : LinkInput) (table : ℕ → ℕ) (done : List InputSortedSection) (s : InputSortedSection) (old addresses : List ℕ) (number address : ℕ)
    → AreWritten link table done old addresses → number ≡ sorted_number link s → number < length old → address ≡ table number
    → AreWritten link table (done ++ s ∷ []) old (set addresses number address)
one_written link table done s old addresses number address h is within read = record {
  count = length-set addresses number address ∙ h.count;
  each = λ n below.
      let among : ℕ → InputSortedSection → Bool = λ m t. sorted_number link t == m in
      elim (eqb_tells (sorted_number link s) n) [
        | inl hit ↦
            let place : number ≡ n = is ∙ hit.1 in
            let written : slice_index (set addresses number address) n ≡ table n
            = ap (slice_index (set addresses number address)) (sym place) ∙ get_or-set_same addresses number address 0 (omega (arith, h.count)) ∙ read ∙ ap table place in
            written ∙ ap (λ b. if b then table n else slice_index old n)
            (sym (list_any-append (among n) done (s ∷ []) ∙ ap (λ b. list_any (among n) done || (b || false)) hit.0 ∙ or_true (list_any (among n) done)))
        | inr miss ↦
            let other : n ≡ number → ⊥ = λ same. miss.1 (sym (same ∙ is)) in
            get_or-set_other addresses number n address 0 other
            ∙ h.each n below
            ∙ ap (λ b. if b then table n else slice_index old n)
            (sym (list_any-append (among n) done (s ∷ []) ∙ ap (λ b. list_any (among n) done || (b || false)) miss.0 ∙ or_none (list_any (among n) done)))
      ];
}

-- ---- sorted sections among takers

-- they bring what their takers do
pub same_bytes : (filling : Filling) (p : ℕ) (xs : List Input)
    → sorted_bytes p (map (sorted_section filling.content.link filling.sizes) xs) ≡ bytes_in filling.content.link p (map (section_taker filling) xs)
same_bytes filling p [] = refl
same_bytes filling p (x ∷ xs) =
    let link : LinkInput = filling.content.link in
    let told : Input → InputSortedSection = sorted_section link filling.sizes in
    let taker : Input → Taker = section_taker filling in
    elim (eqb_tells x.section.part p) [
      | inl hit ↦ omega (
        arith,
        sorted_bytes-append p (told x ∷ []) (map told xs),
        sorted_bytes_here p (told x) hit.1,
        bytes_in-append link p (taker x ∷ []) (map taker xs),
        bytes_in_here link p (taker x) hit.1,
        ap (λ (q : ℕ). capacity (part_at link.plan.sections q) (size_of filling x)) hit.1,
        same_bytes filling p xs,
      )
      | inr miss ↦ omega (
        arith,
        sorted_bytes-append p (told x ∷ []) (map told xs),
        sorted_bytes_other p (told x) miss.1,
        bytes_in-append link p (taker x ∷ []) (map taker xs),
        bytes_in_other link p (taker x) miss.1,
        same_bytes filling p xs,
      )
    ]

-- a sorted section as it is told is that of a live section
record IsTold (link : LinkInput) (live : Live) (sizes : List ℕ) (k : ℕ) (s : InputSortedSection) : Type 0 where
  input : Input
  stands : slice_get (sorted_inputs link live) k ≡ Some input
  is : sorted_section link sizes input ≡ s
  number : ℕ
  there : slice_get (all_inputs link.groups) number ≡ Some input
  marked : is_marked live.marks number ≡ true
  sorted : input.section.sorted ≡ true
  place : ℕ
  lives : slice_get (live_inputs link live) place ≡ Some input

told_of : (link : LinkInput) (live : Live) (sizes : List ℕ) (k : ℕ) (s : InputSortedSection) → slice_get (sorted_sections link live sizes) k ≡ Some s → IsTold link live sizes k s
told_of link live sizes k s there =
    let from = map_at (sorted_section link sizes) (sorted_inputs link live) k s there in
    let lives = sorted_at link live k from.0 from.1 in
    let at = marked_at live.marks (all_inputs link.groups) lives.place from.0 lives.there in
    record { input = from.0; stands = from.1; is = from.2; number = at.0; there = at.1; marked = at.2; sorted = lives.sorted; place = lives.place; lives = lives.there }

-- its number is its place
told_number : (link : LinkInput) (live : Live) (sizes : List ℕ) (k : ℕ) (s : InputSortedSection) (h : IsTold link live sizes k s) → sorted_number link s ≡ h.number
told_number link live sizes k s h = ap (sorted_number link) (sym h.is) ∙ number_of link h.number h.input h.there

pub sorted_there : (link : LinkInput) (live : Live) (sizes : List ℕ) (parts : ℕ) → IsWellFormed link → AreLive link live → parts ≡ length (all_parts link.plan.sections)
    → AreSortedThere link parts (sorted_sections link live sizes)
sorted_there link live sizes parts good are count k s there =
    let h = told_of link live sizes k s there in
    let file = file_of_input link.groups h.number h.input h.there in
    let some : IsSome (file_in link.groups h.input.file) = subst (λ (o : Option InputFile). IsSome o) (sym file.1) refl in
    record {
      file = subst (λ (t : InputSortedSection). IsSome (file_in link.groups t.file_id)) h.is some;
      number = omega (arith, told_number link live sizes k s h, slice_get_within (all_inputs link.groups) h.number h.input h.there);
      part = omega (arith, count, live_goes link live h.place h.input good are h.lives, ap (λ (t : InputSortedSection). t.part_id) h.is);
    }

-- ---- behind all files

take_map : {X Y : Type 0} (f : X → Y) (k : ℕ) (xs : List X) → take k (map f xs) ≡ map f (take k xs)
take_map f zero xs = refl
take_map f (suc k) [] = refl
take_map f (suc k) (x ∷ xs) = ap (λ (ys : List _). f x ∷ ys) (take_map f k xs)

-- the address of an input section in the whole table
read_address : (filling : Filling) (starts : List ℕ) (n : ℕ) (x : Input) → slice_get (all_inputs filling.content.link.groups) n ≡ Some x
    → slice_index (section_addresses filling starts) n ≡ section_address filling starts (n, x)
read_address filling starts n x there =
    let all : List Input = all_inputs filling.content.link.groups in
    let number : 0 + n ≡ n = omega arith in
    get_or_from_slice_get (section_addresses filling starts) n (section_address filling starts (n, x)) 0
    (map_in (section_address filling starts) (enumerate_from 0 all) n (n, x) (numbered_get 0 all n x there ∙ ap (λ (m : ℕ). Some (m, x)) number))

-- the takers of all files, then the first sorted sections
abbrev sorted_front : Filling → ℕ → List Taker
sorted_front filling k = all_file_takers filling ++ map (section_taker filling) (take k (sorted_inputs filling.content.link filling.content.live))

sorted_split : (filling : Filling) (k : ℕ) (x : Input) → slice_get (sorted_inputs filling.content.link filling.content.live) k ≡ Some x
    → (rest : List Taker) × (takers filling ≡ sorted_front filling k ++ section_taker filling x ∷ rest)
sorted_split filling k x at =
    let xs : List Input = sorted_inputs filling.content.link filling.content.live in
    let files : List Taker = all_file_takers filling in
    let taker : Input → Taker = section_taker filling in
    let split = split_at xs k x at in (
      map taker split.0,
      ap (λ (ys : List Input). files ++ map taker ys) split.1
          ∙ ap (λ (ts : List Taker). files ++ ts) (map-append taker (take k xs) (x ∷ split.0))
          ∙ sym (append_assoc files (map taker (take k xs)) (taker x ∷ map taker split.0)),
    )

-- each gets the address that the table has for it
pub theirs : (filling : Filling) (starts ends next : List ℕ) → IsWellFormed filling.content.link → AreLive filling.content.link filling.content.live
    → length starts ≡ length (all_parts filling.content.link.plan.sections) → AreEnds filling.content.link filling.content.merged_lens starts ends
    → ArePassed filling.content.link ends (flat_map (file_takers filling) (numbered_files filling.content.link.groups)) next
    → AreTheirs filling.content.link (slice_index (section_addresses filling starts)) next (sorted_sections filling.content.link filling.content.live filling.sizes)
theirs filling starts ends next good are parts is passed k s there =
    let link : LinkInput = filling.content.link in
    let live : Live = filling.content.live in
    let h = told_of link live filling.sizes k s there in
    let x : Input = h.input in
    let p : ℕ = x.section.part in
    let split = sorted_split filling k x h.stands in
    let goes : p < length starts = omega (arith, parts, live_goes link live h.place x good are h.lives) in
    let table : slice_index (section_addresses filling starts) (sorted_number link s) ≡ live_address filling starts x
    = ap (slice_index (section_addresses filling starts)) (told_number link live filling.sizes k s h)
    ∙ read_address filling starts h.number x h.there
    ∙ ap (λ b. if b then live_address filling starts x else 0) h.marked in
    let told : Input → InputSortedSection = sorted_section link filling.sizes in
    let before : List Input = take k (sorted_inputs link live) in
    let address : live_address filling starts x ≡ slice_index next p + sorted_bytes p (take k (map told (sorted_inputs link live)))
    = omega (
      arith,
      section_behind filling starts (sorted_front filling k) x split.0 split.1,
      bytes_in-append link p (all_file_takers filling) (map (section_taker filling) before),
      passed.moved p (omega (arith, goes, ends_count filling.content starts ends is)),
      end_at filling.content starts ends p is goes,
      same_bytes filling p before,
      ap (sorted_bytes p) (take_map told k (sorted_inputs link live)),
    ) in
    table ∙ address ∙ ap (λ (t : InputSortedSection). slice_index next t.part_id + sorted_bytes t.part_id (take k (map told (sorted_inputs link live)))) h.is

pub sorted_space : (filling : Filling) (starts ends next : List ℕ) → EndsFit filling starts → AreEnds filling.content.link filling.content.merged_lens starts ends
    → ArePassed filling.content.link ends (flat_map (file_takers filling) (numbered_files filling.content.link.groups)) next
    → HaveSortedSpace next (sorted_sections filling.content.link filling.content.live filling.sizes)
sorted_space filling starts ends next fit is passed = λ p below.
    let link : LinkInput = filling.content.link in
    let count = ends_count filling.content starts ends is in
    let inside : p < length starts = omega (arith, below, passed.count, count) in
    omega (
      arith,
      passed.moved p (omega (arith, below, passed.count)),
      end_at filling.content starts ends p is inside,
      all_fit filling starts p fit inside,
      bytes_in-append link p (all_file_takers filling) (sorted_takers filling),
      same_bytes filling p (sorted_inputs link filling.content.live),
    )

-- ---- the whole table

marked_in : {X : Type 0} (marks : List Bool) (xs : List X) (k : ℕ) (x : X) → slice_get xs k ≡ Some x → slice_index_or marks k false ≡ true
    → (j : ℕ) × (slice_get (marked marks xs) j ≡ Some x)
marked_in marks [] k x there set = absurd (cc)
marked_in [] (y ∷ xs) k x there set = absurd (cc)
marked_in (true ∷ marks) (y ∷ xs) zero x there set = (0, there)
marked_in (false ∷ marks) (y ∷ xs) zero x there set = absurd (cc)
marked_in (true ∷ marks) (y ∷ xs) (suc k) x there set = let r = marked_in marks xs k x there set in (suc r.0, r.1)
marked_in (false ∷ marks) (y ∷ xs) (suc k) x there set = marked_in marks xs k x there set

any_in : {X : Type 0} (p : X → Bool) (xs : List X) (k : ℕ) (x : X) → slice_get xs k ≡ Some x → p x ≡ true → list_any p xs ≡ true
any_in p [] k x there h = absurd (cc)
any_in p (y ∷ xs) zero x there h = let same : y ≡ x = cc in ap (λ b. b || list_any p xs) (ap p same ∙ h)
any_in p (y ∷ xs) (suc k) x there h = ap (λ b. p y || b) (any_in p xs k x there h) ∙ or_true (p y)

any_none : {X : Type 0} (p : X → Bool) (xs : List X) → ((k : ℕ) (x : X) → slice_get xs k ≡ Some x → p x ≡ false) → list_any p xs ≡ false
any_none p [] h = refl
any_none p (x ∷ xs) h = ap (λ b. b || list_any p xs) (h 0 x refl) ∙ any_none p xs (λ k. h (suc k))

both : (a b : Bool) → (a && b) ≡ true → (a ≡ true) × (b ≡ true)
both true b h = (refl, h)
both false b h = absurd (cc)

-- whether the input section with this number is a live sorted one
is_written : (link : LinkInput) (live : Live) (sizes : List ℕ) (n : ℕ) (x : Input) → slice_get (all_inputs link.groups) n ≡ Some x
    → list_any (λ s. sorted_number link s == n) (sorted_sections link live sizes) ≡ (is_marked live.marks n && x.section.sorted)
is_written link live sizes n x there = by (is_marked live.marks n && x.section.sorted) refl
  where
    is_n : InputSortedSection → Bool
    is_n s = sorted_number link s == n

    by : (b : Bool) → (is_marked live.marks n && x.section.sorted) ≡ b → list_any is_n (sorted_sections link live sizes) ≡ b
    by true is =
        let each = both (is_marked live.marks n) x.section.sorted is in
        let lives = marked_in live.marks (all_inputs link.groups) n x there each.0 in
        let at = sorted_in link live lives.0 x lives.1 each.1 in
        let number : sorted_number link (sorted_section link sizes x) ≡ n = number_of link n x there in
        any_in is_n (sorted_sections link live sizes) at.0 (sorted_section link sizes x) (map_in (sorted_section link sizes) (sorted_inputs link live) at.0 x at.1)
        (ap (λ (m : ℕ). m == n) number ∙ same_number n)
    by false is =
        any_none is_n (sorted_sections link live sizes) (λ k s at.
        let h = told_of link live sizes k s at in
        false_from_ne_true (is_n s) (λ same.
        let place : h.number ≡ n = sym (told_number link live sizes k s h) ∙ eqb-true (sorted_number link s) n same in
        let found : Some h.input ≡ Some x = sym h.there ∙ ap (slice_get (all_inputs link.groups)) place ∙ there in
        let one : h.input ≡ x = cc in
        let set : (is_marked live.marks n && x.section.sorted) ≡ true
        = ap (λ (m : ℕ). is_marked live.marks m && x.section.sorted) (sym place)
        ∙ ap (λ b. b && x.section.sorted) h.marked
        ∙ ap (λ (y : Input). y.section.sorted) (sym one)
        ∙ h.sorted in
        absurd (cc)))

-- with the sorted ones written in, all addresses are there
pub all_written : (filling : Filling) (starts early new : List ℕ)
    → early ≡ map (early_address filling starts) (enumerate_from 0 (all_inputs filling.content.link.groups))
    → AreWritten filling.content.link (slice_index (section_addresses filling starts)) (sorted_sections filling.content.link filling.content.live filling.sizes) early new
    → new ≡ section_addresses filling starts
all_written filling starts early new is h =
    let link : LinkInput = filling.content.link in
    let live : Live = filling.content.live in
    let all : List Input = all_inputs link.groups in
    let table : List ℕ = section_addresses filling starts in
    let long : length early ≡ length all = ap length is ∙ length-map (enumerate_from 0 all) (early_address filling starts) ∙ length-enumerate_from 0 all in
    let whole : length table ≡ length all = length-map (enumerate_from 0 all) (section_address filling starts) ∙ length-enumerate_from 0 all in
    ext_get_or 0 new table (omega (arith, h.count, long, whole)) (λ n below.
    let inside : n < length all = omega (arith, below, h.count, long) in
    let at = at_index all n inside in
    let x : Input = at.0 in
    let number : 0 + n ≡ n = omega arith in
    let before : slice_index early n ≡ early_address filling starts (n, x)
    = ap (λ (ns : List ℕ). slice_index ns n) is
    ∙ get_or_from_slice_get (map (early_address filling starts) (enumerate_from 0 all)) n (early_address filling starts (n, x)) 0
    (map_in (early_address filling starts) (enumerate_from 0 all) n (n, x) (numbered_get 0 all n x at.1 ∙ ap (λ (m : ℕ). Some (m, x)) number)) in
    let read : slice_index table n ≡ section_address filling starts (n, x) = read_address filling starts n x at.1 in
    h.each n (omega (arith, inside, long))
    ∙ ap (λ b. if b then slice_index table n else slice_index early n) (is_written link live filling.sizes n x at.1)
    ∙ ap (λ (a : ℕ). if is_marked live.marks n && x.section.sorted then a else slice_index early n) read
    ∙ ap (λ (a : ℕ). if is_marked live.marks n && x.section.sorted then section_address filling starts (n, x) else a) before
    ∙ joined (is_marked live.marks n) x.section.sorted (live_address filling starts x)
    ∙ sym read)
  where
    joined : (m sorted : Bool) (a : ℕ) → (if m && sorted then (if m then a else 0) else (if m && not sorted then a else 0)) ≡ (if m then a else 0)
    joined true true a = refl
    joined true false a = refl
    joined false sorted a = refl

-- before that there is one for each input section
pub early_count : (filling : Filling) (starts early : List ℕ) → early ≡ map (early_address filling starts) (enumerate_from 0 (all_inputs filling.content.link.groups))
    → length early ≡ length (all_inputs filling.content.link.groups)
early_count filling starts early is =
    let all : List Input = all_inputs filling.content.link.groups in
    ap length is ∙ length-map (enumerate_from 0 all) (early_address filling starts) ∙ length-enumerate_from 0 all
