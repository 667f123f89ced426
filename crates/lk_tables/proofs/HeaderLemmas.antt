-- Sums over emitted sections and active segments.
use Rattle.std.proofs.Common.{◌≡◌, ℕ, ◌+◌, ◌*◌, Bool, if◌then◌else◌, List, [], ◌∷◌, Option, Some, None, filter, length, map, sum_by, refl, sym, ap, ◌∙◌, arith}
use Rattle.std.specs.List.{cons_option, filter_map}
use Rattle.std.specs.Option.{option_map_or}
use Rattle.std.proofs.lemmas.List.Sums.{sum_by-append, sum_by-cons}
use Rattle.lk_link.specs.declared.link.LinkInput.{LinkInput}
use Rattle.lk_link.specs.Inputs.{Input}
use Rattle.lk_link.specs.Inside.{placed_section}
use Rattle.lk_link.specs.Marks.{is_marked}
use Rattle.lk_live.specs.declared.live.Live.{Live}
use Rattle.lk_tables.specs.HeaderParts.{emitted_name_bytes, emitted_sections, section_count, section_header_entries, section_name_bytes, section_name_entries, told_sum}
use Rattle.lk_tables.specs.HeaderSteps.{event_name}
use Rattle.lk_tables.specs.Singletons.{input_name_bytes, singleton_name_bytes, singletons}
use Rattle.lk_tables.specs.SymbolTable.{TableEntry, entry_bytes, section_entry, singleton_entry}
use Rattle.lk_tables.proofs.TableSums.{sum_passing}

-- of each element as many
pub sum_same : {X : Type 0} (n : ℕ) (g : X → TableEntry) (xs : List X) → ((x : X) → (g x).bytes ≡ n) → entry_bytes (map g xs) ≡ n * length xs
sum_same n g [] h = omega arith
sum_same n g (x ∷ xs) h =
    let rest = sum_same n g xs h in
    let here = h x in
    let all = sum_by-cons (λ (e : TableEntry). e.bytes) (g x) (map g xs) in
    omega arith

-- a sum over those that are told is one over all
told_head : {Y : Type 0} (f : Y → ℕ) (o : Option Y) (ys : List Y) (n : ℕ) → sum_by f ys ≡ n → sum_by f (cons_option o ys) ≡ option_map_or f o 0 + n
told_head f None ys n h = let none : n ≡ 0 + n = omega arith in h ∙ none
told_head f (Some y) ys n h = sum_by-cons f y ys ∙ ap (λ m. f y + m) h

pub sum_told : {X Y : Type 0} (f : Y → ℕ) (told : X → Option Y) (xs : List X) → sum_by f (filter_map told xs) ≡ sum_by (λ x. option_map_or f (told x) 0) xs
sum_told f told [] = refl
sum_told f told (x ∷ xs) = told_head f (told x) (filter_map told xs) _ (sum_told f told xs) ∙ sym (sum_by-cons (λ y. option_map_or f (told y) 0) x xs)

-- the entries of those that are told and pass
pub entries_told : {X Y : Type 0} (p : Y → Bool) (g : Y → TableEntry) (told : X → Option Y) (xs : List X)
    → entry_bytes (map g (filter p (filter_map told xs))) ≡ sum_by (λ x. option_map_or (λ y. if p y then (g y).bytes else 0) (told x) 0) xs
entries_told p g told xs = sum_passing p g (filter_map told xs) ∙ sum_told (λ y. if p y then (g y).bytes else 0) told xs

-- ---- headers and names of all sections

-- as many headers as there are sections
pub headers_are : (bytes : ℕ) (link : LinkInput) (live : Live) (emitted : List Bool)
    → entry_bytes (section_header_entries bytes link live emitted) ≡ bytes * section_count link live emitted
headers_are bytes link live emitted =
    omega (
      arith,
      sum_by-append (λ (e : TableEntry). e.bytes) (map (section_entry bytes) (emitted_sections link emitted)) (map (singleton_entry bytes) (singletons link live)),
      sum_same bytes (section_entry bytes) (emitted_sections link emitted) (λ s. refl),
      sum_same bytes (singleton_entry bytes) (singletons link live) (λ x. refl),
    )

-- entries that are as long as some number tells
sum_entries : {X : Type 0} (n : X → ℕ) (g : X → TableEntry) (xs : List X) → ((x : X) → (g x).bytes ≡ n x) → entry_bytes (map g xs) ≡ sum_by n xs
sum_entries n g [] h = refl
sum_entries n g (x ∷ xs) h =
    omega (arith, h x, sum_entries n g xs h, sum_by-cons (λ (e : TableEntry). e.bytes) (g x) (map g xs), sum_by-cons n x xs)

-- the names of those that events place
pub emitted_names_are : (link : LinkInput) (emitted : List Bool)
    → emitted_name_bytes link emitted ≡ sum_by (event_name link emitted) link.plan.events
emitted_names_are link emitted =
    let named : ℕ → TableEntry = λ s. section_entry (section_name_bytes link s) s in
    sym (sum_entries (section_name_bytes link) named (emitted_sections link emitted) (λ s. refl))
    ∙ entries_told (is_marked emitted) named placed_section link.plan.events

-- with those of singletons
pub names_are : (link : LinkInput) (live : Live) (emitted : List Bool)
    → told_sum (emitted_name_bytes link emitted + singleton_name_bytes link live) ≡ told_sum (entry_bytes (section_name_entries link live emitted))
names_are link live emitted =
    let named : ℕ → TableEntry = λ s. section_entry (section_name_bytes link s) s in
    let single : Input → TableEntry = λ x. singleton_entry (input_name_bytes x) x in
    omega (
      arith,
      sum_by-append (λ (e : TableEntry). e.bytes) (map named (emitted_sections link emitted)) (map single (singletons link live)),
      sum_entries (section_name_bytes link) named (emitted_sections link emitted) (λ s. refl),
      sum_entries input_name_bytes single (singletons link live) (λ x. refl),
    )
