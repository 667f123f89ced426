-- The entries of a symbol come at the cursors, which move behind them.
use Rattle.std.proofs.Common.{◌≡◌, ◌⊎◌, inl, inr, ℕ, zero, suc, ◌+◌, ◌<◌, ◌≤◌, ◌^◌, ◌&&◌, ◌||◌, ◌==◌, not, Bool, true, false, if◌then◌else◌, List, [], ◌∷◌, ◌++◌, length, map, take, Option, Some, None, refl, sym, ap, ◌∙◌, arith}
use Rattle.std.specs.Prelude.{bit_and, bit_or, is_some, option_and_then, option_map, slice_get, slice_index, sum_by}
use Rattle.std.proofs.lemmas.Bool.{and_parts}
use Rattle.std.proofs.lemmas.Nat.{and_or_apart}
use Rattle.std.specs.List.{enumerate_from}
use Rattle.std.proofs.lemmas.List.Sums.{sum_by-append, sum_by-cons}
use Rattle.lk_link.specs.declared.file.FileKind.{FileKind}
use Rattle.lk_link.specs.declared.file.FileKind.TheVariants as kind
use Rattle.lk_link.specs.declared.flags.TheConstants.ValueFlags as flag
use Rattle.lk_link.specs.declared.flags.ValueFlags.{ValueFlags}
use Rattle.lk_link.specs.declared.plan.NamedParts.{NamedParts}
use Rattle.lk_link.specs.declared.resolution.Resolution.{Resolution}
use Rattle.lk_link.specs.declared.symbol.InputSymbol.{InputSymbol}
use Rattle.lk_link.specs.declared.tables.Allocation.{Allocation}
use Rattle.lk_link.specs.declared.tables.TableCursors.{TableCursors}
use Rattle.lk_link.specs.FileKinds.{is_internal, is_not_loaded, is_prelude}
use Rattle.lk_link.specs.Flags.{has_resolution, resolution, table_entries, wants_table_entry}
use Rattle.lk_link.specs.Inputs.{NumberedFile}
use Rattle.lk_link.specs.Symbols.{can_resolve, is_canonical, is_named, is_wanted}
use Rattle.lk_link.specs.declared.plan.PlanPart.{PlanPart}
use Rattle.lk_link.specs.PartRules.{table_parts}
use Rattle.lk_link.specs.Parts.{all_parts, part_at}
use Rattle.lk_link.specs.WellFormed.{IsWellFormed}
use Rattle.lk_link.proofs.GoodPartFields.{good_part_fields}
use Rattle.lk_tables.specs.TableLists.{all_lists, table_of}
use Rattle.lk_tables.proofs.PartLists.{named_parts}
use Rattle.lk_tables.proofs.ShareSums.{sum_made}
use Rattle.lk_own_symbols.specs.Edges.{edge_value}
use Rattle.lk_sizes.specs.Owners.{EntryOwner, Owner, bytes_of, content_owners, owner_bytes, Filling}
use Rattle.lk_sizes.specs.PartOwners.{EndsFit, tables_of}
use Rattle.lk_link.specs.TableSizes.{AreLawful, first_taken, is_zero}
use Rattle.lk_reach.specs.Units.{flags_from, numbered_symbols}
use Rattle.lk_tables.specs.Dynamic.{dynamic_index, dynamic_table}
use Rattle.lk_tables.specs.DynamicCounters.{AreNumbersAt}
use Rattle.lk_tables.specs.Late.{flags_at, is_late, is_late_place}
use Rattle.lk_tables.specs.OwnEntries.{own_address, symbols_before_it, taken_by}
use Rattle.lk_tables.specs.SymbolEntries.{allocated, is_resolved, symbol_allocation}
use Rattle.lk_tables.specs.SymbolTable.{TableEntry, entry_bytes, entry_of}
use Rattle.lk_tables.proofs.BySymbol.{by_number, passes_of, value_of as made_of}
use Rattle.lk_tables.proofs.TableSums.{sum_passing}
use Rattle.lk_tables.proofs.OwnLemmas.{cursors_move_on, cursors_reach_entries}
use Rattle.lk_resolutions.specs.declared.entries.NextEntries.{NextEntries}
use Rattle.lk_resolutions.specs.Entries.{EntrySetting, entry_in, entry_setting, got_table, plt_table, told_flags, with_entries}
use Rattle.lk_resolutions.specs.EntryWords.{AreNextAt, IsCursor, TableFits, TablesFit, cursor_behind, cursors_behind, first_cursors, made_at, start_of, unplaced_resolution}
use Rattle.lk_resolutions.specs.Resolutions.{ValueAddresses, has_resolutions, placed_value, resolution_of, value_of}
use Rattle.lk_resolution_list.specs.Stores.{valued}
use Rattle.lk_resolutions.proofs.NothingAsked.{none_among, nothing_allocated}

-- ---- flags

-- symbols that the linker doesn't place are marked by what refers to them alone
pub plain_flags : (by : EntrySetting) (k : FileKind) (q : ℕ × InputSymbol) → is_internal k ≡ false → told_flags by k q ≡ flags_at by.live.flags q.0
plain_flags by kind.Object q h = refl
plain_flags by kind.Dynamic q h = refl
plain_flags by kind.NotLoaded q h = refl
plain_flags by kind.Prelude q h = absurd (cc)
plain_flags by kind.SyntheticSymbols q h = absurd (cc)
plain_flags by kind.LinkerScript q h = absurd (cc)

-- a symbol that is marked late: nothing wanted it before, and with the mark it wants no entry of a table
pub record IsMarkedLate (by : EntrySetting) (k : FileKind) (q : ℕ × InputSymbol) : Type 0 where
  pub unwanted : is_resolved by.live k q ≡ false
  pub bare : wants_table_entry (told_flags by k q).0 ≡ false

bare_mark : (flags : ℕ) → has_resolution flags ≡ false → wants_table_entry (bit_or flags flag.DIRECT.0) ≡ false
bare_mark flags none =
    let entries : bit_and flags table_entries ≡ 0 = none_among flags resolution table_entries refl (is_zero (bit_and flags resolution) none) in
    ap (λ n. not (n == 0)) (and_or_apart table_entries flags flag.DIRECT.0 refl ∙ entries)

not_true : (b : Bool) → not b ≡ true → b ≡ false
not_true true h = cc
not_true false h = refl

not_all : (a c : Bool) → (a && false && c) ≡ false
not_all true c = refl
not_all false c = refl

-- any other has the flags that were found for it
pub told_by : (by : EntrySetting) (k : FileKind) (q : ℕ × InputSymbol) → (told_flags by k q ≡ flags_at by.live.flags q.0) ⊎ IsMarkedLate by k q
told_by by k q =
    let own : ValueFlags = flags_at by.live.flags q.0 in
    let marked : ValueFlags = flags_from (bit_or own.0 flag.DIRECT.0) in
    let late : Bool = is_late by.link by.told k q.0 q.1 own in
    let unasked : Bool = is_prelude k && is_named q.1 && is_canonical q.0 q.1 && not (has_resolution own.0) in
    elim late as (λ b. late ≡ b → ((if b then marked else own) ≡ own) ⊎ IsMarkedLate by k q) [
      | true ↦ λ h.
          let whole = and_parts (unasked && not by.link.options.strip_all) (is_late_place by.told q.1.at) h in
          let there = and_parts unasked (not by.link.options.strip_all) whole.0 in
          let last = and_parts (is_prelude k && is_named q.1 && is_canonical q.0 q.1) (not (has_resolution own.0)) there.0 in
          let none : has_resolution own.0 ≡ false = not_true (has_resolution own.0) last.1 in
          inr (record {
            unwanted = ap (λ b. is_canonical q.0 q.1 && b && can_resolve k q.1) none ∙ not_all (is_canonical q.0 q.1) (can_resolve k q.1);
            bare = ap (λ b. wants_table_entry (if b then marked else own).0) h ∙ bare_mark own.0 none;
          })
      | false ↦ λ h. inl refl
    ] refl

-- one that is wanted with the flags that are found is so with those that are told
pub wanted_plain : (by : EntrySetting) (k : FileKind) (q : ℕ × InputSymbol) → is_resolved by.live k q ≡ true → is_wanted k q.0 q.1 (told_flags by k q) ≡ true
wanted_plain by k q resolved = elim (told_by by k q) [
  | inl plain ↦ ap (is_wanted k q.0 q.1) plain ∙ resolved
  | inr late ↦ absurd (let no : is_resolved by.live k q ≡ false = late.unwanted in cc)
]

-- ---- resolutions

-- what a symbol is worth, with its entries
abbrev pub with_own : ValueAddresses → EntrySetting → FileKind → ℕ → ℕ × InputSymbol → Option Resolution
with_own places by k first q = option_map (with_entries by q.0 (told_flags by k q)) (value_of places k first q.0 q.1.at)

-- what is wanted stands in a file that has resolutions
wanted_has : (k : FileKind) (s : ℕ) (x : InputSymbol) (flags : ValueFlags) → is_wanted k s x flags ≡ true → has_resolutions k ≡ true
wanted_has k s x flags h =
    let may = and_parts (is_canonical s x && has_resolution flags.0) (can_resolve k x) h in
    (and_parts (not (is_not_loaded k)) (is_named x || not (is_internal k)) may.1).0

-- what is wanted has a resolution, if it is worth anything
pub has_own : (places : ValueAddresses) (by : EntrySetting) (k : FileKind) (first : ℕ) (q : ℕ × InputSymbol) → is_wanted k q.0 q.1 (told_flags by k q) ≡ true
    → resolution_of places by k first q ≡ with_own places by k first q
has_own places by k first q wanted =
    ap (λ b. if b && is_wanted k q.0 q.1 (told_flags by k q) then with_own places by k first q else None) (wanted_has k q.0 q.1 (told_flags by k q) wanted)
    ∙ ap (λ b. if b then with_own places by k first q else None) wanted

-- what isn't has none
pub no_resolution : (places : ValueAddresses) (by : EntrySetting) (k : FileKind) (first : ℕ) (q : ℕ × InputSymbol) → is_wanted k q.0 q.1 (told_flags by k q) ≡ false
    → resolution_of places by k first q ≡ None
no_resolution places by k first q unwanted =
    ap (λ b. if has_resolutions k && b then with_own places by k first q else None) unwanted
    ∙ (elim (has_resolutions k) as (λ b. (if b && false then with_own places by k first q else None) ≡ None) [
      | true ↦ refl
      | false ↦ refl
    ])

-- what is taken in tables, of what is wanted and of what isn't
pub wanted_unplaced : (by : EntrySetting) (k : FileKind) (q : ℕ × InputSymbol) → is_wanted k q.0 q.1 (told_flags by k q) ≡ true
    → unplaced_resolution by k q ≡ Some (with_entries by q.0 (told_flags by k q) 0)
wanted_unplaced by k q wanted = ap (λ b. if b then Some (with_entries by q.0 (told_flags by k q) 0) else None) wanted

pub unwanted_unplaced : (by : EntrySetting) (k : FileKind) (q : ℕ × InputSymbol) → is_wanted k q.0 q.1 (told_flags by k q) ≡ false → unplaced_resolution by k q ≡ None
unwanted_unplaced by k q unwanted = ap (λ b. if b then Some (with_entries by q.0 (told_flags by k q) 0) else None) unwanted

-- a value changes nothing in what is taken
value_alone : (by : EntrySetting) (s : ℕ) (flags : ValueFlags) (n : ℕ) → valued n (with_entries by s flags 0) ≡ with_entries by s flags n
unfolding with_entries
value_alone by s flags n = refl

-- with what it is worth, that is the resolution
pub placed_is : (places : ValueAddresses) (by : EntrySetting) (k : FileKind) (first : ℕ) (q : ℕ × InputSymbol)
    → resolution_of places by k first q ≡ option_and_then (λ r. option_map (λ n. valued n r) (value_of places k first q.0 q.1.at)) (unplaced_resolution by k q)
placed_is places by k first q =
    let flags : ValueFlags = told_flags by k q in
    let joined : Option Resolution → Option Resolution = λ o. option_and_then (λ r. option_map (λ n. valued n r) (value_of places k first q.0 q.1.at)) o in
    let worth : (o : Option ℕ) → option_map (with_entries by q.0 flags) o ≡ option_map (λ n. valued n (with_entries by q.0 flags 0)) o
    = λ o. elim o as (λ o. option_map (with_entries by q.0 flags) o ≡ option_map (λ n. valued n (with_entries by q.0 flags 0)) o) [
      | None ↦ refl
      | Some n ↦ ap (λ (r : Resolution). Some r) (sym (value_alone by q.0 flags n))
    ] in
    elim (is_wanted k q.0 q.1 flags) as (λ b. is_wanted k q.0 q.1 flags ≡ b → resolution_of places by k first q ≡ joined (unplaced_resolution by k q)) [
      | true ↦ λ wanted. has_own places by k first q wanted ∙ worth (value_of places k first q.0 q.1.at) ∙ ap joined (sym (wanted_unplaced by k q wanted))
      | false ↦ λ unwanted. no_resolution places by k first q unwanted ∙ ap joined (sym (unwanted_unplaced by k q unwanted))
    ] refl

-- what a resolution is
pub record IsOwn (places : ValueAddresses) (by : EntrySetting) (k : FileKind) (first : ℕ) (q : ℕ × InputSymbol) (r : Resolution) : Type 0 where
  pub wanted : is_wanted k q.0 q.1 (told_flags by k q) ≡ true
  pub value : ℕ
  pub worth : value_of places k first q.0 q.1.at ≡ Some value
  pub is : r ≡ with_entries by q.0 (told_flags by k q) value

worth_of : (places : ValueAddresses) (by : EntrySetting) (k : FileKind) (first : ℕ) (q : ℕ × InputSymbol) (r : Resolution) (o : Option ℕ) → value_of places k first q.0 q.1.at ≡ o
    → is_wanted k q.0 q.1 (told_flags by k q) ≡ true → option_map (with_entries by q.0 (told_flags by k q)) o ≡ Some r → IsOwn places by k first q r
worth_of places by k first q r None worth wanted h = absurd (cc)
worth_of places by k first q r (Some n) worth wanted h =
    let same : r ≡ with_entries by q.0 (told_flags by k q) n = cc in
    record { wanted = wanted; value = n; worth = worth; is = same }

pub own_one : (places : ValueAddresses) (by : EntrySetting) (k : FileKind) (first : ℕ) (q : ℕ × InputSymbol) (r : Resolution) → resolution_of places by k first q ≡ Some r → IsOwn places by k first q r
own_one places by k first q r h =
    elim (is_wanted k q.0 q.1 (told_flags by k q)) as (λ b. is_wanted k q.0 q.1 (told_flags by k q) ≡ b → IsOwn places by k first q r) [
      | true ↦ λ wanted. worth_of places by k first q r (value_of places k first q.0 q.1.at) refl wanted (sym (has_own places by k first q wanted) ∙ h)
      | false ↦ λ wanted. absurd (let nothing : Some r ≡ None = sym h ∙ no_resolution places by k first q wanted in cc)
    ] refl

-- the value is that of where a symbol is placed, in a file whose symbols the linker doesn't place
pub own_value : (places : ValueAddresses) (by : EntrySetting) (k : FileKind) (first : ℕ) (q : ℕ × InputSymbol) → is_internal k ≡ false → is_resolved by.live k q ≡ true
    → option_map (λ r. r.raw_value) (resolution_of places by k first q) ≡ Some (placed_value places first q.0 q.1.at)
unfolding with_entries
own_value places by k first q external resolved =
    let told : Option ℕ → Option ℕ = λ o. option_map (λ (r : Resolution). r.raw_value) (option_map (with_entries by q.0 (told_flags by k q)) o) in
    ap (option_map (λ (r : Resolution). r.raw_value)) (has_own places by k first q (wanted_plain by k q resolved))
    ∙ ap (λ b. told (if b then edge_value places.edges q.1.at else Some (placed_value places first q.0 q.1.at))) external

-- ---- one table

entry_is : (named : Option ℕ) (starts : List ℕ) (table : List TableEntry) (s cursor bytes before : ℕ) → IsCursor named starts before cursor
    → ((start : ℕ) → own_address start table s ≡ start + before) → (if is_some named then first_taken cursor bytes else None) ≡ entry_in named starts table s bytes
entry_is None starts table s cursor bytes before at own = refl
entry_is (Some p) starts table s cursor bytes before at own = ap (λ (a : ℕ). first_taken a bytes) (at p refl ∙ sym (own (slice_index starts p)))

room_is : (named : Option ℕ) (starts : List ℕ) (table : List TableEntry) (cursor bytes before : ℕ) → IsCursor named starts before cursor → TableFits named starts table
    → ((start : ℕ) → start + before + bytes ≤ start + entry_bytes table) → is_some named ≡ true → cursor + bytes < 2 ^ 64
room_is None starts table cursor bytes before at fits room some = absurd (cc)
room_is (Some p) starts table cursor bytes before at fits room some = omega (arith, at p refl, fits p refl, room (slice_index starts p))

cursor_on : (named : Option ℕ) (starts : List ℕ) (before taken after cursor new : ℕ) → IsCursor named starts before cursor → new ≡ cursor_behind named cursor taken
    → after ≡ before + taken → IsCursor named starts after new
cursor_on None starts before taken after cursor new at moved more p h = absurd (cc)
cursor_on (Some q) starts before taken after cursor new at moved more p h = let on : new ≡ cursor + taken = moved in omega (arith, at p h, on, more)

cursor_stays : (named : Option ℕ) (starts : List ℕ) (before after cursor new : ℕ) → IsCursor named starts before cursor → new ≡ cursor → after ≡ before → IsCursor named starts after new
cursor_stays named starts before after cursor new at same more p h = omega (arith, at p h, same, more)

-- ---- a symbol's own

-- what the symbols before it take
abbrev pub got_before : EntrySetting → ℕ → ℕ
got_before by s = sum_by (λ r. (taken_by by.sizes.allocation by.live r).got) (symbols_before_it by.link s)

abbrev pub plt_before : EntrySetting → ℕ → ℕ
plt_before by s = sum_by (λ r. (taken_by by.sizes.allocation by.live r).plt) (symbols_before_it by.link s)

-- the symbol with this number, with its file
record IsNumbered (by : EntrySetting) (s : ℕ) (f : NumberedFile) (x : InputSymbol) : Type 0 where
  there : slice_get (numbered_symbols by.link.groups) s ≡ Some (f, x)
  wanted : is_resolved by.live f.file.kind (s, x) ≡ true

abbrev own_bytes : EntrySetting → ℕ → Allocation
own_bytes by s = by.sizes.allocation (flags_at by.live.flags s).0

got_own : (by : EntrySetting) (s : ℕ) (f : NumberedFile) (x : InputSymbol) → IsNumbered by s f x → (start : ℕ) → own_address start (got_table by) s ≡ start + got_before by s
got_own by s f x is start = (cursors_reach_entries by.sizes.allocation by.link by.live (record { got = start; plt = start }) s f x is.there is.wanted).0.address

plt_own : (by : EntrySetting) (s : ℕ) (f : NumberedFile) (x : InputSymbol) → IsNumbered by s f x → (start : ℕ) → own_address start (plt_table by) s ≡ start + plt_before by s
plt_own by s f x is start = (cursors_reach_entries by.sizes.allocation by.link by.live (record { got = start; plt = start }) s f x is.there is.wanted).1.address

got_room : (by : EntrySetting) (s : ℕ) (f : NumberedFile) (x : InputSymbol) → IsNumbered by s f x → (start : ℕ) → start + got_before by s + (own_bytes by s).got ≤ start + entry_bytes (got_table by)
got_room by s f x is start = (cursors_reach_entries by.sizes.allocation by.link by.live (record { got = start; plt = start }) s f x is.there is.wanted).0.room

plt_room : (by : EntrySetting) (s : ℕ) (f : NumberedFile) (x : InputSymbol) → IsNumbered by s f x → (start : ℕ) → start + plt_before by s + (own_bytes by s).plt ≤ start + entry_bytes (plt_table by)
plt_room by s f x is start = (cursors_reach_entries by.sizes.allocation by.link by.live (record { got = start; plt = start }) s f x is.there is.wanted).1.room

-- ---- by the flags that are told

abbrev told_bytes : EntrySetting → FileKind → ℕ × InputSymbol → Allocation
told_bytes by k q = by.sizes.allocation (told_flags by k q).0

-- a late mark takes nothing
late_takes : (by : EntrySetting) (k : FileKind) (q : ℕ × InputSymbol) → AreLawful by.sizes → IsMarkedLate by k q → told_bytes by k q ≡ record { got = 0; plt = 0 }
late_takes by k q lawful late = nothing_allocated by.sizes (told_flags by k q).0 lawful late.bare

-- what takes bytes isn't marked late
pub asked_before : (by : EntrySetting) (k : FileKind) (q : ℕ × InputSymbol) → AreLawful by.sizes → is_wanted k q.0 q.1 (told_flags by k q) ≡ true
    → (0 < (told_bytes by k q).got) ⊎ (0 < (told_bytes by k q).plt) → (is_resolved by.live k q ≡ true) × (told_flags by k q ≡ flags_at by.live.flags q.0)
asked_before by k q lawful wanted some = elim (told_by by k q) [
  | inl plain ↦ (ap (is_wanted k q.0 q.1) (sym plain) ∙ wanted, plain)
  | inr late ↦ let none = late_takes by k q lawful late in elim some [
    | inl got ↦ absurd (omega (arith, got, ap (λ (a : Allocation). a.got) none))
    | inr plt ↦ absurd (omega (arith, plt, ap (λ (a : Allocation). a.plt) none))
  ]
]

-- a symbol that is wanted takes the bytes for the flags that are told
abbrev taken : EntrySetting → FileKind → ℕ × InputSymbol → Allocation
taken by k q = symbol_allocation by.sizes.allocation by.live k q

record TakesTold (by : EntrySetting) (k : FileKind) (q : ℕ × InputSymbol) : Type 0 where
  got : (taken by k q).got ≡ (told_bytes by k q).got
  plt : (taken by k q).plt ≡ (told_bytes by k q).plt

takes_told : (by : EntrySetting) (k : FileKind) (q : ℕ × InputSymbol) → AreLawful by.sizes → is_wanted k q.0 q.1 (told_flags by k q) ≡ true → TakesTold by k q
takes_told by k q lawful wanted =
    let all : Allocation = own_bytes by q.0 in
    elim (told_by by k q) [
      | inl plain ↦
          let resolved : is_resolved by.live k q ≡ true = ap (is_wanted k q.0 q.1) (sym plain) ∙ wanted in
          record {
            got = ap (λ b. if b then all.got else 0) resolved ∙ ap (λ (fl : ValueFlags). (by.sizes.allocation fl.0).got) (sym plain);
            plt = ap (λ b. if b then all.plt else 0) resolved ∙ ap (λ (fl : ValueFlags). (by.sizes.allocation fl.0).plt) (sym plain);
          }
      | inr late ↦
          let none = late_takes by k q lawful late in
          record {
            got = ap (λ b. if b then all.got else 0) late.unwanted ∙ sym (ap (λ (a : Allocation). a.got) none);
            plt = ap (λ b. if b then all.plt else 0) late.unwanted ∙ sym (ap (λ (a : Allocation). a.plt) none);
          }
    ]

-- one that isn't wanted takes none
unwanted_before : (by : EntrySetting) (k : FileKind) (q : ℕ × InputSymbol) → is_wanted k q.0 q.1 (told_flags by k q) ≡ false → is_resolved by.live k q ≡ false
unwanted_before by k q unwanted = elim (told_by by k q) [
  | inl plain ↦ ap (is_wanted k q.0 q.1) (sym plain) ∙ unwanted
  | inr late ↦ late.unwanted
]

-- ---- room

-- a symbol with its number, that is wanted, where its entries come next
pub record ComesNext (by : EntrySetting) (s : ℕ) (f : NumberedFile) (x : InputSymbol) (entries : NextEntries) : Type 0 where
  pub there : slice_get (numbered_symbols by.link.groups) s ≡ Some (f, x)
  pub wanted : is_wanted f.file.kind s x (told_flags by f.file.kind (s, x)) ≡ true
  pub lawful : AreLawful by.sizes
  pub next : AreNextAt by s entries

-- what some symbols take is at most what all do
first_bytes : {X : Type 0} (f : ℕ × X → ℕ) (o k : ℕ) (xs : List X) → sum_by f (enumerate_from o (take k xs)) ≤ sum_by f (enumerate_from o xs)
first_bytes f o zero xs = omega arith
first_bytes f o (suc k) [] = omega arith
first_bytes f o (suc k) (x ∷ xs) =
    omega (arith, first_bytes f (o + 1) k xs, sum_by-cons f (o, x) (enumerate_from (o + 1) (take k xs)), sum_by-cons f (o, x) (enumerate_from (o + 1) xs))

-- all take what the table has
got_within : (by : EntrySetting) (s : ℕ) → got_before by s ≤ entry_bytes (got_table by)
got_within by s =
    let all : List (NumberedFile × InputSymbol) = numbered_symbols by.link.groups in
    let passes : NumberedFile → ℕ × InputSymbol → Bool = λ f. is_resolved by.live f.file.kind in
    let entry : ℕ × InputSymbol → TableEntry = λ q. entry_of (allocated by.sizes.allocation by.live q).got q in
    let bytes : entry_bytes (got_table by) ≡ sum_by (λ r. (taken_by by.sizes.allocation by.live r).got) (enumerate_from 0 all)
    = ap entry_bytes (by_number passes entry by.link) ∙ sum_passing (passes_of passes) (made_of entry) (enumerate_from 0 all) in
    omega (arith, bytes, first_bytes (λ r. (taken_by by.sizes.allocation by.live r).got) 0 s all)

plt_within : (by : EntrySetting) (s : ℕ) → plt_before by s ≤ entry_bytes (plt_table by)
plt_within by s =
    let all : List (NumberedFile × InputSymbol) = numbered_symbols by.link.groups in
    let passes : NumberedFile → ℕ × InputSymbol → Bool = λ f. is_resolved by.live f.file.kind in
    let entry : ℕ × InputSymbol → TableEntry = λ q. entry_of (allocated by.sizes.allocation by.live q).plt q in
    let bytes : entry_bytes (plt_table by) ≡ sum_by (λ r. (taken_by by.sizes.allocation by.live r).plt) (enumerate_from 0 all)
    = ap entry_bytes (by_number passes entry by.link) ∙ sum_passing (passes_of passes) (made_of entry) (enumerate_from 0 all) in
    omega (arith, bytes, first_bytes (λ r. (taken_by by.sizes.allocation by.live r).plt) 0 s all)

-- so there is room for nothing at the cursor
no_room : (named : Option ℕ) (starts : List ℕ) (table : List TableEntry) (cursor bytes before : ℕ) → IsCursor named starts before cursor → TableFits named starts table
    → before ≤ entry_bytes table → bytes ≡ 0 → is_some named ≡ true → cursor + bytes < 2 ^ 64
no_room None starts table cursor bytes before at fits within none some = absurd (cc)
no_room (Some p) starts table cursor bytes before at fits within none some = omega (arith, at p refl, fits p refl, within, none)

-- its entries have room at the cursors
pub got_fits : (by : EntrySetting) (s : ℕ) (f : NumberedFile) (x : InputSymbol) (next : NextEntries) → ComesNext by s f x next → TablesFit by
    → is_some by.link.plan.named.got ≡ true → next.cursors.got + (told_bytes by f.file.kind (s, x)).got < 2 ^ 64
got_fits by s f x next comes fit some = elim (told_by by f.file.kind (s, x)) [
  | inl plain ↦
      let is : IsNumbered by s f x = record { there = comes.there; wanted = ap (is_wanted f.file.kind s x) (sym plain) ∙ comes.wanted } in
      let room = room_is by.link.plan.named.got by.starts (got_table by) next.cursors.got (own_bytes by s).got (got_before by s) comes.next.got fit.got (got_room by s f x is) some in
      omega (arith, room, ap (λ (fl : ValueFlags). (by.sizes.allocation fl.0).got) plain)
  | inr late ↦
      no_room by.link.plan.named.got by.starts (got_table by) next.cursors.got (told_bytes by f.file.kind (s, x)).got (got_before by s) comes.next.got fit.got (got_within by s)
      (ap (λ (a : Allocation). a.got) (late_takes by f.file.kind (s, x) comes.lawful late)) some
]

pub plt_fits : (by : EntrySetting) (s : ℕ) (f : NumberedFile) (x : InputSymbol) (next : NextEntries) → ComesNext by s f x next → TablesFit by
    → is_some by.link.plan.named.plt ≡ true → next.cursors.plt + (told_bytes by f.file.kind (s, x)).plt < 2 ^ 64
plt_fits by s f x next comes fit some = elim (told_by by f.file.kind (s, x)) [
  | inl plain ↦
      let is : IsNumbered by s f x = record { there = comes.there; wanted = ap (is_wanted f.file.kind s x) (sym plain) ∙ comes.wanted } in
      let room = room_is by.link.plan.named.plt by.starts (plt_table by) next.cursors.plt (own_bytes by s).plt (plt_before by s) comes.next.plt fit.plt (plt_room by s f x is) some in
      omega (arith, room, ap (λ (fl : ValueFlags). (by.sizes.allocation fl.0).plt) plain)
  | inr late ↦
      no_room by.link.plan.named.plt by.starts (plt_table by) next.cursors.plt (told_bytes by f.file.kind (s, x)).plt (plt_before by s) comes.next.plt fit.plt (plt_within by s)
      (ap (λ (a : Allocation). a.plt) (late_takes by f.file.kind (s, x) comes.lawful late)) some
]

-- ---- what is made

no_entry : (named : Option ℕ) (starts : List ℕ) (table : List TableEntry) (s cursor bytes : ℕ) → bytes ≡ 0
    → (if is_some named then first_taken cursor bytes else None) ≡ entry_in named starts table s bytes
no_entry None starts table s cursor bytes none = refl
no_entry (Some p) starts table s cursor bytes none = ap (first_taken cursor) none ∙ sym (ap (first_taken (own_address (slice_index starts p) table s)) none)

got_made : (by : EntrySetting) (s : ℕ) (f : NumberedFile) (x : InputSymbol) (next : NextEntries) → ComesNext by s f x next
    → (if is_some by.link.plan.named.got then first_taken next.cursors.got (told_bytes by f.file.kind (s, x)).got else None)
    ≡ entry_in by.link.plan.named.got by.starts (got_table by) s (told_bytes by f.file.kind (s, x)).got
got_made by s f x next comes =
    let bytes : ℕ = (told_bytes by f.file.kind (s, x)).got in
    elim (told_by by f.file.kind (s, x)) [
      | inl plain ↦
          let is : IsNumbered by s f x = record { there = comes.there; wanted = ap (is_wanted f.file.kind s x) (sym plain) ∙ comes.wanted } in
          entry_is by.link.plan.named.got by.starts (got_table by) s next.cursors.got bytes (got_before by s) comes.next.got (got_own by s f x is)
      | inr late ↦ no_entry by.link.plan.named.got by.starts (got_table by) s next.cursors.got bytes (ap (λ (a : Allocation). a.got) (late_takes by f.file.kind (s, x) comes.lawful late))
    ]

plt_made : (by : EntrySetting) (s : ℕ) (f : NumberedFile) (x : InputSymbol) (next : NextEntries) → ComesNext by s f x next
    → (if is_some by.link.plan.named.plt then first_taken next.cursors.plt (told_bytes by f.file.kind (s, x)).plt else None)
    ≡ entry_in by.link.plan.named.plt by.starts (plt_table by) s (told_bytes by f.file.kind (s, x)).plt
plt_made by s f x next comes =
    let bytes : ℕ = (told_bytes by f.file.kind (s, x)).plt in
    elim (told_by by f.file.kind (s, x)) [
      | inl plain ↦
          let is : IsNumbered by s f x = record { there = comes.there; wanted = ap (is_wanted f.file.kind s x) (sym plain) ∙ comes.wanted } in
          entry_is by.link.plan.named.plt by.starts (plt_table by) s next.cursors.plt bytes (plt_before by s) comes.next.plt (plt_own by s f x is)
      | inr late ↦ no_entry by.link.plan.named.plt by.starts (plt_table by) s next.cursors.plt bytes (ap (λ (a : Allocation). a.plt) (late_takes by f.file.kind (s, x) comes.lawful late))
    ]

-- what is made at the cursors is the symbol with its entries
pub made_is : (by : EntrySetting) (s value : ℕ) (f : NumberedFile) (x : InputSymbol) (next : NextEntries) (flags : ValueFlags) (index : Option ℕ) → ComesNext by s f x next
    → flags ≡ told_flags by f.file.kind (s, x) → index ≡ dynamic_index (dynamic_table by.link by.live by.told) s
    → made_at by.link.plan.named next.cursors (by.sizes.allocation flags.0) flags value index ≡ with_entries by s (told_flags by f.file.kind (s, x)) value
unfolding with_entries
made_is by s value f x next flags index comes is_flags is_index =
    let named : NamedParts = by.link.plan.named in
    let own : ValueFlags = told_flags by f.file.kind (s, x) in
    let number : Option ℕ = dynamic_index (dynamic_table by.link by.live by.told) s in
    let bytes : Allocation = told_bytes by f.file.kind (s, x) in
    let whole : Option ℕ → Option ℕ → Resolution = λ g p. record { raw_value = value; flags = own; dynamic = number; got = g; plt = p } in
    ap (λ (fl : ValueFlags). made_at named next.cursors (by.sizes.allocation fl.0) fl value index) is_flags
    ∙ ap (made_at named next.cursors bytes own value) is_index
    ∙ ap (λ (g : Option ℕ). whole g (if is_some named.plt then first_taken next.cursors.plt bytes.plt else None)) (got_made by s f x next comes)
    ∙ ap (whole (entry_in named.got by.starts (got_table by) s bytes.got)) (plt_made by s f x next comes)

-- ---- the next one

record GoOn (by : EntrySetting) (s : ℕ) (k : FileKind) (x : InputSymbol) : Type 0 where
  got : got_before by (s + 1) ≡ got_before by s + (taken by k (s, x)).got
  plt : plt_before by (s + 1) ≡ plt_before by s + (taken by k (s, x)).plt

go_on : (by : EntrySetting) (s : ℕ) (f : NumberedFile) (x : InputSymbol) → slice_get (numbered_symbols by.link.groups) s ≡ Some (f, x) → GoOn by s f.file.kind x
go_on by s f x there =
    let moved = cursors_move_on by.sizes.allocation by.link by.live (record { got = 0; plt = 0 }) s f x there in
    let got : 0 + got_before by (s + 1) ≡ 0 + got_before by s + (taken by f.file.kind (s, x)).got = ap (λ (c : TableCursors). c.got) moved in
    let plt : 0 + plt_before by (s + 1) ≡ 0 + plt_before by s + (taken by f.file.kind (s, x)).plt = ap (λ (c : TableCursors). c.plt) moved in
    record { got = omega (arith, got); plt = omega (arith, plt) }

-- behind what takes entries
pub next_taken : (by : EntrySetting) (s : ℕ) (f : NumberedFile) (x : InputSymbol) (old new : NextEntries) (flags : ValueFlags) → ComesNext by s f x old
    → AreNumbersAt by.link by.live by.told (s + 1) new.numbers → flags ≡ told_flags by f.file.kind (s, x)
    → new.cursors ≡ cursors_behind by.link.plan.named old.cursors (by.sizes.allocation flags.0) → AreNextAt by (s + 1) new
next_taken by s f x old new flags comes numbers is_flags moved =
    let named : NamedParts = by.link.plan.named in
    let bytes : Allocation = told_bytes by f.file.kind (s, x) in
    let on : new.cursors ≡ cursors_behind named old.cursors bytes = moved ∙ ap (λ (fl : ValueFlags). cursors_behind named old.cursors (by.sizes.allocation fl.0)) is_flags in
    let more = go_on by s f x comes.there in
    let told = takes_told by f.file.kind (s, x) comes.lawful comes.wanted in
    record {
      numbers = numbers;
      got = cursor_on named.got by.starts (got_before by s) bytes.got (got_before by (s + 1)) old.cursors.got new.cursors.got comes.next.got (ap (λ (c : TableCursors). c.got) on)
          (omega (arith, more.got, told.got));
      plt = cursor_on named.plt by.starts (plt_before by s) bytes.plt (plt_before by (s + 1)) old.cursors.plt new.cursors.plt comes.next.plt (ap (λ (c : TableCursors). c.plt) on)
          (omega (arith, more.plt, told.plt));
    }

-- behind what takes none
pub next_kept : (by : EntrySetting) (s : ℕ) (f : NumberedFile) (x : InputSymbol) (old new : NextEntries) → slice_get (numbered_symbols by.link.groups) s ≡ Some (f, x)
    → is_wanted f.file.kind s x (told_flags by f.file.kind (s, x)) ≡ false → AreNextAt by s old → AreNumbersAt by.link by.live by.told (s + 1) new.numbers → new.cursors ≡ old.cursors
    → AreNextAt by (s + 1) new
next_kept by s f x old new there unwanted at numbers same =
    let named : NamedParts = by.link.plan.named in
    let bytes : Allocation = own_bytes by s in
    let resolved : is_resolved by.live f.file.kind (s, x) ≡ false = unwanted_before by f.file.kind (s, x) unwanted in
    let more = go_on by s f x there in
    let got : got_before by (s + 1) ≡ got_before by s + 0 = more.got ∙ ap (λ b. got_before by s + (if b then bytes.got else 0)) resolved in
    let plt : plt_before by (s + 1) ≡ plt_before by s + 0 = more.plt ∙ ap (λ b. plt_before by s + (if b then bytes.plt else 0)) resolved in
    record {
      numbers = numbers;
      got = cursor_stays named.got by.starts (got_before by s) (got_before by (s + 1)) old.cursors.got new.cursors.got at.got (ap (λ (c : TableCursors). c.got) same) (omega (arith, got));
      plt = cursor_stays named.plt by.starts (plt_before by s) (plt_before by (s + 1)) old.cursors.plt new.cursors.plt at.plt (ap (λ (c : TableCursors). c.plt) same) (omega (arith, plt));
    }

-- the first symbol's
cursor_first : (named : Option ℕ) (starts : List ℕ) (cursor : ℕ) → cursor ≡ start_of named starts → IsCursor named starts 0 cursor
cursor_first None starts cursor is p h = absurd (cc)
cursor_first (Some q) starts cursor is p h =
    let same : q ≡ p = cc in
    let start : cursor ≡ slice_index starts p = is ∙ ap (slice_index starts) same in
    omega (arith, start)

pub first_next : (by : EntrySetting) (next : NextEntries) → AreNumbersAt by.link by.live by.told 0 next.numbers → next.cursors ≡ first_cursors by.link.plan.named by.starts → AreNextAt by 0 next
first_next by next numbers cursors = record {
  numbers = numbers;
  got = cursor_first by.link.plan.named.got by.starts next.cursors.got (ap (λ (c : TableCursors). c.got) cursors);
  plt = cursor_first by.link.plan.named.plt by.starts next.cursors.plt (ap (λ (c : TableCursors). c.plt) cursors);
}

-- ---- room

-- entries take their own bytes of a part
pub own_entries : (part : PlanPart) (entries : List TableEntry) → bytes_of part (map EntryOwner entries) ≡ entry_bytes entries
own_entries part entries = sum_made (owner_bytes part) EntryOwner entries

-- the table that stands in a part ends with the part, or before
table_ends : (filling : Filling) (starts : List ℕ) (k p : ℕ) (table : List TableEntry) → IsWellFormed filling.content.link → length starts ≡ length (all_parts filling.content.link.plan.sections)
    → EndsFit filling starts → slice_get (table_parts filling.content.link.plan.named) k ≡ Some (Some p) → slice_get (all_lists (tables_of filling.content)) k ≡ Some table
    → slice_index starts p + entry_bytes table < 2 ^ 64
table_ends filling starts k p table good count fit named there =
    let part : PlanPart = part_at filling.content.link.plan.sections p in
    let owners : List Owner = content_owners filling p in
    let below : p < length starts = omega (arith, (good_part_fields filling.content.link good).in_range k p named, count) in
    let is : table_of filling.content.link.plan.named (tables_of filling.content) p ≡ table = named_parts filling.content.link (tables_of filling.content) k p table good named there in
    let more : bytes_of part (owners ++ map EntryOwner (table_of filling.content.link.plan.named (tables_of filling.content) p)) ≡ bytes_of part owners + bytes_of part (map EntryOwner (table_of filling.content.link.plan.named (tables_of filling.content) p))
    = sum_by-append (owner_bytes part) owners (map EntryOwner (table_of filling.content.link.plan.named (tables_of filling.content) p)) in
    let whole : bytes_of part (map EntryOwner (table_of filling.content.link.plan.named (tables_of filling.content) p)) ≡ entry_bytes table
    = ap (λ (es : List TableEntry). bytes_of part (map EntryOwner es)) is ∙ own_entries part table in
    omega (arith, fit p below, more, whole)

-- where parts end below 2^64, so do got and plt
pub tables_fit : (filling : Filling) (told : List Bool) (starts : List ℕ) → IsWellFormed filling.content.link → length starts ≡ length (all_parts filling.content.link.plan.sections)
    → EndsFit filling starts → TablesFit (entry_setting filling.content.sizes filling.content.link filling.content.live told starts)
tables_fit filling told starts good count fit =
    let by : EntrySetting = entry_setting filling.content.sizes filling.content.link filling.content.live told starts in
    record {
      got = λ p named. table_ends filling starts 0 p (got_table by) good count fit (ap (λ (o : Option ℕ). Some o) named) refl;
      plt = λ p named. table_ends filling starts 1 p (plt_table by) good count fit (ap (λ (o : Option ℕ). Some o) named) refl;
    }
