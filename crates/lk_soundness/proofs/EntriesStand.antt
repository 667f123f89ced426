-- The entries that a resolution tells are the symbol's own.
use Rattle.std.proofs.Common.{◌≡◌, ℕ, zero, suc, ◌<◌, ◌≤◌, ◌==◌, Bool, true, false, if◌then◌else◌, List, [], ◌∷◌, cond, length, map, take, Option, Some, None, refl, sym, ap, ◌∙◌, inl, inr, arith}
use Rattle.std.specs.Prelude.{◌&&◌, bit_and, bit_or, not, option_map, slice_get, slice_index}
use Rattle.std.specs.Int.Bits.{and_zero_l}
use Rattle.std.specs.List.{count_by, flat_map, slice_index_or}
use Rattle.std.proofs.Math.ListN as lists
use Rattle.std.proofs.lemmas.Bool.{cases_lt, eq-eqb}
use Rattle.std.proofs.lemmas.Bool.Decides.{eqb_tells}
use Rattle.std.proofs.lemmas.List.{get_or_past, take-map}
use Rattle.std.proofs.lemmas.List.Concat.{length-flat_map}
use Rattle.std.proofs.lemmas.List.Sums.{sum_by-cons}
use Rattle.std.proofs.lemmas.Nat.{and_assoc, and_or_apart}
use Rattle.std.proofs.lemmas.Option.{slice_get-get_or}
use Rattle.lk_link.specs.declared.file.FileKind.{FileKind}
use Rattle.lk_link.specs.declared.flags.TheConstants.ValueFlags as flag
use Rattle.lk_link.specs.declared.flags.ValueFlags.{ValueFlags}
use Rattle.lk_link.specs.declared.link.LinkInput.{LinkInput}
use Rattle.lk_link.specs.declared.plan.PlanPart.{PlanPart}
use Rattle.lk_link.specs.declared.resolution.Resolution.{Resolution}
use Rattle.lk_link.specs.declared.symbol.InputSymbol.{InputSymbol}
use Rattle.lk_link.specs.declared.tables.Allocation.{Allocation}
use Rattle.lk_link.specs.FileKinds.{is_prelude}
use Rattle.lk_link.specs.Flags.{got_entries, has_resolution, resolution}
use Rattle.lk_link.specs.Inputs.{NumberedFile, first_input, numbered_files}
use Rattle.lk_link.specs.PartRules.{table_parts}
use Rattle.lk_link.specs.Parts.{part_at}
use Rattle.lk_link.specs.Symbols.{can_resolve, first_symbol, is_canonical, is_named, is_wanted, symbols_in}
use Rattle.lk_link.specs.TableSizes.{AreLawful, TableSizes, first_taken, is_zero}
use Rattle.lk_layout.specs.Machines.{Machine}
use Rattle.lk_link.specs.WellFormed.{IsWellFormed}
use Rattle.lk_link.proofs.GoodPartFields.{good_part_fields}
use Rattle.lk_link.proofs.Elements.{flat_map_at, map_at, map_in, numbered_at}
use Rattle.lk_link.proofs.NumberedSymbolLemmas.{stands}
use Rattle.lk_reach.proofs.Numbered.{file_at}
use Rattle.lk_reach.specs.Units.{flags_from, numbered_symbols}
use Rattle.lk_expressions.specs.Records.{Record, nowhere}
use Rattle.lk_tables.specs.Dynamic.{dynamic_index, dynamic_table}
use Rattle.lk_tables.specs.Late.{flags_at, is_late, is_late_place}
use Rattle.lk_tables.specs.OwnEntries.{is_of, own_address, own_place}
use Rattle.lk_tables.specs.OwnTables.{one_if}
use Rattle.lk_tables.specs.SymbolEntries.{is_resolved}
use Rattle.lk_tables.specs.SymbolTable.{SymbolEntry, TableEntry, entry_bytes, symbols_by_number}
use Rattle.lk_tables.specs.TableLaws.{HasLastEntry, HasNoEntry}
use Rattle.lk_tables.specs.TableLists.{all_lists, table_of}
use Rattle.lk_tables.proofs.IndexLemmas.{indexes_name_entries}
use Rattle.lk_tables.proofs.OwnCounts.{symbols_have_own_entries}
use Rattle.lk_tables.proofs.OwnLemmas.{cursors_reach_entries}
use Rattle.lk_tables.proofs.PartLists.{named_parts}
use Rattle.lk_tables.proofs.ShareSums.{sum_alike}
use Rattle.lk_sizes.specs.Emitted.{active_segments}
use Rattle.lk_sizes.specs.Owners.{EntryOwner, Owner, bytes_of, Filling}
use Rattle.lk_sizes.specs.PartOwners.{owners_of, tables_of}
use Rattle.lk_layout.specs.LayoutRecord.{LayoutRecord}
use Rattle.lk_layout.specs.Made.{Made, made_content, made_filling}
use Rattle.lk_layout.specs.Redirects.{placed_resolutions}
use Rattle.lk_soundness.specs.Sound.{AreOwnEntries, IsEntryAt, part_record}
use Rattle.lk_soundness.proofs.Stands.{EntriesStand, TablesStandAlone}
use Rattle.lk_layout.proofs.LaidOut.{IsLaidOut, made_by}
use Rattle.lk_soundness.proofs.Resolving.{as_many, made_at, made_entries}
use Rattle.lk_resolutions.specs.Entries.{EntrySetting, entry_in, got_table, plt_table, told_flags, with_entries}
use Rattle.lk_resolutions.specs.Resolutions.{ValueAddresses, file_resolutions, has_resolutions, resolution_of, value_of}
use Rattle.lk_resolution_list.specs.Lists.{resolution_at}
use Rattle.lk_resolutions.specs.Starts.{starts_of}
use Rattle.lk_resolution_list.specs.StoreLaws.{ChangesValuesAlone}
use Rattle.lk_resolution_list.specs.Stores.{valued}
use Rattle.lk_resolutions.proofs.EntriesTaken.{own_entries}
use Rattle.lk_resolutions.proofs.Pushing.{first_is}

-- ---- whose a resolution is

-- it is that of the symbol with this number, with its file
record HasSymbol (made : Made) (s : ℕ) (r : Resolution) : Type 0 where
  file : NumberedFile
  symbol : InputSymbol
  there : slice_get (numbered_symbols made.link.groups) s ≡ Some (file, symbol)
  wanted : is_wanted file.file.kind s symbol (told_flags (made_entries made) file.file.kind (s, symbol)) ≡ true
  value : ℕ
  is : r ≡ with_entries (made_entries made) s (told_flags (made_entries made) file.file.kind (s, symbol)) value

-- what is read at a number stands there
read_at : {X : Type 0} (xs : List (Option X)) (s : ℕ) (x : X) → slice_index_or xs s None ≡ Some x → slice_get xs s ≡ Some (Some x)
read_at {X} xs s x h =
    let none : Option X = None in
    elim (cases_lt s (length xs)) [
      | inl below ↦ slice_get-get_or xs s none below ∙ ap (λ (o : Option X). Some o) h
      | inr past ↦ absurd (let nothing : slice_index_or xs s none ≡ none = get_or_past xs s none past in cc)
    ]

-- what is made of something, where it is asked for, was asked for, and is made of that
asked_of : (b c : Bool) (f : ℕ → Resolution) (o : Option ℕ) (r : Resolution) → (if b && c then option_map f o else None) ≡ Some r
    → (c ≡ true) × ((n : ℕ) × (r ≡ f n))
asked_of true true f (Some n) r h = (refl, (n, cc))
asked_of true true f None r h = absurd (cc)
asked_of true false f o r h = absurd (cc)
asked_of false c f o r h = absurd (cc)

symbol_of : (made : Made) (s : ℕ) (r : Resolution) → resolution_at (placed_resolutions made) s ≡ Some r → HasSymbol made s r
symbol_of made s r h =
    let groups = made.link.groups in
    let places : ValueAddresses = made_at made in
    let by : EntrySetting = made_entries made in
    let files : List NumberedFile = numbered_files groups in
    let of_file : NumberedFile → List (Option Resolution) = file_resolutions places by in
    let at = flat_map_at of_file files s (Some r) (read_at (placed_resolutions made) s r h) in
    let f : NumberedFile = at.from in
    let kind : FileKind = f.file.kind in
    let first : ℕ = first_symbol groups f.id in
    let one : ℕ × InputSymbol → Option Resolution = resolution_of places by kind (first_input groups f.id) in
    let from = map_at one (symbols_by_number made.link f) at.inner (Some r) at.gives in
    let q : ℕ × InputSymbol = from.0 in
    let number = numbered_at first f.file.symbols at.inner q from.1 in
    let before : length (flat_map of_file (take at.outer files)) ≡ first
    = length-flat_map of_file (take at.outer files)
    ∙ sum_alike (λ (g : NumberedFile). length (of_file g)) (λ (g : NumberedFile). symbols_in g.file) (take at.outer files) (as_many places by)
    ∙ sym (first_is groups at.outer f at.there) in
    let own : s ≡ q.0 = omega (arith, at.place, before, number.0) in
    let gives : resolution_of places by kind (first_input groups f.id) (s, q.1) ≡ Some r = ap (λ (n : ℕ). one (n, q.1)) own ∙ from.2 in
    let flags : ValueFlags = told_flags by kind (s, q.1) in
    let both = asked_of (has_resolutions kind) (is_wanted kind s q.1 flags) (with_entries by s flags) (value_of places kind (first_input groups f.id) s q.1.at) r gives in
    record {
      file = f;
      symbol = q.1;
      there = ap (slice_get (numbered_symbols groups)) (own ∙ number.0) ∙ stands groups f.id f.file at.inner q.1 (file_at groups at.outer f at.there).there number.1;
      wanted = both.0;
      value = both.1.0;
      is = both.1.1;
    }

-- ---- late marks

no_middle : (a b : Bool) → (a && false && b) ≡ false
no_middle true b = refl
no_middle false b = refl

-- one that is marked late has no flag for which it would have a resolution
unasked : (a b c d e f : Bool) → (a && b && c && d && e && f) ≡ true → d ≡ true
unasked true true true true e f h = refl
unasked false b c d e f h = absurd (cc)
unasked true false c d e f h = absurd (cc)
unasked true true false d e f h = absurd (cc)
unasked true true true false e f h = absurd (cc)

not_true : (b : Bool) → not b ≡ true → b ≡ false
not_true true h = absurd (cc)
not_true false h = refl

-- so it takes nothing in got and plt, if it is told directly
late_takes_none : (sizes : TableSizes) (flags : ℕ) → AreLawful sizes → has_resolution flags ≡ false
    → ((sizes.allocation (bit_or flags flag.DIRECT.0)).got ≡ 0) × ((sizes.allocation (bit_or flags flag.DIRECT.0)).plt ≡ 0)
late_takes_none sizes flags lawful unwanted =
    let none : bit_and flags resolution ≡ 0 = is_zero (bit_and flags resolution) unwanted in
    let some : ℕ → ℕ = λ n. bit_and (bit_or flags flag.DIRECT.0) n in
    let got : some got_entries ≡ 0
    = and_or_apart got_entries flags flag.DIRECT.0 refl ∙ sym (and_assoc got_entries flags resolution) ∙ ap (λ n. bit_and n got_entries) none ∙ and_zero_l got_entries in
    let plt : some flag.PLT.0 ≡ 0
    = and_or_apart flag.PLT.0 flags flag.DIRECT.0 refl ∙ sym (and_assoc flag.PLT.0 flags resolution) ∙ ap (λ n. bit_and n flag.PLT.0) none ∙ and_zero_l flag.PLT.0 in (
      lawful.got (bit_or flags flag.DIRECT.0) (ap (λ n. not (n == 0)) got),
      lawful.plt (bit_or flags flag.DIRECT.0) (ap (λ n. n == flag.PLT.0) plt),
    )

-- ---- one table

-- what is told of an entry in a table: the part that the plan names, that there are bytes, and the address
told_entry : (named : Option ℕ) (starts : List ℕ) (table : List TableEntry) (s bytes address : ℕ) → entry_in named starts table s bytes ≡ Some address
    → (p : ℕ) × (named ≡ Some p) × (0 < bytes) × (address ≡ own_address (slice_index starts p) table s)
told_entry None starts table s bytes address h = absurd (cc)
told_entry (Some p) starts table s bytes address h =
    let cursor : ℕ = own_address (slice_index starts p) table s in
    elim (eqb_tells bytes 0) [
      | inl hit ↦ absurd (let nothing : first_taken cursor bytes ≡ None = ap (λ b. if b then None else Some cursor) hit.0 in cc)
      | inr miss ↦
          let some : first_taken cursor bytes ≡ Some cursor = ap (λ b. if b then None else Some cursor) miss.0 in
          let both : Some address ≡ Some cursor = sym h ∙ some in
          let same : address ≡ cursor = cc in
          (p, refl, omega (arith, miss.1), same)
    ]

-- in the part of a table, where nothing else is, an entry has the address that it has in the table
entry_stands : (made : Made) (layout : LayoutRecord) (starts : List ℕ) (k p s bytes address : ℕ) (table : List TableEntry) → IsWellFormed made.link
    → TablesStandAlone (made_filling made) → slice_get (table_parts made.link.plan.named) k ≡ Some (Some p) → slice_get (all_lists (tables_of (made_content made))) k ≡ Some table
    → slice_index starts p ≡ (part_record layout p).mem_offset → 0 < bytes → slice_get table (own_place s table) ≡ Some (record { owner = SymbolEntry s; bytes = bytes })
    → address ≡ own_address (slice_index starts p) table s → IsEntryAt made layout p s address
entry_stands made layout starts k p s bytes address table good alone named there start some own at =
    let filling : Filling = made_filling made in
    let part : PlanPart = part_at made.link.plan.sections p in
    let entry : TableEntry = record { owner = SymbolEntry s; bytes = bytes } in
    let place : ℕ = own_place s table in
    let is : table_of made.link.plan.named (tables_of filling.content) p ≡ table = named_parts made.link (tables_of filling.content) k p table good named there in
    let owners : owners_of filling p ≡ map EntryOwner table = alone k p named ∙ ap (λ (es : List TableEntry). map EntryOwner es) is in
    let before : bytes_of part (take place (map EntryOwner table)) ≡ entry_bytes (take place table)
    = ap (bytes_of part) (take-map EntryOwner place table) ∙ own_entries part (take place table) in
    let whole : bytes_of part (take place (owners_of filling p)) ≡ entry_bytes (take place table) = ap (λ (os : List Owner). bytes_of part (take place os)) owners ∙ before in
    record {
      part = (good_part_fields made.link good).in_range k p named;
      number = place;
      bytes = bytes;
      some = some;
      owner = ap (λ (os : List Owner). slice_get os place) owners ∙ map_in EntryOwner table place entry own;
      at = omega (arith, at, start, whole);
    }

-- ---- the other way round

-- one that passes counts
counted : {X : Type 0} (p : X → Bool) (xs : List X) (k : ℕ) (x : X) → slice_get xs k ≡ Some x → p x ≡ true → 1 ≤ count_by p xs
counted p [] k x h passes = absurd (cc)
counted p (y ∷ ys) zero x h passes =
    let same : y ≡ x = cc in
    omega (arith, sum_by-cons (λ z. cond (p z) 1 0) y ys, ap {B = ℕ} (λ b. cond b 1 0) (ap p same ∙ passes))
counted p (y ∷ ys) (suc k) x h passes = omega (arith, sum_by-cons (λ z. cond (p z) 1 0) y ys, counted p ys k x h passes)

-- where one passes, it is the only one
only_one : {X : Type 0} (p : X → Bool) (xs : List X) (i j : ℕ) (x y : X) → count_by p xs ≡ 1 → slice_get xs i ≡ Some x → p x ≡ true → slice_get xs j ≡ Some y → p y ≡ true
    → i ≡ j
only_one p [] i j x y one at_i passes at_j passes_too = absurd (cc)
only_one p (z ∷ zs) zero zero x y one at_i passes at_j passes_too = refl
only_one p (z ∷ zs) zero (suc j) x y one at_i passes at_j passes_too =
    let same : z ≡ x = cc in
    absurd (omega (arith, one, sum_by-cons (λ w. cond (p w) 1 0) z zs, ap {B = ℕ} (λ b. cond b 1 0) (ap p same ∙ passes), counted p zs j y at_j passes_too))
only_one p (z ∷ zs) (suc i) zero x y one at_i passes at_j passes_too =
    let same : z ≡ y = cc in
    absurd (omega (arith, one, sum_by-cons (λ w. cond (p w) 1 0) z zs, ap {B = ℕ} (λ b. cond b 1 0) (ap p same ∙ passes_too), counted p zs i x at_i passes))
only_one p (z ∷ zs) (suc i) (suc j) x y one at_i passes at_j passes_too =
    let least = counted p zs i x at_i passes in
    let rest : count_by p zs ≡ 1 = omega (arith, one, sum_by-cons (λ w. cond (p w) 1 0) z zs, least) in
    let same = only_one p zs i j x y rest at_i passes at_j passes_too in
    omega (arith, same)

same_entry : (s bytes more : ℕ) → ◌≡◌ {A = TableEntry} (record { owner = SymbolEntry s; bytes = bytes }) (record { owner = SymbolEntry s; bytes = more }) → bytes ≡ more
same_entry s bytes more h = ap (λ (e : TableEntry). e.bytes) h

-- an entry that stands in the part of a table is one of the table
entry_among : (made : Made) (layout : LayoutRecord) (k p s address : ℕ) (table : List TableEntry) → IsWellFormed made.link
    → TablesStandAlone (made_filling made) → slice_get (table_parts made.link.plan.named) k ≡ Some (Some p) → slice_get (all_lists (tables_of (made_content made))) k ≡ Some table
    → (is : IsEntryAt made layout p s address) → slice_get table is.number ≡ Some (record { owner = SymbolEntry s; bytes = is.bytes })
entry_among made layout k p s address table good alone named there is =
    let filling : Filling = made_filling made in
    let theirs : TableEntry = record { owner = SymbolEntry s; bytes = is.bytes } in
    let tells : table_of made.link.plan.named (tables_of filling.content) p ≡ table = named_parts made.link (tables_of filling.content) k p table good named there in
    let owners : owners_of filling p ≡ map EntryOwner table = alone k p named ∙ ap (λ (es : List TableEntry). map EntryOwner es) tells in
    let from = map_at EntryOwner table is.number (EntryOwner theirs) (ap (λ (os : List Owner). slice_get os is.number) (sym owners) ∙ is.owner) in
    let entry : from.0 ≡ theirs = let both : EntryOwner from.0 ≡ EntryOwner theirs = from.2 in cc in
    from.1 ∙ ap (λ (e : TableEntry). Some e) entry

-- where a symbol has none in a table, none stands in the part
none_stands : (made : Made) (layout : LayoutRecord) (k p s address : ℕ) (table : List TableEntry) → IsWellFormed made.link
    → TablesStandAlone (made_filling made) → slice_get (table_parts made.link.plan.named) k ≡ Some (Some p) → slice_get (all_lists (tables_of (made_content made))) k ≡ Some table
    → count_by (is_of s) table ≡ 0 → IsEntryAt made layout p s address → ⊥
none_stands made layout k p s address table good alone named there none is =
    let itself : (s == s) ≡ true = eq-eqb s s refl in
    omega (arith, none, counted (is_of s) table is.number (record { owner = SymbolEntry s; bytes = is.bytes }) (entry_among made layout k p s address table good alone named there is) itself)

-- an entry with bytes that stands in the part of a table is told
entry_told : (made : Made) (layout : LayoutRecord) (starts : List ℕ) (k p s bytes address : ℕ) (table : List TableEntry) → IsWellFormed made.link
    → TablesStandAlone (made_filling made) → slice_get (table_parts made.link.plan.named) k ≡ Some (Some p) → slice_get (all_lists (tables_of (made_content made))) k ≡ Some table
    → slice_index starts p ≡ (part_record layout p).mem_offset → count_by (is_of s) table ≡ 1
    → slice_get table (own_place s table) ≡ Some (record { owner = SymbolEntry s; bytes = bytes }) → IsEntryAt made layout p s address
    → entry_in (Some p) starts table s bytes ≡ Some address
entry_told made layout starts k p s bytes address table good alone named there start one own is =
    let filling : Filling = made_filling made in
    let part : PlanPart = part_at made.link.plan.sections p in
    let place : ℕ = own_place s table in
    let mine : TableEntry = record { owner = SymbolEntry s; bytes = bytes } in
    let tells : table_of made.link.plan.named (tables_of filling.content) p ≡ table = named_parts made.link (tables_of filling.content) k p table good named there in
    let owners : owners_of filling p ≡ map EntryOwner table = alone k p named ∙ ap (λ (es : List TableEntry). map EntryOwner es) tells in
    let theirs : TableEntry = record { owner = SymbolEntry s; bytes = is.bytes } in
    let stands : slice_get table is.number ≡ Some theirs = entry_among made layout k p s address table good alone named there is in
    let itself : (s == s) ≡ true = eq-eqb s s refl in
    let number : is.number ≡ place = only_one (is_of s) table is.number place theirs mine one stands itself own itself in
    let twice : Some theirs ≡ Some mine = sym stands ∙ ap (slice_get table) number ∙ own in
    let same : theirs ≡ mine = cc in
    let taken : is.bytes ≡ bytes = same_entry s is.bytes bytes same in
    let before : bytes_of part (take place (map EntryOwner table)) ≡ entry_bytes (take place table)
    = ap (bytes_of part) (take-map EntryOwner place table) ∙ own_entries part (take place table) in
    let whole : bytes_of part (take is.number (owners_of filling p)) ≡ entry_bytes (take place table)
    = ap (λ (n : ℕ). bytes_of part (take n (owners_of filling p))) number ∙ ap (λ (os : List Owner). bytes_of part (take place os)) owners ∙ before in
    let at : own_address (slice_index starts p) table s ≡ address = omega (arith, is.at, start, whole) in
    let cursor : ℕ = own_address (slice_index starts p) table s in
    elim (eqb_tells bytes 0) [
      | inl hit ↦ absurd (omega (arith, hit.1, taken, is.some))
      | inr miss ↦ ap (λ b. if b then None else Some cursor) miss.0 ∙ ap (λ (n : ℕ). Some n) at
    ]

-- two last places are one
one_last : (s j k bytes : ℕ) (entries : List TableEntry) → HasLastEntry s j bytes entries → HasLastEntry s k bytes entries → j ≡ k
one_last s j k bytes entries h g = elim (cases_lt j k) [
  | inl less ↦ absurd (h.last k less g.there)
  | inr more ↦ elim (cases_lt k j) [ inl less ↦ absurd (g.last j less h.there) | inr same ↦ omega (arith, more, same) ]
]

told_index : (s k bytes : ℕ) (entries : List TableEntry) (o : Option ℕ) → ((j : ℕ) → o ≡ Some j → HasLastEntry s j bytes entries)
    → (o ≡ None → HasNoEntry s bytes entries) → HasLastEntry s k bytes entries → o ≡ Some k
told_index s k bytes entries (Some j) some none h = ap (λ (n : ℕ). Some n) (one_last s j k bytes entries (some j refl) h)
told_index s k bytes entries None some none h = absurd (none refl k h.there)

-- ---- one table of a symbol

-- what a resolution tells of a table, with the entries that the plan's part has: its symbol's own, and all of it
record TellsTable (made : Made) (layout : LayoutRecord) (named told : Option ℕ) (s : ℕ) : Type 0 where
  own : (address : ℕ) → told ≡ Some address → (p : ℕ) × (named ≡ Some p) × IsEntryAt made layout p s address
  all : (p address : ℕ) → named ≡ Some p → IsEntryAt made layout p s address → told ≡ Some address

-- the table with this place among all stands where the plan's part does, and the symbol has so many entries there
record IsTable (made : Made) (layout : LayoutRecord) (k : ℕ) (named : Option ℕ) (table : List TableEntry) : Type 0 where
  good : IsWellFormed made.link
  alone : TablesStandAlone (made_filling made)
  part : slice_get (table_parts made.link.plan.named) k ≡ Some named
  there : slice_get (all_lists (tables_of (made_content made))) k ≡ Some table
  start : (p : ℕ) → slice_index (starts_of made.stage.records) p ≡ (part_record layout p).mem_offset

-- a symbol with an entry of its own
with_one : (made : Made) (layout : LayoutRecord) (k : ℕ) (named : Option ℕ) (table : List TableEntry) (s bytes : ℕ) → IsTable made layout k named table
    → count_by (is_of s) table ≡ 1 → slice_get table (own_place s table) ≡ Some (record { owner = SymbolEntry s; bytes = bytes })
    → TellsTable made layout named (entry_in named (starts_of made.stage.records) table s bytes) s
with_one made layout k named table s bytes is one own =
    let starts : List ℕ = starts_of made.stage.records in
    let in_part : (p : ℕ) → named ≡ Some p → slice_get (table_parts made.link.plan.named) k ≡ Some (Some p) = λ p at. is.part ∙ ap (λ (o : Option ℕ). Some o) at in
    record {
      own = λ address h.
          let entry = told_entry named starts table s bytes address h in
          (entry.0, entry.1, entry_stands made layout starts k entry.0 s bytes address table is.good is.alone (in_part entry.0 entry.1) is.there (is.start entry.0) entry.2 own entry.3);
      all = λ p address at entry. ap (λ (o : Option ℕ). entry_in o starts table s bytes) at
          ∙ entry_told made layout starts k p s bytes address table is.good is.alone (in_part p at) is.there (is.start p) one own entry;
    }

-- and one without
with_none : (made : Made) (layout : LayoutRecord) (k : ℕ) (named : Option ℕ) (table : List TableEntry) (s bytes : ℕ) → IsTable made layout k named table
    → count_by (is_of s) table ≡ 0 → bytes ≡ 0 → TellsTable made layout named (entry_in named (starts_of made.stage.records) table s bytes) s
with_none made layout k named table s bytes is none empty =
    record {
      own = λ address h.
          let entry = told_entry named (starts_of made.stage.records) table s bytes address h in
          absurd (omega (arith, entry.2, empty));
      all = λ p address at entry.
          absurd (none_stands made layout k p s address table is.good is.alone (is.part ∙ ap (λ (o : Option ℕ). Some o) at) is.there none entry);
    }

-- ---- got and plt of a symbol

-- what a resolution with these flags tells of got and plt
record TellsEntries (made : Made) (layout : LayoutRecord) (s : ℕ) (flags : ValueFlags) : Type 0 where
  got : TellsTable made layout made.link.plan.named.got
      (entry_in made.link.plan.named.got (starts_of made.stage.records) (got_table (made_entries made)) s (made.machine.sizes.allocation flags.0).got) s
  plt : TellsTable made layout made.link.plan.named.plt
      (entry_in made.link.plan.named.plt (starts_of made.stage.records) (plt_table (made_entries made)) s (made.machine.sizes.allocation flags.0).plt) s

abbrev AreTables : Made → LayoutRecord → Type 0
AreTables made layout =
    IsTable made layout 0 made.link.plan.named.got (got_table (made_entries made)) × IsTable made layout 1 made.link.plan.named.plt (plt_table (made_entries made))

-- without a late mark a symbol has its own entries
told_plainly : (made : Made) (layout : LayoutRecord) (s : ℕ) (f : NumberedFile) (x : InputSymbol) → AreTables made layout
    → slice_get (numbered_symbols made.link.groups) s ≡ Some (f, x) → is_resolved made.live f.file.kind (s, x) ≡ true
    → TellsEntries made layout s (flags_at made.live.flags s)
told_plainly made layout s f x tables there resolved =
    let sizes : TableSizes = made.machine.sizes in
    let by : EntrySetting = made_entries made in
    let bytes : Allocation = sizes.allocation (flags_at made.live.flags s).0 in
    let own = symbols_have_own_entries sizes made.link made.live by.told by.told (active_segments (made_content made)) s f x there in
    let reach = cursors_reach_entries sizes.allocation made.link made.live (record { got = 0; plt = 0 }) s f x there resolved in
    record {
      got = with_one made layout 0 made.link.plan.named.got (got_table by) s bytes.got tables.0 (own.got ∙ ap one_if resolved) reach.0.there;
      plt = with_one made layout 1 made.link.plan.named.plt (plt_table by) s bytes.plt tables.1 (own.plt ∙ ap one_if resolved) reach.1.there;
    }

-- with one it has none
told_late : (made : Made) (layout : LayoutRecord) (s : ℕ) (f : NumberedFile) (x : InputSymbol) → AreLawful made.machine.sizes → AreTables made layout
    → slice_get (numbered_symbols made.link.groups) s ≡ Some (f, x) → has_resolution (flags_at made.live.flags s).0 ≡ false
    → TellsEntries made layout s (flags_from (bit_or (flags_at made.live.flags s).0 flag.DIRECT.0))
told_late made layout s f x lawful tables there unwanted =
    let sizes : TableSizes = made.machine.sizes in
    let by : EntrySetting = made_entries made in
    let flags : ℕ = (flags_at made.live.flags s).0 in
    let bytes : Allocation = sizes.allocation (bit_or flags flag.DIRECT.0) in
    let none = late_takes_none sizes flags lawful unwanted in
    let own = symbols_have_own_entries sizes made.link made.live by.told by.told (active_segments (made_content made)) s f x there in
    let unresolved : is_resolved made.live f.file.kind (s, x) ≡ false
    = ap (λ (b : Bool). is_canonical s x && b && can_resolve f.file.kind x) unwanted ∙ no_middle (is_canonical s x) (can_resolve f.file.kind x) in
    record {
      got = with_none made layout 0 made.link.plan.named.got (got_table by) s bytes.got tables.0 (own.got ∙ ap one_if unresolved) none.0;
      plt = with_none made layout 1 made.link.plan.named.plt (plt_table by) s bytes.plt tables.1 (own.plt ∙ ap one_if unresolved) none.1;
    }

-- so is each symbol that has a resolution
told_entries : (made : Made) (layout : LayoutRecord) (s : ℕ) (f : NumberedFile) (x : InputSymbol) → AreLawful made.machine.sizes → AreTables made layout
    → slice_get (numbered_symbols made.link.groups) s ≡ Some (f, x) → is_wanted f.file.kind s x (told_flags (made_entries made) f.file.kind (s, x)) ≡ true
    → TellsEntries made layout s (told_flags (made_entries made) f.file.kind (s, x))
told_entries made layout s f x lawful tables there wanted =
    let by : EntrySetting = made_entries made in
    let kind : FileKind = f.file.kind in
    let own : ValueFlags = flags_at made.live.flags s in
    let late : Bool = is_late made.link by.told kind s x own in
    let marked : ValueFlags = flags_from (bit_or own.0 flag.DIRECT.0) in
    (elim late as (λ b. late ≡ b → is_wanted kind s x (if b then marked else own) ≡ true → TellsEntries made layout s (if b then marked else own)) [
      | true ↦ λ h asked. told_late made layout s f x lawful tables there
          (not_true (has_resolution own.0) (unasked (is_prelude kind) (is_named x) (is_canonical s x) (not (has_resolution own.0)) (not made.link.options.strip_all) (is_late_place by.told x.at) h))
      | false ↦ λ h asked. told_plainly made layout s f x tables there asked
    ]) refl wanted

-- ---- all

-- what is told of entries goes by them alone
own_entries_of : (machine : Machine) (link : LinkInput) (layout : LayoutRecord) (laid : IsLaidOut machine link layout) (s : ℕ) (r : Resolution) → AreLawful machine.sizes
    → TablesStandAlone (made_filling (made_by laid)) → HasSymbol (made_by laid) s r → AreOwnEntries (made_by laid) layout s r
unfolding with_entries
own_entries_of machine link layout laid s r lawful alone has =
    let made : Made = made_by laid in
    let by : EntrySetting = made_entries made in
    let start : (p : ℕ) → slice_index (starts_of laid.stage.records) p ≡ (part_record layout p).mem_offset
    = λ p. lists.get_or-map (λ (x : Record). x.mem_offset) laid.stage.records p nowhere ∙ ap (λ (l : LayoutRecord). (part_record l p).mem_offset) (sym laid.same) in
    let got : IsTable made layout 0 link.plan.named.got (got_table by) = record { good = laid.good; alone = alone; part = refl; there = refl; start = start } in
    let plt : IsTable made layout 1 link.plan.named.plt (plt_table by) = record { good = laid.good; alone = alone; part = refl; there = refl; start = start } in
    let tells = told_entries made layout s has.file has.symbol lawful (got, plt) has.there has.wanted in
    let indexes = indexes_name_entries machine.sizes link laid.live by.told by.told (active_segments (made_content made)) s in
    record {
      got = λ address. (
        λ h. tells.got.own address (ap (λ (x : Resolution). x.got) (sym has.is) ∙ h),
        λ h. ap (λ (x : Resolution). x.got) has.is ∙ tells.got.all h.0 address h.1 h.2,
      );
      plt = λ address. (
        λ h. tells.plt.own address (ap (λ (x : Resolution). x.plt) (sym has.is) ∙ h),
        λ h. ap (λ (x : Resolution). x.plt) has.is ∙ tells.plt.all h.0 address h.1 h.2,
      );
      dynamic = λ k. (
        λ h. indexes.0 k (ap (λ (x : Resolution). x.dynamic) (sym has.is) ∙ h),
        λ h. ap (λ (x : Resolution). x.dynamic) has.is
            ∙ told_index s k machine.sizes.symbol_entry (tables_of (made_content made)).dynsym (dynamic_index (dynamic_table link laid.live by.told) s) indexes.0 indexes.1 h,
      );
    }

-- resolutions that differ in their values alone tell the same of entries
alike : (made : Made) (layout : LayoutRecord) (s : ℕ) (a b : Resolution) → valued 0 a ≡ valued 0 b → AreOwnEntries made layout s b → AreOwnEntries made layout s a
alike made layout s a b same own =
    let got : a.got ≡ b.got = ap (λ (r : Resolution). r.got) same in
    let plt : a.plt ≡ b.plt = ap (λ (r : Resolution). r.plt) same in
    let dynamic : a.dynamic ≡ b.dynamic = ap (λ (r : Resolution). r.dynamic) same in
    record {
      got = λ address. (λ h. (own.got address).0 (sym got ∙ h), λ h. got ∙ (own.got address).1 h);
      plt = λ address. (λ h. (own.plt address).0 (sym plt ∙ h), λ h. plt ∙ (own.plt address).1 h);
      dynamic = λ k. (λ h. (own.dynamic k).0 (sym dynamic ∙ h), λ h. dynamic ∙ (own.dynamic k).1 h);
    }

-- one of them is there where the other is
its_like : (o : Option Resolution) (a : Resolution) → option_map (valued 0) (Some a) ≡ option_map (valued 0) o → (b : Resolution) × (o ≡ Some b) × (valued 0 a ≡ valued 0 b)
its_like None a h = absurd (cc)
its_like (Some b) a h = (b, refl, cc)

pub entries_stand : (machine : Machine) (link : LinkInput) (layout : LayoutRecord) (laid : IsLaidOut machine link layout) → AreLawful machine.sizes
    → TablesStandAlone (made_filling (made_by laid)) → ChangesValuesAlone link.groups (placed_resolutions (made_by laid)) layout.symbol_resolutions → EntriesStand (made_by laid) layout
entries_stand machine link layout laid lawful alone changed s r told =
    let made : Made = made_by laid in
    let one = its_like (resolution_at (placed_resolutions made) s) r (ap (option_map (valued 0)) (sym told) ∙ changed.rest s) in
    alike made layout s r one.0 one.2 (own_entries_of machine link layout laid s one.0 lawful alone (symbol_of made s one.0 one.1))
