-- How many entries a symbol has.
use Rattle.std.proofs.Common.{◌≡◌, ℕ, zero, suc, ◌+◌, ◌<◌, ◌&&◌, ◌==◌, not, cond, Bool, true, false, if◌then◌else◌, List, [], ◌∷◌, ◌++◌, Some, filter, length, map, refl, sym, ap, ◌∙◌, arith}
use Rattle.std.specs.List.{count_by, enumerate_from, flat_map, slice_get}
use Rattle.std.proofs.lemmas.Bool.{eq-eqb, eqb-true}
use Rattle.std.proofs.lemmas.List.Concat.{flat_map-cons}
use Rattle.std.proofs.lemmas.List.Sums.{sum_by-append, sum_by-cons}
use Rattle.lk_link.specs.declared.link.LinkInput.{LinkInput}
use Rattle.lk_link.specs.declared.symbol.InputSymbol.{InputSymbol}
use Rattle.lk_link.specs.FileKinds.{is_prelude}
use Rattle.lk_link.specs.Inputs.{Input, NumberedFile, numbered_files}
use Rattle.lk_link.specs.OutputKinds.{is_loaded_dynamically, is_partial}
use Rattle.lk_live.specs.declared.live.Live.{Live}
use Rattle.lk_reach.specs.Units.{numbered_symbols}
use Rattle.lk_tables.specs.Dynamic.{is_dynamic_symbol, is_export}
use Rattle.lk_tables.specs.OwnEntries.{is_of}
use Rattle.lk_tables.specs.ShareWords.{has_entry_there}
use Rattle.lk_tables.specs.Singletons.{singletons, told_sections}
use Rattle.lk_tables.specs.SymbolEntries.{allocated, is_resolved}
use Rattle.lk_tables.specs.SymbolTable.{SymbolEntry, TableEntry, entry_of, first_entry, is_local_entry, local_start, name_of, section_entry, section_symbols, singleton_entry, symbols_by_number, table_start, table_symbols}
use Rattle.lk_tables.specs.OwnTables.{SymbolsHaveOwnEntries, one_if}
use Rattle.lk_tables.specs.TableLists.{file_dynamic_entries, file_dynamic_names, file_export_entries, file_export_names}
use Rattle.lk_tables.proofs.BySymbol.{by_number, passes_of}
use Rattle.lk_tables.proofs.OwnLemmas.{entries_from}
use Rattle.lk_tables.proofs.TableSums.{passing_twice}
use Rattle.lk_tables.proofs.TotalLemmas.{symbols_there}

-- ---- among entries of symbols by number

no_other : (a b : ℕ) (c : Bool) → (a == b) ≡ c → (a ≡ b → ⊥) → (a == b) ≡ false
no_other a b true h other = absurd (other (eqb-true a b h))
no_other a b false h other = h

-- one more entry, if there is one
count_step : {X : Type 0} (p : ℕ × X → Bool) (n : ℕ × X → ℕ) (o s : ℕ) (y : X) (ys : List X) (b : Bool) → p (o, y) ≡ b
    → count_by (is_of s) (entries_from p n o (y ∷ ys)) ≡ (if p (o, y) then cond (o == s) 1 0 else 0) + count_by (is_of s) (entries_from p n (o + 1) ys)
count_step {X = X} p n o s y ys true h =
    let G : ℕ × X → TableEntry = λ r. record { owner = SymbolEntry r.0; bytes = n r } in
    let rest = filter p (enumerate_from (o + 1) ys) in
    ap (λ c. count_by (is_of s) (map G (if c then (o, y) ∷ rest else rest))) h
    ∙ sum_by-cons (λ e. cond (is_of s e) 1 0) (G (o, y)) (map G rest)
    ∙ ap (λ c. (if c then cond (o == s) 1 0 else 0) + count_by (is_of s) (map G rest)) (sym h)
count_step {X = X} p n o s y ys false h =
    let G : ℕ × X → TableEntry = λ r. record { owner = SymbolEntry r.0; bytes = n r } in
    let rest = filter p (enumerate_from (o + 1) ys) in
    let none : count_by (is_of s) (map G rest) ≡ 0 + count_by (is_of s) (map G rest) = omega arith in
    ap (λ c. count_by (is_of s) (map G (if c then (o, y) ∷ rest else rest))) h
    ∙ none
    ∙ ap (λ c. (if c then cond (o == s) 1 0 else 0) + count_by (is_of s) (map G rest)) (sym h)

zero_if : (b : Bool) → ◌≡◌ {A = ℕ} (if b then 0 else 0) 0
zero_if true = refl
zero_if false = refl

-- none has a lower number
none_before : {X : Type 0} (p : ℕ × X → Bool) (n : ℕ × X → ℕ) (o : ℕ) (xs : List X) (s : ℕ) → s < o → count_by (is_of s) (entries_from p n o xs) ≡ 0
none_before p n o [] s lt = refl
none_before p n o (y ∷ ys) s lt =
    let other : (o == s) ≡ false = no_other o s (o == s) refl (λ e. omega (arith, e, lt)) in
    let own : (if p (o, y) then cond (o == s) 1 0 else 0) ≡ 0 = ap (λ c. if p (o, y) then cond c 1 0 else 0) other ∙ zero_if (p (o, y)) in
    omega (arith, count_step p n o s y ys (p (o, y)) refl, own, none_before p n (o + 1) ys s (omega (arith, lt)))

-- a symbol has one where it passes
own_count : {X : Type 0} (p : ℕ × X → Bool) (n : ℕ × X → ℕ) (o : ℕ) (xs : List X) (k s : ℕ) (x : X) → s ≡ o + k → slice_get xs k ≡ Some x
    → count_by (is_of s) (entries_from p n o xs) ≡ one_if (p (s, x))
own_count p n o [] k s x number at = cc
own_count {X = X} p n o (y ∷ ys) zero s x number at =
    let same : y ≡ x = cc in
    let first : o ≡ s = omega (arith, number) in
    let pair : ◌≡◌ {A = ℕ × X} (o, y) (s, x) = cc in
    let own : (if p (o, y) then cond (o == s) 1 0 else 0) ≡ one_if (p (s, x))
    = ap (λ c. if p (o, y) then cond c 1 0 else 0) (eq-eqb o s first) ∙ ap (λ q. one_if (p q)) pair in
    omega (arith, count_step p n o s y ys (p (o, y)) refl, own, none_before p n (o + 1) ys s (omega (arith, first)))
own_count p n o (y ∷ ys) (suc k) s x number at =
    let later : s ≡ o + 1 + k = omega (arith, number) in
    let other : (o == s) ≡ false = no_other o s (o == s) refl (λ e. omega (arith, e, later)) in
    let own : (if p (o, y) then cond (o == s) 1 0 else 0) ≡ 0 = ap (λ c. if p (o, y) then cond c 1 0 else 0) other ∙ zero_if (p (o, y)) in
    omega (arith, count_step p n o s y ys (p (o, y)) refl, own, own_count p n (o + 1) ys k s x later at)

-- the same file by file
own_of_files : (p : NumberedFile → ℕ × InputSymbol → Bool) (n : ℕ × InputSymbol → ℕ) (link : LinkInput) (s : ℕ) (f : NumberedFile) (x : InputSymbol)
    → slice_get (numbered_symbols link.groups) s ≡ Some (f, x)
    → count_by (is_of s) (flat_map (λ g. map (λ q. entry_of (n q) q) (filter (p g) (symbols_by_number link g))) (numbered_files link.groups)) ≡ one_if (p f (s, x))
own_of_files p n link s f x at =
    let number : s ≡ 0 + s = omega arith in
    ap (count_by (is_of s)) (by_number p (λ q. entry_of (n q) q) link)
    ∙ own_count (passes_of p) (λ r. n (r.0, r.1.1)) 0 (numbered_symbols link.groups) s s (f, x) number at

-- ---- behind what a table has itself

-- entries that aren't of symbols don't count
count_behind : (s : ℕ) (start each : NumberedFile → List TableEntry) (files : List NumberedFile) → ((f : NumberedFile) → count_by (is_of s) (start f) ≡ 0)
    → count_by (is_of s) (flat_map (λ f. start f ++ each f) files) ≡ count_by (is_of s) (flat_map each files)
count_behind s start each [] none = refl
count_behind s start each (f ∷ files) none =
    let all = ap (count_by (is_of s)) (flat_map-cons (λ g. start g ++ each g) f files) in
    let these = sum_by-append (λ e. cond (is_of s e) 1 0) (start f ++ each f) (flat_map (λ g. start g ++ each g) files) in
    let both = sum_by-append (λ e. cond (is_of s e) 1 0) (start f) (each f) in
    let rest = ap (count_by (is_of s)) (flat_map-cons each f files) in
    let those = sum_by-append (λ e. cond (is_of s e) 1 0) (each f) (flat_map each files) in
    omega (arith, all, these, both, rest, those, none f, count_behind s start each files none)

start_counts : (s : ℕ) (b : Bool) (own : List TableEntry) → count_by (is_of s) own ≡ 0 → count_by (is_of s) (if b then own else []) ≡ 0
start_counts s true own none = none
start_counts s false own none = refl

-- entries of sections are no symbol's
none_of_sections : {X : Type 0} (s : ℕ) (g : X → TableEntry) (xs : List X) → ((x : X) → is_of s (g x) ≡ false) → count_by (is_of s) (map g xs) ≡ 0
none_of_sections s g [] none = refl
none_of_sections s g (x ∷ xs) none =
    let here : ◌≡◌ {A = ℕ} (cond (is_of s (g x)) 1 0) 0 = ap {B = ℕ} (λ b. cond b 1 0) (none x) in
    omega (arith, sum_by-cons (λ e. cond (is_of s e) 1 0) (g x) (map g xs), here, none_of_sections s g xs none)

none_again : (s entry : ℕ) (again : Bool) (ss : List ℕ) (xs : List Input)
    → count_by (is_of s) (if again then map (section_entry entry) ss ++ map (singleton_entry entry) xs else []) ≡ 0
none_again s entry true ss xs =
    omega (
      arith,
      sum_by-append (λ e. cond (is_of s e) 1 0) (map (section_entry entry) ss) (map (singleton_entry entry) xs),
      none_of_sections s (section_entry entry) ss (λ x. refl),
      none_of_sections s (singleton_entry entry) xs (λ x. refl),
    )
none_again s entry false ss xs = refl

none_itself : (s entry : ℕ) (link : LinkInput) (live : Live) (told : List Bool) → count_by (is_of s) (local_start entry link live told) ≡ 0
none_itself s entry link live told =
    omega (
      arith,
      sum_by-cons (λ e. cond (is_of s e) 1 0) (first_entry entry) (section_symbols entry link live told),
      none_again s entry (is_partial link.options.output) (told_sections link told) (singletons link live),
    )

pub same_flat : {X Y : Type 0} (g h : X → List Y) (xs : List X) → ((x : X) → g x ≡ h x) → flat_map g xs ≡ flat_map h xs
same_flat g h [] same = refl
same_flat g h (x ∷ xs) same =
    flat_map-cons g x xs ∙ ap (λ ys. ys ++ flat_map g xs) (same x) ∙ ap (λ ys. h x ++ ys) (same_flat g h xs same) ∙ sym (flat_map-cons h x xs)

-- those of one kind in the symbol table
own_of_kind : (entry : ℕ) (link : LinkInput) (live : Live) (told : List Bool) (own : NumberedFile → ℕ × InputSymbol → Bool) (s : ℕ) (f : NumberedFile) (x : InputSymbol)
    → slice_get (numbered_symbols link.groups) s ≡ Some (f, x)
    → count_by (is_of s) (flat_map (λ g. map (entry_of entry) (filter (own g) (table_symbols link live told g))) (numbered_files link.groups))
    ≡ one_if (has_entry_there link live told f (s, x) && own f (s, x))
own_of_kind entry link live told own s f x at =
    let here : (g : NumberedFile) → map (entry_of entry) (filter (own g) (table_symbols link live told g))
    ≡ map (entry_of entry) (filter (λ q. has_entry_there link live told g q && own g q) (symbols_by_number link g))
    = λ g. ap (λ qs. map (entry_of entry) (filter (own g) qs)) (symbols_there link live told g)
    ∙ ap (map (entry_of entry)) (passing_twice (has_entry_there link live told g) (own g) (symbols_by_number link g)) in
    ap (count_by (is_of s)) (same_flat (λ g. map (entry_of entry) (filter (own g) (table_symbols link live told g)))
    (λ g. map (entry_of entry) (filter (λ q. has_entry_there link live told g q && own g q) (symbols_by_number link g))) (numbered_files link.groups) here)
    ∙ own_of_files (λ g q. has_entry_there link live told g q && own g q) (λ q. entry) link s f x at

-- and the names there
own_names : (link : LinkInput) (live : Live) (told : List Bool) (s : ℕ) (f : NumberedFile) (x : InputSymbol) → slice_get (numbered_symbols link.groups) s ≡ Some (f, x)
    → count_by (is_of s) (flat_map (λ g. map name_of (table_symbols link live told g)) (numbered_files link.groups)) ≡ one_if (has_entry_there link live told f (s, x))
own_names link live told s f x at =
    ap (count_by (is_of s)) (same_flat (λ g. map name_of (table_symbols link live told g))
    (λ g. map name_of (filter (has_entry_there link live told g) (symbols_by_number link g))) (numbered_files link.groups)
    (λ g. ap (map name_of) (symbols_there link live told g)))
    ∙ own_of_files (λ g. has_entry_there link live told g) (λ q. length q.1.name + 1) link s f x at

-- ---- the dynamic symbol table

if_loaded : (b c d : Bool) (s n : ℕ) (xs ys : List TableEntry) → count_by (is_of s) xs ≡ one_if c → count_by (is_of s) ys ≡ one_if d
    → count_by (is_of s) (if b then first_entry n ∷ (xs ++ ys) else []) ≡ one_if (b && c) + one_if (b && d)
if_loaded true c d s n xs ys h i =
    let all = sum_by-cons (λ e. cond (is_of s e) 1 0) (first_entry n) (xs ++ ys) in
    let both = sum_by-append (λ e. cond (is_of s e) 1 0) xs ys in
    omega (arith, all, both, h, i)
if_loaded false c d s n xs ys h i = refl

pub symbols_have_own_entries : SymbolsHaveOwnEntries
symbols_have_own_entries sizes link live told emitted active s f x at =
    let files = numbered_files link.groups in
    let entry = sizes.symbol_entry in
    record {
      got = own_of_files (λ g. is_resolved live g.file.kind) (λ q. (allocated sizes.allocation live q).got) link s f x at;
      plt = own_of_files (λ g. is_resolved live g.file.kind) (λ q. (allocated sizes.allocation live q).plt) link s f x at;
      symtab_local = count_behind s (λ g. table_start link g (local_start entry link live told))
          (λ g. map (entry_of entry) (filter (is_local_entry g.file.kind) (table_symbols link live told g))) files
          (λ g. start_counts s (is_prelude g.file.kind && not link.options.strip_all) (local_start entry link live told) (none_itself s entry link live told))
          ∙ own_of_kind entry link live told (λ g. is_local_entry g.file.kind) s f x at;
      symtab_global = own_of_kind entry link live told (λ g q. not (is_local_entry g.file.kind q)) s f x at;
      strtab = count_behind s (λ g. table_start link g (first_entry 1 ∷ [])) (λ g. map name_of (table_symbols link live told g)) files
          (λ g. start_counts s (is_prelude g.file.kind && not link.options.strip_all) (first_entry 1 ∷ []) refl)
          ∙ own_names link live told s f x at;
      dynsym = if_loaded (is_loaded_dynamically link.options.output) (is_dynamic_symbol link live told f (s, x)) (is_export live f (s, x)) s entry
          (flat_map (file_dynamic_entries entry link live told) files) (flat_map (file_export_entries entry link live) files)
          (own_of_files (λ g. is_dynamic_symbol link live told g) (λ q. entry) link s f x at)
          (own_of_files (λ g. is_export live g) (λ q. entry) link s f x at);
      dynstr = if_loaded (is_loaded_dynamically link.options.output) (is_dynamic_symbol link live told f (s, x)) (is_export live f (s, x)) s 1
          (flat_map (file_dynamic_names link live told) files) (flat_map (file_export_names link live) files)
          (own_of_files (λ g. is_dynamic_symbol link live told g) (λ q. length q.1.name + 1) link s f x at)
          (own_of_files (λ g. is_export live g) (λ q. length q.1.name + 1) link s f x at);
    }
