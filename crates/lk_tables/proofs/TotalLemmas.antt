-- The totals are the bytes of the tables.
use Rattle.std.proofs.Common.{◌≡◌, ℕ, ◌+◌, ◌*◌, ◌≤◌, ◌&&◌, not, Bool, true, false, if◌then◌else◌, List, [], ◌∷◌, ◌++◌, filter, length, map, sum_by, refl, sym, ap, ◌∙◌, arith, subst}
use Rattle.std.specs.List.{flat_map}
use Rattle.std.proofs.lemmas.List.Sums.{sum_by-append, sum_by-cons}
use Rattle.lk_link.specs.declared.link.LinkInput.{LinkInput}
use Rattle.lk_link.specs.declared.symbol.InputSymbol.{InputSymbol}
use Rattle.lk_link.specs.FileKinds.{is_prelude}
use Rattle.lk_link.specs.Inputs.{NumberedFile, numbered_files}
use Rattle.lk_link.specs.OutputKinds.{is_loaded_dynamically}
use Rattle.lk_link.specs.TableSizes.{TableSizes}
use Rattle.lk_live.specs.declared.live.Live.{Live}
use Rattle.lk_tables.specs.declared.shares.DynamicShare.{DynamicShare}
use Rattle.lk_tables.specs.declared.shares.FileShare.{FileShare}
use Rattle.lk_tables.specs.declared.totals.TableTotals.{TableTotals}
use Rattle.lk_tables.specs.Dynamic.{is_dynamic_symbol, is_export}
use Rattle.lk_tables.specs.HeaderParts.{file_header_entries, header_sizes, told_sum}
use Rattle.lk_tables.specs.HeaderSteps.{no_headers}
use Rattle.lk_tables.specs.ShareSteps.{all_brought_first, all_brought_late, dynamic_share, own_locals, plus, plus_dynamic, sum_of, symbol_share}
use Rattle.lk_tables.specs.ShareWords.{has_entry_there, no_dynamic}
use Rattle.lk_tables.specs.SymbolEntries.{allocated, got_entries, is_resolved, plt_entries}
use Rattle.lk_tables.specs.SymbolTable.{TableEntry, entry_bytes, entry_of, first_entry, global_entries, is_in_table, is_local_entry, local_entries, local_start, name_entries, name_of, symbols_by_number, table_start, table_symbols}
use Rattle.lk_tables.specs.TableLists.{file_dynamic_entries, file_dynamic_names, file_export_entries, file_export_names, first_tables, other_files, whole_tables}
use Rattle.lk_tables.specs.Totals.{totals_of}
use Rattle.lk_tables.specs.TotalSteps.{dynamic_total, totals_by}
use Rattle.lk_tables.proofs.Columns.{IsEarly, IsLate, dynamic_alike, early_total, early_whole_total, late_first_total, late_whole_total, own_of, there_alike}
use Rattle.lk_tables.proofs.ShareSums.{sum_alike, sum_made, told_again}
use Rattle.lk_tables.proofs.SingletonLemmas.{start_bytes}
use Rattle.lk_tables.proofs.TableSums.{passing_twice, sum_passing}

-- ---- the symbol table

none_pass : {X : Type 0} (xs : List X) → filter (λ _. false) xs ≡ []
none_pass [] = refl
none_pass (x ∷ xs) = none_pass xs

if_there : {X : Type 0} (b : Bool) (p : X → Bool) (xs : List X) → (if b then [] else filter p xs) ≡ filter (λ x. not b && p x) xs
if_there true p xs = sym (none_pass xs)
if_there false p xs = refl

pub symbols_there : (link : LinkInput) (live : Live) (told : List Bool) (f : NumberedFile)
    → table_symbols link live told f ≡ filter (has_entry_there link live told f) (symbols_by_number link f)
symbols_there link live told f = if_there link.options.strip_all (is_in_table link live told f) (symbols_by_number link f)

start_by : (b c : Bool) (own : List TableEntry) → entry_bytes (if b && not c then own else []) ≡ (if b then (if not c then entry_bytes own else 0) else 0)
start_by true true own = refl
start_by true false own = refl
start_by false c own = refl

-- one entry
one_entry : (n : ℕ) → entry_bytes (first_entry n ∷ []) ≡ n
one_entry n = omega (arith, sum_by-cons (λ (e : TableEntry). e.bytes) (first_entry n) [])

-- what a table has itself, where there is one
abbrev pub start_of : LinkInput → ℕ → ℕ
start_of link n = if not link.options.strip_all then n else 0

-- that of the local symbols
abbrev pub locals_of : ℕ → LinkInput → Live → List Bool → ℕ
locals_of entry link live told = start_of link (entry_bytes (local_start entry link live told))

-- the symbols of one kind
kind_bytes : (entry : ℕ) (link : LinkInput) (live : Live) (told : List Bool) (f : NumberedFile) (own : ℕ × InputSymbol → Bool)
    → entry_bytes (map (entry_of entry) (filter own (table_symbols link live told f)))
    ≡ sum_by (λ q. if has_entry_there link live told f q && own q then entry else 0) (symbols_by_number link f)
kind_bytes entry link live told f own =
    ap (λ xs. entry_bytes (map (entry_of entry) (filter own xs))) (symbols_there link live told f)
    ∙ ap (λ xs. entry_bytes (map (entry_of entry) xs)) (passing_twice (has_entry_there link live told f) own (symbols_by_number link f))
    ∙ sum_passing (λ q. has_entry_there link live told f q && own q) (entry_of entry) (symbols_by_number link f)

-- what each file has there
abbrev pub each_of : ℕ → LinkInput → Live → (NumberedFile → ℕ × InputSymbol → Bool) → List Bool → NumberedFile → ℕ
each_of entry link live own told f = sum_by (λ q. if has_entry_there link live told f q && own f q then entry else 0) (symbols_by_number link f)

abbrev pub names_of : LinkInput → Live → List Bool → NumberedFile → ℕ
names_of link live told f = sum_by (λ q. if has_entry_there link live told f q then length q.1.name + 1 else 0) (symbols_by_number link f)

pub local_bytes : (entry : ℕ) (link : LinkInput) (live : Live) (told : List Bool) (f : NumberedFile)
    → entry_bytes (local_entries entry link live told f) ≡ each_of entry link live (λ g. is_local_entry g.file.kind) told f + own_of (locals_of entry link live told) f
local_bytes entry link live told f =
    let symbols = map (entry_of entry) (filter (is_local_entry f.file.kind) (table_symbols link live told f)) in
    let own = local_start entry link live told in
    let all = sum_by-append (λ e. e.bytes) (table_start link f own) symbols in
    omega (arith, all, start_by (is_prelude f.file.kind) link.options.strip_all own, kind_bytes entry link live told f (is_local_entry f.file.kind))

pub global_bytes : (entry : ℕ) (link : LinkInput) (live : Live) (told : List Bool) (f : NumberedFile)
    → entry_bytes (global_entries entry link live told f) ≡ each_of entry link live (λ g q. not (is_local_entry g.file.kind q)) told f + own_of 0 f
global_bytes entry link live told f =
    omega (arith, kind_bytes entry link live told f (λ q. not (is_local_entry f.file.kind q)), none (is_prelude f.file.kind))
  where
    none : (b : Bool) → ◌≡◌ {A = ℕ} (if b then 0 else 0) 0
    none true = refl
    none false = refl

pub name_bytes : (link : LinkInput) (live : Live) (told : List Bool) (f : NumberedFile)
    → entry_bytes (name_entries link live told f) ≡ names_of link live told f + own_of (start_of link 1) f
name_bytes link live told f =
    let symbols = map name_of (table_symbols link live told f) in
    let own = first_entry 1 ∷ [] in
    let all = sum_by-append (λ e. e.bytes) (table_start link f own) symbols in
    let start : entry_bytes (table_start link f own) ≡ own_of (start_of link 1) f
    = start_by (is_prelude f.file.kind) link.options.strip_all own
    ∙ ap (λ n. if is_prelude f.file.kind then (if not link.options.strip_all then n else 0) else 0) (one_entry 1) in
    let names : entry_bytes symbols ≡ names_of link live told f
    = ap (λ xs. entry_bytes (map name_of xs)) (symbols_there link live told f)
    ∙ sum_passing (has_entry_there link live told f) name_of (symbols_by_number link f) in
    omega (arith, all, start, names)

-- what is told once or twice, where there is a table
told_if : (b : Bool) (m n : ℕ) → m ≡ n → told_sum (if b then told_sum m else 0) ≡ told_sum (if b then n else 0)
told_if true m n h = told_again m ∙ ap told_sum h
told_if false m n h = refl

pub is_local : (sizes : TableSizes) (link : LinkInput) (live : Live)
    → IsLate sizes link live (λ s. s.symtab.local) (locals_of sizes.symbol_entry link live) (each_of sizes.symbol_entry link live (λ g. is_local_entry g.file.kind))
is_local sizes link live = record {
  early = λ s. refl;
  late = λ s. refl;
  both = λ a b. refl;
  table = λ told. told_if (not link.options.strip_all) (sizes.symbol_entry * own_locals link live told) (entry_bytes (local_start sizes.symbol_entry link live told))
      (sym (start_bytes sizes.symbol_entry link live told));
  none = refl;
  share = λ told f. ap told_sum (sum_made (λ s. s.symtab.local) (symbol_share sizes link live told f) (symbols_by_number link f));
  alike = λ told f h. sum_alike (λ q. if has_entry_there link live told f q && is_local_entry f.file.kind q then sizes.symbol_entry else 0)
      (λ q. if has_entry_there link live [] f q && is_local_entry f.file.kind q then sizes.symbol_entry else 0) (symbols_by_number link f)
      (λ q. ap (λ b. if b && is_local_entry f.file.kind q then sizes.symbol_entry else 0) (there_alike link live told f q h));
}

pub is_global : (sizes : TableSizes) (link : LinkInput) (live : Live)
    → IsLate sizes link live (λ s. s.symtab.global) (λ told. 0) (each_of sizes.symbol_entry link live (λ g q. not (is_local_entry g.file.kind q)))
is_global sizes link live = record {
  early = λ s. refl;
  late = λ s. refl;
  both = λ a b. refl;
  table = λ told. refl;
  none = refl;
  share = λ told f. ap told_sum (sum_made (λ s. s.symtab.global) (symbol_share sizes link live told f) (symbols_by_number link f));
  alike = λ told f h. sum_alike (λ q. if has_entry_there link live told f q && not (is_local_entry f.file.kind q) then sizes.symbol_entry else 0)
      (λ q. if has_entry_there link live [] f q && not (is_local_entry f.file.kind q) then sizes.symbol_entry else 0) (symbols_by_number link f)
      (λ q. ap (λ b. if b && not (is_local_entry f.file.kind q) then sizes.symbol_entry else 0) (there_alike link live told f q h));
}

pub are_names : (sizes : TableSizes) (link : LinkInput) (live : Live)
    → IsLate sizes link live (λ s. s.symtab.names) (λ told. start_of link 1) (names_of link live)
are_names sizes link live = record {
  early = λ s. refl;
  late = λ s. refl;
  both = λ a b. refl;
  table = λ told. refl;
  none = refl;
  share = λ told f. ap told_sum (sum_made (λ s. s.symtab.names) (symbol_share sizes link live told f) (symbols_by_number link f));
  alike = λ told f h. sum_alike (λ q. if has_entry_there link live told f q then length q.1.name + 1 else 0)
      (λ q. if has_entry_there link live [] f q then length q.1.name + 1 else 0) (symbols_by_number link f)
      (λ q. ap (λ b. if b then length q.1.name + 1 else 0) (there_alike link live told f q h));
}

-- ---- the dynamic symbol table

-- what each file's dynamic symbols have, by what each has
abbrev pub dynamic_of : LinkInput → Live → (ℕ × InputSymbol → ℕ) → List Bool → NumberedFile → ℕ
dynamic_of link live n told f = sum_by (λ q. if is_dynamic_symbol link live told f q then n q else 0) (symbols_by_number link f)

pub dynamic_bytes : (link : LinkInput) (live : Live) (g : ℕ × InputSymbol → TableEntry) (told : List Bool) (f : NumberedFile)
    → entry_bytes (map g (filter (is_dynamic_symbol link live told f) (symbols_by_number link f))) ≡ dynamic_of link live (λ q. (g q).bytes) told f + own_of 0 f
dynamic_bytes link live g told f =
    omega (arith, sum_passing (is_dynamic_symbol link live told f) g (symbols_by_number link f), none (is_prelude f.file.kind))
  where
    none : (b : Bool) → ◌≡◌ {A = ℕ} (if b then 0 else 0) 0
    none true = refl
    none false = refl

all_alike : (link : LinkInput) (live : Live) (n : ℕ × InputSymbol → ℕ) (told : List Bool) (f : NumberedFile) → is_prelude f.file.kind ≡ false
    → dynamic_of link live n told f ≡ dynamic_of link live n [] f
all_alike link live n told f h =
    sum_alike (λ q. if is_dynamic_symbol link live told f q then n q else 0) (λ q. if is_dynamic_symbol link live [] f q then n q else 0)
    (symbols_by_number link f) (λ q. ap (λ b. if b then n q else 0) (dynamic_alike link live told f q h))

pub is_dynamic_entries : (sizes : TableSizes) (link : LinkInput) (live : Live)
    → IsLate sizes link live (λ s. s.dynamic.entries) (λ told. 0) (dynamic_of link live (λ q. sizes.symbol_entry))
is_dynamic_entries sizes link live = record {
  early = λ s. refl;
  late = λ s. refl;
  both = λ a b. refl;
  table = λ told. refl;
  none = refl;
  share = λ told f. ap told_sum (sum_made (λ s. s.dynamic.entries) (symbol_share sizes link live told f) (symbols_by_number link f));
  alike = all_alike link live (λ q. sizes.symbol_entry);
}

pub are_dynamic_counts : (sizes : TableSizes) (link : LinkInput) (live : Live) → IsLate sizes link live (λ s. s.dynamic.count) (λ told. 0) (dynamic_of link live (λ q. 1))
are_dynamic_counts sizes link live = record {
  early = λ s. refl;
  late = λ s. refl;
  both = λ a b. refl;
  table = λ told. refl;
  none = refl;
  share = λ told f. ap told_sum (sum_made (λ s. s.dynamic.count) (symbol_share sizes link live told f) (symbols_by_number link f));
  alike = all_alike link live (λ q. 1);
}

pub are_dynamic_names : (sizes : TableSizes) (link : LinkInput) (live : Live)
    → IsLate sizes link live (λ s. s.dynamic.names) (λ told. 0) (dynamic_of link live (λ q. length q.1.name + 1))
are_dynamic_names sizes link live = record {
  early = λ s. refl;
  late = λ s. refl;
  both = λ a b. refl;
  table = λ told. refl;
  none = refl;
  share = λ told f. ap told_sum (sum_made (λ s. s.dynamic.names) (symbol_share sizes link live told f) (symbols_by_number link f));
  alike = all_alike link live (λ q. length q.1.name + 1);
}

-- ---- what doesn't wait

pub is_got : (sizes : TableSizes) (link : LinkInput) (live : Live) → IsEarly sizes link live (λ s. s.entries.got) (got_entries sizes.allocation link live)
is_got sizes link live = record {
  early = λ s. refl;
  late = λ s. refl;
  both = λ a b. refl;
  table = λ told. refl;
  none = refl;
  share = λ f. ap told_sum (sum_made (λ s. s.entries.got) (symbol_share sizes link live [] f) (symbols_by_number link f)
      ∙ sym (sum_passing (is_resolved live f.file.kind) (λ q. entry_of (allocated sizes.allocation live q).got q) (symbols_by_number link f)));
}

pub is_plt : (sizes : TableSizes) (link : LinkInput) (live : Live) → IsEarly sizes link live (λ s. s.entries.plt) (plt_entries sizes.allocation link live)
is_plt sizes link live = record {
  early = λ s. refl;
  late = λ s. refl;
  both = λ a b. refl;
  table = λ told. refl;
  none = refl;
  share = λ f. ap told_sum (sum_made (λ s. s.entries.plt) (symbol_share sizes link live [] f) (symbols_by_number link f)
      ∙ sym (sum_passing (is_resolved live f.file.kind) (λ q. entry_of (allocated sizes.allocation live q).plt q) (symbols_by_number link f)));
}

pub are_exports : (sizes : TableSizes) (link : LinkInput) (live : Live)
    → IsEarly sizes link live (λ s. s.exports.entries) (file_export_entries sizes.symbol_entry link live)
are_exports sizes link live = record {
  early = λ s. refl;
  late = λ s. refl;
  both = λ a b. refl;
  table = λ told. refl;
  none = refl;
  share = λ f. ap told_sum (sum_made (λ s. s.exports.entries) (symbol_share sizes link live [] f) (symbols_by_number link f)
      ∙ sym (sum_passing (is_export live f) (entry_of sizes.symbol_entry) (symbols_by_number link f)));
}

pub are_export_names : (sizes : TableSizes) (link : LinkInput) (live : Live) → IsEarly sizes link live (λ s. s.exports.names) (file_export_names link live)
are_export_names sizes link live = record {
  early = λ s. refl;
  late = λ s. refl;
  both = λ a b. refl;
  table = λ told. refl;
  none = refl;
  share = λ f. ap told_sum (sum_made (λ s. s.exports.names) (symbol_share sizes link live [] f) (symbols_by_number link f)
      ∙ sym (sum_passing (is_export live f) name_of (symbols_by_number link f)));
}

-- ---- totals

made_totals : (a0 a1 a2 a3 a4 a5 a6 a7 a8 a9 a10 : ℕ) (b0 b1 b2 b3 b4 b5 b6 b7 b8 b9 b10 : ℕ)
    → a0 ≡ b0 → a1 ≡ b1 → a2 ≡ b2 → a3 ≡ b3 → a4 ≡ b4 → a5 ≡ b5 → a6 ≡ b6 → a7 ≡ b7 → a8 ≡ b8 → a9 ≡ b9 → a10 ≡ b10
    → ◌≡◌ {A = TableTotals} (record { got = a0; plt = a1; symtab_local = a2; symtab_global = a3; strtab = a4; dynsym = a5; dynstr = a6; file_header = a7; program_headers = a8; section_headers = a9; shstrtab = a10 })
    (record { got = b0; plt = b1; symtab_local = b2; symtab_global = b3; strtab = b4; dynsym = b5; dynstr = b6; file_header = b7; program_headers = b8; section_headers = b9; shstrtab = b10 })
made_totals a0 a1 a2 a3 a4 a5 a6 a7 a8 a9 a10 b0 b1 b2 b3 b4 b5 b6 b7 b8 b9 b10 e0 e1 e2 e3 e4 e5 e6 e7 e8 e9 e10 = cc

-- two lists behind what the table itself has
dynamic_both : (own d e : ℕ) (start xs ys : List TableEntry) → own ≡ entry_bytes start → d ≡ told_sum (entry_bytes xs) → e ≡ told_sum (entry_bytes ys)
    → told_sum (told_sum (own + d) + e) ≡ told_sum (entry_bytes (start ++ (xs ++ ys)))
dynamic_both own d e start xs ys h i j =
    omega (arith, h, i, j, sum_by-append (λ (t : TableEntry). t.bytes) start (xs ++ ys), sum_by-append (λ (t : TableEntry). t.bytes) xs ys)

-- where there is a table
dynamic_if : (b : Bool) (own : DynamicShare) (sum : FileShare) (col : DynamicShare → ℕ) (start xs ys : List TableEntry)
    → ((c d : DynamicShare) → col (plus_dynamic c d) ≡ told_sum (col c + col d)) → col no_dynamic ≡ 0
    → col own ≡ entry_bytes start → col sum.dynamic ≡ told_sum (entry_bytes xs) → col sum.exports ≡ told_sum (entry_bytes ys)
    → col (if b then plus_dynamic (plus_dynamic own sum.dynamic) sum.exports else no_dynamic) ≡ told_sum (entry_bytes (if b then start ++ (xs ++ ys) else []))
dynamic_if true own sum col start xs ys both none h i j =
    both (plus_dynamic own sum.dynamic) sum.exports
    ∙ ap (λ n. told_sum (n + col sum.exports)) (both own sum.dynamic)
    ∙ dynamic_both (col own) (col sum.dynamic) (col sum.exports) start xs ys h i j
dynamic_if false own sum col start xs ys both none h i j = omega (arith, none)

pub first_totals_are : (sizes : TableSizes) (link : LinkInput) (live : Live) (shares : List FileShare) → shares ≡ all_brought_first sizes link live
    → totals_by (sum_of shares) (dynamic_total link no_dynamic (sum_of shares)) no_headers
    ≡ totals_of (first_tables sizes link live)
first_totals_are sizes link live shares h =
    subst (λ xs. totals_by (sum_of xs) (dynamic_total link no_dynamic (sum_of xs)) no_headers
    ≡ totals_of (first_tables sizes link live)) (sym h) these
  where
    all : FileShare
    all = sum_of (all_brought_first sizes link live)

    entry : ℕ
    entry = sizes.symbol_entry

    these : totals_by all (dynamic_total link no_dynamic all) no_headers
        ≡ totals_of (first_tables sizes link live)
    these = made_totals _ _ _ _ _ _ _ _ _ _ _ _ _ _ _ _ _ _ _ _ _ _
        (early_total sizes link live _ _ (is_got sizes link live))
        (early_total sizes link live _ _ (is_plt sizes link live))
        (late_first_total sizes link live _ _ _ (local_entries entry link live) (is_local sizes link live) (local_bytes entry link live))
        (late_first_total sizes link live _ _ _ (global_entries entry link live) (is_global sizes link live) (global_bytes entry link live))
        (late_first_total sizes link live _ _ _ (name_entries link live) (are_names sizes link live) (name_bytes link live))
        (dynamic_if (is_loaded_dynamically link.options.output) no_dynamic all (λ d. d.entries) []
        (flat_map (file_dynamic_entries entry link live []) (other_files link)) (flat_map (file_export_entries entry link live) (numbered_files link.groups))
        (λ c d. refl) refl refl
        (late_first_total sizes link live _ _ _ (file_dynamic_entries entry link live) (is_dynamic_entries sizes link live) (dynamic_bytes link live (entry_of entry)))
        (early_total sizes link live _ _ (are_exports sizes link live)))
        (dynamic_if (is_loaded_dynamically link.options.output) no_dynamic all (λ d. d.names) []
        (flat_map (file_dynamic_names link live []) (other_files link)) (flat_map (file_export_names link live) (numbered_files link.groups))
        (λ c d. refl) refl refl
        (late_first_total sizes link live _ _ _ (file_dynamic_names link live) (are_dynamic_names sizes link live) (dynamic_bytes link live name_of))
        (early_total sizes link live _ _ (are_export_names sizes link live)))
        (omega arith) (omega arith) (omega arith) (omega arith)

pub whole_totals_are : (sizes : TableSizes) (link : LinkInput) (live : Live) (told emitted : List Bool) (active : List ℕ) → sizes.file_header ≤ 65536
    → (shares : List FileShare) (prelude : FileShare) → shares ≡ all_brought_first sizes link live → prelude ≡ all_brought_late sizes link live told
    → totals_by (plus (sum_of shares) prelude) (dynamic_total link (dynamic_share true sizes.symbol_entry 0) (plus (sum_of shares) prelude)) (header_sizes sizes link live emitted active)
    ≡ totals_of (whole_tables sizes link live told emitted active)
whole_totals_are sizes link live told emitted active lawful shares prelude h i =
    subst (λ xs. totals_by (plus (sum_of xs) prelude) (dynamic_total link own (plus (sum_of xs) prelude)) (header_sizes sizes link live emitted active)
    ≡ totals_of (whole_tables sizes link live told emitted active)) (sym h)
    (subst (λ x. totals_by (plus first x) (dynamic_total link own (plus first x)) (header_sizes sizes link live emitted active)
    ≡ totals_of (whole_tables sizes link live told emitted active)) (sym i) these)
  where
    first : FileShare
    first = sum_of (all_brought_first sizes link live)

    entry : ℕ
    entry = sizes.symbol_entry

    own : DynamicShare
    own = dynamic_share true entry 0

    all : FileShare
    all = plus first (all_brought_late sizes link live told)

    one : (n : ℕ) → n ≡ entry_bytes (first_entry n ∷ [])
    one n = sym (one_entry n)

    few : entry_bytes (file_header_entries sizes.file_header) ≡ told_sum (entry_bytes (file_header_entries sizes.file_header))
    few = omega (arith, lawful, one sizes.file_header)

    these : totals_by all (dynamic_total link own all) (header_sizes sizes link live emitted active) ≡ totals_of (whole_tables sizes link live told emitted active)
    these = made_totals _ _ _ _ _ _ _ _ _ _ _ _ _ _ _ _ _ _ _ _ _ _
        (early_whole_total sizes link live _ _ (is_got sizes link live) told)
        (early_whole_total sizes link live _ _ (is_plt sizes link live) told)
        (late_whole_total sizes link live _ _ _ (local_entries entry link live) (is_local sizes link live) (local_bytes entry link live) told)
        (late_whole_total sizes link live _ _ _ (global_entries entry link live) (is_global sizes link live) (global_bytes entry link live) told)
        (late_whole_total sizes link live _ _ _ (name_entries link live) (are_names sizes link live) (name_bytes link live) told)
        (dynamic_if (is_loaded_dynamically link.options.output) own all (λ d. d.entries) (first_entry entry ∷ [])
        (flat_map (file_dynamic_entries entry link live told) (numbered_files link.groups)) (flat_map (file_export_entries entry link live) (numbered_files link.groups))
        (λ c d. refl) refl (one entry)
        (late_whole_total sizes link live _ _ _ (file_dynamic_entries entry link live) (is_dynamic_entries sizes link live) (dynamic_bytes link live (entry_of entry)) told)
        (early_whole_total sizes link live _ _ (are_exports sizes link live) told))
        (dynamic_if (is_loaded_dynamically link.options.output) own all (λ d. d.names) (first_entry 1 ∷ [])
        (flat_map (file_dynamic_names link live told) (numbered_files link.groups)) (flat_map (file_export_names link live) (numbered_files link.groups))
        (λ c d. refl) refl (one 1)
        (late_whole_total sizes link live _ _ _ (file_dynamic_names link live) (are_dynamic_names sizes link live) (dynamic_bytes link live name_of) told)
        (early_whole_total sizes link live _ _ (are_export_names sizes link live) told))
        few refl refl refl
