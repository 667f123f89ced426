-- What symbols bring, added up, is what the entries of their file take.
use Rattle.std.proofs.Common.{◌≡◌, ℕ, ◌+◌, Bool, true, false, if◌then◌else◌, List, [], ◌∷◌, filter, length, map, sum_by, refl, sym, ap, ◌∙◌, arith, length-append}
use Rattle.std.specs.List.{flat_map}
use Rattle.std.proofs.lemmas.List.Concat.{flat_map-cons}
use Rattle.std.proofs.lemmas.List.Sums.{sum_by-append, sum_by-cons}
use Rattle.lk_link.specs.declared.link.LinkInput.{LinkInput}
use Rattle.lk_link.specs.declared.symbol.InputSymbol.{InputSymbol}
use Rattle.lk_link.specs.FileKinds.{is_prelude}
use Rattle.lk_link.specs.Inputs.{NumberedFile, numbered_files}
use Rattle.lk_link.specs.TableSizes.{TableSizes}
use Rattle.lk_live.specs.declared.live.Live.{Live}
use Rattle.lk_tables.specs.declared.shares.DynamicShare.{DynamicShare}
use Rattle.lk_tables.specs.declared.shares.FileShare.{FileShare}
use Rattle.lk_tables.specs.declared.shares.SymtabShare.{SymtabShare}
use Rattle.lk_tables.specs.Dynamic.{is_dynamic_symbol, is_export}
use Rattle.lk_tables.specs.HeaderParts.{told_sum}
use Rattle.lk_tables.specs.ShareSteps.{all_brought_first, all_brought_late, brought_first, brought_late, early_part, file_share, late_part, no_share, plus, symbol_share, table_share}
use Rattle.lk_tables.specs.ShareWords.{dynamic_taken, entries_taken, first_share, first_shares, no_dynamic, no_symtab, prelude_share, preludes, symtab_taken}
use Rattle.lk_tables.specs.SymbolEntries.{got_entries, plt_entries}
use Rattle.lk_tables.specs.SymbolTable.{TableEntry, entry_bytes, entry_of, global_entries, local_entries, name_entries, name_of, symbols_by_number}
use Rattle.lk_tables.specs.TableLists.{file_dynamic_entries, file_dynamic_names, file_export_entries, file_export_names}
use Rattle.lk_tables.proofs.Columns.{IsEarly, IsLate, no_sum, none_behind, own_of, told_plus}
use Rattle.lk_tables.proofs.ShareSums.{entries_of_some, made_dynamic, made_entries, made_share, made_symtab, sum_made, told_entries}
use Rattle.lk_tables.proofs.TableSums.{sum_passing}
use Rattle.lk_tables.proofs.TotalLemmas.{are_dynamic_counts, are_dynamic_names, are_export_names, are_exports, are_names, dynamic_bytes, global_bytes, is_dynamic_entries, is_global, is_got, is_local, is_plt, local_bytes, name_bytes}

-- ---- as many as there are

-- there are as many entries as they would have bytes with one each
as_many : (g : ℕ × InputSymbol → TableEntry) (qs : List (ℕ × InputSymbol)) → length (map g qs) ≡ entry_bytes (map (entry_of 1) qs)
as_many g [] = refl
as_many g (q ∷ qs) = omega (arith, as_many g qs, sum_by-cons (λ (e : TableEntry). e.bytes) (entry_of 1 q) (map (entry_of 1) qs))

as_many_of_files : (g : ℕ × InputSymbol → TableEntry) (some : NumberedFile → List (ℕ × InputSymbol)) (files : List NumberedFile)
    → length (flat_map (λ f. map g (some f)) files) ≡ entry_bytes (flat_map (λ f. map (entry_of 1) (some f)) files)
as_many_of_files g some [] = refl
as_many_of_files g some (f ∷ files) =
    let mine : NumberedFile → List TableEntry = λ h. map g (some h) in
    let ones : NumberedFile → List TableEntry = λ h. map (entry_of 1) (some h) in
    omega (
      arith,
      ap length (flat_map-cons mine f files),
      length-append (mine f) (flat_map mine files),
      ap entry_bytes (flat_map-cons ones f files),
      sum_by-append (λ (e : TableEntry). e.bytes) (ones f) (flat_map ones files),
      as_many g (some f),
      as_many_of_files g some files,
    )

are_export_counts : (sizes : TableSizes) (link : LinkInput) (live : Live)
    → IsEarly sizes link live (λ s. s.exports.count) (λ f. map (entry_of 1) (filter (is_export live f) (symbols_by_number link f)))
are_export_counts sizes link live = record {
  early = λ s. refl;
  late = λ s. refl;
  both = λ a b. refl;
  table = λ told. refl;
  none = refl;
  share = λ f. ap told_sum (sum_made (λ s. s.exports.count) (symbol_share sizes link live [] f) (symbols_by_number link f)
      ∙ sym (sum_passing (is_export live f) (entry_of 1) (symbols_by_number link f)));
}

-- ---- first

-- what waits for the marks, of another file than the prelude
late_column : (sizes : TableSizes) (link : LinkInput) (live : Live) (col : FileShare → ℕ) (own : List Bool → ℕ) (each : List Bool → NumberedFile → ℕ)
    (g : List Bool → NumberedFile → List TableEntry) → IsLate sizes link live col own each
    → ((told : List Bool) (f : NumberedFile) → entry_bytes (g told f) ≡ each told f + own_of (own told) f)
    → (f : NumberedFile) → is_prelude f.file.kind ≡ false → told_sum (entry_bytes (g [] f)) ≡ col (file_share sizes link live [] f)
late_column sizes link live col own each g is bytes f h =
    let mine : own_of (own []) f ≡ 0 = ap (λ b. if b then own [] else 0) h in
    omega (arith, bytes [] f, mine, is.share [] f)

pub first_share_is : (sizes : TableSizes) (link : LinkInput) (live : Live) (f : NumberedFile) → first_share sizes link live f ≡ brought_first sizes link live f
first_share_is sizes link live f = by_kind (is_prelude f.file.kind) refl
  where
    entry : ℕ
    entry = sizes.symbol_entry

    s : FileShare
    s = file_share sizes link live [] f

    symtab : SymtabShare
    symtab = symtab_taken (local_entries entry link live [] f) (global_entries entry link live [] f) (name_entries link live [] f)

    dynamic : DynamicShare
    dynamic = dynamic_taken (file_dynamic_entries entry link live [] f) (file_dynamic_names link live [] f)

    exports : DynamicShare
    exports = dynamic_taken (file_export_entries entry link live f) (file_export_names link live f)

    of_kind : Bool → FileShare
    of_kind b = record {
      entries = entries_taken (got_entries sizes.allocation link live f) (plt_entries sizes.allocation link live f);
      symtab = if b then no_symtab else symtab;
      dynamic = if b then no_dynamic else dynamic;
      exports = exports;
    }

    got_plt : entries_taken (got_entries sizes.allocation link live f) (plt_entries sizes.allocation link live f) ≡ s.entries
    got_plt = made_entries _ _ _ _ (sym ((is_got sizes link live).share f)) (sym ((is_plt sizes link live).share f))

    told_exports : exports ≡ s.exports
    told_exports = made_dynamic _ _ _ _ _ _
        (ap told_sum (as_many (entry_of entry) (filter (is_export live f) (symbols_by_number link f))) ∙ sym ((are_export_counts sizes link live).share f))
        (sym ((are_exports sizes link live).share f)) (sym ((are_export_names sizes link live).share f))

    by_kind : (b : Bool) → is_prelude f.file.kind ≡ b → first_share sizes link live f ≡ brought_first sizes link live f
    by_kind true h =
        ap of_kind h
        ∙ made_share _ s.entries no_symtab no_symtab no_dynamic no_dynamic exports s.exports got_plt refl refl told_exports
        ∙ sym (ap (λ b. if b then early_part s else s) h)
    by_kind false h =
        ap of_kind h
        ∙ made_share _ s.entries symtab s.symtab dynamic s.dynamic exports s.exports got_plt
        (made_symtab _ _ _ _ _ _
        (late_column sizes link live _ _ _ (local_entries entry link live) (is_local sizes link live) (local_bytes entry link live) f h)
        (late_column sizes link live _ _ _ (global_entries entry link live) (is_global sizes link live) (global_bytes entry link live) f h)
        (late_column sizes link live _ _ _ (name_entries link live) (are_names sizes link live) (name_bytes link live) f h))
        (made_dynamic _ _ _ _ _ _
        (ap told_sum (as_many (entry_of entry) (filter (is_dynamic_symbol link live [] f) (symbols_by_number link f)))
        ∙ late_column sizes link live _ _ _ (λ told g. map (entry_of 1) (filter (is_dynamic_symbol link live told g) (symbols_by_number link g)))
        (are_dynamic_counts sizes link live) (dynamic_bytes link live (entry_of 1)) f h)
        (late_column sizes link live _ _ _ (file_dynamic_entries entry link live) (is_dynamic_entries sizes link live) (dynamic_bytes link live (entry_of entry)) f h)
        (late_column sizes link live _ _ _ (file_dynamic_names link live) (are_dynamic_names sizes link live) (dynamic_bytes link live name_of) f h))
        told_exports
        ∙ sym (ap (λ b. if b then early_part s else s) h)

same_map : {X Y : Type 0} (g h : X → Y) (xs : List X) → ((x : X) → g x ≡ h x) → map g xs ≡ map h xs
same_map g h [] same = refl
same_map g h (x ∷ xs) same = ap (λ y. y ∷ map g xs) (same x) ∙ ap (λ ys. h x ∷ ys) (same_map g h xs same)

pub first_shares_are : (sizes : TableSizes) (link : LinkInput) (live : Live) → first_shares sizes link live ≡ all_brought_first sizes link live
first_shares_are sizes link live = same_map (first_share sizes link live) (brought_first sizes link live) (numbered_files link.groups) (first_share_is sizes link live)

-- ---- behind that

-- what waits for the marks, of the prelude
late_sum : (sizes : TableSizes) (link : LinkInput) (live : Live) (col : FileShare → ℕ) (own : List Bool → ℕ) (each : List Bool → NumberedFile → ℕ)
    (g : List Bool → NumberedFile → List TableEntry) → IsLate sizes link live col own each
    → ((told : List Bool) (f : NumberedFile) → entry_bytes (g told f) ≡ each told f + own_of (own told) f)
    → (told : List Bool)
    → told_sum (entry_bytes (flat_map (g told) (preludes link))) ≡ told_sum (sum_by col (map (brought_late sizes link live told) (numbered_files link.groups)))
late_sum sizes link live col own each g is bytes told =
    let files = numbered_files link.groups in
    let leads : NumberedFile → Bool = λ f. is_prelude f.file.kind in
    let some : NumberedFile → List TableEntry = λ f. if leads f then g told f else [] in
    ap (λ es. told_sum (entry_bytes es)) (entries_of_some leads (g told) files)
    ∙ sym (told_entries (λ f. col (brought_late sizes link live told f)) some files (λ f. by_kind f (is_prelude f.file.kind) refl))
    ∙ sym (ap told_sum (sum_made col (brought_late sizes link live told) files))
  where
    by_kind : (f : NumberedFile) (b : Bool) → is_prelude f.file.kind ≡ b
        → told_sum (col (brought_late sizes link live told f)) ≡ told_sum (entry_bytes (if is_prelude f.file.kind then g told f else []))
    by_kind f true h =
        let t = file_share sizes link live told f in
        let behind : col (brought_late sizes link live told f) ≡ told_sum (own told + col t)
        = ap (λ b. col (if b then plus (table_share link live sizes.symbol_entry told) (late_part t) else no_share)) h
        ∙ is.both (table_share link live sizes.symbol_entry told) (late_part t)
        ∙ told_plus (col (table_share link live sizes.symbol_entry told)) (own told) (col (late_part t)) (col t) (is.table told) (is.late t) in
        let mine : own_of (own told) f ≡ own told = ap (λ b. if b then own told else 0) h in
        let all : entry_bytes (if is_prelude f.file.kind then g told f else []) ≡ entry_bytes (g told f) = ap (λ b. entry_bytes (if b then g told f else [])) h in
        omega (arith, behind, is.share told f, mine, bytes told f, all)
    by_kind f false h =
        let t = file_share sizes link live told f in
        let behind : col (brought_late sizes link live told f) ≡ 0
        = ap (λ b. col (if b then plus (table_share link live sizes.symbol_entry told) (late_part t) else no_share)) h ∙ is.none in
        let none : entry_bytes (if is_prelude f.file.kind then g told f else []) ≡ 0 = ap (λ b. entry_bytes (if b then g told f else [])) h in
        omega (arith, behind, none)

-- what doesn't wait
early_sum : (sizes : TableSizes) (link : LinkInput) (live : Live) (col : FileShare → ℕ) (g : NumberedFile → List TableEntry) → IsEarly sizes link live col g
    → (told : List Bool) → 0 ≡ told_sum (sum_by col (map (brought_late sizes link live told) (numbered_files link.groups)))
early_sum sizes link live col g is told =
    let files = numbered_files link.groups in
    omega (
      arith,
      sum_made col (brought_late sizes link live told) files,
      no_sum (λ f. col (brought_late sizes link live told f)) files (none_behind sizes link live col g is told),
    )

pub prelude_share_is : (sizes : TableSizes) (link : LinkInput) (live : Live) (told : List Bool) → prelude_share sizes link live told ≡ all_brought_late sizes link live told
prelude_share_is sizes link live told =
    let entry = sizes.symbol_entry in
    let mine = prelude_share sizes link live told in
    let all = all_brought_late sizes link live told in
    made_share mine.entries all.entries mine.symtab all.symtab mine.dynamic all.dynamic mine.exports all.exports
    (made_entries _ _ _ _ (early_sum sizes link live _ _ (is_got sizes link live) told) (early_sum sizes link live _ _ (is_plt sizes link live) told))
    (made_symtab _ _ _ _ _ _
    (late_sum sizes link live _ _ _ (local_entries entry link live) (is_local sizes link live) (local_bytes entry link live) told)
    (late_sum sizes link live _ _ _ (global_entries entry link live) (is_global sizes link live) (global_bytes entry link live) told)
    (late_sum sizes link live _ _ _ (name_entries link live) (are_names sizes link live) (name_bytes link live) told))
    (made_dynamic _ _ _ _ _ _
    (ap told_sum (as_many_of_files (entry_of entry) (λ f. filter (is_dynamic_symbol link live told f) (symbols_by_number link f)) (preludes link))
    ∙ late_sum sizes link live _ _ _ (λ marks g. map (entry_of 1) (filter (is_dynamic_symbol link live marks g) (symbols_by_number link g)))
    (are_dynamic_counts sizes link live) (dynamic_bytes link live (entry_of 1)) told)
    (late_sum sizes link live _ _ _ (file_dynamic_entries entry link live) (is_dynamic_entries sizes link live) (dynamic_bytes link live (entry_of entry)) told)
    (late_sum sizes link live _ _ _ (file_dynamic_names link live) (are_dynamic_names sizes link live) (dynamic_bytes link live name_of) told))
    (made_dynamic _ _ _ _ _ _ (early_sum sizes link live _ _ (are_export_counts sizes link live) told) (early_sum sizes link live _ _ (are_exports sizes link live) told)
    (early_sum sizes link live _ _ (are_export_names sizes link live) told))
