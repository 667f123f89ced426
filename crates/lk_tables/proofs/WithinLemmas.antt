-- The first tables are within the whole ones.
use Rattle.std.proofs.Common.{◌≡◌, ℕ, ◌+◌, ◌≤◌, not, Bool, true, false, if◌then◌else◌, List, [], ◌∷◌, ◌++◌, Option, filter, ap, refl, arith}
use Rattle.std.specs.List.{flat_map, zip}
use Rattle.std.proofs.lemmas.List.Concat.{flat_map-cons}
use Rattle.std.proofs.lemmas.List.Sums.{sum_by-append, sum_by-cons}
use Rattle.lk_link.specs.declared.link.LinkInput.{LinkInput}
use Rattle.lk_link.specs.FileKinds.{is_prelude}
use Rattle.lk_link.specs.Inputs.{NumberedFile, numbered_files}
use Rattle.lk_link.specs.OutputKinds.{is_loaded_dynamically}
use Rattle.lk_link.specs.PartRules.{is_part, table_parts}
use Rattle.lk_link.specs.TableSizes.{TableSizes}
use Rattle.lk_live.specs.declared.live.Live.{Live}
use Rattle.lk_tables.specs.declared.shares.FileShare.{FileShare}
use Rattle.lk_tables.specs.SymbolTable.{TableEntry, entry_bytes, entry_of, first_entry, global_entries, local_entries, name_entries, name_of}
use Rattle.lk_tables.specs.TableLaws.{FirstTablesAreWithin}
use Rattle.lk_tables.specs.TableLists.{all_lists, entries_if, file_dynamic_entries, file_dynamic_names, file_export_entries, file_export_names, first_tables, other_files, whole_tables}
use Rattle.lk_tables.proofs.Columns.{IsLate, own_of}
use Rattle.lk_tables.proofs.TotalLemmas.{are_dynamic_names, are_names, dynamic_bytes, global_bytes, is_dynamic_entries, is_global, is_local, local_bytes, name_bytes}

-- ---- files

two_parts : (xs ys : List TableEntry) → entry_bytes (xs ++ ys) ≡ entry_bytes xs + entry_bytes ys
two_parts xs ys = sum_by-append (λ (e : TableEntry). e.bytes) xs ys

within_step : (g h : NumberedFile → List TableEntry) (f : NumberedFile) (files : List NumberedFile) (b : Bool) → is_prelude f.file.kind ≡ b
    → (is_prelude f.file.kind ≡ false → entry_bytes (g f) ≡ entry_bytes (h f))
    → entry_bytes (flat_map g (filter (λ k. not (is_prelude k.file.kind)) files)) ≤ entry_bytes (flat_map h files)
    → entry_bytes (flat_map g (filter (λ k. not (is_prelude k.file.kind)) (f ∷ files))) ≤ entry_bytes (flat_map h (f ∷ files))
within_step g h f files true kind same rest =
    let others = filter (λ (k : NumberedFile). not (is_prelude k.file.kind)) files in
    let dropped = ap (λ b. entry_bytes (flat_map g (if not b then f ∷ others else others))) kind in
    omega (arith, rest, dropped, ap entry_bytes (flat_map-cons h f files), two_parts (h f) (flat_map h files))
within_step g h f files false kind same rest =
    let others = filter (λ (k : NumberedFile). not (is_prelude k.file.kind)) files in
    let kept = ap (λ b. entry_bytes (flat_map g (if not b then f ∷ others else others))) kind in
    omega (
      arith,
      rest,
      kept,
      same kind,
      ap entry_bytes (flat_map-cons g f others),
      two_parts (g f) (flat_map g others),
      ap entry_bytes (flat_map-cons h f files),
      two_parts (h f) (flat_map h files),
    )

within_files : (g h : NumberedFile → List TableEntry) (files : List NumberedFile) → ((f : NumberedFile) → is_prelude f.file.kind ≡ false → entry_bytes (g f) ≡ entry_bytes (h f))
    → entry_bytes (flat_map g (filter (λ k. not (is_prelude k.file.kind)) files)) ≤ entry_bytes (flat_map h files)
within_files g h [] same = omega arith
within_files g h (f ∷ files) same = within_step g h f files (is_prelude f.file.kind) refl (same f) (within_files g h files same)

late_within : (sizes : TableSizes) (link : LinkInput) (live : Live) (col : FileShare → ℕ) (own : List Bool → ℕ) (each : List Bool → NumberedFile → ℕ)
    (g : List Bool → NumberedFile → List TableEntry) → IsLate sizes link live col own each
    → ((told : List Bool) (f : NumberedFile) → entry_bytes (g told f) ≡ each told f + own_of (own told) f)
    → (told : List Bool) → entry_bytes (flat_map (g []) (other_files link)) ≤ entry_bytes (flat_map (g told) (numbered_files link.groups))
late_within sizes link live col own each g is bytes told =
    within_files (g []) (g told) (numbered_files link.groups)
    (λ f h.
    let first : own_of (own []) f ≡ 0 = ap (λ b. if b then own [] else 0) h in
    let whole : own_of (own told) f ≡ 0 = ap (λ b. if b then own told else 0) h in
    omega (arith, bytes [] f, bytes told f, is.alike told f h, first, whole))

-- where there is a dynamic symbol table
dynamic_within : (b : Bool) (own : TableEntry) (xs ys zs : List TableEntry) → entry_bytes xs ≤ entry_bytes ys
    → entry_bytes (if b then xs ++ zs else []) ≤ entry_bytes (if b then own ∷ (ys ++ zs) else [])
dynamic_within true own xs ys zs h =
    omega (arith, h, two_parts xs zs, two_parts ys zs, sum_by-cons (λ (e : TableEntry). e.bytes) own (ys ++ zs))
dynamic_within false own xs ys zs h = omega arith

-- ---- parts

-- each list takes no more than the other one at its place
Within : List (List TableEntry) → List (List TableEntry) → Type 0
Within [] ms = Unit {0}
Within (l ∷ ls) [] = ⊥
Within (l ∷ ls) (m ∷ ms) = (entry_bytes l ≤ entry_bytes m) × Within ls ms

within_if : (b : Bool) (l m : List TableEntry) → entry_bytes l ≤ entry_bytes m → entry_bytes (if b then l else []) ≤ entry_bytes (if b then m else [])
within_if true l m h = h
within_if false l m h = omega arith

within_part : (p : ℕ) (ns : List (Option ℕ)) (ls ms : List (List TableEntry)) → Within ls ms
    → entry_bytes (flat_map (entries_if p) (zip ns ls)) ≤ entry_bytes (flat_map (entries_if p) (zip ns ms))
unfolding Within
within_part p [] ls ms h = omega arith
within_part p (n ∷ ns) [] ms h = omega arith
within_part p (n ∷ ns) (l ∷ ls) [] h = absurd h
within_part p (n ∷ ns) (l ∷ ls) (m ∷ ms) h =
    omega (
      arith,
      within_if (is_part p n) l m h.0,
      within_part p ns ls ms h.1,
      ap entry_bytes (flat_map-cons (entries_if p) (n, l) (zip ns ls)),
      two_parts (entries_if p (n, l)) (flat_map (entries_if p) (zip ns ls)),
      ap entry_bytes (flat_map-cons (entries_if p) (n, m) (zip ns ms)),
      two_parts (entries_if p (n, m)) (flat_map (entries_if p) (zip ns ms)),
    )

-- ---- the law

no_more : (n : ℕ) → n ≤ n
no_more n = omega arith

nothing : (n : ℕ) → 0 ≤ n
nothing n = omega arith

pub first_tables_are_within : FirstTablesAreWithin
unfolding Within
first_tables_are_within sizes link live told emitted active p =
    let entry = sizes.symbol_entry in
    let files = numbered_files link.groups in
    let first = first_tables sizes link live in
    let whole = whole_tables sizes link live told emitted active in
    within_part p (table_parts link.plan.named) (all_lists first) (all_lists whole) (
      no_more (entry_bytes whole.got),
      (
        no_more (entry_bytes whole.plt),
        (
          late_within sizes link live _ _ _ (local_entries entry link live) (is_local sizes link live) (local_bytes entry link live) told,
          (
            late_within sizes link live _ _ _ (global_entries entry link live) (is_global sizes link live) (global_bytes entry link live) told,
            (
              late_within sizes link live _ _ _ (name_entries link live) (are_names sizes link live) (name_bytes link live) told,
              (
                dynamic_within (is_loaded_dynamically link.options.output) (first_entry entry) (flat_map (file_dynamic_entries entry link live []) (other_files link))
                    (flat_map (file_dynamic_entries entry link live told) files) (flat_map (file_export_entries entry link live) files)
                    (late_within sizes link live _ _ _ (file_dynamic_entries entry link live) (is_dynamic_entries sizes link live) (dynamic_bytes link live (entry_of entry)) told),
                (
                  dynamic_within (is_loaded_dynamically link.options.output) (first_entry 1) (flat_map (file_dynamic_names link live []) (other_files link))
                      (flat_map (file_dynamic_names link live told) files) (flat_map (file_export_names link live) files)
                      (late_within sizes link live _ _ _ (file_dynamic_names link live) (are_dynamic_names sizes link live) (dynamic_bytes link live name_of) told),
                  (
                    nothing (entry_bytes whole.file_header),
                    (
                      nothing (entry_bytes whole.program_headers),
                      (
                        nothing (entry_bytes whole.section_headers),
                        (
                          nothing (entry_bytes whole.shstrtab),
                          tt,
                        ),
                      ),
                    ),
                  ),
                ),
              ),
            ),
          ),
        ),
      ),
    )
