-- Generated links are well formed.
use Rattle.std.proofs.Common.{◌≡◌, ◌<◌, ◌≤◌, ◌∙◌, ◌/◌, ◌+◌, ◌*◌, ℕ, zero, suc, refl, sym, ap, subst, true≢false, min, ◌-◌, arith, Bool, true, false, List, [], ◌∷◌, Option, Some, None, length, map, ◌&&◌}
use Rattle.std.specs.Prelude.{nat_le, nat_lt, option_and_then}
use Rattle.std.specs.List.{flat_map, list_all, range_with_len, slice_get, sum_by}
use Rattle.std.proofs.lemmas.Bool.{le-ltb, leb-true}
use Rattle.std.proofs.lemmas.List.Concat.{length-flat_map}
use Rattle.std.proofs.lemmas.List.Folds.{flat_map-map}
use Rattle.std.proofs.lemmas.List.FromFn.{length-map-range_with_len}
use Rattle.lk_link.specs.declared.fault.Limited.{Limited}
use Rattle.lk_link.specs.declared.fault.Limited.TheVariants as limited
use Rattle.lk_link.specs.declared.file.InputFile.{InputFile}
use Rattle.lk_link.specs.declared.plan.OrderEvent.{OrderEvent}
use Rattle.lk_link.specs.declared.plan.OrderEvent.TheVariants as event
use Rattle.lk_link.specs.declared.section.InputSection.{InputSection}
use Rattle.lk_link.specs.declared.symbol.InputSymbol.{InputSymbol}
use Rattle.lk_link.specs.Alignments as alignments
use Rattle.lk_link.specs.ExpressionRules as expressions
use Rattle.lk_link.specs.FileKinds.{is_prelude}
use Rattle.lk_link.specs.Limits as limits
use Rattle.lk_link.specs.Limits.{all_sections, counted, file_name_bytes, first_length_past, limit_of, merge_size}
use Rattle.lk_link.specs.Rules as rules
use Rattle.lk_link.specs.SymbolRules.{file_symbols, is_good_symbol}
use Rattle.lk_link.specs.Symbols.{all_files, all_symbols}
use Rattle.lk_link.specs.WellFormed.{IsEventOrder, IsInRange, IsLedByPrelude, IsWellFormed}
use Rattle.lk_link.proofs.Elements.{map_at}
use Rattle.lk_link.specs.CandidateRules.{has_good_candidates}
use Rattle.lk_link.specs.DataRules.{has_file_data}
use Rattle.lk_link.specs.InputRules.{has_good_inputs}
use Rattle.lk_link.specs.TableRules.{has_file_tables}
use Rattle.lk_generator.specs.Generated.{empty_prelude, no_named_parts, generated_link, generated_object, generated_plan, object_group}
use Rattle.lk_generator.proofs.FileLists.{all_summed, each_passes, files_in_a_row, rows_pass, sum_in_rows}
use Rattle.lk_generator.proofs.GoodFiles.{good_inputs, good_symbols, good_tables, merged_each}

-- ---- limits

-- where each section's list has at most three, none is longer than it may be
none_past : (most : ℕ) (len : InputSection → ℕ) (xs : List InputSection) → 3 ≤ most → list_all (λ s. nat_le (len s) 3) xs ≡ true → first_length_past most len xs ≤ most
none_past most len [] least few = omega arith
none_past most len (x ∷ xs) least few =
    let parts = both (nat_le (len x) 3) (list_all (λ s. nat_le (len s) 3) xs) few in
    let short : nat_lt most (len x) ≡ false = le-ltb most (len x) (omega (arith, leb-true (len x) 3 parts.0, least)) in
    rw short (none_past most len xs least parts.1)
  where
    both : (a b : Bool) → (a && b) ≡ true → (a ≡ true) × (b ≡ true)
    both true true h = (refl, refl)
    both true false h = absurd (cc)
    both false b h = absurd (cc)

-- the sections of all objects
sections_pass : (seed size : ℕ) (p : InputSection → Bool) → ((i : ℕ) → list_all p (generated_object seed size i).sections ≡ true)
    → list_all p (all_sections (generated_link seed size).groups) ≡ true
sections_pass seed size p each =
    let rows : all_sections (generated_link seed size).groups ≡ flat_map (λ j. (generated_object seed size j).sections) (range_with_len 0 size)
    = ap (flat_map (λ (f : InputFile). f.sections)) (files_in_a_row seed size)
    ∙ flat_map-map (λ (f : InputFile). f.sections) (generated_object seed size) (range_with_len 0 size) in
    rw rows (rows_pass p (λ j. (generated_object seed size j).sections) each (range_with_len 0 size))

within : (seed size : ℕ) → size ≤ 100000 → (what : Limited) → counted (generated_link seed size) what ≤ limit_of what
unfolding limits.counted limits.limit_of
within seed size few limited.Groups = omega (arith, few, length-map-range_with_len (object_group seed size) 0 ((size + 7) / 8))
within seed size few limited.Files =
    let groups = (generated_link seed size).groups in
    omega (arith, few, length-flat_map (λ (row : List InputFile). row) groups, ap length (files_in_a_row seed size), length-map-range_with_len (generated_object seed size) 0 size)
within seed size few limited.OutputSections = omega arith
within seed size few limited.Parts = omega arith
within seed size few limited.Segments = omega arith
within seed size few limited.Regions = omega arith
within seed size few limited.Events = omega arith
within seed size few limited.Symbols = omega (arith, few, all_summed seed size (λ f. length f.symbols) 5 refl (λ i. refl))
within seed size few limited.InputSections = omega (arith, few, all_summed seed size (λ f. length f.sections) 3 refl (λ i. refl))
within seed size few limited.Candidates =
    omega (arith, few, sum_in_rows (λ f. length f.candidates) (generated_link seed size).groups, all_summed seed size (λ f. length f.candidates) 0 refl (λ i. refl))
within seed size few limited.Relocations =
    none_past (limit_of limited.Relocations) (λ s. length s.relocs) (all_sections (generated_link seed size).groups) (omega arith)
    (sections_pass seed size (λ s. nat_le (length s.relocs) 3) (λ i. refl))
within seed size few limited.Relaxations =
    none_past (limit_of limited.Relaxations) (λ s. length s.relax) (all_sections (generated_link seed size).groups) (omega arith)
    (sections_pass seed size (λ s. nat_le (length s.relax) 3) (λ i. refl))
within seed size few limited.NameBytes =
    omega (arith, few, sum_in_rows file_name_bytes (generated_link seed size).groups, all_summed seed size file_name_bytes 12 refl (λ i. refl))
within seed size few limited.MergeBytes =
    omega (
      arith,
      few,
      sum_in_rows (λ f. sum_by merge_size f.sections) (generated_link seed size).groups,
      all_summed seed size (λ f. sum_by merge_size f.sections) 256 refl (merged_each seed size),
    )

-- ---- the plan

in_range : (k : ℕ) (e : OrderEvent) → slice_get generated_plan.events k ≡ Some e → IsInRange generated_plan e
in_range zero e there = let same : event.SegmentStart 0 ≡ e = cc in subst (IsInRange generated_plan) same (omega arith)
in_range (suc zero) e there = let same : event.Section 0 ≡ e = cc in subst (IsInRange generated_plan) same (omega arith)
in_range (suc (suc zero)) e there = let same : event.Section 1 ≡ e = cc in subst (IsInRange generated_plan) same (omega arith)
in_range (suc (suc (suc zero))) e there = let same : event.Section 2 ≡ e = cc in subst (IsInRange generated_plan) same (omega arith)
in_range (suc (suc (suc (suc zero)))) e there = let same : event.SegmentEnd 0 ≡ e = cc in subst (IsInRange generated_plan) same (omega arith)
in_range (suc (suc (suc (suc (suc k))))) e there = absurd (cc)

-- where an event of the plan stands
abbrev place : OrderEvent → ℕ
place (event.SegmentStart i) = 0
place (event.Section s) = s + 1
place _ = 4

stands_at : (k : ℕ) (e : OrderEvent) → slice_get generated_plan.events k ≡ Some e → k ≡ place e
stands_at zero e there = let same : event.SegmentStart 0 ≡ e = cc in ap place same
stands_at (suc zero) e there = let same : event.Section 0 ≡ e = cc in ap place same
stands_at (suc (suc zero)) e there = let same : event.Section 1 ≡ e = cc in ap place same
stands_at (suc (suc (suc zero))) e there = let same : event.Section 2 ≡ e = cc in ap place same
stands_at (suc (suc (suc (suc zero)))) e there = let same : event.SegmentEnd 0 ≡ e = cc in ap place same
stands_at (suc (suc (suc (suc (suc k))))) e there = absurd (cc)

section_placed : (s : ℕ) → s < 3 → (k : ℕ) × (slice_get generated_plan.events k ≡ Some (event.Section s))
section_placed zero there = (1, refl)
section_placed (suc zero) there = (2, refl)
section_placed (suc (suc zero)) there = (3, refl)
section_placed (suc (suc (suc s))) there = absurd (omega (arith, there))

segment_opened : (i : ℕ) → i < 1 → (j : ℕ) × (k : ℕ) × (j < k) × (slice_get generated_plan.events j ≡ Some (event.SegmentStart i))
    × (slice_get generated_plan.events k ≡ Some (event.SegmentEnd i))
segment_opened zero there = (0, 4, omega arith, refl, refl)
segment_opened (suc i) there = absurd (omega (arith, there))

events_in_order : IsEventOrder generated_plan
events_in_order = record {
  in_range = in_range;
  once = λ j k e about at_j at_k. stands_at j e at_j ∙ sym (stands_at k e at_k);
  placed = section_placed;
  opened = segment_opened;
}

sections_are_good : list_all (rules.is_good_section generated_plan.sections) generated_plan.sections ≡ true
unfolding rules.falls alignments.is_alignment
sections_are_good = refl

page_is_good : alignments.is_alignment generated_plan.page ≡ true
unfolding alignments.is_alignment
page_is_good = refl

-- ---- the files

-- the prelude and each object pass, so all files of all groups do
files_pass : (seed size : ℕ) (p : InputFile → Bool) → p empty_prelude ≡ true → ((i : ℕ) → p (generated_object seed size i) ≡ true)
    → list_all (λ files. list_all p files) (generated_link seed size).groups ≡ true
files_pass seed size p first each =
    let groups = each_passes (λ files. list_all p files) (object_group seed size)
    (λ k. each_passes p (generated_object seed size) each (range_with_len (8 * k) (min 8 (size - 8 * k)))) (range_with_len 0 ((size + 7) / 8)) in
    rw (first, groups) refl

no_prelude : (f : InputFile) (group : List InputFile) (seed size k i : ℕ) → slice_get (map (object_group seed size) (range_with_len 0 ((size + 7) / 8))) k ≡ Some group
    → slice_get group i ≡ Some f → is_prelude f.kind ≡ true → ⊥
no_prelude f group seed size k i there inside is =
    let at = map_at (object_group seed size) (range_with_len 0 ((size + 7) / 8)) k group there in
    let own = map_at (generated_object seed size) (range_with_len (8 * at.0) (min 8 (size - 8 * at.0))) i f (subst (λ g. slice_get g i ≡ Some f) (sym at.2) inside) in
    let object : is_prelude (generated_object seed size own.0).kind ≡ true = subst (λ (g : InputFile). is_prelude g.kind ≡ true) (sym own.2) is in
    true≢false (sym object)

in_group : (rest : List (List InputFile)) (k i : ℕ) (f : InputFile)
    → ((j : ℕ) (group : List InputFile) → slice_get rest j ≡ Some group → slice_get group i ≡ Some f → ⊥)
    → option_and_then (λ group. slice_get group i) (slice_get ((empty_prelude ∷ []) ∷ rest) k) ≡ Some f → (k ≡ 0) × (i ≡ 0)
in_group rest zero zero f never there = (refl, refl)
in_group rest zero (suc i) f never there = absurd (cc)
in_group rest (suc k) i f never there = absurd (inside (slice_get rest k) (λ group. never k group) there)
  where
    inside : (o : Option (List InputFile)) → ((group : List InputFile) → o ≡ Some group → slice_get group i ≡ Some f → ⊥)
        → option_and_then (λ group. slice_get group i) o ≡ Some f → ⊥
    inside None never there = absurd (cc)
    inside (Some group) never there = never group refl there

led : (seed size : ℕ) → IsLedByPrelude (generated_link seed size).groups
led seed size = record {
  first = refl;
  only = λ id f there is. in_group (map (object_group seed size) (range_with_len 0 ((size + 7) / 8))) id.group id.file f
      (λ j group at inside. no_prelude f group seed size j id.file at inside is) there;
}

symbols_pass : (seed size : ℕ) → 1 ≤ size
    → list_all (λ p. is_good_symbol (generated_link seed size) p.0 p.1) (file_symbols (all_files (generated_link seed size).groups)) ≡ true
symbols_pass seed size some =
    let each_row : InputFile → List (InputFile × InputSymbol) = λ f. map (λ s. (f, s)) f.symbols in
    let rows : file_symbols (all_files (generated_link seed size).groups) ≡ flat_map (λ j. each_row (generated_object seed size j)) (range_with_len 0 size)
    = ap (flat_map each_row) (files_in_a_row seed size) ∙ flat_map-map each_row (generated_object seed size) (range_with_len 0 size) in
    rw rows (rows_pass (λ p. is_good_symbol (generated_link seed size) p.0 p.1) (λ j. each_row (generated_object seed size j))
    (λ i. good_symbols seed size i some) (range_with_len 0 size))

redirects_pass : (seed size : ℕ) → list_all (λ (x : InputSymbol). expressions.is_good_redirect (generated_link seed size) x.at) (all_symbols (generated_link seed size).groups) ≡ true
redirects_pass seed size =
    let rows : all_symbols (generated_link seed size).groups ≡ flat_map (λ j. (generated_object seed size j).symbols) (range_with_len 0 size)
    = ap (flat_map (λ (f : InputFile). f.symbols)) (files_in_a_row seed size)
    ∙ flat_map-map (λ (f : InputFile). f.symbols) (generated_object seed size) (range_with_len 0 size) in
    rw rows (rows_pass (λ x. expressions.is_good_redirect (generated_link seed size) x.at) (λ j. (generated_object seed size j).symbols)
    (λ i. refl) (range_with_len 0 size))

base_is_good : (seed size : ℕ) → expressions.is_good_expression (generated_link seed size) generated_plan.base ≡ true
unfolding expressions.all_operands expressions.depth
base_is_good seed size = refl

pub well_formed : (seed size : ℕ) → 1 ≤ size → size ≤ 100000 → IsWellFormed (generated_link seed size)
well_formed seed size some few = record {
  within = within seed size few;
  options = refl;
  page = page_is_good;
  sections = sections_are_good;
  parts = record { tables = refl; comment = refl; primary = refl };
  singletons = refl;
  tls = omega arith;
  events = events_in_order;
  locations = λ h. absurd (true≢false (sym h));
  expressions = record { base = base_is_good seed size; regions = refl; addresses = refl; moves = refl; redirects = redirects_pass seed size };
  prelude = led seed size;
  symbols = symbols_pass seed size some;
  inputs = files_pass seed size (has_good_inputs generated_plan) refl (good_inputs seed size);
  tables = files_pass seed size (has_file_tables no_named_parts) refl (good_tables seed size);
  candidates = files_pass seed size (has_good_candidates (generated_link seed size)) refl (λ i. refl);
  given = files_pass seed size has_file_data refl (λ i. refl);
}
