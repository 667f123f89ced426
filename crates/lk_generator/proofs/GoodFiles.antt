-- What is so of each file of a generated link.
use Rattle.std.proofs.Common.{◌≡◌, ◌<◌, ◌≤◌, ◌^◌, ◌++◌, ℕ, ◌+◌, ◌*◌, ◌/◌, ◌∙◌, ◌==◌, List, [], ◌∷◌, Some, None, Bool, true, false, ap, subst, refl, arith, map, if◌then◌else◌}
use Rattle.std.specs.Prelude.{codes, nat_le, nat_lt}
use Rattle.std.specs.List.{flat_map, list_all, range_with_len, slice_get, sum_by}
use Rattle.std.specs.Fmt.{decimal}
use Rattle.std.proofs.Math.Nat.{mod-lt}
use Rattle.std.proofs.lemmas.Bool.{eq-eqb, le-leb}
use Rattle.std.proofs.lemmas.List.Folds.{flat_map-map}
use Rattle.lk_link.specs.declared.file.InputFile.{InputFile}
use Rattle.lk_link.specs.declared.link.LinkInput.{LinkInput}
use Rattle.lk_link.specs.declared.section.InputSection.{InputSection}
use Rattle.lk_link.specs.declared.section.InputSlot.TheVariants as slot
use Rattle.lk_link.specs.declared.symbol.InputSymbol.{InputSymbol}
use Rattle.lk_link.specs.declared.symbol.SymbolPlacement.TheVariants as placed
use Rattle.lk_link.specs.Limits.{merge_size}
use Rattle.lk_link.specs.InputRules.{is_good_input}
use Rattle.lk_link.specs.InputRules as inputs
use Rattle.lk_link.specs.SymbolRules.{has_definition, is_good_symbol}
use Rattle.lk_link.specs.Symbols.{all_symbols, symbol_at}
use Rattle.lk_link.specs.TableRules.{has_tables}
use Rattle.lk_generator.specs.declared.objects.Drawn.{Drawn}
use Rattle.lk_generator.specs.Draws.{state_behind}
use Rattle.lk_generator.specs.Generated.{drawn, generated_link, generated_object, generated_plan, no_named_parts, object_of, object_symbols, plain_section, plain_symbol, strings_section, text_section}
use Rattle.lk_generator.proofs.FileLists.{files_in_a_row, nth}

-- ---- sections

-- the code of an object that is kept, or isn't
abbrev text_with : Bool → ℕ → InputSection
text_with is_first size = record (text_section 0 size) { slot = (if is_first then slot.MustLoad else slot.Unloaded) }

abbrev sections_with : Bool → Drawn → List InputSection
sections_with is_first d = text_with is_first d.text_size ∷ plain_section slot.Unloaded 2 d.data_size 2 [] ∷ strings_section d.first_letter d.last_letter ∷ []

inputs_with : (is_first : Bool) (d : Drawn) → nat_lt 0 d.text_size ≡ true → nat_lt 4 d.text_size ≡ true → nat_lt 8 d.text_size ≡ true
    → list_all (is_good_input generated_plan 5) (sections_with is_first d) ≡ true
unfolding inputs.rise
inputs_with true d h0 h4 h8 = rw (h0, h4, h8) refl
inputs_with false d h0 h4 h8 = rw (h0, h4, h8) refl

tables_with : (is_first : Bool) (d : Drawn) → list_all (has_tables no_named_parts) (sections_with is_first d) ≡ true
tables_with true d = refl
tables_with false d = refl

pub good_inputs : (seed size i : ℕ) → list_all (is_good_input generated_plan 5) (generated_object seed size i).sections ≡ true
good_inputs seed size i =
    let d : Drawn = drawn seed size i in
    inputs_with (i == 0) d (le-leb 1 d.text_size (omega arith)) (le-leb 5 d.text_size (omega arith)) (le-leb 9 d.text_size (omega arith))

pub good_tables : (seed size i : ℕ) → list_all (has_tables no_named_parts) (generated_object seed size i).sections ≡ true
good_tables seed size i = tables_with (i == 0) (drawn seed size i)

-- ---- symbols

-- symbol k of object i
symbol_in_a_row : (seed size i k : ℕ) (x : InputSymbol) → i < size → slice_get (object_symbols (drawn seed size i)) k ≡ Some x
    → symbol_at (generated_link seed size).groups (5 * i + k) ≡ Some x
symbol_in_a_row seed size i k x there is =
    let rows : all_symbols (generated_link seed size).groups ≡ flat_map (λ j. object_symbols (drawn seed size j)) (range_with_len 0 size)
    = ap (flat_map (λ (f : InputFile). f.symbols)) (files_in_a_row seed size)
    ∙ flat_map-map (λ (f : InputFile). f.symbols) (generated_object seed size) (range_with_len 0 size) in
    let from : i ≡ 0 + i = omega arith in
    rw rows (nth (λ j. object_symbols (drawn seed size j)) 5 0 size i k x (λ j. refl) there
    (subst (λ j. slice_get (object_symbols (drawn seed size j)) k ≡ Some x) from is))

-- a symbol that stands for itself
stands : (link : LinkInput) (s : ℕ) (x : InputSymbol) → symbol_at link.groups s ≡ Some x → x.def ≡ None → has_definition link.groups (Some s) ≡ true
stands link s x is none = rw (is, none) (eq-eqb s s refl)

abbrev code_symbol : InputSymbol
code_symbol = plain_symbol (codes "f") (placed.Section 0 0) None

abbrev data_symbol : InputSymbol
data_symbol = plain_symbol (codes "d") (placed.Section 1 0) None

code_stands : (seed size i : ℕ) → i < size → has_definition (generated_link seed size).groups (Some (5 * i)) ≡ true
code_stands seed size i there =
    let at : 5 * i + 0 ≡ 5 * i = omega arith in
    stands (generated_link seed size) (5 * i) code_symbol
    (subst (λ s. symbol_at (generated_link seed size).groups s ≡ Some code_symbol) at (symbol_in_a_row seed size i 0 code_symbol there refl)) refl

data_stands : (seed size i : ℕ) → i < size → has_definition (generated_link seed size).groups (Some (5 * i + 1)) ≡ true
data_stands seed size i there = stands (generated_link seed size) (5 * i + 1) data_symbol (symbol_in_a_row seed size i 1 data_symbol there refl) refl

-- ---- all symbols of an object

symbols_with : (link : LinkInput) (is_first : Bool) (name : List ℕ) (d : Drawn)
    → has_definition link.groups (Some (5 * d.text_target)) ≡ true → has_definition link.groups (Some (5 * d.data_target + 1)) ≡ true
    → nat_le 0 d.text_size ≡ true → nat_le 0 d.data_size ≡ true
    → list_all (λ (p : InputFile × InputSymbol). is_good_symbol link p.0 p.1) (map (λ s. (record (object_of 0 d) { name = name; sections = sections_with is_first d }, s)) (object_symbols d)) ≡ true
symbols_with link true name d code kept h k = rw (code, kept, h, k) refl
symbols_with link false name d code kept h k = rw (code, kept, h, k) refl

pub good_symbols : (seed size i : ℕ) → 1 ≤ size
    → list_all (λ (p : InputFile × InputSymbol). is_good_symbol (generated_link seed size) p.0 p.1)
    (map (λ s. (generated_object seed size i, s)) (generated_object seed size i).symbols) ≡ true
good_symbols seed size i some =
    let d : Drawn = drawn seed size i in
    let code : d.text_target < size = mod-lt (state_behind seed (6 * i + 5) / 2 ^ 33) (omega (arith, some)) in
    let kept : d.data_target < size = mod-lt (state_behind seed (6 * i + 6) / 2 ^ 33) (omega (arith, some)) in
    symbols_with (generated_link seed size) (i == 0) (codes "o" ++ decimal i) d (code_stands seed size d.text_target code)
    (data_stands seed size d.data_target kept) (le-leb 0 d.text_size (omega arith)) (le-leb 0 d.data_size (omega arith))

-- ---- sums

merged_with : (is_first : Bool) (d : Drawn) → sum_by merge_size (sections_with is_first d) ≡ 256
merged_with true d = refl
merged_with false d = refl

pub merged_each : (seed size i : ℕ) → sum_by merge_size (generated_object seed size i).sections ≡ 256
merged_each seed size i = merged_with (i == 0) (drawn seed size i)
