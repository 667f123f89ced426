-- The symbols of a well-formed link: lemmas for its laws.
use Rattle.std.specs.Prelude.{◌≡◌, ℕ, ◌≤◌, ◌==◌, ◌&&◌, ◌||◌, not, Bool, true, false, List, [], ◌∷◌, ◌++◌, Option, Some, None, option_map, unwrap_or, length, map, nat_le, nat_lt, slice_get, refl}
use Rattle.std.specs.List.{flat_map, list_all}
use Rattle.std.specs.Option.{ForSome, option_map_or}
use Rattle.std.proofs.Common.{ap, sym, ◌∙◌}
use Rattle.std.proofs.lemmas.Bool.{and_parts, eqb-true, leb-true, ltb-true, not-true}
use Rattle.std.proofs.lemmas.List.{map-append}
use Rattle.std.proofs.lemmas.List.Folds.{list_all-map}
use Rattle.std.proofs.lemmas.Option.{slice_get-map}
use Rattle.lk_link.specs.declared.file.InputFile.{InputFile}
use Rattle.lk_link.specs.declared.ids.FileId.{FileId}
use Rattle.lk_link.specs.declared.limits.TheConstants.{GIVEN_FLAG_SETS}
use Rattle.lk_link.specs.declared.link.LinkInput.{LinkInput}
use Rattle.lk_link.specs.declared.plan.Plan.{Plan}
use Rattle.lk_link.specs.declared.section.InputSection.{InputSection}
use Rattle.lk_link.specs.declared.symbol.InputSymbol.{InputSymbol}
use Rattle.lk_link.specs.declared.symbol.SymbolLoc.{SymbolLoc}
use Rattle.lk_link.specs.declared.symbol.SymbolLoc.TheVariants as loc
use Rattle.lk_link.specs.declared.symbol.SymbolPlacement.{SymbolPlacement}
use Rattle.lk_link.specs.declared.symbol.SymbolPlacement.TheVariants as at
use Rattle.lk_link.specs.Files.{file_in}
use Rattle.lk_link.specs.InputSlots.{is_merge}
use Rattle.lk_link.specs.PartRules.{is_table_part}
use Rattle.lk_link.specs.Parts.{all_parts}
use Rattle.lk_link.proofs.Places.{all_at, all_parted, file_passes}
use Rattle.lk_link.specs.SymbolRules.{has_definition, is_placement_in, location_count, is_loc_there, is_placement_there, is_good_symbol, file_symbols, IsLocThere, IsPlacementThere, IsGoodSymbol}
use Rattle.lk_link.specs.Symbols.{all_files, symbol_at, definition_of}
use Rattle.lk_link.specs.WellFormed.{IsWellFormed}

-- ---- a good symbol, taken apart

itself : (d : ℕ) (o : Option ℕ) → option_map_or (λ e. e == d) o false ≡ true → o ≡ Some d
itself d None h = absurd (cc)
itself d (Some e) h = ap (λ n. Some n) (eqb-true e d h)

its_own : (groups : List (List InputFile)) (def : Option ℕ) (d : ℕ) → has_definition groups def ≡ true → def ≡ Some d → definition_of groups d ≡ Some d
its_own groups def d h e = itself d (definition_of groups d) (ap (has_definition groups) (sym e) ∙ h)

loc_there : (plan : Plan) (l : SymbolLoc) → is_loc_there plan l ≡ true → IsLocThere plan l
loc_there plan loc.None h = tt
loc_there plan (loc.SectionStart s) h = ltb-true s (length plan.sections) h
loc_there plan (loc.SectionEnd s) h = ltb-true s (length plan.sections) h
loc_there plan (loc.Counter n) h = leb-true n (location_count plan) h

offset_there : (offset : ℕ) (o : Option InputSection) → option_map_or (λ s. is_merge s.slot || nat_le offset s.size) o false ≡ true → (s : InputSection) × (o ≡ Some s) × (is_merge s.slot ≡ false → offset ≤ s.size)
offset_there offset None h = absurd (cc)
offset_there offset (Some s) h =
    let within : is_merge s.slot ≡ false → offset ≤ s.size = λ other. leb-true offset s.size (ap (λ b. b || nat_le offset s.size) (sym other) ∙ h) in
    (s, refl, within)

placement_there : (plan : Plan) (sections : List InputSection) (p : SymbolPlacement) → is_placement_there plan sections p ≡ true → IsPlacementThere plan sections p
placement_there plan sections (at.Section i offset) h = offset_there offset (slice_get sections i) h
placement_there plan sections (at.Common p n) h =
    let both = and_parts (nat_lt p (length (all_parts plan.sections))) (not (is_table_part plan.named p)) h in
    (ltb-true p (length (all_parts plan.sections)) both.0, not-true (is_table_part plan.named p) both.1)
placement_there plan sections (at.SectionStart s) h = ltb-true s (length plan.sections) h
placement_there plan sections (at.SectionEnd s) h = ltb-true s (length plan.sections) h
placement_there plan sections (at.SectionGroupEnd s) h = ltb-true s (length plan.sections) h
placement_there plan sections (at.Redirect e l provide) h = loc_there plan l h
placement_there plan sections (at.Absolute n) h = tt
placement_there plan sections at.Undef h = tt
placement_there plan sections at.Dynamic h = tt
placement_there plan sections at.Undefined h = tt
placement_there plan sections at.ForceUndefined h = tt
placement_there plan sections at.TlsEnd h = tt
placement_there plan sections at.LoadBaseAddress h = tt

pub good_symbol : (link : LinkInput) (f : InputFile) (s : InputSymbol) → is_good_symbol link f s ≡ true → IsGoodSymbol link f s
good_symbol link f s h =
    let flags = nat_lt s.flags.0 GIVEN_FLAG_SETS in
    let all = and_parts (has_definition link.groups s.def && flags && is_placement_in f.kind s.at) (is_placement_there link.plan f.sections s.at) h in
    let three = and_parts (has_definition link.groups s.def && flags) (is_placement_in f.kind s.at) all.0 in
    let two = and_parts (has_definition link.groups s.def) flags three.0 in
    record {
      defined = λ d e. its_own link.groups s.def d two.0 e;
      few_flags = ltb-true s.flags.0 GIVEN_FLAG_SETS two.1;
      of_kind = three.1;
      there = placement_there link.plan f.sections s.at all.1;
    }

-- ---- the symbols of a link, file by file

symbols_alone : (f : InputFile) (symbols : List InputSymbol) → map (λ (p : InputFile × InputSymbol). p.1) (map (λ s. (f, s)) symbols) ≡ symbols
symbols_alone f [] = refl
symbols_alone f (s ∷ symbols) = ap (λ xs. s ∷ xs) (symbols_alone f symbols)

-- the symbols of files, without their files
pub without_files : (files : List InputFile) → map (λ p. p.1) (file_symbols files) ≡ flat_map (λ f. f.symbols) files
without_files [] = refl
without_files (f ∷ files) =
    map-append (λ (p : InputFile × InputSymbol). p.1) (map (λ s. (f, s)) f.symbols) (file_symbols files)
    ∙ ap (λ xs. xs ++ map (λ p. p.1) (file_symbols files)) (symbols_alone f f.symbols)
    ∙ ap (λ xs. f.symbols ++ xs) (without_files files)

-- each is good
pub symbol_of : (link : LinkInput) (id : FileId) (i : ℕ) (file : InputFile) (symbol : InputSymbol) → IsWellFormed link → file_in link.groups id ≡ Some file → slice_get file.symbols i ≡ Some symbol → IsGoodSymbol link file symbol
symbol_of link id i file symbol h at_id at_i =
    let good : InputFile × InputSymbol → Bool = λ p. is_good_symbol link p.0 p.1 in
    let pairs : InputFile → List (InputFile × InputSymbol) = λ f. map (λ s. (f, s)) f.symbols in
    let by_file = all_parted good pairs (all_files link.groups) h.symbols in
    let by_group = all_parted (λ f. list_all good (pairs f)) (λ files. files) link.groups by_file in
    let here = file_passes (λ f. list_all good (pairs f)) link.groups id file by_group at_id in
    let symbols = sym (list_all-map good (λ s. (file, s)) file.symbols) ∙ here in
    good_symbol link file symbol (all_at (is_good_symbol link file) file.symbols i symbol symbols at_i)

-- ---- by number

seconds : {X Y : Type 0} (o : Option (X × Y)) (y : Y) → option_map (λ p. p.1) o ≡ Some y → (x : X) × (o ≡ Some (x, y))
seconds None y h = absurd (cc)
seconds (Some p) y h = let same : p.1 ≡ y = cc in (p.0, ap (λ z. Some (p.0, z)) same)

-- the symbol with a number, with its file
pub with_file : (groups : List (List InputFile)) (s : ℕ) (symbol : InputSymbol) → symbol_at groups s ≡ Some symbol → (f : InputFile) × (slice_get (file_symbols (all_files groups)) s ≡ Some (f, symbol))
with_file groups s symbol h =
    seconds (slice_get (file_symbols (all_files groups)) s) symbol
    (sym (slice_get-map (λ (p : InputFile × InputSymbol). p.1) (file_symbols (all_files groups)) s) ∙ ap (λ xs. slice_get xs s) (without_files (all_files groups)) ∙ h)

-- each is good
pub numbered_symbol : (link : LinkInput) (s : ℕ) (symbol : InputSymbol) → IsWellFormed link → symbol_at link.groups s ≡ Some symbol → (f : InputFile) × (slice_get (file_symbols (all_files link.groups)) s ≡ Some (f, symbol)) × IsGoodSymbol link f symbol
numbered_symbol link s symbol h at_s =
    let there = with_file link.groups s symbol at_s in
    let good = all_at (λ p. is_good_symbol link p.0 p.1) (file_symbols (all_files link.groups)) s (there.0, symbol) h.symbols there.1 in
    (there.0, there.1, good_symbol link there.0 symbol good)

by_def : (link : LinkInput) (s d : ℕ) (x : InputSymbol) (def : Option ℕ) → ForSome x.def (λ c. definition_of link.groups c ≡ Some c) → x.def ≡ def → unwrap_or def s ≡ d → definition_of link.groups s ≡ Some d → definition_of link.groups d ≡ Some d
by_def link s d x None good e same at_s = ap (definition_of link.groups) (sym same) ∙ at_s
by_def link s d x (Some c) good e same at_s = ap (definition_of link.groups) (sym same) ∙ good c e ∙ ap (λ n. Some n) same

by_symbol : (link : LinkInput) (s d : ℕ) (o : Option InputSymbol) → IsWellFormed link → symbol_at link.groups s ≡ o → option_map (λ x. unwrap_or x.def s) o ≡ Some d → definition_of link.groups s ≡ Some d → definition_of link.groups d ≡ Some d
by_symbol link s d None h at_s e whole = absurd (cc)
by_symbol link s d (Some x) h at_s e whole =
    let good = (numbered_symbol link s x h at_s).2.defined in
    by_def link s d x x.def good refl (cc) whole

-- what stands for a symbol stands for itself
pub defined_once : (link : LinkInput) (s d : ℕ) → IsWellFormed link → definition_of link.groups s ≡ Some d → definition_of link.groups d ≡ Some d
defined_once link s d h e = by_symbol link s d (symbol_at link.groups s) h refl e e
