-- A symbol has a mark exactly where it stands in the primary part and another part names it.
use Rattle.std.proofs.Common.{◌≡◌, ℕ, zero, suc, ◌&&◌, ◌==◌, not, Bool, true, false, List, [], ◌∷◌, map, Option, Some, None, refl, sym, ap, ◌∙◌}
use Rattle.std.specs.List.{list_any, slice_get}
use Rattle.std.specs.Option.{option_map_or}
use Rattle.std.proofs.lemmas.Bool.{and_from, and_parts, eq-eqb, eqb-true}
use Rattle.lk_link.specs.declared.file.InputFile.{InputFile}
use Rattle.lk_link.specs.declared.link.LinkInput.{LinkInput}
use Rattle.lk_link.specs.declared.symbol.InputSymbol.{InputSymbol}
use Rattle.lk_link.specs.Files.{file_in}
use Rattle.lk_link.specs.Inputs.{Input, NumberedFile}
use Rattle.lk_link.specs.InputSlots.{is_regular}
use Rattle.lk_link.specs.Marks.{is_marked}
use Rattle.lk_link.specs.NumberedSymbols.{numbered_symbols}
use Rattle.lk_link.specs.Symbols.{first_symbol}
use Rattle.lk_link.proofs.Elements.{at_contained, contains_at}
use Rattle.lk_live.specs.declared.live.Live.{Live}
use Rattle.lk_live.specs.Primary.{IsInPrimaryPart, IsNamedElsewhere}
use Rattle.lk_live.specs.PrimaryMarks.{is_primary_symbol, names_primary, names_symbol, primary_symbols}
use Rattle.lk_live.specs.Reach.{live_inputs}
use Rattle.lk_link.specs.SymbolPlacements.{section_of}
use Rattle.lk_reach.specs.Units.{is_primary_section, local_definition}
use Rattle.lk_reach.proofs.Passing.{some_holds}
use Rattle.lk_live.proofs.FaultReach.{is_false}
use Rattle.lk_live.proofs.Living.{holds_of}

-- what there is passes a test
there_passes : {X : Type 0} (p : X → Bool) (o : Option X) → option_map_or p o false ≡ true → (x : X) × (o ≡ Some x) × (p x ≡ true)
there_passes p None h = absurd (cc)
there_passes p (Some x) h = (x, refl, h)

passes_there : {X : Type 0} (p : X → Bool) (o : Option X) (x : X) → o ≡ Some x → p x ≡ true → option_map_or p o false ≡ true
passes_there p o x is h = ap (λ q. option_map_or p q false) is ∙ h

-- a mark that a test gives
mark_given : {X : Type 0} (p : X → Bool) (xs : List X) (n : ℕ) → is_marked (map p xs) n ≡ true → (x : X) × (slice_get xs n ≡ Some x) × (p x ≡ true)
mark_given p [] n h = absurd (cc)
mark_given p (x ∷ xs) zero h = (x, refl, h)
mark_given p (x ∷ xs) (suc n) h = mark_given p xs n h

mark_there : {X : Type 0} (p : X → Bool) (xs : List X) (n : ℕ) (x : X) → slice_get xs n ≡ Some x → p x ≡ true → is_marked (map p xs) n ≡ true
mark_there p [] n x at h = absurd (cc)
mark_there p (y ∷ xs) zero x at h = let same : y ≡ x = cc in ap p same ∙ h
mark_there p (y ∷ xs) (suc n) x at h = mark_there p xs n x at h

abbrev stands : LinkInput → NumberedFile × InputSymbol → Bool
stands link q = is_primary_symbol link q.0.file q.1

abbrev section_is : LinkInput → InputFile → ℕ → Bool
section_is link f i = option_map_or (is_primary_section link) (slice_get f.sections i) false

in_primary : (link : LinkInput) (s : ℕ) → is_marked (primary_symbols link) s ≡ true → IsInPrimaryPart link s
in_primary link s h =
    let q = mark_given (stands link) (numbered_symbols link.groups) s h in
    let place = there_passes (section_is link q.0.0.file) (section_of q.0.1.at) q.2 in
    let section = there_passes (is_primary_section link) (slice_get q.0.0.file.sections place.0) place.2 in
    record {
      file = q.0.0;
      symbol = q.0.1;
      there = q.1;
      index = place.0;
      placed = place.1;
      section = section.0;
      at = section.1;
      primary = section.2;
    }

primary_in : (link : LinkInput) (s : ℕ) → IsInPrimaryPart link s → is_marked (primary_symbols link) s ≡ true
primary_in link s h =
    mark_there (stands link) (numbered_symbols link.groups) s (h.file, h.symbol) h.there
    (passes_there (section_is link h.file.file) (section_of h.symbol.at) h.index h.placed
    (passes_there (is_primary_section link) (slice_get h.file.file.sections h.index) h.section h.at h.primary))

pub named_is : (link : LinkInput) (live : Live) (s : ℕ) → list_any (names_primary link (primary_symbols link) s) (live_inputs link live) ≡ true → IsInPrimaryPart link s × IsNamedElsewhere link live s
named_is link live s h =
    let marks : List Bool = primary_symbols link in
    let x = holds_of (names_primary link marks s) (live_inputs link live) h in
    let input : Input = x.element in
    let first = first_symbol link.groups input.file in
    let named : InputFile → Bool = λ f. list_any (names_symbol marks first f.symbols s) input.section.relocs in
    let whole = and_parts (is_regular input.section.slot && not (is_primary_section link input.section)) (option_map_or named (file_in link.groups input.file) false) x.holds in
    let other = and_parts (is_regular input.section.slot) (not (is_primary_section link input.section)) whole.0 in
    let file = there_passes named (file_in link.groups input.file) whole.1 in
    let symbols : List InputSymbol = file.0.symbols in
    let r = holds_of (names_symbol marks first symbols s) input.section.relocs file.2 in
    let d : ℕ = local_definition first symbols r.element.symbol in
    let both = and_parts (r.element.thunkable && is_marked marks d) (d == s) r.holds in
    let may = and_parts r.element.thunkable (is_marked marks d) both.0 in
    let same : d ≡ s = eqb-true d s both.1 in (
      in_primary link s (ap (is_marked marks) (sym same) ∙ may.1),
      record {
        input = input;
        kept = contains_at (live_inputs link live) x.place input x.there;
        regular = other.0;
        elsewhere = is_false (is_primary_section link input.section) other.1;
        file = file.0;
        there = file.1;
        relocation = r.element;
        among = contains_at input.section.relocs r.place r.element r.there;
        thunkable = may.0;
        names = same;
      },
    )

pub is_named : (link : LinkInput) (live : Live) (s : ℕ) → IsInPrimaryPart link s → IsNamedElsewhere link live s → list_any (names_primary link (primary_symbols link) s) (live_inputs link live) ≡ true
is_named link live s stands_there h =
    let marks : List Bool = primary_symbols link in
    let input : Input = h.input in
    let first = first_symbol link.groups input.file in
    let named : InputFile → Bool = λ f. list_any (names_symbol marks first f.symbols s) input.section.relocs in
    let symbols : List InputSymbol = h.file.symbols in
    let d : ℕ = local_definition first symbols h.relocation.symbol in
    let mark : is_marked marks d ≡ true = ap (is_marked marks) h.names ∙ primary_in link s stands_there in
    let one : names_symbol marks first symbols s h.relocation ≡ true
    = and_from (h.relocation.thunkable && is_marked marks d) (d == s) (and_from h.relocation.thunkable (is_marked marks d) h.thunkable mark) (eq-eqb d s h.names) in
    let r = at_contained input.section.relocs h.relocation h.among in
    let in_relocs = some_holds (names_symbol marks first symbols s) input.section.relocs r.0 h.relocation r.1 one in
    let other = and_from (is_regular input.section.slot) (not (is_primary_section link input.section)) h.regular (ap not h.elsewhere) in
    let whole : names_primary link marks s input ≡ true
    = and_from (is_regular input.section.slot && not (is_primary_section link input.section)) (option_map_or named (file_in link.groups input.file) false) other
    (passes_there named (file_in link.groups input.file) h.file h.there in_relocs) in
    let x = at_contained (live_inputs link live) input h.kept in
    some_holds (names_primary link marks s) (live_inputs link live) x.0 input x.1 whole
