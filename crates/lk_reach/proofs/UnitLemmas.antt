-- Units by their numbers, and that what is asked for in a well-formed link is there.
use Rattle.std.proofs.Common.{◌≡◌, ℕ, suc, ◌+◌, ◌<◌, Bool, true, false, if◌then◌else◌, ◌&&◌, ◌==◌, eqb, not, List, [], ◌∷◌, length, map, sum_by, Option, Some, None, refl, sym, ap, ◌∙◌, subst, inl, inr, arith, length-append, option_and_then, option_map, get_or, unwrap_or}
use Rattle.std.specs.List.{All, enumerate_from, filter, flat_map, range_with_len, slice_get}
use Rattle.std.specs.Option.{ForSome, option_map_or, option_to_list}
use Rattle.std.proofs.lemmas.Bool.{and_parts}
use Rattle.std.proofs.lemmas.List.{length-map}
use Rattle.std.proofs.lemmas.List.Concat.{length-flat_map}
use Rattle.std.proofs.lemmas.List.Elements.{All-append, All-cons, All-filter, All-map, All-nil}
use Rattle.std.proofs.lemmas.List.FromFn.{length-range_with_len, get_or-range_with_len}
use Rattle.std.proofs.lemmas.Option.{slice_get-get_or, slice_get_within}
use Rattle.lk_link.specs.declared.file.FileKind.{FileKind}
use Rattle.lk_link.specs.declared.file.FileKind.TheVariants as kind
use Rattle.lk_link.specs.declared.file.InputFile.{InputFile}
use Rattle.lk_link.specs.declared.flags.TheConstants.ValueFlags as flag
use Rattle.lk_link.specs.declared.ids.FileId.{FileId}
use Rattle.lk_link.specs.declared.link.LinkInput.{LinkInput}
use Rattle.lk_link.specs.declared.plan.OrderEvent.{OrderEvent}
use Rattle.lk_link.specs.declared.plan.OrderEvent.TheVariants as event
use Rattle.lk_link.specs.declared.relocation.Relocation.{Relocation}
use Rattle.lk_link.specs.declared.section.InputSection.{InputSection}
use Rattle.lk_link.specs.declared.section.InputSlot.{InputSlot}
use Rattle.lk_link.specs.declared.section.InputSlot.TheVariants as slot
use Rattle.lk_link.specs.declared.symbol.InputSymbol.{InputSymbol}
use Rattle.lk_link.specs.declared.symbol.SymbolPlacement.{SymbolPlacement}
use Rattle.lk_link.specs.declared.symbol.SymbolPlacement.TheVariants as at
use Rattle.lk_link.specs.Files.{file_in}
use Rattle.lk_link.specs.InputRules.{IsGoodInput}
use Rattle.lk_link.specs.Inputs.{Input, NumberedFile, all_inputs, input_number, numbered_files}
use Rattle.lk_link.specs.InputSlots.{can_be_kept, is_discarded, is_regular}
use Rattle.lk_link.specs.Relocations.{resolution_flags}
use Rattle.lk_link.specs.SectionGroups.{group_members}
use Rattle.lk_link.specs.SymbolRules.{IsGoodSymbol, IsPlacementThere}
use Rattle.lk_link.specs.Symbols.{all_files, all_symbols, definition_of, first_symbol, is_named, symbol_at, symbols_in}
use Rattle.lk_link.specs.WellFormed.{IsWellFormed}
use Rattle.lk_link.proofs.GoodInputs.{inputs_are_good}
use Rattle.lk_link.proofs.GoodSymbols.{defined_once, symbol_of}
use Rattle.lk_link.proofs.InputLemmas.{files_from_are, inputs_follow, sum_mapped}
use Rattle.lk_link.proofs.SymbolLemmas.{symbols_within}
use Rattle.lk_reach.specs.declared.units.Ask.{Ask}
use Rattle.lk_reach.specs.declared.units.Ask.TheVariants.{Reference, Section, Mark}
use Rattle.lk_reach.specs.declared.units.Unit.{Unit as LinkUnit}
use Rattle.lk_reach.specs.declared.units.Unit.TheVariants.{Sym, Sec}
use Rattle.lk_reach.specs.Laws.{AsksAreInside}
use Rattle.lk_reach.specs.Marks.{IsInside, IsUnit, all_units, symbols_in_all, unit_at, unit_number}
use Rattle.lk_reach.specs.Exports.{is_exported, is_own_definition, list_for, mode_of}
use Rattle.lk_reach.specs.declared.exports.ExportSymbolsMode.{ExportSymbolsMode}
use Rattle.lk_reach.specs.declared.exports.ExportSymbolsMode.TheVariants as mode
use Rattle.lk_link.specs.declared.expression.Operand.TheVariants as operand
use Rattle.lk_link.specs.declared.expression.Token.{Token}
use Rattle.lk_link.specs.declared.expression.Token.TheVariants as token
use Rattle.lk_link.specs.Expressions.{Term, postfix}
use Rattle.lk_link.specs.SymbolPlacements.{edge_of, is_undefined, section_of}
use Rattle.lk_reach.specs.Placements.{is_defined}
use Rattle.lk_reach.specs.Units.{candidate_ask, candidate_asks, event_asks, is_script_root, kind_asks, location_asks, redirect_references, script_redirect_asks, shown_ask, wanted_symbol_asks, ask_for, asked_members, asked_references, asked_definition, comes_along, definition_ask, dynamic_ask, entry_asks, own_asks, prelude_symbol_asks, token_ask, token_asks, flags_from, export_asks, export_roots, file_roots, is_coming, is_other, member_asks, other_asks, follows, is_primary_section, is_root, kind_roots, local_definition, numbered_symbols, range_mark, reference, relocation_asks, roots, section_references, section_roots, symbol_asks, symbols_of, unit_of}
use Rattle.lk_link.proofs.Elements.{append_at, append_left, append_right, at_index, filter_at, flat_map_at, map_at, map_in, numbered_at}
use Rattle.lk_reach.proofs.Numbered.{IsFileAt, IsSectionOf, file_at, file_of_input, one_place, sections_of}
use Rattle.lk_reach.proofs.Numbered as numbered
use Rattle.lk_link.specs.CandidateRules.{IsGoodCandidate}
use Rattle.lk_link.proofs.GoodFiles.{candidate_of}

-- ---- numbers

symbols_count : (groups : List (List InputFile)) → length (map Sym (range_with_len 0 (symbols_in_all groups))) ≡ symbols_in_all groups
symbols_count groups = length-map (range_with_len 0 (symbols_in_all groups)) Sym ∙ length-range_with_len 0 (symbols_in_all groups)

range_at : (a n i : ℕ) → i < n → slice_get (range_with_len a n) i ≡ Some (a + i)
range_at a n i lt = slice_get-get_or (range_with_len a n) i 0 (omega (arith, length-range_with_len a n)) ∙ ap Some (get_or-range_with_len a n i 0 lt)

-- a symbol has its own number
pub symbol_unit : (groups : List (List InputFile)) (s : ℕ) → s < symbols_in_all groups → unit_at groups s ≡ Some (Sym s)
symbol_unit groups s lt =
    append_left (map Sym (range_with_len 0 (symbols_in_all groups))) (map unit_of (all_inputs groups)) s (Sym s)
    (map_in Sym (range_with_len 0 (symbols_in_all groups)) s s (range_at 0 (symbols_in_all groups) s lt ∙ ap Some (omega arith)))

-- an input section stands behind the symbols
pub input_unit : (groups : List (List InputFile)) (k : ℕ) (x : Input) → slice_get (all_inputs groups) k ≡ Some x → unit_at groups (symbols_in_all groups + k) ≡ Some (unit_of x)
input_unit groups k x h =
    append_right (map Sym (range_with_len 0 (symbols_in_all groups))) (map unit_of (all_inputs groups)) k (symbols_in_all groups + k) (unit_of x)
    (ap (λ n. n + k) (sym (symbols_count groups))) (map_in unit_of (all_inputs groups) k x h)

-- a section of a file is a unit
pub section_unit : (groups : List (List InputFile)) (id : FileId) (file : InputFile) (i : ℕ) (section : InputSection) → file_in groups id ≡ Some file → slice_get file.sections i ≡ Some section → IsUnit groups (Sec id i)
section_unit groups id file i section at_file at_i =
    input_unit groups (input_number groups id i) (record { file = id; index = i; section = section }) (inputs_follow.at groups id file i section at_file at_i)

pub units_count : (groups : List (List InputFile)) → length (all_units groups) ≡ symbols_in_all groups + length (all_inputs groups)
units_count groups = omega (
  arith,
  length-append (map Sym (range_with_len 0 (symbols_in_all groups))) (map unit_of (all_inputs groups)),
  symbols_count groups,
  length-map (all_inputs groups) unit_of,
)

-- the number of an input section, by its place among all
pub input_place : (groups : List (List InputFile)) (k : ℕ) (x : Input) → slice_get (all_inputs groups) k ≡ Some x → input_number groups x.file x.index ≡ k
input_place groups k x h =
    let from = file_of_input groups k x h in
    let there = inputs_follow.at groups x.file from.0 x.index x.section from.1 from.2 in
    one_place groups (input_number groups x.file x.index) k (record { file = x.file; index = x.index; section = x.section }) x there h refl refl

-- a unit at a number has that number
pub number_of : (groups : List (List InputFile)) (n : ℕ) (u : LinkUnit) → unit_at groups n ≡ Some u → unit_number groups u ≡ n
number_of groups n u h = elim (append_at (map Sym (range_with_len 0 (symbols_in_all groups))) (map unit_of (all_inputs groups)) n u h) [
  | inl a ↦
      let at = map_at Sym (range_with_len 0 (symbols_in_all groups)) n u a in
      let within : n < symbols_in_all groups = omega (arith, slice_get_within (range_with_len 0 (symbols_in_all groups)) n at.0 at.1, length-range_with_len 0 (symbols_in_all groups)) in
      let same : Some at.0 ≡ Some (0 + n) = sym at.1 ∙ range_at 0 (symbols_in_all groups) n within in
      let number : at.0 ≡ 0 + n = cc in
      ap (unit_number groups) (sym at.2) ∙ omega (arith, number)
  | inr b ↦
      let at = map_at unit_of (all_inputs groups) b.0 u b.2 in
      let place = input_place groups b.0 at.0 at.1 in
      ap (unit_number groups) (sym at.2) ∙ omega (arith, b.1, symbols_count groups, place)
]

-- ---- what is asked for is there

pub all_joined : {X Y : Type 0} (P : Y → Type 0) (f : X → List Y) (xs : List X) → ((k : ℕ) (x : X) → slice_get xs k ≡ Some x → All P (f x)) → All P (flat_map f xs)
all_joined P f [] h = All-nil P
all_joined P f (x ∷ xs) h = All-append P (f x) (flat_map f xs) (h 0 x refl) (all_joined P f xs (λ k y e. h (suc k) y e))

all_mapped : {X Y : Type 0} (P : Y → Type 0) (f : X → Y) (p : X → Bool) (xs : List X) → ((k : ℕ) (x : X) → slice_get xs k ≡ Some x → P (f x)) → All P (map f (filter p xs))
all_mapped P f p xs h = All-map P f (filter p xs) (All-filter p (λ x. P (f x)) xs (λ k d lt. h k (get_or xs k d) (slice_get-get_or xs k d lt)))

-- how many symbols there are
pub symbols_length : (groups : List (List InputFile)) → length (all_symbols groups) ≡ symbols_in_all groups
symbols_length groups = length-flat_map (λ f. f.symbols) (all_files groups)

some_of : {X Y : Type 0} (f : X → Y) (o : Option X) (y : Y) → option_map f o ≡ Some y → (x : X) × (o ≡ Some x)
some_of f None y h = absurd (cc)
some_of f (Some x) y h = (x, refl)

-- what has a definition is there
symbol_there : (groups : List (List InputFile)) (s d : ℕ) → definition_of groups s ≡ Some d → s < symbols_in_all groups
symbol_there groups s d h =
    let x = some_of (λ x. unwrap_or x.def s) (symbol_at groups s) d h in
    omega (arith, slice_get_within (all_symbols groups) s x.0 x.1, symbols_length groups)

-- as many as all symbols
numbered_length : (groups : List (List InputFile)) → length (numbered_symbols groups) ≡ symbols_in_all groups
numbered_length groups =
    length-flat_map symbols_of (numbered_files groups)
    ∙ sum_mapped (λ f. length (symbols_of f)) symbols_in (λ f. f.file) (λ f. length-map f.file.symbols (λ s. (f, s))) (numbered_files groups)
    ∙ ap (sum_by symbols_in) (files_from_are 0 groups)

one_inside : (groups : List (List InputFile)) (a : Ask) → IsInside groups a → All (IsInside groups) (a ∷ [])
one_inside groups a h = All-cons (IsInside groups) a [] h (All-nil (IsInside groups))

reference_inside : (groups : List (List InputFile)) (s : ℕ) (f : _) → s < symbols_in_all groups → IsInside groups (Reference s f)
reference_inside groups s f lt = record {
  target = λ u e. let same : Sym s ≡ u = cc in subst (IsUnit groups) same (symbol_unit groups s lt);
  symbol = λ p e. let same : (s, f.0) ≡ p = cc in subst (λ (q : ℕ × ℕ). q.0 < symbols_in_all groups) same lt;
}

mark_inside : (groups : List (List InputFile)) (s : ℕ) (f : _) → s < symbols_in_all groups → IsInside groups (Mark s f)
mark_inside groups s f lt = record {
  target = λ u e. absurd (cc);
  symbol = λ p e. let same : (s, f.0) ≡ p = cc in subst (λ (q : ℕ × ℕ). q.0 < symbols_in_all groups) same lt;
}

section_inside : (groups : List (List InputFile)) (id : FileId) (i : ℕ) → IsUnit groups (Sec id i) → IsInside groups (Section id i)
section_inside groups id i h = record {
  target = λ u e. let same : Sec id i ≡ u = cc in subst (IsUnit groups) same h;
  symbol = λ p e. absurd (cc);
}

-- ---- relocations

either_inside : (groups : List (List InputFile)) (b : Bool) (xs ys : List Ask) → (b ≡ true → All (IsInside groups) xs) → (b ≡ false → All (IsInside groups) ys) → All (IsInside groups) (if b then xs else ys)
either_inside groups true xs ys f g = f refl
either_inside groups false xs ys f g = g refl

defined_within : (groups : List (List InputFile)) (def : Option ℕ) (own : ℕ) → own < symbols_in_all groups → ForSome def (λ d. definition_of groups d ≡ Some d) → unwrap_or def own < symbols_in_all groups
defined_within groups None own lt h = lt
defined_within groups (Some d) own lt h = symbol_there groups d d (h d refl)

-- what stands for a symbol of a file is there
pub local_within : (link : LinkInput) (id : FileId) (file : InputFile) (i : ℕ) → IsWellFormed link → file_in link.groups id ≡ Some file → i < length file.symbols
    → local_definition (first_symbol link.groups id) file.symbols i < symbols_in_all link.groups
local_within link id file i wf at_file lt =
    let first = first_symbol link.groups id in
    let x = at_index file.symbols i lt in
    let good = symbol_of link id i file x.0 wf at_file x.1 in
    let own : first + i < symbols_in_all link.groups = omega (arith, symbols_within link.groups id file at_file) in
    let within : unwrap_or x.0.def (first + i) < symbols_in_all link.groups = defined_within link.groups x.0.def (first + i) own good.defined in
    let same : local_definition first file.symbols i ≡ unwrap_or x.0.def (first + i) = ap (λ o. option_map_or (λ s. unwrap_or s.def (first + i)) o (first + i)) x.1 in
    omega (arith, same, within)

option_inside : (groups : List (List InputFile)) (b : Bool) (a : Ask) → IsInside groups a → All (IsInside groups) (option_to_list (if b then Some a else None))
option_inside groups true a h = one_inside groups a h
option_inside groups false a h = All-nil (IsInside groups)

unless_inside : (groups : List (List InputFile)) (b : Bool) (a : Ask) → IsInside groups a → All (IsInside groups) (option_to_list (if b then None else Some a))
unless_inside groups true a h = All-nil (IsInside groups)
unless_inside groups false a h = one_inside groups a h

relocation_inside : (link : LinkInput) (id : FileId) (file : InputFile) (primary : Bool) (r : Relocation) → IsWellFormed link → file_in link.groups id ≡ Some file → r.symbol < length file.symbols
    → All (IsInside link.groups) (relocation_asks primary (first_symbol link.groups id) file.symbols r)
relocation_inside link id file primary r wf at_file lt =
    let groups : List (List InputFile) = link.groups in
    let first = first_symbol groups id in
    All-append (IsInside groups) (option_to_list (reference first file.symbols r)) (option_to_list (range_mark primary first r))
    (unless_inside groups (resolution_flags r.kind == 0) _ (reference_inside groups _ _ (local_within link id file r.symbol wf at_file lt)))
    (option_inside groups (primary && r.thunkable) _ (mark_inside groups _ _ (omega (arith, symbols_within groups id file at_file))))

pub regular_kept : (s : InputSlot) → is_regular s ≡ true → is_discarded s ≡ false
regular_kept slot.Discard h = absurd (cc)
regular_kept slot.Unloaded h = refl
regular_kept slot.MustLoad h = refl
regular_kept slot.DebugInfo h = refl
regular_kept slot.MustLoadDebugInfo h = refl
regular_kept slot.Merge h = refl

references_inside : (link : LinkInput) (id : FileId) (file : InputFile) (i : ℕ) (section : InputSection) → IsWellFormed link → file_in link.groups id ≡ Some file → slice_get file.sections i ≡ Some section
    → All (IsInside link.groups) (section_references link id file section)
references_inside link id file i section wf at_file at_i =
    let groups : List (List InputFile) = link.groups in
    either_inside groups (is_regular section.slot) _ []
    (λ plain.
    let good : IsGoodInput link.plan (length file.symbols) section = inputs_are_good link id i file section wf at_file at_i (regular_kept section.slot plain) in
    all_joined (IsInside groups) (relocation_asks (is_primary_section link section) (first_symbol groups id) file.symbols) section.relocs
    (λ k r there. relocation_inside link id file (is_primary_section link section) r wf at_file (good.in_relocs k r there).1))
    (λ e. All-nil (IsInside groups))

-- ---- section groups

-- what holds of what each passing element gives
pub all_passing : {X Y : Type 0} (P : Y → Type 0) (f : X → Y) (p : X → Bool) (xs : List X) → ((k : ℕ) (x : X) → slice_get xs k ≡ Some x → p x ≡ true → P (f x)) → All P (map f (filter p xs))
all_passing P f p xs h k d lt =
    let ys = map f (filter p xs) in
    let at = map_at f (filter p xs) k (get_or ys k d) (slice_get-get_or ys k d lt) in
    let from = filter_at p xs k at.0 at.1 in
    subst P at.2 (h from.0 at.0 from.1 from.2)

section_there : (o : Option InputSection) → option_map_or (λ s. comes_along s.slot) o false ≡ true → (s : InputSection) × (o ≡ Some s)
section_there None h = absurd (cc)
section_there (Some s) h = (s, refl)

-- a section that comes along is there
pub coming_there : (sections : List InputSection) (own k : ℕ) → is_other sections own k ≡ true → (s : InputSection) × (slice_get sections k ≡ Some s)
coming_there sections own k h = section_there (slice_get sections k) (and_parts (not (eqb k own)) (is_coming sections k) h).1

others_inside : (link : LinkInput) (id : FileId) (file : InputFile) (own : ℕ) (members : List ℕ) → file_in link.groups id ≡ Some file → All (IsInside link.groups) (other_asks id file.sections own members)
others_inside link id file own members at_file = all_passing (IsInside link.groups) (Section id) (is_other file.sections own) members (λ j k at is.
    let s = coming_there file.sections own k is in
    section_inside link.groups id k (section_unit link.groups id file k s.0 at_file s.1))

group_inside : (link : LinkInput) (id : FileId) (file : InputFile) (i : ℕ) (group : Option ℕ) → file_in link.groups id ≡ Some file → All (IsInside link.groups) (option_map_or (λ g. other_asks id file.sections i (group_members file.sections g)) group [])
group_inside link id file i None at_file = All-nil (IsInside link.groups)
group_inside link id file i (Some g) at_file = others_inside link id file i (group_members file.sections g) at_file

members_of_inside : (link : LinkInput) (id : FileId) (i : ℕ) (file : InputFile) (o : Option InputSection) → file_in link.groups id ≡ Some file
    → All (IsInside link.groups) (option_map_or (member_asks id file.sections i) o [])
members_of_inside link id i file None at_file = All-nil (IsInside link.groups)
members_of_inside link id i file (Some s) at_file =
    either_inside link.groups (can_be_kept s.slot) _ [] (λ e. group_inside link id file i s.group at_file) (λ e. All-nil (IsInside link.groups))

members_inside : (link : LinkInput) (id : FileId) (i : ℕ) (o : Option InputFile) → file_in link.groups id ≡ o
    → All (IsInside link.groups) (option_map_or (λ f. option_map_or (member_asks id f.sections i) (slice_get f.sections i) []) o [])
members_inside link id i None e = All-nil (IsInside link.groups)
members_inside link id i (Some file) e = members_of_inside link id i file (slice_get file.sections i) e

-- ---- units

-- a symbol with its number stands in a file, at an index
pub record IsNumberedSymbol (groups : List (List InputFile)) (q : NumberedFile × InputSymbol) : Type 0 where
  pub there : file_in groups q.0.id ≡ Some q.0.file
  pub index : ℕ
  pub symbol : slice_get q.0.file.symbols index ≡ Some q.1

pub symbol_stands : (groups : List (List InputFile)) (s : ℕ) (q : NumberedFile × InputSymbol) → slice_get (numbered_symbols groups) s ≡ Some q → IsNumberedSymbol groups q
symbol_stands groups s q h =
    let at = flat_map_at symbols_of (numbered_files groups) s q h in
    let f : NumberedFile = at.from in
    let pair : InputSymbol → NumberedFile × InputSymbol = λ x. (f, x) in
    let x = map_at pair f.file.symbols at.inner q at.gives in
    let is : IsNumberedSymbol groups (pair x.0) = record { there = (file_at groups at.outer f at.there).there; index = at.inner; symbol = x.1 } in
    subst (IsNumberedSymbol groups) x.2 is

placement_inside : (link : LinkInput) (id : FileId) (file : InputFile) (p : SymbolPlacement) → file_in link.groups id ≡ Some file → IsPlacementThere link.plan file.sections p
    → All (IsInside link.groups) (option_to_list (option_map (Section id) (section_of p)))
placement_inside link id file (at.Section i offset) at_file h = one_inside link.groups (Section id i) (section_inside link.groups id i (section_unit link.groups id file i h.0 at_file h.1))
placement_inside link id file (at.Common p n) at_file h = All-nil (IsInside link.groups)
placement_inside link id file (at.Absolute n) at_file h = All-nil (IsInside link.groups)
placement_inside link id file at.Undef at_file h = All-nil (IsInside link.groups)
placement_inside link id file at.Dynamic at_file h = All-nil (IsInside link.groups)
placement_inside link id file at.Undefined at_file h = All-nil (IsInside link.groups)
placement_inside link id file at.ForceUndefined at_file h = All-nil (IsInside link.groups)
placement_inside link id file (at.SectionStart s) at_file h = All-nil (IsInside link.groups)
placement_inside link id file (at.SectionEnd s) at_file h = All-nil (IsInside link.groups)
placement_inside link id file (at.SectionGroupEnd s) at_file h = All-nil (IsInside link.groups)
placement_inside link id file at.TlsEnd at_file h = All-nil (IsInside link.groups)
placement_inside link id file at.LoadBaseAddress at_file h = All-nil (IsInside link.groups)
placement_inside link id file (at.Redirect e l provide) at_file h = All-nil (IsInside link.groups)

token_symbol_inside : (link : LinkInput) (s : ℕ) (o : Option ℕ) → IsWellFormed link → definition_of link.groups s ≡ o → All (IsInside link.groups) (option_to_list (option_map (λ d. Reference d flag.DIRECT) o))
token_symbol_inside link s None wf e = All-nil (IsInside link.groups)
token_symbol_inside link s (Some d) wf e =
    one_inside link.groups (Reference d flag.DIRECT) (reference_inside link.groups d flag.DIRECT (symbol_there link.groups d d (defined_once link s d wf e)))

token_inside : (link : LinkInput) (t : Token) → IsWellFormed link → All (IsInside link.groups) (option_to_list (token_ask link.groups t))
token_inside link (token.Operand (operand.Symbol s)) wf = token_symbol_inside link s (definition_of link.groups s) wf refl
token_inside link (token.Operand (operand.Number n)) wf = All-nil (IsInside link.groups)
token_inside link (token.Operand operand.Dot) wf = All-nil (IsInside link.groups)
token_inside link (token.Operand (operand.Address n)) wf = All-nil (IsInside link.groups)
token_inside link (token.Operand (operand.SizeOf n)) wf = All-nil (IsInside link.groups)
token_inside link (token.Operand (operand.Origin n)) wf = All-nil (IsInside link.groups)
token_inside link (token.Operand (operand.Length n)) wf = All-nil (IsInside link.groups)
token_inside link (token.Operand operand.SizeOfHeaders) wf = All-nil (IsInside link.groups)
token_inside link (token.Operator o) wf = All-nil (IsInside link.groups)

tokens_inside : (link : LinkInput) (tokens : List Token) → IsWellFormed link → All (IsInside link.groups) (token_asks link.groups tokens)
tokens_inside link tokens wf = all_joined (IsInside link.groups) (λ t. option_to_list (token_ask link.groups t)) tokens (λ k t at_k. token_inside link t wf)

redirect_inside : (link : LinkInput) (s : ℕ) (e : Term) → IsWellFormed link → s < symbols_in_all link.groups → All (IsInside link.groups) (redirect_references link.groups s e)
redirect_inside link s e wf lt =
    All-cons (IsInside link.groups) (Reference s flag.DIRECT) (token_asks link.groups (postfix e)) (reference_inside link.groups s flag.DIRECT lt) (tokens_inside link (postfix e) wf)

script_redirect_inside : (link : LinkInput) (s : ℕ) (p : SymbolPlacement) → IsWellFormed link → s < symbols_in_all link.groups → All (IsInside link.groups) (script_redirect_asks link.groups s p)
script_redirect_inside link s (at.Redirect e l provide) wf lt = redirect_inside link s e wf lt
script_redirect_inside link s at.ForceUndefined wf lt = All-nil (IsInside link.groups)
script_redirect_inside link s (at.Section i o) wf lt = All-nil (IsInside link.groups)
script_redirect_inside link s (at.Common q n) wf lt = All-nil (IsInside link.groups)
script_redirect_inside link s (at.Absolute n) wf lt = All-nil (IsInside link.groups)
script_redirect_inside link s at.Undef wf lt = All-nil (IsInside link.groups)
script_redirect_inside link s at.Dynamic wf lt = All-nil (IsInside link.groups)
script_redirect_inside link s at.Undefined wf lt = All-nil (IsInside link.groups)
script_redirect_inside link s (at.SectionStart o) wf lt = All-nil (IsInside link.groups)
script_redirect_inside link s (at.SectionEnd o) wf lt = All-nil (IsInside link.groups)
script_redirect_inside link s (at.SectionGroupEnd o) wf lt = All-nil (IsInside link.groups)
script_redirect_inside link s at.TlsEnd wf lt = All-nil (IsInside link.groups)
script_redirect_inside link s at.LoadBaseAddress wf lt = All-nil (IsInside link.groups)

-- what a file's candidates name is there
candidates_inside : (link : LinkInput) (id : FileId) (file : InputFile) (o : Option ℕ) → IsWellFormed link → file_in link.groups id ≡ Some file → All (IsInside link.groups) (option_map_or (candidate_asks file.candidates) o [])
candidates_inside link id file None wf there = All-nil (IsInside link.groups)
candidates_inside link id file (Some o) wf there = all_passing (IsInside link.groups) candidate_ask (λ c. c.output == o) file.candidates (λ k c at is.
    let good : IsGoodCandidate link c = candidate_of link id k file c wf there at in
    let section = at_index good.file.sections c.index good.section in
    section_inside link.groups c.file c.index (section_unit link.groups c.file good.file c.index section.0 good.there section.1))

-- what a symbol of a file asks for, by the file's kind
kind_asks_inside : (link : LinkInput) (s : ℕ) (id : FileId) (file : InputFile) (x : InputSymbol) (k : FileKind) → IsWellFormed link → s < symbols_in_all link.groups → file_in link.groups id ≡ Some file
    → IsGoodSymbol link file x → All (IsInside link.groups) (kind_asks link.groups s id file x k)
kind_asks_inside link s id file x kind.Object wf lt there good = placement_inside link id file x.at there good.there
kind_asks_inside link s id file x kind.SyntheticSymbols wf lt there good = candidates_inside link id file (edge_of x.at) wf there
kind_asks_inside link s id file x kind.LinkerScript wf lt there good =
    All-append (IsInside link.groups) (script_redirect_asks link.groups s x.at) (option_to_list (shown_ask s x)) (script_redirect_inside link s x.at wf lt)
    (option_inside link.groups (is_named x && not x.hidden) (Reference s flag.EXPORT_DYNAMIC) (reference_inside link.groups s flag.EXPORT_DYNAMIC lt))
kind_asks_inside link s id file x kind.Prelude wf lt there good = All-nil (IsInside link.groups)
kind_asks_inside link s id file x kind.Dynamic wf lt there good = All-nil (IsInside link.groups)
kind_asks_inside link s id file x kind.NotLoaded wf lt there good = All-nil (IsInside link.groups)

symbol_asks_inside : (link : LinkInput) (s : ℕ) (q : NumberedFile × InputSymbol) → IsWellFormed link → s < symbols_in_all link.groups → IsNumberedSymbol link.groups q → All (IsInside link.groups) (symbol_asks link.groups s q)
symbol_asks_inside link s q wf lt is =
    let good : IsGoodSymbol link q.0.file q.1 = symbol_of link q.0.id is.index q.0.file q.1 wf is.there is.symbol in
    kind_asks_inside link s q.0.id q.0.file q.1 q.0.file.kind wf lt is.there good

symbol_follows_inside : (link : LinkInput) (s : ℕ) (o : Option (NumberedFile × InputSymbol)) → IsWellFormed link → slice_get (numbered_symbols link.groups) s ≡ o
    → All (IsInside link.groups) (option_map_or (symbol_asks link.groups s) o [])
symbol_follows_inside link s None wf e = All-nil (IsInside link.groups)
symbol_follows_inside link s (Some q) wf e =
    let within = slice_get_within (numbered_symbols link.groups) s q e in
    symbol_asks_inside link s q wf (omega (arith, within, numbered_length link.groups)) (symbol_stands link.groups s q e)

section_follows_inside : (link : LinkInput) (id : FileId) (i : ℕ) (file : InputFile) (o : Option InputSection) → IsWellFormed link → file_in link.groups id ≡ Some file → slice_get file.sections i ≡ o
    → All (IsInside link.groups) (option_map_or (section_references link id file) o [])
section_follows_inside link id i file None wf at_file e = All-nil (IsInside link.groups)
section_follows_inside link id i file (Some section) wf at_file e = references_inside link id file i section wf at_file e

file_follows_inside : (link : LinkInput) (id : FileId) (i : ℕ) (o : Option InputFile) → IsWellFormed link → file_in link.groups id ≡ o
    → All (IsInside link.groups) (option_map_or (λ f. option_map_or (section_references link id f) (slice_get f.sections i) []) o [])
file_follows_inside link id i None wf e = All-nil (IsInside link.groups)
file_follows_inside link id i (Some file) wf e = section_follows_inside link id i file (slice_get file.sections i) wf e refl

unit_inside : (link : LinkInput) (u : LinkUnit) → IsWellFormed link → All (IsInside link.groups) (follows link u)
unit_inside link (Sym s) wf = symbol_follows_inside link s (slice_get (numbered_symbols link.groups) s) wf refl
unit_inside link (Sec id i) wf =
    All-append (IsInside link.groups) (asked_members link id i) (asked_references link id i) (members_inside link id i (file_in link.groups id) refl)
    (file_follows_inside link id i (file_in link.groups id) wf refl)

-- ---- roots

entry_inside : (link : LinkInput) (entry d : Option ℕ) → IsWellFormed link → option_and_then (definition_of link.groups) entry ≡ d
    → All (IsInside link.groups) (option_to_list (option_map (λ s. Reference s flag.DIRECT) d))
entry_inside link entry None wf h = All-nil (IsInside link.groups)
entry_inside link None (Some d) wf h = absurd (cc)
entry_inside link (Some e) (Some d) wf h = one_inside link.groups (Reference d flag.DIRECT) (reference_inside link.groups d flag.DIRECT (symbol_there link.groups d d (defined_once link e d wf h)))

-- what an object exports is there
exports_inside : (link : LinkInput) (f : NumberedFile) (m : Option ExportSymbolsMode) → file_in link.groups f.id ≡ Some f.file
    → All (IsInside link.groups) (option_map_or (λ m. export_asks (list_for link.options m) f.file.sections (first_symbol link.groups f.id) f.file.symbols) m [])
exports_inside link f None there = All-nil (IsInside link.groups)
exports_inside link f (Some m) there =
    let ask : ℕ × InputSymbol → Ask = λ q. Reference q.0 flag.EXPORT_DYNAMIC in
    let own : List (ℕ × InputSymbol) = enumerate_from (first_symbol link.groups f.id) f.file.symbols in
    all_mapped (IsInside link.groups) ask (is_exported (list_for link.options m) f.file.sections) own (λ k q at.
    let x = numbered_at (first_symbol link.groups f.id) f.file.symbols k q at in
    let within = slice_get_within f.file.symbols k q.1 x.1 in
    reference_inside link.groups q.0 flag.EXPORT_DYNAMIC (omega (arith, x.0, within, symbols_within link.groups f.id f.file there)))

defined_there : (groups : List (List InputFile)) (d : ℕ) (o : Option InputSymbol) → symbol_at groups d ≡ o → option_map_or (λ x. not (is_undefined x.at)) o false ≡ true → d < symbols_in_all groups
defined_there groups d None e h = absurd (cc)
defined_there groups d (Some x) e h = omega (arith, slice_get_within (all_symbols groups) d x e, symbols_length groups)

forced_inside : (link : LinkInput) (d : ℕ) (b : Bool) → is_defined link.groups d ≡ b → All (IsInside link.groups) (option_to_list (if b then Some (Reference d flag.DIRECT) else None))
forced_inside link d true is = one_inside link.groups (Reference d flag.DIRECT) (reference_inside link.groups d flag.DIRECT (defined_there link.groups d (symbol_at link.groups d) refl is))
forced_inside link d false is = All-nil (IsInside link.groups)

-- what the prelude refers to by a symbol is there
own_inside : (link : LinkInput) (s : ℕ) (x : InputSymbol) (p : SymbolPlacement) → IsWellFormed link → s < symbols_in_all link.groups → All (IsInside link.groups) (own_asks link.groups s x p)
own_inside link s x (at.Redirect e l provide) wf lt =
    either_inside link.groups (unwrap_or x.def s == s) _ []
    (λ is. redirect_inside link s e wf lt)
    (λ e. All-nil (IsInside link.groups))
own_inside link s x at.ForceUndefined wf lt = forced_inside link (unwrap_or x.def s) (is_defined link.groups (unwrap_or x.def s)) refl
own_inside link s x (at.Section i o) wf lt = All-nil (IsInside link.groups)
own_inside link s x (at.Common q n) wf lt = All-nil (IsInside link.groups)
own_inside link s x (at.Absolute n) wf lt = All-nil (IsInside link.groups)
own_inside link s x at.Undef wf lt = All-nil (IsInside link.groups)
own_inside link s x at.Dynamic wf lt = All-nil (IsInside link.groups)
own_inside link s x at.Undefined wf lt = All-nil (IsInside link.groups)
own_inside link s x (at.SectionStart o) wf lt = All-nil (IsInside link.groups)
own_inside link s x (at.SectionEnd o) wf lt = All-nil (IsInside link.groups)
own_inside link s x (at.SectionGroupEnd o) wf lt = All-nil (IsInside link.groups)
own_inside link s x at.TlsEnd wf lt = All-nil (IsInside link.groups)
own_inside link s x at.LoadBaseAddress wf lt = All-nil (IsInside link.groups)

definition_inside : (link : LinkInput) (d : ℕ) (q : InputFile × InputSymbol) (k : FileKind) → d < symbols_in_all link.groups → All (IsInside link.groups) (option_to_list (definition_ask link d q k))
definition_inside link d q kind.Prelude lt = All-nil (IsInside link.groups)
definition_inside link d q kind.Object lt =
    option_inside link.groups (is_exported (list_for link.options mode.All) q.0.sections (d, q.1)) _ (reference_inside link.groups d flag.EXPORT_DYNAMIC lt)
definition_inside link d q kind.Dynamic lt = All-nil (IsInside link.groups)
definition_inside link d q kind.NotLoaded lt = All-nil (IsInside link.groups)
definition_inside link d q kind.SyntheticSymbols lt = All-nil (IsInside link.groups)
definition_inside link d q kind.LinkerScript lt = option_inside link.groups (is_own_definition d q.1) _ (reference_inside link.groups d (flags_from 0) lt)

defined_inside : (link : LinkInput) (d : ℕ) (o : Option (NumberedFile × InputSymbol)) → slice_get (numbered_symbols link.groups) d ≡ o
    → All (IsInside link.groups) (option_to_list (option_and_then (λ q. definition_ask link d (q.0.file, q.1) q.0.file.kind) o))
defined_inside link d None e = All-nil (IsInside link.groups)
defined_inside link d (Some q) e =
    let within = slice_get_within (numbered_symbols link.groups) d q e in
    definition_inside link d (q.0.file, q.1) q.0.file.kind (omega (arith, within, numbered_length link.groups))

unless_own_inside : (link : LinkInput) (d : ℕ) (b : Bool) → All (IsInside link.groups) (option_to_list (if b then None else asked_definition link d))
unless_own_inside link d true = All-nil (IsInside link.groups)
unless_own_inside link d false = defined_inside link d (slice_get (numbered_symbols link.groups) d) refl

dynamic_inside : (link : LinkInput) (s : ℕ) (def : Option ℕ) → All (IsInside link.groups) (option_to_list (option_and_then (λ d. if d == s then None else asked_definition link d) def))
dynamic_inside link s None = All-nil (IsInside link.groups)
dynamic_inside link s (Some d) = unless_own_inside link d (d == s)

pub wanted_inside : (link : LinkInput) (f : NumberedFile) → file_in link.groups f.id ≡ Some f.file → All (IsInside link.groups) (wanted_symbol_asks link f)
wanted_inside link f there =
    let ask : ℕ × InputSymbol → Ask = λ q. Reference q.0 (flags_from 0) in
    let own : List (ℕ × InputSymbol) = enumerate_from (first_symbol link.groups f.id) f.file.symbols in
    all_mapped (IsInside link.groups) ask is_script_root own (λ k q at.
    let x = numbered_at (first_symbol link.groups f.id) f.file.symbols k q at in
    let within = slice_get_within f.file.symbols k q.1 x.1 in
    reference_inside link.groups q.0 (flags_from 0) (omega (arith, x.0, within, symbols_within link.groups f.id f.file there)))

event_inside : (link : LinkInput) (e : OrderEvent) → IsWellFormed link → All (IsInside link.groups) (event_asks link.groups e)
event_inside link (event.SetLocation e) wf = tokens_inside link (postfix e) wf
event_inside link (event.SetLocationRelative e s) wf = tokens_inside link (postfix e) wf
event_inside link (event.SetSectionAddress e) wf = All-nil (IsInside link.groups)
event_inside link (event.Section s) wf = All-nil (IsInside link.groups)
event_inside link (event.SegmentStart i) wf = All-nil (IsInside link.groups)
event_inside link (event.SegmentEnd i) wf = All-nil (IsInside link.groups)

-- what the location counter's expressions refer to is there
pub locations_inside : (link : LinkInput) → IsWellFormed link → All (IsInside link.groups) (location_asks link)
locations_inside link wf = all_joined (IsInside link.groups) (event_asks link.groups) link.plan.events (λ k e at. event_inside link e wf)

kind_inside : (link : LinkInput) (f : NumberedFile) (k : FileKind) → IsWellFormed link → file_in link.groups f.id ≡ Some f.file → All (IsInside link.groups) (kind_roots link f k)
kind_inside link f kind.Prelude wf there =
    All-append (IsInside link.groups) (entry_asks link) (prelude_symbol_asks link f)
    (entry_inside link link.options.entry (option_and_then (definition_of link.groups) link.options.entry) wf refl)
    (all_joined (IsInside link.groups) (λ q. own_asks link.groups q.0 q.1 q.1.at) (enumerate_from (first_symbol link.groups f.id) f.file.symbols) (λ k q at.
    let x = numbered_at (first_symbol link.groups f.id) f.file.symbols k q at in
    let within = slice_get_within f.file.symbols k q.1 x.1 in
    own_inside link q.0 q.1 q.1.at wf (omega (arith, x.0, within, symbols_within link.groups f.id f.file there))))
kind_inside link f kind.Object wf there =
    All-append (IsInside link.groups) (section_roots link.options.gc f.id 0 f.file.sections) (export_roots link f)
    (all_mapped (IsInside link.groups) ask_for (λ x. is_root link.options.gc x.section.slot) (sections_of f)
    (λ k x at_k.
    let is = (numbered.section_of f k x at_k).1 in
    section_inside link.groups x.file x.index (section_unit link.groups x.file f.file x.index x.section (ap (file_in link.groups) is.id ∙ there) is.there)))
    (exports_inside link f (mode_of link.options f.file) there)
kind_inside link f kind.Dynamic wf there =
    all_joined (IsInside link.groups) (λ q. option_to_list (dynamic_ask link q)) (enumerate_from (first_symbol link.groups f.id) f.file.symbols)
    (λ k q at. dynamic_inside link q.0 q.1.def)
kind_inside link f kind.NotLoaded wf there = All-nil (IsInside link.groups)
kind_inside link f kind.SyntheticSymbols wf there = All-nil (IsInside link.groups)
kind_inside link f kind.LinkerScript wf there =
    All-append (IsInside link.groups) (wanted_symbol_asks link f) (location_asks link) (wanted_inside link f there) (locations_inside link wf)

-- what one file asks for is there
pub file_inside : (link : LinkInput) (f : NumberedFile) → IsWellFormed link → file_in link.groups f.id ≡ Some f.file → All (IsInside link.groups) (file_roots link f)
file_inside link f wf there = kind_inside link f f.file.kind wf there

roots_inside : (link : LinkInput) → IsWellFormed link → All (IsInside link.groups) (roots link)
roots_inside link wf = all_joined (IsInside link.groups) (file_roots link) (numbered_files link.groups) (λ k f there. kind_inside link f f.file.kind wf (file_at link.groups k f there).there)

pub asks_are_inside : AsksAreInside
asks_are_inside = record { by_roots = roots_inside; by_unit = λ link u wf. unit_inside link u wf }
