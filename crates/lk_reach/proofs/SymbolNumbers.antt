-- Symbols by their numbers, each with its file.
use Rattle.std.proofs.Common.{◌≡◌, ℕ, ◌+◌, ◌-◌, ◌^◌, ◌<◌, ◌≤◌, true, get_or, List, [], length, map, take, Option, Some, None, sum_by, refl, sym, ap, ◌∙◌, subst, inl, inr, arith, is_some, ltb, option_and_then, option_map}
use Rattle.std.specs.List.{All, flat_map, range_with_len, slice_get}
use Rattle.std.specs.Option.{IsSome, option_map_or, option_to_list}
use Rattle.std.proofs.lemmas.Bool.{ltb-true}
use Rattle.std.proofs.lemmas.List.{length-map}
use Rattle.std.proofs.lemmas.List.Concat.{length-flat_map}
use Rattle.std.proofs.lemmas.List.Sums.{sum_by-take-le, sum_by_more, sum_by_more_le}
use Rattle.std.proofs.lemmas.Option.{get_or_from_slice_get, none-some, slice_get-get_or, slice_get_past, slice_get_within}
use Rattle.lk_link.specs.declared.fault.Limited.TheVariants as limited
use Rattle.lk_link.specs.declared.file.FileKind.{FileKind}
use Rattle.lk_link.specs.declared.file.FileKind.TheVariants as kind
use Rattle.lk_link.specs.declared.file.InputFile.{InputFile}
use Rattle.lk_link.specs.declared.ids.FileId.{FileId}
use Rattle.lk_link.specs.declared.link.LinkInput.{LinkInput}
use Rattle.lk_link.specs.declared.relocation.Relocation.{Relocation}
use Rattle.lk_link.specs.declared.section.InputSection.{InputSection}
use Rattle.lk_link.specs.declared.symbol.InputSymbol.{InputSymbol}
use Rattle.lk_link.specs.FileKinds.{is_object}
use Rattle.lk_link.specs.Files.{file_in}
use Rattle.lk_link.specs.InputRules.{IsGoodInput}
use Rattle.lk_link.specs.InputSlots.{is_regular}
use Rattle.lk_link.specs.Limits.{counted, limit_of}
use Rattle.lk_link.specs.WellFormed.{IsWellFormed}
use Rattle.lk_link.proofs.GoodInputs.{inputs_are_good}
use Rattle.lk_link.specs.Inputs.{Input, NumberedFile, all_inputs, first_input, input_count, numbered_files, sections_in}
use Rattle.lk_link.specs.SymbolPlacements.{section_of}
use Rattle.lk_link.specs.Symbols.{IsSymbolIn, all_files, all_symbols, file_number, first_symbol, symbol_at, symbol_count, symbols_before, symbols_in}
use Rattle.lk_link.proofs.Elements.{append_at, at_index, flat_map_at, map_at}
use Rattle.lk_link.proofs.InputLemmas.{file_stands, files_from_are, inputs_follow, sum_mapped, sum_taken}
use Rattle.lk_link.proofs.SymbolLemmas.{files_have_numbers, symbols_have_files, symbols_follow, symbols_within}
use Rattle.lk_reach.specs.declared.units.Ask.{Ask}
use Rattle.lk_reach.specs.declared.units.Ask.TheVariants.{Section}
use Rattle.lk_reach.specs.declared.units.Unit.{Unit as LinkUnit}
use Rattle.lk_reach.specs.declared.units.Unit.TheVariants.{Sym, Sec}
use Rattle.lk_reach.specs.Marks.{IsUnit, all_units, symbols_in_all, unit_at, unit_number}
use Rattle.lk_reach.specs.Units.{follows, kind_asks, numbered_symbols, symbol_asks, symbols_of, unit_of}
use Rattle.lk_reach.proofs.Numbered.{file_at, file_of_input}
use Rattle.lk_reach.proofs.UnitLemmas.{input_place, input_unit, regular_kept, symbol_stands, symbols_length, units_count}

many : (f : NumberedFile) → length (symbols_of f) ≡ symbols_in f.file
many f = length-map f.file.symbols (λ s. (f, s))

-- as many as all files have
pub numbered_count : (groups : List (List InputFile)) → length (numbered_symbols groups) ≡ symbol_count (all_files groups)
numbered_count groups =
    length-flat_map symbols_of (numbered_files groups)
    ∙ sum_mapped (λ f. length (symbols_of f)) symbols_in (λ f. f.file) many (numbered_files groups)
    ∙ ap (sum_by symbols_in) (files_from_are 0 groups)

-- a file's place among all files is its number
place_is_number : (groups : List (List InputFile)) (k : ℕ) (f : NumberedFile) → slice_get (numbered_files groups) k ≡ Some f → k ≡ file_number groups f.id
place_is_number groups k f h =
    let here = file_at groups k f h in
    let stands = file_stands groups f.id f.file here.there in
    let there = file_at groups (file_number groups f.id) (record { id = f.id; file = f.file }) stands in
    here.place ∙ sym there.place

-- a file's symbols end behind its first one
symbols_after : (groups : List (List InputFile)) (id : FileId) (file : InputFile) → file_in groups id ≡ Some file
    → symbols_before (file_number groups id + 1) (all_files groups) ≡ first_symbol groups id + length file.symbols
symbols_after groups id file h =
    let k = file_number groups id in
    let at_k = files_have_numbers groups id file h in
    sum_by_more symbols_in (all_files groups) k file (slice_get_within (all_files groups) k file at_k)
    ∙ ap (λ f. symbols_before k (all_files groups) + symbols_in f) (get_or_from_slice_get (all_files groups) k file file at_k)

-- a symbol with its file is one of the file's
pub record IsSymbolThere (groups : List (List InputFile)) (s : ℕ) (q : NumberedFile × InputSymbol) : Type 0 where
  pub in_file : IsSymbolIn groups q.0.id s
  pub symbol : symbol_at groups s ≡ Some q.1

symbol_of_file : (groups : List (List InputFile)) (s : ℕ) (q : NumberedFile × InputSymbol) → slice_get (numbered_symbols groups) s ≡ Some q → IsSymbolThere groups s q
symbol_of_file groups s q h =
    let at = flat_map_at symbols_of (numbered_files groups) s q h in
    let f : NumberedFile = at.from in
    let pair : InputSymbol → NumberedFile × InputSymbol = λ x. (f, x) in
    let x = map_at pair f.file.symbols at.inner q at.gives in
    let there : file_in groups f.id ≡ Some f.file = (file_at groups at.outer f at.there).there in
    let number : at.outer ≡ file_number groups f.id = place_is_number groups at.outer f at.there in
    let before : length (flat_map symbols_of (take at.outer (numbered_files groups))) ≡ symbols_before at.outer (all_files groups)
    = length-flat_map symbols_of (take at.outer (numbered_files groups))
    ∙ sum_taken (λ f. length (symbols_of f)) symbols_in (λ f. f.file) many at.outer (numbered_files groups)
    ∙ ap (λ fs. symbols_before at.outer fs) (files_from_are 0 groups) in
    let first : symbols_before at.outer (all_files groups) ≡ first_symbol groups f.id = ap (λ n. symbols_before n (all_files groups)) number in
    let lt : at.inner < length f.file.symbols = slice_get_within f.file.symbols at.inner x.0 x.1 in
    let place : s ≡ first_symbol groups f.id + at.inner = omega (arith, at.place, before, first) in
    let numbered : slice_get (all_files groups) (file_number groups f.id) ≡ Some f.file = files_have_numbers groups f.id f.file there in
    let within = slice_get_within (all_files groups) (file_number groups f.id) f.file numbered in
    let more = symbols_after groups f.id f.file there in
    let is : IsSymbolThere groups s (pair x.0)
    = record {
      in_file = record { file = f.file; there = there; symbol = record { there = within; from = omega (arith, place); below = omega (arith, place, more) } };
      symbol = ap (symbol_at groups) place ∙ symbols_follow groups f.id f.file at.inner there lt ∙ x.1;
    } in
    subst (IsSymbolThere groups s) x.2 is

-- the symbol of a file stands under its number, with the file
pub numbered_symbol : (groups : List (List InputFile)) (id : FileId) (s : ℕ) (h : IsSymbolIn groups id s) (x : InputSymbol) → symbol_at groups s ≡ Some x
    → slice_get (numbered_symbols groups) s ≡ Some (record { id = id; file = h.file }, x)
numbered_symbol groups id s h x at_s =
    let lt : s < length (numbered_symbols groups) = omega (arith, numbered_count groups, slice_get_within (all_symbols groups) s x at_s, symbols_length groups) in
    let q = at_index (numbered_symbols groups) s lt in
    let there = symbol_of_file groups s q.0 q.1 in
    let stands = symbol_stands groups s q.0 q.1 in
    let same_id : q.0.0.id ≡ id = symbols_have_files.once groups q.0.0.id id s there.in_file h in
    let files : Some q.0.0.file ≡ Some h.file = sym stands.there ∙ ap (file_in groups) same_id ∙ h.there in
    let same_file : q.0.0.file ≡ h.file = cc in
    let symbols : Some q.0.1 ≡ Some x = sym there.symbol ∙ at_s in
    let same_symbol : q.0.1 ≡ x = cc in
    let made : FileId → InputFile → InputSymbol → Option (NumberedFile × InputSymbol) = λ i f y. Some (record { id = i; file = f }, y) in
    q.1 ∙ ap (λ i. made i q.0.0.file q.0.1) same_id ∙ ap (λ f. made id f q.0.1) same_file ∙ ap (made id h.file) same_symbol

-- past the last symbol there is none
pub no_symbol : (groups : List (List InputFile)) (s : ℕ) → symbol_count (all_files groups) ≤ s → slice_get (numbered_symbols groups) s ≡ None
no_symbol groups s past = slice_get_past (numbered_symbols groups) s (omega (arith, numbered_count groups))

-- the sections of one file are no more than all
pub sections_within : (groups : List (List InputFile)) (id : FileId) (file : InputFile) → file_in groups id ≡ Some file → length file.sections ≤ input_count groups
sections_within groups id file h =
    let at_k = files_have_numbers groups id file h in
    let k = file_number groups id in
    let sum = sum_by_more_le sections_in (all_files groups) k file (slice_get_within (all_files groups) k file at_k) in
    let same = ap sections_in (get_or_from_slice_get (all_files groups) k file file at_k) in
    omega (arith, sum, same)

-- a symbol of a file is there
pub symbol_has : (groups : List (List InputFile)) (id : FileId) (s : ℕ) → IsSymbolIn groups id s → (x : InputSymbol) × (symbol_at groups s ≡ Some x)
symbol_has groups id s h =
    let at = symbols_have_files.at groups id s h in
    let x = at_index h.file.symbols (s - first_symbol groups id) at.1 in
    (x.0, at.2 ∙ x.1)

abbrev pub told : ℕ → NumberedFile × InputSymbol → ℕ × NumberedFile × InputSymbol
told s q = (s, q.0, q.1)

abbrev file_told : ℕ × NumberedFile × InputSymbol → NumberedFile × InputSymbol
file_told t = (t.1, t.2)

abbrev or_file_told : NumberedFile × InputSymbol → Option (ℕ × NumberedFile × InputSymbol) → NumberedFile × InputSymbol
or_file_told q None = q
or_file_told q (Some t) = file_told t

-- by a look-up that gives a symbol with its number and its file
pub none_known : (s : ℕ) (asks : NumberedFile × InputSymbol → List Ask) (o : Option (NumberedFile × InputSymbol))
    → None ≡ option_map (told s) o → option_map_or asks o [] ≡ []
none_known s asks None h = refl
none_known s asks (Some q) h = absurd (none-some (told s q) h)

pub one_known : (s : ℕ) (t : ℕ × NumberedFile × InputSymbol) (asks : NumberedFile × InputSymbol → List Ask) (o : Option (NumberedFile × InputSymbol))
    → Some t ≡ option_map (told s) o → option_map_or asks o [] ≡ asks (t.1, t.2)
one_known s t asks None h = absurd (none-some t (sym h))
one_known s t asks (Some q) h = ap asks (sym (ap (or_file_told q) h))

-- what is known stands under its number
pub at_known : (s : ℕ) (t : ℕ × NumberedFile × InputSymbol) (o : Option (NumberedFile × InputSymbol)) → Some t ≡ option_map (told s) o → o ≡ Some (t.1, t.2)
at_known s t None h = absurd (none-some t (sym h))
at_known s t (Some q) h = ap Some (sym (ap (or_file_told q) h))

pub none_found : {X : Type 0} (s : ℕ) (by : NumberedFile × InputSymbol → Option X) (o : Option (NumberedFile × InputSymbol)) → None ≡ option_map (told s) o → option_and_then by o ≡ None
none_found s by None h = refl
none_found s by (Some q) h = absurd (none-some (told s q) h)

-- what the symbol of a file asks for
pub symbol_follows : (link : LinkInput) (id : FileId) (s : ℕ) (file : InputFile) (x : InputSymbol) → IsSymbolIn link.groups id s → file_in link.groups id ≡ Some file → symbol_at link.groups s ≡ Some x
    → follows link (Sym s) ≡ kind_asks link.groups s id file x file.kind
symbol_follows link id s file x h at_file at_s =
    let files : Some h.file ≡ Some file = sym h.there ∙ at_file in
    let same : h.file ≡ file = cc in
    ap (λ o. option_map_or (symbol_asks link.groups s) o []) (numbered_symbol link.groups id s h x at_s) ∙ ap (λ (f : InputFile). kind_asks link.groups s id f x f.kind) same

object_kind : (k : FileKind) → is_object k ≡ true → k ≡ kind.Object
object_kind kind.Prelude h = absurd (cc)
object_kind kind.Object h = refl
object_kind kind.Dynamic h = absurd (cc)
object_kind kind.NotLoaded h = absurd (cc)
object_kind kind.SyntheticSymbols h = absurd (cc)
object_kind kind.LinkerScript h = absurd (cc)

-- what a symbol of an object asks for
pub object_follows : (link : LinkInput) (id : FileId) (s : ℕ) (file : InputFile) (x : InputSymbol) → IsSymbolIn link.groups id s → file_in link.groups id ≡ Some file → symbol_at link.groups s ≡ Some x
    → is_object file.kind ≡ true → follows link (Sym s) ≡ option_to_list (option_map (Section id) (section_of x.at))
object_follows link id s file x h at_file at_s object = symbol_follows link id s file x h at_file at_s ∙ ap (kind_asks link.groups s id file x) (object_kind file.kind object)

-- symbols and sections are few enough for their numbers
pub symbols_few : (link : LinkInput) → IsWellFormed link → symbol_count (all_files link.groups) < 2 ^ 32
unfolding counted limit_of
symbols_few link wf =
    let few : symbol_count (all_files link.groups) ≤ 16777216 = wf.within limited.Symbols in
    omega arith

pub inputs_few : (link : LinkInput) → IsWellFormed link → input_count link.groups ≤ 16777216
unfolding counted limit_of
inputs_few link wf = wf.within limited.InputSections

pub sections_few : (link : LinkInput) (id : FileId) (file : InputFile) → IsWellFormed link → file_in link.groups id ≡ Some file → length file.sections < 2 ^ 32
sections_few link id file wf there = omega (arith, sections_within link.groups id file there, inputs_few link wf)

-- the symbols that relocations name have numbers below 2^32
pub relocations_few : (link : LinkInput) (id : FileId) (file : InputFile) (i : ℕ) (section : InputSection) → IsWellFormed link → file_in link.groups id ≡ Some file → slice_get file.sections i ≡ Some section
    → is_regular section.slot ≡ true → All (λ (r : Relocation). first_symbol link.groups id + r.symbol < 2 ^ 32) section.relocs
relocations_few link id file i section wf at_file at_i regular k d lt =
    let good : IsGoodInput link.plan (length file.symbols) section = inputs_are_good link id i file section wf at_file at_i (regular_kept section.slot regular) in
    let r = (good.in_relocs k (get_or section.relocs k d) (slice_get-get_or section.relocs k d lt)).1 in
    omega (arith, r, symbols_within link.groups id file at_file, symbols_few link wf)

pub relocations_from : (link : LinkInput) (id : FileId) (file : InputFile) (i : ℕ) (section : InputSection) (first : ℕ) (relocs : List Relocation) → IsWellFormed link → file_in link.groups id ≡ Some file
    → slice_get file.sections i ≡ Some section → is_regular section.slot ≡ true → first ≡ first_symbol link.groups id → relocs ≡ section.relocs
    → All (λ (r : Relocation). first + r.symbol < 2 ^ 32) relocs
relocations_from link id file i section first relocs wf at_file at_i regular same_first same_relocs =
    let P : List Relocation → Type 0 = All (λ (r : Relocation). first + r.symbol < 2 ^ 32) in
    let here : P section.relocs = λ k d lt. omega (arith, same_first, relocations_few link id file i section wf at_file at_i regular k d lt) in
    subst P (sym same_relocs) here

-- a section that is a unit has a file
pub unit_file : (groups : List (List InputFile)) (id : FileId) (i : ℕ) → IsUnit groups (Sec id i) → (file : InputFile) × (file_in groups id ≡ Some file)
unit_file groups id i h = elim (append_at (map Sym (range_with_len 0 (symbols_in_all groups))) (map unit_of (all_inputs groups)) (unit_number groups (Sec id i)) (Sec id i) h) [
  | inl a ↦ let at = map_at Sym (range_with_len 0 (symbols_in_all groups)) (unit_number groups (Sec id i)) (Sec id i) a in absurd (cc (at.2))
  | inr b ↦
      let at = map_at unit_of (all_inputs groups) b.0 (Sec id i) b.2 in
      let from = file_of_input groups b.0 at.0 at.1 in
      let same : Sec at.0.file at.0.index ≡ Sec id i = at.2 in
      let same_id : at.0.file ≡ id = cc in
      (from.0, ap (file_in groups) (sym same_id) ∙ from.1)
]

-- the number of a file's first section is no more than there are sections
pub first_within : (groups : List (List InputFile)) (id : FileId) → first_input groups id ≤ input_count groups
first_within groups id = sum_by-take-le sections_in (all_files groups) (file_number groups id)

-- units are few enough for their numbers
pub units_few : (link : LinkInput) → IsWellFormed link → length (all_units link.groups) < 2 ^ 32
unfolding counted limit_of
units_few link wf =
    let symbols : symbol_count (all_files link.groups) ≤ 16777216 = wf.within limited.Symbols in
    let count : length (all_inputs link.groups) ≡ input_count link.groups = inputs_follow.count link.groups in
    omega (arith, units_count link.groups, inputs_few link wf)

-- a unit's number is below their count
pub unit_within : (groups : List (List InputFile)) (u : LinkUnit) → IsUnit groups u → unit_number groups u < length (all_units groups)
unit_within groups u h = slice_get_within (all_units groups) (unit_number groups u) u h

pub is_there : (groups : List (List InputFile)) (id : FileId) (file : InputFile) → file_in groups id ≡ Some file → IsSome (file_in groups id)
is_there groups id file h = ap is_some h

-- the input section at a place, by the file of each
pub record IsInputHere (link : LinkInput) (place : ℕ) (file : FileId) : Type 0 where
  pub first : first_input link.groups file ≤ place
  pub few : place < 2 ^ 32
  pub there : IsSome (file_in link.groups file)
  pub unit : unit_at link.groups (symbols_in_all link.groups + place) ≡ Some (Sec file (place - first_input link.groups file))

pub input_here : (link : LinkInput) (files : List FileId) (place : ℕ) (file : FileId) → IsWellFormed link → files ≡ map (λ x. x.file) (all_inputs link.groups) → slice_get files place ≡ Some file
    → IsInputHere link place file
input_here link files place file wf all h =
    let at = map_at (λ (x : Input). x.file) (all_inputs link.groups) place file (ap (λ fs. slice_get fs place) (sym all) ∙ h) in
    let x : Input = at.0 in
    let from = file_of_input link.groups place x at.1 in
    let same : x.file ≡ file = at.2 in
    let first : first_input link.groups x.file ≡ first_input link.groups file = ap (first_input link.groups) same in
    let number : first_input link.groups x.file + x.index ≡ place = input_place link.groups place x at.1 in
    let index : x.index ≡ place - first_input link.groups file = omega (arith, first, number) in
    let within = slice_get_within (all_inputs link.groups) place x at.1 in
    let count : length (all_inputs link.groups) ≡ input_count link.groups = inputs_follow.count link.groups in
    record {
      first = omega (arith, first, number);
      few = omega (arith, within, count, inputs_few link wf);
      there = is_there link.groups file from.0 (ap (file_in link.groups) (sym same) ∙ from.1);
      unit = input_unit link.groups place x at.1 ∙ ap (λ id. Some (Sec id x.index)) same ∙ ap (λ i. Some (Sec file i)) index;
    }

-- past the last input section there is no unit
pub no_unit : (link : LinkInput) (files : List FileId) (n : ℕ) → files ≡ map (λ x. x.file) (all_inputs link.groups) → symbols_in_all link.groups + length files ≤ n → unit_at link.groups n ≡ None
no_unit link files n all past =
    slice_get_past (all_units link.groups) n (omega (arith, units_count link.groups, ap length all, length-map (all_inputs link.groups) (λ (x : Input). x.file)))

pub input_read : (link : LinkInput) (files : List FileId) (place : ℕ) (file : FileId) → IsWellFormed link → files ≡ map (λ x. x.file) (all_inputs link.groups)
    → true ≡ ltb place (length files) → file ≡ get_or files place file → IsInputHere link place file
input_read link files place file wf all within read =
    input_here link files place file wf all (slice_get-get_or files place file (ltb-true place (length files) (sym within)) ∙ ap Some (sym read))
