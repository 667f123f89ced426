-- The units of a link are those of its files.
use Rattle.std.proofs.Common.{◌≡◌, ℕ, ◌+◌, ◌<◌, List, [], length, map, take, Option, None, Some, option_and_then, refl, sym, ap, ◌∙◌, subst, arith, inl, inr, zero-add}
use Rattle.std.specs.List.{enumerate_from, flat_map, range_with_len, slice_get}
use Rattle.std.specs.Option.{option_map_or}
use Rattle.std.proofs.lemmas.List.{length-map}
use Rattle.std.proofs.lemmas.List.Concat.{length-flat_map}
use Rattle.std.proofs.lemmas.List.FromFn.{get_or-range_with_len, length-range_with_len}
use Rattle.std.proofs.lemmas.Option.{get_or_from_slice_get, slice_get-get_or, slice_get_within}
use Rattle.lk_link.specs.declared.file.InputFile.{InputFile}
use Rattle.lk_link.specs.Files.{file_in}
use Rattle.lk_link.specs.Inputs.{NumberedFile, all_inputs, group_files, numbered_file, numbered_files}
use Rattle.lk_link.specs.Symbols.{all_files, file_number, first_symbol, symbols_before, symbols_in}
use Rattle.lk_link.proofs.Elements.{append_at, append_left, append_right, at_index, flat_map_at, map_at, map_in, numbered_at}
use Rattle.lk_link.proofs.InputLemmas.{file_stands, files_from_are, numbered_get, sum_taken}
use Rattle.lk_link.proofs.Places.{file_place}
use Rattle.lk_link.proofs.SymbolLemmas.{symbols_within}
use Rattle.lk_reach.specs.declared.units.Unit.{Unit as LinkUnit}
use Rattle.lk_reach.specs.declared.units.Unit.TheVariants.{Sec, Sym}
use Rattle.lk_reach.specs.Marks.{IsUnit, symbols_in_all, unit_at}
use Rattle.lk_reach.specs.Units.{numbered_symbols, symbols_of, unit_of}
use Rattle.lk_reach.proofs.Numbered.{file_at, file_of_input}
use Rattle.lk_reach.proofs.SymbolNumbers.{numbered_count}
use Rattle.lk_reach.proofs.UnitLemmas.{section_unit, symbol_unit}
use Rattle.lk_slot_link.specs.LinkGraphs.{files_of_group}
use Rattle.lk_workers.specs.Closings.{file_units, section_units, symbol_units}

-- ---- numbers that follow each other

pub number_at : (a n i : ℕ) → i < n → slice_get (range_with_len a n) i ≡ Some (a + i)
number_at a n i lt = slice_get-get_or (range_with_len a n) i 0 (omega (arith, lt, length-range_with_len a n)) ∙ ap Some (get_or-range_with_len a n i 0 lt)

number_is : (a n k i : ℕ) → slice_get (range_with_len a n) k ≡ Some i → (k < n) × (i ≡ a + k)
number_is a n k i h =
    let lt : k < n = omega (arith, slice_get_within (range_with_len a n) k i h, length-range_with_len a n) in
    (lt, sym (get_or_from_slice_get (range_with_len a n) k i i h) ∙ get_or-range_with_len a n k i lt)

mapped_at : {X : Type 0} (f : ℕ → X) (a n i : ℕ) → i < n → slice_get (map f (range_with_len a n)) i ≡ Some (f (a + i))
mapped_at f a n i lt = map_in f (range_with_len a n) i (a + i) (number_at a n i lt)

-- ---- files of groups

pub file_here : (groups : List (List InputFile)) (f : NumberedFile) → file_in groups f.id ≡ Some f.file → (f.id.group < length groups) × (slice_get (files_of_group groups f.id.group) f.id.file ≡ Some f)
file_here groups f there =
    let g : ℕ = f.id.group in
    let place = file_place groups f.id f.file there in (
      slice_get_within groups g place.0 place.1,
      ap (λ o. slice_get (option_map_or (group_files g 0) o []) f.id.file) place.1
          ∙ map_in (numbered_file g) (enumerate_from 0 place.0) f.id.file (0 + f.id.file, f.file) (numbered_get 0 place.0 f.id.file f.file place.2)
          ∙ ap (λ (n : ℕ). Some (numbered_file g (n, f.file))) (zero-add f.id.file),
    )

file_of : (groups : List (List InputFile)) (g k : ℕ) (f : NumberedFile) (o : Option (List InputFile)) → slice_get groups g ≡ o → slice_get (option_map_or (group_files g 0) o []) k ≡ Some f → file_in groups f.id ≡ Some f.file
file_of groups g k f None e h = absurd (cc)
file_of groups g k f (Some files) e h =
    let file = map_at (numbered_file g) (enumerate_from 0 files) k f h in
    let index = numbered_at 0 files k file.0 file.1 in
    let in_group : slice_get files file.0.0 ≡ Some file.0.1 = ap (slice_get files) (omega (arith, index.0)) ∙ index.1 in
    subst (λ (x : NumberedFile). file_in groups x.id ≡ Some x.file) file.2 (ap (option_and_then (λ fs. slice_get fs file.0.0)) e ∙ in_group)

pub file_there : (groups : List (List InputFile)) (g k : ℕ) (f : NumberedFile) → slice_get (files_of_group groups g) k ≡ Some f → file_in groups f.id ≡ Some f.file
file_there groups g k f h = file_of groups g k f (slice_get groups g) refl h

-- ---- units of files

-- a file's units are the link's
pub unit_there : (groups : List (List InputFile)) (f : NumberedFile) (k : ℕ) (unit : LinkUnit) → file_in groups f.id ≡ Some f.file → slice_get (file_units groups f) k ≡ Some unit → IsUnit groups unit
unit_there groups f k unit there h = elim (append_at (symbol_units groups f) (section_units f) k unit h) [
  | inl a ↦
      let at = map_at Sym (range_with_len (first_symbol groups f.id) (length f.file.symbols)) k unit a in
      let number = number_is (first_symbol groups f.id) (length f.file.symbols) k at.0 at.1 in
      let own : IsUnit groups (Sym at.0) = symbol_unit groups at.0 (omega (arith, number.0, number.1, symbols_within groups f.id f.file there)) in
      subst (IsUnit groups) at.2 own
  | inr b ↦
      let at = map_at (Sec f.id) (range_with_len 0 (length f.file.sections)) b.0 unit b.2 in
      let number = number_is 0 (length f.file.sections) b.0 at.0 at.1 in
      let section = at_index f.file.sections at.0 (omega (arith, number.0, number.1)) in
      subst (IsUnit groups) at.2 (section_unit groups f.id f.file at.0 section.0 there section.1)
]

-- a unit is one of a file that is there
pub record IsOfFile (groups : List (List InputFile)) (unit : LinkUnit) : Type 0 where
  pub file : NumberedFile
  pub there : file_in groups file.id ≡ Some file.file
  pub place : ℕ
  pub among : slice_get (file_units groups file) place ≡ Some unit

many : (f : NumberedFile) → length (symbols_of f) ≡ symbols_in f.file
many f = length-map f.file.symbols (λ s. (f, s))

symbol_of_file : (groups : List (List InputFile)) (s : ℕ) → s < symbols_in_all groups → IsOfFile groups (Sym s)
symbol_of_file groups s lt =
    let q = at_index (numbered_symbols groups) s (omega (arith, lt, numbered_count groups)) in
    let at = flat_map_at symbols_of (numbered_files groups) s q.0 q.1 in
    let f : NumberedFile = at.from in
    let first : ℕ = first_symbol groups f.id in
    let here = file_at groups at.outer f at.there in
    let number : at.outer ≡ file_number groups f.id = here.place ∙ sym (file_at groups (file_number groups f.id) f (file_stands groups f.id f.file here.there)).place in
    let before : length (flat_map symbols_of (take at.outer (numbered_files groups))) ≡ first
    = length-flat_map symbols_of (take at.outer (numbered_files groups))
    ∙ sum_taken (λ x. length (symbols_of x)) symbols_in (λ x. x.file) many at.outer (numbered_files groups)
    ∙ ap (λ fs. symbols_before at.outer fs) (files_from_are 0 groups) ∙ ap (λ n. symbols_before n (all_files groups)) number in
    let within : at.inner < length f.file.symbols = omega (arith, slice_get_within (symbols_of f) at.inner q.0 at.gives, many f) in
    let among : slice_get (symbol_units groups f) at.inner ≡ Some (Sym s)
    = mapped_at Sym first (length f.file.symbols) at.inner within ∙ ap (λ n. Some (Sym n)) (omega (arith, at.place, before)) in
    record { file = f; there = here.there; place = at.inner; among = append_left (symbol_units groups f) (section_units f) at.inner (Sym s) among }

pub covered : (groups : List (List InputFile)) (n : ℕ) (unit : LinkUnit) → unit_at groups n ≡ Some unit → IsOfFile groups unit
covered groups n unit h =
    let numbers : List ℕ = range_with_len 0 (symbols_in_all groups) in
    elim (append_at (map Sym numbers) (map unit_of (all_inputs groups)) n unit h) [
      | inl a ↦
          let at = map_at Sym numbers n unit a in
          let number = number_is 0 (symbols_in_all groups) n at.0 at.1 in
          subst (IsOfFile groups) at.2 (symbol_of_file groups at.0 (omega (arith, number.0, number.1)))
      | inr b ↦
          let at = map_at unit_of (all_inputs groups) b.0 unit b.2 in
          let x = at.0 in
          let from = file_of_input groups b.0 x at.1 in
          let f : NumberedFile = record { id = x.file; file = from.0 } in
          let within = slice_get_within from.0.sections x.index x.section from.2 in
          let among : slice_get (section_units f) x.index ≡ Some unit = mapped_at (Sec x.file) 0 (length from.0.sections) x.index within ∙ ap (λ i. Some (Sec x.file i)) (zero-add x.index) ∙ ap Some at.2 in
          record {
            file = f;
            there = from.1;
            place = length (symbol_units groups f) + x.index;
            among = append_right (symbol_units groups f) (section_units f) x.index (length (symbol_units groups f) + x.index) unit refl among;
          }
    ]
