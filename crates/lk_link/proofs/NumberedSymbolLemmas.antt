-- Symbols by their numbers, each with its file.
use Rattle.std.proofs.Common.{◌≡◌, ℕ, ◌+◌, ◌<◌, ◌≤◌, List, length, take, Option, Some, None, sum_by, option_map, sym, ap, ◌∙◌, arith}
use Rattle.std.specs.List.{slice_get}
use Rattle.std.proofs.lemmas.List.{length-map}
use Rattle.std.proofs.lemmas.List.Concat.{length-flat_map}
use Rattle.std.proofs.lemmas.Option.{slice_get_past, slice_get_within}
use Rattle.lk_link.specs.declared.file.InputFile.{InputFile}
use Rattle.lk_link.specs.declared.ids.FileId.{FileId}
use Rattle.lk_link.specs.declared.symbol.InputSymbol.{InputSymbol}
use Rattle.lk_link.specs.Ends.{AreEnds, IsPlaceOf}
use Rattle.lk_link.specs.Files.{file_in}
use Rattle.lk_link.specs.Inputs.{NumberedFile, numbered_files}
use Rattle.lk_link.specs.NumberedSymbols.{IsSymbolAt, known_symbol, numbered_symbols, symbols_of}
use Rattle.lk_link.specs.Symbols.{all_files, file_number, first_symbol, symbol_count, symbols_before, symbols_in}
use Rattle.lk_link.proofs.Elements.{at_index, map_in}
use Rattle.lk_link.proofs.EndsLemmas.{begins, item_of}
use Rattle.lk_link.proofs.InputLemmas.{file_stands, files_from_are, sum_mapped, sum_taken}
use Rattle.lk_link.proofs.SymbolLemmas.{file_at_places, symbols_have_files}

many : (f : NumberedFile) → length (symbols_of f) ≡ symbols_in f.file
many f = length-map f.file.symbols (λ s. (f, s))

-- as many as all files have
pub numbered_count : (groups : List (List InputFile)) → length (numbered_symbols groups) ≡ symbol_count (all_files groups)
numbered_count groups =
    length-flat_map symbols_of (numbered_files groups)
    ∙ sum_mapped (λ f. length (symbols_of f)) symbols_in (λ f. f.file) many (numbered_files groups)
    ∙ ap (sum_by symbols_in) (files_from_are 0 groups)

-- those before a file
before : (groups : List (List InputFile)) (k : ℕ) → sum_by (λ f. length (symbols_of f)) (take k (numbered_files groups)) ≡ symbols_before k (all_files groups)
before groups k =
    sum_taken (λ f. length (symbols_of f)) symbols_in (λ f. f.file) many k (numbered_files groups)
    ∙ ap (λ fs. symbols_before k fs) (files_from_are 0 groups)

-- the symbol of a file stands under its number, with the file
pub stands : (groups : List (List InputFile)) (id : FileId) (file : InputFile) (i : ℕ) (x : InputSymbol) → file_in groups id ≡ Some file
    → slice_get file.symbols i ≡ Some x → slice_get (numbered_symbols groups) (first_symbol groups id + i) ≡ Some (record { id = id; file = file }, x)
stands groups id file i x at_file at_i =
    let f : NumberedFile = record { id = id; file = file } in
    let pair : InputSymbol → NumberedFile × InputSymbol = λ s. (f, s) in
    let k : ℕ = file_number groups id in
    let lt : i < length (symbols_of f) = omega (arith, many f, slice_get_within file.symbols i x at_i) in
    let place : first_symbol groups id + i ≡ sum_by (λ f. length (symbols_of f)) (take k (numbered_files groups)) + i = omega (arith, before groups k) in
    ap (slice_get (numbered_symbols groups)) place
    ∙ item_of symbols_of (numbered_files groups) k i f (file_stands groups id file at_file) lt
    ∙ map_in pair file.symbols i x at_i

-- so it is known with its number and its file
pub known : (groups : List (List InputFile)) (id : FileId) (file : InputFile) (i s : ℕ) (x : InputSymbol) → file_in groups id ≡ Some file
    → slice_get file.symbols i ≡ Some x → IsSymbolAt groups id i s → known_symbol groups s ≡ Some (s, record { id = id; file = file }, x)
known groups id file i s x at_file at_i h =
    let told : Option (NumberedFile × InputSymbol) → Option (ℕ × NumberedFile × InputSymbol) = λ o. option_map (λ q. (s, q.0, q.1)) o in
    ap (λ n. told (slice_get (numbered_symbols groups) n)) (sym h.place) ∙ ap told (stands groups id file i x at_file at_i)

-- past the last symbol none is
pub unknown : (groups : List (List InputFile)) (s : ℕ) → symbol_count (all_files groups) ≤ s → known_symbol groups s ≡ None
unknown groups s past =
    let told : Option (NumberedFile × InputSymbol) → Option (ℕ × NumberedFile × InputSymbol) = λ o. option_map (λ q. (s, q.0, q.1)) o in
    ap told (slice_get_past (numbered_symbols groups) s (omega (arith, numbered_count groups)))

-- there is a symbol at its place
pub placed : (groups : List (List InputFile)) (id : FileId) (i s : ℕ) (h : IsSymbolAt groups id i s) → (x : InputSymbol) × (slice_get h.inside.file.symbols i ≡ Some x)
placed groups id i s h =
    let at = symbols_have_files.at groups id s h.inside in
    at_index h.inside.file.symbols i (omega (arith, at.0, at.1, h.place))

-- the places of a symbol among files, and of its file among groups, are its place in the file
pub at_places : (groups : List (List InputFile)) (file_ends symbol_ends : List ℕ) (s k i g f : ℕ) → AreEnds (λ files. length files) file_ends groups
    → AreEnds symbols_in symbol_ends (all_files groups) → IsPlaceOf symbol_ends s k i → IsPlaceOf file_ends k g f
    → IsSymbolAt groups (record { group = g; file = f }) i s
at_places groups file_ends symbol_ends s k i g f by_group by_file at_k at_g =
    let there_g = at_g.there in
    let offset_g = at_g.offset in
    let below_g = at_g.below in
    let start_g = begins (λ files. length files) file_ends groups g by_group (omega (arith, by_group.count)) in
    let end_g = by_group.each g (omega (arith, by_group.count)) in
    let number : sum_by length (take g groups) + f ≡ k = omega arith in
    let there_k = at_k.there in
    let offset_k = at_k.offset in
    let below_k = at_k.below in
    let start_k = begins symbols_in symbol_ends (all_files groups) k by_file (omega (arith, by_file.count)) in
    let end_k = by_file.each k (omega (arith, by_file.count)) in
    let first : symbols_before (sum_by length (take g groups) + f) (all_files groups) ≡ symbols_before k (all_files groups)
    = ap (λ n. symbols_before n (all_files groups)) number in
    record {
      inside = file_at_places groups file_ends symbol_ends s k i g f by_group by_file at_k at_g;
      place = omega (arith, first);
    }
