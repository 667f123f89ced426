-- Files and symbols by their numbers.
use Rattle.std.specs.List.{slice_get}
use Rattle.std.specs.Option.{IsSome}
use Rattle.std.proofs.Common.{◌≡◌, ℕ, ◌+◌, ◌-◌, ◌^◌, ◌<◌, ◌≤◌, List, Some, length, take, sum_by, sym, ap, ◌∙◌, ⊎_elim, option_and_then, subst, arith}
use Rattle.std.proofs.lemmas.Bool.{cases_order}
use Rattle.std.proofs.lemmas.List.{take-take}
use Rattle.std.proofs.lemmas.List.Sums.{sum_by_more, sum_by_more_le, sum_by-take-le}
use Rattle.std.proofs.lemmas.Option.{get_or_from_slice_get, slice_get_within}
use Rattle.lk_link.specs.declared.file.InputFile.{InputFile}
use Rattle.lk_link.specs.declared.ids.FileId.{FileId}
use Rattle.lk_link.specs.Ends.{AreEnds, IsPlaceOf, start_of}
use Rattle.lk_link.specs.Files.{file_in}
use Rattle.lk_link.specs.FileIndex.{IsFileIndex}
use Rattle.lk_link.specs.Symbols.{all_files, symbols_in, symbol_at, symbol_count, symbols_before, file_number, first_symbol, IsSymbolIn, IsSymbolOf, FilesHaveNumbers, SymbolsFollow, SymbolsHaveFiles}
use Rattle.lk_link.proofs.Elements.{at_index}
use Rattle.lk_link.proofs.EndsLemmas.{begins, item_of}
use Rattle.lk_link.proofs.Places.{file_place, value_of}

-- ---- files

-- a file from its place
file_from : (groups : List (List InputFile)) (id : FileId) (files : List InputFile) (file : InputFile) → slice_get groups id.group ≡ Some files → slice_get files id.file ≡ Some file → file_in groups id ≡ Some file
file_from groups id files file at_g at_f = ap (λ o. option_and_then (λ fs. slice_get fs id.file) o) at_g ∙ at_f

pub files_have_numbers : FilesHaveNumbers
files_have_numbers groups id file h =
    let parts = file_place groups id file h in
    item_of (λ files. files) groups id.group id.file parts.0 parts.1 (slice_get_within parts.0 id.file file parts.2) ∙ parts.2

-- how many files there are up to the end of a group
after_group : (groups : List (List InputFile)) (g : ℕ) (files : List InputFile) → slice_get groups g ≡ Some files → sum_by length (take (g + 1) groups) ≡ sum_by length (take g groups) + length files
after_group groups g files at_g = sum_by_more length groups g files (slice_get_within groups g files at_g) ∙ ap (λ fs. sum_by length (take g groups) + length fs) (get_or_from_slice_get groups g files files at_g)

-- ---- symbols

-- how many symbols there are up to the end of a file
after_file : (files : List InputFile) (k : ℕ) (file : InputFile) → slice_get files k ≡ Some file → symbols_before (k + 1) files ≡ symbols_before k files + length file.symbols
after_file files k file at_k = sum_by_more symbols_in files k file (slice_get_within files k file at_k) ∙ ap (λ f. symbols_before k files + symbols_in f) (get_or_from_slice_get files k file file at_k)

pub symbols_follow : SymbolsFollow
symbols_follow groups id file i h lt = item_of (λ f. f.symbols) (all_files groups) (file_number groups id) i file (files_have_numbers groups id file h) lt

-- the symbols of a file are among all
pub symbols_within : (groups : List (List InputFile)) (id : FileId) (file : InputFile) → file_in groups id ≡ Some file → first_symbol groups id + length file.symbols ≤ symbol_count (all_files groups)
symbols_within groups id file h =
    let at_k = files_have_numbers groups id file h in
    let sum = sum_by_more_le symbols_in (all_files groups) (file_number groups id) file (slice_get_within (all_files groups) (file_number groups id) file at_k) in
    let same = ap symbols_in (get_or_from_slice_get (all_files groups) (file_number groups id) file file at_k) in
    omega (arith, sum, same)

-- ---- one place only

rises : {X : Type 0} (size : X → ℕ) (xs : List X) (k l : ℕ) → k ≤ l → sum_by size (take k xs) ≤ sum_by size (take l xs)
rises size xs k l le = rw (ap (sum_by size) (take-take k l xs le)) at (sum_by-take-le size (take l xs) k)

-- a number lies in one list only
one_list : {X : Type 0} (size : X → ℕ) (xs : List X) (k l n : ℕ) → sum_by size (take k xs) ≤ n → n < sum_by size (take (k + 1) xs) → sum_by size (take l xs) ≤ n → n < sum_by size (take (l + 1) xs) → k ≡ l
one_list size xs k l n from_k below_k from_l below_l =
    ⊎_elim (λ same. same)
    (⊎_elim
    (λ lt. let up = rises size xs (k + 1) l (omega arith) in absurd (omega arith))
    (λ gt. let up = rises size xs (l + 1) k (omega arith) in absurd (omega arith)))
    (cases_order k l)

same_file : (groups : List (List InputFile)) (a b : FileId) (file other : InputFile) → file_in groups a ≡ Some file → file_in groups b ≡ Some other → file_number groups a ≡ file_number groups b → a ≡ b
same_file groups a b file other at_a at_b e =
    let in_a = file_place groups a file at_a in
    let in_b = file_place groups b other at_b in
    let lt_a = slice_get_within in_a.0 a.file file in_a.2 in
    let lt_b = slice_get_within in_b.0 b.file other in_b.2 in
    let to_a = after_group groups a.group in_a.0 in_a.1 in
    let to_b = after_group groups b.group in_b.0 in_b.1 in
    let same : a.group ≡ b.group = one_list length groups a.group b.group (file_number groups a) (omega arith) (omega arith) (omega arith) (omega arith) in
    let starts = ap (λ g. sum_by length (take g groups)) same in
    let place : a.file ≡ b.file = omega arith in
    λ i. record { group = same i; file = place i }

pub symbols_have_files : SymbolsHaveFiles
symbols_have_files = record {
  at = λ groups id s h.
      let at_k = files_have_numbers groups id h.file h.there in
      let end = after_file (all_files groups) (file_number groups id) h.file at_k in
      let from = h.symbol.from in
      let below = h.symbol.below in
      let lt : s - first_symbol groups id < length h.file.symbols = omega arith in
      let place : first_symbol groups id + (s - first_symbol groups id) ≡ s = omega arith in
      (from, lt, ap (symbol_at groups) (sym place) ∙ symbols_follow groups id h.file (s - first_symbol groups id) h.there lt);
  once = λ groups a b s h k.
      same_file groups a b h.file k.file h.there k.there (one_list symbols_in (all_files groups) (file_number groups a) (file_number groups b) s h.symbol.from h.symbol.below k.symbol.from k.symbol.below);
}

-- ---- the index

-- the places of a symbol among files, and of its file among groups
pub file_at_places : (groups : List (List InputFile)) (file_ends symbol_ends : List ℕ) (s k i g f : ℕ) → AreEnds (λ files. length files) file_ends groups → AreEnds symbols_in symbol_ends (all_files groups) → IsPlaceOf symbol_ends s k i → IsPlaceOf file_ends k g f → IsSymbolIn groups (record { group = g; file = f }) s
file_at_places groups file_ends symbol_ends s k i g f by_group by_file at_k at_g =
    let there_g = at_g.there in
    let offset_g = at_g.offset in
    let below_g = at_g.below in
    let group = at_index groups g (omega (arith, by_group.count)) in
    let start_g = begins (λ files. length files) file_ends groups g by_group (omega (arith, by_group.count)) in
    let end_g = by_group.each g (omega (arith, by_group.count)) in
    let more_g = after_group groups g group.0 group.1 in
    let number : sum_by length (take g groups) + f ≡ k = omega arith in
    let file = at_index group.0 f (omega arith) in
    let there = file_from groups (record { group = g; file = f }) group.0 file.0 group.1 file.1 in
    let there_k = at_k.there in
    let offset_k = at_k.offset in
    let below_k = at_k.below in
    let inside : k < length (all_files groups) = omega (arith, by_file.count) in
    let start_k = begins symbols_in symbol_ends (all_files groups) k by_file (omega arith) in
    let end_k = by_file.each k inside in
    let symbol : IsSymbolOf (all_files groups) k s = record { there = inside; from = omega arith; below = omega arith } in
    record { file = file.0; there = there; symbol = subst (λ n. IsSymbolOf (all_files groups) n s) (sym number) symbol }

-- the place of a file in its group is below the count of all files
pub place_below : (groups : List (List InputFile)) (file_ends : List ℕ) (k g f : ℕ) → AreEnds (λ files. length files) file_ends groups → IsPlaceOf file_ends k g f → f < sum_by length groups
place_below groups file_ends k g f h at_g =
    let offset = at_g.offset in
    let below = at_g.below in
    let there = at_g.there in
    let end = h.each g (omega (arith, h.count)) in
    let all = sum_by-take-le (λ (files : List InputFile). length files) groups (g + 1) in
    omega arith

-- the number of a file is that of its place
pub record HasNumber (groups : List (List InputFile)) (file_ends : List ℕ) (id : FileId) : Type 0 where
  pub number : start_of file_ends id.group + id.file ≡ file_number groups id
  pub within : file_number groups id < length (all_files groups)

pub number_at : (groups : List (List InputFile)) (file_ends symbol_ends section_ends : List ℕ) (id : FileId) → IsFileIndex groups file_ends symbol_ends section_ends → length symbol_ends < 2 ^ 63 → IsSome (file_in groups id) → HasNumber groups file_ends id
number_at groups file_ends symbol_ends section_ends id h few there =
    let file = value_of (file_in groups id) there in
    let parts = file_place groups id file.0 file.1 in
    let inside = slice_get_within groups id.group parts.0 parts.1 in
    let start = begins (λ files. length files) file_ends groups id.group h.by_group (omega arith) in
    let count = h.by_file.count in
    let number = slice_get_within (all_files groups) (file_number groups id) file.0 (files_have_numbers groups id file.0 file.1) in
    record { number = omega arith; within = number }

-- the range of a file's symbols
pub range_at : (groups : List (List InputFile)) (file_ends symbol_ends section_ends : List ℕ) (id : FileId) (file : InputFile) → IsFileIndex groups file_ends symbol_ends section_ends → symbol_count (all_files groups) < 2 ^ 32 → file_in groups id ≡ Some file → (start_of symbol_ends (file_number groups id) ≡ first_symbol groups id) × (first_symbol groups id + length file.symbols ≤ symbol_count (all_files groups))
range_at groups file_ends symbol_ends section_ends id file h few at =
    let inside = slice_get_within (all_files groups) (file_number groups id) file (files_have_numbers groups id file at) in
    let start = begins symbols_in symbol_ends (all_files groups) (file_number groups id) h.by_file (omega arith) in
    let within = symbols_within groups id file at in
    (omega arith, within)
