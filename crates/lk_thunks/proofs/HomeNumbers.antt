-- Where symbols are at home, by numbers.
use Rattle.std.proofs.Common.{◌≡◌, ◌++◌, ◌∷◌, ◌∙◌, ◌+◌, ◌<◌, ◌^◌, arith, IsSome, ℕ, zero, suc, Bool, true, false, if◌then◌else◌, not, ◌&&◌, List, [], map, Option, Some, None, refl, sym, ap, option_map}
use Rattle.std.specs.Prelude.{option_and_then, slice_get, slice_index}
use Rattle.std.specs.List.{flat_map}
use Rattle.std.proofs.lemmas.List.{map-append}
use Rattle.std.proofs.lemmas.List.Concat.{length-flat_map}
use Rattle.std.proofs.lemmas.Option.{slice_get-map, slice_get_within}
use Rattle.lk_link.specs.declared.file.InputFile.{InputFile}
use Rattle.lk_link.specs.declared.ids.FileId.{FileId}
use Rattle.lk_link.specs.declared.link.LinkInput.{LinkInput}
use Rattle.lk_link.specs.declared.symbol.InputSymbol.{InputSymbol}
use Rattle.lk_link.specs.Files.{file_in}
use Rattle.lk_link.specs.Inputs.{NumberedFile}
use Rattle.lk_link.specs.NumberedSymbols.{numbered_symbols, symbols_of}
use Rattle.lk_link.specs.Symbols.{file_number}
use Rattle.lk_live.specs.PrimaryMarks.{is_primary_symbol}
use Rattle.lk_link.specs.Symbols.{all_files}
use Rattle.lk_link.specs.WellFormed.{IsWellFormed}
use Rattle.lk_link.proofs.Places.{value_of}
use Rattle.lk_link.proofs.SymbolLemmas.{files_have_numbers}
use Rattle.lk_reach.proofs.Numbered.{are_numbered}
use Rattle.lk_reach.proofs.UnitLemmas.{symbol_stands}
use Rattle.lk_thunks.specs.Homes.{home_number, home_numbers, range_told}
use Rattle.lk_thunks.specs.ThunkSets.{Planning, home_in, home_of, is_indirect, range_of}

abbrev told : LinkInput → NumberedFile × InputSymbol → ℕ
told link q = home_number link q.0 q.1

paired : (link : LinkInput) (f : NumberedFile) (xs : List InputSymbol) → map (home_number link f) xs ≡ map (told link) (map (λ s. (f, s)) xs)
paired link f [] = refl
paired link f (x ∷ xs) = ap (λ (ys : List ℕ). home_number link f x ∷ ys) (paired link f xs)

-- file by file, and over all numbered symbols
pub homes_whole : (link : LinkInput) (fs : List NumberedFile) → flat_map (λ (f : NumberedFile). map (home_number link f) f.file.symbols) fs ≡ map (λ q. home_number link q.0 q.1) (flat_map symbols_of fs)
homes_whole link [] = refl
homes_whole link (f ∷ fs) =
    ap (λ xs. map (home_number link f) f.file.symbols ++ xs) (homes_whole link fs)
    ∙ ap (λ xs. xs ++ map (told link) (flat_map symbols_of fs)) (paired link f f.file.symbols)
    ∙ sym (map-append (told link) (symbols_of f) (flat_map symbols_of fs))

-- the range of a file that is there
there_of : (by : Planning) (f : NumberedFile) → file_in by.link.groups f.id ≡ Some f.file → range_of by f.id ≡ slice_get by.ranges (file_number by.link.groups f.id)
there_of by f at = ap (option_and_then (λ _. slice_get by.ranges (file_number by.link.groups f.id))) at

-- by whether the symbol is in the primary part, and isn't indirect
by_marks : (by : Planning) (d : ℕ) (f : NumberedFile) (x : InputSymbol) (primary indirect : Bool) → range_of by f.id ≡ slice_get by.ranges (file_number by.link.groups f.id)
    → (if primary && not indirect then range_of by f.id else None)
    ≡ (if indirect then None else range_told by.ranges (if primary then suc (file_number by.link.groups f.id) else 0))
by_marks by d f x true true at = refl
by_marks by d f x true false at = at
by_marks by d f x false true at = refl
by_marks by d f x false false at = refl

none_either : (b : Bool) → ◌≡◌ {A = Option (FileId × ℕ × ℕ)} None (if b then None else None)
none_either true = refl
none_either false = refl

-- the home of a symbol is found by its number
pub home_found : (by : Planning) (d : ℕ) → home_of by d ≡ (if is_indirect by.live d then None else option_and_then (range_told by.ranges) (slice_get (home_numbers by.link) d))
home_found by d = by_get (slice_get (numbered_symbols by.link.groups) d) refl
    ∙ ap (λ (o : Option ℕ). if is_indirect by.live d then None else option_and_then (range_told by.ranges) o) (sym (slice_get-map (told by.link) (numbered_symbols by.link.groups) d))
  where
    by_get : (o : Option (NumberedFile × InputSymbol)) → slice_get (numbered_symbols by.link.groups) d ≡ o
        → option_and_then (home_in by) (option_map (λ q. (d, q.0, q.1)) o)
        ≡ (if is_indirect by.live d then None else option_and_then (range_told by.ranges) (option_map (told by.link) o))
    by_get None is = none_either (is_indirect by.live d)
    by_get (Some q) is = by_marks by d q.0 q.1 (is_primary_symbol by.link q.0.file q.1) (is_indirect by.live d) (there_of by q.0 (symbol_stands by.link.groups d q is).there)

-- files have numbers of 32 bits, and one more
pub numbers_few : (link : LinkInput) (id : FileId) → IsWellFormed link → IsSome (file_in link.groups id) → file_number link.groups id + 1 < 2 ^ 32
numbers_few link id good there =
    let file = value_of (file_in link.groups id) there in
    let number = slice_get_within (all_files link.groups) (file_number link.groups id) file.0 (files_have_numbers link.groups id file.0 file.1) in
    let few = (are_numbered link good).few_files in
    omega (arith, number, few, length-flat_map (λ (files : List InputFile). files) link.groups)

-- by the number at an index, or 0
told_at : (ranges : List (FileId × ℕ × ℕ)) (ns : List ℕ) (d : ℕ) → range_told ranges (slice_index ns d) ≡ option_and_then (range_told ranges) (slice_get ns d)
told_at ranges [] d = refl
told_at ranges (n ∷ ns) zero = refl
told_at ranges (n ∷ ns) (suc d) = told_at ranges ns d

-- so the range is that of the symbol's home
pub home_there : (by : Planning) (d : ℕ) (homes : List ℕ) → homes ≡ home_numbers by.link → is_indirect by.live d ≡ false → range_told by.ranges (slice_index homes d) ≡ home_of by d
home_there by d homes is plain =
    ap (λ (ns : List ℕ). range_told by.ranges (slice_index ns d)) is
    ∙ told_at by.ranges (home_numbers by.link) d
    ∙ ap (λ (b : Bool). if b then None else option_and_then (range_told by.ranges) (slice_get (home_numbers by.link) d)) (sym plain)
    ∙ sym (home_found by d)
