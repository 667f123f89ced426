-- A symbol by its number, with its file alone.
use Rattle.std.proofs.Common.{◌≡◌, ◌∙◌, ap, refl, sym, ℕ, List, [], ◌∷◌, ◌++◌, map, Option, Some, None, false}
use Rattle.std.specs.Prelude.{is_some, option_and_then, option_map, slice_get}
use Rattle.std.specs.List.{flat_map}
use Rattle.std.proofs.lemmas.List.{map-append}
use Rattle.std.proofs.lemmas.Option.{slice_get-map}
use Rattle.lk_link.specs.declared.file.InputFile.{InputFile}
use Rattle.lk_link.specs.declared.symbol.InputSymbol.{InputSymbol}
use Rattle.lk_link.specs.Inputs.{NumberedFile, numbered_files}
use Rattle.lk_link.specs.NumberedSymbols.{known_symbol, numbered_symbol, numbered_symbols, symbols_of}
use Rattle.lk_link.specs.SymbolRules.{file_symbols}
use Rattle.lk_link.specs.Symbols.{all_files}
use Rattle.lk_link.proofs.InputLemmas.{files_from_are}
use Rattle.lk_own_symbols.specs.Redirects.{is_redirect, redirect_of}

-- a symbol with its file
abbrev with_file : NumberedFile × InputSymbol → InputFile × InputSymbol
with_file q = (q.0.file, q.1)

of_file : (f : NumberedFile) (xs : List InputSymbol) → map with_file (map (λ s. (f, s)) xs) ≡ map (λ s. (f.file, s)) xs
of_file f [] = refl
of_file f (x ∷ xs) = ap (λ (ps : List (InputFile × InputSymbol)). (f.file, x) ∷ ps) (of_file f xs)

of_files : (files : List NumberedFile) → map with_file (flat_map symbols_of files) ≡ file_symbols (map (λ f. f.file) files)
of_files [] = refl
of_files (f ∷ files) =
    map-append with_file (symbols_of f) (flat_map symbols_of files)
    ∙ ap (λ (ps : List (InputFile × InputSymbol)). ps ++ map with_file (flat_map symbols_of files)) (of_file f f.file.symbols)
    ∙ ap (λ (ps : List (InputFile × InputSymbol)). map (λ s. (f.file, s)) f.file.symbols ++ ps) (of_files files)

there : (groups : List (List InputFile)) (s : ℕ) → slice_get (file_symbols (all_files groups)) s ≡ option_map with_file (numbered_symbol groups s)
there groups s =
    ap (λ (files : List InputFile). slice_get (file_symbols files) s) (sym (files_from_are 0 groups))
    ∙ ap (λ (ps : List (InputFile × InputSymbol)). slice_get ps s) (sym (of_files (numbered_files groups)))
    ∙ slice_get-map with_file (numbered_symbols groups) s

-- one that is known with its number
abbrev numbered : ℕ → NumberedFile × InputSymbol → ℕ × NumberedFile × InputSymbol
numbered s q = (s, q.0, q.1)

known_with_file : (s : ℕ) (o : Option (NumberedFile × InputSymbol)) (r : ℕ × NumberedFile × InputSymbol) → option_map (numbered s) o ≡ Some r
    → option_map with_file o ≡ Some (r.1.file, r.2)
known_with_file s None r h = absurd (cc)
known_with_file s (Some q) r h =
    let same : (s, q.0, q.1) ≡ r = cc in
    ap (λ (x : ℕ × NumberedFile × InputSymbol). Some (x.1.file, x.2)) same

unknown_with_file : (s : ℕ) (o : Option (NumberedFile × InputSymbol)) → option_map (numbered s) o ≡ None → option_map with_file o ≡ None
unknown_with_file s None h = refl
unknown_with_file s (Some q) h = absurd (cc)

-- a symbol is a redirect where it is one by its file
pub is_by_file : (groups : List (List InputFile)) (s : ℕ) (r : ℕ × NumberedFile × InputSymbol) → known_symbol groups s ≡ Some r
    → is_redirect groups s ≡ is_some (redirect_of s (r.1.file, r.2))
is_by_file groups s r h =
    ap (λ (o : Option (InputFile × InputSymbol)). is_some (option_and_then (redirect_of s) o)) (there groups s ∙ known_with_file s (numbered_symbol groups s) r h)

-- one that isn't there is none
pub is_none : (groups : List (List InputFile)) (s : ℕ) → known_symbol groups s ≡ None → is_redirect groups s ≡ false
is_none groups s h =
    ap (λ (o : Option (InputFile × InputSymbol)). is_some (option_and_then (redirect_of s) o)) (there groups s ∙ unknown_with_file s (numbered_symbol groups s) h)

pub mapped_some : {A B : Type 0} (f : A → B) (o : Option A) → is_some (option_map f o) ≡ is_some o
mapped_some f None = refl
mapped_some f (Some x) = refl
