-- The entries of symbols, file by file, are those of all symbols by number.
use Rattle.std.proofs.Common.{◌≡◌, ℕ, suc, ◌+◌, Bool, true, false, if◌then◌else◌, List, [], ◌∷◌, ◌++◌, Some, filter, length, map, sum_by, take, refl, sym, ap, ◌∙◌, arith}
use Rattle.std.specs.List.{enumerate_from, flat_map, slice_get}
use Rattle.std.proofs.lemmas.List.{length-map, map-append}
use Rattle.std.proofs.lemmas.List.Concat.{flat_map-cons}
use Rattle.std.proofs.lemmas.List.Elements.{filter-append}
use Rattle.std.proofs.lemmas.List.Sums.{sum_by-cons}
use Rattle.lk_link.specs.declared.file.InputFile.{InputFile}
use Rattle.lk_link.specs.declared.link.LinkInput.{LinkInput}
use Rattle.lk_link.specs.declared.symbol.InputSymbol.{InputSymbol}
use Rattle.lk_link.specs.Inputs.{NumberedFile, numbered_files}
use Rattle.lk_link.specs.Symbols.{all_files, file_number, first_symbol, symbol_count, symbols_in}
use Rattle.lk_link.proofs.InputLemmas.{file_stands, files_from_are, sum_taken}
use Rattle.lk_reach.specs.Units.{numbered_symbols, symbols_of}
use Rattle.lk_reach.proofs.Numbered.{file_at}
use Rattle.lk_tables.specs.SymbolTable.{symbols_by_number}

-- ---- numbers go on behind a list

pub numbered_behind : {X : Type 0} (o : ℕ) (xs ys : List X) → enumerate_from o (xs ++ ys) ≡ enumerate_from o xs ++ enumerate_from (o + length xs) ys
numbered_behind o [] ys = let e : o ≡ o + 0 = omega arith in ap (λ n. enumerate_from n ys) e
numbered_behind o (x ∷ xs) ys =
    let e : o + 1 + length xs ≡ o + suc (length xs) = omega arith in
    ap (λ zs. (o, x) ∷ zs) (numbered_behind (o + 1) xs ys ∙ ap (λ n. enumerate_from (o + 1) xs ++ enumerate_from n ys) e)

-- ---- one file

-- a test and a value of a symbol with its number, given its file
abbrev pub passes_of : (NumberedFile → ℕ × InputSymbol → Bool) → ℕ × (NumberedFile × InputSymbol) → Bool
passes_of p r = p r.1.0 (r.0, r.1.1)

abbrev pub value_of : {Y : Type 0} → (ℕ × InputSymbol → Y) → ℕ × (NumberedFile × InputSymbol) → Y
value_of g r = g (r.0, r.1.1)

file_head : {Y : Type 0} (p : NumberedFile → ℕ × InputSymbol → Bool) (g : ℕ × InputSymbol → Y) (f : NumberedFile) (o : ℕ) (x : InputSymbol) (xs : List InputSymbol)
    (b : Bool) → p f (o, x) ≡ b
    → map g (filter (p f) (enumerate_from (o + 1) xs)) ≡ map (value_of g) (filter (passes_of p) (enumerate_from (o + 1) (map (λ s. (f, s)) xs)))
    → map g (filter (p f) (enumerate_from o (x ∷ xs))) ≡ map (value_of g) (filter (passes_of p) (enumerate_from o (map (λ s. (f, s)) (x ∷ xs))))
file_head p g f o x xs true h rest =
    let mine = filter (p f) (enumerate_from (o + 1) xs) in
    let all = filter (passes_of p) (enumerate_from (o + 1) (map (λ s. (f, s)) xs)) in
    ap (λ c. map g (if c then (o, x) ∷ mine else mine)) h ∙ ap (λ ys. g (o, x) ∷ ys) rest ∙ sym (ap (λ c. map (value_of g) (if c then (o, (f, x)) ∷ all else all)) h)
file_head p g f o x xs false h rest =
    let mine = filter (p f) (enumerate_from (o + 1) xs) in
    let all = filter (passes_of p) (enumerate_from (o + 1) (map (λ s. (f, s)) xs)) in
    ap (λ c. map g (if c then (o, x) ∷ mine else mine)) h ∙ rest ∙ sym (ap (λ c. map (value_of g) (if c then (o, (f, x)) ∷ all else all)) h)

of_file : {Y : Type 0} (p : NumberedFile → ℕ × InputSymbol → Bool) (g : ℕ × InputSymbol → Y) (f : NumberedFile) (o : ℕ) (xs : List InputSymbol)
    → map g (filter (p f) (enumerate_from o xs)) ≡ map (value_of g) (filter (passes_of p) (enumerate_from o (map (λ s. (f, s)) xs)))
of_file p g f o [] = refl
of_file p g f o (x ∷ xs) = file_head p g f o x xs (p f (o, x)) refl (of_file p g f (o + 1) xs)

-- ---- all files

of_files : {Y : Type 0} (p : NumberedFile → ℕ × InputSymbol → Bool) (g : ℕ × InputSymbol → Y) (first : NumberedFile → ℕ) (o : ℕ) (files : List NumberedFile)
    → ((k : ℕ) (f : NumberedFile) → slice_get files k ≡ Some f → first f ≡ o + sum_by (λ h. symbols_in h.file) (take k files))
    → flat_map (λ f. map g (filter (p f) (enumerate_from (first f) f.file.symbols))) files
    ≡ map (value_of g) (filter (passes_of p) (enumerate_from o (flat_map symbols_of files)))
of_files p g first o [] are = refl
of_files {Y = Y} p g first o (f ∷ files) are =
    let each : NumberedFile → List Y = λ h. map g (filter (p h) (enumerate_from (first h) h.file.symbols)) in
    let none : o + 0 ≡ o = omega arith in
    let here : first f ≡ o = are 0 f refl ∙ none in
    let mine = symbols_of f in
    let rest = flat_map symbols_of files in
    let many : length mine ≡ symbols_in f.file = length-map f.file.symbols (λ s. (f, s)) in
    let behind : (k : ℕ) (h : NumberedFile) → slice_get files k ≡ Some h → first h ≡ o + length mine + sum_by (λ h. symbols_in h.file) (take k files)
    = λ k h at. omega (arith, are (suc k) h at, many, sum_by-cons (λ (h : NumberedFile). symbols_in h.file) f (take k files)) in
    flat_map-cons each f files
    ∙ ap (λ n. map g (filter (p f) (enumerate_from n f.file.symbols)) ++ flat_map each files) here
    ∙ ap (λ ys. ys ++ flat_map each files) (of_file p g f o f.file.symbols)
    ∙ ap (λ ys. map (value_of g) (filter (passes_of p) (enumerate_from o mine)) ++ ys) (of_files p g first (o + length mine) files behind)
    ∙ sym (map-append (value_of g) (filter (passes_of p) (enumerate_from o mine)) (filter (passes_of p) (enumerate_from (o + length mine) rest)))
    ∙ ap (map (value_of g)) (sym (filter-append (passes_of p) (enumerate_from o mine) (enumerate_from (o + length mine) rest)))
    ∙ ap (λ qs. map (value_of g) (filter (passes_of p) qs)) (sym (numbered_behind o mine rest))
    ∙ ap (λ ss. map (value_of g) (filter (passes_of p) (enumerate_from o ss))) (sym (flat_map-cons symbols_of f files))

-- a file's first symbol stands behind those of the files before it
first_behind : (groups : List (List InputFile)) (k : ℕ) (f : NumberedFile) → slice_get (numbered_files groups) k ≡ Some f
    → first_symbol groups f.id ≡ 0 + sum_by (λ h. symbols_in h.file) (take k (numbered_files groups))
first_behind groups k f h =
    let here = file_at groups k f h in
    let stands = file_stands groups f.id f.file here.there in
    let there = file_at groups (file_number groups f.id) (record { id = f.id; file = f.file }) stands in
    let place : k ≡ file_number groups f.id = here.place ∙ sym there.place in
    let before : sum_by (λ (x : NumberedFile). symbols_in x.file) (take k (numbered_files groups)) ≡ symbol_count (take k (all_files groups))
    = sum_taken (λ (x : NumberedFile). symbols_in x.file) symbols_in (λ (x : NumberedFile). x.file) (λ x. refl) k (numbered_files groups)
    ∙ ap (λ fs. symbol_count (take k fs)) (files_from_are 0 groups) in
    omega (arith, ap (λ n. symbol_count (take n (all_files groups))) place, before)

-- what symbols that pass give, file by file, is what they give by number
pub by_number : {Y : Type 0} (p : NumberedFile → ℕ × InputSymbol → Bool) (g : ℕ × InputSymbol → Y) (link : LinkInput)
    → flat_map (λ f. map g (filter (p f) (symbols_by_number link f))) (numbered_files link.groups)
    ≡ map (value_of g) (filter (passes_of p) (enumerate_from 0 (numbered_symbols link.groups)))
by_number p g link = of_files p g (λ f. first_symbol link.groups f.id) 0 (numbered_files link.groups) (first_behind link.groups)
