-- What is made of numbered things, one by one and file by file.
use Rattle.std.proofs.Common.{◌≡◌, ℕ, ◌+◌, ◌<◌, List, [], ◌∷◌, ◌++◌, Some, append_assoc, get_or, length, map, sum_by, take, refl, sym, ap, ◌∙◌, arith}
use Rattle.std.specs.List.{enumerate_from, slice_get}
use Rattle.std.proofs.lemmas.List.{map-append}
use Rattle.lk_link.specs.declared.file.InputFile.{InputFile}
use Rattle.lk_link.specs.Inputs.{NumberedFile, numbered_files}
use Rattle.lk_link.specs.Symbols.{all_files, file_number, first_symbol, symbol_count, symbols_in}
use Rattle.lk_link.proofs.InputLemmas.{file_stands, files_from_are, sum_taken}
use Rattle.lk_reach.proofs.Numbered.{file_at}
use Rattle.lk_tables.proofs.TableSums.{numbered_next}

-- one more is made
pub made_more : {X Y : Type 0} (f : ℕ × X → Y) (o n : ℕ) (xs : List X) (x d : X) (init old new : List Y) → n < length xs → x ≡ get_or xs n d
    → old ≡ init ++ map f (enumerate_from o (take n xs)) → new ≡ old ++ f (o + n, x) ∷ [] → new ≡ init ++ map f (enumerate_from o (take (n + 1) xs))
made_more {X} {Y} f o n xs x d init old new lt read so_far step =
    let before : List (ℕ × X) = enumerate_from o (take n xs) in
    let q : ℕ × X = (o + n, x) in
    step ∙ ap (λ (ys : List Y). ys ++ f q ∷ []) so_far ∙ append_assoc init (map f before) (f q ∷ [])
    ∙ ap (λ (ys : List Y). init ++ ys) (sym (map-append f before (q ∷ [])))
    ∙ ap (λ (rs : List (ℕ × X)). init ++ map f rs) (sym (numbered_next o n xs x d lt read))

-- a file's first symbol stands behind those of the files before it
pub first_is : (groups : List (List InputFile)) (k : ℕ) (f : NumberedFile) → slice_get (numbered_files groups) k ≡ Some f
    → first_symbol groups f.id ≡ sum_by (λ h. symbols_in h.file) (take k (numbered_files groups))
first_is groups k f h =
    let here = file_at groups k f h in
    let stands = file_stands groups f.id f.file here.there in
    let there = file_at groups (file_number groups f.id) (record { id = f.id; file = f.file }) stands in
    let place : k ≡ file_number groups f.id = here.place ∙ sym there.place in
    let before : sum_by (λ (x : NumberedFile). symbols_in x.file) (take k (numbered_files groups)) ≡ symbol_count (take k (all_files groups))
    = sum_taken (λ (x : NumberedFile). symbols_in x.file) symbols_in (λ (x : NumberedFile). x.file) (λ x. refl) k (numbered_files groups)
    ∙ ap (λ (fs : List InputFile). symbol_count (take k fs)) (files_from_are 0 groups) in
    omega (arith, ap (λ (n : ℕ). symbol_count (take n (all_files groups))) place, before)
