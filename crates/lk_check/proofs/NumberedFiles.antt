-- The files of all groups, with their numbers.
use Rattle.std.proofs.Common.{◌≡◌, ℕ, ◌<◌, Bool, true, not, ◌&&◌, List, [], ◌∷◌, Option, Some, None, IsSomeAnd, option_and_then, option_map, length, position, refl, ap, sym, subst, ◌∙◌, zero-add}
use Rattle.std.specs.List.{enumerate_from, flat_map, list_all, slice_get}
use Rattle.std.proofs.lemmas.List.Folds.{list_all-append, list_all-map}
use Rattle.std.proofs.lemmas.List.Quantifiers.{position-Some}
use Rattle.lk_link.specs.declared.file.InputFile.{InputFile}
use Rattle.lk_link.specs.declared.ids.FileId.{FileId}
use Rattle.lk_link.specs.declared.symbol.InputSymbol.{InputSymbol}
use Rattle.lk_link.specs.Files.{file_in}
use Rattle.lk_link.specs.Inputs.{NumberedFile, numbered_file, group_files, numbered_files}
use Rattle.lk_link.specs.Symbols.{all_files}
use Rattle.lk_link.proofs.Elements.{flat_map_at, map_at, numbered_at}
use Rattle.lk_link.proofs.InputLemmas.{files_from_are}
use Rattle.lk_link.proofs.Places.{all_where_none}
use Rattle.lk_check.specs.FirstBadFile.{first_bad_in_file, first_bad_in_files}
use Rattle.lk_check.proofs.First.{found_of}
use Rattle.lk_check.proofs.NoAnswer.{no_map, none_from, none_of, none_where_all}

-- ---- files

-- a numbered file is the file with that number
pub numbered_there : (groups : List (List InputFile)) (k : ℕ) (x : NumberedFile) → slice_get (numbered_files groups) k ≡ Some x → file_in groups x.id ≡ Some x.file
numbered_there groups k x h =
    let group = flat_map_at (λ q. group_files q.0 0 q.1) (enumerate_from 0 groups) k x h in
    let q = group.from in
    let outer = numbered_at 0 groups group.outer q group.there in
    let inner = map_at (numbered_file q.0) (enumerate_from 0 q.1) group.inner x group.gives in
    let p = inner.0 in
    let file = numbered_at 0 q.1 group.inner p inner.1 in
    let at_group : slice_get groups q.0 ≡ Some q.1 = ap (slice_get groups) (outer.0 ∙ zero-add group.outer) ∙ outer.1 in
    let at_file : slice_get q.1 p.0 ≡ Some p.1 = ap (slice_get q.1) (file.0 ∙ zero-add group.inner) ∙ file.1 in
    let P : NumberedFile → Type 0 = λ z. file_in groups z.id ≡ Some z.file in
    subst P inner.2 (ap (option_and_then (λ files. slice_get files p.0)) at_group ∙ at_file)

all_flat : {X Y : Type 0} (p : Y → Bool) (f : X → List Y) (xs : List X) → list_all p (flat_map f xs) ≡ list_all (λ x. list_all p (f x)) xs
all_flat p f [] = refl
all_flat p f (x ∷ xs) = list_all-append p (f x) (flat_map f xs) ∙ ap (λ b. list_all p (f x) && b) (all_flat p f xs)

all_numbered : (p : InputFile → Bool) (groups : List (List InputFile)) → list_all p (all_files groups) ≡ list_all (λ x. p x.file) (numbered_files groups)
all_numbered p groups = ap (list_all p) (sym (files_from_are 0 groups)) ∙ list_all-map p (λ x. x.file) (numbered_files groups)

-- what all files of all groups pass
pub all_by_groups : (p : InputFile → Bool) (groups : List (List InputFile)) → list_all (λ files. list_all p files) groups ≡ list_all (λ x. p x.file) (numbered_files groups)
all_by_groups p groups = sym (all_flat p (λ files. files) groups) ∙ all_numbered p groups

-- what all that files have passes
pub all_of_files : {Y : Type 0} (p : Y → Bool) (f : InputFile → List Y) (groups : List (List InputFile)) → list_all p (flat_map f (all_files groups)) ≡ list_all (λ x. list_all p (f x.file)) (numbered_files groups)
all_of_files p f groups = all_flat p f (all_files groups) ∙ all_numbered (λ x. list_all p (f x)) groups

-- ---- the first bad symbol

-- an index in a file, as a place
abbrev in_file : FileId → ℕ → FileId × ℕ
in_file id i = (id, i)

place_of : (id : FileId) (o : Option ℕ) (p : FileId × ℕ) → option_map (in_file id) o ≡ Some p → (id ≡ p.0) × (o ≡ Some p.1)
place_of id None p h = absurd (cc)
place_of id (Some i) p h =
    let same : in_file id i ≡ p = cc in
    (ap (λ (q : FileId × ℕ). q.0) same, ap (λ (q : FileId × ℕ). Some q.1) same)

place_within : {X : Type 0} (p : X → Bool) (xs : List X) (k : ℕ) → position p xs ≡ Some k → k < length xs
place_within p [] k h = absurd (cc)
place_within p (x ∷ xs) k h = (position-Some p (x ∷ xs) k x h).0

-- an index that was found among a file's symbols is there
pub found_there : (good : InputFile → InputSymbol → Bool) (groups : List (List InputFile)) (p : FileId × ℕ) → first_bad_in_files (λ f. f.symbols) good groups ≡ Some p → IsSomeAnd (file_in groups p.0) (λ f. p.1 < length f.symbols)
found_there good groups p h =
    let by = found_of (first_bad_in_file (λ f. f.symbols) good) (numbered_files groups) p h in
    let file = by.1.file in
    let bad : InputSymbol → Bool = λ s. not (good file s) in
    let at = place_of by.1.id (position bad file.symbols) p by.3 in
    let there : file_in groups p.0 ≡ Some file = ap (file_in groups) (sym at.0) ∙ numbered_there groups by.0 by.1 by.2 in
    let P : Option InputFile → Type 0 = λ o. IsSomeAnd o (λ f. p.1 < length f.symbols) in
    subst P (sym there) (place_within bad file.symbols p.1 at.1)

-- ---- none bad in any file

-- where all that each file has is good, none is found that isn't
pub none_in_files : {X : Type 0} (list : InputFile → List X) (good : InputFile → X → Bool) (groups : List (List InputFile)) → ((k : ℕ) (x : NumberedFile) → slice_get (numbered_files groups) k ≡ Some x → list_all (good x.file) (list x.file) ≡ true) → first_bad_in_files list good groups ≡ None
none_in_files list good groups h = none_from (first_bad_in_file list good) (numbered_files groups) (λ k x at_k.
    ap (option_map (λ i. (x.id, i))) (none_where_all (good x.file) (list x.file) (h k x at_k)))

-- and the other way round
pub all_in_files : {X : Type 0} (list : InputFile → List X) (good : InputFile → X → Bool) (groups : List (List InputFile)) → first_bad_in_files list good groups ≡ None → (k : ℕ) (x : NumberedFile) → slice_get (numbered_files groups) k ≡ Some x → list_all (good x.file) (list x.file) ≡ true
all_in_files list good groups h k x at_k =
    all_where_none (good x.file) (list x.file)
    (no_map (λ i. (x.id, i)) (position (λ y. not (good x.file y)) (list x.file)) (none_of (first_bad_in_file list good) (numbered_files groups) k x h at_k))
