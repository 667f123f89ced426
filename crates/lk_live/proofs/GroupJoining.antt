-- What is found of each group is put together.
use Rattle.std.proofs.Common.{◌≡◌, ℕ, suc, ◌+◌, ◌<◌, List, [], ◌∷◌, ◌++◌, Err, Ok, Result, Some, length, get_or, map, take, refl, sym, ap, ◌∙◌, arith}
use Rattle.std.specs.Prelude.{IfOk, MatchResult}
use Rattle.std.specs.List.{AllZip, Contains, enumerate_from, flat_map, range_with_len, slice_get, slice_index_or}
use Rattle.std.proofs.lemmas.Grind.{flat_map-append}
use Rattle.std.proofs.lemmas.List.{append-nil, map_push}
use Rattle.std.proofs.lemmas.Option.{get_or_from_slice_get}
use Rattle.lk_link.specs.declared.file.InputFile.{InputFile}
use Rattle.lk_link.specs.Inputs.{NumberedFile, files_from, group_files, numbered_file}
use Rattle.lk_live.specs.ByGroups.{files_in}
use Rattle.lk_live.proofs.FaultLemmas.{one_more}

-- where each of several came out well, they are what was to come of each
pub all_came : {X Y E : Type 0} (f : X → Y) (xs : List X) (results : List (Result Y E)) (ys : List Y) → AllZip (λ x r. IfOk r (λ y. y ≡ f x)) xs results → results ≡ map Ok ys → ys ≡ map f xs
all_came f [] [] [] h is = refl
all_came f [] [] (y ∷ ys) h is = absurd (cc)
all_came f [] (r ∷ results) ys h is = absurd h
all_came f (x ∷ xs) [] ys h is = absurd h
all_came f (x ∷ xs) (r ∷ results) [] h is = absurd (cc)
all_came {X} {Y} {E} f (x ∷ xs) (r ∷ results) (y ∷ ys) h is =
    let first : r ≡ Ok y = cc in
    let rest : results ≡ map Ok ys = cc in
    let here : y ≡ f x = rw first at h.0 in
    ap (λ (z : Y). z ∷ ys) here ∙ ap (λ (zs : List Y). f x ∷ zs) (all_came f xs results ys h.1 rest)

-- so it is where they are gathered in one, unless one didn't
pub gathered : {X Y E C : Type 0} (items : C → List Y) (f : X → Y) (xs : List X) (results : List (Result Y E)) (all : Result C E) → AllZip (λ x r. IfOk r (λ y. y ≡ f x)) xs results
    → MatchResult all (λ c. (ys : List Y) × (results ≡ map Ok ys) × (items c ≡ ys)) (λ e. Contains results (Err e)) → IfOk all (λ c. items c ≡ map f xs)
gathered items f xs results (Ok c) h m = m.2 ∙ all_came f xs results m.0 h m.1
gathered items f xs results (Err e) h m = tt

-- what is made of lists that follow each other, list by list
pub made_by_list : {X Y Z : Type 0} (f : Y → List Z) (h : X → List Y) (xs : List X) → flat_map (λ l. l) (map (λ x. flat_map f (h x)) xs) ≡ flat_map f (flat_map h xs)
made_by_list f h [] = refl
made_by_list {X} {Y} {Z} f h (x ∷ xs) = ap (λ (zs : List Z). flat_map f (h x) ++ zs) (made_by_list f h xs) ∙ sym (flat_map-append f (h x) (flat_map h xs))

-- groups by their numbers
by_number : {Y : Type 0} (f : ℕ → List InputFile → Y) (all groups : List (List InputFile)) (n : ℕ) → ((k : ℕ) (files : List InputFile) → slice_get groups k ≡ Some files → slice_get all (n + k) ≡ Some files)
    → map (λ g. f g (slice_index_or all g [])) (range_with_len n (length groups)) ≡ map (λ q. f q.0 q.1) (enumerate_from n groups)
by_number f all [] n at = refl
by_number {Y} f all (files ∷ groups) n at =
    let none : n + 0 ≡ n = omega arith in
    let here : slice_index_or all n [] ≡ files = get_or_from_slice_get all n files [] (ap (slice_get all) (sym none) ∙ at 0 files refl) in
    ap (λ (fs : List InputFile). f n fs ∷ map (λ g. f g (slice_index_or all g [])) (range_with_len (n + 1) (length groups))) here
    ∙ ap (λ (ys : List Y). f n files ∷ ys) (by_number f all groups (n + 1) (λ k fs h.
    let on : n + suc k ≡ n + 1 + k = omega arith in
    ap (slice_get all) (sym on) ∙ at (suc k) fs h))

-- group by group it is what is made of all files
pub all_groups : {Y : Type 0} (f : NumberedFile → List Y) (groups : List (List InputFile))
    → flat_map (λ l. l) (map (λ g. flat_map f (files_in groups g)) (range_with_len 0 (length groups))) ≡ flat_map f (files_from 0 groups)
all_groups {Y} f groups =
    let zero_is : (k : ℕ) → 0 + k ≡ k = λ k. omega arith in
    ap (flat_map (λ (l : List Y). l)) (by_number (λ g files. flat_map f (group_files g 0 files)) groups groups 0 (λ k files h. ap (slice_get groups) (zero_is k) ∙ h))
    ∙ made_by_list f (λ (q : ℕ × List InputFile). group_files q.0 0 q.1) (enumerate_from 0 groups)

-- ---- the files of a group, one by one

pub file_more : {Y : Type 0} (f : NumberedFile → List Y) (g k : ℕ) (files : List InputFile) (x d : InputFile) → k < length files → x ≡ get_or files k d
    → flat_map f (group_files g 0 (take (k + 1) files)) ≡ flat_map f (group_files g 0 (take k files)) ++ f (record { id = record { group = g; file = k }; file = x })
file_more {Y} f g k files x d below read =
    let before : List (ℕ × InputFile) = enumerate_from 0 (take k files) in
    ap (λ (qs : List (ℕ × InputFile)). flat_map f (map (numbered_file g) qs)) (one_more k files x d below read)
    ∙ ap (flat_map f) (map_push (numbered_file g) before (k, x))
    ∙ flat_map-append f (map (numbered_file g) before) (numbered_file g (k, x) ∷ [])
    ∙ ap (λ (ys : List Y). flat_map f (map (numbered_file g) before) ++ ys) (append-nil (f (numbered_file g (k, x))))

-- ---- one of each file

pub made_more : {Y : Type 0} (f : NumberedFile → Y) (g k : ℕ) (files : List InputFile) (x d : InputFile) → k < length files → x ≡ get_or files k d
    → map f (group_files g 0 (take (k + 1) files)) ≡ map f (group_files g 0 (take k files)) ++ f (record { id = record { group = g; file = k }; file = x }) ∷ []
made_more f g k files x d below read =
    let before : List (ℕ × InputFile) = enumerate_from 0 (take k files) in
    ap (λ (qs : List (ℕ × InputFile)). map f (map (numbered_file g) qs)) (one_more k files x d below read)
    ∙ ap (map f) (map_push (numbered_file g) before (k, x))
    ∙ map_push f (map (numbered_file g) before) (numbered_file g (k, x))

one_each : {X Y : Type 0} (f : X → Y) (xs : List X) → map f xs ≡ flat_map (λ x. f x ∷ []) xs
one_each f [] = refl
one_each f (x ∷ xs) = ap (λ ys. f x ∷ ys) (one_each f xs)

-- group by group it is that of all files
pub all_made : {Y : Type 0} (f : NumberedFile → Y) (groups : List (List InputFile))
    → flat_map (λ l. l) (map (λ g. map f (files_in groups g)) (range_with_len 0 (length groups))) ≡ map f (files_from 0 groups)
all_made {Y} f groups =
    let numbers : List ℕ = range_with_len 0 (length groups) in
    let lists : List (List Y) → List Y = flat_map (λ (l : List Y). l) in
    (λ i. lists (map (λ g. one_each f (files_in groups g) i) numbers))
    ∙ all_groups (λ x. f x ∷ []) groups ∙ sym (one_each f (files_from 0 groups))

-- what is joined of things that are made
pub joined_of : {X Y Z : Type 0} (h : Y → List Z) (f : X → Y) (xs : List X) → flat_map h (map f xs) ≡ flat_map (λ l. l) (map (λ x. h (f x)) xs)
joined_of h f [] = refl
joined_of h f (x ∷ xs) = ap (λ zs. h (f x) ++ zs) (joined_of h f xs)
