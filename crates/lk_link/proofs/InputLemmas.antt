-- Files and input sections by their numbers, and what is left of a walk over them.
use Rattle.std.specs.List.{enumerate_from, slice_get}
use Rattle.std.proofs.Common.{◌≡◌, ℕ, zero, suc, ◌+◌, List, [], ◌∷◌, ◌++◌, Option, Some, length, take, map, option_map, sum_by, refl, sym, ap, ◌∙◌, arith, zero-add}
use Rattle.std.proofs.lemmas.List.{length-map, map-append, take-map}
use Rattle.std.proofs.lemmas.List.Concat.{length-flat_map}
use Rattle.std.proofs.lemmas.List.FromFn.{length-enumerate_from}
use Rattle.std.proofs.lemmas.List.Sums.{sum_by-cons}
use Rattle.std.proofs.lemmas.Option.{slice_get-map, slice_get_within}
use Rattle.lk_link.specs.declared.ids.FileId.{FileId}
use Rattle.lk_link.specs.declared.file.InputFile.{InputFile}
use Rattle.lk_link.specs.declared.section.InputSection.{InputSection}
use Rattle.lk_link.specs.Files.{file_in, AreNumbered}
use Rattle.lk_link.specs.Inputs.{NumberedFile, numbered_file, group_files, files_from, numbered_files, numbered_section, inputs_from, all_inputs, sections_in, input_count, input_number, InputsFollow}
use Rattle.lk_link.specs.Symbols.{all_files, file_number}
use Rattle.lk_link.specs.Walks.{files_left, AreFewLeft}
use Rattle.lk_link.proofs.EndsLemmas.{item_of}
use Rattle.lk_link.proofs.Places.{file_place, files_of_group}

-- ---- elements with their numbers

-- an element stands with its number
pub numbered_get : {X : Type 0} (n : ℕ) (xs : List X) (k : ℕ) (x : X) → slice_get xs k ≡ Some x → slice_get (enumerate_from n xs) k ≡ Some (n + k, x)
numbered_get n [] k x h = absurd (cc)
numbered_get {X} n (y ∷ xs) zero x h =
    let same : y ≡ x = cc in
    let e : n ≡ n + 0 = omega arith in
    let shown : ℕ → X → Option (ℕ × X) = λ m z. Some (m, z) in
    ap (shown n) same ∙ ap (λ m. shown m x) e
numbered_get {X} n (y ∷ xs) (suc k) x h =
    let e : n + 1 + k ≡ n + suc k = omega arith in
    let shown : ℕ → Option (ℕ × X) = λ m. Some (m, x) in
    numbered_get (n + 1) xs k x h ∙ ap shown e

-- without their numbers they are the elements
pub without_numbers : {X : Type 0} (n : ℕ) (xs : List X) → map (λ q. q.1) (enumerate_from n xs) ≡ xs
without_numbers n [] = refl
without_numbers n (x ∷ xs) = ap (λ ys. x ∷ ys) (without_numbers (n + 1) xs)

-- a sum over what f makes of elements
pub sum_mapped : {X Y : Type 0} (size : X → ℕ) (count : Y → ℕ) (f : X → Y) → ((x : X) → size x ≡ count (f x)) → (xs : List X) → sum_by size xs ≡ sum_by count (map f xs)
sum_mapped size count f e [] = refl
sum_mapped size count f e (x ∷ xs) =
    let here = e x in
    let later = sum_mapped size count f e xs in
    let left = sum_by-cons size x xs in
    let right = sum_by-cons count (f x) (map f xs) in
    omega arith

pub sum_taken : {X Y : Type 0} (size : X → ℕ) (count : Y → ℕ) (f : X → Y) → ((x : X) → size x ≡ count (f x)) → (k : ℕ) (xs : List X) → sum_by size (take k xs) ≡ sum_by count (take k (map f xs))
sum_taken size count f e k xs = sum_mapped size count f e (take k xs) ∙ ap (sum_by count) (sym (take-map f k xs))

-- ---- all files

pub group_files_are : (g f : ℕ) (files : List InputFile) → map (λ x. x.file) (group_files g f files) ≡ files
group_files_are g f [] = refl
group_files_are g f (x ∷ files) = ap (λ ys. x ∷ ys) (group_files_are g (f + 1) files)

pub files_from_are : (g : ℕ) (groups : List (List InputFile)) → map (λ x. x.file) (files_from g groups) ≡ all_files groups
files_from_are g [] = refl
files_from_are g (files ∷ groups) =
    map-append (λ x. x.file) (group_files g 0 files) (files_from (g + 1) groups)
    ∙ ap (λ ys. ys ++ map (λ x. x.file) (files_from (g + 1) groups)) (group_files_are g 0 files)
    ∙ ap (λ ys. files ++ ys) (files_from_are (g + 1) groups)

group_files-length : (q : ℕ × List InputFile) → length (group_files q.0 0 q.1) ≡ length q.1
group_files-length q = length-map (enumerate_from 0 q.1) (numbered_file q.0) ∙ length-enumerate_from 0 q.1

group_file_at : (g : ℕ) (files : List InputFile) (k : ℕ) (file : InputFile) → slice_get files k ≡ Some file → slice_get (group_files g 0 files) k ≡ Some (numbered_file g (k, file))
group_file_at g files k file h =
    slice_get-map (numbered_file g) (enumerate_from 0 files) k
    ∙ ap (λ o. option_map (numbered_file g) o) (numbered_get 0 files k file h)
    ∙ ap (λ (n : ℕ). Some (numbered_file g (n, file))) (zero-add k)

-- a file stands under its number among all, with that number
pub file_stands : (groups : List (List InputFile)) (id : FileId) (file : InputFile) → file_in groups id ≡ Some file → slice_get (numbered_files groups) (file_number groups id) ≡ Some (record { id = id; file = file })
file_stands groups id file h =
    let parts = file_place groups id file h in
    let within = slice_get_within parts.0 id.file file parts.2 in
    let at_g = numbered_get 0 groups id.group parts.0 parts.1 in
    let many = group_files-length (0 + id.group, parts.0) in
    let before = sum_taken (λ q. length (group_files q.0 0 q.1)) (λ (fs : List InputFile). length fs) (λ q. q.1) group_files-length id.group (enumerate_from 0 groups) ∙ ap (λ fs. sum_by length (take id.group fs)) (without_numbers 0 groups) in
    ap (λ n. slice_get (numbered_files groups) (n + id.file)) (sym before)
    ∙ item_of (λ q. group_files q.0 0 q.1) (enumerate_from 0 groups) id.group id.file (0 + id.group, parts.0) at_g (omega arith)
    ∙ group_file_at (0 + id.group) parts.0 id.file file parts.2
    ∙ ap (λ (g : ℕ). Some (numbered_file g (id.file, file))) (zero-add id.group)

-- ---- all input sections

inputs_from-length : (f : NumberedFile) → length (inputs_from f.id 0 f.file.sections) ≡ sections_in f.file
inputs_from-length f = length-map (enumerate_from 0 f.file.sections) (numbered_section f.id) ∙ length-enumerate_from 0 f.file.sections

section_at : (id : FileId) (sections : List InputSection) (i : ℕ) (section : InputSection) → slice_get sections i ≡ Some section → slice_get (inputs_from id 0 sections) i ≡ Some (numbered_section id (i, section))
section_at id sections i section h =
    slice_get-map (numbered_section id) (enumerate_from 0 sections) i
    ∙ ap (λ o. option_map (numbered_section id) o) (numbered_get 0 sections i section h)
    ∙ ap (λ (n : ℕ). Some (numbered_section id (n, section))) (zero-add i)

-- as many as the files have together
inputs_count : (groups : List (List InputFile)) → length (all_inputs groups) ≡ input_count groups
inputs_count groups =
    length-flat_map (λ f. inputs_from f.id 0 f.file.sections) (numbered_files groups)
    ∙ sum_mapped (λ f. length (inputs_from f.id 0 f.file.sections)) sections_in (λ f. f.file) inputs_from-length (numbered_files groups)
    ∙ ap (sum_by sections_in) (files_from_are 0 groups)

-- a section stands under its number among all
input_stands : (groups : List (List InputFile)) (id : FileId) (file : InputFile) (i : ℕ) (section : InputSection) → file_in groups id ≡ Some file → slice_get file.sections i ≡ Some section → slice_get (all_inputs groups) (input_number groups id i) ≡ Some (record { file = id; index = i; section = section })
input_stands groups id file i section at_file at_i =
    let k = file_number groups id in
    let within = slice_get_within file.sections i section at_i in
    let many = inputs_from-length (record { id = id; file = file }) in
    let before = sum_taken (λ f. length (inputs_from f.id 0 f.file.sections)) sections_in (λ f. f.file) inputs_from-length k (numbered_files groups) ∙ ap (λ fs. sum_by sections_in (take k fs)) (files_from_are 0 groups) in
    ap (λ n. slice_get (all_inputs groups) (n + i)) (sym before)
    ∙ item_of (λ f. inputs_from f.id 0 f.file.sections) (numbered_files groups) k i (record { id = id; file = file }) (file_stands groups id file at_file) (omega arith)
    ∙ section_at id file.sections i section at_i

pub inputs_follow : InputsFollow
inputs_follow = record { count = inputs_count; at = input_stands }

-- ---- walks

-- at the first group few are left
pub few_at_first : (groups others : List (List InputFile)) (files : List InputFile) → groups ≡ files ∷ others → AreNumbered groups → AreFewLeft 0 0 files others
few_at_first groups others files e h =
    let numbered : AreNumbered (files ∷ others) = rw e at h in
    let few_groups = numbered.few_groups in
    let few_files = numbered.few_files in
    record {
      last_group = omega arith;
      last_file = omega (arith, files_of_group (files ∷ others) 0 files refl);
      others = λ k fs at. omega (arith, files_of_group (files ∷ others) (suc k) fs at);
    }

-- behind a group of which no file is left comes the next one
pub next_group : (g f : ℕ) (old files : List InputFile) (groups others : List (List InputFile)) (whole : List NumberedFile) → length old ≡ 0 → groups ≡ files ∷ others → AreFewLeft g f old groups × (files_left g f old groups ≡ whole)
    → AreFewLeft (g + 1) 0 files others × (files_left (g + 1) 0 files others ≡ whole)
next_group g f (x ∷ old) files groups others whole none e h = absurd (omega (arith, none))
next_group g f [] files groups others whole none e h =
    let few : AreFewLeft g f [] (files ∷ others) = rw e at h.0 in
    let last_group = few.last_group in
    let last_file = few.others 0 files refl in (
      record { last_group = omega arith; last_file = omega arith; others = λ k fs at. few.others (suc k) fs at },
      ap (λ gs. files_left g f [] gs) (sym e) ∙ h.1,
    )
