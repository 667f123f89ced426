-- The first list that is too long, from a place on.
use Rattle.std.proofs.Common.{◌≡◌, ℕ, ◌+◌, ◌<◌, ◌≤◌, ◌&&◌, Bool, true, false, cond, List, [], ◌∷◌, ◌++◌, Some, None, is_none, option_map, find, length, get_or, drop, nat_lt, refl, ap, sym, ◌∙◌}
use Rattle.std.proofs.lemmas.Bool.{lt-ltb, le-ltb}
use Rattle.std.proofs.lemmas.List.{drop_more, drop_all}
use Rattle.std.specs.List.{list_all}
use Rattle.std.proofs.lemmas.List.Concat.{flat_map-append}
use Rattle.lk_link.specs.declared.file.InputFile.{InputFile}
use Rattle.lk_link.specs.declared.section.InputSection.{InputSection}
use Rattle.lk_link.specs.Limits.{all_sections}
use Rattle.lk_link.specs.Symbols.{all_files}
use Rattle.lk_check.specs.declared.lengths.SectionList.{SectionList}
use Rattle.lk_check.specs.Lengths.{list_length, long_list, sections_of}

-- ---- two lists, one after the other

joins_none : (most : ℕ) (list : SectionList) (xs ys : List InputSection) → long_list most list xs ≡ None → long_list most list (xs ++ ys) ≡ long_list most list ys
unfolding long_list
joins_none most list [] ys h = refl
joins_none most list (x ∷ xs) ys h =
    let p : InputSection → Bool = λ s. nat_lt most (list_length list s) in
    elim (p x) as (λ b. option_map (list_length list) (cond b (Some x) (find p xs)) ≡ None → option_map (list_length list) (cond b (Some x) (find p (xs ++ ys))) ≡ long_list most list ys) [
      | true ↦ λ e. absurd (cc)
      | false ↦ λ e. joins_none most list xs ys e
    ] h

joins_some : (most : ℕ) (list : SectionList) (xs ys : List InputSection) (n : ℕ) → long_list most list xs ≡ Some n → long_list most list (xs ++ ys) ≡ Some n
unfolding long_list
joins_some most list [] ys n h = absurd (cc)
joins_some most list (x ∷ xs) ys n h =
    let p : InputSection → Bool = λ s. nat_lt most (list_length list s) in
    elim (p x) as (λ b. option_map (list_length list) (cond b (Some x) (find p xs)) ≡ Some n → option_map (list_length list) (cond b (Some x) (find p (xs ++ ys))) ≡ Some n) [
      | true ↦ λ e. e
      | false ↦ λ e. joins_some most list xs ys n e
    ] h

-- ---- sections

pub section_end : (most : ℕ) (list : SectionList) (sections : List InputSection) (i : ℕ) → length sections ≤ i → long_list most list (drop i sections) ≡ None
unfolding long_list
section_end most list sections i h = ap (long_list most list) (drop_all i sections h)

pub section_on : (most : ℕ) (list : SectionList) (sections : List InputSection) (i : ℕ) (d : InputSection) → i < length sections → list_length list (get_or sections i d) ≤ most → long_list most list (drop i sections) ≡ long_list most list (drop (i + 1) sections)
unfolding long_list
section_on most list sections i d h short =
    let x = get_or sections i d in
    ap (long_list most list) (drop_more sections i d h)
    ∙ ap (λ b. option_map (list_length list) (cond b (Some x) (find (λ s. nat_lt most (list_length list s)) (drop (i + 1) sections)))) (le-ltb most (list_length list x) short)

pub section_here : (most : ℕ) (list : SectionList) (sections : List InputSection) (i : ℕ) (d : InputSection) → i < length sections → most < list_length list (get_or sections i d) → long_list most list (drop i sections) ≡ Some (list_length list (get_or sections i d))
unfolding long_list
section_here most list sections i d h long =
    let x = get_or sections i d in
    ap (long_list most list) (drop_more sections i d h)
    ∙ ap (λ b. option_map (list_length list) (cond b (Some x) (find (λ s. nat_lt most (list_length list s)) (drop (i + 1) sections)))) (lt-ltb most (list_length list x) long)

pub ruleset section_steps = (section_end, section_on, section_here)

-- ---- files

pub file_end : (most : ℕ) (list : SectionList) (files : List InputFile) (i : ℕ) → length files ≤ i → long_list most list (sections_of (drop i files)) ≡ None
unfolding long_list
file_end most list files i h = ap (λ fs. long_list most list (sections_of fs)) (drop_all i files h)

pub file_on : (most : ℕ) (list : SectionList) (files : List InputFile) (i : ℕ) (d : InputFile) → i < length files → long_list most list (get_or files i d).sections ≡ None → long_list most list (sections_of (drop i files)) ≡ long_list most list (sections_of (drop (i + 1) files))
file_on most list files i d h none =
    ap (λ fs. long_list most list (sections_of fs)) (drop_more files i d h)
    ∙ joins_none most list (get_or files i d).sections (sections_of (drop (i + 1) files)) none

pub file_here : (most : ℕ) (list : SectionList) (files : List InputFile) (i : ℕ) (d : InputFile) (n : ℕ) → i < length files → long_list most list (get_or files i d).sections ≡ Some n → long_list most list (sections_of (drop i files)) ≡ Some n
file_here most list files i d n h some =
    ap (λ fs. long_list most list (sections_of fs)) (drop_more files i d h)
    ∙ joins_some most list (get_or files i d).sections (sections_of (drop (i + 1) files)) n some

pub ruleset file_steps = (file_end, file_on, file_here)

-- ---- groups

inputs_more : (groups : List (List InputFile)) (i : ℕ) (d : List InputFile) → i < length groups → all_sections (drop i groups) ≡ sections_of (get_or groups i d) ++ all_sections (drop (i + 1) groups)
inputs_more groups i d h =
    ap all_sections (drop_more groups i d h)
    ∙ flat_map-append (λ (f : InputFile). f.sections) (get_or groups i d) (all_files (drop (i + 1) groups))

pub group_end : (most : ℕ) (list : SectionList) (groups : List (List InputFile)) (i : ℕ) → length groups ≤ i → long_list most list (all_sections (drop i groups)) ≡ None
unfolding long_list
group_end most list groups i h = ap (λ gs. long_list most list (all_sections gs)) (drop_all i groups h)

pub group_on : (most : ℕ) (list : SectionList) (groups : List (List InputFile)) (i : ℕ) (d : List InputFile) → i < length groups → long_list most list (sections_of (get_or groups i d)) ≡ None → long_list most list (all_sections (drop i groups)) ≡ long_list most list (all_sections (drop (i + 1) groups))
group_on most list groups i d h none =
    ap (long_list most list) (inputs_more groups i d h)
    ∙ joins_none most list (sections_of (get_or groups i d)) (all_sections (drop (i + 1) groups)) none

pub group_here : (most : ℕ) (list : SectionList) (groups : List (List InputFile)) (i : ℕ) (d : List InputFile) (n : ℕ) → i < length groups → long_list most list (sections_of (get_or groups i d)) ≡ Some n → long_list most list (all_sections (drop i groups)) ≡ Some n
group_here most list groups i d n h some =
    ap (long_list most list) (inputs_more groups i d h)
    ∙ joins_some most list (sections_of (get_or groups i d)) (all_sections (drop (i + 1) groups)) n some

pub ruleset group_steps = (group_end, group_on, group_here)

-- there is none in two lists where there is none in either
none_of_both : (most : ℕ) (list : SectionList) (xs ys : List InputSection) → (is_none (long_list most list xs) && is_none (long_list most list ys)) ≡ is_none (long_list most list (xs ++ ys))
unfolding long_list
none_of_both most list [] ys = refl
none_of_both most list (x ∷ xs) ys =
    let p : InputSection → Bool = λ s. nat_lt most (list_length list s) in
    elim (p x) as (λ b. (is_none (option_map (list_length list) (cond b (Some x) (find p xs))) && is_none (long_list most list ys)) ≡ is_none (option_map (list_length list) (cond b (Some x) (find p (xs ++ ys))))) [
      | true ↦ refl
      | false ↦ none_of_both most list xs ys
    ]

-- there is none just where there is none in each group
pub none_of_groups : (most : ℕ) (list : SectionList) (groups : List (List InputFile)) → list_all (λ files. is_none (long_list most list (sections_of files))) groups ≡ is_none (long_list most list (all_sections groups))
unfolding long_list
none_of_groups most list [] = refl
none_of_groups most list (files ∷ groups) =
    ap (λ b. is_none (long_list most list (sections_of files)) && b) (none_of_groups most list groups)
    ∙ none_of_both most list (sections_of files) (all_sections groups)
    ∙ ap (λ xs. is_none (long_list most list xs)) (sym (flat_map-append (λ (f : InputFile). f.sections) files (all_files groups)))
