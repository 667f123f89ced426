-- The file of an input section by its number: the last one whose first section has that number at most.
use Rattle.std.proofs.Common.{◌≡◌, ◌⊎◌, ℕ, zero, suc, ◌+◌, ◌-◌, ◌<◌, ◌≤◌, Bool, true, false, List, [], ◌∷◌, length, ltb, not, take, Some, None, get_or, refl, sym, ap, ◌∙◌, subst, inl, inr, arith}
use Rattle.std.specs.List.{slice_get}
use Rattle.std.specs.Option.{option_map_or}
use Rattle.std.proofs.lemmas.Bool.{ltb-false, ltb-true}
use Rattle.std.proofs.lemmas.List.Sums.{sum_by-cons}
use Rattle.std.proofs.lemmas.Option.{slice_get-get_or, slice_get_within}
use Rattle.lk_link.specs.declared.file.InputFile.{InputFile}
use Rattle.lk_link.specs.declared.ids.FileId.{FileId}
use Rattle.lk_link.specs.declared.link.LinkInput.{LinkInput}
use Rattle.lk_link.specs.Inputs.{Input, NumberedFile, all_inputs, first_input, input_count, numbered_files, section_count}
use Rattle.lk_link.specs.Symbols.{all_files, file_number}
use Rattle.lk_link.proofs.Elements.{at_index, flat_map_at, map_at, map_in}
use Rattle.lk_link.proofs.InputLemmas.{file_stands, files_from_are, inputs_follow}
use Rattle.lk_reach.specs.Walking.{files_of_inputs}
use Rattle.lk_reach.proofs.Numbered.{file_at, section_of, sections_of}
use Rattle.lk_reach.proofs.UnitLemmas.{input_place}
use Rattle.lk_explain.specs.Sharing.{files_of, starts_by}

-- the number of the first section of the file with a number
abbrev pub start_of : List (List InputFile) → ℕ → ℕ
start_of groups k = section_count (take k (all_files groups))

starts_rise : (files : List InputFile) (i j : ℕ) → i ≤ j → section_count (take i files) ≤ section_count (take j files)
starts_rise [] zero j h = omega arith
starts_rise [] (suc i) zero h = absurd (omega arith)
starts_rise [] (suc i) (suc j) h = omega arith
starts_rise (f ∷ files) zero j h = omega arith
starts_rise (f ∷ files) (suc i) zero h = absurd (omega (arith, h))
starts_rise (f ∷ files) (suc i) (suc j) h =
    let first : section_count (take (suc i) (f ∷ files)) ≡ length f.sections + section_count (take i files) = sum_by-cons (λ (x : InputFile). length x.sections) f (take i files) in
    let last : section_count (take (suc j) (f ∷ files)) ≡ length f.sections + section_count (take j files) = sum_by-cons (λ (x : InputFile). length x.sections) f (take j files) in
    omega (arith, first, last, starts_rise files i j (omega (arith, h)))

next_start : (files : List InputFile) (k : ℕ) (f : InputFile) → slice_get files k ≡ Some f → section_count (take (suc k) files) ≡ section_count (take k files) + length f.sections
next_start [] k f h = absurd (cc)
next_start (g ∷ files) zero f h = let same : g ≡ f = cc in omega (arith, ap (λ (x : InputFile). length x.sections) same)
next_start (g ∷ files) (suc k) f h =
    let first : section_count (take (suc k) (g ∷ files)) ≡ length g.sections + section_count (take k files) = sum_by-cons (λ (x : InputFile). length x.sections) g (take k files) in
    let last : section_count (take (suc (suc k)) (g ∷ files)) ≡ length g.sections + section_count (take (suc k) files) = sum_by-cons (λ (x : InputFile). length x.sections) g (take (suc k) files) in
    omega (arith, first, last, next_start files k f h)

-- a file stands among all files at its number
file_numbered : (groups : List (List InputFile)) (k : ℕ) (f : NumberedFile) → slice_get (numbered_files groups) k ≡ Some f → file_number groups f.id ≡ k
file_numbered groups k f h =
    let at = file_at groups k f h in
    let again = file_at groups (file_number groups f.id) f (file_stands groups f.id f.file at.there) in
    again.place ∙ sym at.place

first_at : (groups : List (List InputFile)) (k : ℕ) (f : NumberedFile) → slice_get (numbered_files groups) k ≡ Some f → first_input groups f.id ≡ start_of groups k
first_at groups k f h = ap (start_of groups) (file_numbered groups k f h)

-- ---- halving

less_or_more : (a b : ℕ) → (a < b) ⊎ (b ≤ a)
less_or_more zero zero = inr (omega arith)
less_or_more zero (suc b) = inl (omega arith)
less_or_more (suc a) zero = inr (omega arith)
less_or_more (suc a) (suc b) = elim (less_or_more a b) [ inl lt ↦ inl (omega (arith, lt)) | inr le ↦ inr (omega (arith, le)) ]

starts_is : (groups : List (List InputFile)) (place k : ℕ) (f : NumberedFile) → slice_get (numbered_files groups) k ≡ Some f → starts_by groups place f.id ≡ not (ltb place (start_of groups k))
starts_is groups place k f h =
    ap (λ o. option_map_or (λ (g : InputFile). not (ltb place (first_input groups f.id))) o false) (file_at groups k f h).there ∙ ap (λ n. not (ltb place n)) (first_at groups k f h)

not_false : (b : Bool) → not b ≡ true → b ≡ false
not_false true h = absurd (cc)
not_false false h = refl

not_true : (b : Bool) → not b ≡ false → b ≡ true
not_true true h = refl
not_true false h = absurd (cc)

file_with : (link : LinkInput) (k : ℕ) (id : FileId) → slice_get (files_of link) k ≡ Some id → (f : NumberedFile) × (slice_get (numbered_files link.groups) k ≡ Some f) × (f.id ≡ id)
file_with link k id h = map_at (λ (f : NumberedFile). f.id) (numbered_files link.groups) k id h

-- a file that starts by the place, and those before it
pub starts_before : (link : LinkInput) (place middle : ℕ) (id : FileId) → starts_by link.groups place id ≡ true → slice_get (files_of link) middle ≡ Some id → (k : ℕ) → k < middle + 1 → start_of link.groups k ≤ place
starts_before link place middle id is h k lt =
    let f = file_with link middle id h in
    let told : not (ltb place (start_of link.groups middle)) ≡ true = sym (starts_is link.groups place middle f.0 f.1) ∙ ap (starts_by link.groups place) f.2 ∙ is in
    let by : start_of link.groups middle ≤ place = ltb-false place (start_of link.groups middle) (not_false (ltb place (start_of link.groups middle)) told) in
    omega (arith, by, starts_rise (all_files link.groups) k middle (omega (arith, lt)))

-- one that starts behind it, and those behind that one
pub starts_behind : (link : LinkInput) (place middle : ℕ) (id : FileId) → starts_by link.groups place id ≡ false → slice_get (files_of link) middle ≡ Some id → (k : ℕ) → middle ≤ k → place < start_of link.groups k
starts_behind link place middle id is h k le =
    let f = file_with link middle id h in
    let told : not (ltb place (start_of link.groups middle)) ≡ false = sym (starts_is link.groups place middle f.0 f.1) ∙ ap (starts_by link.groups place) f.2 ∙ is in
    let by : place < start_of link.groups middle = ltb-true place (start_of link.groups middle) (not_true (ltb place (start_of link.groups middle)) told) in
    omega (arith, by, starts_rise (all_files link.groups) middle k le)

cases_below : (a b : ℕ) → (b ≤ a → ⊥) → a < b
cases_below a b h = elim (less_or_more a b) [ inl lt ↦ lt | inr le ↦ absurd (h le) ]

cases_upto : (a b : ℕ) → (b < a → ⊥) → a ≤ b
cases_upto a b h = elim (less_or_more b a) [ inl lt ↦ absurd (h lt) | inr le ↦ le ]

-- the file of an input section is the last one that starts by it
pub record IsLast (link : LinkInput) (place low : ℕ) : Type 0 where
  pub some : 0 < low
  pub file : FileId
  pub there : slice_get (files_of link) (low - 1) ≡ Some file
  pub of : slice_get (files_of_inputs link) place ≡ Some file

pub last_start : (link : LinkInput) (place low : ℕ) → place < input_count link.groups → ((k : ℕ) → k < low → start_of link.groups k ≤ place)
    → ((k : ℕ) → low ≤ k → k < length (files_of link) → place < start_of link.groups k) → IsLast link place low
last_start link place low lt before behind =
    let groups : List (List InputFile) = link.groups in
    let count : length (all_inputs groups) ≡ input_count groups = inputs_follow.count groups in
    let x = at_index (all_inputs groups) place (omega (arith, count, lt)) in
    let at = flat_map_at sections_of (numbered_files groups) place x.0 x.1 in
    let is = section_of at.from at.inner x.0 at.gives in
    let ids : List FileId = files_of link in
    let there : slice_get ids at.outer ≡ Some at.from.id = map_in (λ (f : NumberedFile). f.id) (numbered_files groups) at.outer at.from at.there in
    let within : at.outer < length ids = slice_get_within ids at.outer at.from.id there in
    let file : slice_get (all_files groups) at.outer ≡ Some at.from.file
    = subst (λ fs. slice_get fs at.outer ≡ Some at.from.file) (files_from_are 0 groups) (map_in (λ (f : NumberedFile). f.file) (numbered_files groups) at.outer at.from at.there) in
    let first : first_input groups x.0.file ≡ start_of groups at.outer = ap (first_input groups) is.1.id ∙ first_at groups at.outer at.from at.there in
    let number : first_input groups x.0.file + x.0.index ≡ place = input_place groups place x.0 x.1 in
    let index : x.0.index < length at.from.file.sections = slice_get_within at.from.file.sections x.0.index x.0.section is.1.there in
    let from : start_of groups at.outer ≤ place = omega (arith, first, number) in
    let to : place < start_of groups (suc at.outer) = omega (arith, first, number, index, next_start (all_files groups) at.outer at.from.file file) in
    let is_before : at.outer < low = cases_below at.outer low (λ le. omega (arith, from, behind at.outer le within)) in
    let is_last : low ≤ suc at.outer = cases_upto low (suc at.outer) (λ more. omega (arith, to, before (suc at.outer) more)) in
    let place_is : at.outer ≡ low - 1 = omega (arith, is_before, is_last) in
    record {
      some = omega (arith, is_before);
      file = at.from.id;
      there = ap (slice_get ids) (sym place_is) ∙ there;
      of = map_in (λ (y : Input). y.file) (all_inputs groups) place x.0 x.1 ∙ ap Some is.1.id;
    }

-- where nothing stands is past the end
pub none_past : {X : Type 0} (xs : List X) (k : ℕ) → slice_get xs k ≡ None → length xs ≤ k
none_past [] k h = omega arith
none_past (x ∷ xs) zero h = absurd (cc)
none_past (x ∷ xs) (suc k) h = omega (arith, none_past xs k h)

-- a file that is read from the list of all
pub file_read : (link : LinkInput) (files : List FileId) (k : ℕ) (d : FileId) → files ≡ files_of link → k < length files → slice_get (files_of link) k ≡ Some (get_or files k d)
file_read link files k d all lt = ap (λ fs. slice_get fs k) (sym all) ∙ slice_get-get_or files k d lt
