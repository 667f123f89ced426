-- Numbers rise file by file; so those of live sections do, and none stands twice.
use Rattle.std.proofs.Common.{◌≡◌, ℕ, ◌+◌, Bool, true, false, cond, List, [], ◌∷◌, length, map, filter, take, Some, sym, ap, ◌∙◌, subst, arith}
use Rattle.std.specs.List.{flat_map, slice_get, sum_by}
use Rattle.std.proofs.lemmas.List.Sums.{sum_by_more}
use Rattle.std.proofs.lemmas.Option.{get_or_from_slice_get, slice_get_within}
use Rattle.lk_link.specs.declared.file.InputFile.{InputFile}
use Rattle.lk_link.specs.declared.ids.FileId.{FileId}
use Rattle.lk_link.specs.declared.link.LinkInput.{LinkInput}
use Rattle.lk_link.specs.declared.section.InputSection.{InputSection}
use Rattle.lk_link.specs.Inputs.{Input, NumberedFile, first_input, input_number, inputs_from, numbered_files, section_count, sections_in}
use Rattle.lk_link.specs.Symbols.{all_files, file_number}
use Rattle.lk_link.proofs.Elements.{map_in}
use Rattle.lk_link.proofs.InputLemmas.{file_stands, files_from_are}
use Rattle.lk_live.specs.declared.live.Live.{Live}
use Rattle.lk_live.specs.Reach.{live_inputs}
use Rattle.lk_reach.proofs.Numbered.{file_at, sections_of}
use Rattle.lk_ranks.proofs.Rising.{IsRising, NoneTwice, rise_flat, rising_lower, rising_once}
use Rattle.lk_sizes.proofs.LiveByFiles.{is_live_input, live_by_files}
use Rattle.lk_sizes.proofs.Takers.{mapped_flat}

-- ---- file by file

-- a file's number is its place
pub place_is_number : (link : LinkInput) (k : ℕ) (f : NumberedFile) → slice_get (numbered_files link.groups) k ≡ Some f → k ≡ file_number link.groups f.id
place_is_number link k f h =
    let here = file_at link.groups k f h in
    let there = file_at link.groups (file_number link.groups f.id) (record { id = f.id; file = f.file }) (file_stands link.groups f.id f.file here.there) in
    here.place ∙ sym there.place

-- what stands before the next file
pub file_more : (size : InputFile → ℕ) (link : LinkInput) (k : ℕ) (f : NumberedFile) → slice_get (numbered_files link.groups) k ≡ Some f
    → sum_by size (take (k + 1) (all_files link.groups)) ≡ sum_by size (take k (all_files link.groups)) + size f.file
file_more size link k f at =
    let all : List InputFile = all_files link.groups in
    let in_all : slice_get all k ≡ Some f.file = ap (λ (fs : List InputFile). slice_get fs k) (sym (files_from_are 0 link.groups)) ∙ map_in (λ (g : NumberedFile). g.file) (numbered_files link.groups) k f at in
    sum_by_more size all k f.file (slice_get_within all k f.file in_all) ∙ ap (λ (g : InputFile). sum_by size (take k all) + size g) (get_or_from_slice_get all k f.file f.file in_all)

-- what each file brings rises from what stands before it on, below what stands before the next
abbrev pub FilesRise : LinkInput → (InputFile → ℕ) → (NumberedFile → List ℕ) → Type 0
FilesRise link size keys = (k : ℕ) (f : NumberedFile) → slice_get (numbered_files link.groups) k ≡ Some f
    → IsRising (sum_by size (take k (all_files link.groups))) (keys f) (sum_by size (take k (all_files link.groups)) + size f.file)

-- so does what all bring
pub files_rise : (link : LinkInput) (size : InputFile → ℕ) (keys : NumberedFile → List ℕ) → FilesRise link size keys
    → IsRising 0 (flat_map keys (numbered_files link.groups)) (sum_by size (take (0 + length (numbered_files link.groups)) (all_files link.groups)))
files_rise link size keys each =
    let before : ℕ → ℕ = λ k. sum_by size (take k (all_files link.groups)) in
    rise_flat keys before 0 (numbered_files link.groups) (λ j f at.
    let place : j ≡ 0 + j = omega arith in
    subst (λ (k : ℕ). IsRising (before k) (keys f) (before (k + 1))) place
    (subst (λ (high : ℕ). IsRising (before j) (keys f) high) (sym (file_more size link j f at)) (each j f at)))

-- ---- sections

-- the number of an input section
abbrev pub number_in : LinkInput → Input → ℕ
number_in link x = input_number link.groups x.file x.index

rising_lives : (link : LinkInput) (p : Input → Bool) (id : FileId) (i : ℕ) (sections : List InputSection)
    → IsRising (input_number link.groups id i) (map (number_in link) (filter p (inputs_from id i sections))) (input_number link.groups id i + length sections)
rising_lives link p id i [] = omega arith
rising_lives link p id i (section ∷ sections) =
    let x : Input = record { file = id; index = i; section = section } in
    let low : ℕ = input_number link.groups id i in
    let high : ℕ = low + length (section ∷ sections) in
    let later : List Input = filter p (inputs_from id (i + 1) sections) in
    let next : input_number link.groups id (i + 1) ≡ low + 1 = omega arith in
    let end : input_number link.groups id (i + 1) + length sections ≡ high = omega arith in
    let rest : IsRising (low + 1) (map (number_in link) later) high
    = subst (λ (n : ℕ). IsRising n (map (number_in link) later) high) next
    (subst (λ (n : ℕ). IsRising (input_number link.groups id (i + 1)) (map (number_in link) later) n) end (rising_lives link p id (i + 1) sections)) in
    elim (p x) as (λ b. IsRising low (map (number_in link) (cond b (x ∷ later) later)) high) [
      | true ↦ (omega arith, rest)
      | false ↦ rising_lower (low + 1) low (map (number_in link) later) high (omega arith) rest
    ]

lives_rise : (link : LinkInput) (p : Input → Bool) → FilesRise link sections_in (λ f. map (number_in link) (filter p (sections_of f)))
lives_rise link p k f at =
    let all : List InputFile = all_files link.groups in
    let first : first_input link.groups f.id ≡ section_count (take k all) = ap (λ (n : ℕ). section_count (take n all)) (sym (place_is_number link k f at)) in
    let start : input_number link.groups f.id 0 ≡ section_count (take k all) = omega (arith, first) in
    subst (λ (n : ℕ). IsRising n (map (number_in link) (filter p (sections_of f))) (n + length f.file.sections)) start (rising_lives link p f.id 0 f.file.sections)

-- the number of no live section stands twice
pub live_once : (link : LinkInput) (live : Live) → NoneTwice (map (number_in link) (live_inputs link live))
live_once link live =
    let files : List NumberedFile = numbered_files link.groups in
    let of_file : NumberedFile → List Input = λ f. filter (is_live_input link live) (sections_of f) in
    let told : flat_map (λ f. map (number_in link) (of_file f)) files ≡ map (number_in link) (live_inputs link live)
    = mapped_flat (number_in link) of_file files ∙ ap (map (number_in link)) (live_by_files link live) in
    subst NoneTwice told
    (rising_once 0 (sum_by sections_in (take (0 + length files) (all_files link.groups))) (flat_map (λ f. map (number_in link) (of_file f)) files)
    (files_rise link sections_in (λ f. map (number_in link) (of_file f)) (lives_rise link (is_live_input link live))))
