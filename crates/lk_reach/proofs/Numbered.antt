-- The files of a link and its input sections by their numbers.
use Rattle.std.proofs.Common.{◌≡◌, ℕ, ◌+◌, ◌≤◌, List, All, length, sum_by, take, Some, option_and_then, sym, ap, ◌∙◌, subst, arith}
use Rattle.std.specs.List.{enumerate_from, flat_map, slice_get}
use Rattle.std.proofs.lemmas.Option.{slice_get-get_or}
use Rattle.lk_link.specs.declared.fault.Limited.TheVariants.{Groups, Files}
use Rattle.lk_link.specs.declared.file.InputFile.{InputFile}
use Rattle.lk_link.specs.declared.ids.FileId.{FileId}
use Rattle.lk_link.specs.declared.link.LinkInput.{LinkInput}
use Rattle.lk_link.specs.Files.{AreNumbered, file_in}
use Rattle.lk_link.specs.Inputs.{Input, NumberedFile, all_inputs, group_files, inputs_from, numbered_file, numbered_files, numbered_section}
use Rattle.lk_link.specs.Limits.{counted, limit_of}
use Rattle.lk_link.specs.WellFormed.{IsWellFormed}
use Rattle.lk_link.proofs.Elements.{flat_map_at, map_at, numbered_at}
use Rattle.lk_reach.specs.Askers.{IsFileOf}

-- groups and files are few
pub are_numbered : (link : LinkInput) → IsWellFormed link → AreNumbered link.groups
unfolding counted limit_of
are_numbered link h =
    let groups : length link.groups ≤ 65535 = h.within Groups in
    let files : sum_by length link.groups ≤ 16777216 = h.within Files in
    record { few_groups = groups; few_files = files }

-- ---- files

-- the files of a group with its number
abbrev pub files_of : ℕ × List InputFile → List NumberedFile
files_of q = group_files q.0 0 q.1

-- the place of a file among all files
abbrev pub file_place : List (List InputFile) → FileId → ℕ
file_place groups id = length (flat_map files_of (take id.group (enumerate_from 0 groups))) + id.file

-- where a file stands among all files, and in its group
pub record IsFileAt (groups : List (List InputFile)) (k : ℕ) (f : NumberedFile) : Type 0 where
  pub place : k ≡ file_place groups f.id
  pub there : file_in groups f.id ≡ Some f.file

pub file_at : (groups : List (List InputFile)) (k : ℕ) (f : NumberedFile) → slice_get (numbered_files groups) k ≡ Some f → IsFileAt groups k f
file_at groups k f h =
    let at = flat_map_at files_of (enumerate_from 0 groups) k f h in
    let group = numbered_at 0 groups at.outer at.from at.there in
    let file = map_at (numbered_file at.from.0) (enumerate_from 0 at.from.1) at.inner f at.gives in
    let index = numbered_at 0 at.from.1 at.inner file.0 file.1 in
    let in_group : slice_get at.from.1 file.0.0 ≡ Some file.0.1 = ap (slice_get at.from.1) (omega (arith, index.0)) ∙ index.1 in
    let found : slice_get groups at.from.0 ≡ Some at.from.1 = ap (slice_get groups) (omega (arith, group.0)) ∙ group.1 in
    let outer : at.outer ≡ at.from.0 = omega (arith, group.0) in
    let before : ℕ → ℕ = λ n. length (flat_map files_of (take n (enumerate_from 0 groups))) in
    let same : before at.outer ≡ before at.from.0 = ap before outer in
    let is : IsFileAt groups k (numbered_file at.from.0 file.0)
    = record {
      place = omega (arith, at.place, same, index.0);
      there = ap (option_and_then (λ files. slice_get files file.0.0)) found ∙ in_group;
    } in
    subst (IsFileAt groups k) file.2 is

-- each of all files stands where its number says
pub files_there : (link : LinkInput) → All (IsFileOf link) (numbered_files link.groups)
files_there link k d within = (file_at link.groups k _ (slice_get-get_or (numbered_files link.groups) k d within)).there

-- ---- input sections

-- the sections of a file with their numbers
abbrev pub sections_of : NumberedFile → List Input
sections_of f = inputs_from f.id 0 f.file.sections

-- where an input section stands in its file
pub record IsSectionOf (f : NumberedFile) (x : Input) : Type 0 where
  pub id : x.file ≡ f.id
  pub there : slice_get f.file.sections x.index ≡ Some x.section
  pub numbered : slice_get (sections_of f) x.index ≡ Some x

pub section_of : (f : NumberedFile) (k : ℕ) (x : Input) → slice_get (sections_of f) k ≡ Some x → (x.index ≡ k) × IsSectionOf f x
section_of f k x h =
    let at = map_at (numbered_section f.id) (enumerate_from 0 f.file.sections) k x h in
    let number = numbered_at 0 f.file.sections k at.0 at.1 in
    let index : x.index ≡ k = ap (λ (y : Input). y.index) (sym at.2) ∙ omega (arith, number.0) in
    let section : at.0.1 ≡ x.section = ap (λ (y : Input). y.section) at.2 in (
      index,
      record {
        id = ap (λ (y : Input). y.file) (sym at.2);
        there = ap (slice_get f.file.sections) index ∙ number.1 ∙ ap Some section;
        numbered = ap (slice_get (sections_of f)) index ∙ h;
      },
    )

-- sections of one file with one index are the same, in the same file
pub same_section : (groups : List (List InputFile)) (i j : ℕ) (f g : NumberedFile) (x y : Input)
    → slice_get (numbered_files groups) i ≡ Some f → slice_get (numbered_files groups) j ≡ Some g → IsSectionOf f x → IsSectionOf g y
    → x.file ≡ y.file → x.index ≡ y.index → (f.file ≡ g.file) × (x.section ≡ y.section)
same_section groups i j f g x y at_i at_j in_f in_g file index =
    let ids : f.id ≡ g.id = sym in_f.id ∙ file ∙ in_g.id in
    let first : file_in groups f.id ≡ Some f.file = (file_at groups i f at_i).there in
    let second : file_in groups g.id ≡ Some g.file = (file_at groups j g at_j).there in
    let files : Some f.file ≡ Some g.file = sym first ∙ ap (file_in groups) ids ∙ second in
    let one : f.file ≡ g.file = cc in
    let mine : slice_get f.file.sections x.index ≡ Some x.section = in_f.there in
    let sections : Some x.section ≡ Some y.section
    = sym mine ∙ ap (λ (z : InputFile). slice_get z.sections x.index) one ∙ ap (slice_get g.file.sections) index ∙ in_g.there in
    let section : x.section ≡ y.section = cc in
    (one, section)

-- the place of an input section among all
abbrev input_place : List (List InputFile) → FileId → ℕ → ℕ
input_place groups id index = length (flat_map sections_of (take (file_place groups id) (numbered_files groups))) + index

pub input_at : (groups : List (List InputFile)) (k : ℕ) (x : Input) → slice_get (all_inputs groups) k ≡ Some x → k ≡ input_place groups x.file x.index
input_at groups k x h =
    let files : List NumberedFile = numbered_files groups in
    let at = flat_map_at sections_of files k x h in
    let is = section_of at.from at.inner x at.gives in
    let before : ℕ → ℕ = λ n. length (flat_map sections_of (take n files)) in
    let outer : at.outer ≡ file_place groups x.file = (file_at groups at.outer at.from at.there).place ∙ ap (file_place groups) (sym is.1.id) in
    omega (arith, at.place, is.0, ap before outer)

-- input sections of one file with one index stand at one place
pub one_place : (groups : List (List InputFile)) (j k : ℕ) (x y : Input) → slice_get (all_inputs groups) j ≡ Some x → slice_get (all_inputs groups) k ≡ Some y
    → x.file ≡ y.file → x.index ≡ y.index → j ≡ k
one_place groups j k x y at_j at_k file index =
    let same : input_place groups x.file x.index ≡ input_place groups y.file y.index = ap (λ (id : FileId). input_place groups id x.index) file ∙ ap (input_place groups y.file) index in
    input_at groups j x at_j ∙ same ∙ sym (input_at groups k y at_k)

-- the file of an input section, and the section there
pub file_of_input : (groups : List (List InputFile)) (k : ℕ) (x : Input) → slice_get (all_inputs groups) k ≡ Some x
    → (file : InputFile) × (file_in groups x.file ≡ Some file) × (slice_get file.sections x.index ≡ Some x.section)
file_of_input groups k x h =
    let at = flat_map_at sections_of (numbered_files groups) k x h in
    let is = section_of at.from at.inner x at.gives in
    (at.from.file, ap (file_in groups) is.1.id ∙ (file_at groups at.outer at.from at.there).there, is.1.there)
