-- The first file, and the first symbol or input section, at which a rule on files is broken.
use Rattle.std.specs.Prelude.{ℕ, ◌==◌, ◌&&◌, not, Bool, if◌then◌else◌, List, Option, Some, option_map, find}
use Rattle.lk_link.specs.declared.fault.Place.{Place}
use Rattle.lk_link.specs.declared.fault.Place.TheVariants as place
use Rattle.lk_link.specs.declared.file.InputFile.{InputFile}
use Rattle.lk_link.specs.declared.ids.FileId.{FileId}
use Rattle.lk_link.specs.FileKinds.{is_prelude}
use Rattle.lk_link.specs.Inputs.{NumberedFile, numbered_files}
use Rattle.lk_link.specs.Rules.{begins_with_prelude}
use Rattle.lk_check.specs.FirstAnswer.{first_of, first_bad}

-- ---- of what files have

-- the first of what a file has that isn't good, by the file and its index there
abbrev pub first_bad_in_file : {X : Type 0} → (InputFile → List X) → (InputFile → X → Bool) → NumberedFile → Option (FileId × ℕ)
first_bad_in_file list good f = option_map (λ i. (f.id, i)) (first_bad (good f.file) (list f.file))

-- the first such over all files, in order
abbrev pub first_bad_in_files : {X : Type 0} → (InputFile → List X) → (InputFile → X → Bool) → List (List InputFile) → Option (FileId × ℕ)
first_bad_in_files list good groups = first_of (first_bad_in_file list good) (numbered_files groups)

-- ---- of files

-- the place of the first file of which this holds
abbrev pub first_file_where : (NumberedFile → Bool) → List (List InputFile) → Option Place
first_file_where holds groups = option_map (λ f. place.File f.id) (find holds (numbered_files groups))

-- whether a file is a prelude, and not the first file
abbrev pub is_other_prelude : NumberedFile → Bool
is_other_prelude f = is_prelude f.file.kind && not (f.id.group == 0 && f.id.file == 0)

-- where the rule on the prelude is broken first; a missing prelude is missing at the first file
abbrev pub first_bad_prelude : List (List InputFile) → Option Place
first_bad_prelude groups =
    if begins_with_prelude groups then first_file_where is_other_prelude groups else Some (place.File (record { group = 0; file = 0 }))
