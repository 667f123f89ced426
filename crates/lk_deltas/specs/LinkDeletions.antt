-- What is deleted of the sections of all files, and what is left of them.
use Rattle.std.specs.Prelude.{ℕ, List, Option, map, option_and_then, slice_get}
use Rattle.lk_link.specs.declared.file.InputFile.{InputFile}
use Rattle.lk_link.specs.declared.ids.FileId.{FileId}
use Rattle.lk_link.specs.Inputs.{Input, all_inputs}
use Rattle.lk_link.specs.Symbols.{file_number}
use Rattle.lk_deltas.specs.Deletions.{mapped_by}
use Rattle.lk_deltas.specs.DeltaMaps.{deltas_at}

-- for each file by its number over all groups, what is deleted of those of its sections of which something is, by their indexes
abbrev pub Deletions : Type 0
Deletions = List (List (ℕ × List (ℕ × ℕ)))

-- what is deleted of a section by its index, in a file of which this is deleted, if there is an entry for the file
abbrev pub deleted_in : Option (List (ℕ × List (ℕ × ℕ))) → ℕ → Option (List (ℕ × ℕ))
deleted_in entries index = option_and_then (λ es. deltas_at es index) entries

-- what is deleted of the section of a file with an index, if there is an entry for it
abbrev pub deleted_of : List (List InputFile) → Deletions → FileId → ℕ → Option (List (ℕ × ℕ))
deleted_of groups deletions id index = deleted_in (slice_get deletions (file_number groups id)) index

-- where an offset of an input section goes
abbrev pub output_offset : List (List InputFile) → Deletions → FileId → ℕ → ℕ → ℕ
output_offset groups deletions id index offset = mapped_by (deleted_of groups deletions id index) offset

-- the size of an input section without what is deleted of it
abbrev pub size_after : List (List InputFile) → Deletions → Input → ℕ
size_after groups deletions x = output_offset groups deletions x.file x.index x.section.size

-- those of all input sections, by number
abbrev pub sizes_after : List (List InputFile) → Deletions → List ℕ
sizes_after groups deletions = map (size_after groups deletions) (all_inputs groups)
