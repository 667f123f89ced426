-- Where the code of files stands when it is planned: end to end, as long as the sections of the primary part that are loaded
-- for what they hold.
use Rattle.std.specs.Prelude.{ℕ, ◌+◌, ◌&&◌, Bool, false, if◌then◌else◌, List, [], ◌∷◌, filter, nat_lt, sum_by}
use Rattle.std.specs.List.{enumerate_from}
use Rattle.std.specs.Option.{option_map_or}
use Rattle.lk_link.specs.declared.ids.FileId.{FileId}
use Rattle.lk_link.specs.declared.link.LinkInput.{LinkInput}
use Rattle.lk_link.specs.declared.section.InputSection.{InputSection}
use Rattle.lk_link.specs.FileKinds.{is_object}
use Rattle.lk_link.specs.Files.{file_in}
use Rattle.lk_link.specs.Inputs.{NumberedFile, first_input, numbered_files}
use Rattle.lk_link.specs.InputSlots.{is_regular}
use Rattle.lk_link.specs.Marks.{is_marked}
use Rattle.lk_live.specs.declared.live.Live.{Live}
use Rattle.lk_reach.specs.Units.{is_primary_section}

-- the bytes that a section of a file brings to the primary part, by its index there and the number of the file's first section:
-- its size, if it is live and loaded for what it holds
abbrev pub section_bytes : LinkInput → List Bool → ℕ → ℕ × InputSection → ℕ
section_bytes link marks first q =
    if is_marked marks (first + q.0) && is_primary_section link q.1 && is_regular q.1.slot then q.1.size else 0

-- those of a file
abbrev pub primary_bytes : LinkInput → Live → NumberedFile → ℕ
primary_bytes link live f =
    sum_by (section_bytes link live.marks (first_input link.groups f.id)) (enumerate_from 0 f.file.sections)

-- those of all files
abbrev pub total_primary_bytes : LinkInput → Live → ℕ
total_primary_bytes link live = sum_by (primary_bytes link live) (numbered_files link.groups)

-- files end to end from an address on: each with where its primary bytes begin and where they end
unfoldable pub ranges_from : LinkInput → Live → ℕ → List NumberedFile → List (FileId × ℕ × ℕ)
ranges_from link live start [] = []
ranges_from link live start (f ∷ fs) =
    (f.id, start, start + primary_bytes link live f) ∷ ranges_from link live (start + primary_bytes link live f) fs

-- all files, by their numbers; files that are no objects have no sections, so no bytes
abbrev pub file_ranges : LinkInput → Live → ℕ → List (FileId × ℕ × ℕ)
file_ranges link live start = ranges_from link live start (numbered_files link.groups)

-- whether it is the range of an object
abbrev pub is_object_range : LinkInput → FileId × ℕ × ℕ → Bool
is_object_range link r = option_map_or (λ f. is_object f.kind) (file_in link.groups r.0) false

-- those of objects, with bytes or without
abbrev pub primary_ranges : LinkInput → Live → ℕ → List (FileId × ℕ × ℕ)
primary_ranges link live start = filter (is_object_range link) (file_ranges link live start)

-- whether there are bytes
abbrev pub has_bytes : FileId × ℕ × ℕ → Bool
has_bytes r = nat_lt r.1 r.2

-- the objects that are split into blocks
abbrev pub planned_objects : LinkInput → Live → ℕ → List (FileId × ℕ × ℕ)
planned_objects link live start = filter has_bytes (file_ranges link live start)
