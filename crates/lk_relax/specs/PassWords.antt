-- What the code of a pass goes by, and what passes it on. Contracts of private functions speak of these.
use Rattle.std.specs.Prelude.{◌≡◌, ℕ, ◌-◌, ◌==◌, ◌&&◌, All, Bool, false, if◌then◌else◌, List, [], ◌∷◌, Option, filter, map, nat_le, slice_set, sum_by}
use Rattle.std.specs.List.{list_any, slice_index_or}
use Rattle.std.specs.Option.{option_map_or}
use Rattle.lk_link.specs.declared.file.InputFile.{InputFile}
use Rattle.lk_link.specs.declared.ids.FileId.{FileId}
use Rattle.lk_link.specs.declared.link.LinkInput.{LinkInput}
use Rattle.lk_link.specs.Inputs.{Input, all_inputs}
use Rattle.lk_link.specs.Symbols.{file_number}
use Rattle.lk_sizes.specs.Harvest.{capacity_by}
use Rattle.lk_deltas.specs.Candidates.{shrunk}
use Rattle.lk_deltas.specs.DeltaMaps.{with_ranges}
use Rattle.lk_deltas.specs.LinkDeletions.{Deletions}
use Rattle.lk_relax.specs.Scan.{CanBeScanned, PassState, ranges_of, scanned, told}
use Rattle.lk_relax.specs.Stages.{deletions_by, is_among}

-- ---- what is deleted

-- the deletions, with these ranges for a section of a file in place of those that it has
abbrev pub with_deleted : List (List InputFile) → Deletions → FileId → ℕ → List (ℕ × ℕ) → Deletions
with_deleted groups deletions id index ranges =
    let k = file_number groups id in
    slice_set deletions k (with_ranges index ranges (slice_index_or deletions k []))

-- they have an entry for each file, and in it one for each section of which something is deleted
abbrev pub AreWhole : LinkInput → Deletions → Type 0
AreWhole link deletions = deletions ≡ deletions_by link (λ x. ranges_of link.groups deletions x.file x.index)

-- what is deleted of a section behind a pass over some, by how all stands before it
abbrev pub ranges_by : PassState → List (FileId × ℕ) → Input → List (ℕ × ℕ)
ranges_by by scan x =
    let old = ranges_of by.link.groups by.deletions x.file x.index in
    if is_among scan x then shrunk (told by x.file x.index) old x.section.relax else old

-- what is deleted behind it
abbrev pub deleted_by : PassState → List (FileId × ℕ) → Deletions
deleted_by by scan = deletions_by by.link (ranges_by by scan)

-- ---- what is looked at

-- a section of a file is named by these
abbrev pub is_named : FileId × ℕ → FileId × ℕ → Bool
is_named q r = r.0.group == q.0.group && (r.0.file == q.0.file) && (r.1 == q.1)

-- no section stands twice among some
abbrev pub StandOnce : List (FileId × ℕ) → Type 0
StandOnce [] = Unit {0}
StandOnce (q ∷ qs) = (list_any (λ r. is_named r q) qs ≡ false) × StandOnce qs

-- how all stands of this link, where so much is deleted
abbrev pub standing_with : LinkInput → Deletions → PassState → PassState
standing_with link deletions by = record by { link = link; deletions = deletions }

-- this was found in these sections, each of which can be looked at and stands there once, by how all stands before the pass
pub record IsFound (link : LinkInput) (deletions : Deletions) (by : PassState) (scan : List (FileId × ℕ)) (found : List (FileId × ℕ × List (ℕ × ℕ) × Option ℕ)) : Type 0 where
  pub whole : AreWhole link deletions
  pub can : All (λ q. CanBeScanned link.groups deletions q.0 q.1) scan
  pub once : StandOnce scan
  pub found_is : found ≡ map (scanned (standing_with link deletions by)) scan

-- ---- what falls

-- by how many bytes the capacities of input sections fall from some sizes to others
abbrev pub fall_between : LinkInput → List ℕ → List ℕ → ℕ
fall_between link before after = sum_by (λ x. capacity_by link before x - capacity_by link after x) (all_inputs link.groups)

-- a margin is no more bytes than fell
abbrev pub is_within : ℕ → Option ℕ → Bool
is_within fall margin = option_map_or (λ m. nat_le m fall) margin false

-- sections in which something was found, named, that are to be looked at again
abbrev pub near_ones : ℕ → List (FileId × ℕ × List (ℕ × ℕ) × Option ℕ) → List (FileId × ℕ)
near_ones fall found = map (λ f. (f.0, f.1)) (filter (λ f. is_within fall f.3) found)
