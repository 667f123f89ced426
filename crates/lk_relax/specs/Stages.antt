-- Relaxation of a link: passes from stage to stage, and where they end.
use Rattle.std.specs.Prelude.{◌≡◌, ◌⊎◌, ◌≤◌, ℕ, zero, suc, ◌-◌, ◌==◌, ◌&&◌, ◌||◌, not, Bool, true, false, MatchBool, if◌then◌else◌, List, [], Option, Some, None, filter, is_some, length, map, nat_le, slice_get, sum_by}
use Rattle.std.specs.List.{enumerate_from, filter_map, list_any}
use Rattle.std.specs.Option.{option_map_or}
use Rattle.lk_link.specs.declared.ids.FileId.{FileId}
use Rattle.lk_link.specs.declared.link.LinkInput.{LinkInput}
use Rattle.lk_link.specs.declared.plan.attributes.TheConstants.{EXEC}
use Rattle.lk_link.specs.Inputs.{Input, NumberedFile, all_inputs, inputs_from, numbered_files}
use Rattle.lk_link.specs.Marks.{is_marked}
use Rattle.lk_link.specs.Parts.{part_at}
use Rattle.lk_link.specs.PlanSections.{is_set}
use Rattle.lk_link.specs.Sizes.{capacity}
use Rattle.lk_link.specs.Target.{Target}
use Rattle.lk_link.specs.WellFormed.{IsWellFormed}
use Rattle.lk_expressions.specs.Records.{Record}
use Rattle.lk_place.specs.declared.cursors.Cursors.{Cursors}
use Rattle.lk_place.specs.declared.error.PlaceError.{PlaceError}
use Rattle.lk_place.specs.Placement.{IsPlaced, placement_refusal}
use Rattle.lk_place.specs.Setting.{Setting, setting_of}
use Rattle.lk_deltas.specs.Candidates.{AreCandidates, AreOf, shrunk}
use Rattle.lk_sizes.specs.Owners.{Filling}
use Rattle.lk_sizes.specs.PartOwners.{part_sizes}
use Rattle.lk_deltas.specs.LinkDeletions.{Deletions, size_after, sizes_after}
use Rattle.lk_relax.specs.Positions.{has_position, section_positions, symbol_positions}
use Rattle.lk_relax.specs.Scan.{CanBeScanned, PassState, ranges_of, scanned, told}

-- ---- what relaxation goes by

-- what fills the parts of a link, for which machine it is, and the bytes of its headers
pub record Relaxing : Type 0 where
  pub filling : Filling
  pub target : Target
  pub headers : ℕ

abbrev pub link_of : Relaxing → LinkInput
link_of by = by.filling.content.link

-- what fills the parts where some bytes are deleted
abbrev pub filling_after : Relaxing → Deletions → Filling
filling_after by deletions = record by.filling { sizes = sizes_after (link_of by).groups deletions }

-- what is placed then: with the bytes of the parts and the positions of symbols by what is deleted
abbrev pub setting_after : Relaxing → Deletions → Setting
setting_after by deletions =
    let filling = filling_after by deletions in
    setting_of (link_of by) by.target (part_sizes filling) by.headers (symbol_positions (link_of by).groups deletions (section_positions filling))

-- ---- stages

-- what is deleted; which sections the next pass looks at; by how many bytes the capacities fell in the pass before, if there was one; and
-- the placement that stands, with what was deleted when it was made
pub record Stage : Type 0 where
  pub deletions : Deletions
  pub scan : List (FileId × ℕ)
  pub fell : Option ℕ
  pub walked : Deletions
  pub states : List Cursors
  pub records : List Record

-- how all stands at a stage
abbrev pub standing_at : Relaxing → Stage → PassState
standing_at by a = record {
  link = link_of by;
  live = by.filling.content.live;
  sections = section_positions (filling_after by a.deletions);
  symbols = symbol_positions (link_of by).groups a.deletions (section_positions (filling_after by a.deletions));
  parts = a.records;
  deletions = a.deletions;
}

-- nothing is left to look at, or the capacities fell by nothing
abbrev pub is_done : Stage → Bool
is_done a = (length a.scan == 0) || option_map_or (λ n. n == 0) a.fell false

-- the refusal of the placement that stands
abbrev pub refusal_of : Relaxing → Stage → Option PlaceError
refusal_of by a = placement_refusal (setting_after by a.walked) a.states a.records

-- there is no pass behind it
abbrev pub has_ended : Relaxing → Stage → Bool
has_ended by a = is_done a || is_some (refusal_of by a)

-- ---- a pass

-- ranges of input sections as deletions: an entry for each section that has some
abbrev pub entry_of : (Input → List (ℕ × ℕ)) → Input → Option (ℕ × List (ℕ × ℕ))
entry_of ranges x = if length (ranges x) == 0 then None else Some (x.index, ranges x)

abbrev pub file_entries : (Input → List (ℕ × ℕ)) → NumberedFile → List (ℕ × List (ℕ × ℕ))
file_entries ranges f = filter_map (entry_of ranges) (inputs_from f.id 0 f.file.sections)

abbrev pub deletions_by : LinkInput → (Input → List (ℕ × ℕ)) → Deletions
deletions_by link ranges = map (file_entries ranges) (numbered_files link.groups)

-- a section is among some
abbrev pub is_among : List (FileId × ℕ) → Input → Bool
is_among scan x = list_any (λ q. q.0.group == x.file.group && (q.0.file == x.file.file) && (q.1 == x.index)) scan

-- what is deleted of a section behind a pass: of one that it looks at, the bytes of the candidates that are gone or go
abbrev pub ranges_behind : Relaxing → Stage → Input → List (ℕ × ℕ)
ranges_behind by a x =
    let old = ranges_of (link_of by).groups a.deletions x.file x.index in
    if is_among a.scan x then shrunk (told (standing_at by a) x.file x.index) old x.section.relax else old

-- what is deleted behind a pass
abbrev pub shrink_pass : Relaxing → Stage → Deletions
shrink_pass by a = deletions_by (link_of by) (ranges_behind by a)

-- the bytes that a section takes in its part where some are deleted
abbrev pub capacity_after : Relaxing → Deletions → Input → ℕ
capacity_after by deletions x = capacity (part_at (link_of by).plan.sections x.section.part) (size_after (link_of by).groups deletions x)

-- by how many bytes the capacities fall in a pass
abbrev pub fall_of : Relaxing → Stage → ℕ
fall_of by a = sum_by (λ x. capacity_after by a.deletions x - capacity_after by (shrink_pass by a) x) (all_inputs (link_of by).groups)

-- a section to look at again: one of its candidates missed by no more bytes than that
abbrev pub is_near : Relaxing → Stage → FileId × ℕ → Bool
is_near by a q = option_map_or (λ m. nat_le m (fall_of by a)) (scanned (standing_at by a) q).3 false

-- a placement stays
pub record SameWalk (a b : Stage) : Type 0 where
  pub walked : b.walked ≡ a.walked
  pub states : b.states ≡ a.states
  pub records : b.records ≡ a.records

-- it is made anew, by all that is deleted
pub record NewWalk (by : Relaxing) (b : Stage) : Type 0 where
  pub walked : b.walked ≡ b.deletions
  pub placed : IsPlaced (setting_after by b.walked) b.states b.records

-- a pass leads from a stage to the next one; where capacities fall by nothing, the placement stays, though bytes may be deleted
pub record IsPass (by : Relaxing) (a b : Stage) : Type 0 where
  pub goes_on : has_ended by a ≡ false
  pub deletions : b.deletions ≡ shrink_pass by a
  pub scan : b.scan ≡ filter (is_near by a) a.scan
  pub fell : b.fell ≡ Some (fall_of by a)
  pub walk : MatchBool (fall_of by a == 0) (SameWalk a b) (NewWalk by b)

-- ---- relaxation

-- a section that can lose bytes: with its number, a live one that has a position, is code and has candidates
abbrev pub can_shrink : Relaxing → ℕ × Input → Bool
can_shrink by q =
    has_position (is_marked by.filling.content.live.marks q.0) q.1.section && is_set EXEC q.1.section.attrs && not (length q.1.section.relax == 0)

-- those that the first pass looks at: all, where the link is relaxed
abbrev pub first_scan : Relaxing → List (FileId × ℕ)
first_scan by =
    if (link_of by).options.relax
    then map (λ q. (q.1.file, q.1.index)) (filter (can_shrink by) (enumerate_from 0 (all_inputs (link_of by).groups)))
    else []

-- at first nothing is deleted
pub record IsFirst (by : Relaxing) (a : Stage) : Type 0 where
  pub deletions : a.deletions ≡ deletions_by (link_of by) (λ _. [])
  pub scan : a.scan ≡ first_scan by
  pub fell : a.fell ≡ None
  pub walk : NewWalk by a

-- at most so many passes lead from a stage to one that has ended, or there are as many
abbrev pub LeadsTo : Relaxing → ℕ → Stage → Stage → Type 0
LeadsTo by zero a z = a ≡ z
LeadsTo by (suc k) a z = ((has_ended by a ≡ true) × (a ≡ z)) ⊎ ((b : Stage) × IsPass by a b × LeadsTo by k b z)

-- the stage that relaxation ends at, behind five passes at most
pub record IsRelaxed (by : Relaxing) (z : Stage) : Type 0 where
  pub first : Stage
  pub begins : IsFirst by first
  pub leads : LeadsTo by 5 first z

-- ---- laws

-- what is deleted of each section is read back
abbrev pub DeletionsAreRead : Type 0
DeletionsAreRead = (link : LinkInput) (ranges : Input → List (ℕ × ℕ)) (k : ℕ) (x : Input) → slice_get (all_inputs link.groups) k ≡ Some x
    → ranges_of link.groups (deletions_by link ranges) x.file x.index ≡ ranges x

-- the sections that the first pass looks at can be looked at
abbrev pub FirstCanBeScanned : Type 0
FirstCanBeScanned = (by : Relaxing) (a : Stage) (k : ℕ) (q : FileId × ℕ) → IsFirst by a → slice_get a.scan k ≡ Some q
    → CanBeScanned (link_of by).groups a.deletions q.0 q.1

-- a pass leaves bytes of some candidates deleted of a section of whose candidates all can go, and the section has no more bytes than before
abbrev pub PassesShrink : Type 0
PassesShrink = (by : Relaxing) (a b : Stage) (k : ℕ) (x : Input) → IsPass by a b → slice_get (all_inputs (link_of by).groups) k ≡ Some x
    → AreCandidates x.section.relax → AreOf (ranges_of (link_of by).groups a.deletions x.file x.index) x.section.relax
    → AreOf (ranges_of (link_of by).groups b.deletions x.file x.index) x.section.relax
    × (size_after (link_of by).groups b.deletions x ≤ size_after (link_of by).groups a.deletions x)

-- of a well-formed link there is one such stage alone
abbrev pub RelaxedIsOne : Type 0
RelaxedIsOne = (by : Relaxing) (y z : Stage) → IsWellFormed (link_of by) → IsRelaxed by y → IsRelaxed by z → y ≡ z

-- and there is one
abbrev pub RelaxedExists : Type 0
RelaxedExists = (by : Relaxing) → IsWellFormed (link_of by) → (z : Stage) × IsRelaxed by z
