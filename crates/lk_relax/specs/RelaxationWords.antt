-- What passes hand on from one to the next. Contracts of private functions speak of these.
use Rattle.std.specs.Prelude.{◌≡◌, ℕ, ◌^◌, ◌==◌, ◌&&◌, not, Bool, false, filter, if◌then◌else◌, length, List, [], map, min, Option, Some, Result, Ok, Err}
use Rattle.std.specs.List.{enumerate_from}
use Rattle.std.specs.Option.{option_map_or}
use Rattle.lk_link.specs.declared.ids.FileId.{FileId}
use Rattle.lk_link.specs.declared.link.LinkInput.{LinkInput}
use Rattle.lk_link.specs.declared.plan.attributes.TheConstants.{EXEC}
use Rattle.lk_link.specs.declared.section.InputSection.{InputSection}
use Rattle.lk_link.specs.Inputs.{all_inputs}
use Rattle.lk_link.specs.Marks.{is_marked}
use Rattle.lk_link.specs.PlanSections.{is_set}
use Rattle.lk_live.specs.declared.live.Live.{Live}
use Rattle.lk_expressions.specs.Records.{Record}
use Rattle.lk_place.specs.declared.cursors.Cursors.{Cursors}
use Rattle.lk_place.specs.declared.error.PlaceError.{PlaceError}
use Rattle.lk_place.specs.declared.error.PlaceError.TheVariants.{NoMemory}
use Rattle.lk_place.specs.declared.walk.Placed.{Placed}
use Rattle.lk_place.specs.Answers.{ArePlaced, IsRefused}
use Rattle.lk_sizes.specs.declared.error.SizeError.{SizeError}
use Rattle.lk_sizes.specs.declared.error.SizeError.TheVariants.{AddressOverflow}
use Rattle.lk_sizes.specs.Owners.{AreThunkOwners, Filling}
use Rattle.lk_sizes.specs.OwnersRecord.{OwnersRecord}
use Rattle.lk_sizes.specs.Sizing.{AreFilled}
use Rattle.lk_relax.specs.declared.passes.InHand.{InHand}
use Rattle.lk_relax.specs.declared.passes.Passed.{Passed}
use Rattle.lk_relax.specs.declared.passes.Shrunk.{Shrunk}
use Rattle.lk_relax.specs.declared.relaxation.Begun.{Begun}
use Rattle.lk_relax.specs.declared.relaxation.Begun.TheVariants as begun
use Rattle.lk_relax.specs.declared.relaxation.Looks.{Looks}
use Rattle.lk_relax.specs.declared.relaxation.LinkPositions.{LinkPositions}
use Rattle.lk_relax.specs.declared.relaxation.RelaxedParts.{RelaxedParts}
use Rattle.lk_relax.specs.declared.relaxation.Turned.{Turned}
use Rattle.lk_relax.specs.declared.relaxation.Turned.TheVariants.{Last, Next}
use Rattle.lk_deltas.specs.LinkDeletions.{Deletions, sizes_after}
use Rattle.lk_relax.specs.PassWords.{AreWhole, StandOnce}
use Rattle.lk_relax.specs.Positions.{has_position, section_positions, symbol_positions}
use Rattle.lk_relax.specs.RelaxedLaws.{IsShrunk, nothing_deleted}
use Rattle.lk_relax.specs.Stages.{IsPass, IsRelaxed, LeadsTo, Relaxing, Stage, fall_of, filling_after, is_near, link_of, refusal_of, setting_after, shrink_pass}

-- a stage whose placement goes by all that is deleted
abbrev pub stage_of : Deletions → List (FileId × ℕ) → Option ℕ → List Cursors → List Record → Stage
stage_of deletions scan fell states records = record { deletions = deletions; scan = scan; fell = fell; walked = deletions; states = states; records = records }

-- what is in hand is a stage that isn't done but for want of sections to look at, and isn't refused
pub record IsStage (by : Relaxing) (hand : InHand) : Type 0 where
  pub fell : Option ℕ
  pub going : option_map_or (λ n. n == 0) fell false ≡ false
  pub thunks : AreThunkOwners (link_of by) by.filling.thunks
  pub filled : AreFilled (filling_after by hand.deltas.items) hand.owners
  pub stands : ArePlaced (setting_after by hand.deltas.items) hand.placed
  pub shrunk : IsShrunk by (stage_of hand.deltas.items hand.scan.items fell stands.states hand.placed.parts)
  pub whole : AreWhole (link_of by) hand.deltas.items
  pub once : StandOnce hand.scan.items
  pub sections : hand.sections.items ≡ section_positions (filling_after by hand.deltas.items)
  pub symbols : hand.symbols ≡ symbol_positions (link_of by).groups hand.deltas.items hand.sections.items

-- the stage that it is
abbrev pub stage_in : {by : Relaxing} (hand : InHand) → IsStage by hand → Stage
stage_in hand is = stage_of hand.deltas.items hand.scan.items is.fell is.stands.states hand.placed.parts

-- what it leaves where it is the last
abbrev pub end_of : InHand → RelaxedParts
end_of hand = record { owners = hand.owners; deltas = hand.deltas; placed = hand.placed }

-- it is in hand, and so many passes from it lead to where relaxation ends
pub record IsInHand (by : Relaxing) (left : ℕ) (hand : InHand) : Type 0 where
  pub is : IsStage by hand
  pub leads : (z : Stage) → LeadsTo by left (stage_in hand is) z → IsRelaxed by z

-- a pass over what is looked at at a stage deletes what more goes, leaves all else in hand as it was, and tells this
pub record HasShrunk (by : Relaxing) (a : Stage) (old new : InHand) (shrunk : Shrunk) : Type 0 where
  pub deleted : new.deltas.items ≡ shrink_pass by a
  pub sizes : shrunk.sizes.items ≡ sizes_after (link_of by).groups (shrink_pass by a)
  pub scan : shrunk.scan.items ≡ filter (is_near by a) a.scan
  pub fall : min shrunk.fall (2 ^ 64) ≡ min (fall_of by a) (2 ^ 64)
  pub owners : new.owners ≡ old.owners
  pub placed : new.placed ≡ old.placed

-- a pass over what is looked at at a stage leaves this, and the placement as it was
pub record IsPassed (by : Relaxing) (a : Stage) (hand : InHand) (passed : Passed) : Type 0 where
  pub deleted : passed.deltas.items ≡ shrink_pass by a
  pub scan : passed.scan.items ≡ filter (is_near by a) a.scan
  pub fall : min passed.fall (2 ^ 64) ≡ min (fall_of by a) (2 ^ 64)
  pub filled : AreFilled (filling_after by (shrink_pass by a)) passed.owners
  pub placed : passed.placed ≡ hand.placed

-- the stage behind a pass by which capacities fell by nothing: the placement stays
abbrev pub behind_still : Relaxing → Stage → Stage
behind_still by a = record {
  deletions = shrink_pass by a;
  scan = filter (is_near by a) a.scan;
  fell = Some (fall_of by a);
  walked = a.walked;
  states = a.states;
  records = a.records;
}

-- a pass leads to that stage, and these are what comes into the parts there and what is deleted
pub record IsStill (by : Relaxing) (a : Stage) (hand : InHand) (parts : RelaxedParts) : Type 0 where
  pub pass : IsPass by a (behind_still by a)
  pub still : fall_of by a ≡ 0
  pub deleted : parts.deltas.items ≡ shrink_pass by a
  pub filled : AreFilled (filling_after by (shrink_pass by a)) parts.owners
  pub placed : parts.placed ≡ hand.placed

-- a pass leads to the stage in hand
pub record IsNext (by : Relaxing) (a : Stage) (hand : InHand) : Type 0 where
  pub is : IsStage by hand
  pub pass : IsPass by a (stage_in hand is)

-- a pass leads to a stage whose placement is refused
pub record TurnRefused (by : Relaxing) (a : Stage) (error : PlaceError) : Type 0 where
  pub next : Stage
  pub pass : IsPass by a next
  pub refused : refusal_of by next ≡ Some error

-- what comes of a pass from a stage; nothing is said for want of memory
abbrev pub GivesTurn : Relaxing → Stage → InHand → Result Turned PlaceError → Type 0
GivesTurn by a hand (Ok (Last parts)) = IsStill by a hand parts
GivesTurn by a hand (Ok (Next next)) = IsNext by a next
GivesTurn by a hand (Err NoMemory) = Unit {0}
GivesTurn by a hand (Err error) = TurnRefused by a error

-- where all stands by what is deleted
pub record ArePlaces (by : Relaxing) (deletions : Deletions) (places : LinkPositions) : Type 0 where
  pub stands : ArePlaced (setting_after by deletions) places.placed
  pub sections : places.sections.items ≡ section_positions (filling_after by deletions)
  pub symbols : places.symbols ≡ symbol_positions (link_of by).groups deletions places.sections.items

-- it does so, or that is refused; nothing is said for want of memory
abbrev pub GivesPlaces : Relaxing → Deletions → Result LinkPositions PlaceError → Type 0
GivesPlaces by deletions (Ok places) = ArePlaces by deletions places
GivesPlaces by deletions (Err NoMemory) = Unit {0}
GivesPlaces by deletions (Err error) = IsRefused (setting_after by deletions) error

-- all parts are placed anew by what is deleted behind a pass
pub record IsAnew (by : Relaxing) (passed : Passed) (hand : InHand) : Type 0 where
  pub owners : hand.owners ≡ passed.owners
  pub deltas : hand.deltas.items ≡ passed.deltas.items
  pub scan : hand.scan.items ≡ passed.scan.items
  pub stands : ArePlaced (setting_after by passed.deltas.items) hand.placed
  pub sections : hand.sections.items ≡ section_positions (filling_after by passed.deltas.items)
  pub symbols : hand.symbols ≡ symbol_positions (link_of by).groups passed.deltas.items hand.sections.items

-- they are, or that is refused; nothing is said for want of memory
abbrev pub GivesAnew : Relaxing → Passed → Result InHand PlaceError → Type 0
GivesAnew by passed (Ok hand) = IsAnew by passed hand
GivesAnew by passed (Err NoMemory) = Unit {0}
GivesAnew by passed (Err error) = IsRefused (setting_after by passed.deltas.items) error

-- ---- the sections that the first pass looks at

-- whether a section with its number can lose bytes, by marks
abbrev pub can_shrink_by : List Bool → ℕ × InputSection → Bool
can_shrink_by marks q = has_position (is_marked marks q.0) q.1 && is_set EXEC q.1.attrs && not (length q.1.relax == 0)

-- those of a link that is relaxed, by what is live of it
abbrev pub first_sections : LinkInput → Live → List (FileId × ℕ)
first_sections link live =
    if link.options.relax
    then map (λ q. (q.1.file, q.1.index)) (filter (λ q. can_shrink_by live.marks (q.0, q.1.section)) (enumerate_from 0 (all_inputs link.groups)))
    else []

-- ---- how relaxation begins

-- what the first pass over a filling goes by, where nothing is deleted
pub record AreLooks (filling : Filling) (looks : Looks) : Type 0 where
  pub deltas : looks.deltas.items ≡ nothing_deleted filling.content.link
  pub scan : looks.scan.items ≡ first_sections filling.content.link filling.content.live
  pub sections : looks.sections.items ≡ section_positions filling
  pub symbols : looks.symbols ≡ symbol_positions filling.content.link.groups looks.deltas.items looks.sections.items

-- relaxation begins so: there is nothing to look at, or this
abbrev pub HasBegun : Filling → Begun → Type 0
HasBegun filling (begun.Ended deltas) =
    (deltas.items ≡ nothing_deleted filling.content.link) × (length (first_sections filling.content.link filling.content.live) ≡ 0)
HasBegun filling (begun.Looks looks) = AreLooks filling looks

-- what is in hand for it, with what comes into the parts and the placement
abbrev pub in_hand : OwnersRecord → Placed → Looks → InHand
in_hand owners placed looks = record {
  owners = owners;
  deltas = looks.deltas;
  placed = placed;
  scan = looks.scan;
  sections = looks.sections;
  symbols = looks.symbols;
}

-- ---- sizes that fit

-- sizing refuses no part
abbrev pub Fits : Result OwnersRecord SizeError → Type 0
Fits (Err (AddressOverflow place)) = ⊥
Fits _ = Unit {0}
