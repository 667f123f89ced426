-- A pass leads from a stage to the next.
use Rattle.std.proofs.Common.{◌≡◌, ◌==◌, ◌||◌, ◌<◌, ◌^◌, ℕ, Bool, true, false, MatchBool, List, Some, Result, Ok, Err, filter, length, min, refl, sym, ap, subst, ◌∙◌, arith, eq-eqb, ne_eqb}
use Rattle.std.specs.Prelude.{is_some}
use Rattle.std.specs.Option.{option_map_or}
use Rattle.std.specs.Result.{IsErrAnd}
use Rattle.lk_link.specs.declared.ids.FileId.{FileId}
use Rattle.lk_link.specs.declared.link.LinkInput.{LinkInput}
use Rattle.lk_link.specs.Inputs.{Input, input_number}
use Rattle.lk_link.specs.WellFormed.{IsWellFormed}
use Rattle.lk_expressions.specs.Records.{Record}
use Rattle.lk_place.specs.declared.cursors.Cursors.{Cursors}
use Rattle.lk_place.specs.declared.error.PlaceError.{PlaceError}
use Rattle.lk_place.specs.declared.error.PlaceError.TheVariants.{AddressOverflow, BaseTooLow, Expression, LocationBackwards, NoMemory, OutsideRegion, RegionDuplicate, RegionOverflow, RegionUnknown, SectionOutsideSegments}
use Rattle.lk_place.specs.Answers.{ArePlaced, IsRefused}
use Rattle.lk_place.specs.Placement.{IsPlaced}
use Rattle.lk_sizes.specs.OwnersRecord.{OwnersRecord}
use Rattle.lk_sizes.specs.Sizing.{AreFilled}
use Rattle.lk_relax.specs.declared.passes.InHand.{InHand}
use Rattle.lk_relax.specs.declared.passes.Passed.{Passed}
use Rattle.lk_relax.specs.declared.relaxation.Turned.{Turned}
use Rattle.lk_deltas.specs.LinkDeletions.{Deletions}
use Rattle.lk_relax.specs.PassWords.{AreWhole, StandOnce}
use Rattle.lk_relax.specs.Positions.{section_positions, symbol_positions}
use Rattle.lk_relax.specs.RelaxationWords.{GivesAnew, GivesTurn, IsAnew, IsNext, IsPassed, IsStage, IsStill, TurnRefused, behind_still, stage_in, stage_of}
use Rattle.lk_relax.specs.RelaxedLaws.{PassesStayShrunk}
use Rattle.lk_relax.specs.Scan.{ranges_of}
use Rattle.lk_relax.specs.Stages.{IsPass, NewWalk, Relaxing, SameWalk, Stage, deletions_by, fall_of, filling_after, has_ended, is_near, link_of, refusal_of, setting_after, shrink_pass}
use Rattle.lk_relax.proofs.Deleting.{deleted_alike}
use Rattle.lk_relax.proofs.Falling.{once_kept}
use Rattle.lk_relax.proofs.ReadBack.{deletions_are_read}

-- ---- the stage before

ends_not : (a b c : Bool) → a ≡ false → b ≡ false → c ≡ false → ((a || b) || c) ≡ false
ends_not true b c h i j = absurd (cc)
ends_not false true c h i j = absurd (cc)
ends_not false false c h i j = j

-- with sections to look at a pass follows
pub goes_on : (by : Relaxing) (hand : InHand) (is : IsStage by hand) → 0 < length hand.scan.items → has_ended by (stage_in hand is) ≡ false
goes_on by hand is some =
    ends_not (length hand.scan.items == 0) (option_map_or (λ n. n == 0) is.fell false) (is_some (refusal_of by (stage_in hand is)))
    (ne_eqb (length hand.scan.items) 0 (λ none. absurd (omega (arith, some, none)))) is.going (ap is_some is.stands.unrefused)

-- what comes into the parts behind a pass
pub passed_filled : (by : Relaxing) (a : Stage) (hand : InHand) (passed : Passed) → IsPassed by a hand passed → AreFilled (filling_after by passed.deltas.items) passed.owners
passed_filled by a hand passed h = subst (λ (ds : Deletions). AreFilled (filling_after by ds) passed.owners) (sym h.deleted) h.filled

-- ---- where capacities fall by nothing

falls_not : (fall total : ℕ) → min fall (2 ^ 64) ≡ min total (2 ^ 64) → fall ≡ 0 → total ≡ 0
falls_not fall total same none = omega (arith, same, none)

falls : (fall total : ℕ) → min fall (2 ^ 64) ≡ min total (2 ^ 64) → (fall ≡ 0 → ⊥) → (total == 0) ≡ false
falls fall total same some = ne_eqb total 0 (λ none. some (omega (arith, same, none)))

pub still_turn : (by : Relaxing) (hand : InHand) (is : IsStage by hand) (passed : Passed) → 0 < length hand.scan.items → IsPassed by (stage_in hand is) hand passed → passed.fall ≡ 0
    → IsStill by (stage_in hand is) hand (record { owners = passed.owners; deltas = passed.deltas; placed = passed.placed })
still_turn by hand is passed some h none =
    let a : Stage = stage_in hand is in
    let still : fall_of by a ≡ 0 = falls_not passed.fall (fall_of by a) h.fall none in
    let same : SameWalk a (behind_still by a) = record { walked = refl; states = refl; records = refl } in
    record {
      pass = record {
        goes_on = goes_on by hand is some;
        deletions = refl;
        scan = refl;
        fell = refl;
        walk = subst (λ (b : Bool). MatchBool b (SameWalk a (behind_still by a)) (NewWalk by (behind_still by a))) (sym (eq-eqb (fall_of by a) 0 still)) same;
      };
      still = still;
      deleted = h.deleted;
      filled = h.filled;
      placed = h.placed;
    }

-- ---- where all is placed anew

-- a stage that is placed anew is behind a pass
new_pass : (by : Relaxing) (hand : InHand) (is : IsStage by hand) (deltas : Deletions) (scan : List (FileId × ℕ)) (states : List Cursors) (records : List Record) → 0 < length hand.scan.items
    → deltas ≡ shrink_pass by (stage_in hand is) → scan ≡ filter (is_near by (stage_in hand is)) hand.scan.items → (fall_of by (stage_in hand is) == 0) ≡ false → IsPlaced (setting_after by deltas) states records
    → IsPass by (stage_in hand is) (stage_of deltas scan (Some (fall_of by (stage_in hand is))) states records)
new_pass by hand is deltas scan states records some deleted near fell placed =
    let a : Stage = stage_in hand is in
    let b : Stage = stage_of deltas scan (Some (fall_of by a)) states records in
    let new : NewWalk by b = record { walked = refl; placed = placed } in
    record {
      goes_on = goes_on by hand is some;
      deletions = deleted;
      scan = near;
      fell = refl;
      walk = subst (λ (c : Bool). MatchBool c (SameWalk a b) (NewWalk by b)) (sym fell) new;
    }

-- what a pass deletes has an entry for each file, and for each section of which something is deleted
pub made_whole : (link : LinkInput) (r : Input → List (ℕ × ℕ)) → AreWhole link (deletions_by link r)
made_whole link r = deleted_alike link (λ x. ranges_of link.groups (deletions_by link r) x.file x.index) r (λ y is.
    sym (deletions_are_read link r (input_number link.groups y.file y.index) y is))

pub next_turn : PassesStayShrunk → (by : Relaxing) (hand next : InHand) (is : IsStage by hand) (passed : Passed) → IsWellFormed (link_of by) → 0 < length hand.scan.items → IsPassed by (stage_in hand is) hand passed
    → (passed.fall ≡ 0 → ⊥) → IsAnew by passed next → IsNext by (stage_in hand is) next
next_turn law by hand next is passed good some h fell anew =
    let a : Stage = stage_in hand is in
    let deleted : next.deltas.items ≡ shrink_pass by a = anew.deltas ∙ h.deleted in
    let near : next.scan.items ≡ filter (is_near by a) a.scan = anew.scan ∙ h.scan in
    let down : (fall_of by a == 0) ≡ false = falls passed.fall (fall_of by a) h.fall fell in
    let stands : ArePlaced (setting_after by next.deltas.items) next.placed = subst (λ (ds : Deletions). ArePlaced (setting_after by ds) next.placed) (sym anew.deltas) anew.stands in
    let b : Stage = stage_of next.deltas.items next.scan.items (Some (fall_of by a)) stands.states next.placed.parts in
    let pass : IsPass by a b = new_pass by hand is next.deltas.items next.scan.items stands.states next.placed.parts some deleted near down stands.is in
    record {
      is = record {
        fell = Some (fall_of by a);
        going = down;
        thunks = is.thunks;
        filled = subst (λ (ds : Deletions). AreFilled (filling_after by ds) next.owners) (sym deleted) (subst (λ (o : OwnersRecord). AreFilled (filling_after by (shrink_pass by a)) o) (sym anew.owners) h.filled);
        stands = stands;
        shrunk = law by a b good pass is.shrunk;
        whole = subst (AreWhole (link_of by)) (sym deleted) (made_whole (link_of by) _);
        once = subst StandOnce (sym near) (once_kept (is_near by a) a.scan is.once);
        sections = anew.sections ∙ ap (λ (ds : Deletions). section_positions (filling_after by ds)) (sym anew.deltas);
        symbols = anew.symbols ∙ ap (λ (ds : Deletions). symbol_positions (link_of by).groups ds next.sections.items) (sym anew.deltas);
      };
      pass = pass;
    }

-- ---- where that is refused

turn_refused : (by : Relaxing) (hand : InHand) (is : IsStage by hand) (passed : Passed) (e : PlaceError) → 0 < length hand.scan.items → IsPassed by (stage_in hand is) hand passed → (passed.fall ≡ 0 → ⊥)
    → IsRefused (setting_after by passed.deltas.items) e → TurnRefused by (stage_in hand is) e
turn_refused by hand is passed e some h fell refused =
    let a : Stage = stage_in hand is in
    record {
      next = stage_of passed.deltas.items passed.scan.items (Some (fall_of by a)) refused.states refused.records;
      pass = new_pass by hand is passed.deltas.items passed.scan.items refused.states refused.records some h.deleted h.scan (falls passed.fall (fall_of by a) h.fall fell) refused.is;
      refused = refused.refused;
    }

pub refused_turn : (by : Relaxing) (hand : InHand) (is : IsStage by hand) (passed : Passed) (e : PlaceError) → 0 < length hand.scan.items → IsPassed by (stage_in hand is) hand passed → (passed.fall ≡ 0 → ⊥)
    → GivesAnew by passed (Err e) → GivesTurn by (stage_in hand is) hand (Err e)
refused_turn by hand is passed NoMemory some h fell anew = tt
refused_turn by hand is passed (AddressOverflow place) some h fell anew = turn_refused by hand is passed (AddressOverflow place) some h fell anew
refused_turn by hand is passed (RegionDuplicate region) some h fell anew = turn_refused by hand is passed (RegionDuplicate region) some h fell anew
refused_turn by hand is passed (Expression place cause) some h fell anew = turn_refused by hand is passed (Expression place cause) some h fell anew
refused_turn by hand is passed (RegionUnknown s) some h fell anew = turn_refused by hand is passed (RegionUnknown s) some h fell anew
refused_turn by hand is passed (RegionOverflow region bytes) some h fell anew = turn_refused by hand is passed (RegionOverflow region bytes) some h fell anew
refused_turn by hand is passed (OutsideRegion event address) some h fell anew = turn_refused by hand is passed (OutsideRegion event address) some h fell anew
refused_turn by hand is passed (LocationBackwards from to) some h fell anew = turn_refused by hand is passed (LocationBackwards from to) some h fell anew
refused_turn by hand is passed (BaseTooLow base headers) some h fell anew = turn_refused by hand is passed (BaseTooLow base headers) some h fell anew
refused_turn by hand is passed (SectionOutsideSegments s) some h fell anew = turn_refused by hand is passed (SectionOutsideSegments s) some h fell anew

-- the exit of a `?`
pub turn_exit : (by : Relaxing) (a : Stage) (hand : InHand) (P : PlaceError → Type 0) (answer : Result Turned PlaceError) → IsErrAnd answer P → ((e : PlaceError) → P e → GivesTurn by a hand (Err e)) → GivesTurn by a hand answer
turn_exit by a hand P (Ok turned) h f = absurd h
turn_exit by a hand P (Err e) h f = f e h
