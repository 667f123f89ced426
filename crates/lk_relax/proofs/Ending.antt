-- Where relaxation ends.
use Rattle.std.proofs.Common.{◌≡◌, ◌==◌, ◌||◌, ℕ, zero, suc, Bool, true, false, Result, Ok, Err, inl, inr, length, refl, sym, ap, subst, ◌∙◌, eq-eqb}
use Rattle.std.specs.Prelude.{is_some}
use Rattle.std.specs.Option.{option_map_or}
use Rattle.std.specs.Result.{IsErrAnd}
use Rattle.lk_place.specs.declared.error.PlaceError.{PlaceError}
use Rattle.lk_place.specs.declared.error.PlaceError.TheVariants.{AddressOverflow, BaseTooLow, Expression, LocationBackwards, NoMemory, OutsideRegion, RegionDuplicate, RegionOverflow, RegionUnknown, SectionOutsideSegments}
use Rattle.lk_place.specs.declared.walk.Placed.{Placed}
use Rattle.lk_relax.specs.declared.passes.InHand.{InHand}
use Rattle.lk_relax.specs.declared.relaxation.RelaxedParts.{RelaxedParts}
use Rattle.lk_relax.specs.RelaxationWords.{GivesTurn, IsInHand, IsNext, IsStage, IsStill, TurnRefused, behind_still, end_of, stage_in}
use Rattle.lk_relax.specs.Relaxed.{AreRelaxed, EndsRefused, GivesRelaxed}
use Rattle.lk_relax.specs.Stages.{IsFirst, IsPass, LeadsTo, Relaxing, Stage, fall_of, has_ended, is_done, refusal_of}

-- from a stage that has ended, any number of passes lead to it
pub lead_ended : (by : Relaxing) (k : ℕ) (a : Stage) → has_ended by a ≡ true → LeadsTo by k a a
lead_ended by zero a ended = refl
lead_ended by (suc k) a ended = inl (ended, refl)

-- a pass and what leads on
lead_on : (by : Relaxing) (left rest : ℕ) (a b z : Stage) → left ≡ suc rest → IsPass by a b → LeadsTo by rest b z → LeadsTo by left a z
lead_on by left rest a b z count pass leads = subst (λ (n : ℕ). LeadsTo by n a z) (sym count) (inr (b, pass, leads))

or_true : (b : Bool) → (b || true) ≡ true
or_true true = refl
or_true false = refl

pub first_or : (b c : Bool) → b ≡ true → (b || c) ≡ true
first_or true c h = refl
first_or false c h = absurd (cc)

-- ---- at a stage in hand

ends_at : (by : Relaxing) (left : ℕ) (hand : InHand) (h : IsInHand by left hand) → LeadsTo by left (stage_in hand h.is) (stage_in hand h.is) → AreRelaxed by (end_of hand)
ends_at by left hand h leads = record {
  last = stage_in hand h.is;
  ends = record {
    relaxed = h.leads (stage_in hand h.is) leads;
    unrefused = h.is.stands.unrefused;
    deletions = refl;
    stands = h.is.stands;
    states = refl;
    records = refl;
  };
  filled = h.is.filled;
}

-- nothing is left to look at
pub ends_unseen : (by : Relaxing) (left : ℕ) (hand : InHand) → IsInHand by left hand → length hand.scan.items ≡ 0 → AreRelaxed by (end_of hand)
ends_unseen by left hand h none =
    let a : Stage = stage_in hand h.is in
    let done : is_done a ≡ true = first_or (length hand.scan.items == 0) (option_map_or (λ n. n == 0) h.is.fell false) (eq-eqb (length hand.scan.items) 0 none) in
    ends_at by left hand h (lead_ended by left a (first_or (is_done a) (is_some (refusal_of by a)) done))

-- no pass is left
pub ends_last : (by : Relaxing) (left : ℕ) (hand : InHand) → left ≡ 0 → IsInHand by left hand → AreRelaxed by (end_of hand)
ends_last by left hand none h = ends_at by left hand h (subst (λ (n : ℕ). LeadsTo by n (stage_in hand h.is) (stage_in hand h.is)) (sym none) refl)

-- ---- behind a pass

-- capacities fell by nothing
pub ends_still : (by : Relaxing) (left rest : ℕ) (hand : InHand) (parts : RelaxedParts) (h : IsInHand by left hand) → left ≡ suc rest → IsStill by (stage_in hand h.is) hand parts → AreRelaxed by parts
ends_still by left rest hand parts h count still =
    let a : Stage = stage_in hand h.is in
    let z : Stage = behind_still by a in
    let done : is_done z ≡ true = ap (λ b. (length z.scan == 0) || b) (eq-eqb (fall_of by a) 0 still.still) ∙ or_true (length z.scan == 0) in
    let ended : has_ended by z ≡ true = first_or (is_done z) (is_some (refusal_of by z)) done in
    let same : Placed → RelaxedParts = λ placed. record { owners = parts.owners; deltas = parts.deltas; placed = placed } in
    subst (λ (placed : Placed). AreRelaxed by (same placed)) (sym still.placed) (record {
      last = z;
      ends = record {
        relaxed = h.leads z (lead_on by left rest a z z count still.pass (lead_ended by rest z ended));
        unrefused = h.is.stands.unrefused;
        deletions = still.deleted;
        stands = h.is.stands;
        states = refl;
        records = refl;
      };
      filled = still.filled;
    })

-- all is placed anew
pub goes_next : (by : Relaxing) (left rest : ℕ) (hand next : InHand) (h : IsInHand by left hand) → left ≡ suc rest → IsNext by (stage_in hand h.is) next → IsInHand by rest next
goes_next by left rest hand next h count is = record {
  is = is.is;
  leads = λ z leads. h.leads z (lead_on by left rest (stage_in hand h.is) (stage_in next is.is) z count is.pass leads);
}

ends_refused : (by : Relaxing) (left rest : ℕ) (hand : InHand) (e : PlaceError) (h : IsInHand by left hand) → left ≡ suc rest → TurnRefused by (stage_in hand h.is) e → EndsRefused by e
ends_refused by left rest hand e h count refused =
    let z : Stage = refused.next in
    let ended : has_ended by z ≡ true = ap (λ o. is_done z || is_some o) refused.refused ∙ or_true (is_done z) in
    record {
      last = z;
      relaxed = h.leads z (lead_on by left rest (stage_in hand h.is) z z count refused.pass (lead_ended by rest z ended));
      refused = refused.refused;
    }

-- that is refused
pub refused_end : (by : Relaxing) (left rest : ℕ) (hand : InHand) (e : PlaceError) (h : IsInHand by left hand) → left ≡ suc rest → GivesTurn by (stage_in hand h.is) hand (Err e) → GivesRelaxed by (AreRelaxed by) (Err e)
refused_end by left rest hand NoMemory h count given = tt
refused_end by left rest hand (AddressOverflow place) h count given = ends_refused by left rest hand (AddressOverflow place) h count given
refused_end by left rest hand (RegionDuplicate region) h count given = ends_refused by left rest hand (RegionDuplicate region) h count given
refused_end by left rest hand (Expression place cause) h count given = ends_refused by left rest hand (Expression place cause) h count given
refused_end by left rest hand (RegionUnknown s) h count given = ends_refused by left rest hand (RegionUnknown s) h count given
refused_end by left rest hand (RegionOverflow region bytes) h count given = ends_refused by left rest hand (RegionOverflow region bytes) h count given
refused_end by left rest hand (OutsideRegion event address) h count given = ends_refused by left rest hand (OutsideRegion event address) h count given
refused_end by left rest hand (LocationBackwards from to) h count given = ends_refused by left rest hand (LocationBackwards from to) h count given
refused_end by left rest hand (BaseTooLow base headers) h count given = ends_refused by left rest hand (BaseTooLow base headers) h count given
refused_end by left rest hand (SectionOutsideSegments s) h count given = ends_refused by left rest hand (SectionOutsideSegments s) h count given

-- the first stage is in hand
pub first_in_hand : (by : Relaxing) (hand : InHand) (is : IsStage by hand) → IsFirst by (stage_in hand is) → IsInHand by 5 hand
first_in_hand by hand is first = record { is = is; leads = λ z leads. record { first = stage_in hand is; begins = first; leads = leads } }

-- the exit of a `?`
pub relaxed_exit : {X : Type 0} (by : Relaxing) (Ends : X → Type 0) (P : PlaceError → Type 0) (answer : Result X PlaceError) → IsErrAnd answer P → ((e : PlaceError) → P e → GivesRelaxed by Ends (Err e)) → GivesRelaxed by Ends answer
relaxed_exit by Ends P (Ok x) h f = absurd h
relaxed_exit by Ends P (Err e) h f = f e h

-- a refusal is one whatever holds of the end
pub same_refusal : {X Y : Type 0} (by : Relaxing) (E : X → Type 0) (F : Y → Type 0) (e : PlaceError) → GivesRelaxed by E (Err e) → GivesRelaxed by F (Err e)
same_refusal by E F NoMemory h = tt
same_refusal by E F (AddressOverflow place) h = h
same_refusal by E F (RegionDuplicate region) h = h
same_refusal by E F (Expression place cause) h = h
same_refusal by E F (RegionUnknown s) h = h
same_refusal by E F (RegionOverflow region bytes) h = h
same_refusal by E F (OutsideRegion event address) h = h
same_refusal by E F (LocationBackwards from to) h = h
same_refusal by E F (BaseTooLow base headers) h = h
same_refusal by E F (SectionOutsideSegments s) h = h
