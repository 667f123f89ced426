-- There is one stage at which relaxation ends.
use Rattle.std.proofs.Common.{◌≡◌, ℕ, zero, suc, ◌==◌, Bool, true, false, MatchBool, List, [], Option, Some, None, filter, inl, inr, refl, sym, ap, subst, ◌∙◌}
use Rattle.lk_link.specs.declared.ids.FileId.{FileId}
use Rattle.lk_link.specs.WellFormed.{IsWellFormed}
use Rattle.lk_expressions.specs.Records.{Record}
use Rattle.lk_place.specs.declared.cursors.Cursors.{Cursors}
use Rattle.lk_place.specs.Placement.{IsPlaced}
use Rattle.lk_place.specs.PlacementLaws.{PlacementExists, PlacementIsOne}
use Rattle.lk_place.specs.Setting.{IsReady}
use Rattle.lk_deltas.specs.LinkDeletions.{Deletions}
use Rattle.lk_relax.specs.Stages.{IsFirst, IsPass, LeadsTo, NewWalk, RelaxedExists, RelaxedIsOne, Relaxing, SameWalk, Stage, deletions_by, fall_of, filling_after, first_scan, has_ended, is_near, link_of, setting_after, shrink_pass}
use Rattle.lk_relax.proofs.NoStarts.{length-part_sizes}

abbrev stage : Deletions → List (FileId × ℕ) → Option ℕ → Deletions → List Cursors → List Record → Stage
stage deletions scan fell walked states records = record { deletions = deletions; scan = scan; fell = fell; walked = walked; states = states; records = records }

-- stages with equal parts are equal
of_parts : (d e : Deletions) (s t : List (FileId × ℕ)) (m n : Option ℕ) (v w : Deletions) (ss ts : List Cursors) (rs qs : List Record) → d ≡ e → s ≡ t → m ≡ n → v ≡ w → ss ≡ ts → rs ≡ qs
    → stage d s m v ss rs ≡ stage e t n w ts qs
of_parts d e s t m n v w ss ts rs qs hd hs hm hv hss hrs =
    ap (λ x. stage x s m v ss rs) hd ∙ ap (λ x. stage e x m v ss rs) hs ∙ ap (λ x. stage e t x v ss rs) hm
    ∙ ap (λ x. stage e t n x ss rs) hv ∙ ap (λ x. stage e t n w x rs) hss ∙ ap (λ x. stage e t n w ts x) hrs

-- what is placed can be
ready : (by : Relaxing) (deletions : Deletions) → IsWellFormed (link_of by) → IsReady (setting_after by deletions)
ready by deletions good = record { events = good.events; sections = good.sections; sizes = length-part_sizes (filling_after by deletions) }

-- ---- one

-- the same placement stands at two stages
record StandAlike (b c : Stage) : Type 0 where
  walked : b.walked ≡ c.walked
  states : b.states ≡ c.states
  records : b.records ≡ c.records

new_alike : PlacementIsOne → (by : Relaxing) (b c : Stage) → IsWellFormed (link_of by) → b.deletions ≡ c.deletions → NewWalk by b → NewWalk by c → StandAlike b c
new_alike law by b c good same h k =
    let walked : b.walked ≡ c.walked = h.walked ∙ same ∙ sym k.walked in
    let placed : IsPlaced (setting_after by b.walked) c.states c.records = subst (λ ds. IsPlaced (setting_after by ds) c.states c.records) (sym walked) k.placed in
    let one = law (setting_after by b.walked) b.states c.states b.records c.records (ready by b.walked good) h.placed placed in
    record { walked = walked; states = one.0; records = one.1 }

walks_alike : PlacementIsOne → (by : Relaxing) (a b c : Stage) (still : Bool) → IsWellFormed (link_of by) → b.deletions ≡ c.deletions → MatchBool still (SameWalk a b) (NewWalk by b) → MatchBool still (SameWalk a c) (NewWalk by c) → StandAlike b c
walks_alike law by a b c true good same h k = record { walked = h.walked ∙ sym k.walked; states = h.states ∙ sym k.states; records = h.records ∙ sym k.records }
walks_alike law by a b c false good same h k = new_alike law by b c good same h k

first_is_one : PlacementIsOne → (by : Relaxing) (a b : Stage) → IsWellFormed (link_of by) → IsFirst by a → IsFirst by b → a ≡ b
first_is_one law by a b good h k =
    let same : a.deletions ≡ b.deletions = h.deletions ∙ sym k.deletions in
    let alike = new_alike law by a b good same h.walk k.walk in
    of_parts a.deletions b.deletions a.scan b.scan a.fell b.fell a.walked b.walked a.states b.states a.records b.records same (h.scan ∙ sym k.scan) (h.fell ∙ sym k.fell) alike.walked alike.states alike.records

pass_is_one : PlacementIsOne → (by : Relaxing) (a b c : Stage) → IsWellFormed (link_of by) → IsPass by a b → IsPass by a c → b ≡ c
pass_is_one law by a b c good h k =
    let same : b.deletions ≡ c.deletions = h.deletions ∙ sym k.deletions in
    let alike = walks_alike law by a b c (fall_of by a == 0) good same h.walk k.walk in
    of_parts b.deletions c.deletions b.scan c.scan b.fell c.fell b.walked c.walked b.states c.states b.records c.records same (h.scan ∙ sym k.scan) (h.fell ∙ sym k.fell) alike.walked alike.states alike.records

both_ways : (b : Bool) → b ≡ true → b ≡ false → ⊥
both_ways true h k = absurd (cc)
both_ways false h k = absurd (cc)

leads_to_one : PlacementIsOne → (by : Relaxing) (k : ℕ) (a y z : Stage) → IsWellFormed (link_of by) → LeadsTo by k a y → LeadsTo by k a z → y ≡ z
leads_to_one law by zero a y z good h k = sym h ∙ k
leads_to_one law by (suc n) a y z good (inl h) (inl k) = sym h.1 ∙ k.1
leads_to_one law by (suc n) a y z good (inl h) (inr k) = absurd (both_ways (has_ended by a) h.0 k.1.goes_on)
leads_to_one law by (suc n) a y z good (inr h) (inl k) = absurd (both_ways (has_ended by a) k.0 h.1.goes_on)
leads_to_one law by (suc n) a y z good (inr h) (inr k) =
    let same : h.0 ≡ k.0 = pass_is_one law by a h.0 k.0 good h.1 k.1 in
    leads_to_one law by n k.0 y z good (subst (λ b. LeadsTo by n b y) same h.2) k.2

pub relaxed_is_one : PlacementIsOne → RelaxedIsOne
relaxed_is_one law by y z good h k =
    let same : h.first ≡ k.first = first_is_one law by h.first k.first good h.begins k.begins in
    leads_to_one law by 5 k.first y z good (subst (λ a. LeadsTo by 5 a y) same h.leads) k.leads

-- ---- some

some_first : PlacementExists → (by : Relaxing) → IsWellFormed (link_of by) → (a : Stage) × IsFirst by a
some_first law by good =
    let none : Deletions = deletions_by (link_of by) (λ _. []) in
    let made = law (setting_after by none) (ready by none good) in
    (stage none (first_scan by) None none made.0 made.1, record { deletions = refl; scan = refl; fell = refl; walk = record { walked = refl; placed = made.2 } })

some_pass : PlacementExists → (by : Relaxing) (a : Stage) (still : Bool) → IsWellFormed (link_of by) → has_ended by a ≡ false → (fall_of by a == 0) ≡ still → (b : Stage) × IsPass by a b
some_pass law by a true good goes is =
    let b : Stage = stage (shrink_pass by a) (filter (is_near by a) a.scan) (Some (fall_of by a)) a.walked a.states a.records in
    let same : SameWalk a b = record { walked = refl; states = refl; records = refl } in
    (b, record { goes_on = goes; deletions = refl; scan = refl; fell = refl; walk = subst (λ (e : Bool). MatchBool e (SameWalk a b) (NewWalk by b)) (sym is) same })
some_pass law by a false good goes is =
    let made = law (setting_after by (shrink_pass by a)) (ready by (shrink_pass by a) good) in
    let b : Stage = stage (shrink_pass by a) (filter (is_near by a) a.scan) (Some (fall_of by a)) (shrink_pass by a) made.0 made.1 in
    let new : NewWalk by b = record { walked = refl; placed = made.2 } in
    (b, record { goes_on = goes; deletions = refl; scan = refl; fell = refl; walk = subst (λ (e : Bool). MatchBool e (SameWalk a b) (NewWalk by b)) (sym is) new })

some_lead : PlacementExists → (by : Relaxing) (k : ℕ) (a : Stage) (ended : Bool) → IsWellFormed (link_of by) → has_ended by a ≡ ended → (z : Stage) × LeadsTo by k a z
some_lead law by zero a ended good is = (a, refl)
some_lead law by (suc k) a true good is = (a, inl (is, refl))
some_lead law by (suc k) a false good is =
    let b = some_pass law by a (fall_of by a == 0) good is refl in
    let z = some_lead law by k b.0 (has_ended by b.0) good refl in
    (z.0, inr (b.0, b.1, z.1))

pub relaxed_exists : PlacementExists → RelaxedExists
relaxed_exists law by good =
    let a = some_first law by good in
    let z = some_lead law by 5 a.0 (has_ended by a.0) good refl in
    (z.0, record { first = a.0; begins = a.1; leads = z.1 })
