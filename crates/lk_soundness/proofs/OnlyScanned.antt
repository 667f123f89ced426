-- Only sections that the first pass looks at ever lose bytes.
use Rattle.std.proofs.Common.{◌≡◌, ◌==◌, ◌&&◌, ◌||◌, ℕ, zero, suc, Bool, true, false, List, [], ◌∷◌, Some, IsSome, cond, filter, map, not, length, inl, inr, refl, sym, ap, subst, ◌∙◌, arith}
use Rattle.std.specs.Prelude.{if◌then◌else◌, slice_get}
use Rattle.std.specs.List.{enumerate_from, list_any}
use Rattle.std.proofs.lemmas.Bool.{eqb-true}
use Rattle.lk_link.specs.declared.file.InputFile.{InputFile}
use Rattle.lk_link.specs.declared.ids.FileId.{FileId}
use Rattle.lk_link.specs.declared.plan.attributes.TheConstants.{EXEC}
use Rattle.lk_link.specs.Inputs.{Input, all_inputs}
use Rattle.lk_link.specs.Marks.{is_marked}
use Rattle.lk_link.specs.PlanSections.{is_set}
use Rattle.lk_link.proofs.Elements.{filter_at, map_at, numbered_at}
use Rattle.lk_reach.proofs.Numbered.{one_place}
use Rattle.lk_deltas.specs.Candidates.{shrunk}
use Rattle.lk_deltas.specs.LinkDeletions.{Deletions}
use Rattle.lk_relax.specs.Positions.{has_position}
use Rattle.lk_relax.specs.Scan.{ranges_of, told}
use Rattle.lk_relax.specs.Stages.{DeletionsAreRead, IsFirst, IsPass, IsRelaxed, LeadsTo, Relaxing, Stage, can_shrink, is_among, is_near, link_of, ranges_behind, standing_at}

-- an input section with its number is live, has a position and is code, and the link is to be relaxed
abbrev pub can_lose : Relaxing → ℕ × Input → Bool
can_lose by q = has_position (is_marked by.filling.content.live.marks q.0) q.1.section && is_set EXEC q.1.section.attrs && (link_of by).options.relax

-- it is so if a stage looks at it, and if something is deleted of it there
pub record IsScanned (by : Relaxing) (k : ℕ) (x : Input) (a : Stage) : Type 0 where
  pub scan : is_among a.scan x ≡ true → can_lose by (k, x) ≡ true
  pub lost : IsSome (slice_get (ranges_of (link_of by).groups a.deletions x.file x.index) 0) → can_lose by (k, x) ≡ true

-- ---- among sections

pub all_three : (a b c : Bool) → (a && b && c) ≡ true → (a ≡ true) × (b ≡ true) × (c ≡ true)
all_three true true c h = (refl, refl, h)
all_three true false c h = absurd (cc)
all_three false b c h = absurd (cc)

first_two : (a b c r : Bool) → (a && b && c) ≡ true → r ≡ true → (a && b && r) ≡ true
first_two true true c r h is = is
first_two true false c r h is = absurd (cc)
first_two false b c r h is = absurd (cc)

same_id : (a b : FileId) → a.group ≡ b.group → a.file ≡ b.file → a ≡ b
same_id a b groups files = ap (λ (n : ℕ). record { group = n; file = a.file }) groups ∙ ap (λ (n : ℕ). record { group = b.group; file = n }) files

-- one of a list passes a test
passing_at : {X : Type 0} (p : X → Bool) (xs : List X) → list_any p xs ≡ true → (k : ℕ) × (x : X) × (slice_get xs k ≡ Some x) × (p x ≡ true)
passing_at p [] h = absurd (cc)
passing_at {X} p (x ∷ xs) h =
    (elim (p x) as (λ b. p x ≡ b → (b || list_any p xs) ≡ true → (k : ℕ) × (y : X) × (slice_get (x ∷ xs) k ≡ Some y) × (p y ≡ true)) [
      | true ↦ λ is some. (0, x, refl, is)
      | false ↦ λ is some. let later = passing_at p xs some in (suc later.0, later.1, later.2, later.3)
    ]) refl h

-- what passes among some passes among all
any_of : {X : Type 0} (p keep : X → Bool) (xs : List X) → list_any p (filter keep xs) ≡ true → list_any p xs ≡ true
any_of p keep [] h = h
any_of {X} p keep (x ∷ xs) h = of_first (keep x) (p x) h (any_of p keep xs)
  where
    or_else : (a b c : Bool) → (a || b) ≡ true → (b ≡ true → c ≡ true) → (a || c) ≡ true
    or_else true b c some rest = refl
    or_else false b c some rest = rest some

    or_more : (a b : Bool) → b ≡ true → (a || b) ≡ true
    or_more true b some = refl
    or_more false b some = some

    of_first : (kept passes : Bool) → list_any p (cond kept (x ∷ filter keep xs) (filter keep xs)) ≡ true → (list_any p (filter keep xs) ≡ true → list_any p xs ≡ true) → (p x || list_any p xs) ≡ true
    of_first true passes some rest = or_else (p x) (list_any p (filter keep xs)) (list_any p xs) some rest
    of_first false passes some rest = or_more (p x) (list_any p xs) (rest some)

-- ---- the first stage

-- a section among those that can lose bytes can
among_first : (by : Relaxing) (k : ℕ) (x : Input) → (link_of by).options.relax ≡ true → slice_get (all_inputs (link_of by).groups) k ≡ Some x
    → is_among (map (λ q. (q.1.file, q.1.index)) (filter (can_shrink by) (enumerate_from 0 (all_inputs (link_of by).groups)))) x ≡ true → can_lose by (k, x) ≡ true
among_first by k x relaxed there among =
    let inputs : List Input = all_inputs (link_of by).groups in
    let named : ℕ × Input → FileId × ℕ = λ q. (q.1.file, q.1.index) in
    let at = passing_at (λ (q : FileId × ℕ). q.0.group == x.file.group && (q.0.file == x.file.file) && (q.1 == x.index)) (map named (filter (can_shrink by) (enumerate_from 0 inputs))) among in
    let q : FileId × ℕ = at.1 in
    let same = all_three (q.0.group == x.file.group) (q.0.file == x.file.file) (q.1 == x.index) at.3 in
    let from = map_at named (filter (can_shrink by) (enumerate_from 0 inputs)) at.0 q at.2 in
    let p : ℕ × Input = from.0 in
    let kept = filter_at (can_shrink by) (enumerate_from 0 inputs) at.0 p from.1 in
    let numbered = numbered_at 0 inputs kept.0 p kept.1 in
    let file : p.1.file ≡ x.file = ap (λ (r : FileId × ℕ). r.0) from.2 ∙ same_id q.0 x.file (eqb-true q.0.group x.file.group same.0) (eqb-true q.0.file x.file.file same.1) in
    let index : p.1.index ≡ x.index = ap (λ (r : FileId × ℕ). r.1) from.2 ∙ eqb-true q.1 x.index same.2 in
    let one : kept.0 ≡ k = one_place (link_of by).groups kept.0 k p.1 x numbered.1 there file index in
    let number : p.0 ≡ k = omega (arith, numbered.0, one) in
    let input : Some p.1 ≡ Some x = sym numbered.1 ∙ ap (slice_get inputs) one ∙ there in
    let is : p.1 ≡ x = cc in
    let can : can_lose by p ≡ true = first_two (has_position (is_marked by.filling.content.live.marks p.0) p.1.section) (is_set EXEC p.1.section.attrs) (not (length p.1.section.relax == 0)) (link_of by).options.relax kept.2 relaxed in
    subst (λ (y : Input). can_lose by (k, y) ≡ true) is (subst (λ (n : ℕ). can_lose by (n, p.1) ≡ true) number can)

nothing_first : (ranges : List (ℕ × ℕ)) → ranges ≡ [] → IsSome (slice_get ranges 0) → ⊥
nothing_first [] none some = absurd (cc)
nothing_first (r ∷ rs) none some = absurd (cc)

pub first_scanned : DeletionsAreRead → (by : Relaxing) (k : ℕ) (x : Input) (a : Stage) → slice_get (all_inputs (link_of by).groups) k ≡ Some x → IsFirst by a → IsScanned by k x a
first_scanned read by k x a there first =
    let named : List (FileId × ℕ) = map (λ q. (q.1.file, q.1.index)) (filter (can_shrink by) (enumerate_from 0 (all_inputs (link_of by).groups))) in
    let looked : (relaxed : Bool) → (link_of by).options.relax ≡ relaxed → is_among (if relaxed then named else []) x ≡ true → can_lose by (k, x) ≡ true
    = λ relaxed. elim relaxed as (λ b. (link_of by).options.relax ≡ b → is_among (if b then named else []) x ≡ true → can_lose by (k, x) ≡ true) [
      | true ↦ λ is among. among_first by k x is there among
      | false ↦ λ is among. absurd (cc)
    ] in
    record {
      scan = λ among. looked (link_of by).options.relax refl (ap (λ (qs : List (FileId × ℕ)). is_among qs x) (sym first.scan) ∙ among);
      lost = λ some. absurd (nothing_first (ranges_of (link_of by).groups a.deletions x.file x.index)
          (ap (λ (ds : Deletions). ranges_of (link_of by).groups ds x.file x.index) first.deletions ∙ read (link_of by) (λ _. []) k x there) some);
    }

-- ---- behind passes

pub pass_scanned : DeletionsAreRead → (by : Relaxing) (k : ℕ) (x : Input) (a b : Stage) → slice_get (all_inputs (link_of by).groups) k ≡ Some x → IsPass by a b → IsScanned by k x a → IsScanned by k x b
pass_scanned read by k x a b there pass h =
    let groups : List (List InputFile) = (link_of by).groups in
    let old : List (ℕ × ℕ) = ranges_of groups a.deletions x.file x.index in
    let new : List (ℕ × ℕ) = shrunk (told (standing_at by a) x.file x.index) old x.section.relax in
    let left : (looked : Bool) → is_among a.scan x ≡ looked → IsSome (slice_get (if looked then new else old) 0) → can_lose by (k, x) ≡ true
    = λ looked. elim looked as (λ b. is_among a.scan x ≡ b → IsSome (slice_get (if b then new else old) 0) → can_lose by (k, x) ≡ true) [
      | true ↦ λ is some. h.scan is
      | false ↦ λ is some. h.lost some
    ] in
    let ranges : ranges_of groups b.deletions x.file x.index ≡ ranges_behind by a x
    = ap (λ (ds : Deletions). ranges_of groups ds x.file x.index) pass.deletions ∙ read (link_of by) (ranges_behind by a) k x there in
    record {
      scan = λ among. h.scan (any_of (λ (q : FileId × ℕ). q.0.group == x.file.group && (q.0.file == x.file.file) && (q.1 == x.index)) (is_near by a) a.scan
          (ap (λ (qs : List (FileId × ℕ)). is_among qs x) (sym pass.scan) ∙ among));
      lost = λ some. left (is_among a.scan x) refl (subst (λ (rs : List (ℕ × ℕ)). IsSome (slice_get rs 0)) ranges some);
    }

scanned_behind : DeletionsAreRead → (by : Relaxing) (n k : ℕ) (x : Input) (a z : Stage) → slice_get (all_inputs (link_of by).groups) k ≡ Some x → LeadsTo by n a z → IsScanned by k x a → IsScanned by k x z
scanned_behind read by zero k x a z there leads h = subst (IsScanned by k x) leads h
scanned_behind read by (suc n) k x a z there (inl leads) h = subst (IsScanned by k x) leads.1 h
scanned_behind read by (suc n) k x a z there (inr leads) h = scanned_behind read by n k x leads.0 z there leads.2 (pass_scanned read by k x a leads.0 there leads.1 h)

-- at the end only such a section has lost any
pub only_scanned_lose : DeletionsAreRead → (by : Relaxing) (z : Stage) (k : ℕ) (x : Input) → slice_get (all_inputs (link_of by).groups) k ≡ Some x → IsRelaxed by z
    → IsSome (slice_get (ranges_of (link_of by).groups z.deletions x.file x.index) 0) → can_lose by (k, x) ≡ true
only_scanned_lose read by z k x there relaxed =
    (scanned_behind read by 5 k x relaxed.first z there relaxed.leads (first_scanned read by k x relaxed.first there relaxed.begins)).lost
