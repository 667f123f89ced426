-- What a stage keeps.
use Rattle.std.proofs.Common.{◌≡◌, ◌==◌, ◌≤◌, ◌||◌, ℕ, zero, suc, Bool, true, false, ◌&&◌, All, List, [], ◌∷◌, Option, Some, None, IsSome, cond, filter, get_or, length, map, option_map, sum_by, inl, inr, refl, sym, ap, subst, ◌∙◌, arith}
use Rattle.std.specs.Prelude.{if◌then◌else◌, is_some, slice_get}
use Rattle.std.specs.List.{list_any}
use Rattle.std.proofs.lemmas.Bool.{eqb-true}
use Rattle.std.proofs.lemmas.List.Elements.{All-filter}
use Rattle.std.proofs.lemmas.List.Sums.{sum_by-cons}
use Rattle.std.proofs.lemmas.Option.{get_or_from_slice_get, slice_get-get_or, slice_get_within}
use Rattle.lk_link.specs.declared.file.InputFile.{InputFile}
use Rattle.lk_link.specs.declared.ids.FileId.{FileId}
use Rattle.lk_link.specs.declared.link.LinkInput.{LinkInput}
use Rattle.lk_link.specs.declared.relocation.RelaxCandidate.{RelaxCandidate}
use Rattle.lk_link.specs.declared.section.InputSection.{InputSection}
use Rattle.lk_link.specs.InputRules.{IsGoodInput}
use Rattle.lk_link.specs.Inputs.{Input, all_inputs, input_number}
use Rattle.lk_link.specs.InputSlots.{is_regular}
use Rattle.lk_link.specs.WellFormed.{IsWellFormed}
use Rattle.lk_link.proofs.GoodInputs.{inputs_are_good}
use Rattle.lk_link.proofs.InputLemmas.{inputs_follow}
use Rattle.lk_reach.proofs.Numbered.{file_of_input}
use Rattle.lk_deltas.specs.declared.candidates.Outcome.{Outcome}
use Rattle.lk_deltas.specs.Candidates.{AreOf, goes, is_gone, range_of, ranges_in, shrunk}
use Rattle.lk_deltas.specs.Deletions.{RiseWithin, bytes_before, mapped}
use Rattle.lk_deltas.proofs.CandidateLemmas.{gone_again, nothing_is_of, rise_by}
use Rattle.lk_deltas.specs.LinkDeletions.{Deletions, deleted_of, size_after}
use Rattle.lk_relax.specs.RelaxedLaws.{FirstIsShrunk, IsShrunk, PassesStayShrunk, RelaxedIsShrunk, SizesFallByPasses, nothing_deleted}
use Rattle.lk_relax.specs.Scan.{CanBeScanned, ranges_of, told}
use Rattle.lk_relax.specs.Stages.{LeadsTo, Relaxing, Stage, entry_of, is_among, is_near, link_of, ranges_behind, shrink_pass, standing_at}
use Rattle.lk_relax.proofs.Emptied.{mapped_in, no_entry, nothing_is_empty}
use Rattle.lk_relax.proofs.FirstScan.{first_can_be_scanned}
use Rattle.lk_relax.proofs.ReadBack.{deletions_are_read, entries_are_read}
use Rattle.lk_relax.proofs.Scanning.{loaded}

-- ---- sections that are looked at

all_three : (a b c : Bool) → (a && b && c) ≡ true → (a ≡ true) × (b ≡ true) × (c ≡ true)
all_three true true c h = (refl, refl, h)
all_three true false c h = absurd (cc)
all_three false b c h = absurd (cc)

same_id : (a b : FileId) → a.group ≡ b.group → a.file ≡ b.file → a ≡ b
same_id a b groups files = ap (λ (n : ℕ). record { group = n; file = a.file }) groups ∙ ap (λ (n : ℕ). record { group = b.group; file = n }) files

-- one of a list passes a test
pub passing_at : {X : Type 0} (p : X → Bool) (xs : List X) → list_any p xs ≡ true → (k : ℕ) × (x : X) × (slice_get xs k ≡ Some x) × (p x ≡ true)
passing_at p [] h = absurd (cc)
passing_at {X} p (x ∷ xs) h =
    (elim (p x) as (λ b. p x ≡ b → (b || list_any p xs) ≡ true → (k : ℕ) × (y : X) × (slice_get (x ∷ xs) k ≡ Some y) × (p y ≡ true)) [
      | true ↦ λ is some. (0, x, refl, is)
      | false ↦ λ is some. let later = passing_at p xs some in (suc later.0, later.1, later.2, later.3)
    ]) refl h

-- what holds of each holds of the one at a place
pub all_at : {X : Type 0} (P : X → Type 0) (xs : List X) (k : ℕ) (x : X) → All P xs → slice_get xs k ≡ Some x → P x
all_at P xs k x all at = subst P (get_or_from_slice_get xs k x x at) (all k x (slice_get_within xs k x at))

-- a section that is among those that can be looked at is one of them
looked_at : (by : Relaxing) (a : Stage) (x : Input) → All (λ q. CanBeScanned (link_of by).groups a.deletions q.0 q.1) a.scan → is_among a.scan x ≡ true
    → CanBeScanned (link_of by).groups a.deletions x.file x.index
looked_at by a x all among =
    let Can : FileId × ℕ → Type 0 = λ q. CanBeScanned (link_of by).groups a.deletions q.0 q.1 in
    let at = passing_at (λ (q : FileId × ℕ). q.0.group == x.file.group && (q.0.file == x.file.file) && (q.1 == x.index)) a.scan among in
    let q : FileId × ℕ = at.1 in
    let same = all_three (q.0.group == x.file.group) (q.0.file == x.file.file) (q.1 == x.index) at.3 in
    let file : q.0 ≡ x.file = same_id q.0 x.file (eqb-true q.0.group x.file.group same.0) (eqb-true q.0.file x.file.file same.1) in
    subst (λ (id : FileId). Can (id, x.index)) file (subst (λ (i : ℕ). Can (q.0, i)) (eqb-true q.1 x.index same.2) (all_at Can a.scan at.0 q all at.2))

-- ---- what is deleted of a section

-- a section that isn't left out has candidates that rise
candidates_rise : (link : LinkInput) (k : ℕ) (x : Input) → IsWellFormed link → slice_get (all_inputs link.groups) k ≡ Some x → is_regular x.section.slot ≡ true
    → RiseWithin 0 x.section.size (map range_of x.section.relax)
candidates_rise link k x well there regular =
    let f = file_of_input link.groups k x there in
    let good : IsGoodInput link.plan (length f.0.symbols) x.section = inputs_are_good link x.file x.index f.0 x.section well f.1 f.2 (loaded x.section.slot regular) in
    rise_by 0 x.section.size x.section.relax (omega arith) (λ i r e. (omega arith, (good.in_relax i r e).0, (good.in_relax i r e).1)) good.apart

-- what a pass leaves deleted are ranges of candidates
left_of : (told : RelaxCandidate → Outcome) (old : List (ℕ × ℕ)) (high : ℕ) (cs : List RelaxCandidate) → RiseWithin 0 high (map range_of cs) → AreOf (shrunk told old cs) cs
left_of told old high cs rising = ap (map range_of) (sym (gone_again (λ c. is_gone old c || goes (told c)) 0 high cs rising))

-- the section that can be looked at under a file and an index is the one there
same_slot : (link : LinkInput) (deletions : Deletions) (k : ℕ) (x : Input) → slice_get (all_inputs link.groups) k ≡ Some x → CanBeScanned link.groups deletions x.file x.index → is_regular x.section.slot ≡ true
same_slot link deletions k x there can =
    let f = file_of_input link.groups k x there in
    let file : can.file ≡ f.0 = some_same (sym can.there ∙ f.1) in
    let section : can.section ≡ x.section = some_same (sym can.at ∙ ap (λ (g : InputFile). slice_get g.sections x.index) file ∙ f.2) in
    subst (λ (s : InputSection). is_regular s.slot ≡ true) section can.regular
  where
    some_same : {X : Type 0} {x y : X} → Some x ≡ Some y → x ≡ y
    some_same e = cc

-- what a pass leaves deleted of a section, by whether it looks at it
record IsLeft (by : Relaxing) (a : Stage) (x : Input) : Type 0 where
  of : AreOf (ranges_behind by a x) x.section.relax
  regular : (length (ranges_behind by a x) == 0) ≡ false → is_regular x.section.slot ≡ true

is_left : (by : Relaxing) (a : Stage) (k : ℕ) (x : Input) → IsWellFormed (link_of by) → IsShrunk by a → slice_get (all_inputs (link_of by).groups) k ≡ Some x → IsLeft by a x
is_left by a k x well h there = told_by (is_among a.scan x) refl
  where
    groups : List (List InputFile)
    groups = (link_of by).groups

    old : List (ℕ × ℕ)
    old = ranges_of groups a.deletions x.file x.index

    new : List (ℕ × ℕ)
    new = shrunk (told (standing_at by a) x.file x.index) old x.section.relax

    has_entry : (o : Option (List (ℕ × ℕ))) → (length (ranges_in o) == 0) ≡ false → IsSome o
    has_entry None none = absurd (cc)
    has_entry (Some ranges) some = refl

    told_by : (b : Bool) → is_among a.scan x ≡ b → IsLeft by a x
    told_by true is =
        let regular : is_regular x.section.slot ≡ true = same_slot (link_of by) a.deletions k x there (looked_at by a x h.scan is) in
        record {
          of = subst (λ (b : Bool). AreOf (if b then new else old) x.section.relax) (sym is) (left_of (told (standing_at by a) x.file x.index) old x.section.size x.section.relax (candidates_rise (link_of by) k x well there regular));
          regular = λ some. regular;
        }
    told_by false is = record {
      of = subst (λ (b : Bool). AreOf (if b then new else old) x.section.relax) (sym is) (h.of k x there);
      regular = λ some. h.regular k x there (has_entry (deleted_of groups a.deletions x.file x.index) (ap (λ (b : Bool). length (if b then new else old) == 0) (sym is) ∙ some));
    }

-- ---- the first stage

pub first_is_shrunk : FirstIsShrunk
first_is_shrunk by a first =
    let link : LinkInput = link_of by in
    let same : nothing_deleted link ≡ a.deletions = sym first.deletions in
    record {
      of = λ k x there. subst (λ (ds : Deletions). AreOf (ranges_of link.groups ds x.file x.index) x.section.relax) same
          (subst (λ (rs : List (ℕ × ℕ)). AreOf rs x.section.relax) (sym (nothing_is_empty link x.file x.index)) (nothing_is_of x.section.relax));
      regular = λ k x there some.
          let none : deleted_of link.groups a.deletions x.file x.index ≡ None = ap (λ (ds : Deletions). deleted_of link.groups ds x.file x.index) first.deletions ∙ no_entry link x.file x.index in
          absurd (not_both (sym (ap is_some none) ∙ some));
      scan = λ k d below.
          first_can_be_scanned nothing_is_of by a k (get_or a.scan k d) first (slice_get-get_or a.scan k d below);
    }
  where
    not_both : false ≡ true → ⊥
    not_both e = absurd (cc)

-- ---- a pass

pub passes_stay_shrunk : PassesStayShrunk
passes_stay_shrunk by a b well pass h =
    let link : LinkInput = link_of by in
    let groups : List (List InputFile) = link.groups in
    let of : (k : ℕ) (x : Input) → slice_get (all_inputs groups) k ≡ Some x → AreOf (ranges_of groups b.deletions x.file x.index) x.section.relax
    = λ k x there.
    let is : ranges_of groups b.deletions x.file x.index ≡ ranges_behind by a x
    = ap (λ (ds : Deletions). ranges_of groups ds x.file x.index) pass.deletions ∙ deletions_are_read link (ranges_behind by a) k x there in
    subst (λ (rs : List (ℕ × ℕ)). AreOf rs x.section.relax) (sym is) (is_left by a k x well h there).of in
    let again : (q : FileId × ℕ) → CanBeScanned groups a.deletions q.0 q.1 → CanBeScanned groups b.deletions q.0 q.1
    = λ q can. record {
      file = can.file;
      there = can.there;
      section = can.section;
      at = can.at;
      regular = can.regular;
      of = of (input_number groups q.0 q.1) (record { file = q.0; index = q.1; section = can.section }) (inputs_follow.at groups q.0 can.file q.1 can.section can.there can.at);
    } in
    record {
      of = of;
      regular = λ k x there some.
          let is : deleted_of groups b.deletions x.file x.index ≡ option_map (λ (e : ℕ × List (ℕ × ℕ)). e.1) (entry_of (ranges_behind by a) x)
          = ap (λ (ds : Deletions). deleted_of groups ds x.file x.index) pass.deletions ∙ entries_are_read link (ranges_behind by a) k x there in
          (is_left by a k x well h there).regular (has_ranges (length (ranges_behind by a x) == 0) (ranges_behind by a x) x.index (sym (ap is_some is) ∙ some));
      scan = subst (All (λ q. CanBeScanned groups b.deletions q.0 q.1)) (sym pass.scan)
          (All-filter (is_near by a) (λ q. CanBeScanned groups b.deletions q.0 q.1) a.scan (λ k d below. again (get_or a.scan k d) (h.scan k d below)));
    }
  where
    has_ranges : (b : Bool) (ranges : List (ℕ × ℕ)) (i : ℕ) → is_some (option_map (λ (e : ℕ × List (ℕ × ℕ)). e.1) (if b then None else Some (i, ranges))) ≡ true → b ≡ false
    has_ranges true ranges i h = absurd (cc)
    has_ranges false ranges i h = refl

-- ---- the stage at the end

shrunk_behind : (by : Relaxing) (k : ℕ) (a z : Stage) → IsWellFormed (link_of by) → LeadsTo by k a z → IsShrunk by a → IsShrunk by z
shrunk_behind by zero a z well leads h = subst (IsShrunk by) leads h
shrunk_behind by (suc k) a z well (inl leads) h = subst (IsShrunk by) leads.1 h
shrunk_behind by (suc k) a z well (inr leads) h = shrunk_behind by k leads.0 z well leads.2 (passes_stay_shrunk by a leads.0 well leads.1 h)

pub relaxed_is_shrunk : RelaxedIsShrunk
relaxed_is_shrunk by z well relaxed = shrunk_behind by 5 relaxed.first z well relaxed.leads (first_is_shrunk by relaxed.first relaxed.begins)

-- ---- sizes

-- where more candidates are gone, as many bytes or more are deleted before an offset
more_before : (offset : ℕ) (g q : RelaxCandidate → Bool) (cs : List RelaxCandidate)
    → sum_by (bytes_before offset) (map range_of (filter g cs)) ≤ sum_by (bytes_before offset) (map range_of (filter (λ c. g c || q c) cs))
more_before offset g q [] = omega arith
more_before offset g q (c ∷ cs) = turn (g c) (q c) (more_before offset g q cs)
  where
    some : List RelaxCandidate
    some = filter g cs

    all : List RelaxCandidate
    all = filter (λ d. g d || q d) cs

    turn : (b d : Bool) → sum_by (bytes_before offset) (map range_of some) ≤ sum_by (bytes_before offset) (map range_of all)
        → sum_by (bytes_before offset) (map range_of (cond b (c ∷ some) some)) ≤ sum_by (bytes_before offset) (map range_of (cond (b || d) (c ∷ all) all))
    turn true d rest = omega (arith, rest, sum_by-cons (bytes_before offset) (range_of c) (map range_of some), sum_by-cons (bytes_before offset) (range_of c) (map range_of all))
    turn false true rest = omega (arith, rest, sum_by-cons (bytes_before offset) (range_of c) (map range_of all))
    turn false false rest = rest

falls : (told : RelaxCandidate → Outcome) (old : List (ℕ × ℕ)) (cs : List RelaxCandidate) (size : ℕ) → AreOf old cs → mapped (shrunk told old cs) size ≤ mapped old size
unfolding mapped
falls told old cs size of =
    let less : sum_by (bytes_before size) old ≤ sum_by (bytes_before size) (shrunk told old cs)
    = subst (λ (rs : List (ℕ × ℕ)). sum_by (bytes_before size) rs ≤ sum_by (bytes_before size) (shrunk told old cs)) (sym of) (more_before size (is_gone old) (λ c. goes (told c)) cs) in
    omega (arith, less)

pub sizes_fall_by_passes : SizesFallByPasses
sizes_fall_by_passes by a k x h there =
    let groups : List (List InputFile) = (link_of by).groups in
    let old : List (ℕ × ℕ) = ranges_of groups a.deletions x.file x.index in
    let tell : RelaxCandidate → Outcome = told (standing_at by a) x.file x.index in
    let size : (ds : Deletions) → size_after groups ds x ≡ mapped (ranges_of groups ds x.file x.index) x.section.size = λ ds. mapped_in (deleted_of groups ds x.file x.index) x.section.size in
    let read : ranges_of groups (shrink_pass by a) x.file x.index ≡ ranges_behind by a x = deletions_are_read (link_of by) (ranges_behind by a) k x there in
    let less : (b : Bool) → mapped (if b then shrunk tell old x.section.relax else old) x.section.size ≤ mapped old x.section.size
    = λ b. elim b as (λ c. mapped (if c then shrunk tell old x.section.relax else old) x.section.size ≤ mapped old x.section.size) [
      | true ↦ falls tell old x.section.relax x.section.size (h.of k x there)
      | false ↦ omega arith
    ] in
    omega (arith, size a.deletions, size (shrink_pass by a), ap (λ (rs : List (ℕ × ℕ)). mapped rs x.section.size) read, less (is_among a.scan x))
