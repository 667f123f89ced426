-- Candidates past their limits, and those that aren't.
use Rattle.std.proofs.Common.{◌≡◌, ◌<◌, ◌≤◌, ◌+◌, ◌-◌, ◌^◌, ◌∙◌, ◌∷◌, ◌++◌, ◌&&◌, cond, length, nat_lt, [], List, ℕ, zero, suc, Bool, true, false, not, Option, Some, None, ap, arith, refl, subst, sym}
use Rattle.std.specs.Prelude.{◌==◌, if◌then◌else◌, nat_le, option_and_then, slice_get}
use Rattle.std.proofs.Math.Path.{fun_ext}
use Rattle.std.specs.Int.{abs_diff}
use Rattle.std.specs.Option.{option_map_or}
use Rattle.std.specs.List.{enumerate_from, flat_map, position, position_or_len}
use Rattle.std.proofs.Math.Dec.{eqb-suc-zero}
use Rattle.std.proofs.lemmas.Bool.{and_parts, leb-true, ltb-false, ltb-true}
use Rattle.lk_link.specs.declared.file.InputFile.{InputFile}
use Rattle.lk_link.specs.declared.ids.FileId.{FileId}
use Rattle.lk_link.specs.declared.link.LinkInput.{LinkInput}
use Rattle.lk_link.specs.WellFormed.{IsWellFormed}
use Rattle.lk_relax.proofs.Scanning.{AreGood, are_good, found}
use Rattle.lk_link.specs.declared.relocation.RelaxCandidate.{RelaxCandidate}
use Rattle.lk_link.specs.declared.section.InputSection.{InputSection}
use Rattle.lk_link.specs.Files.{file_in}
use Rattle.lk_link.specs.Inputs.{Input, NumberedFile, all_inputs, numbered_files}
use Rattle.lk_link.specs.Symbols.{file_number}
use Rattle.lk_link.proofs.Elements.{flat_map_in}
use Rattle.lk_link.proofs.InputLemmas.{file_stands, numbered_get}
use Rattle.lk_reach.proofs.Numbered.{file_of_input}
use Rattle.lk_deltas.specs.declared.candidates.Outcome.{Outcome}
use Rattle.lk_deltas.specs.declared.candidates.Outcome.TheVariants as outcome
use Rattle.lk_deltas.specs.Laws.{GoodCandidatesCanGo}
use Rattle.lk_deltas.specs.Candidates.{is_past, is_short, ranges_in}
use Rattle.lk_deltas.specs.DeltaMaps.{deltas_at}
use Rattle.lk_relax.specs.declared.sites.RelaxedPlace.{RelaxedPlace}
use Rattle.lk_deltas.specs.LinkDeletions.{Deletions, deleted_of}
use Rattle.lk_relax.specs.Scan.{CanBeScanned, PassState, outcome_by, ranges_of, site, told}
use Rattle.lk_relax.specs.Sites.{DeletedSitesAreNear, NothingIsPast, ShrunkCanBeScanned, candidate_past, file_past, is_nothing_deleted, past_limit, section_past}

pub shrunk_can_be_scanned : ShrunkCanBeScanned
shrunk_can_be_scanned by a h k x there some =
    let f = file_of_input by.filling.content.link.groups k x there in
    record { file = f.0; there = f.1; section = x.section; at = f.2; regular = h.regular k x there some; of = h.of k x there }

-- one that isn't too far is within its limit
near : (a b limit : ℕ) → is_short (outcome_by (Some a) (Some b) limit) ≡ false → abs_diff a b ≤ limit
near a b limit h =
    (elim (nat_le (abs_diff a b) limit) as (λ c. nat_le (abs_diff a b) limit ≡ c → is_short (if c then outcome.Goes else outcome.Short (abs_diff a b - limit)) ≡ false → abs_diff a b ≤ limit) [
      | true ↦ λ is short. leb-true (abs_diff a b) limit is
      | false ↦ λ is short. absurd (cc)
    ]) refl h

-- one that is past its limit is listed
listed : (by : PassState) (k j : ℕ) (x : Input) (c : RelaxCandidate) → slice_get (all_inputs by.link.groups) k ≡ Some x → slice_get x.section.relax j ≡ Some c
    → is_past (told by x.file x.index) (ranges_of by.link.groups by.deletions x.file x.index) c ≡ true
    → (n : ℕ) × (place : RelaxedPlace) × (slice_get (past_limit by) n ≡ Some place)
listed by k j x c there at past =
    let f = file_of_input by.link.groups k x there in
    let numbered : NumberedFile = record { id = x.file; file = f.0 } in
    let place : RelaxedPlace = record { file = x.file; section = 0 + x.index; candidate = 0 + j } in
    let number : x.index ≡ 0 + x.index = omega arith in
    let here : slice_get (candidate_past by x.file (0 + x.index) (0 + j, c)) 0 ≡ Some place
    = subst (λ (i : ℕ). slice_get (candidate_past by x.file i (0 + j, c)) 0 ≡ Some (record { file = x.file; section = i; candidate = 0 + j })) number
    (ap (λ (b : Bool). slice_get (if b then record { file = x.file; section = x.index; candidate = 0 + j } ∷ [] else []) 0) past) in
    let in_section = flat_map_in (candidate_past by x.file (0 + x.index)) (enumerate_from 0 x.section.relax) j 0 (0 + j, c) place (numbered_get 0 x.section.relax j c at) here in
    let in_file = flat_map_in (section_past by x.file) (enumerate_from 0 f.0.sections) x.index in_section.0 (0 + x.index, x.section) place (numbered_get 0 f.0.sections x.index x.section f.2) in_section.1 in
    let in_all = flat_map_in (file_past by) (numbered_files by.link.groups) (file_number by.link.groups x.file) in_file.0 numbered place (file_stands by.link.groups x.file f.0 f.1) in_file.1 in
    (in_all.0, place, in_all.1)

nowhere_listed : {X : Type 0} (k : ℕ) (x : X) → slice_get [] k ≡ Some x → ⊥
nowhere_listed k x h = absurd (cc)

pub deleted_sites_are_near : DeletedSitesAreNear
deleted_sites_are_near by k j a b x c none there at gone goal stands =
    let old : List (ℕ × ℕ) = ranges_of by.link.groups by.deletions x.file x.index in
    let tells : told by x.file x.index c ≡ outcome_by (Some a) (Some b) c.limit
    = ap (λ (t : Option ℕ). outcome_by t (site by x.file x.index c.at) c.limit) goal ∙ ap (λ (s : Option ℕ). outcome_by (Some a) s c.limit) stands in
    let past : is_past (told by x.file x.index) old c ≡ is_short (outcome_by (Some a) (Some b) c.limit)
    = ap (λ (g : Bool). g && is_short (told by x.file x.index c)) gone ∙ ap is_short tells in
    (elim (is_short (outcome_by (Some a) (Some b) c.limit)) as (λ s. is_short (outcome_by (Some a) (Some b) c.limit) ≡ s → abs_diff a b ≤ c.limit) [
      | true ↦ λ short.
          let all = listed by k j x c there at (past ∙ short) in
          absurd (nowhere_listed all.0 all.1 (ap (λ (ps : List RelaxedPlace). slice_get ps all.0) (sym none) ∙ all.2))
      | false ↦ λ short. near a b c.limit short
    ]) refl

-- ---- the first of a section

module _ (by : PassState) (id : FileId) (section : ℕ) where
  found_from : (o : ℕ) (cs : List RelaxCandidate) → position_or_len (is_past (told by id section) (ranges_of by.link.groups by.deletions id section)) cs < length cs
      → slice_get (flat_map (candidate_past by id section) (enumerate_from o cs)) 0
      ≡ Some (record { file = id; section = section; candidate = o + position_or_len (is_past (told by id section) (ranges_of by.link.groups by.deletions id section)) cs })
  found_from o [] below = absurd (omega (arith, below))
  found_from o (c ∷ cs) below =
      let test : RelaxCandidate → Bool = is_past (told by id section) (ranges_of by.link.groups by.deletions id section) in
      let m : ℕ = position_or_len test cs in
      let rest : List RelaxedPlace = flat_map (candidate_past by id section) (enumerate_from (o + 1) cs) in
      let place : ℕ → RelaxedPlace = λ k. record { file = id; section = section; candidate = k } in
      (elim (test c) as (λ b. cond (not b) (1 + m) 0 < suc (length cs) → slice_get ((if b then place o ∷ [] else []) ++ rest) 0 ≡ Some (place (o + cond (not b) (1 + m) 0))) [
        | true ↦ λ h. ap (λ (k : ℕ). Some (place k)) (omega arith)
        | false ↦ λ h. found_from (o + 1) cs (omega (arith, h)) ∙ ap (λ (k : ℕ). Some (place k)) (omega arith)
      ]) below

  none_from : (o : ℕ) (cs : List RelaxCandidate) → length cs ≤ position_or_len (is_past (told by id section) (ranges_of by.link.groups by.deletions id section)) cs
      → flat_map (candidate_past by id section) (enumerate_from o cs) ≡ []
  none_from o [] past = refl
  none_from o (c ∷ cs) past =
      let test : RelaxCandidate → Bool = is_past (told by id section) (ranges_of by.link.groups by.deletions id section) in
      let m : ℕ = position_or_len test cs in
      let rest : List RelaxedPlace = flat_map (candidate_past by id section) (enumerate_from (o + 1) cs) in
      let place : ℕ → RelaxedPlace = λ k. record { file = id; section = section; candidate = k } in
      (elim (test c) as (λ b. suc (length cs) ≤ cond (not b) (1 + m) 0 → (if b then place o ∷ [] else []) ++ rest ≡ []) [
        | true ↦ λ h. absurd (omega (arith, h))
        | false ↦ λ h. none_from (o + 1) cs (omega (arith, h))
      ]) past

  -- by the index that the code finds
  pub found_first : (cs : List RelaxCandidate) (k : ℕ) → position (is_past (told by id section) (ranges_of by.link.groups by.deletions id section)) cs ≡ Some k
      → (k < length cs) × (slice_get (flat_map (candidate_past by id section) (enumerate_from 0 cs)) 0 ≡ Some (record { file = id; section = section; candidate = k }))
  found_first cs k is =
      let m : ℕ = position_or_len (is_past (told by id section) (ranges_of by.link.groups by.deletions id section)) cs in
      let place : ℕ → RelaxedPlace = λ k. record { file = id; section = section; candidate = k } in
      (elim (nat_lt m (length cs)) as (λ b. nat_lt m (length cs) ≡ b → cond b (Some m) None ≡ Some k → (k < length cs) × (slice_get (flat_map (candidate_past by id section) (enumerate_from 0 cs)) 0 ≡ Some (place k))) [
        | true ↦ λ at e.
            let same : m ≡ k = cc in
            let below : m < length cs = ltb-true m (length cs) at in
            (omega (arith, same, below), found_from 0 cs below ∙ ap (λ (n : ℕ). Some (place n)) (omega (arith, same)))
        | false ↦ λ at e. absurd (cc)
      ]) refl is

  pub found_none : (cs : List RelaxCandidate) → position (is_past (told by id section) (ranges_of by.link.groups by.deletions id section)) cs ≡ None → flat_map (candidate_past by id section) (enumerate_from 0 cs) ≡ []
  found_none cs is =
      let m : ℕ = position_or_len (is_past (told by id section) (ranges_of by.link.groups by.deletions id section)) cs in
      (elim (nat_lt m (length cs)) as (λ b. nat_lt m (length cs) ≡ b → cond b (Some m) None ≡ None → flat_map (candidate_past by id section) (enumerate_from 0 cs) ≡ []) [
        | true ↦ λ at e. absurd (cc)
        | false ↦ λ at e. none_from 0 cs (ltb-false m (length cs) at)
      ]) refl is

-- ---- sections and files of which nothing is deleted

no_candidate : (by : PassState) (id : FileId) (section : ℕ) (o : ℕ) (cs : List RelaxCandidate) → ranges_of by.link.groups by.deletions id section ≡ [] → flat_map (candidate_past by id section) (enumerate_from o cs) ≡ []
no_candidate by id section o [] none = refl
no_candidate by id section o (c ∷ cs) none =
    let rest : List RelaxedPlace = flat_map (candidate_past by id section) (enumerate_from (o + 1) cs) in
    let tells : RelaxCandidate → Outcome = told by id section in
    ap (λ (rs : List (ℕ × ℕ)). (if is_past tells rs c then record { file = id; section = section; candidate = o } ∷ [] else []) ++ rest) none ∙ no_candidate by id section (o + 1) cs none

pub whole_section : (by : PassState) (id : FileId) (q : ℕ × InputSection) → deleted_of by.link.groups by.deletions id q.0 ≡ None → section_past by id q ≡ []
whole_section by id q none = no_candidate by id q.0 0 q.1.relax (ap ranges_in none)

whole_sections : (by : PassState) (id : FileId) (o : ℕ) (sections : List InputSection) → ((i : ℕ) → deleted_of by.link.groups by.deletions id i ≡ None) → flat_map (section_past by id) (enumerate_from o sections) ≡ []
whole_sections by id o [] none = refl
whole_sections by id o (s ∷ sections) none =
    ap (λ (ps : List RelaxedPlace). ps ++ flat_map (section_past by id) (enumerate_from (o + 1) sections)) (whole_section by id (o, s) (none o)) ∙ whole_sections by id (o + 1) sections none

-- a file without an entry for any of its sections
pub whole_file : (by : PassState) (f : NumberedFile) → ((i : ℕ) → deleted_of by.link.groups by.deletions f.id i ≡ None) → file_past by f ≡ []
whole_file by f none = whole_sections by f.id 0 f.file.sections none

-- ---- what the code knows of a section

some_same : {X : Type 0} (x y : X) → Some x ≡ Some y → x ≡ y
some_same x y e = cc

pub same_section : (link : LinkInput) (deletions : Deletions) (id : FileId) (index : ℕ) (section : InputSection) (can : CanBeScanned link.groups deletions id index)
    → option_and_then (λ (f : InputFile). slice_get f.sections index) (file_in link.groups id) ≡ Some section → can.section ≡ section
same_section link deletions id index section can at = some_same can.section section (sym (found link deletions id index can) ∙ at)

-- the candidates of a section that can be looked at
pub good_there : GoodCandidatesCanGo → (link : LinkInput) (deletions : Deletions) (id : FileId) (index : ℕ) (section : InputSection) (cs : List RelaxCandidate) → IsWellFormed link
    → CanBeScanned link.groups deletions id index → option_and_then (λ (f : InputFile). slice_get f.sections index) (file_in link.groups id) ≡ Some section → cs ≡ section.relax → section.size < 2 ^ 64
    → AreGood link deletions id index cs
good_there law link deletions id index section cs well can at are small =
    are_good law link deletions id index cs well can (are ∙ sym (ap (λ (o : Option InputSection). option_map_or (λ (s : InputSection). s.relax) o []) at))
    (λ other there. subst (λ (s : InputSection). s.size < 2 ^ 64) (some_same section other (sym at ∙ there)) small)

-- what the walk over them asks is what is defined
pub is_asked : (link : LinkInput) (deletions : Deletions) (id : FileId) (index : ℕ) (tell tells : RelaxCandidate → Outcome) (old : List (ℕ × ℕ)) (relax cs : List RelaxCandidate) → ((c : RelaxCandidate) → tells c ≡ tell c)
    → deleted_of link.groups deletions id index ≡ Some old → cs ≡ relax
    → position (is_past tell (ranges_of link.groups deletions id index)) relax ≡ position (is_past tells old) cs
is_asked link deletions id index tell tells old relax cs same deleted are =
    ap (λ (rs : List (ℕ × ℕ)). position (is_past tell rs) relax) (ap ranges_in deleted)
    ∙ ap (λ (t : RelaxCandidate → Outcome). position (is_past t old) relax) (sym (fun_ext same))
    ∙ ap (position (is_past tells old)) (sym are)

-- ---- nothing is deleted

-- a list of which no entry has anything has none at any place
none_at : (deletions : Deletions) (n index : ℕ) → is_nothing_deleted deletions ≡ true → option_and_then (λ entries. deltas_at entries index) (slice_get deletions n) ≡ None
none_at [] n index h = refl
none_at ([] ∷ more) zero index h = refl
none_at ([] ∷ more) (suc n) index h = none_at more n index h
none_at ((e ∷ es) ∷ more) n index h =
    let some : (length (e ∷ es) == 0) ≡ true = (and_parts (length (e ∷ es) == 0) (is_nothing_deleted more) h).0 in
    let never : true ≡ false = sym some ∙ eqb-suc-zero (length es) in
    absurd (cc)

no_file : (by : PassState) (files : List NumberedFile) → is_nothing_deleted by.deletions ≡ true → flat_map (file_past by) files ≡ []
no_file by [] h = refl
no_file by (f ∷ files) h =
    ap (λ (ps : List RelaxedPlace). ps ++ flat_map (file_past by) files) (whole_sections by f.id 0 f.file.sections (λ i. none_at by.deletions (file_number by.link.groups f.id) i h))
    ∙ no_file by files h

pub nothing_is_past : NothingIsPast
nothing_is_past by h = no_file by (numbered_files by.link.groups) h
