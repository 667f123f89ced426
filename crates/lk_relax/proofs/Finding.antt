-- What is found in sections is deleted, one section after the other.
use Rattle.std.proofs.Common.{◌≡◌, ◌⊎◌, ◌==◌, ◌<◌, ◌+◌, ◌^◌, ◌&&◌, ◌||◌, ℕ, zero, suc, Bool, true, false, cond, not, List, [], ◌∷◌, ◌++◌, Option, Some, IsSome, filter, get_or, length, map, take, inl, inr, refl, sym, ap, subst, ◌∙◌, arith, eq-eqb, ne_eqb, length-append}
use Rattle.std.specs.Prelude.{if◌then◌else◌, option_and_then, slice_get}
use Rattle.std.specs.List.{list_any}
use Rattle.std.specs.Option.{option_map_or}
use Rattle.std.proofs.lemmas.Bool.{eqb-true, false_from_ne_true}
use Rattle.std.proofs.lemmas.Bool.Decides.{eqb_tells}
use Rattle.std.proofs.lemmas.List.{get_or-map, length-map}
use Rattle.std.proofs.lemmas.List.Folds.{list_any_more}
use Rattle.std.proofs.lemmas.List.Sorted.{length_permutation}
use Rattle.std.proofs.lemmas.Option.{slice_get-get_or, slice_get_within}
use Rattle.lk_link.specs.declared.file.InputFile.{InputFile}
use Rattle.lk_link.specs.declared.ids.FileId.{FileId}
use Rattle.lk_link.specs.declared.link.LinkInput.{LinkInput}
use Rattle.lk_link.specs.declared.relocation.RelaxCandidate.{RelaxCandidate}
use Rattle.lk_link.specs.declared.section.InputSection.{InputSection}
use Rattle.lk_link.specs.Files.{file_in}
use Rattle.lk_link.specs.Inputs.{Input, all_inputs, input_number, numbered_files}
use Rattle.lk_link.specs.Symbols.{file_number}
use Rattle.lk_link.specs.WellFormed.{IsWellFormed}
use Rattle.lk_link.proofs.InputLemmas.{file_stands, inputs_follow}
use Rattle.lk_reach.proofs.Numbered.{file_of_input}
use Rattle.lk_reach.proofs.SymbolNumbers.{is_there}
use Rattle.lk_deltas.specs.declared.candidates.Outcome.{Outcome}
use Rattle.lk_deltas.specs.Candidates.{AreCandidates, AreOf, goes, is_gone, picked, range_of, shrunk}
use Rattle.lk_deltas.specs.Deletions.{AreBoth, AreDeletions}
use Rattle.lk_deltas.specs.Laws.{GoodCandidatesCanGo, PickedAreNew, PickedCanGo}
use Rattle.lk_sizes.specs.Tables.{IsInput}
use Rattle.lk_deltas.specs.LinkDeletions.{Deletions}
use Rattle.lk_relax.specs.PassWords.{IsFound, StandOnce, deleted_by, is_named, ranges_by, standing_with, with_deleted}
use Rattle.lk_relax.specs.Scan.{CanBeScanned, PassState, candidates_of, ranges_of, scanned, told}
use Rattle.lk_relax.specs.Stages.{deletions_by, file_entries, is_among}
use Rattle.lk_relax.proofs.Deleting.{Other, deleted_alike, deleted_put}
use Rattle.lk_relax.proofs.ReadBack.{deletions_are_read}
use Rattle.lk_relax.proofs.Scanning.{are_good, found}

-- ---- names

both : (a b : Bool) → (a && b) ≡ true → (a ≡ true) × (b ≡ true)
both true b h = (refl, h)
both false b h = absurd (cc)

same_number : (n : ℕ) → (n == n) ≡ true
same_number n =
    elim (eqb_tells n n) [
      | inl hit ↦ hit.0
      | inr miss ↦ absurd (miss.1 refl)
    ]

-- what is named is the same
pub same_named : (q r : FileId × ℕ) → is_named q r ≡ true → (r.0 ≡ q.0) × (r.1 ≡ q.1)
same_named q r h =
    let outer = both (r.0.group == q.0.group && (r.0.file == q.0.file)) (r.1 == q.1) h in
    let inner = both (r.0.group == q.0.group) (r.0.file == q.0.file) outer.0 in
    let made : ℕ → ℕ → FileId = λ g n. record { group = g; file = n } in (
      ap (λ (g : ℕ). made g r.0.file) (eqb-true r.0.group q.0.group inner.0) ∙ ap (made q.0.group) (eqb-true r.0.file q.0.file inner.1),
      eqb-true r.1 q.1 outer.1,
    )

pub named_itself : (q : FileId × ℕ) → is_named q q ≡ true
named_itself q =
    ap (λ b. b && (q.0.file == q.0.file) && (q.1 == q.1)) (same_number q.0.group)
    ∙ ap (λ b. b && (q.1 == q.1)) (same_number q.0.file)
    ∙ same_number q.1

-- none passes, so one of them doesn't
none_passes : {X : Type 0} (p : X → Bool) (xs : List X) (k : ℕ) (x : X) → list_any p xs ≡ false → slice_get xs k ≡ Some x → p x ≡ false
none_passes p [] k x none there = absurd (cc)
none_passes p (y ∷ xs) zero x none there = let is : y ≡ x = cc in sym (ap p is) ∙ first (p y) none
  where
    first : (b : Bool) → (b || list_any p xs) ≡ false → b ≡ false
    first true h = absurd (cc)
    first false h = refl
none_passes p (y ∷ xs) (suc k) x none there = none_passes p xs k x (rest (p y) none) there
  where
    rest : (b : Bool) → (b || list_any p xs) ≡ false → list_any p xs ≡ false
    rest true h = absurd (cc)
    rest false h = h

-- a section that stands once stands nowhere before
once_before : (scan : List (FileId × ℕ)) (j : ℕ) (q : FileId × ℕ) → StandOnce scan → slice_get scan j ≡ Some q → list_any (is_named q) (take j scan) ≡ false
once_before [] j q once there = absurd (cc)
once_before (h ∷ scan) zero q once there = refl
once_before (h ∷ scan) (suc j) q once there =
    ap (λ b. b || list_any (is_named q) (take j scan)) (none_passes (λ r. is_named r h) scan j q once.0 there) ∙ once_before scan j q once.1 there

-- ---- what goes

-- where nothing more goes, what is deleted behind the pass was deleted before
none_goes : (g t : RelaxCandidate → Bool) (cs : List RelaxCandidate) → length (map range_of (filter (λ c. not (g c) && t c) cs)) ≡ 0 → filter (λ c. g c || t c) cs ≡ filter g cs
none_goes g t [] none = refl
none_goes g t (c ∷ cs) none = by (g c) (t c) none (none_goes g t cs)
  where
    both_ones : List RelaxCandidate
    both_ones = filter (λ d. g d || t d) cs

    by : (a b : Bool) → length (map range_of (cond (not a && b) (c ∷ filter (λ d. not (g d) && t d) cs) (filter (λ d. not (g d) && t d) cs))) ≡ 0
        → (length (map range_of (filter (λ d. not (g d) && t d) cs)) ≡ 0 → both_ones ≡ filter g cs)
        → cond (a || b) (c ∷ both_ones) both_ones ≡ cond a (c ∷ filter g cs) (filter g cs)
    by true b count later = ap (λ (ds : List RelaxCandidate). c ∷ ds) (later count)
    by false true count later = absurd (omega (arith, count))
    by false false count later = later count

pub nothing_goes : (told : RelaxCandidate → Outcome) (old : List (ℕ × ℕ)) (cs : List RelaxCandidate) → AreOf old cs → length (picked told old cs) ≡ 0 → shrunk told old cs ≡ old
nothing_goes told old cs of none = ap (map range_of) (none_goes (is_gone old) (λ c. goes (told c)) cs none) ∙ sym of

-- ---- one section

-- what was found in the section with this place, which wasn't looked at before
pub record IsOne (link : LinkInput) (deletions : Deletions) (by : PassState) (scan : List (FileId × ℕ)) (i : ℕ) (one : FileId × ℕ × List (ℕ × ℕ) × Option ℕ) : Type 0 where
  pub x : Input
  pub is : IsInput link x
  pub file : one.0 ≡ x.file
  pub index : one.1 ≡ x.index
  pub more : one.2 ≡ picked (told (standing_with link deletions by) x.file x.index) (ranges_of link.groups deletions x.file x.index) x.section.relax
  pub rising : AreCandidates x.section.relax
  pub of : AreOf (ranges_of link.groups deletions x.file x.index) x.section.relax
  pub among : is_among (take (i + 1) scan) x ≡ true
  pub new : is_among (take i scan) x ≡ false
  pub others : (y : Input) → Other x y → is_among (take (i + 1) scan) y ≡ is_among (take i scan) y

either_false : (b c : Bool) → c ≡ false → (b || c) ≡ b
either_false true c h = refl
either_false false c h = h

either_true : (b c : Bool) → c ≡ true → (b || c) ≡ true
either_true true c h = refl
either_true false c h = h

pub is_one : GoodCandidatesCanGo → (link : LinkInput) (deletions : Deletions) (by : PassState) (scan : List (FileId × ℕ)) (results : List (FileId × ℕ × List (ℕ × ℕ) × Option ℕ)) (i : ℕ) (one : FileId × ℕ × List (ℕ × ℕ) × Option ℕ)
    → IsWellFormed link → ((s : InputSection) → option_and_then (λ (f : InputFile). slice_get f.sections one.1) (file_in link.groups one.0) ≡ Some s → s.size < 2 ^ 64)
    → IsFound link deletions by scan results → i < length results → one ≡ get_or results i one → IsOne link deletions by scan i one
is_one law link deletions by scan results i one good small h below read =
    let w : PassState = standing_with link deletions by in
    let within : i < length scan = omega (arith, below, ap length h.found_is ∙ length-map scan (scanned w)) in
    let d : FileId × ℕ = (record { group = 0; file = 0 }, 0) in
    let q : FileId × ℕ = get_or scan i d in
    let there : slice_get scan i ≡ Some q = slice_get-get_or scan i d within in
    let told_is : one ≡ scanned w q = read ∙ ap (λ (rs : List (FileId × ℕ × List (ℕ × ℕ) × Option ℕ)). get_or rs i one) h.found_is ∙ get_or-map (scanned w) scan i d one within in
    let can : CanBeScanned link.groups deletions q.0 q.1 = h.can i d within in
    let x : Input = record { file = q.0; index = q.1; section = can.section } in
    let cs : List RelaxCandidate = candidates_of link.groups q.0 q.1 in
    let same : cs ≡ can.section.relax = ap (λ (o : Option InputSection). option_map_or (λ (s : InputSection). s.relax) o []) (found link deletions q.0 q.1 can) in
    let sized = subst (λ (o : FileId × ℕ × List (ℕ × ℕ) × Option ℕ). (s : InputSection) → option_and_then (λ (f : InputFile). slice_get f.sections o.1) (file_in link.groups o.0) ≡ Some s → s.size < 2 ^ 64) told_is small in
    let fine = are_good law link deletions q.0 q.1 can.section.relax good can (sym same) sized in
    let more : (y : Input) → is_among (take (i + 1) scan) y ≡ (is_among (take i scan) y || is_named (y.file, y.index) q)
    = λ y. list_any_more (is_named (y.file, y.index)) scan i d within in
    record {
      x = x;
      is = inputs_follow.at link.groups q.0 can.file q.1 can.section can.there can.at;
      file = ap (λ (o : FileId × ℕ × List (ℕ × ℕ) × Option ℕ). o.0) told_is;
      index = ap (λ (o : FileId × ℕ × List (ℕ × ℕ) × Option ℕ). o.1) told_is;
      more = ap (λ (o : FileId × ℕ × List (ℕ × ℕ) × Option ℕ). o.2) told_is ∙ ap (picked (told w q.0 q.1) (ranges_of link.groups deletions q.0 q.1)) same;
      rising = fine.rising;
      of = can.of;
      among = more x ∙ either_true (is_among (take i scan) x) (is_named q q) (named_itself q);
      new = once_before scan i q h.once there;
      others = λ y other. more y ∙ either_false (is_among (take i scan) y) (is_named (y.file, y.index) q) (false_from_ne_true (is_named (y.file, y.index) q) (λ named.
          let is = same_named (y.file, y.index) q named in
          other (sym is.0) (sym is.1)));
    }

-- what is deleted of it behind the pass
abbrev pub all_of : (link : LinkInput) (deletions : Deletions) (by : PassState) → Input → List (ℕ × ℕ)
all_of link deletions by x = shrunk (told (standing_with link deletions by) x.file x.index) (ranges_of link.groups deletions x.file x.index) x.section.relax

-- what is asked of the call that deletes it
pub record IsAsked (link : LinkInput) (now : Deletions) (one : FileId × ℕ × List (ℕ × ℕ) × Option ℕ) (all : List (ℕ × ℕ)) : Type 0 where
  pub there : IsSome (file_in link.groups one.0)
  pub entry : file_number link.groups one.0 < length now
  pub rising : AreDeletions one.2
  pub apart : AreBoth (ranges_of link.groups now one.0 one.1) one.2 all

pub is_asked : PickedCanGo → PickedAreNew → (link : LinkInput) (deletions now : Deletions) (by : PassState) (scan : List (FileId × ℕ)) (i : ℕ) (one : FileId × ℕ × List (ℕ × ℕ) × Option ℕ) (h : IsOne link deletions by scan i one)
    → now ≡ deleted_by (standing_with link deletions by) (take i scan) → IsAsked link now one (all_of link deletions by h.x)
is_asked go new link deletions now by scan i one h are =
    let w : PassState = standing_with link deletions by in
    let x : Input = h.x in
    let r : Input → List (ℕ × ℕ) = ranges_by w (take i scan) in
    let f = file_of_input link.groups (input_number link.groups x.file x.index) x h.is in
    let old : List (ℕ × ℕ) = ranges_of link.groups deletions x.file x.index in
    let tells : RelaxCandidate → Outcome = told w x.file x.index in
    let number : file_number link.groups x.file < length now
    = omega (
      arith,
      slice_get_within (numbered_files link.groups) (file_number link.groups x.file) (record { id = x.file; file = f.0 }) (file_stands link.groups x.file f.0 f.1),
      ap length are ∙ length-map (numbered_files link.groups) (file_entries r),
    ) in
    let before : old ≡ ranges_of link.groups now one.0 one.1
    = sym (
    ap (λ (id : FileId). ranges_of link.groups now id one.1) h.file
    ∙ ap (ranges_of link.groups now x.file) h.index
    ∙ ap (λ (ds : Deletions). ranges_of link.groups ds x.file x.index) are
    ∙ deletions_are_read link r (input_number link.groups x.file x.index) x h.is
    ∙ ap (λ b. if b then shrunk tells old x.section.relax else old) h.new
    ) in
    record {
      there = subst (λ (id : FileId). IsSome (file_in link.groups id)) (sym h.file) (is_there link.groups x.file f.0 f.1);
      entry = subst (λ (id : FileId). file_number link.groups id < length now) (sym h.file) number;
      rising = subst AreDeletions (sym h.more) (go tells old x.section.relax h.rising);
      apart = subst (λ (rs : List (ℕ × ℕ)). AreBoth rs one.2 (all_of link deletions by x)) before
          (subst (λ (rs : List (ℕ × ℕ)). AreBoth old rs (all_of link deletions by x)) (sym h.more) (new tells old x.section.relax h.rising h.of));
    }

-- an input section is this one, or another
same_or_other : (link : LinkInput) (x y : Input) → IsInput link x → IsInput link y → (x ≡ y) ⊎ Other x y
same_or_other link x y is_x is_y = by (is_named (x.file, x.index) (y.file, y.index)) refl
  where
    one : y.file ≡ x.file → y.index ≡ x.index → x ≡ y
    one file index =
        let number : input_number link.groups y.file y.index ≡ input_number link.groups x.file x.index
        = ap (λ (id : FileId). input_number link.groups id y.index) file ∙ ap (input_number link.groups x.file) index in
        let both_there : Some x ≡ Some y = sym is_x ∙ ap (slice_get (all_inputs link.groups)) (sym number) ∙ is_y in
        cc

    by : (b : Bool) → is_named (x.file, x.index) (y.file, y.index) ≡ b → (x ≡ y) ⊎ Other x y
    by true h = let is = same_named (x.file, x.index) (y.file, y.index) h in inl (one is.0 is.1)
    by false h = inr (λ file index.
        let same : is_named (x.file, x.index) (y.file, y.index) ≡ true
        = ap (λ (id : FileId). is_named (x.file, x.index) (id, y.index)) file ∙ ap (λ (n : ℕ). is_named (x.file, x.index) (x.file, n)) index ∙ named_itself (x.file, x.index) in
        let clash : true ≡ false = sym same ∙ h in
        absurd (cc))

-- ranges with more are some
some_left : (old more all : List (ℕ × ℕ)) → AreBoth old more all → (length more == 0) ≡ false → (length all == 0) ≡ false
some_left old more all h some =
    let count : length all ≡ length old + length more = length_permutation (old ++ more) all h.moved ∙ length-append old more in
    ne_eqb (length all) 0 (λ none. let clash : false ≡ true = sym some ∙ eq-eqb (length more) 0 (omega (arith, none, count)) in absurd (cc))

-- one section more is done
pub found_next : PickedAreNew → (link : LinkInput) (deletions now next : Deletions) (by : PassState) (scan : List (FileId × ℕ)) (i : ℕ) (one : FileId × ℕ × List (ℕ × ℕ) × Option ℕ) (h : IsOne link deletions by scan i one)
    → now ≡ deleted_by (standing_with link deletions by) (take i scan) → next ≡ (if length one.2 == 0 then now else with_deleted link.groups now one.0 one.1 (all_of link deletions by h.x))
    → next ≡ deleted_by (standing_with link deletions by) (take (i + 1) scan)
found_next new link deletions now next by scan i one h are is = is ∙ step (length one.2 == 0) refl
  where
    w : PassState
    w = standing_with link deletions by

    x : Input
    x = h.x

    r : Input → List (ℕ × ℕ)
    r = ranges_by (standing_with link deletions by) (take i scan)

    s : Input → List (ℕ × ℕ)
    s = ranges_by (standing_with link deletions by) (take (i + 1) scan)

    old : List (ℕ × ℕ)
    old = ranges_of link.groups deletions h.x.file h.x.index

    tells : RelaxCandidate → Outcome
    tells = told (standing_with link deletions by) h.x.file h.x.index

    own : ranges_by (standing_with link deletions by) (take (i + 1) scan) h.x ≡ all_of link deletions by h.x
    own = ap (λ b. if b then shrunk (told (standing_with link deletions by) h.x.file h.x.index) (ranges_of link.groups deletions h.x.file h.x.index) h.x.section.relax else ranges_of link.groups deletions h.x.file h.x.index) h.among

    others : (y : Input) → Other h.x y → ranges_by (standing_with link deletions by) (take (i + 1) scan) y ≡ ranges_by (standing_with link deletions by) (take i scan) y
    others y other = ap (λ b. if b then shrunk (told (standing_with link deletions by) y.file y.index) (ranges_of link.groups deletions y.file y.index) y.section.relax else ranges_of link.groups deletions y.file y.index) (h.others y other)

    step : (b : Bool) → (length one.2 == 0) ≡ b → (if b then now else with_deleted link.groups now one.0 one.1 (all_of link deletions by h.x)) ≡ deleted_by (standing_with link deletions by) (take (i + 1) scan)
    step true none =
        let nothing : length (picked tells old x.section.relax) ≡ 0 = ap length (sym h.more) ∙ eqb-true (length one.2) 0 none in
        let same : all_of link deletions by x ≡ r x
        = nothing_goes tells old x.section.relax h.of nothing ∙ sym (ap (λ b. if b then shrunk tells old x.section.relax else old) h.new) in
        are ∙ sym (deleted_alike link r s (λ y is_y. elim (same_or_other link x y h.is is_y) [
          | inl one_is ↦ ap s (sym one_is) ∙ own ∙ same ∙ ap r one_is
          | inr other ↦ others y other
        ]))
    step false some =
        let more : (length (picked tells old x.section.relax) == 0) ≡ false = ap (λ (rs : List (ℕ × ℕ)). length rs == 0) (sym h.more) ∙ some in
        let left : (length (s x) == 0) ≡ false
        = ap (λ (rs : List (ℕ × ℕ)). length rs == 0) own ∙ some_left old (picked tells old x.section.relax) (all_of link deletions by x) (new tells old x.section.relax h.rising h.of) more in
        ap (λ (id : FileId). with_deleted link.groups now id one.1 (all_of link deletions by x)) h.file
        ∙ ap (λ (n : ℕ). with_deleted link.groups now x.file n (all_of link deletions by x)) h.index
        ∙ ap (λ (ds : Deletions). with_deleted link.groups ds x.file x.index (all_of link deletions by x)) are
        ∙ ap (with_deleted link.groups (deletions_by link r) x.file x.index) (sym own)
        ∙ deleted_put link r s x h.is left (λ y is_y other. others y other)
