-- The gathering of what is merged, one input section after the other.
use Rattle.std.proofs.Common.{◌≡◌, ◌≢◌, ℕ, zero, suc, ◌+◌, ◌<◌, ◌≤◌, Bool, true, false, cond, ◌&&◌, eqb, List, [], ◌∷◌, ◌++◌, length, map, filter, set, get_or, replicate, sum_by, Some, refl, sym, ap, ◌∙◌, arith, append-nil, length-append}
use Rattle.std.specs.List.{enumerate_from, range_with_len, slice_get}
use Rattle.std.specs.Option.{option_map_or}
use Rattle.std.proofs.lemmas.Bool.{eqb-true, eqb-false}
use Rattle.std.proofs.lemmas.List.{get_or-set_same, get_or-set_other, get_or-replicate, length-map, length-replicate, map-append}
use Rattle.std.proofs.lemmas.List.Elements.{filter-append}
use Rattle.std.proofs.lemmas.List.FromFn.{fill_by_all}
use Rattle.std.proofs.lemmas.List.Sums.{sum_by-append, sum_by-cons}
use Rattle.std.proofs.lemmas.Option.{get_or_from_slice_get}
use Rattle.lk_link.specs.declared.link.LinkInput.{LinkInput}
use Rattle.lk_link.specs.declared.section.InputSection.{InputSection}
use Rattle.lk_link.specs.InputSlots.{is_merge}
use Rattle.lk_link.specs.Inputs.{Input, all_inputs}
use Rattle.lk_link.specs.Limits.{merge_bytes, merge_size}
use Rattle.lk_link.specs.WellFormed.{IsWellFormed}
use Rattle.lk_link.proofs.Elements.{append_right, filter_at, map_at, numbered_at}
use Rattle.lk_link.specs.Parts.{part_sections}
use Rattle.lk_merge.specs.Inputs.{padded_len, padded_total}
use Rattle.lk_merge.specs.LinkInputTables.{CanGo}
use Rattle.lk_merge.specs.LinkInputs.{inputs_among, is_merged_into, merge_input, merge_inputs}
use Rattle.lk_merge.specs.Pieces.{MergeInput}
use Rattle.lk_merge.proofs.MergeBytes.{among_le, merge_part, part_goes, sum_inputs, sum_numbered}

pub goes_nowhere : (sections : List ℕ) (s : ℕ) (x : InputSection) → is_merge x.slot ≡ false → is_merged_into sections s x ≡ false
goes_nowhere sections s x h = ap (λ b. b && option_map_or (λ t. eqb t s) (slice_get sections x.part) false) h

pub goes_to : (sections : List ℕ) (s t : ℕ) (x : InputSection) → is_merge x.slot ≡ true → slice_get sections x.part ≡ Some t → is_merged_into sections s x ≡ eqb t s
goes_to sections s t x h there =
    ap (λ b. b && option_map_or (λ k. eqb k s) (slice_get sections x.part) false) h ∙ ap (λ o. option_map_or (λ k. eqb k s) o false) there

-- after an input section has gone to an output section, each has what it should
pub each_with : (sections : List ℕ) (outputs : List (List MergeInput)) (t number : ℕ) (x : InputSection) (after : List MergeInput) → is_merge x.slot ≡ true
    → slice_get sections x.part ≡ Some t → t < length outputs → after ≡ get_or outputs t [] ++ merge_input number x ∷ []
    → (s : ℕ) → get_or (set outputs t after) s [] ≡ get_or outputs s [] ++ cond (is_merged_into sections s x) (merge_input number x ∷ []) []
each_with sections outputs t number x after h there within is s = by (eqb t s) refl
  where
    one : List MergeInput
    one = merge_input number x ∷ []

    goes : is_merged_into sections s x ≡ eqb t s
    goes = goes_to sections s t x h there

    by : (b : Bool) → eqb t s ≡ b → get_or (set outputs t after) s [] ≡ get_or outputs s [] ++ cond (is_merged_into sections s x) one []
    by true e =
        let same : t ≡ s = eqb-true t s e in
        ap (λ k. get_or (set outputs t after) k []) (sym same) ∙ get_or-set_same outputs t after [] within ∙ is
        ∙ ap (λ k. get_or outputs k [] ++ one) same ∙ ap (λ c. get_or outputs s [] ++ cond c one []) (sym (goes ∙ e))
    by false e =
        let differ : s ≢ t = λ same. eqb-false t s e (sym same) in
        get_or-set_other outputs t s after [] differ ∙ sym (append-nil (get_or outputs s [])) ∙ ap (λ c. get_or outputs s [] ++ cond c one []) (sym (goes ∙ e))

-- ---- all that has been gathered

-- each output section has what is merged into it of some input sections
pub record AreAmong (sections : List ℕ) (n : ℕ) (done : List Input) (outputs : List (List MergeInput)) : Type 0 where
  pub count : length outputs ≡ n
  pub each : (s : ℕ) → s < n → get_or outputs s [] ≡ inputs_among sections s (enumerate_from 0 done)

pub gathered_first : (sections : List ℕ) (n : ℕ) (outputs : List (List MergeInput)) → outputs ≡ replicate n [] → AreAmong sections n [] outputs
gathered_first sections n outputs are = record {
  count = ap length are ∙ length-replicate n [];
  each = λ s below. ap (λ l. get_or l s []) are ∙ get_or-replicate n s [] [] below;
}

enumerate_push : {X : Type 0} (k : ℕ) (xs : List X) (x : X) → enumerate_from k (xs ++ x ∷ []) ≡ enumerate_from k xs ++ (k + length xs, x) ∷ []
enumerate_push {X} k [] x = let n : k ≡ k + 0 = omega arith in let one : ℕ → List (ℕ × X) = λ m. (m, x) ∷ [] in ap one n
enumerate_push {X} k (y ∷ xs) x =
    let n : (k + 1) + length xs ≡ k + suc (length xs) = omega arith in
    let last : ℕ → List (ℕ × X) = λ m. (k, y) ∷ enumerate_from (k + 1) xs ++ (m, x) ∷ [] in
    ap (λ l. (k, y) ∷ l) (enumerate_push (k + 1) xs x) ∙ ap last n

among_push : (sections : List ℕ) (s : ℕ) (done : List Input) (x : Input)
    → inputs_among sections s (enumerate_from 0 (done ++ x ∷ []))
    ≡ inputs_among sections s (enumerate_from 0 done) ++ cond (is_merged_into sections s x.section) (merge_input (length done) x.section ∷ []) []
among_push sections s done x =
    let goes : ℕ × Input → Bool = λ q. is_merged_into sections s q.1.section in
    let made : ℕ × Input → MergeInput = λ q. merge_input q.0 q.1.section in
    let n : 0 + length done ≡ length done = omega arith in
    let front : List (ℕ × Input) = enumerate_from 0 done in
    ap (inputs_among sections s) (enumerate_push 0 done x ∙ ap (λ (k : ℕ). front ++ (k, x) ∷ []) n)
    ∙ ap (map made) (filter-append goes front ((length done, x) ∷ []))
    ∙ map-append made (filter goes front) (filter goes ((length done, x) ∷ []))
    ∙ ap (λ (l : List MergeInput). inputs_among sections s front ++ l) (last (goes (length done, x)) refl)
  where
    last : (t : Bool) → is_merged_into sections s x.section ≡ t
        → map (λ (q : ℕ × Input). merge_input q.0 q.1.section) (cond (is_merged_into sections s x.section) ((length done, x) ∷ []) [])
        ≡ cond (is_merged_into sections s x.section) (merge_input (length done) x.section ∷ []) []
    last true e = ap (λ b. map (λ (q : ℕ × Input). merge_input q.0 q.1.section) (cond b ((length done, x) ∷ []) [])) e ∙ ap (λ b. cond b (merge_input (length done) x.section ∷ []) []) (sym e)
    last false e = ap (λ b. map (λ (q : ℕ × Input). merge_input q.0 q.1.section) (cond b ((length done, x) ∷ []) [])) e ∙ ap (λ b. cond b (merge_input (length done) x.section ∷ []) []) (sym e)

pub gathered_next : (sections : List ℕ) (n number : ℕ) (done : List Input) (x : Input) (old new : List (List MergeInput)) → AreAmong sections n done old → number ≡ length done
    → length new ≡ length old
    → ((s : ℕ) → s < length old → get_or new s [] ≡ get_or old s [] ++ cond (is_merged_into sections s x.section) (merge_input number x.section ∷ []) [])
    → AreAmong sections n (done ++ x ∷ []) new
gathered_next sections n number done x old new h is same each = record {
  count = same ∙ h.count;
  each = λ s below.
      each s (omega (arith, below, h.count)) ∙ ap (λ l. l ++ cond (is_merged_into sections s x.section) (merge_input number x.section ∷ []) []) (h.each s below)
      ∙ ap (λ k. inputs_among sections s (enumerate_from 0 done) ++ cond (is_merged_into sections s x.section) (merge_input k x.section ∷ []) []) is
      ∙ sym (among_push sections s done x);
}

-- ---- room

filter_le : {X : Type 0} (p : X → Bool) (xs : List X) → length (filter p xs) ≤ length xs
filter_le p [] = omega arith
filter_le p (x ∷ xs) = by (p x) refl (filter_le p xs)
  where
    by : (t : Bool) → p x ≡ t → length (filter p xs) ≤ length xs → length (filter p (x ∷ xs)) ≤ length (x ∷ xs)
    by true e h = let n : length (filter p (x ∷ xs)) ≡ suc (length (filter p xs)) = ap (λ b. length (cond b (x ∷ filter p xs) (filter p xs))) e in omega (arith, n, h)
    by false e h = let n : length (filter p (x ∷ xs)) ≡ length (filter p xs) = ap (λ b. length (cond b (x ∷ filter p xs) (filter p xs))) e in omega (arith, n, h)

numbered_len : {X : Type 0} (k : ℕ) (xs : List X) → length (enumerate_from k xs) ≡ length xs
numbered_len k [] = refl
numbered_len k (x ∷ xs) = ap (λ n. suc n) (numbered_len (k + 1) xs)

slice_below : {X : Type 0} (zs : List X) (n : ℕ) (z : X) → slice_get zs n ≡ Some z → n < length zs
slice_below [] n z e = absurd (cc)
slice_below (y ∷ zs) zero z e = omega arith
slice_below (y ∷ zs) (suc n) z e = let r = slice_below zs n z e in omega (arith, r)

number_below : (sections : List ℕ) (s : ℕ) (done : List Input) (k : ℕ) (y : MergeInput) → slice_get (inputs_among sections s (enumerate_from 0 done)) k ≡ Some y → y.number < length done
number_below sections s done k y h =
    let from = map_at (λ (q : ℕ × Input). merge_input q.0 q.1.section) (filter (λ (q : ℕ × Input). is_merged_into sections s q.1.section) (enumerate_from 0 done)) k y h in
    let kept = filter_at (λ (q : ℕ × Input). is_merged_into sections s q.1.section) (enumerate_from 0 done) k from.0 from.1 in
    let at = numbered_at 0 done kept.0 from.0 kept.1 in
    let below = slice_below done kept.0 from.0.1 at.1 in
    let number : from.0.0 ≡ y.number = ap (λ (z : MergeInput). z.number) from.2 in
    omega (arith, at.0, below, number)

pub can_go : (link : LinkInput) (sections : List ℕ) (done : List Input) (x : Input) (rest : List Input) (outputs : List (List MergeInput)) (number : ℕ) → IsWellFormed link
    → sections ≡ part_sections link.plan.sections → all_inputs link.groups ≡ done ++ x ∷ rest → number ≡ length done
    → AreAmong sections (length link.plan.sections) done outputs → length (all_inputs link.groups) ≤ 16777216 → merge_bytes link ≤ 1099511627776
    → is_merge x.section.slot ≡ true → CanGo sections outputs number x.section
can_go link sections done x rest outputs number good are all is h few bytes merged =
    let here : slice_get (all_inputs link.groups) (length done) ≡ Some x
    = ap (λ l. slice_get l (length done)) all ∙ append_right done (x ∷ rest) 0 (length done) x (omega arith) refl in
    let part = merge_part link (length done) x good here merged in
    let to = part_goes 0 link.plan.sections x.section.part part in
    let count : length (all_inputs link.groups) ≡ length done + suc (length rest) = ap length all ∙ length-append done (x ∷ rest) in
    record {
      output = to.0;
      goes = ap (λ l. slice_get l x.section.part) are ∙ to.1;
      there = omega (arith, to.2, h.count);
      room = λ inputs at.
          let these : inputs ≡ inputs_among sections to.0 (enumerate_from 0 done)
          = sym (get_or_from_slice_get outputs to.0 inputs [] at) ∙ h.each to.0 (omega (arith, to.2)) in
          let goes : ℕ × Input → Bool = λ q. is_merged_into sections to.0 q.1.section in
          let long : length inputs ≡ length (filter goes (enumerate_from 0 done))
          = ap length these ∙ length-map (filter goes (enumerate_from 0 done)) (λ (q : ℕ × Input). merge_input q.0 q.1.section) in
          let short = filter_le goes (enumerate_from 0 done) in
          let numbered = numbered_len 0 done in
          let total = among_le sections to.0 (enumerate_from 0 done) in
          let sum : padded_total inputs ≡ padded_total (inputs_among sections to.0 (enumerate_from 0 done)) = ap padded_total these in
          let front : sum_by (λ (q : ℕ × Input). merge_size q.1.section) (enumerate_from 0 done) ≡ sum_by (λ (y : Input). merge_size y.section) done
          = sum_numbered (λ (y : Input). merge_size y.section) 0 done in
          let whole : sum_by (λ (y : Input). merge_size y.section) (all_inputs link.groups) ≡ merge_bytes link = sum_inputs merge_size link.groups in
          let split : sum_by (λ (y : Input). merge_size y.section) (all_inputs link.groups) ≡ sum_by (λ (y : Input). merge_size y.section) done + sum_by (λ (y : Input). merge_size y.section) (x ∷ rest)
          = ap (sum_by (λ (y : Input). merge_size y.section)) all ∙ sum_by-append (λ (y : Input). merge_size y.section) done (x ∷ rest) in
          let head = sum_by-cons (λ (y : Input). merge_size y.section) x rest in
          let own : merge_size x.section ≡ padded_len (merge_input number x.section) = ap (λ b. cond b (padded_len (merge_input number x.section)) 0) merged in
          record {
            few = omega (arith, long, short, numbered, count, few);
            behind = λ k y y_at. let below = number_below sections to.0 done k y (ap (λ l. slice_get l k) (sym these) ∙ y_at) in omega (arith, below, is);
            fits = omega (arith, total, sum, front, whole, split, head, own, bytes);
          };
    }

-- what has been gathered of all input sections is what is merged
pub gathered_all : (link : LinkInput) (sections : List ℕ) (done : List Input) (outputs : List (List MergeInput)) → sections ≡ part_sections link.plan.sections
    → AreAmong sections (length link.plan.sections) done outputs → done ≡ all_inputs link.groups
    → outputs ≡ map (merge_inputs link) (range_with_len 0 (length link.plan.sections))
gathered_all link sections done outputs are h all =
    fill_by_all (merge_inputs link) outputs (length link.plan.sections) [] h.count
    (λ k below. h.each k below ∙ (λ i. inputs_among (are i) k (enumerate_from 0 (all i))))
