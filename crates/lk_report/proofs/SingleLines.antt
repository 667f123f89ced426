-- The lines of singletons, input section by input section.
use Rattle.std.proofs.Common.{◌≡◌, ℕ, suc, ◌+◌, ◌≤◌, Bool, true, false, if◌then◌else◌, List, [], ◌∷◌, ◌++◌, length, map, refl, sym, ap, subst, ◌∙◌, arith, append_assoc, length-append}
use Rattle.std.specs.Prelude.{◌&&◌, filter}
use Rattle.std.specs.List.{enumerate_from}
use Rattle.std.proofs.lemmas.List.{append-nil, length-map, map-append, map_push}
use Rattle.std.proofs.lemmas.List.Elements.{filter-append}
use Rattle.std.proofs.lemmas.List.FromFn.{length-enumerate_from}
use Rattle.std.proofs.lemmas.List.Sums.{count_by-le-length, length-filter}
use Rattle.lk_link.specs.declared.walks.InputRef.{InputRef}
use Rattle.lk_link.specs.Inputs.{Input}
use Rattle.lk_link.specs.Walks.{input_of}
use Rattle.lk_sizes.proofs.Numbering.{numbered_push}
use Rattle.lk_link.specs.declared.link.LinkInput.{LinkInput}
use Rattle.lk_link.specs.declared.section.InputSection.{InputSection}
use Rattle.lk_link.specs.Inputs.{all_inputs}
use Rattle.lk_link.specs.Marks.{is_marked}
use Rattle.lk_link.specs.OutputKinds.{is_partial}
use Rattle.lk_link.specs.PartRules.{is_singleton_part}
use Rattle.lk_layout.specs.LayoutRecord.{LayoutRecord}
use Rattle.lk_layout.specs.Layouts.{emitted_count, told_singletons}
use Rattle.lk_report.specs.Report.{each, single_line}

-- the texts of two lists, one after the other
pub each_both : {X : Type 0} (f : ℕ → X → List ℕ) (n : ℕ) (xs ys : List X) → each f n (xs ++ ys) ≡ each f n xs ++ each f (n + length xs) ys
unfolding each
each_both f n [] ys = let same : n ≡ n + 0 = omega arith in ap (λ (m : ℕ). each f m ys) same
each_both f n (x ∷ xs) ys =
    let same : suc n + length xs ≡ n + suc (length xs) = omega arith in
    ap (λ (t : List ℕ). f n x ++ t) (each_both f (suc n) xs ys)
    ∙ sym (append_assoc (f n x) (each f (suc n) xs) (each f (suc n + length xs) ys))
    ∙ ap (λ (m : ℕ). (f n x ++ each f (suc n) xs) ++ each f m ys) same

-- the text of one
each_one : {X : Type 0} (f : ℕ → X → List ℕ) (n : ℕ) (x : X) → each f n (x ∷ []) ≡ f n x
unfolding each
each_one f n x = append-nil (f n x)

each_none : {X : Type 0} (f : ℕ → X → List ℕ) (n : ℕ) → each f n [] ≡ []
unfolding each
each_none f n = refl

-- the input sections that pass a test, of those with their numbers
abbrev pub picked : (ℕ × Input → Bool) → List Input → List Input
picked p xs = map (λ q. q.1) (filter p (enumerate_from 0 xs))

one_picked : (p : ℕ × Input → Bool) (n : ℕ) (x : Input) (b : Bool) → p (n, x) ≡ b → map (λ (q : ℕ × Input). q.1) (filter p ((n, x) ∷ [])) ≡ (if b then x ∷ [] else [])
one_picked p n x true is = ap (λ c. map (λ (q : ℕ × Input). q.1) (if c then (n, x) ∷ [] else [])) is
one_picked p n x false is = ap (λ c. map (λ (q : ℕ × Input). q.1) (if c then (n, x) ∷ [] else [])) is

picked_push : (p : ℕ × Input → Bool) (xs : List Input) (x : Input) (b : Bool) → p (length xs, x) ≡ b → picked p (xs ++ x ∷ []) ≡ picked p xs ++ (if b then x ∷ [] else [])
picked_push p xs x b is =
    let input : ℕ × Input → Input = λ q. q.1 in
    let number : 0 + length xs ≡ length xs = omega arith in
    ap (λ (qs : List (ℕ × Input)). map input (filter p qs)) (numbered_push 0 xs x)
    ∙ ap (λ (n : ℕ). map input (filter p (enumerate_from 0 xs ++ (n, x) ∷ []))) number
    ∙ ap (map input) (filter-append p (enumerate_from 0 xs) ((length xs, x) ∷ []))
    ∙ map-append input (filter p (enumerate_from 0 xs)) (filter p ((length xs, x) ∷ []))
    ∙ ap (λ (ys : List Input). picked p xs ++ ys) (one_picked p (length xs) x b is)

-- the lines so far, and the index that is free, behind these input sections
pub record AreWritten (p : ℕ × Input → Bool) (e : ℕ) (xs : List Input) (first text : List ℕ) (index : ℕ) : Type 0 where
  pub lines : text ≡ first ++ each single_line e (picked p xs)
  pub next : index ≡ e + length (picked p xs)

written_next : (p : ℕ × Input → Bool) (e : ℕ) (xs : List Input) (x : Input) (b : Bool) (n index next : ℕ) (first before after : List ℕ) → AreWritten p e xs first before index
    → n ≡ length xs → p (n, x) ≡ b → after ≡ before ++ (if b then single_line index x else []) → next ≡ (if b then index + 1 else index)
    → AreWritten p e (xs ++ x ∷ []) first after next
written_next p e xs x true n index next first before after so_far number is written moved =
    let all : picked p (xs ++ x ∷ []) ≡ picked p xs ++ x ∷ [] = picked_push p xs x true (ap (λ (m : ℕ). p (m, x)) (sym number) ∙ is) in
    let front : List Input = picked p xs in
    let line : each single_line e (front ++ x ∷ []) ≡ each single_line e front ++ single_line (e + length front) x
    = each_both single_line e front (x ∷ []) ∙ ap (λ (t : List ℕ). each single_line e front ++ t) (each_one single_line (e + length front) x) in
    record {
      lines = written ∙ ap (λ (t : List ℕ). t ++ single_line index x) so_far.lines
          ∙ ap (λ (m : ℕ). (first ++ each single_line e front) ++ single_line m x) so_far.next
          ∙ append_assoc first (each single_line e front) (single_line (e + length front) x)
          ∙ ap (λ (t : List ℕ). first ++ t) (sym line)
          ∙ ap (λ (ys : List Input). first ++ each single_line e ys) (sym all);
      next = omega (arith, moved, so_far.next, ap length all, length-append front (x ∷ []));
    }
written_next p e xs x false n index next first before after so_far number is written moved =
    let all : picked p (xs ++ x ∷ []) ≡ picked p xs = picked_push p xs x false (ap (λ (m : ℕ). p (m, x)) (sym number) ∙ is) ∙ append-nil (picked p xs) in
    record {
      lines = written ∙ append-nil before ∙ so_far.lines ∙ ap (λ (ys : List Input). first ++ each single_line e ys) (sym all);
      next = moved ∙ so_far.next ∙ ap (λ (ys : List Input). e + length ys) (sym all);
    }

-- one more input section
pub written_more : (p : ℕ × Input → Bool) (e : ℕ) (done : List InputRef) (x : InputRef) (n index next : ℕ) (first before after : List ℕ)
    → AreWritten p e (map input_of done) first before index → n ≡ length done
    → after ≡ before ++ (if p (n, input_of x) then single_line index (input_of x) else []) → next ≡ (if p (n, input_of x) then index + 1 else index)
    → AreWritten p e (map input_of (done ++ x ∷ [])) first after next
written_more p e done x n index next first before after so_far number written moved =
    let front : List Input = map input_of done in
    let many : n ≡ length front = number ∙ sym (length-map done input_of) in
    let all : map input_of (done ++ x ∷ []) ≡ front ++ input_of x ∷ [] = map_push input_of done x in
    let next_ones : AreWritten p e (front ++ input_of x ∷ []) first after next
    = written_next p e front (input_of x) (p (n, input_of x)) n index next first before after so_far many refl written moved in
    subst (λ (ys : List Input). AreWritten p e ys first after next) (sym all) next_ones

-- nothing is written before the first
pub written_first : (p : ℕ × Input → Bool) (e : ℕ) (first : List ℕ) → AreWritten p e [] first first e
written_first p e first = record { lines = sym (ap (λ (t : List ℕ). first ++ t) (each_none single_line e) ∙ append-nil first); next = omega arith }

-- behind the last all are written
pub all_written : (p : ℕ × Input → Bool) (e : ℕ) (done all : List Input) (first text : List ℕ) (index : ℕ) → AreWritten p e done first text index → done ≡ all
    → text ≡ first ++ each single_line e (picked p all)
all_written p e done all first text index h same = h.lines ∙ ap (λ (xs : List Input). first ++ each single_line e (picked p xs)) same

-- so many as there are input sections at most
pub picked_few : (p : ℕ × Input → Bool) (xs : List Input) → length (picked p xs) ≤ length xs
picked_few p xs =
    omega (
      arith,
      length-map (filter p (enumerate_from 0 xs)) (λ (q : ℕ × Input). q.1),
      length-filter p (enumerate_from 0 xs),
      count_by-le-length p (enumerate_from 0 xs),
      length-enumerate_from 0 xs,
    )

-- ---- output that isn't linked again

and_false : (b : Bool) → (b && false) ≡ false
and_false true = refl
and_false false = refl

none_pass : (marks : List Bool) (p : InputSection → Bool) (b : Bool) (qs : List (ℕ × Input)) → b ≡ false → filter (λ (q : ℕ × Input). is_marked marks q.0 && (b && p q.1.section)) qs ≡ []
none_pass marks p b [] off = refl
none_pass marks p b (q ∷ qs) off =
    let rest : List (ℕ × Input) = filter (λ (r : ℕ × Input). is_marked marks r.0 && (b && p r.1.section)) qs in
    let never : (is_marked marks q.0 && (b && p q.1.section)) ≡ false = ap (λ c. is_marked marks q.0 && (c && p q.1.section)) off ∙ and_false (is_marked marks q.0) in
    ap (λ c. if c then q ∷ rest else rest) never ∙ none_pass marks p b qs off

-- has no such lines
pub no_lines : (link : LinkInput) (layout : LayoutRecord) (text : List ℕ) → is_partial link.options.output ≡ false → text ≡ text ++ each single_line (emitted_count layout) (told_singletons link layout)
no_lines link layout text off =
    let none : told_singletons link layout ≡ [] = ap (map (λ (q : ℕ × Input). q.1))
    (none_pass layout.live_marks (λ s. is_singleton_part link.plan s.part) (is_partial link.options.output) (enumerate_from 0 (all_inputs link.groups)) off) in
    sym (ap (λ (xs : List Input). text ++ each single_line (emitted_count layout) xs) none ∙ ap (λ (t : List ℕ). text ++ t) (each_none single_line (emitted_count layout)) ∙ append-nil text)
