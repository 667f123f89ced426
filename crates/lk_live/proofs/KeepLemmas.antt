-- Live sections, flags and kept output sections, one more at a time.
use Rattle.std.proofs.Common.{◌≡◌, ℕ, suc, ◌+◌, ◌-◌, ◌<◌, ◌≤◌, Bool, true, false, ◌&&◌, ◌||◌, ◌==◌, not, if◌then◌else◌, List, [], ◌∷◌, ◌++◌, length, map, take, refl, sym, ap, ◌∙◌, arith, get_or, nat_le, nat_lt}
use Rattle.std.specs.List.{enumerate_from, list_any, range_with_len}
use Rattle.std.proofs.lemmas.Bool.{and_from, and_parts, eq-eqb, eqb-true, le-leb, leb-true, lt-ltb, ltb-true}
use Rattle.std.proofs.lemmas.List.{ext_get_or, length-map, map_push}
use Rattle.std.proofs.lemmas.List.Folds.{Any-from_list_any, list_any-append, list_any-from_Any, list_any_at}
use Rattle.std.proofs.lemmas.List.FromFn.{get_or-range_with_len, length-enumerate_from, length-range_with_len}
use Rattle.lk_link.specs.declared.link.LinkInput.{LinkInput}
use Rattle.lk_link.specs.declared.plan.PlanSection.{PlanSection}
use Rattle.lk_link.specs.declared.walks.InputRef.{InputRef}
use Rattle.lk_link.specs.Inputs.{Input, all_inputs}
use Rattle.lk_link.specs.InputSlots.{is_debug}
use Rattle.lk_link.specs.Marks.{is_marked}
use Rattle.lk_link.specs.Parts.{first_part}
use Rattle.lk_link.specs.Walks.{input_of}
use Rattle.lk_link.proofs.PartNumbers.{first_part-le}
use Rattle.lk_link.specs.declared.walks.FileRef.{FileRef}
use Rattle.lk_link.specs.Inputs.{NumberedFile}
use Rattle.lk_link.specs.Walks.{file_of}
use Rattle.lk_link.specs.declared.symbol.InputSymbol.{InputSymbol}
use Rattle.lk_link.proofs.Numbers.{length-made, made_at}
use Rattle.lk_live.proofs.FaultLemmas.{numbered_more}
use Rattle.lk_reach.proofs.Passing.{or_last}
use Rattle.lk_live.specs.KeptParts.{AreKeptParts, for_sections, keeps_part, kept_marks, redirect_keeps, script_keeps, section_keeps}
use Rattle.lk_live.specs.Reach.{keeps_output, marked}

-- ---- live sections

-- one element more, with its number
numbered_push : {X : Type 0} (o : ℕ) (xs : List X) (x : X) → enumerate_from o (xs ++ x ∷ []) ≡ enumerate_from o xs ++ (o + length xs, x) ∷ []
numbered_push o [] x = let e : o ≡ o + 0 = omega arith in ap (λ n. (n, x) ∷ []) e
numbered_push o (y ∷ xs) x =
    let e : o + 1 + length xs ≡ o + suc (length xs) = omega arith in
    ap (λ ys. (o, y) ∷ ys) (numbered_push (o + 1) xs x ∙ ap (λ n. enumerate_from (o + 1) xs ++ (n, x) ∷ []) e)

-- one section's mark more
pub live_next : (f : ℕ × Input → Bool) (done : List InputRef) (x : InputRef) (live new : List Bool) → live ≡ map f (enumerate_from 0 (map input_of done)) → new ≡ live ++ f (length live, input_of x) ∷ []
    → new ≡ map f (enumerate_from 0 (map input_of (done ++ x ∷ [])))
live_next f done x live new so_far step =
    let before : List Input = map input_of done in
    let many : length live ≡ 0 + length before = omega (arith, ap length so_far, length-map (enumerate_from 0 before) f, length-enumerate_from 0 before) in
    step ∙ ap (λ n. live ++ f (n, input_of x) ∷ []) many ∙ ap (λ ys. ys ++ f (0 + length before, input_of x) ∷ []) so_far
    ∙ sym (map_push f (enumerate_from 0 before) (0 + length before, input_of x)) ∙ ap (map f) (sym (numbered_push 0 before (input_of x)))
    ∙ ap (λ xs. map f (enumerate_from 0 xs)) (sym (map_push input_of done x))

-- ---- parts

or_assoc : (a b c : Bool) → ((a || b) || c) ≡ (a || (b || c))
or_assoc true b c = refl
or_assoc false b c = refl

-- one section more, with its mark
marked_push : (live : List Bool) (m : Bool) (xs : List Input) (x : Input) → length live ≡ length xs → marked (live ++ m ∷ []) (xs ++ x ∷ []) ≡ marked live xs ++ (if m then x ∷ [] else [])
marked_push [] m [] x h = refl
marked_push [] m (y ∷ xs) x h = absurd (omega (arith, h))
marked_push (l ∷ live) m [] x h = absurd (omega (arith, h))
marked_push (true ∷ live) m (y ∷ xs) x h = ap (λ ys. y ∷ ys) (marked_push live m xs x (omega (arith, h)))
marked_push (false ∷ live) m (y ∷ xs) x h = marked_push live m xs x (omega (arith, h))

one_marked : (test : Input → Bool) (m : Bool) (x : Input) → list_any test (if m then x ∷ [] else []) ≡ (m && test x)
one_marked test true x = or_last (test x)
one_marked test false x = refl

-- one section more that may keep a part
pub part_next : (p : ℕ) (done : List InputRef) (x : InputRef) (live : List Bool) (m old new : Bool) → length live ≡ length (map input_of done)
    → old ≡ list_any (λ y. keeps_part p y.section) (marked live (map input_of done)) → new ≡ (old || (m && keeps_part p x.section.now))
    → new ≡ list_any (λ y. keeps_part p y.section) (marked (live ++ m ∷ []) (map input_of (done ++ x ∷ [])))
part_next p done x live m old new many so_far step =
    let test : Input → Bool = λ y. keeps_part p y.section in
    let before : List Input = map input_of done in
    step ∙ ap (λ b. b || (m && keeps_part p x.section.now)) so_far
    ∙ ap (λ b. list_any test (marked live before) || b) (sym (one_marked test m (input_of x)))
    ∙ sym (list_any-append test (marked live before) (if m then input_of x ∷ [] else []))
    ∙ ap (list_any test) (sym (marked_push live m before (input_of x) many) ∙ ap (marked (live ++ m ∷ [])) (sym (map_push input_of done x)))

-- ---- output sections

same_mark : (a b : Bool) → (a ≡ true → b ≡ true) → (b ≡ true → a ≡ true) → a ≡ b
same_mark true b f g = sym (f refl)
same_mark false true f g = g refl
same_mark false false f g = refl

-- a part of an output section is kept exactly where a section goes to one of its parts
pub kept_same : (link : LinkInput) (o : ℕ) (live parts : List Bool) (first behind : ℕ) → AreKeptParts link live parts → first ≡ first_part link.plan.sections o → behind ≡ first_part link.plan.sections (o + 1)
    → list_any (is_marked parts) (range_with_len first (behind - first)) ≡ list_any (keeps_output link o) (marked live (all_inputs link.groups))
kept_same link o live parts first behind kept at_first at_behind =
    let inputs : List Input = marked live (all_inputs link.groups) in
    let sections : List PlanSection = link.plan.sections in
    let few = first_part-le sections (o + 1) in
    same_mark (list_any (is_marked parts) (range_with_len first (behind - first))) (list_any (keeps_output link o) inputs)
    (λ set.
    let p = Any-from_list_any (is_marked parts) (range_with_len first (behind - first)) set in
    let number : p.1 ≡ first + p.0 = sym p.3 ∙ get_or-range_with_len first (behind - first) p.0 p.1 (omega (arith, p.2, length-range_with_len first (behind - first))) in
    let inside : p.1 < length parts = omega (arith, p.2, length-range_with_len first (behind - first), number, few, kept.count, at_behind) in
    let x = Any-from_list_any (λ (y : Input). keeps_part p.1 y.section) inputs (sym (kept.marks p.1 inside) ∙ p.4) in
    let whole = and_parts (x.1.section.size == 0 && not (is_debug x.1.section.slot)) (x.1.section.part == p.1) x.4 in
    let part : x.1.section.part ≡ p.1 = eqb-true x.1.section.part p.1 whole.1 in
    let low : first_part sections o ≤ x.1.section.part = omega (arith, part, number, at_first) in
    let high : x.1.section.part < first_part sections (o + 1) = omega (arith, part, number, p.2, length-range_with_len first (behind - first), at_behind) in
    let goes = and_from (nat_le (first_part sections o) x.1.section.part) (nat_lt x.1.section.part (first_part sections (o + 1)))
    (le-leb (first_part sections o) x.1.section.part low) (lt-ltb x.1.section.part (first_part sections (o + 1)) high) in
    list_any-from_Any (keeps_output link o) inputs (x.0, x.1, x.2, x.3, and_from (x.1.section.size == 0 && not (is_debug x.1.section.slot)) _ whole.0 goes))
    (λ set.
    let x = Any-from_list_any (keeps_output link o) inputs set in
    let q = x.1.section.part in
    let whole = and_parts (x.1.section.size == 0 && not (is_debug x.1.section.slot)) (nat_le (first_part sections o) q && nat_lt q (first_part sections (o + 1))) x.4 in
    let goes = and_parts (nat_le (first_part sections o) q) (nat_lt q (first_part sections (o + 1))) whole.1 in
    let low = leb-true (first_part sections o) q goes.0 in
    let high = ltb-true q (first_part sections (o + 1)) goes.1 in
    let inside : q < length parts = omega (arith, few, kept.count, high) in
    let keeps = list_any-from_Any (λ (y : Input). keeps_part q y.section) inputs (x.0, x.1, x.2, x.3, and_from (x.1.section.size == 0 && not (is_debug x.1.section.slot)) (q == q) whole.0 (eq-eqb q q refl)) in
    let is : is_marked parts q ≡ true = kept.marks q inside ∙ keeps in
    let index : q - first < behind - first = omega (arith, low, high, at_first, at_behind) in
    let read : get_or (range_with_len first (behind - first)) (q - first) 0 ≡ q = get_or-range_with_len first (behind - first) (q - first) 0 index ∙ omega (arith, low, at_first) in
    list_any_at (is_marked parts) (range_with_len first (behind - first)) (q - first) 0 (omega (arith, index, length-range_with_len first (behind - first))) (ap (is_marked parts) read ∙ is))

-- numbers as a range, and beside the elements
pub by_number : {X Y : Type 0} (f : ℕ → Y) (o : ℕ) (xs : List X) → map f (range_with_len o (length xs)) ≡ map (λ q. f q.0) (enumerate_from o xs)
by_number f o [] = refl
by_number f o (x ∷ xs) = ap (λ ys. f o ∷ ys) (by_number f (o + 1) xs)

-- two tests of numbers that agree give the same marks
pub same_for_all : {X Y : Type 0} (f g : ℕ → Y) → ((o : ℕ) → f o ≡ g o) → (k : ℕ) (xs : List X) → map (λ q. f q.0) (enumerate_from k xs) ≡ map (λ q. g q.0) (enumerate_from k xs)
same_for_all f g same k [] = refl
same_for_all f g same k (x ∷ xs) = ap (λ y. y ∷ map (λ q. f q.0) (enumerate_from (k + 1) xs)) (same k) ∙ ap (λ ys. g k ∷ ys) (same_for_all f g same (k + 1) xs)

-- what sections keep, and then what redirects keep, is all that is kept
pub kept_whole : (link : LinkInput) (live marks old new : List Bool) → old ≡ for_sections (section_keeps link live) link → length new ≡ length old
    → ((o : ℕ) → o < length old → is_marked new o ≡ (is_marked old o || redirect_keeps link marks o)) → new ≡ kept_marks link live marks
kept_whole link live marks old new by_sections count each =
    let sections : List PlanSection = link.plan.sections in
    let both : ℕ → Bool = λ o. section_keeps link live o || redirect_keeps link marks o in
    let many : length old ≡ length sections = ap length by_sections ∙ length-made (section_keeps link live) sections 0 in
    ext_get_or false new (kept_marks link live marks) (count ∙ many ∙ sym (length-made both sections 0)) (λ o lt.
    let inside : o < length old = omega (arith, count, lt) in
    let here : o < length sections = omega (arith, many, inside) in
    let zero_more : 0 + o ≡ o = omega arith in
    let read : is_marked old o ≡ section_keeps link live o = ap (λ ms. is_marked ms o) by_sections ∙ made_at (section_keeps link live) false sections 0 o here ∙ ap (section_keeps link live) zero_more in
    each o inside ∙ ap (λ b. b || redirect_keeps link marks o) read ∙ sym (made_at both false sections 0 o here ∙ ap both zero_more))

-- ---- redirects

-- one file more that may keep an output section
pub file_next : (link : LinkInput) (marks : List Bool) (o : ℕ) (done : List FileRef) (x : FileRef) (first old new : Bool)
    → old ≡ (first || list_any (script_keeps link marks o) (map file_of done)) → new ≡ (old || script_keeps link marks o (file_of x))
    → new ≡ (first || list_any (script_keeps link marks o) (map file_of (done ++ x ∷ [])))
file_next link marks o done x first old new so_far step =
    let test : NumberedFile → Bool = script_keeps link marks o in
    step ∙ ap (λ b. b || test (file_of x)) so_far ∙ or_assoc first (list_any test (map file_of done)) (test (file_of x))
    ∙ ap (λ b. first || (list_any test (map file_of done) || b)) (sym (or_last (test (file_of x))))
    ∙ ap (λ b. first || b) (sym (list_any-append test (map file_of done) (file_of x ∷ [])) ∙ ap (list_any test) (sym (map_push file_of done x)))

-- one symbol more that may keep one
pub symbol_next : (f : ℕ × InputSymbol → Bool) (first n : ℕ) (xs : List InputSymbol) (x : InputSymbol) (init old new : Bool) → n < length xs → x ≡ get_or xs n x
    → old ≡ (init || list_any f (enumerate_from first (take n xs))) → new ≡ (old || f (first + n, x)) → new ≡ (init || list_any f (enumerate_from first (take (n + 1) xs)))
symbol_next f first n xs x init old new lt read so_far step =
    let next : n + 1 ≡ suc n = omega arith in
    let before : List (ℕ × InputSymbol) = enumerate_from first (take n xs) in
    let more : enumerate_from first (take (n + 1) xs) ≡ before ++ (first + n, x) ∷ []
    = ap (λ k. enumerate_from first (take k xs)) next ∙ numbered_more first n xs x lt ∙ ap (λ y. before ++ (first + n, y) ∷ []) (sym read) in
    step ∙ ap (λ b. b || f (first + n, x)) so_far ∙ or_assoc init (list_any f before) (f (first + n, x))
    ∙ ap (λ b. init || (list_any f before || b)) (sym (or_last (f (first + n, x))))
    ∙ ap (λ b. init || b) (sym (list_any-append f before ((first + n, x) ∷ [])) ∙ ap (list_any f) (sym more))
