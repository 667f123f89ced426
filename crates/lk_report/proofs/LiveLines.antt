-- The lines of live sections: file by file, and group by group, they are those of all input sections in a row.
use Rattle.std.proofs.Common.{◌≡◌, ℕ, suc, ◌+◌, ◌<◌, Bool, true, false, if◌then◌else◌, List, [], ◌∷◌, ◌++◌, Some, length, map, get_or, take, refl, sym, ap, ◌∙◌, arith, append_assoc}
use Rattle.std.specs.List.{enumerate_from, flat_map, slice_get}
use Rattle.std.proofs.lemmas.Grind.{flat_map-append}
use Rattle.std.proofs.lemmas.List.{append-nil, map_push}
use Rattle.std.proofs.lemmas.List.Folds.{flat_map-map}
use Rattle.lk_link.specs.declared.link.LinkInput.{LinkInput}
use Rattle.lk_link.specs.Inputs.{Input, NumberedFile, all_inputs, input_number, inputs_from, numbered_files}
use Rattle.lk_link.specs.Marks.{is_marked}
use Rattle.lk_reach.proofs.UnitLemmas.{input_place}
use Rattle.lk_live.proofs.FaultLemmas.{one_more}
use Rattle.lk_live.proofs.GroupJoining.{made_by_list}
use Rattle.lk_live.specs.Reach.{marked}
use Rattle.lk_layout.specs.LayoutRecord.{LayoutRecord}
use Rattle.lk_layout.specs.Layouts.{told_live, told_section}
use Rattle.lk_report.specs.LiveLines.{file_lines, input_text}
use Rattle.lk_report.specs.Report.{live_line}

-- those of input sections numbered from n on are the lines of those that have a mark
texts_from : (link : LinkInput) (layout : LayoutRecord) (marks : List Bool) (xs : List Input) (n : ℕ) → ((k : ℕ) → is_marked layout.live_marks (n + k) ≡ is_marked marks k)
    → flat_map (input_text link layout) (enumerate_from n xs) ≡ flat_map live_line (map (told_section link layout) (marked marks (enumerate_from n xs)))
texts_from link layout [] [] n h = refl
texts_from link layout (m ∷ marks) [] n h = refl
texts_from link layout [] (x ∷ xs) n h =
    let line : List ℕ = live_line (told_section link layout (n, x)) in
    let number : n ≡ n + 0 = omega arith in
    let none : is_marked layout.live_marks n ≡ false = ap (is_marked layout.live_marks) number ∙ h 0 in
    let rest = texts_from link layout [] xs (n + 1) (λ k. let further : n + 1 + k ≡ n + suc k = omega arith in ap (is_marked layout.live_marks) further ∙ h (suc k)) in
    ap (λ b. (if b then line else []) ++ flat_map (input_text link layout) (enumerate_from (n + 1) xs)) none ∙ rest
texts_from link layout (true ∷ marks) (x ∷ xs) n h =
    let line : List ℕ = live_line (told_section link layout (n, x)) in
    let number : n ≡ n + 0 = omega arith in
    let set : is_marked layout.live_marks n ≡ true = ap (is_marked layout.live_marks) number ∙ h 0 in
    let rest = texts_from link layout marks xs (n + 1) (λ k. let further : n + 1 + k ≡ n + suc k = omega arith in ap (is_marked layout.live_marks) further ∙ h (suc k)) in
    ap (λ b. (if b then line else []) ++ flat_map (input_text link layout) (enumerate_from (n + 1) xs)) set ∙ ap (λ (t : List ℕ). line ++ t) rest
texts_from link layout (false ∷ marks) (x ∷ xs) n h =
    let line : List ℕ = live_line (told_section link layout (n, x)) in
    let number : n ≡ n + 0 = omega arith in
    let none : is_marked layout.live_marks n ≡ false = ap (is_marked layout.live_marks) number ∙ h 0 in
    let rest = texts_from link layout marks xs (n + 1) (λ k. let further : n + 1 + k ≡ n + suc k = omega arith in ap (is_marked layout.live_marks) further ∙ h (suc k)) in
    ap (λ b. (if b then line else []) ++ flat_map (input_text link layout) (enumerate_from (n + 1) xs)) none ∙ rest

-- what is made of what is made of each
nested : {X Y Z : Type 0} (h : Y → List Z) (f : X → List Y) (xs : List X) → flat_map (λ x. flat_map h (f x)) xs ≡ flat_map h (flat_map f xs)
nested {X} {Y} {Z} h f xs = sym (flat_map-map (λ (l : List Z). l) (λ x. flat_map h (f x)) xs) ∙ made_by_list h f xs

-- each item by a number that it has, where that is its place
by_place : {X Y : Type 0} (number : X → ℕ) (h : ℕ × X → List Y) (xs : List X) (n : ℕ) → ((k : ℕ) (x : X) → slice_get xs k ≡ Some x → number x ≡ n + k)
    → flat_map (λ x. h (number x, x)) xs ≡ flat_map h (enumerate_from n xs)
by_place number h [] n at = refl
by_place {X} {Y} number h (x ∷ xs) n at =
    let none : n + 0 ≡ n = omega arith in
    ap (λ (m : ℕ). h (m, x) ++ flat_map (λ y. h (number y, y)) xs) (at 0 x refl ∙ none)
    ∙ ap (λ (t : List Y). h (n, x) ++ t) (by_place number h xs (n + 1) (λ k y there. let on : n + suc k ≡ n + 1 + k = omega arith in at (suc k) y there ∙ on))

-- file by file they are the lines of all live sections
pub all_files : (link : LinkInput) (layout : LayoutRecord) → flat_map (file_lines link layout) (numbered_files link.groups) ≡ flat_map live_line (told_live link layout)
all_files link layout =
    let each : ℕ × Input → List ℕ = input_text link layout in
    let number : Input → ℕ = λ x. input_number link.groups x.file x.index in
    let here : (k : ℕ) → 0 + k ≡ k = λ k. omega arith in
    nested (λ x. each (number x, x)) (λ (f : NumberedFile). inputs_from f.id 0 f.file.sections) (numbered_files link.groups)
    ∙ by_place number each (all_inputs link.groups) 0 (λ k x there. input_place link.groups k x there ∙ sym (here k))
    ∙ texts_from link layout layout.live_marks (all_inputs link.groups) 0 (λ k. ap (is_marked layout.live_marks) (here k))

-- the texts of the items so far, and of one more
pub next_turn : {X Y : Type 0} (f : Y → List ℕ) (g : X → Y) (done : List X) (x : X) (first before after : List ℕ)
    → before ≡ first ++ flat_map f (map g done) → after ≡ before ++ f (g x) → after ≡ first ++ flat_map f (map g (done ++ x ∷ []))
next_turn {X} {Y} f g done x first before after so_far written =
    let texts : List ℕ = flat_map f (map g done) in
    let more : flat_map f (map g (done ++ x ∷ [])) ≡ texts ++ f (g x)
    = ap (flat_map f) (map_push g done x) ∙ flat_map-append f (map g done) (g x ∷ []) ∙ ap (λ (ys : List ℕ). texts ++ ys) (append-nil (f (g x))) in
    written ∙ ap (λ (t : List ℕ). t ++ f (g x)) so_far ∙ append_assoc first texts (f (g x)) ∙ ap (λ (t : List ℕ). first ++ t) (sym more)

-- the same, where items are taken by their numbers
pub next_item : {X Y : Type 0} (f : Y → List ℕ) (g : ℕ × X → Y) (k : ℕ) (xs : List X) (x d : X) (first before after : List ℕ) → k < length xs → x ≡ get_or xs k d
    → before ≡ first ++ flat_map f (map g (enumerate_from 0 (take k xs))) → after ≡ before ++ f (g (k, x))
    → after ≡ first ++ flat_map f (map g (enumerate_from 0 (take (k + 1) xs)))
next_item {X} f g k xs x d first before after below read so_far written =
    next_turn f g (enumerate_from 0 (take k xs)) (k, x) first before after so_far written
    ∙ ap (λ (qs : List (ℕ × X)). first ++ flat_map f (map g qs)) (sym (one_more k xs x d below read))
