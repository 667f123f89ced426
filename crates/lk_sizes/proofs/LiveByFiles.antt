-- The live sections of a link, file by file: those that stand with their files, and those that are sorted.
use Rattle.std.proofs.Common.{◌≡◌, ℕ, suc, Bool, true, false, cond, ◌&&◌, not, List, [], ◌∷◌, ◌++◌, filter, Some, refl, ap, ◌∙◌, sym}
use Rattle.std.specs.List.{flat_map, slice_get}
use Rattle.std.proofs.lemmas.List.Elements.{filter-append}
use Rattle.lk_link.specs.declared.link.LinkInput.{LinkInput}
use Rattle.lk_link.specs.Inputs.{Input, NumberedFile, all_inputs, input_number, numbered_files}
use Rattle.lk_link.specs.Marks.{is_marked}
use Rattle.lk_link.proofs.Elements.{filter_at, flat_map_in}
use Rattle.lk_link.proofs.InputLemmas.{inputs_follow}
use Rattle.lk_live.specs.declared.live.Live.{Live}
use Rattle.lk_live.specs.Reach.{live_inputs, marked}
use Rattle.lk_reach.proofs.Numbered.{file_of_input, one_place, sections_of}
use Rattle.lk_sizes.specs.Owners.{live_of, stands_in_file}
use Rattle.lk_sizes.specs.Tables.{IsInput}
use Rattle.lk_sizes.proofs.LiveOnes.{marked_at}

pub filter_flat : {X Y : Type 0} (p : Y → Bool) (f : X → List Y) (xs : List X) → flat_map (λ x. filter p (f x)) xs ≡ filter p (flat_map f xs)
filter_flat p f [] = refl
filter_flat p f (x ∷ xs) = ap (λ (ys : List _). filter p (f x) ++ ys) (filter_flat p f xs) ∙ sym (filter-append p (f x) (flat_map f xs))

-- those that pass are those that have a mark
filter_marked : {X : Type 0} (p : X → Bool) (marks : List Bool) (xs : List X) → ((k : ℕ) (x : X) → slice_get xs k ≡ Some x → p x ≡ is_marked marks k) → filter p xs ≡ marked marks xs
filter_marked p [] [] h = refl
filter_marked p [] (x ∷ xs) h = ap (λ b. cond b (x ∷ filter p xs) (filter p xs)) (h 0 x refl) ∙ filter_marked p [] xs (λ k y at. h (suc k) y at)
filter_marked p (m ∷ marks) [] h = refl
filter_marked p (m ∷ marks) (x ∷ xs) h =
    ap (λ b. cond b (x ∷ filter p xs) (filter p xs)) (h 0 x refl) ∙ ap (λ (ys : List _). cond m (x ∷ ys) ys) (filter_marked p marks xs (λ k y at. h (suc k) y at))

-- those that pass two tests
filter_both : {X : Type 0} (p q : X → Bool) (xs : List X) → filter (λ x. p x && q x) xs ≡ filter q (filter p xs)
filter_both p q [] = refl
filter_both p q (x ∷ xs) =
    elim (p x) as (λ b. cond (b && q x) (x ∷ filter (λ y. p y && q y) xs) (filter (λ y. p y && q y) xs) ≡ filter q (cond b (x ∷ filter p xs) (filter p xs))) [
      | true ↦ ap (λ (ys : List _). cond (q x) (x ∷ ys) ys) (filter_both p q xs)
      | false ↦ filter_both p q xs
    ]

-- the number of an input section
pub number_of : (link : LinkInput) (k : ℕ) (x : Input) → slice_get (all_inputs link.groups) k ≡ Some x → input_number link.groups x.file x.index ≡ k
number_of link k x there =
    let file = file_of_input link.groups k x there in
    one_place link.groups (input_number link.groups x.file x.index) k x x (inputs_follow.at link.groups x.file file.0 x.index x.section file.1 file.2) there refl refl

-- whether it is live, by its number
abbrev pub is_live_input : LinkInput → Live → Input → Bool
is_live_input link live x = is_marked live.marks (input_number link.groups x.file x.index)

-- the live sections of all files are those of the link
pub live_by_files : (link : LinkInput) (live : Live) → flat_map (λ f. filter (is_live_input link live) (sections_of f)) (numbered_files link.groups) ≡ live_inputs link live
live_by_files link live =
    filter_flat (is_live_input link live) sections_of (numbered_files link.groups)
    ∙ filter_marked (is_live_input link live) live.marks (all_inputs link.groups) (λ k x there. ap (is_marked live.marks) (number_of link k x there))

-- the live sections that aren't sorted, by file and index
abbrev pub unsorted_ones : LinkInput → Live → List Input
unsorted_ones link live = filter (λ x. not x.section.sorted) (live_inputs link live)

-- they are those that stand with their files
pub unsorted_by_files : (link : LinkInput) (live : Live) → flat_map (live_of link live) (numbered_files link.groups) ≡ unsorted_ones link live
unsorted_by_files link live =
    filter_flat (stands_in_file link live) sections_of (numbered_files link.groups)
    ∙ filter_both (is_live_input link live) (λ (x : Input). not x.section.sorted) (all_inputs link.groups)
    ∙ ap (filter (λ (x : Input). not x.section.sorted)) (sym (filter_flat (is_live_input link live) sections_of (numbered_files link.groups)) ∙ live_by_files link live)

-- one that stands with its file is live
pub unsorted_is_live : (link : LinkInput) (live : Live) (i : ℕ) (f : NumberedFile) (j : ℕ) (x : Input) → slice_get (numbered_files link.groups) i ≡ Some f
    → slice_get (live_of link live f) j ≡ Some x → (k : ℕ) × (slice_get (live_inputs link live) k ≡ Some x)
unsorted_is_live link live i f j x at there =
    let whole = flat_map_in (live_of link live) (numbered_files link.groups) i j f x at there in
    let unsorted : slice_get (unsorted_ones link live) whole.0 ≡ Some x = ap (λ (xs : List Input). slice_get xs whole.0) (sym (unsorted_by_files link live)) ∙ whole.1 in
    let from = filter_at (λ (y : Input). not y.section.sorted) (live_inputs link live) whole.0 x unsorted in
    (from.0, from.1)

-- a live section is one of the link's, under its number
pub live_input : (link : LinkInput) (live : Live) (k : ℕ) (x : Input) → slice_get (live_inputs link live) k ≡ Some x → IsInput link x
live_input link live k x there =
    let at = marked_at live.marks (all_inputs link.groups) k x there in
    ap (slice_get (all_inputs link.groups)) (number_of link at.0 x at.1) ∙ at.1
