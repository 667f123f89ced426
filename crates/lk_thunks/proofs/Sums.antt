-- Sums of what is left of a list, and ranges of what is left of the files.
use Rattle.std.proofs.Common.{◌≡◌, ℕ, suc, map, ◌+◌, ◌-◌, ◌^◌, ◌<◌, ◌≤◌, List, [], ◌∷◌, ◌++◌, arith, drop, length, min, refl, sym, ap, sum_by, append_assoc, ◌∙◌}
use Rattle.std.specs.List.{enumerate_from}
use Rattle.std.proofs.lemmas.List.{append-nil, drop_all, length-map}
use Rattle.std.proofs.lemmas.List.Concat.{length-flat_map}
use Rattle.std.proofs.lemmas.List.Sums.{count_by-le-length, length-filter, sum_by-cons}
use Rattle.lk_link.specs.declared.ids.FileId.{FileId}
use Rattle.lk_link.specs.declared.link.LinkInput.{LinkInput}
use Rattle.lk_link.specs.declared.file.InputFile.{InputFile}
use Rattle.lk_link.specs.Inputs.{NumberedFile, numbered_files}
use Rattle.lk_link.specs.Symbols.{all_files}
use Rattle.lk_link.specs.WellFormed.{IsWellFormed}
use Rattle.lk_link.proofs.InputLemmas.{files_from_are}
use Rattle.lk_reach.proofs.Numbered.{are_numbered}
use Rattle.lk_live.specs.declared.live.Live.{Live}
use Rattle.lk_thunks.specs.Ranges.{file_ranges, has_bytes, planned_objects, primary_bytes, ranges_from}

-- where nothing is left, the sum so far is the whole
pub sum_end : {X : Type 0} (f : ℕ × X → ℕ) (xs : List X) (i total whole : ℕ) → length xs ≤ i → total < 2 ^ 64
    → min (total + sum_by f (enumerate_from i (drop i xs))) (2 ^ 64 - 1) ≡ min whole (2 ^ 64 - 1) → total ≡ min whole (2 ^ 64 - 1)
sum_end f xs i total whole h small so_far =
    let none : sum_by f (enumerate_from i (drop i xs)) ≡ 0 = ap (λ ys. sum_by f (enumerate_from i ys)) (drop_all i xs h) in
    omega (arith, none, so_far, small)

-- one file more
pub ranges_turn : (link : LinkInput) (live : Live) (begin end size : ℕ) (f : NumberedFile) (left rest : List NumberedFile) (done next whole : List (FileId × ℕ × ℕ))
    → left ≡ f ∷ rest
    → size ≡ min (primary_bytes link live f) (2 ^ 64 - 1) → end ≡ min (begin + size) (2 ^ 64 - 1)
    → next ≡ done ++ (f.id, begin, end) ∷ []
    → done ++ ranges_from link live begin left ≡ whole
    → begin + sum_by (primary_bytes link live) left < 2 ^ 64
    → (next ++ ranges_from link live end rest ≡ whole) × (end + sum_by (primary_bytes link live) rest < 2 ^ 64)
unfolding ranges_from
ranges_turn link live begin end size f left rest done next whole splits sized ends made so_far room =
    let sums : sum_by (primary_bytes link live) left ≡ primary_bytes link live f + sum_by (primary_bytes link live) rest = ap (sum_by (primary_bytes link live)) splits ∙ sum_by-cons (primary_bytes link live) f rest in
    let exact : end ≡ begin + primary_bytes link live f = omega (arith, sized, ends, room, sums) in (
      ap (λ xs. xs ++ ranges_from link live end rest) made ∙ append_assoc done ((f.id, begin, end) ∷ []) (ranges_from link live end rest)
          ∙ ap (λ n. done ++ (f.id, begin, n) ∷ ranges_from link live n rest) exact ∙ ap (λ fs. done ++ ranges_from link live begin fs) (sym splits) ∙ so_far,
      omega (arith, exact, room, sums),
    )

-- all files
pub ranges_end : (link : LinkInput) (live : Live) (begin : ℕ) (left : List NumberedFile) (done whole : List (FileId × ℕ × ℕ)) → left ≡ []
    → done ++ ranges_from link live begin left ≡ whole → done ≡ whole
unfolding ranges_from
ranges_end link live begin left done whole none so_far =
    sym (append-nil done) ∙ ap (λ fs. done ++ ranges_from link live begin fs) (sym none) ∙ so_far

-- one element more
pub sum_turn : {X : Type 0} (f : X → ℕ) (x : X) (left rest : List X) (total size next whole : ℕ) → left ≡ x ∷ rest → size ≡ f x → next ≡ min (total + size) (2 ^ 64 - 1)
    → total < 2 ^ 64 → min (total + sum_by f left) (2 ^ 64 - 1) ≡ whole → (next < 2 ^ 64) × (min (next + sum_by f rest) (2 ^ 64 - 1) ≡ whole)
sum_turn f x left rest total size next whole splits sized made small so_far =
    let sums : sum_by f left ≡ f x + sum_by f rest = ap (sum_by f) splits ∙ sum_by-cons f x rest in
    (omega (arith, made), omega (arith, made, sized, sums, so_far, small))

-- a range for each file
ranges_count : (link : LinkInput) (live : Live) (start : ℕ) (fs : List NumberedFile) → length (ranges_from link live start fs) ≡ length fs
unfolding ranges_from
ranges_count link live start [] = refl
ranges_count link live start (f ∷ fs) = ap suc (ranges_count link live (start + primary_bytes link live f) fs)

-- objects are few
pub objects_few : (link : LinkInput) (live : Live) (start : ℕ) → IsWellFormed link → length (planned_objects link live start) ≤ 16777216
objects_few link live start good =
    let some : length (planned_objects link live start) ≤ length (file_ranges link live start)
    = omega (arith, length-filter has_bytes (file_ranges link live start), count_by-le-length has_bytes (file_ranges link live start)) in
    let all : length (map (λ f. f.file) (numbered_files link.groups)) ≡ length (all_files link.groups) = ap length (files_from_are 0 link.groups) in
    omega (
      arith,
      some,
      ranges_count link live start (numbered_files link.groups),
      length-map (numbered_files link.groups) (λ f. f.file),
      all,
      length-flat_map (λ (fs : List InputFile). fs) link.groups,
      (are_numbered link good).few_files,
    )

-- one element more, of which so much is known
pub sum_turn_min : {X : Type 0} (f : X → ℕ) (x : X) (left rest : List X) (total size next whole : ℕ) → left ≡ x ∷ rest → size ≡ min (f x) (2 ^ 64 - 1) → next ≡ min (total + size) (2 ^ 64 - 1)
    → total < 2 ^ 64 → min (total + sum_by f left) (2 ^ 64 - 1) ≡ whole → (next < 2 ^ 64) × (min (next + sum_by f rest) (2 ^ 64 - 1) ≡ whole)
sum_turn_min f x left rest total size next whole splits sized made small so_far =
    let sums : sum_by f left ≡ f x + sum_by f rest = ap (sum_by f) splits ∙ sum_by-cons f x rest in
    (omega (arith, made), omega (arith, made, sized, sums, so_far, small))
