-- Where groups begin in a table, one group after the other.
use Rattle.std.proofs.Common.{◌≡◌, ℕ, zero, suc, ◌+◌, ◌-◌, ◌≤◌, ◌<◌, ◌^◌, false, List, [], ◌∷◌, ◌++◌, length, take, drop, map, refl, sym, ap, ◌∙◌, arith, add-one, zero-add}
use Rattle.std.specs.Prelude.{◌==◌, if◌then◌else◌, min, sum_by}
use Rattle.std.specs.List.{range_with_len, slice_index_or}
use Rattle.std.proofs.Math.Seq.{drop-cons, take-add}
use Rattle.std.proofs.lemmas.Bool.Decides.{nat_tests}
use Rattle.std.proofs.lemmas.List.{drop-drop, drop_all}
use Rattle.std.proofs.lemmas.List.FromFn.{map-range_with_len_more}
use Rattle.std.proofs.lemmas.List.Sums.{sum_by-append, sum_by-cons, sum_by_more}
use Rattle.lk_link.specs.declared.file.InputFile.{InputFile}
use Rattle.lk_group_starts.specs.GroupStarts.{capped, files_before, starts_in, taken_before}

-- a sum of numbers
abbrev pub total : List ℕ → ℕ
total ns = sum_by (λ b. b) ns

-- one number more
pub total_step : (all sum next i : ℕ) (bytes : List ℕ) → i < length bytes → next ≡ min (all + slice_index_or bytes i 0) (2 ^ 64 - 1) → capped (all + total (drop i bytes)) ≡ capped (sum + total bytes)
    → (next < 2 ^ 64) × (capped (next + total (drop (i + 1) bytes)) ≡ capped (sum + total bytes))
total_step all sum next i bytes below is before =
    let x : ℕ = slice_index_or bytes i 0 in
    let parts : drop i bytes ≡ x ∷ drop (i + 1) bytes = drop-cons bytes i 0 below ∙ ap (λ n. x ∷ drop n bytes) (sym (add-one i)) in
    let left : total (drop i bytes) ≡ x + total (drop (i + 1) bytes) = ap total parts ∙ sum_by-cons (λ (b : ℕ). b) x (drop (i + 1) bytes) in
    (omega (arith, is), omega (arith, is, before, left))

-- at the end all are in
pub total_end : (all sum i : ℕ) (bytes : List ℕ) → length bytes ≤ i → all < 2 ^ 64 → capped (all + total (drop i bytes)) ≡ capped (sum + total bytes) → all ≡ capped (sum + total bytes)
total_end all sum i bytes past fits before =
    let none : total (drop i bytes) ≡ 0 = ap total (drop_all i bytes past) in
    omega (arith, none, fits, before)

-- there are none among so many just where there are none
same_zero : (n : ℕ) → (capped n == 0) ≡ (n == 0)
same_zero zero = refl
same_zero (suc n) =
    let some : (capped (suc n) == 0) ≡ false = grind (arith, nat_tests) in
    let other : (suc n == 0) ≡ false = grind (arith, nat_tests) in
    some ∙ sym other

-- behind one group more
pub turn : (groups : List (List InputFile)) (own : ℕ) (bytes items new left here rest : List ℕ) (sum next files later start size i : ℕ) (group : List InputFile) → i < length groups → size ≡ length (slice_index_or groups i group)
    → items ≡ map (λ g. taken_before own bytes (files_before groups g)) (range_with_len 0 i) → left ≡ drop (files_before groups i) bytes
    → sum ≡ capped (own + total (take (files_before groups i) bytes)) → files ≡ capped (files_before groups i)
    → start ≡ (if files == 0 then 0 else sum) → new ≡ items ++ (start ∷ []) → here ≡ take size left → rest ≡ drop size left → next ≡ capped (sum + total here) → later ≡ min (files + size) (2 ^ 64 - 1)
    → (new ≡ map (λ g. taken_before own bytes (files_before groups g)) (range_with_len 0 (i + 1))) × (rest ≡ drop (files_before groups (i + 1)) bytes)
    × (next ≡ capped (own + total (take (files_before groups (i + 1)) bytes))) × (later ≡ capped (files_before groups (i + 1)))
turn groups own bytes items new left here rest sum next files later start size i group below sized are at so_far counted starts pushed first behind more count =
    let n : ℕ = files_before groups i in
    let step : files_before groups (i + 1) ≡ n + size = sum_by_more length groups i group below ∙ ap (λ m. n + m) (sym sized) in
    let told : start ≡ taken_before own bytes n = starts ∙ (λ j. if counted j == 0 then 0 else so_far j) ∙ (λ j. if same_zero n j then 0 else capped (own + total (take n bytes))) in
    let all : new ≡ map (λ g. taken_before own bytes (files_before groups g)) (range_with_len 0 (i + 1))
    = pushed ∙ (λ j. are j ++ (told j ∷ [])) ∙ sym (map-range_with_len_more (λ (g : ℕ). taken_before own bytes (files_before groups g)) 0 i i (zero-add i)) in
    let later_left : rest ≡ drop (files_before groups (i + 1)) bytes = behind ∙ (λ j. drop size (at j)) ∙ drop-drop size n bytes ∙ ap (λ m. drop m bytes) (sym step) in
    let parts : total (take (files_before groups (i + 1)) bytes) ≡ total (take n bytes) + total (take size (drop n bytes))
    = ap (λ m. total (take m bytes)) step ∙ ap total (take-add n size bytes) ∙ sum_by-append (λ (b : ℕ). b) (take n bytes) (take size (drop n bytes)) in
    let here_is : total here ≡ total (take size (drop n bytes)) = ap total (first ∙ (λ j. take size (at j))) in
    (all, later_left, omega (arith, more, so_far, here_is, parts), omega (arith, count, counted, step))

-- behind all groups
pub all_starts : (groups : List (List InputFile)) (own : ℕ) (bytes items new : List ℕ) (sum files start i : ℕ) → i ≡ length groups
    → items ≡ map (λ g. taken_before own bytes (files_before groups g)) (range_with_len 0 i)
    → sum ≡ capped (own + total (take (files_before groups i) bytes)) → files ≡ capped (files_before groups i)
    → start ≡ (if files == 0 then 0 else sum) → new ≡ items ++ (start ∷ []) → new ≡ starts_in groups own bytes
all_starts groups own bytes items new sum files start i ends are so_far counted starts pushed =
    let n : ℕ = files_before groups i in
    let told : start ≡ taken_before own bytes n = starts ∙ (λ j. if counted j == 0 then 0 else so_far j) ∙ (λ j. if same_zero n j then 0 else capped (own + total (take n bytes))) in
    pushed ∙ (λ j. are j ++ (told j ∷ [])) ∙ sym (map-range_with_len_more (λ (g : ℕ). taken_before own bytes (files_before groups g)) 0 i i (zero-add i))
    ∙ ap (λ m. map (λ g. taken_before own bytes (files_before groups g)) (range_with_len 0 (m + 1))) ends
