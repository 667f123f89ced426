-- Workers share the files of all groups, and each file is looked at by one of them.
use Rattle.std.proofs.Common.{◌≡◌, ℕ, ◌+◌, ◌<◌, ◌==◌, ◌||◌, not, Bool, true, false, List, [], length, Option, None, Some, get_or, refl, sym, ap, ◌∙◌, arith}
use Rattle.std.specs.List.{enumerate_from, list_all, range_with_len, slice_get, slice_index_or}
use Rattle.std.specs.Option.{option_map_or}
use Rattle.std.proofs.lemmas.Bool.{eq-eqb}
use Rattle.std.proofs.lemmas.Nat.{mod_below}
use Rattle.std.proofs.lemmas.Option.{get_or_from_slice_get, slice_get-get_or, slice_get_within}
use Rattle.lk_link.specs.declared.file.InputFile.{InputFile}
use Rattle.lk_link.specs.declared.link.LinkInput.{LinkInput}
use Rattle.lk_link.specs.Inputs.{NumberedFile, group_files, numbered_files}
use Rattle.lk_link.proofs.Elements.{flat_map_in}
use Rattle.lk_link.proofs.Places.{all_at, all_from}
use Rattle.lk_reach.proofs.Numbered.{file_at, files_of}
use Rattle.lk_slot_link.specs.LinkGraphs.{files_of_group}
use Rattle.lk_workers.specs.Closings.{ClosedValue, are_groups_closed, is_file_closed, is_group_closed}
use Rattle.lk_workers.specs.Shares.{is_passed, is_share_closed, worker_of}
use Rattle.lk_workers.proofs.Covering.{file_closed, second_true}
use Rattle.lk_workers.proofs.GroupFiles.{entry_here, tagged}

-- ---- files of groups

in_all : (groups : List (List InputFile)) (g k : ℕ) (f : NumberedFile) (o : Option (List InputFile)) → slice_get groups g ≡ o → slice_get (option_map_or (group_files g 0) o []) k ≡ Some f
    → (n : ℕ) × (slice_get (numbered_files groups) n ≡ Some f)
in_all groups g k f None e h = absurd (cc)
in_all groups g k f (Some files) e h =
    let own : 0 + g ≡ g = omega arith in
    let there : slice_get (enumerate_from 0 groups) g ≡ Some (tagged g files) = entry_here 0 groups g files e ∙ ap (λ n. Some (tagged n files)) own in
    flat_map_in files_of (enumerate_from 0 groups) g k (tagged g files) f there h

-- where all files are closed, all groups are
groups_closed : (v : ClosedValue) (link : LinkInput) → ((n : ℕ) (f : NumberedFile) → slice_get (numbered_files link.groups) n ≡ Some f → is_file_closed v link f ≡ true) → are_groups_closed v link ≡ true
groups_closed v link h =
    all_from (is_group_closed v link) (range_with_len 0 (length link.groups)) (λ i g at.
    all_from (is_file_closed v link) (files_of_group link.groups g) (λ k f there.
    let n = in_all link.groups g k f (slice_get link.groups g) refl there in
    h n.0 f n.1))

-- ---- shares

same_truth : (a b : Bool) → (a ≡ true → b ≡ true) → (b ≡ true → a ≡ true) → a ≡ b
same_truth true b f g = sym (f refl)
same_truth false true f g = g refl
same_truth false false f g = refl

second_passes : (a b : Bool) → b ≡ true → (a || b) ≡ true
second_passes true b h = refl
second_passes false b h = h

-- the answers of as many workers, in order
abbrev AreAnswers : ClosedValue → LinkInput → ℕ → List Bool → Type 0
AreAnswers v link n answers = (w : ℕ) (d : Bool) → w < n → slice_index_or answers w d ≡ is_share_closed v link n w

-- a file is closed where its worker answers so
file_passed : (v : ClosedValue) (link : LinkInput) (n : ℕ) (answers : List Bool) → 0 < n → length answers ≡ n → AreAnswers v link n answers → list_all (λ b. b) answers ≡ true
    → (k : ℕ) (f : NumberedFile) → slice_get (numbered_files link.groups) k ≡ Some f → is_file_closed v link f ≡ true
file_passed v link n answers some count are h k f at =
    let w = worker_of n f.id in
    let within : w < n = mod_below (f.id.group + f.id.file) n some in
    let answer = get_or answers w false in
    let yes : answer ≡ true = all_at (λ b. b) answers w answer h (slice_get-get_or answers w false (omega (arith, within, count))) in
    let share : is_share_closed v link n w ≡ true = sym (are w false within) ∙ yes in
    second_true (w == w) (is_file_closed v link f) (eq-eqb w w refl) (all_at (is_passed v link n w) (numbered_files link.groups) k f share at)

-- a worker answers so where all files are closed
share_passed : (v : ClosedValue) (link : LinkInput) (n w : ℕ) → are_groups_closed v link ≡ true → is_share_closed v link n w ≡ true
share_passed v link n w h =
    all_from (is_passed v link n w) (numbered_files link.groups) (λ k f at.
    second_passes (not (worker_of n f.id == w)) (is_file_closed v link f) (file_closed link v f h (file_at link.groups k f at).there))

-- all workers answer so exactly where no group has an open ask
pub shares_are_all : (v : ClosedValue) (link : LinkInput) (n : ℕ) (answers : List Bool) → 0 < n → length answers ≡ n → AreAnswers v link n answers → list_all (λ b. b) answers ≡ are_groups_closed v link
shares_are_all v link n answers some count are =
    same_truth (list_all (λ b. b) answers) (are_groups_closed v link)
    (λ h. groups_closed v link (file_passed v link n answers some count are h))
    (λ h. all_from (λ b. b) answers (λ w answer at.
    let within : w < n = omega (arith, slice_get_within answers w answer at, count) in
    sym (get_or_from_slice_get answers w answer answer at) ∙ are w answer within ∙ share_passed v link n w h))
