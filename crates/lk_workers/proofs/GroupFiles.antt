-- The files of a group, by their indexes there.
use Rattle.std.proofs.Common.{◌≡◌, ℕ, zero, suc, ◌+◌, List, [], ◌∷◌, map, Option, None, Some, option_and_then, refl, ap, ◌∙◌, arith}
use Rattle.std.specs.List.{enumerate_from, slice_get}
use Rattle.std.specs.Option.{option_map_or}
use Rattle.lk_link.specs.declared.file.InputFile.{InputFile}
use Rattle.lk_link.specs.Files.{file_in}
use Rattle.lk_link.specs.Inputs.{NumberedFile, group_files, numbered_file}
use Rattle.lk_link.proofs.Elements.{map_in}
use Rattle.lk_slot_link.specs.LinkGraphs.{files_of_group}

abbrev pub tagged : {X : Type 0} → ℕ → X → ℕ × X
tagged n x = (n, x)

-- an element stands with its number where it stood
pub entry_here : {X : Type 0} (o : ℕ) (xs : List X) (k : ℕ) (x : X) → slice_get xs k ≡ Some x → slice_get (enumerate_from o xs) k ≡ Some (tagged (o + k) x)
entry_here o [] k x h = absurd (cc)
entry_here o (y ∷ xs) zero x h =
    let same : y ≡ x = cc in
    let at_first : o ≡ o + 0 = omega arith in
    ap (λ z. Some (tagged o z)) same ∙ ap (λ n. Some (tagged n x)) at_first
entry_here o (y ∷ xs) (suc k) x h =
    let later : o + 1 + k ≡ o + suc k = omega arith in
    entry_here (o + 1) xs k x h ∙ ap (λ n. Some (tagged n x)) later

mapped_in : {X Y : Type 0} (f : ℕ × X → Y) (o : ℕ) (xs : List X) (k : ℕ) (x : X) → slice_get xs k ≡ Some x → slice_get (map f (enumerate_from o xs)) k ≡ Some (f (tagged (o + k) x))
mapped_in f o xs k x h = map_in f (enumerate_from o xs) k (tagged (o + k) x) (entry_here o xs k x h)

mapped_none : {X Y : Type 0} (f : ℕ × X → Y) (o : ℕ) (xs : List X) (k : ℕ) → slice_get xs k ≡ None → slice_get (map f (enumerate_from o xs)) k ≡ None
mapped_none f o [] zero h = refl
mapped_none f o [] (suc k) h = refl
mapped_none f o (y ∷ xs) zero h = absurd (cc)
mapped_none f o (y ∷ xs) (suc k) h = mapped_none f (o + 1) xs k h

-- a file with its index in its group
abbrev pub file_with : ℕ → ℕ → InputFile → NumberedFile
file_with g k file = record { id = record { group = g; file = k }; file = file }

here : (g k : ℕ) (o : Option (List InputFile)) (file : InputFile) → option_and_then (λ group. slice_get group k) o ≡ Some file → slice_get (option_map_or (group_files g 0) o []) k ≡ Some (file_with g k file)
here g k None file h = absurd (cc)
here g k (Some files) file h =
    let own : 0 + k ≡ k = omega arith in
    mapped_in (numbered_file g) 0 files k file h ∙ ap (λ n. Some (file_with g n file)) own

pub file_here : (groups : List (List InputFile)) (g k : ℕ) (file : InputFile) → file_in groups (record { group = g; file = k }) ≡ Some file → slice_get (files_of_group groups g) k ≡ Some (file_with g k file)
file_here groups g k file h = here g k (slice_get groups g) file h

nowhere : (g k : ℕ) (o : Option (List InputFile)) → option_and_then (λ group. slice_get group k) o ≡ None → slice_get (option_map_or (group_files g 0) o []) k ≡ None
nowhere g zero None h = refl
nowhere g (suc k) None h = refl
nowhere g k (Some files) h = mapped_none (numbered_file g) 0 files k h

pub no_file_here : (groups : List (List InputFile)) (g k : ℕ) → file_in groups (record { group = g; file = k }) ≡ None → slice_get (files_of_group groups g) k ≡ None
no_file_here groups g k h = nowhere g k (slice_get groups g) h
