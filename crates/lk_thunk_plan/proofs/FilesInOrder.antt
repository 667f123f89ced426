-- Files in their order: of what is listed for files, what is left of it, and the one that is found.
use Rattle.std.proofs.Common.{◌≡◌, ℕ, zero, suc, ◌+◌, ◌<◌, ◌≤◌, Bool, true, false, cond, List, [], ◌∷◌, filter, map, Some, IsSome, ap, subst, arith}
use Rattle.std.specs.List.{slice_get}
use Rattle.lk_link.specs.declared.file.InputFile.{InputFile}
use Rattle.lk_link.specs.declared.ids.FileId.{FileId}
use Rattle.lk_link.specs.Files.{file_in}
use Rattle.lk_link.specs.Symbols.{file_number}

-- files of the groups, each with a greater number than the one before, the first one's at least low
abbrev pub FilesRise : List (List InputFile) → ℕ → List FileId → Type 0
FilesRise groups low [] = Unit {0}
FilesRise groups low (id ∷ ids) = (low ≤ file_number groups id) × IsSome (file_in groups id) × FilesRise groups (file_number groups id + 1) ids

pub rise_lower : (groups : List (List InputFile)) (low lower : ℕ) (ids : List FileId) → lower ≤ low → FilesRise groups low ids → FilesRise groups lower ids
rise_lower groups low lower [] le h = tt
rise_lower groups low lower (id ∷ ids) le h = (omega (arith, le, h.0), h.1, h.2)

-- of what is listed for them, some
pub some_rise : {X : Type 0} (groups : List (List InputFile)) (low : ℕ) (f : X → FileId) (p : X → Bool) (xs : List X) → FilesRise groups low (map f xs)
    → FilesRise groups low (map f (filter p xs))
some_rise groups low f p [] h = tt
some_rise groups low f p (x ∷ xs) h =
    let rest = some_rise groups (file_number groups (f x) + 1) f p xs h.2 in
    elim (p x) as (λ b. FilesRise groups low (map f (cond b (x ∷ filter p xs) (filter p xs)))) [
      | true ↦ (h.0, h.1, rest)
      | false ↦ rise_lower groups (file_number groups (f x) + 1) low (map f (filter p xs)) (omega (arith, h.0)) rest
    ]

-- ---- by place

pub file_there : {X : Type 0} (groups : List (List InputFile)) (low : ℕ) (f : X → FileId) (xs : List X) (k : ℕ) (x : X) → FilesRise groups low (map f xs)
    → slice_get xs k ≡ Some x → IsSome (file_in groups (f x)) × (low ≤ file_number groups (f x))
file_there groups low f [] k x h at = absurd (cc)
file_there groups low f (y ∷ xs) zero x h at =
    let same : y ≡ x = cc in
    subst (λ z. IsSome (file_in groups (f z)) × (low ≤ file_number groups (f z))) same (h.1, h.0)
file_there groups low f (y ∷ xs) (suc k) x h at =
    let rest = file_there groups (file_number groups (f y) + 1) f xs k x h.2 at in
    (rest.0, omega (arith, rest.1, h.0))

pub files_rising : {X : Type 0} (groups : List (List InputFile)) (low : ℕ) (f : X → FileId) (xs : List X) (j k : ℕ) (x y : X) → FilesRise groups low (map f xs)
    → j < k → slice_get xs j ≡ Some x → slice_get xs k ≡ Some y → file_number groups (f x) < file_number groups (f y)
files_rising groups low f [] j k x y h lt at_j at_k = absurd (cc)
files_rising groups low f (z ∷ xs) j zero x y h lt at_j at_k = absurd (omega (arith, lt))
files_rising groups low f (z ∷ xs) zero (suc k) x y h lt at_j at_k =
    let same : z ≡ x = cc in
    let behind = file_there groups (file_number groups (f z) + 1) f xs k y h.2 at_k in
    omega (arith, ap (λ w. file_number groups (f w)) same, behind.1)
files_rising groups low f (z ∷ xs) (suc j) (suc k) x y h lt at_j at_k =
    files_rising groups (file_number groups (f z) + 1) f xs j k x y h.2 (omega (arith, lt)) at_j at_k
