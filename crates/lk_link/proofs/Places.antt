-- Elements of lists, by their place.
use Rattle.std.specs.Prelude.{◌≡◌, ℕ, zero, suc, ◌<◌, ◌≤◌, Bool, true, false, not, ◌||◌, List, [], ◌∷◌, Option, Some, None, length, take, slice_get, position, sum_by, refl}
use Rattle.std.specs.Option.{IsSome}
use Rattle.std.specs.List.{list_all, list_any, prefix_len, find, flat_map}
use Rattle.std.proofs.Common.{sym, ap, ◌∙◌, inl, inr, ⊎_elim, arith, cond, get_or}
use Rattle.std.proofs.Math.Bool.{or-true, not-not}
use Rattle.std.proofs.lemmas.Bool.{and_parts, and_from, or_cases, cases_lt, lt-ltb, false≢true}
use Rattle.std.proofs.lemmas.List.Folds.{list_all-append}
use Rattle.std.proofs.lemmas.List.Sums.{get_or-le-sum_by, prefix_len_passes, list_all-from_AllPass}
use Rattle.std.proofs.lemmas.Option.{get_or_from_slice_get, option_and_then_some, slice_get_within}
use Rattle.lk_link.specs.declared.file.InputFile.{InputFile}
use Rattle.lk_link.specs.declared.ids.FileId.{FileId}
use Rattle.lk_link.specs.Files.{file_in}

-- ---- all elements

-- what all elements pass, each passes
pub all_at : {X : Type 0} (p : X → Bool) (xs : List X) (k : ℕ) (x : X) → list_all p xs ≡ true → slice_get xs k ≡ Some x → p x ≡ true
all_at p [] k x h e = absurd (cc)
all_at p (y ∷ xs) zero x h e = let same : y ≡ x = cc in ap p (sym same) ∙ (and_parts (p y) (list_all p xs) h).0
all_at p (y ∷ xs) (suc k) x h e = all_at p xs k x (and_parts (p y) (list_all p xs) h).1 e

-- what each element passes, all pass
pub all_from : {X : Type 0} (p : X → Bool) (xs : List X) → ((k : ℕ) (x : X) → slice_get xs k ≡ Some x → p x ≡ true) → list_all p xs ≡ true
all_from p [] h = refl
all_from p (x ∷ xs) h = and_from (p x) (list_all p xs) (h 0 x refl) (all_from p xs (λ k. h (suc k)))

-- what all elements of all lists pass, all elements of the joined list pass
pub all_joined : {X Y : Type 0} (p : Y → Bool) (f : X → List Y) (xs : List X) → list_all (λ x. list_all p (f x)) xs ≡ true → list_all p (flat_map f xs) ≡ true
all_joined p f [] h = refl
all_joined p f (x ∷ xs) h =
    let both = and_parts (list_all p (f x)) (list_all (λ y. list_all p (f y)) xs) h in
    list_all-append p (f x) (flat_map f xs) ∙ and_from (list_all p (f x)) (list_all p (flat_map f xs)) both.0 (all_joined p f xs both.1)

-- and the other way round
pub all_parted : {X Y : Type 0} (p : Y → Bool) (f : X → List Y) (xs : List X) → list_all p (flat_map f xs) ≡ true → list_all (λ x. list_all p (f x)) xs ≡ true
all_parted p f [] h = refl
all_parted p f (x ∷ xs) h =
    let both = and_parts (list_all p (f x)) (list_all p (flat_map f xs)) (sym (list_all-append p (f x) (flat_map f xs)) ∙ h) in
    and_from (list_all p (f x)) (list_all (λ y. list_all p (f y)) xs) both.0 (all_parted p f xs both.1)

-- what passes a test passes one that asks less
pub all_weaker : {X : Type 0} (p q : X → Bool) (xs : List X) → ((x : X) → p x ≡ true → q x ≡ true) → list_all p xs ≡ true → list_all q xs ≡ true
all_weaker p q [] f h = refl
all_weaker p q (x ∷ xs) f h =
    let both = and_parts (p x) (list_all p xs) h in
    and_from (q x) (list_all q xs) (f x both.0) (all_weaker p q xs f both.1)

-- where none fails, all pass
pub all_where_none : {X : Type 0} (p : X → Bool) (xs : List X) → position (λ x. not (p x)) xs ≡ None → list_all p xs ≡ true
all_where_none p xs h =
    let n = prefix_len (λ x. not (not (p x))) xs in
    list_all-from_AllPass p xs (⊎_elim
    (λ short. absurd (let some : position (λ x. not (p x)) xs ≡ Some n = ap (λ b. cond b (Some n) None) (lt-ltb n (length xs) short) in cc))
    (λ whole k d lt. sym (not-not (p (get_or xs k d))) ∙ (prefix_len_passes (λ x. not (not (p x))) xs k d (omega arith)))
    (cases_lt n (length xs)))

not_here : {X : Type 0} (b : Bool) (x : X) (o : Option X) → cond b (Some x) o ≡ None → (b ≡ false) × (o ≡ None)
not_here true x o h = absurd (cc)
not_here false x o h = (refl, h)

-- where none is found, each fails
pub none_found : {X : Type 0} (p : X → Bool) (xs : List X) (k : ℕ) (x : X) → find p xs ≡ None → slice_get xs k ≡ Some x → p x ≡ false
none_found p [] k x h e = absurd (cc)
none_found p (y ∷ xs) zero x h e = let same : y ≡ x = cc in ap p (sym same) ∙ (not_here (p y) y (find p xs) h).0
none_found p (y ∷ xs) (suc k) x h e = none_found p xs k x (not_here (p y) y (find p xs) h).1 e

here_or_later : {X : Type 0} (p : X → Bool) (b : Bool) (y x : X) (o : Option X) → p y ≡ b → (o ≡ Some x → p x ≡ true) → cond b (Some y) o ≡ Some x → p x ≡ true
here_or_later p true y x o e later h = let same : y ≡ x = cc in ap p (sym same) ∙ e
here_or_later p false y x o e later h = later h

-- what is found passes
pub found_passes : {X : Type 0} (p : X → Bool) (xs : List X) (x : X) → find p xs ≡ Some x → p x ≡ true
found_passes p [] x h = absurd (cc)
found_passes p (y ∷ xs) x h = here_or_later p (p y) y x (find p xs) refl (found_passes p xs x) h

-- ---- some element

-- an element that passes, among the first k
pub found : {X : Type 0} (p : X → Bool) (xs : List X) (k : ℕ) → list_any p (take k xs) ≡ true → (j : ℕ) × (x : X) × (j < k) × (slice_get xs j ≡ Some x) × (p x ≡ true)
found p [] zero h = absurd (cc)
found p [] (suc k) h = absurd (cc)
found p (x ∷ xs) zero h = absurd (cc)
found p (x ∷ xs) (suc k) h =
    elim (or_cases (p x) (list_any p (take k xs)) h) [
      | inl here ↦ (0, x, omega arith, refl, here)
      | inr later ↦ let r = found p xs k later in (suc r.0, r.1, omega (arith, r.2), r.3, r.4)
    ]

-- the first k have an element that passes
pub among : {X : Type 0} (p : X → Bool) (xs : List X) (j k : ℕ) (x : X) → j < k → slice_get xs j ≡ Some x → p x ≡ true → list_any p (take k xs) ≡ true
among p [] j k x lt e h = absurd (cc)
among p (y ∷ xs) j zero x lt e h = absurd (omega arith)
among p (y ∷ xs) zero (suc k) x lt e h = let same : y ≡ x = cc in ap (λ b. b || list_any p (take k xs)) (ap p same ∙ h)
among p (y ∷ xs) (suc j) (suc k) x lt e h = ap (λ b. p y || b) (among p xs j k x (omega arith) e h) ∙ or-true (p y)

-- the value of a `Some`
pub value_of : {X : Type 0} (o : Option X) → IsSome o → (x : X) × (o ≡ Some x)
value_of None h = absurd (false≢true h)
value_of (Some x) h = (x, refl)

-- ---- files

-- a file stands in a group
pub file_place : (groups : List (List InputFile)) (id : FileId) (file : InputFile) → file_in groups id ≡ Some file → (files : List InputFile) × (slice_get groups id.group ≡ Some files) × (slice_get files id.file ≡ Some file)
file_place groups id file h =
    option_and_then_some (λ group. slice_get group id.file) (slice_get groups id.group) file h (λ files at_g at_n. (files, at_g, at_n))

-- what all files pass, each passes
pub file_passes : (p : InputFile → Bool) (groups : List (List InputFile)) (id : FileId) (file : InputFile) → list_all (λ files. list_all p files) groups ≡ true → file_in groups id ≡ Some file → p file ≡ true
file_passes p groups id file h at_id =
    let place = file_place groups id file at_id in
    all_at p place.0 id.file file (all_at (λ files. list_all p files) groups id.group place.0 h place.1) place.2

-- a group has no more files than all groups together
pub files_of_group : (groups : List (List InputFile)) (g : ℕ) (files : List InputFile) → slice_get groups g ≡ Some files → length files ≤ sum_by length groups
files_of_group groups g files at_g =
    let inside = slice_get_within groups g files at_g in
    let same = get_or_from_slice_get groups g files files at_g in
    let sum = get_or-le-sum_by length groups g files inside in
    rw same at sum
