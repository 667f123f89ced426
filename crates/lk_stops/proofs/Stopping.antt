-- Walks that stop at the first of some things.
use Rattle.std.proofs.Common.{◌≡◌, ℕ, zero, suc, ◌+◌, ◌<◌, ◌≤◌, List, [], ◌∷◌, ◌++◌, Result, Ok, Err, length, map, take, get_or, Some, sym, ap, ◌∙◌, arith}
use Rattle.std.specs.Prelude.{IsErrAnd}
use Rattle.std.specs.List.{enumerate_from, flat_map, slice_get}
use Rattle.std.specs.Iterator.{Yields, YieldsFirstBy}
use Rattle.std.proofs.lemmas.Iterator.Consumers.{YieldsList-from_first, YieldsList-so_far}
use Rattle.std.proofs.lemmas.List.{take_all}
use Rattle.std.proofs.lemmas.List.FromFn.{length-enumerate_from}
use Rattle.std.proofs.lemmas.Option.{slice_get-get_or}
use Rattle.lk_link.specs.declared.walks.FileRef.{FileRef}
use Rattle.lk_link.specs.Inputs.{NumberedFile}
use Rattle.lk_link.specs.Walks.{file_of}
use Rattle.lk_link.proofs.Elements.{append_left}
use Rattle.lk_link.proofs.InputLemmas.{numbered_get}
use Rattle.lk_stops.specs.Stops.{StopsAtFirst}

-- nothing in two lists is nothing in each
nothing_first : {X : Type 0} (xs ys : List X) → xs ++ ys ≡ [] → xs ≡ []
nothing_first [] ys h = λ i. []
nothing_first (x ∷ xs) ys h = absurd (cc)

nothing_second : {X : Type 0} (xs ys : List X) → xs ++ ys ≡ [] → ys ≡ []
nothing_second [] ys h = h
nothing_second (x ∷ xs) ys h = absurd (cc)

-- the first of what comes of one thing is the first of all, if nothing comes of those before
stops_here : {X Y : Type 0} (f : X → List Y) (xs : List X) (k : ℕ) (x : X) (y : Y) → slice_get xs k ≡ Some x → flat_map f (take k xs) ≡ [] → slice_get (f x) 0 ≡ Some y
    → slice_get (flat_map f xs) 0 ≡ Some y
stops_here f [] k x y there none found = absurd (cc)
stops_here f (z ∷ zs) zero x y there none found =
    let same : z ≡ x = cc in
    append_left (f z) (flat_map f zs) 0 y (ap (λ w. slice_get (f w) 0) same ∙ found)
stops_here f (z ∷ zs) (suc k) x y there none found =
    let here : f z ≡ [] = nothing_first (f z) (flat_map f (take k zs)) none in
    ap (λ ys. slice_get (ys ++ flat_map f zs) 0) here ∙ stops_here f zs k x y there (nothing_second (f z) (flat_map f (take k zs)) none) found

-- nothing comes of one more
goes_on : {X Y : Type 0} (f : X → List Y) (xs : List X) (k : ℕ) (x : X) → slice_get xs k ≡ Some x → flat_map f (take k xs) ≡ [] → f x ≡ [] → flat_map f (take (k + 1) xs) ≡ []
goes_on f [] k x there none here = absurd (cc)
goes_on f (z ∷ zs) zero x there none here =
    let same : z ≡ x = cc in
    ap (λ ys. ys ++ []) (ap f same ∙ here)
goes_on f (z ∷ zs) (suc k) x there none here =
    let first : f z ≡ [] = nothing_first (f z) (flat_map f (take k zs)) none in
    let more : suc k + 1 ≡ suc (k + 1) = omega arith in
    ap (λ n. flat_map f (take n (z ∷ zs))) more
    ∙ ap (λ ys. ys ++ flat_map f (take (k + 1) zs)) first ∙ goes_on f zs k x there (nothing_second (f z) (flat_map f (take k zs)) none) here

-- ---- numbered things, as they are read

numbered : {X : Type 0} (n : ℕ) (xs ys : List X) (k m : ℕ) (d : X) → ys ≡ xs → k < length ys → m ≡ n + k → slice_get (enumerate_from n xs) k ≡ Some (m, get_or ys k d)
numbered {X} n xs ys k m d are below number =
    let x : X = get_or ys k d in
    let at : slice_get xs k ≡ Some x = ap (λ (zs : List X). slice_get zs k) (sym are) ∙ slice_get-get_or ys k d below in
    numbered_get n xs k x at ∙ ap (λ (i : ℕ). Some (i, x)) (sym number)

pub stops_at : {X Y : Type 0} (f : ℕ × X → List Y) (n : ℕ) (xs ys : List X) (k m : ℕ) (d : X) (y : Y) → ys ≡ xs → k < length ys → m ≡ n + k
    → flat_map f (take k (enumerate_from n xs)) ≡ [] → slice_get (f (m, get_or ys k d)) 0 ≡ Some y → slice_get (flat_map f (enumerate_from n xs)) 0 ≡ Some y
stops_at f n xs ys k m d y are below number none found =
    stops_here f (enumerate_from n xs) k (m, get_or ys k d) y (numbered n xs ys k m d are below number) none found

pub one_more : {X Y : Type 0} (f : ℕ × X → List Y) (n : ℕ) (xs ys : List X) (k m : ℕ) (d : X) → ys ≡ xs → k < length ys → m ≡ n + k
    → flat_map f (take k (enumerate_from n xs)) ≡ [] → f (m, get_or ys k d) ≡ [] → flat_map f (take (k + 1) (enumerate_from n xs)) ≡ []
one_more f n xs ys k m d are below number none here =
    goes_on f (enumerate_from n xs) k (m, get_or ys k d) (numbered n xs ys k m d are below number) none here

pub all_gone : {X Y : Type 0} (f : ℕ × X → List Y) (n : ℕ) (xs ys : List X) (k : ℕ) → ys ≡ xs → length ys ≤ k → flat_map f (take k (enumerate_from n xs)) ≡ []
    → flat_map f (enumerate_from n xs) ≡ []
all_gone f n xs ys k are past none =
    let whole : take k (enumerate_from n xs) ≡ enumerate_from n xs
    = take_all k (enumerate_from n xs) (omega (arith, past, ap length are, length-enumerate_from n xs)) in
    ap (flat_map f) (sym whole) ∙ none

-- ---- files

pub files_so_far : (all s t : List NumberedFile) (done : List FileRef) → s ≡ all → Yields (YieldsFirstBy {S = List NumberedFile} file_of (λ left. left)) s done t
    → map file_of done ≡ take (length done) all
files_so_far all s t done begins yielded =
    let walk = YieldsList-from_first file_of (λ (left : List NumberedFile). left) {s = s} all begins in
    YieldsList-so_far walk done t yielded

pub file_stops : {Y : Type 0} (f : NumberedFile → List Y) (all s t : List NumberedFile) (done : List FileRef) (x : FileRef) (y : Y) → s ≡ all
    → Yields (YieldsFirstBy {S = List NumberedFile} file_of (λ left. left)) s done t → slice_get all (length done) ≡ Some (file_of x)
    → flat_map f (map file_of done) ≡ [] → slice_get (f (file_of x)) 0 ≡ Some y → slice_get (flat_map f all) 0 ≡ Some y
file_stops f all s t done x y begins yielded at none found =
    stops_here f all (length done) (file_of x) y at (ap (flat_map f) (sym (files_so_far all s t done begins yielded)) ∙ none) found

-- ---- how it is answered

-- where nothing comes of the first of two, what stops in the second stops in both
pub stops_second : {X : Type 0} (xs ys : List X) (x : X) → xs ≡ [] → slice_get ys 0 ≡ Some x → slice_get (xs ++ ys) 0 ≡ Some x
stops_second xs ys x none h = ap (λ zs. slice_get (zs ++ ys) 0) none ∙ h

-- the exit of a `?`
pub exit : {X : Type 0} (xs : List X) (P : X → Type 0) (r : Result Unit X) → IsErrAnd r P → ((e : X) → P e → slice_get xs 0 ≡ Some e) → StopsAtFirst xs r
exit xs P (Ok x) h f = absurd h
exit xs P (Err e) h f = f e h
