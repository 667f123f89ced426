-- Sums over the symbols of a file: one more at a time, over those that pass, and how great they are.
use Rattle.std.proofs.Common.{◌≡◌, ℕ, zero, suc, ◌+◌, ◌*◌, ◌^◌, ◌<◌, ◌≤◌, ◌&&◌, Bool, true, false, if◌then◌else◌, List, [], ◌∷◌, ◌++◌, filter, length, map, take, sum_by, get_or, Some, refl, sym, ap, ◌∙◌, arith}
use Rattle.std.specs.List.{All, enumerate_from, slice_get}
use Rattle.std.proofs.lemmas.Option.{get_or_from_slice_get, slice_get_within}
use Rattle.lk_link.specs.declared.fault.Limited.TheVariants as limited
use Rattle.lk_link.specs.declared.file.InputFile.{InputFile}
use Rattle.lk_link.specs.declared.ids.FileId.{FileId}
use Rattle.lk_link.specs.declared.link.LinkInput.{LinkInput}
use Rattle.lk_link.specs.declared.symbol.InputSymbol.{InputSymbol}
use Rattle.lk_link.specs.Files.{file_in}
use Rattle.lk_link.specs.Limits.{counted, file_name_bytes, limit_of, name_bytes}
use Rattle.lk_link.specs.WellFormed.{IsWellFormed}
use Rattle.lk_link.proofs.Places.{file_place}
use Rattle.std.proofs.lemmas.List.Sums.{get_or-le-sum_by, sum_by-cons, sum_by-le, sum_by_push}
use Rattle.lk_tables.specs.SymbolTable.{TableEntry, entry_bytes}

-- one element more, with its number
numbered_more : {X : Type 0} (o n : ℕ) (xs : List X) (d : X) → n < length xs
    → enumerate_from o (take (suc n) xs) ≡ enumerate_from o (take n xs) ++ (o + n, get_or xs n d) ∷ []
numbered_more o n [] d lt = absurd (omega (arith, lt))
numbered_more o zero (x ∷ xs) d lt = let e : o ≡ o + 0 = omega arith in ap (λ i. (i, x) ∷ []) e
numbered_more o (suc n) (x ∷ xs) d lt =
    let e : o + 1 + n ≡ o + suc n = omega arith in
    ap (λ ys. (o, x) ∷ ys) (numbered_more (o + 1) n xs d (omega (arith, lt)) ∙ ap (λ i. enumerate_from (o + 1) (take n xs) ++ (i, get_or xs n d) ∷ []) e)

-- the same, for an element that was read
pub numbered_next : {X : Type 0} (o n : ℕ) (xs : List X) (x d : X) → n < length xs → x ≡ get_or xs n d
    → enumerate_from o (take (n + 1) xs) ≡ enumerate_from o (take n xs) ++ (o + n, x) ∷ []
numbered_next o n xs x d lt read =
    let next : n + 1 ≡ suc n = omega arith in
    ap (λ k. enumerate_from o (take k xs)) next ∙ numbered_more o n xs d lt ∙ ap (λ y. enumerate_from o (take n xs) ++ (o + n, y) ∷ []) (sym read)

-- the sum over one more
pub sum_more : {X : Type 0} (f : ℕ × X → ℕ) (o n : ℕ) (xs : List X) (x d : X) → n < length xs → x ≡ get_or xs n d
    → sum_by f (enumerate_from o (take (n + 1) xs)) ≡ sum_by f (enumerate_from o (take n xs)) + f (o + n, x)
sum_more f o n xs x d lt read =
    let next : n + 1 ≡ suc n = omega arith in
    ap (λ k. sum_by f (enumerate_from o (take k xs))) next ∙ ap (sum_by f) (numbered_more o n xs d lt)
    ∙ sum_by_push f (enumerate_from o (take n xs)) (o + n, get_or xs n d)
    ∙ ap (λ y. sum_by f (enumerate_from o (take n xs)) + f (o + n, y)) (sym read)

passing_head : {X : Type 0} (p : X → Bool) (g : X → TableEntry) (x : X) (xs : List X) (n : ℕ) (b : Bool) → p x ≡ b → entry_bytes (map g (filter p xs)) ≡ n
    → entry_bytes (map g (filter p (x ∷ xs))) ≡ (if p x then (g x).bytes else 0) + n
passing_head p g x xs n true h rest =
    let head : entry_bytes (g x ∷ map g (filter p xs)) ≡ (g x).bytes + n = sum_by-cons (λ e. e.bytes) (g x) (map g (filter p xs)) ∙ ap (λ m. (g x).bytes + m) rest in
    ap (λ c. entry_bytes (map g (if c then x ∷ filter p xs else filter p xs))) h ∙ head ∙ sym (ap (λ c. (if c then (g x).bytes else 0) + n) h)
passing_head p g x xs n false h rest =
    let none : n ≡ 0 + n = omega arith in
    ap (λ c. entry_bytes (map g (if c then x ∷ filter p xs else filter p xs))) h ∙ rest ∙ none ∙ sym (ap (λ c. (if c then (g x).bytes else 0) + n) h)

-- the bytes of the entries of those that pass
pub sum_passing : {X : Type 0} (p : X → Bool) (g : X → TableEntry) (xs : List X)
    → entry_bytes (map g (filter p xs)) ≡ sum_by (λ x. if p x then (g x).bytes else 0) xs
sum_passing p g [] = refl
sum_passing p g (x ∷ xs) =
    passing_head p g x xs _ (p x) refl (sum_passing p g xs) ∙ sym (sum_by-cons (λ y. if p y then (g y).bytes else 0) x xs)

-- those that pass twice
twice_head : {X : Type 0} (p q : X → Bool) (x : X) (xs : List X) (b : Bool) → p x ≡ b → filter q (filter p xs) ≡ filter (λ y. p y && q y) xs
    → filter q (filter p (x ∷ xs)) ≡ filter (λ y. p y && q y) (x ∷ xs)
twice_head p q x xs true h rest =
    ap (λ c. filter q (if c then x ∷ filter p xs else filter p xs)) h
    ∙ ap (λ ys. if q x then x ∷ ys else ys) rest
    ∙ sym (ap (λ c. if c && q x then x ∷ filter (λ y. p y && q y) xs else filter (λ y. p y && q y) xs) h)
twice_head p q x xs false h rest =
    ap (λ c. filter q (if c then x ∷ filter p xs else filter p xs)) h ∙ rest
    ∙ sym (ap (λ c. if c && q x then x ∷ filter (λ y. p y && q y) xs else filter (λ y. p y && q y) xs) h)

pub passing_twice : {X : Type 0} (p q : X → Bool) (xs : List X) → filter q (filter p xs) ≡ filter (λ y. p y && q y) xs
passing_twice p q [] = refl
passing_twice p q (x ∷ xs) = twice_head p q x xs (p x) refl (passing_twice p q xs)

-- ---- bounds

pub if_at_most : (b : Bool) (n m : ℕ) → n ≤ m → (if b then n else 0) ≤ m
if_at_most true n m h = h
if_at_most false n m h = omega arith

-- with entries of at most so many bytes
pub sum_at_most : {X : Type 0} (p : X → Bool) (n m : ℕ) (xs : List X) → n ≤ m → sum_by (λ x. if p x then n else 0) xs ≤ length xs * m
sum_at_most p n m xs h = sum_by-le (λ x. if p x then n else 0) m xs (λ k d lt. if_at_most (p (get_or xs k d)) n m h)

part_at_most : (b : Bool) (n : ℕ) → (if b then n else 0) ≤ n
part_at_most true n = omega arith
part_at_most false n = omega arith

-- the sum over those that pass is at most that over all
pub sum_of_part : {X : Type 0} (p : X → Bool) (f : X → ℕ) (xs : List X) → sum_by (λ x. if p x then f x else 0) xs ≤ sum_by f xs
sum_of_part p f [] = omega arith
sum_of_part p f (x ∷ xs) =
    omega (arith, sum_of_part p f xs, part_at_most (p x) (f x), sum_by-cons (λ y. if p y then f y else 0) x xs, sum_by-cons f x xs)

-- a sum goes by elements, whatever their numbers
pub sum_numbered : {X : Type 0} (f : X → ℕ) (o : ℕ) (xs : List X) → sum_by (λ q. f q.1) (enumerate_from o xs) ≡ sum_by f xs
sum_numbered {X = X} f o [] = refl
sum_numbered {X = X} f o (x ∷ xs) =
    omega (arith, sum_numbered f (o + 1) xs, sum_by-cons (λ (q : ℕ × X). f q.1) (o, x) (enumerate_from (o + 1) xs), sum_by-cons f x xs)

-- ---- names

member_at_most : {X : Type 0} (f : X → ℕ) (xs : List X) (i : ℕ) (x : X) → slice_get xs i ≡ Some x → f x ≤ sum_by f xs
member_at_most f xs i x h =
    let lt = slice_get_within xs i x h in
    let same = ap f (get_or_from_slice_get xs i x x h) in
    omega (arith, same, get_or-le-sum_by f xs i x lt)

-- the names of a file's symbols
pub names_few : (link : LinkInput) (id : FileId) (f : InputFile) → IsWellFormed link → file_in link.groups id ≡ Some f
    → sum_by (λ (x : InputSymbol). length x.name + 1) f.symbols ≤ 2147483647
unfolding counted limit_of
names_few link id f wf h =
    let place = file_place link.groups id f h in
    let few : name_bytes link ≤ 2147483647 = wf.within limited.NameBytes in
    let group = member_at_most (λ (fs : List InputFile). sum_by file_name_bytes fs) link.groups id.group place.0 place.1 in
    let file = member_at_most file_name_bytes place.0 id.file f place.2 in
    omega (arith, few, group, file)

-- each of them
pub each_name_few : (link : LinkInput) (id : FileId) (f : InputFile) → IsWellFormed link → file_in link.groups id ≡ Some f
    → All (λ (x : InputSymbol). length x.name < 2 ^ 32) f.symbols
each_name_few link id f wf h = λ k d lt.
    omega (arith, names_few link id f wf h, get_or-le-sum_by (λ (x : InputSymbol). length x.name + 1) f.symbols k d lt)
