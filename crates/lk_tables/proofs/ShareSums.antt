-- Sums as they are told: over symbols, over files, and over all their entries.
use Rattle.std.proofs.Common.{◌≡◌, ℕ, ◌+◌, ◌<◌, Bool, true, false, if◌then◌else◌, List, [], ◌∷◌, ◌++◌, filter, get_or, length, map, sum_by, take, refl, sym, ap, ◌∙◌, arith}
use Rattle.std.specs.List.{enumerate_from, flat_map}
use Rattle.std.proofs.lemmas.List.{map-append}
use Rattle.std.proofs.lemmas.List.Concat.{flat_map-cons}
use Rattle.std.proofs.lemmas.List.Sums.{sum_by-append, sum_by-cons, sum_by_push}
use Rattle.lk_link.specs.declared.symbol.InputSymbol.{InputSymbol}
use Rattle.lk_tables.specs.declared.shares.DynamicShare.{DynamicShare}
use Rattle.lk_tables.specs.declared.shares.EntryShare.{EntryShare}
use Rattle.lk_tables.specs.declared.shares.FileShare.{FileShare}
use Rattle.lk_tables.specs.declared.shares.SymtabShare.{SymtabShare}
use Rattle.lk_tables.specs.HeaderParts.{told_sum}
use Rattle.lk_tables.specs.ShareSteps.{no_share, plus, sum_of}
use Rattle.lk_tables.specs.SymbolTable.{TableEntry, entry_bytes}
use Rattle.lk_tables.proofs.TableSums.{numbered_next}

-- ---- told once or twice

pub told_twice : (a b : ℕ) → told_sum (told_sum a + told_sum b) ≡ told_sum (a + b)
told_twice a b = omega arith

pub told_left : (a b : ℕ) → told_sum (told_sum a + b) ≡ told_sum (a + b)
told_left a b = omega arith

pub told_again : (a : ℕ) → told_sum (told_sum a) ≡ told_sum a
told_again a = omega arith

-- ---- sums over lists

-- over what was made of elements
pub sum_made : {X Y : Type 0} (f : Y → ℕ) (h : X → Y) (xs : List X) → sum_by f (map h xs) ≡ sum_by (λ x. f (h x)) xs
sum_made f h [] = refl
sum_made f h (x ∷ xs) = sum_by-cons f (h x) (map h xs) ∙ ap (λ n. f (h x) + n) (sum_made f h xs) ∙ sym (sum_by-cons (λ x. f (h x)) x xs)

-- of the same numbers
pub sum_alike : {X : Type 0} (f g : X → ℕ) (xs : List X) → ((x : X) → f x ≡ g x) → sum_by f xs ≡ sum_by g xs
sum_alike f g [] same = refl
sum_alike f g (x ∷ xs) same =
    sum_by-cons f x xs ∙ ap (λ n. n + sum_by f xs) (same x) ∙ ap (λ n. g x + n) (sum_alike f g xs same) ∙ sym (sum_by-cons g x xs)

-- of two numbers each
pub sum_both : {X : Type 0} (f g : X → ℕ) (xs : List X) → sum_by f xs + sum_by g xs ≡ sum_by (λ x. f x + g x) xs
sum_both f g [] = refl
sum_both f g (x ∷ xs) =
    omega (arith, sum_both f g xs, sum_by-cons f x xs, sum_by-cons g x xs, sum_by-cons (λ y. f y + g y) x xs)

-- ---- over all entries

-- a sum over files is one over all their entries
pub told_entries : {X : Type 0} (n : X → ℕ) (g : X → List TableEntry) (xs : List X) → ((x : X) → told_sum (n x) ≡ told_sum (entry_bytes (g x)))
    → told_sum (sum_by n xs) ≡ told_sum (entry_bytes (flat_map g xs))
told_entries n g [] same = refl
told_entries n g (x ∷ xs) same =
    let bytes : entry_bytes (flat_map g (x ∷ xs)) ≡ entry_bytes (g x) + entry_bytes (flat_map g xs)
    = ap entry_bytes (flat_map-cons g x xs) ∙ sum_by-append (λ e. e.bytes) (g x) (flat_map g xs) in
    ap told_sum (sum_by-cons n x xs)
    ∙ sym (told_twice (n x) (sum_by n xs))
    ∙ ap (λ k. told_sum (k + told_sum (sum_by n xs))) (same x)
    ∙ ap (λ k. told_sum (told_sum (entry_bytes (g x)) + k)) (told_entries n g xs same)
    ∙ told_twice (entry_bytes (g x)) (entry_bytes (flat_map g xs))
    ∙ ap told_sum (sym bytes)

some_head : {X : Type 0} (p : X → Bool) (g : X → List TableEntry) (x : X) (xs : List X) (b : Bool) → p x ≡ b
    → flat_map g (filter p xs) ≡ flat_map (λ y. if p y then g y else []) xs
    → flat_map g (filter p (x ∷ xs)) ≡ flat_map (λ y. if p y then g y else []) (x ∷ xs)
some_head p g x xs true h rest =
    ap (λ c. flat_map g (if c then x ∷ filter p xs else filter p xs)) h
    ∙ flat_map-cons g x (filter p xs)
    ∙ ap (λ ys. g x ++ ys) rest
    ∙ ap (λ c. (if c then g x else []) ++ flat_map (λ y. if p y then g y else []) xs) (sym h)
    ∙ sym (flat_map-cons (λ y. if p y then g y else []) x xs)
some_head p g x xs false h rest =
    ap (λ c. flat_map g (if c then x ∷ filter p xs else filter p xs)) h
    ∙ rest
    ∙ ap (λ c. (if c then g x else []) ++ flat_map (λ y. if p y then g y else []) xs) (sym h)
    ∙ sym (flat_map-cons (λ y. if p y then g y else []) x xs)

-- the entries of those that pass
pub entries_of_some : {X : Type 0} (p : X → Bool) (g : X → List TableEntry) (xs : List X)
    → flat_map g (filter p xs) ≡ flat_map (λ x. if p x then g x else []) xs
entries_of_some p g [] = refl
entries_of_some p g (x ∷ xs) = some_head p g x xs (p x) refl (entries_of_some p g xs)

-- ---- one more

push_told : {X : Type 0} (f : X → ℕ) (xs : List X) (x : X) → told_sum (sum_by f (xs ++ x ∷ [])) ≡ told_sum (told_sum (sum_by f xs) + f x)
push_told f xs x = ap told_sum (sum_by_push f xs x) ∙ sym (told_left (sum_by f xs) (f x))

pub made_entries : (a b c d : ℕ) → a ≡ c → b ≡ d → ◌≡◌ {A = EntryShare} (record { got = a; plt = b }) (record { got = c; plt = d })
made_entries a b c d e f = cc

pub made_symtab : (a b c d e f : ℕ) → a ≡ d → b ≡ e → c ≡ f
    → ◌≡◌ {A = SymtabShare} (record { local = a; global = b; names = c }) (record { local = d; global = e; names = f })
made_symtab a b c d e f g h i = cc

pub made_dynamic : (a b c d e f : ℕ) → a ≡ d → b ≡ e → c ≡ f
    → ◌≡◌ {A = DynamicShare} (record { count = a; entries = b; names = c }) (record { count = d; entries = e; names = f })
made_dynamic a b c d e f g h i = cc

pub made_share : (a b : EntryShare) (c d : SymtabShare) (e f g h : DynamicShare) → a ≡ b → c ≡ d → e ≡ f → g ≡ h
    → ◌≡◌ {A = FileShare} (record { entries = a; symtab = c; dynamic = e; exports = g }) (record { entries = b; symtab = d; dynamic = f; exports = h })
made_share a b c d e f g h i j k l = cc

told_more : (a : ℕ) → told_sum (told_sum a + 0) ≡ told_sum a
told_more a = omega arith

-- nothing more
pub plus_nothing : (xs : List FileShare) → plus (sum_of xs) no_share ≡ sum_of xs
plus_nothing xs =
    let all = plus (sum_of xs) no_share in
    let same = sum_of xs in
    made_share all.entries same.entries all.symtab same.symtab all.dynamic same.dynamic all.exports same.exports
    (made_entries _ _ _ _ (told_more (sum_by (λ s. s.entries.got) xs)) (told_more (sum_by (λ s. s.entries.plt) xs)))
    (made_symtab _ _ _ _ _ _ (told_more (sum_by (λ s. s.symtab.local) xs)) (told_more (sum_by (λ s. s.symtab.global) xs)) (told_more (sum_by (λ s. s.symtab.names) xs)))
    (made_dynamic _ _ _ _ _ _ (told_more (sum_by (λ s. s.dynamic.count) xs)) (told_more (sum_by (λ s. s.dynamic.entries) xs)) (told_more (sum_by (λ s. s.dynamic.names) xs)))
    (made_dynamic _ _ _ _ _ _ (told_more (sum_by (λ s. s.exports.count) xs)) (told_more (sum_by (λ s. s.exports.entries) xs)) (told_more (sum_by (λ s. s.exports.names) xs)))

-- the sum over one more
pub sum_pushed : (xs : List FileShare) (x : FileShare) → sum_of (xs ++ x ∷ []) ≡ plus (sum_of xs) x
sum_pushed xs x =
    let all = sum_of (xs ++ x ∷ []) in
    let both = plus (sum_of xs) x in
    made_share all.entries both.entries all.symtab both.symtab all.dynamic both.dynamic all.exports both.exports
    (made_entries _ _ _ _ (push_told (λ s. s.entries.got) xs x) (push_told (λ s. s.entries.plt) xs x))
    (made_symtab _ _ _ _ _ _ (push_told (λ s. s.symtab.local) xs x) (push_told (λ s. s.symtab.global) xs x) (push_told (λ s. s.symtab.names) xs x))
    (made_dynamic _ _ _ _ _ _ (push_told (λ s. s.dynamic.count) xs x) (push_told (λ s. s.dynamic.entries) xs x) (push_told (λ s. s.dynamic.names) xs x))
    (made_dynamic _ _ _ _ _ _ (push_told (λ s. s.exports.count) xs x) (push_told (λ s. s.exports.entries) xs x) (push_told (λ s. s.exports.names) xs x))

-- which brings nothing
pub nothing_pushed : (xs : List FileShare) (x : FileShare) → no_share ≡ x → sum_of (xs ++ x ∷ []) ≡ sum_of xs
nothing_pushed xs x none = sum_pushed xs x ∙ ap (plus (sum_of xs)) (sym none) ∙ plus_nothing xs

-- over the symbols of a file and the next one
pub sum_next : (each : ℕ × InputSymbol → FileShare) (o i : ℕ) (xs : List InputSymbol) (x : InputSymbol) → i < length xs → x ≡ get_or xs i x
    → sum_of (map each (enumerate_from o (take i xs)) ++ each (o + i, x) ∷ []) ≡ sum_of (map each (enumerate_from o (take (i + 1) xs)))
sum_next each o i xs x lt read =
    let far = enumerate_from o (take i xs) in
    ap sum_of (sym (map-append each far ((o + i, x) ∷ []))) ∙ ap (λ ys. sum_of (map each ys)) (sym (numbered_next o i xs x x lt read))
