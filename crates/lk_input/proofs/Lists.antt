-- Lists that are read item by item where they stand.
use Rattle.std.proofs.Common.{◌≡◌, ℕ, zero, suc, ◌+◌, option_map, unwrap_or, List, [], ◌∷◌, ◌++◌, length, Option, Some, None, Result, Ok, Err, refl, sym, ap, ◌∙◌, append_assoc, append-nil, length-append, arith}
use Rattle.std.specs.Fmt.{decimal}
use Rattle.json.specs.Token.{Token}
use Rattle.json.specs.Json.{parse_map, after_end_array}
use Rattle.json.specs.Reads.{token_of}
use Rattle.json.specs.declared.token.Token.{Token as Taken}
use Rattle.json.specs.declared.token.Token.TheVariants as taken
use Rattle.serde_json.specs.Data.{Num, Data, number, array, object, Items, no_items, item, Members, no_members}
use Rattle.serde_json.specs.Find.{as_array}
use Rattle.serde_json.specs.Read.{number_of}
use Rattle.lk_input.specs.ReadingSteps.{Path, ◌>>=◌, read_items, list_of, wanted}
use Rattle.lk_input.proofs.Steps.{with_front}
use Rattle.lk_pieces.specs.Tokens.{data_at, items_at, members_at}
use Rattle.lk_pieces.proofs.Tokens.{and_next, items_at-next, items_at-over, data_at-nothing, data_at-null, data_at-boolean, data_at-string, data_at-number, data_at-key, data_at-bad, data_at-end_array, data_at-end_object, data_at-array, data_at-object, data_at-deep_array, data_at-deep_object}

-- ---- what is no list

pub map_twice : {A B C : Type 0} (f : B → C) (g : A → B) (o : Option (A × List Token)) → parse_map f (parse_map g o) ≡ parse_map (λ a. f (g a)) o
map_twice f g None = refl
map_twice f g (Some p) = refl

-- what reads a list by its items
abbrev pub from_items : {B : Type 0} → (Items → Result B Path) → Data → Result B Path
from_items g d = wanted (as_array d) >>= g

-- the list that was opened is one of its items
pub items-opened : {B : Type 0} (g : Items → Result B Path) (depth d : ℕ) (ts : List Token) → depth ≡ d + 1
    → parse_map (from_items g) (data_at depth (Token.begin_array ∷ ts)) ≡ parse_map g (items_at d ts)
items-opened g depth d ts is = ap (parse_map (from_items g)) (data_at-array depth d ts is) ∙ map_twice (from_items g) array (items_at d ts)

pub items-too_deep : {B : Type 0} (g : Items → Result B Path) (depth : ℕ) (ts : List Token) → depth ≡ 0 → parse_map (from_items g) (data_at depth (Token.begin_array ∷ ts)) ≡ None
items-too_deep g depth ts is = ap (parse_map (from_items g)) (data_at-deep_array depth ts is)

not_opened : {B : Type 0} (g : Items → Result B Path) (o : Option (Members × List Token)) → parse_map (from_items g) (parse_map object o) ≡ parse_map (λ _. Err []) (parse_map object o)
not_opened g None = refl
not_opened g (Some p) = refl

not_number : {B : Type 0} (g : Items → Result B Path) (ts : List Token) (n : Option Num)
    → parse_map (from_items g) (option_map (λ x. (number x, ts)) n) ≡ parse_map (λ _. Err []) (option_map (λ x. (number x, ts)) n)
not_number g ts None = refl
not_number g ts (Some x) = refl

-- an object is no list, however deep it may nest
no_object : {B : Type 0} (g : Items → Result B Path) (depth : ℕ) (ts : List Token)
    → parse_map (from_items g) (data_at depth (Token.begin_object ∷ ts)) ≡ parse_map (λ _. Err []) (data_at depth (Token.begin_object ∷ ts))
no_object g zero ts = rw (data_at-deep_object zero ts refl) refl
no_object g (suc d) ts = rw (data_at-object (suc d) d ts (omega arith)) (not_opened g (members_at no_members d ts))

-- what begins with another token is no list
pub no_items_there : {B : Type 0} (g : Items → Result B Path) (depth : ℕ) (t : Taken) (ts : List Token) → (t ≡ taken.BeginArray → ⊥)
    → parse_map (from_items g) (data_at depth (token_of t ∷ ts)) ≡ parse_map (λ _. Err []) (data_at depth (token_of t ∷ ts))
no_items_there g depth taken.BeginArray ts other = absurd (other refl)
no_items_there g depth taken.BeginObject ts other = no_object g depth ts
no_items_there g depth taken.EndObject ts other = rw (data_at-end_object depth ts) refl
no_items_there g depth taken.EndArray ts other = rw (data_at-end_array depth ts) refl
no_items_there g depth (taken.Key s) ts other = rw (data_at-key depth s.now ts) refl
no_items_there g depth (taken.String s) ts other = rw (data_at-string depth s.now ts) refl
no_items_there g depth (taken.Number s) ts other = rw (data_at-number depth s.now ts) (not_number g ts (number_of s.now))
no_items_there g depth (taken.Bool b) ts other = rw (data_at-boolean depth b ts) refl
no_items_there g depth taken.Null ts other = rw (data_at-null depth ts) refl
no_items_there g depth taken.Bad ts other = rw (data_at-bad depth ts) refl

-- the same of lists of values that are read alike
pub list-opened : {A : Type 0} (f : Data → Result A Path) (depth d : ℕ) (ts : List Token) → depth ≡ d + 1 → parse_map (list_of f) (data_at depth (Token.begin_array ∷ ts)) ≡ parse_map (read_items f 0) (items_at d ts)
list-opened f depth d ts is = items-opened (read_items f 0) depth d ts is

pub list-too_deep : {A : Type 0} (f : Data → Result A Path) (depth : ℕ) (ts : List Token) → depth ≡ 0 → parse_map (list_of f) (data_at depth (Token.begin_array ∷ ts)) ≡ None
list-too_deep f depth ts is = items-too_deep (read_items f 0) depth ts is

pub no_list : {A : Type 0} (f : Data → Result A Path) (depth : ℕ) (t : Taken) (ts : List Token) → (t ≡ taken.BeginArray → ⊥)
    → parse_map (list_of f) (data_at depth (token_of t ∷ ts)) ≡ parse_map (λ _. Err []) (data_at depth (token_of t ∷ ts))
no_list f depth t ts other = no_items_there (read_items f 0) depth t ts other

pub list-nothing : {A : Type 0} (f : Data → Result A Path) (depth : ℕ) → parse_map (list_of f) (data_at depth []) ≡ None
list-nothing f depth = ap (parse_map (list_of f)) (data_at-nothing depth)

pub ruleset lists = (list-opened, list-too_deep, list-nothing, no_list)

-- ---- a turn, whatever is made of the items

pub parse_map-same : {A B : Type 0} (f g : A → B) (o : Option (A × List Token)) → ((a : A) → f a ≡ g a) → parse_map f o ≡ parse_map g o
parse_map-same f g None same = refl
parse_map-same f g (Some p) same = ap (λ b. Some (b, p.1)) (same p.0)

pub list-passed : {B : Type 0} (g h : Items → B) (depth : ℕ) (ts r : List Token) (d : Data) → after_end_array ts ≡ None → data_at depth ts ≡ Some (d, r) → ((ds : Items) → g (item d ds) ≡ h ds)
    → parse_map g (items_at depth ts) ≡ parse_map h (items_at depth r)
list-passed g h depth ts r d going e same =
    ap (parse_map g) (items_at-next depth ts going ∙ ap (and_next (λ x s. parse_map (item x) (items_at depth s))) e) ∙ map_twice g (item d) (items_at depth r) ∙ parse_map-same (λ ds. g (item d ds)) h (items_at depth r) same

pub list-none : {B : Type 0} (g : Items → B) (depth : ℕ) (ts : List Token) → after_end_array ts ≡ None → data_at depth ts ≡ None → parse_map g (items_at depth ts) ≡ None
list-none g depth ts going e = ap (parse_map g) (items_at-next depth ts going ∙ ap (and_next (λ x s. parse_map (item x) (items_at depth s))) e)

pub list-over : {B : Type 0} (g : Items → B) (depth : ℕ) (ts r : List Token) → after_end_array ts ≡ Some r → parse_map g (items_at depth ts) ≡ Some (g no_items, r)
list-over g depth ts r e = ap (parse_map g) (items_at-over depth ts r e)

-- what was made of something that was read
pub made : {A B : Type 0} (f : A → B) (o : Option (A × List Token)) (b : B) (r : List Token) → parse_map f o ≡ Some (b, r) → (a : A) × (o ≡ Some (a, r)) × (f a ≡ b)
made f None b r e = absurd cc
made f (Some (a, s)) b r e =
    let both : (f a, s) ≡ (b, r) = ap (λ o. unwrap_or o (f a, s)) e in
    (a, ap (λ p. Some (a, p.1)) both, ap (λ p. p.0) both)

pub made-none : {A B : Type 0} (f : A → B) (o : Option (A × List Token)) → parse_map f o ≡ None → o ≡ None
made-none f None e = refl
made-none f (Some p) e = absurd cc

-- ---- the items that were read, and the others

-- what is read of a list once these items of it are read
abbrev pub after_items : {A : Type 0} → (Data → Result A Path) → List A → Items → Result (List A) Path
after_items f xs ds = with_front xs (read_items f (length xs) ds)

no_front : {A : Type 0} (r : Result (List A) Path) → r ≡ with_front [] r
no_front (Ok xs) = refl
no_front (Err path) = refl

pub items-begin : {A : Type 0} (f : Data → Result A Path) (o : Option (Items × List Token)) → parse_map (read_items f 0) o ≡ parse_map (after_items f []) o
items-begin f o = parse_map-same (read_items f 0) (after_items f []) o (λ ds. no_front (read_items f 0 ds))

one_further : {A : Type 0} (xs : List A) (x : A) (r : Result (List A) Path) → with_front xs (r >>= λ ys. Ok (x ∷ ys)) ≡ with_front (xs ++ x ∷ []) r
one_further xs x (Ok ys) = ap Ok (sym (append_assoc xs (x ∷ []) ys))
one_further xs x (Err path) = refl

pub item-read : {A : Type 0} (f : Data → Result A Path) (xs : List A) (x : A) (d : Data) → f d ≡ Ok x → (ds : Items) → after_items f xs (item d ds) ≡ after_items f (xs ++ x ∷ []) ds
unfolding read_items
item-read f xs x d e ds =
    let next : suc (length xs) ≡ length (xs ++ x ∷ []) = omega (arith, length-append xs (x ∷ [])) in
    rw e (one_further xs x (read_items f (suc (length xs)) ds) ∙ ap (λ n. with_front (xs ++ x ∷ []) (read_items f n ds)) next)

pub item-fault : {A : Type 0} (f : Data → Result A Path) (xs : List A) (path : Path) (d : Data) → f d ≡ Err path → (ds : Items) → after_items f xs (item d ds) ≡ Err (47 ∷ decimal (length xs) ++ path)
unfolding read_items
item-fault f xs path d e ds = rw e refl

pub items-done : {A : Type 0} (f : Data → Result A Path) (xs : List A) → after_items f xs no_items ≡ Ok xs
unfolding read_items
items-done f xs = ap Ok (append-nil xs)
