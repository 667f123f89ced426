-- The steps of reading a JSON value: each gives what is read, or the path of the first value of a wrong shape.
use Rattle.std.specs.Prelude.{◌≡◌, ℕ, suc, ℤ, Bool, List, [], ◌∷◌, ◌++◌, Option, Some, None, Result, Ok, Err, ⊤, is_some, nat_lt, ◌^◌, if◌then◌else◌, option_and_then, option_map, unwrap_or, find, codes}
use Prim.Native.String.{String}
use Rattle.std.specs.Fmt.{decimal}
use Rattle.std.specs.Str.{bytes_eq}
use Rattle.serde_json.specs.Data.{Data, object as object_of, Items, no_items, item, no_members}
use Rattle.serde_json.specs.Find.{get, at, as_bool, as_number, as_str, as_array, as_object, as_u64, as_i64}
use Rattle.lk_input.specs.declared.read.word.Step.{Step}
use Rattle.lk_input.specs.declared.read.word.Step.TheVariants.{Member, Item}
use Rattle.lk_input.specs.declared.read.error.InputError.{InputError}
use Rattle.lk_input.specs.declared.read.error.InputError.TheVariants.{NotJson, Shape, NoMemory}

-- where a value stands below another, as `/key/index`; empty for the value itself
abbrev pub Path : Type 0
Path = List ℕ

-- how a step of a path is written
abbrev pub step_text : Step → List ℕ
step_text (Member key) = key.now
step_text (Item i) = decimal i

-- the next step, unless one before it found a fault
infixl 10 ◌>>=◌
abbrev pub ◌>>=◌ : {A B : Type 0} → Result A Path → (A → Result B Path) → Result B Path
(Ok x) >>= f = f x
(Err path) >>= f = Err path

-- a key, or a listed text, as its bytes
unfoldable pub written : String → List ℕ
written text = codes text

-- ---- what the code answers

-- an error is the fault that reading finds, or want of memory
abbrev pub Fails : {A : Type 0} → InputError → Result A Path → Type 0
Fails NotJson read = ⊥
Fails (Shape path) read = read ≡ Err path
Fails NoMemory read = Unit {0}

-- what was returned is what reading gives, unless memory ran out
abbrev pub Reads : {A : Type 0} → Result A InputError → Result A Path → Type 0
Reads (Ok x) read = read ≡ Ok x
Reads (Err e) read = Fails e read

-- an error that tells of this path, or of want of memory
abbrev pub IsFaultAt : Path → InputError → Type 0
IsFaultAt path NotJson = ⊥
IsFaultAt path (Shape p) = p ≡ path
IsFaultAt path NoMemory = Unit {0}

-- an error as seen from one step above
abbrev pub IsBelow : List ℕ → InputError → InputError → Type 0
IsBelow step NotJson seen = seen ≡ NotJson
IsBelow step (Shape path) seen = IsFaultAt (47 ∷ step ++ path) seen
IsBelow step NoMemory seen = seen ≡ NoMemory

-- ---- one value

-- a value of the wanted form, if it is one
abbrev pub wanted : {A : Type 0} → Option A → Result A Path
wanted None = Err []
wanted (Some x) = Ok x

-- a value that was looked for, if it was found
abbrev pub found_by : {A : Type 0} → (Data → Result A Path) → Option Data → Result A Path
found_by f found = wanted found >>= f

-- whether a value is as wanted
abbrev pub wanted_true : Bool → Result ⊤ Path
wanted_true b = if b then Ok tt else Err []

-- what stands one step below
abbrev pub below : {A : Type 0} → List ℕ → Result A Path → Result A Path
below step (Ok x) = Ok x
below step (Err path) = Err (47 ∷ step ++ path)

-- a whole number below 2^64
abbrev pub number_of : Data → Result ℕ Path
number_of d = wanted (option_and_then as_u64 (as_number d))

-- a whole number below 2^32
abbrev pub index_of : Data → Result ℕ Path
index_of d = number_of d >>= λ n. if nat_lt n (2 ^ 32) then Ok n else Err []

-- a whole number from -2^63 to 2^63 - 1
abbrev pub signed_of : Data → Result ℤ Path
signed_of d = wanted (option_and_then as_i64 (as_number d))

-- a truth value
abbrev pub truth_of : Data → Result Bool Path
truth_of d = wanted (as_bool d)

-- a text
abbrev pub text_of : Data → Result (List ℕ) Path
text_of d = wanted (as_str d)

-- what stands beside a text in a table
abbrev pub word_of : {A : Type 0} → List (List ℕ × A) → List ℕ → Option A
word_of words t = option_map (λ w. w.1) (find (λ w. bytes_eq t w.0) words)

-- one of the texts of a table
abbrev pub one_of : {A : Type 0} → List (List ℕ × A) → Data → Result A Path
one_of words d = wanted (option_and_then (word_of words) (as_str d))

-- ---- objects

-- the value is an object
abbrev pub object : Data → Result ⊤ Path
object d = wanted_true (is_some (as_object d))

-- the member with this key
abbrev pub required : {A : Type 0} → (Data → Result A Path) → List ℕ → Data → Result A Path
required f key d = below key (found_by f (get key d))

-- a member that was looked for, or the default
abbrev pub found_or : {A : Type 0} → A → (Data → Result A Path) → Option Data → Result A Path
found_or other f None = Ok other
found_or other f (Some d) = f d

-- the member with this key, or the default
abbrev pub defaulted : {A : Type 0} → A → (Data → Result A Path) → List ℕ → Data → Result A Path
defaulted other f key d = below key (found_or other f (get key d))

-- what may be there, if it is
abbrev pub present : {A : Type 0} → (Data → Result A Path) → Data → Result (Option A) Path
present f d = f d >>= λ x. Ok (Some x)

-- the member with this key, if there is one
abbrev pub optional : {A : Type 0} → (Data → Result A Path) → List ℕ → Data → Result (Option A) Path
optional f key d = defaulted None (present f) key d

-- the object with this key; a missing one has no members
abbrev pub object_or_empty : {A : Type 0} → (Data → Result A Path) → List ℕ → Data → Result A Path
object_or_empty f key d = below key (f (unwrap_or (get key d) (object_of no_members)))

-- ---- lists

-- the item at an index of a fixed list
abbrev pub element : {A : Type 0} → (Data → Result A Path) → ℕ → Data → Result A Path
element f i d = below (decimal i) (found_by f (at i d))

-- the value is a list, as fixed lists are
abbrev pub fixed_list : Data → Result ⊤ Path
fixed_list d = wanted_true (is_some (as_array d))

-- a fixed list has at most so many items
abbrev pub at_most : ℕ → Data → Result ⊤ Path
at_most n d = if is_some (at n d) then Err [] else Ok tt

-- nothing stands behind what a fixed list begins with
unfoldable pub alone : {A : Type 0} → A → Data → Result A Path
alone x d = do
  _ ← at_most 1 d
  Ok x

-- one item stands behind it
unfoldable pub single : {A : Type 0} → (Data → Result A Path) → Data → Result A Path
single f d = do
  x ← element f 1 d
  _ ← at_most 2 d
  Ok x

-- two items stand behind it
unfoldable pub double : {A B : Type 0} → (Data → Result A Path) → (Data → Result B Path) → Data → Result (A × B) Path
double f g d = do
  x ← element f 1 d
  y ← element g 2 d
  _ ← at_most 3 d
  Ok (x, y)

-- the items of a list, counted from i
unfoldable pub read_items : {A : Type 0} → (Data → Result A Path) → ℕ → Items → Result (List A) Path
read_items f i no_items = Ok []
read_items f i (item d ds) = do
  x ← below (decimal i) (f d)
  xs ← read_items f (suc i) ds
  Ok (x ∷ xs)

-- a list of values that f reads
abbrev pub list_of : {A : Type 0} → (Data → Result A Path) → Data → Result (List A) Path
list_of f d = wanted (as_array d) >>= read_items f 0
