-- Objects that need thunks are found by their files, which stand in order.
use Rattle.std.proofs.Common.{◌≡◌, ℕ, ◌+◌, ◌<◌, ◌≤◌, ◌==◌, ◌&&◌, ◌||◌, ◌⊎◌, Bool, true, false, List, length, get_or, take, Option, Some, None, refl, sym, ap, ◌∙◌, arith, inl, inr, sum_by}
use Rattle.std.specs.Prelude.{IsSome, nat_lt}
use Rattle.std.specs.List.{position_or_len, slice_get}
use Rattle.std.specs.List.Sorted.{IsPartitionedBy, IsPartitionPoint}
use Rattle.std.proofs.Math.Bool.{or-true}
use Rattle.std.proofs.lemmas.Bool.{and_from, and_parts, cases_lt, cases_order, eq-eqb, eqb-true, false_from_ne_true, lt-ltb, ltb-true, or_cases}
use Rattle.std.proofs.lemmas.List.{take-take}
use Rattle.std.proofs.lemmas.List.Folds.{find_at}
use Rattle.std.proofs.lemmas.List.Sums.{position_or_len_is, sum_by_more, sum_by-take-le}
use Rattle.std.proofs.lemmas.Option.{get_or_from_slice_get, slice_get-get_or, slice_get_past, slice_get_within}
use Rattle.lk_link.specs.declared.file.InputFile.{InputFile}
use Rattle.lk_link.specs.declared.ids.FileId.{FileId}
use Rattle.lk_link.specs.declared.link.LinkInput.{LinkInput}
use Rattle.lk_link.specs.Files.{file_in}
use Rattle.lk_link.specs.Symbols.{file_number}
use Rattle.lk_link.proofs.Places.{file_place}
use Rattle.lk_thunk_plan.specs.Orders.{AreUsersOf}
use Rattle.lk_layout.specs.ThunkUsers.{AreInOrder, is_before, is_same, user_for}

abbrev pub User : Type 0
User = FileId × ℕ × Bool

-- ---- the order of files

-- a file stands in an earlier group, or earlier in the same
abbrev Before : FileId → FileId → Type 0
Before a b = (a.group < b.group) ⊎ ((a.group ≡ b.group) × (a.file < b.file))

before_of : (a b : FileId) → is_before a b ≡ true → Before a b
before_of a b h = elim (or_cases (nat_lt a.group b.group) (a.group == b.group && nat_lt a.file b.file) h) [
  | inl group ↦ inl (ltb-true a.group b.group group)
  | inr same ↦
      let both = and_parts (a.group == b.group) (nat_lt a.file b.file) same in
      inr (eqb-true a.group b.group both.0, ltb-true a.file b.file both.1)
]

before_is : (a b : FileId) → Before a b → is_before a b ≡ true
before_is a b (inl lt) = ap (λ (t : Bool). t || (a.group == b.group && nat_lt a.file b.file)) (lt-ltb a.group b.group lt)
before_is a b (inr h) =
    ap (λ (t : Bool). nat_lt a.group b.group || t) (and_from (a.group == b.group) (nat_lt a.file b.file) (eq-eqb a.group b.group h.0) (lt-ltb a.file b.file h.1))
    ∙ or-true (nat_lt a.group b.group)

before_trans : (a b c : FileId) → is_before a b ≡ true → is_before b c ≡ true → is_before a c ≡ true
before_trans a b c first second = before_is a c (through (before_of a b first) (before_of b c second))
  where
    through : Before a b → Before b c → Before a c
    through (inl g) (inl h) = inl (omega (arith, g, h))
    through (inl g) (inr h) = inl (omega (arith, g, h.0))
    through (inr g) (inl h) = inl (omega (arith, g.0, h))
    through (inr g) (inr h) = inr (omega (arith, g.0, h.0), omega (arith, g.1, h.1))

-- none stands before itself
not_itself : (a b : FileId) → is_same a b ≡ true → is_before a b ≡ true → ⊥
not_itself a b same before =
    let both = and_parts (a.group == b.group) (a.file == b.file) same in
    let g : a.group ≡ b.group = eqb-true a.group b.group both.0 in
    let f : a.file ≡ b.file = eqb-true a.file b.file both.1 in
    elim (before_of a b before) [
      | inl lt ↦ absurd (omega (arith, g, lt))
      | inr lt ↦ absurd (omega (arith, f, lt.1))
    ]

-- what stands behind one that doesn't stand before another, isn't that
not_behind : (a b c : FileId) → is_before a b ≡ true → is_before a c ≡ false → is_same b c ≡ true → ⊥
not_behind a b c first not_first same =
    let both = and_parts (b.group == c.group) (b.file == c.file) same in
    let g : b.group ≡ c.group = eqb-true b.group c.group both.0 in
    let f : b.file ≡ c.file = eqb-true b.file c.file both.1 in
    let is : is_before a c ≡ true = elim (before_of a b first) [
      | inl lt ↦ before_is a c (inl (omega (arith, lt, g)))
      | inr lt ↦ before_is a c (inr (omega (arith, lt.0, g), omega (arith, lt.1, f)))
    ] in
    let clash : false ≡ true = sym not_first ∙ is in
    absurd (cc)

-- ---- objects of a link are in order

rises : {X : Type 0} (size : X → ℕ) (xs : List X) (k l : ℕ) → k ≤ l → sum_by size (take k xs) ≤ sum_by size (take l xs)
rises size xs k l le = rw (ap (sum_by size) (take-take k l xs le)) at (sum_by-take-le size (take l xs) k)

-- a file that has a lower number stands before
lower_is_before : (groups : List (List InputFile)) (a b : FileId) (file : InputFile) → file_in groups b ≡ Some file → file_number groups a < file_number groups b → is_before a b ≡ true
lower_is_before groups a b file at lower =
    let place = file_place groups b file at in
    let within = slice_get_within place.0 b.file file place.2 in
    let here = slice_get_within groups b.group place.0 place.1 in
    let more = sum_by_more length groups b.group place.0 here in
    let one : get_or groups b.group place.0 ≡ place.0 = get_or_from_slice_get groups b.group place.0 place.0 place.1 in
    elim (cases_order a.group b.group) [
      | inl same ↦ before_is a b (inr (same, omega (arith, lower, ap (λ (g : ℕ). sum_by length (take g groups)) same)))
      | inr other ↦ elim other [
        | inl lt ↦ before_is a b (inl lt)
        | inr gt ↦
            let up = rises length groups (b.group + 1) a.group (omega (arith, gt)) in
            absurd (omega (arith, lower, more, ap (λ (fs : List InputFile). length fs) one, within, up))
      ]
    ]

some_there : {X : Type 0} (o : Option X) → IsSome o → (x : X) × (o ≡ Some x)
some_there None h = absurd (cc)
some_there (Some x) h = (x, refl)

pub users_in_order : (link : LinkInput) (users : List User) → AreUsersOf link users → AreInOrder users
users_in_order link users order j k d lt within =
    let first = slice_get-get_or users j d (omega (arith, lt, within)) in
    let second = slice_get-get_or users k d within in
    let there = some_there (file_in link.groups (get_or users k d).0) (order.there k (get_or users k d) second) in
    lower_is_before link.groups (get_or users j d).0 (get_or users k d).0 there.0 there.1 (order.rising j k (get_or users j d) (get_or users k d) lt first second)

-- ---- halving

-- whether an object stands before a file
abbrev pub stands_before : FileId → User → Bool
stands_before id u = is_before u.0 id

-- those that do stand before all others
pub parted : (users : List User) (id : FileId) → AreInOrder users → IsPartitionedBy (stands_before id) users
parted users id order i j d le within before = elim (cases_lt i j) [
  | inl lt ↦ before_trans (get_or users i d).0 (get_or users j d).0 id (order i j d lt within) before
  | inr here ↦
      let same : j ≡ i = omega (arith, le, here) in
      ap (λ (n : ℕ). stands_before id (get_or users n d)) (sym same) ∙ before
]

-- the place up to which all stand before the file, and from which on none does
abbrev pub IsSeam : List User → FileId → ℕ → Type 0
IsSeam users id place = IsPartitionPoint (λ u. stands_before id u ≡ true) (λ u. stands_before id u ≡ false) users place

-- those before the place are other files
front_differs : (users : List User) (id : FileId) (place k : ℕ) (d : User) → IsSeam users id place → k < place → is_same (get_or users k d).0 id ≡ false
front_differs users id place k d seam below =
    false_from_ne_true (is_same (get_or users k d).0 id) (λ same. not_itself (get_or users k d).0 id same (seam.0 k d (omega arith) below))

-- so are those behind it
behind_differs : (users : List User) (id : FileId) (place k : ℕ) (d : User) → AreInOrder users → IsSeam users id place → place < k → k < length users → is_same (get_or users k d).0 id ≡ false
behind_differs users id place k d order seam past within =
    false_from_ne_true (is_same (get_or users k d).0 id) (λ same.
    not_behind (get_or users place d).0 (get_or users k d).0 id (order place k d past within) (seam.1 place d (omega arith) (omega (arith, past, within))) same)

-- the object at the place, if it is the file
pub found_here : (users : List User) (id : FileId) (place : ℕ) (u : User) → IsSeam users id place → slice_get users place ≡ Some u → is_same u.0 id ≡ true → user_for users id ≡ Some u
found_here users id place u seam there same =
    let p : User → Bool = λ v. is_same v.0 id in
    let within = slice_get_within users place u there in
    let here : get_or users place u ≡ u = get_or_from_slice_get users place u u there in
    let first : position_or_len p users ≡ place
    = position_or_len_is p users place u (omega (arith, within)) (λ k below. front_differs users id place k u seam below) (λ lt. ap p here ∙ same) in
    find_at p users ∙ ap (slice_get users) first ∙ there

-- where no object is the file, none is found
none_is : (users : List User) (id : FileId) (d : User) → ((k : ℕ) → k < length users → is_same (get_or users k d).0 id ≡ false) → user_for users id ≡ None
none_is users id d none =
    let p : User → Bool = λ v. is_same v.0 id in
    let past : position_or_len p users ≡ length users = position_or_len_is p users (length users) d (omega arith) none (λ lt. absurd (omega (arith, lt))) in
    find_at p users ∙ ap (slice_get users) past ∙ slice_get_past users (length users) (omega arith)

-- so it is where the object at the place is another
pub none_here : (users : List User) (id : FileId) (place : ℕ) (u : User) → AreInOrder users → IsSeam users id place → slice_get users place ≡ Some u → is_same u.0 id ≡ false → user_for users id ≡ None
none_here users id place u order seam there other =
    let p : User → Bool = λ v. is_same v.0 id in
    let here : get_or users place u ≡ u = get_or_from_slice_get users place u u there in
    none_is users id u (λ k within. elim (cases_order k place) [
      | inl same ↦ ap (λ (n : ℕ). p (get_or users n u)) same ∙ ap p here ∙ other
      | inr apart ↦ elim apart [
        | inl below ↦ front_differs users id place k u seam below
        | inr past ↦ behind_differs users id place k u order seam past within
      ]
    ])

-- and where none stands there
pub none_past : (users : List User) (id : FileId) (place : ℕ) → IsSeam users id place → length users ≤ place → user_for users id ≡ None
none_past users id place seam past =
    let no_one : User = (record { group = 0; file = 0 }, 0, false) in
    none_is users id no_one (λ k within. front_differs users id place k no_one seam (omega (arith, past, within)))
