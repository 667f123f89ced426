-- A walk over files beside the objects that have blocks, which stand in the order of files too.
use Rattle.std.proofs.Common.{◌≡◌, ℕ, zero, suc, ◌+◌, ◌<◌, ◌≤◌, ◌==◌, ◌&&◌, Bool, true, false, cond, if◌then◌else◌, List, [], ◌∷◌, length, get_or, Option, Some, None, find, is_some, refl, sym, ap, ◌∙◌, arith, inl, inr}
use Rattle.std.specs.Prelude.{option_and_then, option_map}
use Rattle.std.specs.List.{slice_get}
use Rattle.std.proofs.lemmas.Bool.{cases_lt, eqb-true, false_from_ne_true}
use Rattle.std.proofs.lemmas.Bool.Decides.{eqb_tells}
use Rattle.std.proofs.lemmas.Option.{slice_get-get_or, slice_get_within}
use Rattle.lk_link.specs.declared.file.InputFile.{InputFile}
use Rattle.lk_link.specs.declared.ids.FileId.{FileId}
use Rattle.lk_link.specs.declared.link.LinkInput.{LinkInput}
use Rattle.lk_link.specs.Files.{file_in}
use Rattle.lk_link.specs.Inputs.{NumberedFile, numbered_files}
use Rattle.lk_link.specs.Symbols.{file_number}
use Rattle.lk_link.proofs.InputLemmas.{file_stands}
use Rattle.lk_thunk_plan.specs.Branches.{block_of}
use Rattle.lk_thunk_plan.specs.BranchWords.{IsNextUser, block_next}
use Rattle.lk_thunk_plan.specs.Orders.{AreUsersOf}

-- a file is this one
abbrev pub same_file : FileId → FileId → Bool
same_file id other = other.group == id.group && other.file == id.file

-- an object is this file
abbrev pub is_file : FileId → FileId × ℕ × Bool → Bool
is_file id u = same_file id u.0

both : (a b : Bool) → (a && b) ≡ true → (a ≡ true) × (b ≡ true)
both true b h = (refl, h)
both false b h = absurd (cc)

its_file : (id other : FileId) → same_file id other ≡ true → other ≡ id
its_file id other h =
    let each = both (other.group == id.group) (other.file == id.file) h in
    let made : ℕ → ℕ → FileId = λ g n. record { group = g; file = n } in
    ap (λ (g : ℕ). made g other.file) (eqb-true other.group id.group each.0) ∙ ap (made id.group) (eqb-true other.file id.file each.1)

-- one with another number is another file
pub other_number : (link : LinkInput) (id other : FileId) → (file_number link.groups other ≡ file_number link.groups id → ⊥) → same_file id other ≡ false
other_number link id other apart = false_from_ne_true (same_file id other) (λ h. apart (ap (file_number link.groups) (its_file id other h)))

-- ---- the first that passes

-- those before a place don't pass
abbrev pub NoneBefore : {X : Type 0} → (X → Bool) → List X → ℕ → Type 0
NoneBefore {X} p xs n = (k : ℕ) (x : X) → k < n → slice_get xs k ≡ Some x → p x ≡ false

pub finds_at : {X : Type 0} (p : X → Bool) (xs : List X) (n : ℕ) (x : X) → slice_get xs n ≡ Some x → p x ≡ true → NoneBefore p xs n → find p xs ≡ Some x
finds_at p [] n x there pass none = absurd (cc)
finds_at p (y ∷ xs) zero x there pass none =
    let same : y ≡ x = cc in
    ap (λ b. cond b (Some y) (find p xs)) (ap p same ∙ pass) ∙ ap Some same
finds_at p (y ∷ xs) (suc n) x there pass none =
    ap (λ b. cond b (Some y) (find p xs)) (none 0 y (omega arith) refl) ∙ finds_at p xs n x there pass (λ k z lt at. none (suc k) z (omega (arith, lt)) at)

finds_none : {X : Type 0} (p : X → Bool) (xs : List X) → ((k : ℕ) (x : X) → slice_get xs k ≡ Some x → p x ≡ false) → find p xs ≡ None
finds_none p [] none = refl
finds_none p (x ∷ xs) none = ap (λ b. cond b (Some x) (find p xs)) (none 0 x refl) ∙ finds_none p xs (λ k y at. none (suc k) y at)

-- ---- the next object

one_of : {X : Type 0} (a b : X) → Some a ≡ Some b → a ≡ b
one_of a b e = cc

none_not_some : {X : Type 0} (a : X) → None ≡ Some a → ⊥
none_not_some a e = absurd (cc)

false_not_true : false ≡ true → ⊥
false_not_true e = absurd (cc)

pub itself : (id : FileId) → same_file id id ≡ true
itself id = ap (λ b. b && (id.file == id.file)) (same id.group) ∙ same id.file
  where
    same : (k : ℕ) → (k == k) ≡ true
    same k = elim (eqb_tells k k) [ inl hit ↦ hit.0 | inr miss ↦ absurd (miss.1 refl) ]

module _ (link : LinkInput) (users : List (FileId × ℕ × Bool)) (order : AreUsersOf link users) (id : FileId) (next : ℕ) (at : IsNextUser link users (file_number link.groups id) next) where
  abbrev pub n : ℕ
  n = file_number link.groups id

  before : NoneBefore (is_file id) users next
  before k u lt there = other_number link id u.0 (λ same. absurd (omega (arith, at.before k u lt there, same)))

  -- where there is no object any more, there is none behind
  past : (m : ℕ) → slice_get users m ≡ None → (k : ℕ) (u : FileId × ℕ × Bool) → m ≤ k → slice_get users k ≡ Some u → ⊥
  past m none k u le there = elim (cases_lt m (length users)) [
    | inl inside ↦ none_not_some (get_or users m u) (sym none ∙ slice_get-get_or users m u inside)
    | inr out ↦ absurd (omega (arith, slice_get_within users k u there, out, le))
  ]

  -- whether it is the file is told by the next one alone
  by_next : (o : Option (FileId × ℕ × Bool)) → slice_get users next ≡ o
      → option_and_then (λ u. if is_file id u then Some u.1 else None) o ≡ option_map (λ u. u.1) (find (is_file id) users)
  by_next None none =
      sym (ap (option_map (λ (u : FileId × ℕ × Bool). u.1)) (finds_none (is_file id) users (λ k u there. elim (cases_lt k next) [
        | inl lt ↦ before k u lt there
        | inr le ↦ absurd (past next none k u le there)
      ])))
  by_next (Some u) there =
      (elim (is_file id u) as (λ b. is_file id u ≡ b → (if b then Some u.1 else None) ≡ option_map (λ v. v.1) (find (is_file id) users)) [
        | true ↦ λ is. sym (ap (option_map (λ (v : FileId × ℕ × Bool). v.1)) (finds_at (is_file id) users next u there is before))
        | false ↦ λ is. sym (ap (option_map (λ (v : FileId × ℕ × Bool). v.1)) (finds_none (is_file id) users (λ k v its. elim (cases_lt k next) [
          | inl lt ↦ before k v lt its
          | inr le ↦ elim (cases_lt next k) [
            | inl behind ↦ other_number link id v.0 (λ same. absurd (omega (arith, order.rising next k u v behind there its, at.behind next u (omega arith) there, same)))
            | inr here ↦
                let place : k ≡ next = omega (arith, le, here) in
                let two : Some v ≡ Some u = sym its ∙ ap (slice_get users) place ∙ there in
                let one : v ≡ u = cc in
                ap (is_file id) one ∙ is
          ]
        ])))
      ]) refl

  pub block_is_next : block_next users next id ≡ block_of users id
  block_is_next = by_next (slice_get users next) refl

  -- a file with this number is this one
  same_number : (file : InputFile) (u : FileId × ℕ × Bool) (o : Option InputFile) → file_in link.groups id ≡ Some file → file_in link.groups u.0 ≡ o → is_some o ≡ true
      → file_number link.groups u.0 ≡ n → u.0 ≡ id
  same_number file u None there own some same = absurd (cc)
  same_number file u (Some other) there own some same =
      let here : slice_get (numbered_files link.groups) n ≡ Some (record { id = id; file = file }) = file_stands link.groups id file there in
      let its : slice_get (numbered_files link.groups) (file_number link.groups u.0) ≡ Some (record { id = u.0; file = other }) = file_stands link.groups u.0 other own in
      let first : NumberedFile = record { id = id; file = file } in
      let second : NumberedFile = record { id = u.0; file = other } in
      let two : Some second ≡ Some first = sym its ∙ ap (slice_get (numbered_files link.groups)) same ∙ here in
      ap (λ (f : NumberedFile). f.id) (one_of second first two)

  above : (m k : ℕ) → m ≤ k → (k ≡ m → ⊥) → m + 1 ≤ k
  above m k le other = omega (arith, le, other)

  -- behind it the next one is the next
  moved : (file : InputFile) → file_in link.groups id ≡ Some file → (o : Option (FileId × ℕ × Bool)) → slice_get users next ≡ o
      → IsNextUser link users (n + 1) (next + (if is_some (option_and_then (λ u. if is_file id u then Some u.1 else None) o) then 1 else 0))
  moved file there None none = record {
    before = λ k u lt its. omega (arith, at.before k u (omega (arith, lt)) its);
    behind = λ k u le its. absurd (past next none k u (omega (arith, le)) its);
  }
  moved file there (Some v) here =
      (elim (is_file id v) as (λ b. is_file id v ≡ b → IsNextUser link users (n + 1) (next + (if is_some (if b then Some v.1 else None) then 1 else 0))) [
        | true ↦ λ is. record {
          before = λ k u lt its. elim (cases_lt k next) [
            | inl before ↦ omega (arith, at.before k u before its)
            | inr le ↦
                let place : k ≡ next = omega (arith, lt, le) in
                let two : Some u ≡ Some v = sym its ∙ ap (slice_get users) place ∙ here in
                let own : u.0 ≡ id = ap (λ (w : FileId × ℕ × Bool). w.0) (one_of u v two) ∙ its_file id v.0 is in
                omega (arith, ap (file_number link.groups) own)
          ];
          behind = λ k u le its. omega (arith, order.rising next k v u (omega (arith, le)) here its, at.behind next v (omega arith) here);
        }
        | false ↦ λ is. record {
          before = λ k u lt its. omega (arith, at.before k u (omega (arith, lt)) its);
          behind = λ k u le its.
              let first = at.behind next v (omega arith) here in
              let other : file_number link.groups v.0 ≡ n → ⊥
              = λ same. absurd (false_not_true (sym is ∙ ap (same_file id) (same_number file v (file_in link.groups v.0) there refl (order.there next v here) same) ∙ itself id)) in
              let low = above n (file_number link.groups v.0) first other in
              elim (cases_lt next k) [
                | inl later ↦ omega (arith, order.rising next k v u later here its, low)
                | inr le_next ↦
                    let place : k ≡ next = omega (arith, le, le_next) in
                    let two : Some u ≡ Some v = sym its ∙ ap (slice_get users) place ∙ here in
                    omega (arith, ap (λ (w : FileId × ℕ × Bool). file_number link.groups w.0) (one_of u v two), low)
              ];
        }
      ]) refl

  pub next_is_moved : (file : InputFile) → file_in link.groups id ≡ Some file
      → IsNextUser link users (n + 1) (next + (if is_some (block_next users next id) then 1 else 0))
  next_is_moved file there = moved file there (slice_get users next) refl

-- at the first file the first object is the next one
pub first_user : (link : LinkInput) (users : List (FileId × ℕ × Bool)) → IsNextUser link users 0 0
first_user link users = record { before = λ k u lt its. absurd (omega (arith, lt)); behind = λ k u le its. omega arith }
