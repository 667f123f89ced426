-- Objects of which the large members are read where they stand.
use Rattle.std.proofs.Common.{◌≡◌, ℕ, zero, suc, ◌+◌, List, [], ◌∷◌, Bool, true, false, Option, Some, None, option_map, Result, Ok, Err, true≢false, refl, sym, ap, ◌∙◌, arith}
use Rattle.std.specs.Str.{bytes_eq}
use Rattle.std.proofs.lemmas.Slice.Eq.{bytes_eq-Decides}
use Rattle.json.specs.Token.{Token}
use Rattle.json.specs.Json.{parse_map}
use Rattle.json.specs.Reads.{token_of}
use Rattle.json.specs.declared.token.Token.{Token as Taken}
use Rattle.json.specs.declared.token.Token.TheVariants as taken
use Rattle.serde_json.specs.Data.{Num, Data, null, boolean, number, string, array, object, Items, Members, no_members, put}
use Rattle.serde_json.specs.Find.{as_object, get_member}
use Rattle.serde_json.specs.Read.{number_of}
use Rattle.serde_json.proofs.Views.{get_member-put, get_member-put_other}
use Rattle.lk_input.specs.declared.read.error.InputError.{InputError}
use Rattle.lk_input.specs.declared.read.error.InputError.TheVariants as error
use Rattle.lk_input.specs.Large.{IsSplit}
use Rattle.lk_input.specs.ReadingSteps.{Path, Reads}
use Rattle.lk_pieces.specs.Tokens.{data_at, items_at, members_at}
use Rattle.lk_input.specs.Tokens.{Stands, as_is, settled}
use Rattle.lk_pieces.proofs.Tokens.{data_at-nothing, data_at-null, data_at-boolean, data_at-string, data_at-number, data_at-key, data_at-bad, data_at-end_array, data_at-end_object, data_at-array, data_at-object, data_at-deep_array, data_at-deep_object}

pub differ : (xs ys : List ℕ) → bytes_eq xs ys ≡ false → xs ≡ ys → ⊥
differ xs ys other same = true≢false (sym ((bytes_eq-Decides xs ys).1 same) ∙ other)

-- ---- the same member put to both

put_by : (b : Bool) (k key : List ℕ) (d : Data) (ms ns : Members) → bytes_eq k key ≡ b → get_member k ms ≡ get_member k ns → get_member k (put key d ms) ≡ get_member k (put key d ns)
put_by true k key d ms ns e same =
    let is : k ≡ key = (bytes_eq-Decides k key).0 e in
    rw is (get_member-put key d ms ∙ sym (get_member-put key d ns))
put_by false k key d ms ns e same =
    let other = differ k key e in
    get_member-put_other k key d ms other ∙ same ∙ sym (get_member-put_other k key d ns other)

pub put-both : (k key : List ℕ) (d : Data) (ms ns : Members) → get_member k ms ≡ get_member k ns → get_member k (put key d ms) ≡ get_member k (put key d ns)
put-both k key d ms ns same = put_by (bytes_eq k key) k key d ms ns refl same

-- ---- a further member

-- a large one
pub split-large : {L : Type 0} (is_large : List ℕ → Bool) (kept : Members → L) (key : List ℕ) (d : Data) (ms others : Members) (before large : L)
    → is_large key ≡ true → large ≡ kept (put key d ms) → IsSplit is_large kept ms before others → IsSplit is_large kept (put key d ms) large others
split-large is_large kept key d ms others before large is now h = record {
  are_kept = now;
  stay = λ k small. h.stay k small ∙ sym (get_member-put_other k key d ms (λ same. true≢false (sym is ∙ sym (ap is_large same) ∙ small)));
}

-- another
pub split-other : {L : Type 0} (is_large : List ℕ → Bool) (kept : Members → L) (key : List ℕ) (d : Data) (ms others : Members) (before : L)
    → kept (put key d ms) ≡ kept ms → IsSplit is_large kept ms before others → IsSplit is_large kept (put key d ms) before (put key d others)
split-other is_large kept key d ms others before same h = record { are_kept = h.are_kept ∙ sym same; stay = λ k small. put-both k key d others ms (h.stay k small) }

-- nothing was read yet
pub split-begin : {L : Type 0} (is_large : List ℕ → Bool) (kept : Members → L) (ms others : Members) (large : L) → large ≡ kept ms → others ≡ ms → IsSplit is_large kept ms large others
split-begin is_large kept ms others large e same = record { are_kept = e; stay = λ k small. ap (get_member k) same }

-- ---- an object, by its first token

pub object-read : {A : Type 0} (f : Data → Result A Path) (depth d : ℕ) (ts r : List Token) (ms : Members) → depth ≡ d + 1 → members_at no_members d ts ≡ Some (ms, r)
    → parse_map f (data_at depth (Token.begin_object ∷ ts)) ≡ Some (f (object ms), r)
object-read f depth d ts r ms is e = ap (parse_map f) (data_at-object depth d ts is ∙ ap (parse_map object) e)

pub object-none : {A : Type 0} (f : Data → Result A Path) (depth d : ℕ) (ts : List Token) → depth ≡ d + 1 → members_at no_members d ts ≡ None → parse_map f (data_at depth (Token.begin_object ∷ ts)) ≡ None
object-none f depth d ts is e = ap (parse_map f) (data_at-object depth d ts is ∙ ap (parse_map object) e)

pub object-too_deep : {A : Type 0} (f : Data → Result A Path) (depth : ℕ) (ts : List Token) → depth ≡ 0 → parse_map f (data_at depth (Token.begin_object ∷ ts)) ≡ None
object-too_deep f depth ts is = ap (parse_map f) (data_at-deep_object depth ts is)

pub object-nothing : {A : Type 0} (f : Data → Result A Path) (depth : ℕ) → parse_map f (data_at depth []) ≡ None
object-nothing f depth = ap (parse_map f) (data_at-nothing depth)

pub ruleset objects = (object-too_deep, object-nothing)

-- what reads objects alone
abbrev pub WantsObject : {A : Type 0} → (Data → Result A Path) → Type 0
WantsObject f = (d : Data) → as_object d ≡ None → f d ≡ Err []

not_array : {A : Type 0} (f : Data → Result A Path) → WantsObject f → (o : Option (Items × List Token)) → parse_map f (parse_map array o) ≡ parse_map (λ _. Err []) (parse_map array o)
not_array f wants None = refl
not_array f wants (Some p) = ap (λ y. Some (y, p.1)) (wants (array p.0) refl)

not_number : {A : Type 0} (f : Data → Result A Path) → WantsObject f → (ts : List Token) (n : Option Num) → parse_map f (option_map (λ x. (number x, ts)) n) ≡ parse_map (λ _. Err []) (option_map (λ x. (number x, ts)) n)
not_number f wants ts None = refl
not_number f wants ts (Some x) = ap (λ y. Some (y, ts)) (wants (number x) refl)

-- a list is no object, however deep it may nest
no_array : {A : Type 0} (f : Data → Result A Path) → WantsObject f → (depth : ℕ) (ts : List Token) → parse_map f (data_at depth (Token.begin_array ∷ ts)) ≡ parse_map (λ _. Err []) (data_at depth (Token.begin_array ∷ ts))
no_array f wants zero ts = rw (data_at-deep_array zero ts refl) refl
no_array f wants (suc d) ts = rw (data_at-array (suc d) d ts (omega arith)) (not_array f wants (items_at d ts))

-- what begins with another token is no object
pub no_object : {A : Type 0} (f : Data → Result A Path) → WantsObject f → (depth : ℕ) (t : Taken) (ts : List Token) → (t ≡ taken.BeginObject → ⊥)
    → parse_map f (data_at depth (token_of t ∷ ts)) ≡ parse_map (λ _. Err []) (data_at depth (token_of t ∷ ts))
no_object f wants depth taken.BeginObject ts other = absurd (other refl)
no_object f wants depth taken.BeginArray ts other = no_array f wants depth ts
no_object f wants depth taken.EndObject ts other = rw (data_at-end_object depth ts) refl
no_object f wants depth taken.EndArray ts other = rw (data_at-end_array depth ts) refl
no_object f wants depth (taken.Key s) ts other = rw (data_at-key depth s.now ts) refl
no_object f wants depth (taken.String s) ts other = rw (data_at-string depth s.now ts) (ap (λ y. Some (y, ts)) (wants (string s.now) refl))
no_object f wants depth (taken.Number s) ts other = rw (data_at-number depth s.now ts) (not_number f wants ts (number_of s.now))
no_object f wants depth (taken.Bool b) ts other = rw (data_at-boolean depth b ts) (ap (λ y. Some (y, ts)) (wants (boolean b) refl))
no_object f wants depth taken.Null ts other = rw (data_at-null depth ts) (ap (λ y. Some (y, ts)) (wants null refl))
no_object f wants depth taken.Bad ts other = rw (data_at-bad depth ts) refl

-- ---- what was read, settled

pub settled-stands : {A : Type 0} (x : Result A InputError) (r : Result A Path) (o : Option (Result A Path × List Token)) (ts : List Token) → Reads x r → o ≡ Some (r, ts) → Stands as_is (settled x) o ts
settled-stands (Ok a) r o ts h e = e ∙ ap (λ y. Some (y, ts)) h
settled-stands (Err (error.Shape path)) r o ts h e = e ∙ ap (λ y. Some (y, ts)) h
settled-stands (Err error.NotJson) r o ts h e = absurd h
settled-stands (Err error.NoMemory) r o ts h e = tt
