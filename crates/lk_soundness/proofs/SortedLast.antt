-- Sorted sections stand last in their parts, in the order of their names.
use Rattle.std.proofs.Common.{◌≡◌, ℕ, zero, suc, ◌+◌, ◌-◌, ◌<◌, ◌==◌, Bool, true, false, cond, not, List, [], ◌∷◌, ◌++◌, length, map, get_or, Some, None, refl, sym, ap, subst, ◌∙◌, inl, inr, arith, append_assoc}
use Rattle.std.specs.Prelude.{filter, option_and_then, option_map, slice_get, slice_index}
use Rattle.std.specs.Option.{option_to_list}
use Rattle.std.specs.declared.cmp.Ordering.TheVariants.{Less, Equal}
use Rattle.std.proofs.lemmas.Bool.{and_parts, cases_lt}
use Rattle.std.proofs.lemmas.Cmp.{tied_itself}
use Rattle.std.proofs.lemmas.List.{map-append}
use Rattle.std.proofs.lemmas.List.Elements.{filter-append}
use Rattle.std.proofs.lemmas.Option.{slice_get-get_or, slice_get_within}
use Rattle.lk_live.specs.declared.live.Live.{Live}
use Rattle.lk_link.specs.declared.link.LinkInput.{LinkInput}
use Rattle.lk_link.specs.Inputs.{Input, NumberedFile, input_number, inputs_from, numbered_files}
use Rattle.lk_link.specs.Marks.{is_marked}
use Rattle.lk_link.specs.Parts.{part_sections}
use Rattle.lk_link.proofs.Elements.{append_at, filter_at, flat_map_at, map_at}
use Rattle.lk_reach.proofs.Rising.{Rises, rises_nil}
use Rattle.lk_tables.specs.declared.commons.Common.{Common}
use Rattle.lk_tables.specs.SymbolTable.{TableEntry}
use Rattle.lk_tables.specs.TableLists.{table_of}
use Rattle.lk_sizes.specs.Owners.{EntryOwner, Filling, IdentityOwner, ImageOwner, Owner, SectionOwner, Taker, all_file_takers, common_taker, commons_of, file_takers, has_image, identity_of, identity_size, images_of, leading_of, live_of, owners_in, section_taker, sorted_takers, stands_in_file, thunk_bytes, thunk_taker, thunk_takers}
use Rattle.lk_sizes.specs.PartOwners.{owners_of, tables_of}
use Rattle.lk_sizes.specs.Sorted.{before, name_cmp, sorted_inputs}
use Rattle.lk_sizes.proofs.SortedOnes.{is_less, name_total, sorted_at, sorted_stand_by_name}
use Rattle.lk_layout.specs.Made.{Made, made_filling}
use Rattle.lk_soundness.specs.Sound.{is_last}

-- ---- owners

-- an owner is a sorted section
abbrev is_sorted_owner : Owner → Bool
is_sorted_owner (SectionOwner x size) = x.section.sorted
is_sorted_owner _ = false

-- an owner is an entry of a table
abbrev is_table_owner : Owner → Bool
is_table_owner (EntryOwner e) = true
is_table_owner _ = false

-- one that isn't last is neither
not_sorted : (o : Owner) → is_last o ≡ false → is_sorted_owner o ≡ false
not_sorted (SectionOwner x size) h = h
not_sorted _ h = refl

not_told : (o : Owner) → is_last o ≡ false → is_table_owner o ≡ false
not_told (EntryOwner e) h = h
not_told _ h = refl

-- ---- what isn't sorted

abbrev NoneSorted : List Owner → Type 0
NoneSorted os = (k : ℕ) (o : Owner) → slice_get os k ≡ Some o → is_sorted_owner o ≡ false

none_both : (os qs : List Owner) → NoneSorted os → NoneSorted qs → NoneSorted (os ++ qs)
none_both os qs h g k o at = elim (append_at os qs k o at) [
  | inl a ↦ h k o a
  | inr b ↦ g b.0 o b.2
]

none_nil : NoneSorted []
none_nil k o at = absurd (cc)

none_one : (q : Owner) → is_sorted_owner q ≡ false → NoneSorted (q ∷ [])
none_one q h zero o at = let same : q ≡ o = cc in ap is_sorted_owner (sym same) ∙ h
none_one q h (suc k) o at = absurd (cc)

-- what leads in a part
leading_none : (link : LinkInput) (lens : List ℕ) (p : ℕ) → NoneSorted (leading_of link lens p)
leading_none link lens p =
    let section : ℕ = slice_index (part_sections link.plan.sections) p in
    let image : Owner = ImageOwner section (slice_index lens section) in
    let images : NoneSorted (images_of link lens p)
    = elim (has_image link p) as (λ b. NoneSorted (cond b (image ∷ []) [])) [
      | true ↦ none_one image refl
      | false ↦ none_nil
    ] in
    let identity : NoneSorted (identity_of link p)
    = elim (identity_size link p) as (λ o. NoneSorted (option_to_list (option_map IdentityOwner o))) [
      | None ↦ none_nil
      | Some size ↦ none_one (IdentityOwner size) refl
    ] in
    none_both (images_of link lens p) (identity_of link p) images identity

abbrev NoneTaken : List Taker → Type 0
NoneTaken ts = (k : ℕ) (t : Taker) → slice_get ts k ≡ Some t → is_sorted_owner t.owner ≡ false

taken_nil : NoneTaken []
taken_nil k t at = absurd (cc)

taken_one : (u : Taker) → is_sorted_owner u.owner ≡ false → NoneTaken (u ∷ [])
taken_one u h zero t at = let same : u ≡ t = cc in ap (λ (v : Taker). is_sorted_owner v.owner) (sym same) ∙ h
taken_one u h (suc k) t at = absurd (cc)

not_set : (b : Bool) → not b ≡ true → b ≡ false
not_set true h = absurd (cc)
not_set false h = refl

-- what a file brings
thunks_none : (filling : Filling) (f : NumberedFile) → NoneTaken (thunk_takers filling f)
thunks_none filling f =
    elim filling.content.link.plan.named.primary as (λ o. NoneTaken (option_to_list (option_and_then (λ p. option_map (thunk_taker f.id p) (thunk_bytes filling f.id)) o))) [
      | None ↦ taken_nil
      | Some p ↦ elim (thunk_bytes filling f.id) as (λ o. NoneTaken (option_to_list (option_map (thunk_taker f.id p) o))) [
        | None ↦ taken_nil
        | Some n ↦ taken_one (thunk_taker f.id p n) refl
      ]
    ]

file_none : (filling : Filling) (f : NumberedFile) → NoneTaken (file_takers filling f)
file_none filling f k t at =
    let link : LinkInput = filling.content.link in
    let live : Live = filling.content.live in
    let commons : List Common = commons_of link live f in
    elim (append_at (map (section_taker filling) (live_of link live f)) (map common_taker commons ++ thunk_takers filling f) k t at) [
      | inl a ↦
          let from = map_at (section_taker filling) (live_of link live f) k t a in
          let stands = filter_at (stands_in_file link live) (inputs_from f.id 0 f.file.sections) k from.0 from.1 in
          let both = and_parts (is_marked live.marks (input_number link.groups from.0.file from.0.index)) (not from.0.section.sorted) stands.2 in
          ap (λ (u : Taker). is_sorted_owner u.owner) (sym from.2) ∙ not_set from.0.section.sorted both.1
      | inr b ↦ elim (append_at (map common_taker commons) (thunk_takers filling f) b.0 t b.2) [
        | inl c ↦
            let from = map_at common_taker commons b.0 t c in
            ap (λ (u : Taker). is_sorted_owner u.owner) (sym from.2)
        | inr d ↦ thunks_none filling f d.0 t d.2
      ]
    ]

files_none : (filling : Filling) → NoneTaken (all_file_takers filling)
files_none filling k t at =
    let from = flat_map_at (file_takers filling) (numbered_files filling.content.link.groups) k t at in
    file_none filling from.from from.inner t from.gives

owners_none : (p : ℕ) (ts : List Taker) → NoneTaken ts → NoneSorted (owners_in p ts)
owners_none p ts h k o at =
    let goes : Taker → Bool = λ t. t.part == p in
    let from = map_at (λ (t : Taker). t.owner) (filter goes ts) k o at in
    let stood = filter_at goes ts k from.0 from.1 in
    ap is_sorted_owner (sym from.2) ∙ h stood.0 from.0 stood.1

-- ---- the three stretches of a part's owners

abbrev front : Filling → ℕ → List Owner
front filling p = leading_of filling.content.link filling.content.merged_lens p ++ owners_in p (all_file_takers filling)

abbrev sorted_stretch : Filling → ℕ → List Owner
sorted_stretch filling p = owners_in p (sorted_takers filling)

abbrev entries : Filling → ℕ → List TableEntry
entries filling p = table_of filling.content.link.plan.named (tables_of filling.content) p

stretches : (filling : Filling) (p : ℕ) → owners_of filling p ≡ front filling p ++ (sorted_stretch filling p ++ map EntryOwner (entries filling p))
stretches filling p =
    let goes : Taker → Bool = λ t. t.part == p in
    let owner : Taker → Owner = λ t. t.owner in
    let leading : List Owner = leading_of filling.content.link filling.content.merged_lens p in
    let brought : List Owner = owners_in p (all_file_takers filling) in
    let behind : List Owner = sorted_stretch filling p in
    let told : List Owner = map EntryOwner (entries filling p) in
    let both : owners_in p (all_file_takers filling ++ sorted_takers filling) ≡ brought ++ behind
    = ap (map owner) (filter-append goes (all_file_takers filling) (sorted_takers filling))
    ∙ map-append owner (filter goes (all_file_takers filling)) (filter goes (sorted_takers filling)) in
    ap (λ (os : List Owner). (leading ++ os) ++ told) both
    ∙ ap (λ (os : List Owner). os ++ told) (sym (append_assoc leading brought behind))
    ∙ append_assoc (leading ++ brought) behind told

front_none : (filling : Filling) (p : ℕ) → NoneSorted (front filling p)
front_none filling p =
    none_both (leading_of filling.content.link filling.content.merged_lens p) (owners_in p (all_file_takers filling))
    (leading_none filling.content.link filling.content.merged_lens p) (owners_none p (all_file_takers filling) (files_none filling))

-- an owner of the middle stretch is a sorted section
middle_sorted : (filling : Filling) (p k : ℕ) (o : Owner) → slice_get (sorted_stretch filling p) k ≡ Some o → is_sorted_owner o ≡ true
middle_sorted filling p k o at =
    let goes : Taker → Bool = λ t. t.part == p in
    let sorted : List Input = sorted_inputs filling.content.link filling.content.live in
    let from = map_at (λ (t : Taker). t.owner) (filter goes (sorted_takers filling)) k o at in
    let stood = filter_at goes (sorted_takers filling) k from.0 from.1 in
    let input = map_at (section_taker filling) sorted stood.0 from.0 stood.1 in
    let is = sorted_at filling.content.link filling.content.live stood.0 input.0 input.1 in
    ap is_sorted_owner (sym from.2) ∙ ap (λ (u : Taker). is_sorted_owner u.owner) (sym input.2) ∙ is.sorted

-- where a part's owner stands
data Stands (filling : Filling) (p k : ℕ) (o : Owner) : Type 0 where
  InFront : k < length (front filling p) → is_sorted_owner o ≡ false → Stands filling p k o
  Sorted : (i : ℕ) → k ≡ length (front filling p) + i → slice_get (sorted_stretch filling p) i ≡ Some o → Stands filling p k o
  Told : is_table_owner o ≡ true → is_sorted_owner o ≡ false → Stands filling p k o

stands : (filling : Filling) (p k : ℕ) (o : Owner) → slice_get (owners_of filling p) k ≡ Some o → Stands filling p k o
stands filling p k o at =
    let told : List Owner = map EntryOwner (entries filling p) in
    let here : slice_get (front filling p ++ (sorted_stretch filling p ++ told)) k ≡ Some o = ap (λ (os : List Owner). slice_get os k) (sym (stretches filling p)) ∙ at in
    elim (append_at (front filling p) (sorted_stretch filling p ++ told) k o here) [
      | inl a ↦ InFront (slice_get_within (front filling p) k o a) (front_none filling p k o a)
      | inr b ↦ elim (append_at (sorted_stretch filling p) told b.0 o b.2) [
        | inl c ↦ Sorted b.0 b.1 c
        | inr d ↦
            let entry = map_at EntryOwner (entries filling p) d.0 o d.2 in
            Told (ap is_table_owner (sym entry.2)) (ap is_sorted_owner (sym entry.2))
      ]
    ]

behind_by : (filling : Filling) (p j k : ℕ) (o q : Owner) → Stands filling p j o → Stands filling p k q
    → is_sorted_owner o ≡ false → is_table_owner o ≡ false → is_sorted_owner q ≡ true → j < k
behind_by filling p j k o q (InFront below none) (Sorted i place at) plain other sorted = omega (arith, below, place)
behind_by filling p j k o q (InFront below none) (InFront low never) plain other sorted = absurd (let no : true ≡ false = sym sorted ∙ never in cc)
behind_by filling p j k o q (InFront below none) (Told table never) plain other sorted = absurd (let no : true ≡ false = sym sorted ∙ never in cc)
behind_by filling p j k o q (Sorted i place at) there plain other sorted = absurd (let no : true ≡ false = sym (middle_sorted filling p i o at) ∙ plain in cc)
behind_by filling p j k o q (Told table none) there plain other sorted = absurd (let no : true ≡ false = sym table ∙ other in cc)

-- ---- in order

abbrev Before : Input → Input → Type 0
Before x y = name_cmp x y ≡ Less

far : (xs : List Input) → ((k : ℕ) (x y : Input) → slice_get xs k ≡ Some x → slice_get xs (k + 1) ≡ Some y → before x y ≡ true)
    → (i d : ℕ) (x y : Input) → slice_get xs i ≡ Some x → slice_get xs (i + 1 + d) ≡ Some y → Before x y
far xs near i zero x y at_i at_j =
    let next : i + 1 + 0 ≡ i + 1 = omega arith in
    is_less (name_cmp x y) (near i x y at_i (ap (slice_get xs) (sym next) ∙ at_j))
far xs near i (suc d) x y at_i at_j =
    let place : ℕ = i + 1 + d in
    let next : i + 1 + suc d ≡ place + 1 = omega arith in
    let there : slice_get xs (place + 1) ≡ Some y = ap (slice_get xs) (sym next) ∙ at_j in
    let within : place < length xs = omega (arith, slice_get_within xs (place + 1) y there) in
    let m : Input = get_or xs place x in
    let at_m : slice_get xs place ≡ Some m = slice_get-get_or xs place x within in
    name_total.trans x m y (far xs near i d x m at_i at_m) (is_less (name_cmp m y) (near place m y at_m there))

inputs_rise : (link : LinkInput) (live : Live) → Rises Before (sorted_inputs link live)
inputs_rise link live i j x y lt at_i at_j =
    let place : j ≡ i + 1 + (j - (i + 1)) = omega (arith, lt) in
    far (sorted_inputs link live) (sorted_stand_by_name link live).rising i (j - (i + 1)) x y at_i (ap (slice_get (sorted_inputs link live)) (sym place) ∙ at_j)

kept_step : {X : Type 0} (R : X → X → Type 0) (p : X → Bool) (x : X) (xs : List X) (c : Bool) → Rises R (filter p xs) → ((j : ℕ) (b : X) → slice_get (filter p xs) j ≡ Some b → R x b)
    → Rises R (cond c (x ∷ filter p xs) (filter p xs))
kept_step R p x xs false rest first i j a b lt q r = rest i j a b lt q r
kept_step R p x xs true rest first zero zero a b lt q r = absurd (omega (arith, lt))
kept_step R p x xs true rest first zero (suc j) a b lt q r =
    let same : x ≡ a = cc in
    subst (λ y. R y b) same (first j b r)
kept_step R p x xs true rest first (suc i) zero a b lt q r = absurd (omega (arith, lt))
kept_step R p x xs true rest first (suc i) (suc j) a b lt q r = rest i j a b (omega (arith, lt)) q r

-- what is left of a list stands as before
pub rises_kept : {X : Type 0} (R : X → X → Type 0) (p : X → Bool) (xs : List X) → Rises R xs → Rises R (filter p xs)
rises_kept R p [] h = rises_nil R
rises_kept R p (x ∷ xs) h =
    kept_step R p x xs (p x) (rises_kept R p xs (λ i j a b lt. h (suc i) (suc j) a b (omega (arith, lt)))) (λ j b q.
    let at = filter_at p xs j b q in
    h 0 (suc at.0) x b (omega arith) refl at.1)

rises_made : {X Y : Type 0} (R : X → X → Type 0) (S : Y → Y → Type 0) (f : X → Y) (xs : List X) → ((a b : X) → R a b → S (f a) (f b)) → Rises R xs → Rises S (map f xs)
rises_made R S f xs h g i j a b lt at_i at_j =
    let x = map_at f xs i a at_i in
    let y = map_at f xs j b at_j in
    subst (λ z. S z b) x.2 (subst (λ z. S (f x.0) z) y.2 (h x.0 y.0 (g i j x.0 y.0 lt x.1 y.1)))

-- owners that are sections stand in the order of their names
abbrev OwnersBefore : Owner → Owner → Type 0
OwnersBefore o q = (x y : Input) (n m : ℕ) → o ≡ SectionOwner x n → q ≡ SectionOwner y m → Before x y

same_section : (x y : Input) (n m : ℕ) → SectionOwner x n ≡ SectionOwner y m → x ≡ y
same_section x y n m h = cc

middle_rises : (filling : Filling) (p : ℕ) → Rises OwnersBefore (sorted_stretch filling p)
middle_rises filling p =
    let goes : Taker → Bool = λ t. t.part == p in
    let R : Taker → Taker → Type 0 = λ t u. OwnersBefore t.owner u.owner in
    let takers : Rises R (sorted_takers filling)
    = rises_made Before R (section_taker filling) (sorted_inputs filling.content.link filling.content.live) (λ a b less x y n m is are.
    let first : a ≡ x = same_section a x _ n is in
    let second : b ≡ y = same_section b y _ m are in
    subst (λ (z : Input). Before z y) first (subst (λ (z : Input). Before a z) second less)) (inputs_rise filling.content.link filling.content.live) in
    rises_made R OwnersBefore (λ (t : Taker). t.owner) (filter goes (sorted_takers filling)) (λ a b h. h) (rises_kept R goes (sorted_takers filling) takers)

less_other : (x y : Input) → Before x y → Before y x → ⊥
less_other x y h g =
    let twice : Before x x = name_total.trans x y x h g in
    let never : Less ≡ Equal = sym twice ∙ tied_itself name_total x in
    absurd (cc)

in_order : (filling : Filling) (p a b : ℕ) (x y : Input) (n m : ℕ) → slice_get (sorted_stretch filling p) a ≡ Some (SectionOwner x n) → slice_get (sorted_stretch filling p) b ≡ Some (SectionOwner y m)
    → before x y ≡ true → a < b
in_order filling p a b x y n m at_a at_b less =
    let first : Before x y = is_less (name_cmp x y) less in
    elim (cases_lt a b) [
      | inl below ↦ below
      | inr past ↦ elim (cases_lt b a) [
        | inl above ↦ absurd (less_other x y first (middle_rises filling p b a (SectionOwner y m) (SectionOwner x n) above at_b at_a y x m n refl refl))
        | inr same ↦
            let place : a ≡ b = omega (arith, past, same) in
            let both : Some (SectionOwner x n) ≡ Some (SectionOwner y m) = sym at_a ∙ ap (slice_get (sorted_stretch filling p)) place ∙ at_b in
            let owners : SectionOwner x n ≡ SectionOwner y m = cc in
            let one : x ≡ y = same_section x y n m owners in
            absurd (less_other x y first (subst (λ (z : Input). Before y z) (sym one) (subst (λ (z : Input). Before z y) one first)))
      ]
    ]

by_stands : (filling : Filling) (p j k : ℕ) (x y : Input) (n m : ℕ) → Stands filling p j (SectionOwner x n) → Stands filling p k (SectionOwner y m)
    → x.section.sorted ≡ true → y.section.sorted ≡ true → before x y ≡ true → j < k
by_stands filling p j k x y n m (Sorted a at_j here) (Sorted b at_k there) sorted too less = omega (arith, at_j, at_k, in_order filling p a b x y n m here there less)
by_stands filling p j k x y n m (InFront below none) stands sorted too less = absurd (let no : true ≡ false = sym sorted ∙ none in cc)
by_stands filling p j k x y n m (Told table none) stands sorted too less = absurd (let no : true ≡ false = sym sorted ∙ none in cc)
by_stands filling p j k x y n m (Sorted a at_j here) (InFront below none) sorted too less = absurd (let no : true ≡ false = sym too ∙ none in cc)
by_stands filling p j k x y n m (Sorted a at_j here) (Told table none) sorted too less = absurd (let no : true ≡ false = sym too ∙ none in cc)

-- ---- all

-- sorted sections stand behind all others but entries of tables, and among themselves by name
pub record SortedStandLast (made : Made) : Type 0 where
  pub behind : (p j k n : ℕ) (o : Owner) (x : Input) → slice_get (owners_of (made_filling made) p) j ≡ Some o
      → slice_get (owners_of (made_filling made) p) k ≡ Some (SectionOwner x n) → is_last o ≡ false → x.section.sorted ≡ true → j < k
  pub among : (p j k : ℕ) (x y : Input) (n m : ℕ) → slice_get (owners_of (made_filling made) p) j ≡ Some (SectionOwner x n)
      → slice_get (owners_of (made_filling made) p) k ≡ Some (SectionOwner y m) → x.section.sorted ≡ true → y.section.sorted ≡ true → before x y ≡ true → j < k

pub sorted_stand_last : (made : Made) → SortedStandLast made
sorted_stand_last made = record {
  behind = λ p j k n o x at_j at_k last sorted.
      behind_by (made_filling made) p j k o (SectionOwner x n) (stands (made_filling made) p j o at_j) (stands (made_filling made) p k (SectionOwner x n) at_k) (not_sorted o last) (not_told o last) sorted;
  among = λ p j k x y n m at_j at_k. by_stands (made_filling made) p j k x y n m (stands (made_filling made) p j (SectionOwner x n) at_j) (stands (made_filling made) p k (SectionOwner y m) at_k);
}
