-- The owners of a part tile it.
use Rattle.std.proofs.Common.{◌≡◌, ℕ, ◌+◌, ◌<◌, ◌≤◌, ◌==◌, suc, zero, List, [], ◌∷◌, ◌++◌, ◌∙◌, map, filter, take, Some, None, inl, inr, ap, sym, subst, refl, true, false, arith, cond}
use Rattle.std.specs.Int.{◌∣◌, next_multiple_of}
use Rattle.std.specs.List.{AllByRecursion, flat_map, slice_index}
use Rattle.std.specs.Option.{option_to_list}
use Rattle.std.specs.Prelude.{Option, option_and_then, option_map}
use Rattle.std.proofs.lemmas.List.{append-nil}
use Rattle.std.proofs.lemmas.List.Sums.{sum_by-cons}
use Rattle.std.proofs.lemmas.Bool.{cases_lt}
use Rattle.std.proofs.lemmas.Nat.Gcd.{dvd-zero}
use Rattle.std.proofs.Math.Nat.{dvd-add}
use Rattle.lk_link.specs.declared.link.LinkInput.{LinkInput}
use Rattle.lk_link.specs.declared.plan.PlanPart.{PlanPart}
use Rattle.lk_link.specs.Parts.{part_at, part_sections}
use Rattle.lk_link.proofs.Powers.{alignment-pos}
use Rattle.lk_link.specs.Sizes.{capacity}
use Rattle.lk_link.proofs.Starts.{next_multiple_is_least}
use Rattle.lk_sizes.proofs.PartAlignments.{part_is_aligned}
use Rattle.lk_sizes.specs.Owners.{EntryOwner, Filling, IdentityOwner, ImageOwner, Owner, Taker, all_file_takers, bytes_of, common_taker, commons_of, content_owners, file_takers, has_image, identity_of, identity_size, images_of, leading_of, live_of, owner_address, owner_bytes, owners_in, section_taker, size_of, sorted_takers, takers, thunk_bytes, thunk_taker, thunk_takers}
use Rattle.lk_sizes.specs.Sorted.{sorted_inputs}
use Rattle.lk_sizes.specs.PartOwners.{owners_of, tables_of}
use Rattle.lk_tables.specs.declared.commons.Common.{Common}
use Rattle.lk_live.specs.declared.live.Live.{Live}
use Rattle.lk_tables.specs.SymbolTable.{TableEntry}
use Rattle.lk_tables.proofs.PartLists.{other_parts}
use Rattle.lk_link.specs.Inputs.{Input, NumberedFile, numbered_files}
use Rattle.lk_size_laws.specs.Tiles.{HasByte, IsTiled, OwnersTileTheirPart, OwnersAreAligned}

-- an owner behind the first stands where it stands in the rest, counted from the end of the first
behind : (start : ℕ) (part : PlanPart) (o : Owner) (os : List Owner) (k : ℕ) → owner_address start part (o ∷ os) (suc k) ≡ owner_address (start + owner_bytes part o) part os k
behind start part o os k = omega (arith, sum_by-cons (owner_bytes part) o (take k os))

pub whole : (part : PlanPart) (o : Owner) (os : List Owner) → bytes_of part (o ∷ os) ≡ owner_bytes part o + bytes_of part os
whole part o os = sum_by-cons (owner_bytes part) o os

first : (start : ℕ) (part : PlanPart) (o : Owner) (os : List Owner) (b : ℕ) → HasByte start part (o ∷ os) 0 b → (start ≤ b) × (b < start + owner_bytes part o)
first start part o os b h =
    let same : o ≡ h.owner = cc in
    let bytes : owner_bytes part o ≡ owner_bytes part h.owner = ap (owner_bytes part) same in
    (omega (arith, h.from), omega (arith, h.below))

later : (start : ℕ) (part : PlanPart) (o : Owner) (os : List Owner) (k b : ℕ) → HasByte start part (o ∷ os) (suc k) b → HasByte (start + owner_bytes part o) part os k b
later start part o os k b h =
    let e = behind start part o os k in
    record { owner = h.owner; there = h.there; from = omega (arith, h.from); below = omega (arith, h.below) }

sooner : (start : ℕ) (part : PlanPart) (o : Owner) (os : List Owner) (k b : ℕ) → HasByte (start + owner_bytes part o) part os k b → HasByte start part (o ∷ os) (suc k) b
sooner start part o os k b h =
    let e = behind start part o os k in
    record { owner = h.owner; there = h.there; from = omega (arith, h.from); below = omega (arith, h.below) }

inside : (start : ℕ) (part : PlanPart) (owners : List Owner) (k b : ℕ) → HasByte start part owners k b → (start ≤ b) × (b < start + bytes_of part owners)
inside start part [] k b h = let there = h.there in absurd (cc)
inside start part (o ∷ os) zero b h =
    let w = whole part o os in
    let f = first start part o os b h in
    (f.0, omega (arith, f.1))
inside start part (o ∷ os) (suc k) b h =
    let w = whole part o os in
    let f = inside (start + owner_bytes part o) part os k b (later start part o os k b h) in
    (omega (arith, f.0), omega (arith, f.1))

covered : (start : ℕ) (part : PlanPart) (owners : List Owner) (b : ℕ) → start ≤ b → b < start + bytes_of part owners → (k : ℕ) × HasByte start part owners k b
covered start part [] b h k = absurd (omega arith)
covered start part (o ∷ os) b h k =
    let w = whole part o os in
    elim (cases_lt b (start + owner_bytes part o)) [
      | inl l ↦ (0, record { owner = o; there = refl; from = omega arith; below = omega arith })
      | inr r ↦
          let f = covered (start + owner_bytes part o) part os b r (omega arith) in
          (suc f.0, sooner start part o os f.0 b f.1)
    ]

apart : (start : ℕ) (part : PlanPart) (owners : List Owner) (j k b : ℕ) → HasByte start part owners j b → HasByte start part owners k b → j ≡ k
apart start part [] j k b h i = let there = h.there in absurd (cc)
apart start part (o ∷ os) zero zero b h i = refl
apart start part (o ∷ os) zero (suc k) b h i =
    let f = first start part o os b h in
    let g = inside (start + owner_bytes part o) part os k b (later start part o os k b i) in
    absurd (omega (arith, f.1, g.0))
apart start part (o ∷ os) (suc j) zero b h i =
    let f = first start part o os b i in
    let g = inside (start + owner_bytes part o) part os j b (later start part o os j b h) in
    absurd (omega (arith, f.1, g.0))
apart start part (o ∷ os) (suc j) (suc k) b h i =
    ap suc (apart (start + owner_bytes part o) part os j k b (later start part o os j b h) (later start part o os k b i))

-- owners tile what they take together
pub tiles : (start : ℕ) (part : PlanPart) (owners : List Owner) → IsTiled start part owners
tiles start part owners = record { inside = inside start part owners; covered = covered start part owners; apart = apart start part owners }

pub owners_tile : OwnersTileTheirPart
owners_tile filling p start = tiles start (part_at filling.content.link.plan.sections p) (owners_of filling p)

-- ---- alignment

-- a rounded size is a multiple
rounded : (part : PlanPart) (size : ℕ) → part.packed ≡ false → 0 < part.alignment → part.alignment ∣ capacity part size
rounded part size h i =
    let e : capacity part size ≡ next_multiple_of size part.alignment = ap (λ b. cond b size (next_multiple_of size part.alignment)) h in
    subst (λ (n : ℕ). part.alignment ∣ n) (sym e) (next_multiple_is_least part.alignment size i).multiple

-- an owner takes a multiple of the alignment
abbrev pub IsRounded : PlanPart → Owner → Type 0
IsRounded part o = part.alignment ∣ owner_bytes part o

aligned : (part : PlanPart) (owners : List Owner) (k : ℕ) → AllByRecursion (IsRounded part) owners → part.alignment ∣ bytes_of part (take k owners)
aligned part owners zero h = dvd-zero part.alignment
aligned part [] (suc k) h = dvd-zero part.alignment
aligned part (o ∷ owners) (suc k) h =
    subst (λ (n : ℕ). part.alignment ∣ n) (sym (whole part o (take k owners))) (dvd-add part.alignment h.0 (aligned part owners k h.1))

all_joined : {X : Type 0} (P : X → Type 0) (xs ys : List X) → AllByRecursion P xs → AllByRecursion P ys → AllByRecursion P (xs ++ ys)
all_joined P [] ys h i = i
all_joined P (x ∷ xs) ys h i = (h.0, all_joined P xs ys h.1 i)

-- something holds of what leads in each part
record OfLeading (P : Owner → Type 0) : Type 0 where
  image : (section len : ℕ) → P (ImageOwner section len)
  identity : (size : ℕ) → P (IdentityOwner size)

-- what holds of what takers bring
of_takers : (P : Owner → Type 0) (p : ℕ) (ts : List Taker) → AllByRecursion (λ (t : Taker). P t.owner) ts → AllByRecursion P (owners_in p ts)
of_takers P p [] h = tt
of_takers P p (t ∷ ts) h =
    let rest : List Taker = filter (λ (u : Taker). u.part == p) ts in
    elim (t.part == p) as (λ b. AllByRecursion P (map (λ (u : Taker). u.owner) (cond b (t ∷ rest) rest))) [
      | true ↦ (h.0, of_takers P p ts h.1)
      | false ↦ of_takers P p ts h.1
    ]

of_image : (P : Owner → Type 0) (link : LinkInput) (merged_lens : List ℕ) (p : ℕ) → OfLeading P → AllByRecursion P (images_of link merged_lens p)
of_image P link merged_lens p all =
    let section : ℕ = slice_index (part_sections link.plan.sections) p in
    elim (has_image link p) as (λ b. AllByRecursion P (cond b (ImageOwner section (slice_index merged_lens section) ∷ []) [])) [
      | true ↦ (all.image section (slice_index merged_lens section), tt)
      | false ↦ tt
    ]

of_identity : (P : Owner → Type 0) (link : LinkInput) (p : ℕ) → OfLeading P → AllByRecursion P (identity_of link p)
of_identity P link p all =
    elim (identity_size link p) as (λ o. AllByRecursion P (option_to_list (option_map IdentityOwner o))) [
      | None ↦ tt
      | Some size ↦ (all.identity size, tt)
    ]

of_leading : (P : Owner → Type 0) (link : LinkInput) (merged_lens : List ℕ) (p : ℕ) → OfLeading P → AllByRecursion P (leading_of link merged_lens p)
of_leading P link merged_lens p all =
    all_joined P (images_of link merged_lens p) (identity_of link p) (of_image P link merged_lens p all) (of_identity P link p all)

rounded_sections : (part : PlanPart) (filling : Filling) (xs : List Input) → part.packed ≡ false → 0 < part.alignment
    → AllByRecursion (λ (t : Taker). IsRounded part t.owner) (map (section_taker filling) xs)
rounded_sections part filling [] h i = tt
rounded_sections part filling (x ∷ xs) h i = (rounded part (size_of filling x) h i, rounded_sections part filling xs h i)

rounded_commons : (part : PlanPart) (cs : List Common) → part.packed ≡ false → 0 < part.alignment
    → AllByRecursion (λ (t : Taker). IsRounded part t.owner) (map common_taker cs)
rounded_commons part [] h i = tt
rounded_commons part (c ∷ cs) h i = (rounded part c.size h i, rounded_commons part cs h i)

rounded_block : (part : PlanPart) (filling : Filling) (f : NumberedFile) → part.packed ≡ false → 0 < part.alignment
    → AllByRecursion (λ (t : Taker). IsRounded part t.owner) (thunk_takers filling f)
rounded_block part filling f h i = by filling.content.link.plan.named.primary (thunk_bytes filling f.id)
  where
    by : (at bytes : Option ℕ) → AllByRecursion (λ (t : Taker). IsRounded part t.owner) (option_to_list (option_and_then (λ p. option_map (thunk_taker f.id p) bytes) at))
    by None bytes = tt
    by (Some p) None = tt
    by (Some p) (Some size) = (rounded part size h i, tt)

rounded_takers : (part : PlanPart) (filling : Filling) (files : List NumberedFile) → part.packed ≡ false → 0 < part.alignment
    → AllByRecursion (λ (t : Taker). IsRounded part t.owner) (flat_map (file_takers filling) files)
rounded_takers part filling [] h i = tt
rounded_takers part filling (f ∷ files) h i =
    let link : LinkInput = filling.content.link in
    let live : Live = filling.content.live in
    let each : Taker → Type 0 = λ t. IsRounded part t.owner in
    all_joined each (file_takers filling f) (flat_map (file_takers filling) files)
    (all_joined each (map (section_taker filling) (live_of link live f)) (map common_taker (commons_of link live f) ++ thunk_takers filling f)
    (rounded_sections part filling (live_of link live f) h i)
    (all_joined each (map common_taker (commons_of link live f)) (thunk_takers filling f) (rounded_commons part (commons_of link live f) h i) (rounded_block part filling f h i)))
    (rounded_takers part filling files h i)

pub owners_are_aligned : OwnersAreAligned
owners_are_aligned filling p k good free unpacked =
    let part : PlanPart = part_at filling.content.link.plan.sections p in
    let above = alignment-pos part.alignment (part_is_aligned filling.content.link p good) in
    let own : List Owner = content_owners filling p in
    let none : owners_of filling p ≡ own
    = ap (λ (es : List TableEntry). own ++ map EntryOwner es) (other_parts filling.content.link.plan.named (tables_of filling.content) p free) ∙ append-nil own in
    let brought : List Owner = owners_in p (takers filling) in
    let all : AllByRecursion (IsRounded part) own
    = all_joined (IsRounded part) (leading_of filling.content.link filling.content.merged_lens p) brought
    (of_leading (IsRounded part) filling.content.link filling.content.merged_lens p
    (record { image = λ section len. rounded part len unpacked above; identity = λ size. rounded part size unpacked above }))
    (of_takers (IsRounded part) p (takers filling) (all_joined (λ (t : Taker). IsRounded part t.owner) (all_file_takers filling) (sorted_takers filling)
    (rounded_takers part filling (numbered_files filling.content.link.groups) unpacked above)
    (rounded_sections part filling (sorted_inputs filling.content.link filling.content.live) unpacked above))) in
    subst (λ (os : List Owner). part.alignment ∣ bytes_of part (take k os)) (sym none) (aligned part own k all)
