-- Where the image, the identity and entries stand among the owners of a part.
use Rattle.std.proofs.Common.{◌≡◌, ℕ, zero, suc, ◌+◌, ◌==◌, Bool, true, false, cond, List, [], ◌∷◌, ◌++◌, Option, length, map, filter, None, Some, refl, sym, ap, subst, inl, inr, arith}
use Rattle.std.specs.Prelude.{option_map}
use Rattle.std.specs.List.{slice_get, slice_index}
use Rattle.std.specs.Option.{option_to_list}
use Rattle.lk_link.specs.declared.link.LinkInput.{LinkInput}
use Rattle.lk_link.specs.Inputs.{numbered_files}
use Rattle.lk_link.specs.Parts.{part_sections}
use Rattle.lk_link.proofs.Elements.{append_at, append_left, append_right, filter_at, flat_map_at, map_at, map_in}
use Rattle.lk_live.specs.declared.live.Live.{Live}
use Rattle.lk_tables.specs.SymbolTable.{TableEntry}
use Rattle.lk_tables.specs.TableLists.{table_of}
use Rattle.lk_sizes.specs.Owners.{CommonOwner, EntryOwner, Filling, IdentityOwner, ImageOwner, Owner, SectionOwner, Taker, ThunkOwner, all_file_takers, common_taker, commons_of, content_owners, file_takers, has_image, identity_of, identity_size, images_of, leading_of, live_of, owners_in, section_taker, sorted_takers, takers, thunk_takers}
use Rattle.lk_sizes.specs.Sorted.{sorted_inputs}
use Rattle.lk_sizes.specs.PartOwners.{owners_of, tables_of}
use Rattle.lk_size_laws.specs.OwnerLaws.{EntriesAreOwners, IdentityIsOwner}
use Rattle.lk_sizes.proofs.ThunkTakers.{one_block}

-- what a place says of an owner that isn't brought by a file
abbrev pub HasPlace : Filling → ℕ → ℕ → Owner → Type 0
HasPlace filling p k (ImageOwner section len) = k ≡ 0
HasPlace filling p k (IdentityOwner size) = k ≡ length (images_of filling.content.link filling.content.merged_lens p)
HasPlace filling p k (SectionOwner x size) = Unit {0}
HasPlace filling p k (CommonOwner s size) = Unit {0}
HasPlace filling p k (ThunkOwner id size) = Unit {0}
HasPlace filling p k (EntryOwner e) = (j : ℕ) × (k ≡ length (content_owners filling p) + j)
    × (slice_get (table_of filling.content.link.plan.named (tables_of filling.content) p) j ≡ Some e)

-- ---- what leads

image_place : (filling : Filling) (p k : ℕ) (o : Owner) → slice_get (images_of filling.content.link filling.content.merged_lens p) k ≡ Some o → HasPlace filling p k o
image_place filling p k o there = by_image (has_image filling.content.link p) k there
  where
    section : ℕ
    section = slice_index (part_sections filling.content.link.plan.sections) p

    image : Owner
    image = ImageOwner section (slice_index filling.content.merged_lens section)

    by_image : (b : Bool) (j : ℕ) → slice_get (cond b (image ∷ []) []) j ≡ Some o → HasPlace filling p j o
    by_image true zero at = let same : image ≡ o = cc in subst (HasPlace filling p 0) same refl
    by_image true (suc j) at = absurd (cc)
    by_image false j at = absurd (cc)

identity_place : (filling : Filling) (p k : ℕ) (o : Owner) (j : ℕ) → k ≡ length (images_of filling.content.link filling.content.merged_lens p) + j
    → slice_get (identity_of filling.content.link p) j ≡ Some o → HasPlace filling p k o
identity_place filling p k o j place there = by_size (identity_size filling.content.link p) j place there
  where
    by_size : (size : Option ℕ) (i : ℕ) → k ≡ length (images_of filling.content.link filling.content.merged_lens p) + i
        → slice_get (option_to_list (option_map IdentityOwner size)) i ≡ Some o → HasPlace filling p k o
    by_size None i place at = absurd (cc)
    by_size (Some n) zero place at =
        let same : IdentityOwner n ≡ o = cc in
        let here : k ≡ length (images_of filling.content.link filling.content.merged_lens p) = omega (arith, place) in
        subst (HasPlace filling p k) same here
    by_size (Some n) (suc i) place at = absurd (cc)

-- ---- what files bring

taken_place : (filling : Filling) (p k j : ℕ) (t : Taker) → slice_get (takers filling) j ≡ Some t → HasPlace filling p k t.owner
taken_place filling p k j t there =
    let link : LinkInput = filling.content.link in
    let live : Live = filling.content.live in
    let of_taker : Taker → Type 0 = λ u. HasPlace filling p k u.owner in
    elim (append_at (all_file_takers filling) (sorted_takers filling) j t there) [
      | inl files ↦
          let at = flat_map_at (file_takers filling) (numbered_files link.groups) j t files in
          let sections : List Taker = map (section_taker filling) (live_of link live at.from) in
          let commons : List Taker = map common_taker (commons_of link live at.from) in
          elim (append_at sections (commons ++ thunk_takers filling at.from) at.inner t at.gives) [
            | inl section ↦ let from = map_at (section_taker filling) (live_of link live at.from) at.inner t section in subst of_taker from.2 tt
            | inr behind ↦ elim (append_at commons (thunk_takers filling at.from) behind.0 t behind.2) [
              | inl common ↦ let from = map_at common_taker (commons_of link live at.from) behind.0 t common in subst of_taker from.2 tt
              | inr thunk ↦ let is = one_block filling at.from thunk.0 t thunk.2 in subst (HasPlace filling p k) (sym is.owner) tt
            ]
          ]
      | inr sorted ↦ let from = map_at (section_taker filling) (sorted_inputs link live) sorted.0 t sorted.2 in subst of_taker from.2 tt
    ]

brought_place : (filling : Filling) (p k i : ℕ) (o : Owner) → slice_get (owners_in p (takers filling)) i ≡ Some o → HasPlace filling p k o
brought_place filling p k i o there =
    let goes : Taker → Bool = λ t. t.part == p in
    let taker = map_at (λ (t : Taker). t.owner) (filter goes (takers filling)) i o there in
    let some = filter_at goes (takers filling) i taker.0 taker.1 in
    subst (HasPlace filling p k) taker.2 (taken_place filling p k some.0 taker.0 some.1)

-- ---- all

pub place_of : (filling : Filling) (p k : ℕ) (o : Owner) → slice_get (owners_of filling p) k ≡ Some o → HasPlace filling p k o
place_of filling p k o there =
    let lens : List ℕ = filling.content.merged_lens in
    let entries : List TableEntry = table_of filling.content.link.plan.named (tables_of filling.content) p in
    elim (append_at (content_owners filling p) (map EntryOwner entries) k o there) [
      | inl content_one ↦ elim (append_at (leading_of filling.content.link lens p) (owners_in p (takers filling)) k o content_one) [
        | inl leading ↦ elim (append_at (images_of filling.content.link lens p) (identity_of filling.content.link p) k o leading) [
          | inl image ↦ image_place filling p k o image
          | inr identity ↦ identity_place filling p k o identity.0 identity.1 identity.2
        ]
        | inr brought ↦ brought_place filling p k brought.0 o brought.2
      ]
      | inr entry ↦
          let from = map_at EntryOwner entries entry.0 o entry.2 in
          subst (HasPlace filling p k) from.2 (entry.0, entry.1, from.1)
    ]

pub identity_is_owner : IdentityIsOwner
identity_is_owner filling p size has =
    let lens : List ℕ = filling.content.merged_lens in
    let images : List Owner = images_of filling.content.link lens p in
    let n : ℕ = length images in
    let one : identity_of filling.content.link p ≡ IdentityOwner size ∷ [] = ap (λ (o : Option ℕ). option_to_list (option_map IdentityOwner o)) has in
    let leads : slice_get (leading_of filling.content.link lens p) n ≡ Some (IdentityOwner size)
    = append_right images (identity_of filling.content.link p) 0 n (IdentityOwner size) (omega arith) (ap (λ (os : List Owner). slice_get os 0) one) in
    append_left (content_owners filling p) (map EntryOwner (table_of filling.content.link.plan.named (tables_of filling.content) p)) n (IdentityOwner size)
    (append_left (leading_of filling.content.link lens p) (owners_in p (takers filling)) n (IdentityOwner size) leads)

pub entries_are_owners : EntriesAreOwners
entries_are_owners filling p j e there =
    let before : List Owner = content_owners filling p in
    let entries : List TableEntry = table_of filling.content.link.plan.named (tables_of filling.content) p in
    append_right before (map EntryOwner entries) j (length before + j) (EntryOwner e) refl (map_in EntryOwner entries j e there)
