-- What stands in the file is apart, and ends inside the image.
use Rattle.std.proofs.Common.{◌≡◌, ℕ, zero, suc, ◌+◌, ◌-◌, ◌<◌, ◌≤◌, Bool, true, false, List, [], ◌∷◌, Option, Some, None, length, take, refl, sym, ap, ◌∙◌, subst, inl, inr, arith, if◌then◌else◌}
use Rattle.std.specs.Prelude.{slice_index}
use Rattle.std.specs.List.{enumerate_from, flat_map, slice_get}
use Rattle.std.specs.Option.{option_map_or}
use Rattle.lk_link.specs.declared.link.LinkInput.{LinkInput}
use Rattle.lk_link.specs.Inputs.{Input, all_inputs, input_number}
use Rattle.lk_link.specs.Parts.{part_at}
use Rattle.lk_link.proofs.Elements.{append_at, flat_map_at, numbered_at}
use Rattle.lk_merge.specs.Addresses.{image_start}
use Rattle.lk_merge.specs.Hash.{fnv64}
use Rattle.lk_merge.specs.Image.{all_pieces, image}
use Rattle.lk_merge.specs.Pieces.{MergeInput}
use Rattle.lk_sizes.specs.Owners.{Filling, ImageOwner, Owner, SectionOwner, owner_address, owner_bytes, size_of}
use Rattle.lk_sizes.specs.PartOwners.{LiveSectionsAreOwners, owner_number, owners_of}
use Rattle.lk_sizes.proofs.LiveByFiles.{number_of}
use Rattle.lk_sizes.proofs.Placed.{size-le}
use Rattle.lk_soundness.specs.FileBytes.{HasFileByte, IsFileBacked, IsSoundInFile, LaidOutFileHasOneOwner, OwnersShareNoFileByte, file_place}
use Rattle.lk_layout.specs.LayoutRecord.{LayoutRecord}
use Rattle.lk_layout.specs.Laws.{LaidOutLinksAreWellFormed}
use Rattle.lk_layout.specs.Made.{Made, made_filling, made_of}
use Rattle.lk_soundness.specs.Sound.{IsSound, part_record}
use Rattle.lk_image.specs.Contents.{content}
use Rattle.lk_image.specs.Image.{merged_stretch, section_stretch, stretches}
use Rattle.lk_image.specs.Laws.{ImagesAreMade}
use Rattle.lk_image.specs.Places.{image_length, is_in_file, merged_file_part, merged_place, section_place}
use Rattle.lk_image.specs.Ready.{AllHaveRoom, IsReady}
use Rattle.lk_image.specs.References.{relocation_value}
use Rattle.lk_image.specs.Stretches.{AreApart, EndWithin, IsInStretch, Stretch}
use Rattle.lk_image.proofs.Made.{laid_out_is_made}
use Rattle.lk_image.proofs.Puts.{length-content}
use Rattle.lk_image.proofs.RoomLemmas.{unrefused_have_room, unrefused_unrelaxed}
use Rattle.lk_image.proofs.Standing.{ends_inside, image_in_file, owner_in_file, ready}

-- ---- owners

-- a byte of the file belongs to an owner
record IsOwned (made : Made) (layout : LayoutRecord) (offset : ℕ) (o : Owner) : Type 0 where
  part : ℕ
  number : ℕ
  byte : HasFileByte made layout part number offset
  owner : slice_get (owners_of (made_filling made) part) number ≡ Some o

one_owner : (made : Made) (layout : LayoutRecord) (offset : ℕ) (o q : Owner) → OwnersShareNoFileByte made layout → IsOwned made layout offset o → IsOwned made layout offset q → o ≡ q
one_owner made layout offset o q apart a b =
    let same = apart a.part b.part a.number b.number offset a.byte b.byte in
    let read : ℕ → ℕ → Option Owner = λ p n. slice_get (owners_of (made_filling made) p) n in
    let found : Some o ≡ Some q = sym a.owner ∙ ap (λ (p : ℕ). read p a.number) same.0 ∙ ap (read b.part) same.1 ∙ b.owner in
    cc

-- an owner's bytes in the file are its own
owned_by : (made : Made) (layout : LayoutRecord) (p n offset address size : ℕ) (o : Owner) → IsSoundInFile made layout → IsFileBacked made.link.plan p
    → slice_get (owners_of (made_filling made) p) n ≡ Some o
    → address ≡ owner_address (part_record layout p).mem_offset (part_at made.link.plan.sections p) (owners_of (made_filling made) p) n
    → size ≤ owner_bytes (part_at made.link.plan.sections p) o
    → file_place (part_record layout p) address ≤ offset → offset < file_place (part_record layout p) address + size → IsOwned made layout offset o
owned_by made layout p n offset address size o in_file backed owner at room begins ends =
    let behind = (in_file.inside p n o owner backed).behind in
    let start : ℕ = file_place (part_record layout p) address in
    let here : ℕ = address + (offset - start) in
    record {
      part = p;
      number = n;
      byte = record {
        in_file = backed;
        address = here;
        byte = record { owner = o; there = owner; from = omega (arith, at); below = omega (arith, at, room, begins, ends) };
        place = omega (arith, behind, at, begins);
      };
      owner = owner;
    }

-- ---- stretches of sections

-- those of all, by file and index, and those of all that is merged
abbrev section_stretches : Made → LayoutRecord → List Stretch
section_stretches made layout = flat_map (section_stretch made.link layout) (enumerate_from 0 (all_inputs made.link.groups))

abbrev merged_stretches : Made → LayoutRecord → List Stretch
merged_stretches made layout = flat_map (merged_stretch made.link layout) (enumerate_from 0 layout.merged_strings)

-- a stretch of an input section, with its number and its place among those of all, that has a byte
record IsSectionAt (made : Made) (layout : LayoutRecord) (j offset : ℕ) : Type 0 where
  number : ℕ
  input : Input
  there : slice_get (all_inputs made.link.groups) number ≡ Some input
  place : j ≡ length (flat_map (section_stretch made.link layout) (take number (enumerate_from 0 (all_inputs made.link.groups))))
  owned : IsOwned made layout offset (SectionOwner input (size_of (made_filling made) input))

single : (b : Bool) (one w : Stretch) (i : ℕ) → slice_get (if b then one ∷ [] else []) i ≡ Some w → (b ≡ true) × (i ≡ 0) × (one ≡ w)
single true one w zero h = (refl, refl, cc)
single true one w (suc i) h = absurd (cc)
single false one w i h = absurd (cc)

section_at : LiveSectionsAreOwners → (made : Made) (layout : LayoutRecord) (j offset : ℕ) (w : Stretch) → IsSound made layout → IsSoundInFile made layout → IsReady made.link layout
    → made.link.options.relax ≡ false → AllHaveRoom made.link layout → slice_get (section_stretches made layout) j ≡ Some w → IsInStretch offset w → IsSectionAt made layout j offset
unfolding section_place
section_at owners made layout j offset w sound in_file is_ready unrelaxed room at inside =
    let link : LinkInput = made.link in
    let g : ℕ × Input → List Stretch = section_stretch link layout in
    let from = flat_map_at g (enumerate_from 0 (all_inputs link.groups)) j w at in
    let numbered = numbered_at 0 (all_inputs link.groups) from.outer from.from from.there in
    let k : ℕ = from.outer in
    let x : Input = from.from.1 in
    let pair : ℕ × Input = (k, x) in
    let number : from.from.0 ≡ k = omega (arith, numbered.0) in
    let gives : slice_get (g pair) from.inner ≡ Some w = ap (λ (n : ℕ). slice_get (g (n, x)) from.inner) (sym number) ∙ from.gives in
    let one : Stretch = record { at = section_place link layout pair; bytes = content (relocation_value link layout x.file) x.section } in
    let alone = single (is_in_file link layout pair) one w from.inner gives in
    let stands = is_ready.sections k x numbered.1 in
    let long : length (content (relocation_value link layout x.file) x.section) ≡ x.section.size
    = length-content (relocation_value link layout x.file) x.section (stands.whole alone.0) (room k x numbered.1 alone.0) in
    let here : IsInStretch offset one = subst (IsInStretch offset) (sym alone.2) inside in
    let o = owner_in_file owners made layout k x sound unrelaxed numbered.1 alone.0 in
    let size = size-le (part_at link.plan.sections x.section.part) (size_of (made_filling made) x) in
    record {
      number = k;
      input = x;
      there = numbered.1;
      place = omega (arith, from.place, alone.1);
      owned = owned_by made layout x.section.part (owner_number (made_filling made) x) offset (slice_index layout.section_addresses k) x.section.size
          (SectionOwner x (size_of (made_filling made) x)) in_file o.backed o.owner o.address (omega (arith, size, o.size)) here.begins (omega (arith, here.ends, long));
    }

-- ---- stretches of merged data

record IsMergedAt (made : Made) (layout : LayoutRecord) (j offset : ℕ) : Type 0 where
  number : ℕ
  bytes : ℕ
  place : j ≡ length (flat_map (merged_stretch made.link layout) (take number (enumerate_from 0 layout.merged_strings)))
  owned : IsOwned made layout offset (ImageOwner number bytes)

single_for : (o : Option ℕ) (f : ℕ → Stretch) (w : Stretch) (i : ℕ) → slice_get (option_map_or (λ p. f p ∷ []) o []) i ≡ Some w → (p : ℕ) × (o ≡ Some p) × (i ≡ 0) × (f p ≡ w)
single_for None f w i h = absurd (cc)
single_for (Some p) f w zero h = (p, refl, refl, cc)
single_for (Some p) f w (suc i) h = absurd (cc)

merged_at : (made : Made) (layout : LayoutRecord) (j offset : ℕ) (w : Stretch) → IsSound made layout → IsSoundInFile made layout → IsReady made.link layout
    → slice_get (merged_stretches made layout) j ≡ Some w → IsInStretch offset w → IsMergedAt made layout j offset
unfolding merged_place
merged_at made layout j offset w sound in_file is_ready at inside =
    let link : LinkInput = made.link in
    let g : ℕ × List MergeInput → List Stretch = merged_stretch link layout in
    let from = flat_map_at g (enumerate_from 0 layout.merged_strings) j w at in
    let numbered = numbered_at 0 layout.merged_strings from.outer from.from from.there in
    let s : ℕ = from.outer in
    let inputs : List MergeInput = from.from.1 in
    let number : from.from.0 ≡ s = omega (arith, numbered.0) in
    let gives : slice_get (g (s, inputs)) from.inner ≡ Some w = ap (λ (n : ℕ). slice_get (g (n, inputs)) from.inner) (sym number) ∙ from.gives in
    let made_one : ℕ → Stretch = λ p. record { at = merged_place layout s p; bytes = image fnv64 (all_pieces inputs) } in
    let alone = single_for (merged_file_part link.plan s) made_one w from.inner gives in
    let p : ℕ = alone.0 in
    let here : IsInStretch offset (made_one p) = subst (IsInStretch offset) (sym alone.3) inside in
    let len : ℕ = length (image fnv64 (all_pieces inputs)) in
    let o = image_in_file made layout s p inputs is_ready.good sound numbered.1 (omega (arith, here.begins, here.ends)) alone.1 in
    record {
      number = s;
      bytes = len;
      place = omega (arith, from.place, alone.2);
      owned = owned_by made layout p 0 offset (image_start layout.merged_string_start_addresses s) len (ImageOwner s len) in_file o.backed o.owner (omega (arith, o.start))
          (size-le (part_at link.plan.sections p) len) here.begins here.ends;
    }

-- ---- apart

same_section : (made : Made) (layout : LayoutRecord) (i j offset : ℕ) → OwnersShareNoFileByte made layout → IsSectionAt made layout i offset → IsSectionAt made layout j offset → i ≡ j
same_section made layout i j offset apart a b =
    let filling : Filling = made_filling made in
    let owner : SectionOwner a.input (size_of filling a.input) ≡ SectionOwner b.input (size_of filling b.input) = one_owner made layout offset _ _ apart a.owned b.owned in
    let input : a.input ≡ b.input = cc in
    let number : a.number ≡ b.number
    = sym (number_of made.link a.number a.input a.there) ∙ ap (λ (x : Input). input_number made.link.groups x.file x.index) input ∙ number_of made.link b.number b.input b.there in
    a.place ∙ ap (λ (n : ℕ). length (flat_map (section_stretch made.link layout) (take n (enumerate_from 0 (all_inputs made.link.groups))))) number ∙ sym b.place

same_merged : (made : Made) (layout : LayoutRecord) (i j offset : ℕ) → OwnersShareNoFileByte made layout → IsMergedAt made layout i offset → IsMergedAt made layout j offset → i ≡ j
same_merged made layout i j offset apart a b =
    let owner : ImageOwner a.number a.bytes ≡ ImageOwner b.number b.bytes = one_owner made layout offset _ _ apart a.owned b.owned in
    let number : a.number ≡ b.number = cc in
    a.place ∙ ap (λ (n : ℕ). length (flat_map (merged_stretch made.link layout) (take n (enumerate_from 0 layout.merged_strings)))) number ∙ sym b.place

no_both : (made : Made) (layout : LayoutRecord) (i j offset : ℕ) → OwnersShareNoFileByte made layout → IsSectionAt made layout i offset → IsMergedAt made layout j offset → ⊥
no_both made layout i j offset apart a b =
    let owner : SectionOwner a.input (size_of (made_filling made) a.input) ≡ ImageOwner b.number b.bytes = one_owner made layout offset _ _ apart a.owned b.owned in
    absurd (cc)

all_apart : LiveSectionsAreOwners → (made : Made) (layout : LayoutRecord) → IsSound made layout → IsSoundInFile made layout → IsReady made.link layout → made.link.options.relax ≡ false
    → AllHaveRoom made.link layout → AreApart (stretches made.link layout)
all_apart owners made layout sound in_file is_ready unrelaxed room i j offset a b at_i at_j in_a in_b =
    let first : List Stretch = section_stretches made layout in
    let second : List Stretch = merged_stretches made layout in
    let section = section_at owners made layout in
    elim (append_at first second i a at_i) [
      | inl x ↦ elim (append_at first second j b at_j) [
        | inl y ↦ same_section made layout i j offset in_file.owners (section i offset a sound in_file is_ready unrelaxed room x in_a) (section j offset b sound in_file is_ready unrelaxed room y in_b)
        | inr y ↦ absurd (no_both made layout i y.0 offset in_file.owners (section i offset a sound in_file is_ready unrelaxed room x in_a) (merged_at made layout y.0 offset b sound in_file is_ready y.2 in_b))
      ]
      | inr x ↦ elim (append_at first second j b at_j) [
        | inl y ↦ absurd (no_both made layout j x.0 offset in_file.owners (section j offset b sound in_file is_ready unrelaxed room y in_b) (merged_at made layout x.0 offset a sound in_file is_ready x.2 in_a))
        | inr y ↦
            let same = same_merged made layout x.0 y.0 offset in_file.owners (merged_at made layout x.0 offset a sound in_file is_ready x.2 in_a) (merged_at made layout y.0 offset b sound in_file is_ready y.2 in_b) in
            omega (arith, x.1, y.1, same)
      ]
    ]

-- ---- inside the image

-- a byte of the file that an owner has lies inside the image
owned_inside : (made : Made) (layout : LayoutRecord) (offset : ℕ) (o : Owner) → IsSoundInFile made layout → IsOwned made layout offset o → offset < image_length layout
owned_inside made layout offset o in_file a =
    let p : ℕ = a.part in
    let byte = a.byte.byte in
    let stands = in_file.inside p a.number byte.owner byte.there a.byte.in_file in
    let whole = ends_inside layout a.byte.in_file.section p _ _ (owner_bytes (part_at made.link.plan.sections p) byte.owner) stands (omega arith) in
    omega (arith, whole, byte.from, byte.below, a.byte.place, stands.behind)

all_within : LiveSectionsAreOwners → (made : Made) (layout : LayoutRecord) → IsSound made layout → IsSoundInFile made layout → IsReady made.link layout → made.link.options.relax ≡ false
    → AllHaveRoom made.link layout → EndWithin (image_length layout) (stretches made.link layout)
all_within owners made layout sound in_file is_ready unrelaxed room k offset w at inside =
    elim (append_at (section_stretches made layout) (merged_stretches made layout) k w at) [
      | inl x ↦
          let a = section_at owners made layout k offset w sound in_file is_ready unrelaxed room x inside in
          owned_inside made layout offset (SectionOwner a.input (size_of (made_filling made) a.input)) in_file a.owned
      | inr x ↦
          let a = merged_at made layout x.0 offset w sound in_file is_ready x.2 inside in
          owned_inside made layout offset (ImageOwner a.number a.bytes) in_file a.owned
    ]

pub images_are_made : LaidOutLinksAreWellFormed → LaidOutFileHasOneOwner → LiveSectionsAreOwners → ImagesAreMade
images_are_made formed one owners link layout laid unrefused =
    let unrelaxed = unrefused_unrelaxed link layout unrefused in
    let room = unrefused_have_room link layout unrefused in
    let is_ready = ready formed one owners link layout laid unrelaxed in
    let found = one laid.machine link layout laid.lawful laid.defined in
    let made : Made = made_of laid.machine link found.0 found.1 in
    let sound : IsSound made layout = found.2.0 in
    let in_file : IsSoundInFile made layout = found.2.1 in
    let apart : AreApart (stretches link layout) = all_apart owners made layout sound in_file is_ready unrelaxed room in
    let within : EndWithin (image_length layout) (stretches link layout) = all_within owners made layout sound in_file is_ready unrelaxed room in
    (apart, laid_out_is_made (image_length layout) (stretches link layout) within apart)
