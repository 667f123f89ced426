-- Where an image starts: at the start of the first of its section's parts that has one.
use Rattle.std.proofs.Common.{◌≡◌, ℕ, ◌+◌, ◌-◌, ◌<◌, ◌≤◌, Bool, true, false, cond, ltb, not, List, [], ◌∷◌, ◌++◌, length, map, drop, Some, None, refl, sym, ap, ◌∙◌, inl, inr, arith}
use Rattle.std.specs.Prelude.{find, position, slice_range}
use Rattle.std.specs.List.{position_or_len, range_with_len, slice_get, slice_index}
use Rattle.std.specs.Option.{option_map_or}
use Rattle.std.proofs.lemmas.Bool.{cases_lt}
use Rattle.std.proofs.lemmas.Bool.Decides.{nat_tests}
use Rattle.std.proofs.lemmas.List.{get_or-drop, get_or-take, length-map}
use Rattle.std.proofs.lemmas.List.Folds.{find_at}
use Rattle.std.proofs.lemmas.List.FromFn.{get_or-range_with_len, length-range_with_len}
use Rattle.std.proofs.lemmas.List.Sums.{passes_at_first}
use Rattle.std.proofs.lemmas.Option.{get_or_from_slice_get, slice_get-get_or, slice_get_past, slice_get_within}
use Rattle.lk_link.specs.declared.plan.PlanSection.{PlanSection}
use Rattle.lk_link.specs.Parts.{all_parts, first_part, part_at}
use Rattle.lk_link.proofs.PartNumbers.{first_part-le, first_part-rises}
use Rattle.lk_sizes.specs.declared.owners.PartContents.{PartContents}
use Rattle.lk_sizes.specs.Attributes.{parts_of}
use Rattle.lk_sizes.specs.Contents.{contents_of, part_contents}
use Rattle.lk_sizes.specs.Images.{ImagesAreOwners, image_address, image_addresses, image_number, image_part, is_image_of}
use Rattle.lk_sizes.specs.Owners.{EntryOwner, Filling, ImageOwner, Owner, has_image, identity_of, owner_address, owners_in, takers}
use Rattle.lk_sizes.specs.PartOwners.{owners_of, tables_of}
use Rattle.lk_tables.specs.TableLists.{table_of}
use Rattle.lk_sizes.specs.Tables.{in_section}
use Rattle.lk_sizes.proofs.Keys.{same_number}
use Rattle.lk_sizes.proofs.Emitting.{contents_are, whole}
use Rattle.lk_sizes.proofs.ImageLemmas.{its_section, section_of}
use Rattle.lk_sizes.proofs.Made.{made_same_below}

-- ---- the first that passes

position_map : {X Y : Type 0} (p : Y → Bool) (f : X → Y) (xs : List X) → position_or_len p (map f xs) ≡ position_or_len (λ x. p (f x)) xs
position_map p f [] = refl
position_map p f (x ∷ xs) = ap (λ n. cond (not (p (f x))) (1 + n) 0) (position_map p f xs)

first_map : {X Y : Type 0} (p : Y → Bool) (f : X → Y) (xs : List X) → position p (map f xs) ≡ position (λ x. p (f x)) xs
first_map p f xs =
    ap (λ n. cond (ltb n (length (map f xs))) (Some n) None) (position_map p f xs)
    ∙ ap (λ n. cond (ltb (position_or_len (λ x. p (f x)) xs) n) (Some (position_or_len (λ x. p (f x)) xs)) None) (length-map xs f)

below_tells : (m n : ℕ) → m < n → ltb m n ≡ true
below_tells m n h = grind (arith, nat_tests)

past_tells : (m n : ℕ) → n ≤ m → ltb m n ≡ false
past_tells m n h = grind (arith, nat_tests)

position_some : {X : Type 0} (p : X → Bool) (xs : List X) → position_or_len p xs < length xs → position p xs ≡ Some (position_or_len p xs)
position_some p xs h = ap (λ b. cond b (Some (position_or_len p xs)) None) (below_tells (position_or_len p xs) (length xs) h)

position_none : {X : Type 0} (p : X → Bool) (xs : List X) → length xs ≤ position_or_len p xs → position p xs ≡ None
position_none p xs h = ap (λ b. cond b (Some (position_or_len p xs)) None) (past_tells (position_or_len p xs) (length xs) h)

-- where the first number of a range that passes stands in a list, read of that part of the list
start_found : (p : ℕ → Bool) (starts : List ℕ) (first behind : ℕ) → first ≤ behind → behind ≤ length starts
    → option_map_or (slice_index (slice_range starts first behind)) (position p (range_with_len first (behind - first))) 0
    ≡ option_map_or (slice_index starts) (find p (range_with_len first (behind - first))) 0
start_found p starts first behind h i =
    let n : ℕ = behind - first in
    let xs : List ℕ = range_with_len first n in
    let k : ℕ = position_or_len p xs in
    let count : length xs ≡ n = length-range_with_len first n in
    let part : List ℕ = slice_range starts first behind in
    elim (cases_lt k (length xs)) [
      | inl below ↦
          let at : slice_get xs k ≡ Some (first + k) = slice_get-get_or xs k 0 below ∙ ap Some (get_or-range_with_len first n k 0 (omega (arith, count))) in
          let read : slice_index part k ≡ slice_index starts (first + k) = get_or-take n (drop first starts) k 0 (omega (arith, count)) ∙ get_or-drop first starts k 0 in
          ap (λ o. option_map_or (slice_index part) o 0) (position_some p xs below)
          ∙ read
          ∙ sym (ap (λ o. option_map_or (slice_index starts) o 0) (find_at p xs ∙ at))
      | inr past ↦
          ap (λ o. option_map_or (slice_index part) o 0) (position_none p xs past)
          ∙ sym (ap (λ o. option_map_or (slice_index starts) o 0) (find_at p xs ∙ slice_get_past xs k past))
    ]

-- what is found is in the range, and passes
record IsFound (p : ℕ → Bool) (first n q : ℕ) : Type 0 where
  from : first ≤ q
  below : q < first + n
  passes : p q ≡ true

found : (p : ℕ → Bool) (first n q : ℕ) → find p (range_with_len first n) ≡ Some q → IsFound p first n q
found p first n q is =
    let xs : List ℕ = range_with_len first n in
    let k : ℕ = position_or_len p xs in
    let there : slice_get xs k ≡ Some q = sym (find_at p xs) ∙ is in
    let within = slice_get_within xs k q there in
    let count : length xs ≡ n = length-range_with_len first n in
    let at : q ≡ first + k = sym (get_or_from_slice_get xs k q 0 there) ∙ get_or-range_with_len first n k 0 (omega (arith, within, count)) in
    record {
      from = omega (arith, at);
      below = omega (arith, at, within, count);
      passes = ap p (sym (get_or_from_slice_get xs k q 0 there)) ∙ passes_at_first p xs 0 within;
    }

-- ---- the image of a section

-- it is the first owner of its part
pub record IsFirst (filling : Filling) (s p : ℕ) : Type 0 where
  pub number : image_number filling s p ≡ 0
  pub owner : slice_get (owners_of filling p) 0 ≡ Some (ImageOwner s (slice_index filling.content.merged_lens s))
  pub has : has_image filling.content.link p ≡ true
  pub from : first_part filling.content.link.plan.sections s ≤ p
  pub below : p < first_part filling.content.link.plan.sections (s + 1)

pub image_is_first : (filling : Filling) (s p : ℕ) → s < length filling.content.link.plan.sections → image_part filling.content.link s ≡ Some p → IsFirst filling s p
image_is_first filling s p below is =
    let sections : List PlanSection = filling.content.link.plan.sections in
    let rises = first_part-rises sections s in
    let at = found (has_image filling.content.link) (first_part sections s) (first_part sections (s + 1) - first_part sections s) p is in
    let within : p < first_part sections (s + 1) = omega (arith, at.below, rises) in
    let section : section_of filling.content.link p ≡ s = its_section sections s p below at.from within in
    let identity : List Owner = identity_of filling.content.link p in
    let brought : List Owner = owners_in p (takers filling) in
    let entries : List Owner = map EntryOwner (table_of filling.content.link.plan.named (tables_of filling.content) p) in
    let rest : List Owner = (identity ++ brought) ++ entries in
    let image : ℕ → List Owner = λ t. ImageOwner t (slice_index filling.content.merged_lens t) ∷ [] in
    let owners : owners_of filling p ≡ image s ++ rest =
    ap (λ b. ((cond b (image (section_of filling.content.link p)) [] ++ identity) ++ brought) ++ entries) at.passes ∙ ap (λ t. image t ++ rest) section in
    record {
      number = ap (position_or_len (is_image_of s)) owners ∙ ap (λ b. cond (not b) (1 + position_or_len (is_image_of s) rest) 0) (same_number s);
      owner = ap (λ os. slice_get os 0) owners;
      has = at.passes;
      from = at.from;
      below = within;
    }

pub images_are_owners : ImagesAreOwners
images_are_owners filling s p below is =
    let at = image_is_first filling s p below is in
    ap (slice_get (owners_of filling p)) at.number ∙ at.owner

-- so it stands at the start of its part
address_is : (filling : Filling) (starts : List ℕ) (s : ℕ) → s < length filling.content.link.plan.sections
    → image_address filling starts s ≡ option_map_or (slice_index starts) (image_part filling.content.link s) 0
address_is filling starts s below =
    let address : ℕ → ℕ = λ p. owner_address (slice_index starts p) (part_at filling.content.link.plan.sections p) (owners_of filling p) (image_number filling s p) in
    (elim (image_part filling.content.link s) as (λ o. image_part filling.content.link s ≡ o → option_map_or address o 0 ≡ option_map_or (slice_index starts) o 0) [
      | None ↦ λ is. refl
      | Some p ↦ λ is.
          let at = image_is_first filling s p below is in
          ap (λ n. owner_address (slice_index starts p) (part_at filling.content.link.plan.sections p) (owners_of filling p) n) at.number ∙ omega arith
    ]) refl

-- by tables of the contents and starts of parts: that of the parts from one number to another
abbrev pub start_among : List PartContents → List ℕ → ℕ → ℕ → ℕ
start_among contents starts first behind = option_map_or (slice_index (slice_range starts first behind)) (position (λ c. c.has_image) (slice_range contents first behind)) 0

-- that of a section
abbrev pub start_by : List PlanSection → List PartContents → List ℕ → ℕ → ℕ
start_by sections contents starts s = start_among contents starts (first_part sections s) (first_part sections (s + 1))

start_is : (filling : Filling) (starts : List ℕ) (s : ℕ) → s < length filling.content.link.plan.sections → length starts ≡ length (all_parts filling.content.link.plan.sections)
    → start_by filling.content.link.plan.sections (part_contents filling) starts s ≡ image_address filling starts s
start_is filling starts s below count =
    let sections : List PlanSection = filling.content.link.plan.sections in
    let parts : List ℕ = parts_of sections s in
    let part : List ℕ = in_section sections s starts in
    let places : position (λ c. c.has_image) (in_section sections s (part_contents filling)) ≡ position (has_image filling.content.link) parts =
    ap (position (λ (c : PartContents). c.has_image)) (contents_are filling s below) ∙ first_map (λ (c : PartContents). c.has_image) (contents_of filling) parts in
    ap (λ o. option_map_or (slice_index part) o 0) places
    ∙ start_found (has_image filling.content.link) starts (first_part sections s) (first_part sections (s + 1)) (first_part-rises sections s) (omega (arith, count, first_part-le sections (s + 1)))
    ∙ sym (address_is filling starts s below)

pub all_addresses : (filling : Filling) (starts : List ℕ) (n : ℕ) → n ≡ length filling.content.link.plan.sections → length starts ≡ length (all_parts filling.content.link.plan.sections)
    → map (start_by filling.content.link.plan.sections (part_contents filling) starts) (range_with_len 0 n) ≡ image_addresses filling starts
all_addresses filling starts n h count =
    whole (start_by filling.content.link.plan.sections (part_contents filling) starts) filling.content.link.plan.sections n h
    ∙ made_same_below (start_by filling.content.link.plan.sections (part_contents filling) starts) (image_address filling starts) filling.content.link.plan.sections 0
    (λ s below. start_is filling starts s (omega (arith, below)) count)
