-- Where live sections and commons stand among the owners of their parts.
use Rattle.std.proofs.Common.{◌≡◌, ℕ, ◌+◌, true, false, not, List, [], ◌∷◌, ◌++◌, length, map, take, Option, Some, refl, ap, ◌∙◌, arith, sym, append_assoc}
use Rattle.std.specs.List.{filter_map, position_or_len, slice_get, slice_index}
use Rattle.std.proofs.lemmas.List.Sums.{sum_by-append}
use Rattle.std.proofs.Math.Seq.{take-append_seam}
use Rattle.lk_link.specs.declared.link.LinkInput.{LinkInput}
use Rattle.lk_link.specs.declared.plan.PlanPart.{PlanPart}
use Rattle.lk_link.specs.Inputs.{Input, NumberedFile, numbered_files}
use Rattle.lk_link.specs.Parts.{part_at}
use Rattle.lk_link.proofs.Elements.{append_left, append_right, at_contained, filter_in, flat_map_at, flat_map_in, map_in}
use Rattle.lk_live.specs.declared.live.Live.{Live}
use Rattle.lk_live.specs.Reach.{live_inputs}
use Rattle.lk_reach.proofs.LiveWalk.{split_at}
use Rattle.lk_sizes.specs.Owners.{Content, EntryOwner, Filling, Owner, Taker, all_file_takers, bytes_of, common_taker, commons_of, file_takers, leading_of, live_of, owner_address, owner_bytes, owners_in, section_taker, sorted_takers, takers, thunk_takers}
use Rattle.lk_sizes.specs.Sorted.{sorted_inputs}
use Rattle.lk_sizes.specs.PartOwners.{LiveSectionsAreOwners, has_key, live_address, owners_of, section_key, tables_of}
use Rattle.lk_tables.specs.TableLists.{table_of}
use Rattle.lk_sizes.specs.Tables.{behind_leading, bytes_in}
pub use Rattle.lk_sizes.proofs.Keys.{same_number}
use Rattle.lk_ranks.proofs.Rising.{NoneTwice}
use Rattle.lk_sizes.proofs.Keys.{found_there}
pub use Rattle.lk_sizes.proofs.LiveByFiles.{number_of}
use Rattle.lk_sizes.proofs.LiveByFiles.{unsorted_by_files}
use Rattle.lk_sizes.proofs.OwnerKeys.{number_in, sections_once}
use Rattle.lk_sizes.proofs.SortedOnes.{sorted_in}
use Rattle.lk_sizes.proofs.Takers.{owners_in-append, owners_in_here}

-- the owners of a part in front: what leads, and what takers bring
abbrev pub front_of : Content → List Taker → ℕ → List Owner
front_of content front p = leading_of content.link content.merged_lens p ++ owners_in p front

-- those of its content around one
around : (leading front : List Owner) (o : Owner) (after entries : List Owner)
    → (leading ++ (front ++ o ∷ after)) ++ entries ≡ (leading ++ front) ++ o ∷ (after ++ entries)
around leading front o after entries =
    append_assoc leading (front ++ o ∷ after) entries
    ∙ ap (λ (os : List Owner). leading ++ os) (append_assoc front (o ∷ after) entries)
    ∙ sym (append_assoc leading front (o ∷ (after ++ entries)))

owner_there : (before : List Owner) (o : Owner) (after : List Owner) → slice_get (before ++ o ∷ after) (length before) ≡ Some o
owner_there [] o after = refl
owner_there (b ∷ before) o after = owner_there before o after

-- it stands behind them, and is found there by its key
pub record StandsBehind (key : Owner → Option ℕ) (n : ℕ) (filling : Filling) (front : List Taker) (t : Taker) : Type 0 where
  pub rest : List Owner
  pub owners : owners_of filling t.part ≡ front_of filling.content front t.part ++ t.owner ∷ rest
  pub number : position_or_len (has_key key n) (owners_of filling t.part) ≡ length (front_of filling.content front t.part)

pub stands_behind : (key : Owner → Option ℕ) (n : ℕ) (filling : Filling) (front : List Taker) (t : Taker) (rest : List Taker)
    → takers filling ≡ front ++ t ∷ rest → key t.owner ≡ Some n → NoneTwice (filter_map key (owners_of filling t.part))
    → StandsBehind key n filling front t
stands_behind key n filling front t rest all is once =
    let p : ℕ = t.part in
    let leading : List Owner = leading_of filling.content.link filling.content.merged_lens p in
    let entries : List Owner = map EntryOwner (table_of filling.content.link.plan.named (tables_of filling.content) p) in
    let after : List Owner = owners_in p rest in
    let before : List Owner = front_of filling.content front p in
    let split : owners_in p (takers filling) ≡ owners_in p front ++ t.owner ∷ after
    = ap (owners_in p) all ∙ owners_in-append p front (t ∷ rest) ∙ ap (λ (os : List Owner). owners_in p front ++ os) (owners_in_here p t rest refl) in
    let owners : owners_of filling p ≡ before ++ t.owner ∷ (after ++ entries)
    = ap (λ (os : List Owner). (leading ++ os) ++ entries) split ∙ around leading (owners_in p front) t.owner after entries in
    let there : slice_get (owners_of filling p) (length before) ≡ Some t.owner
    = ap (λ (os : List Owner). slice_get os (length before)) owners ∙ owner_there before t.owner (after ++ entries) in
    record { rest = after ++ entries; owners = owners; number = found_there key n (owners_of filling p) (length before) t.owner there is once }

-- its address: where what leads ends, and the bytes of those in front that go to its part
pub address_behind : (key : Owner → Option ℕ) (n : ℕ) (filling : Filling) (starts : List ℕ) (front : List Taker) (t : Taker) → StandsBehind key n filling front t
    → owner_address (slice_index starts t.part) (part_at filling.content.link.plan.sections t.part) (owners_of filling t.part) (position_or_len (has_key key n) (owners_of filling t.part))
    ≡ behind_leading filling.content.link filling.content.merged_lens starts t.part + bytes_in filling.content.link t.part front
address_behind key n filling starts front t at =
    let p : ℕ = t.part in
    let part : PlanPart = part_at filling.content.link.plan.sections p in
    let leading : List Owner = leading_of filling.content.link filling.content.merged_lens p in
    let before : List Owner = front_of filling.content front p in
    let taken : take (position_or_len (has_key key n) (owners_of filling p)) (owners_of filling p) ≡ before =
    ap (λ (k : ℕ). take k (owners_of filling p)) at.number ∙ ap (take (length before)) at.owners ∙ take-append_seam before (t.owner ∷ at.rest) in
    omega (arith, ap (bytes_of part) taken, sum_by-append (owner_bytes part) leading (owners_in p front))

-- there it is
pub stands_there : (key : Owner → Option ℕ) (n : ℕ) (filling : Filling) (front : List Taker) (t : Taker) → StandsBehind key n filling front t
    → slice_get (owners_of filling t.part) (position_or_len (has_key key n) (owners_of filling t.part)) ≡ Some t.owner
stands_there key n filling front t at =
    let before : List Owner = front_of filling.content front t.part in
    ap (λ (os : List Owner). slice_get os (position_or_len (has_key key n) (owners_of filling t.part))) at.owners
    ∙ ap (slice_get (before ++ t.owner ∷ at.rest)) at.number
    ∙ owner_there before t.owner at.rest

-- ---- a live section among the owners of its part

pub section_stands : (filling : Filling) (front : List Taker) (x : Input) (rest : List Taker) → takers filling ≡ front ++ section_taker filling x ∷ rest
    → StandsBehind (section_key filling.content.link) (number_in filling.content.link x) filling front (section_taker filling x)
section_stands filling front x rest all =
    stands_behind (section_key filling.content.link) (number_in filling.content.link x) filling front (section_taker filling x) rest all refl (sections_once filling x.section.part)

-- a live section's address
pub section_behind : (filling : Filling) (starts : List ℕ) (front : List Taker) (x : Input) (rest : List Taker) → takers filling ≡ front ++ section_taker filling x ∷ rest
    → live_address filling starts x ≡ behind_leading filling.content.link filling.content.merged_lens starts x.section.part + bytes_in filling.content.link x.section.part front
section_behind filling starts front x rest all =
    address_behind (section_key filling.content.link) (number_in filling.content.link x) filling starts front (section_taker filling x) (section_stands filling front x rest all)

-- ---- each live section stands among the takers

-- where a taker with this section stands
pub record IsAmong (ts : List Taker) (t : Taker) : Type 0 where
  pub front : List Taker
  pub rest : List Taker
  pub splits : ts ≡ front ++ t ∷ rest

pub among : (ts : List Taker) (k : ℕ) (t : Taker) → slice_get ts k ≡ Some t → IsAmong ts t
among ts k t there = let split = split_at ts k t there in record { front = take k ts; rest = split.0; splits = split.1 }

-- where a live section that isn't sorted stands in its file
record IsLiveOf (link : LinkInput) (live : Live) (x : Input) : Type 0 where
  place : ℕ
  file : NumberedFile
  there : slice_get (numbered_files link.groups) place ≡ Some file
  index : ℕ
  lives : slice_get (live_of link live file) index ≡ Some x

live_in_file : (link : LinkInput) (live : Live) (k : ℕ) (x : Input) → slice_get (live_inputs link live) k ≡ Some x → x.section.sorted ≡ false → IsLiveOf link live x
live_in_file link live k x there unsorted =
    let one = filter_in (λ (y : Input). not y.section.sorted) (live_inputs link live) k x there (ap not unsorted) in
    let at = flat_map_at (live_of link live) (numbered_files link.groups) one.0 x (ap (λ (xs : List Input). slice_get xs one.0) (unsorted_by_files link live) ∙ one.1) in
    record { place = at.outer; file = at.from; there = at.there; index = at.inner; lives = at.gives }

unsorted_among : (filling : Filling) (k : ℕ) (x : Input) → slice_get (live_inputs filling.content.link filling.content.live) k ≡ Some x → x.section.sorted ≡ false
    → IsAmong (takers filling) (section_taker filling x)
unsorted_among filling k x there unsorted =
    let link : LinkInput = filling.content.link in
    let live : Live = filling.content.live in
    let at = live_in_file link live k x there unsorted in
    let t : Taker = section_taker filling x in
    let mapped = map_in (section_taker filling) (live_of link live at.file) at.index x at.lives in
    let in_file = append_left (map (section_taker filling) (live_of link live at.file)) (map common_taker (commons_of link live at.file) ++ thunk_takers filling at.file) at.index t mapped in
    let files = flat_map_in (file_takers filling) (numbered_files link.groups) at.place at.index at.file t at.there in_file in
    among (takers filling) files.0 t (append_left (all_file_takers filling) (sorted_takers filling) files.0 t files.1)

sorted_among : (filling : Filling) (k : ℕ) (x : Input) → slice_get (live_inputs filling.content.link filling.content.live) k ≡ Some x → x.section.sorted ≡ true
    → IsAmong (takers filling) (section_taker filling x)
sorted_among filling k x there sorted =
    let at = sorted_in filling.content.link filling.content.live k x there sorted in
    let files : List Taker = all_file_takers filling in
    let t : Taker = section_taker filling x in
    let mapped = map_in (section_taker filling) (sorted_inputs filling.content.link filling.content.live) at.0 x at.1 in
    among (takers filling) (length files + at.0) t (append_right files (sorted_takers filling) at.0 (length files + at.0) t refl mapped)

pub live_among : (filling : Filling) (k : ℕ) (x : Input) → slice_get (live_inputs filling.content.link filling.content.live) k ≡ Some x → IsAmong (takers filling) (section_taker filling x)
live_among filling k x there =
    (elim x.section.sorted as (λ b. x.section.sorted ≡ b → IsAmong (takers filling) (section_taker filling x)) [
      | true ↦ λ is. sorted_among filling k x there is
      | false ↦ λ is. unsorted_among filling k x there is
    ]) refl

pub live_sections_are_owners : LiveSectionsAreOwners
live_sections_are_owners filling x h =
    let at = at_contained (live_inputs filling.content.link filling.content.live) x h in
    let split = live_among filling at.0 x at.1 in
    stands_there (section_key filling.content.link) (number_in filling.content.link x) filling split.front (section_taker filling x) (section_stands filling split.front x split.rest split.splits)
