-- Live sections, commons and blocks of thunks get their addresses, file by file.
use Rattle.std.proofs.Common.{◌≡◌, ℕ, suc, ◌+◌, ◌<◌, ◌≤◌, ◌^◌, cond, Bool, true, false, not, ◌&&◌, if◌then◌else◌, List, [], ◌∷◌, ◌++◌, length, map, filter, take, Option, None, Some, Bor, refl, sym, ap, ◌∙◌, subst, arith, append_assoc, get_or, length-append, set}
use Rattle.std.specs.Int.{next_multiple_of}
use Rattle.std.specs.List.{enumerate_from, flat_map, range_with_len, slice_get, slice_index}
use Rattle.std.specs.Prelude.{option_map}
use Rattle.std.specs.Option.{option_map_or, option_to_list}
use Rattle.std.proofs.lemmas.Grind.{flat_map-append}
use Rattle.std.proofs.lemmas.List.{append-nil, length-map, map-append, map_push, take_more}
use Rattle.std.proofs.lemmas.List.Elements.{filter-append}
use Rattle.std.proofs.lemmas.List.FromFn.{get_or-map-range_with_len, length-enumerate_from, length-map-range_with_len}
use Rattle.std.proofs.lemmas.List.Sums.{sum_by-append}
use Rattle.std.proofs.lemmas.Option.{get_or_from_slice_get, slice_get-get_or, slice_get_within}
use Rattle.lk_link.specs.declared.ids.FileId.{FileId}
use Rattle.lk_link.specs.declared.link.LinkInput.{LinkInput}
use Rattle.lk_link.specs.declared.plan.PlanPart.{PlanPart}
use Rattle.lk_link.specs.declared.section.InputSection.{InputSection}
use Rattle.lk_link.specs.Files.{file_in}
use Rattle.lk_link.specs.Inputs.{Input, NumberedFile, all_inputs, first_input, input_number, inputs_from, inputs_of, numbered_files, numbered_section}
use Rattle.lk_link.specs.Marks.{is_marked}
use Rattle.lk_link.specs.Parts.{all_parts, part_at}
use Rattle.lk_link.specs.Sizes.{capacity}
use Rattle.lk_link.specs.WellFormed.{IsWellFormed}
use Rattle.lk_link.proofs.Elements.{append_left, append_right, at_index, map_in}
use Rattle.lk_link.proofs.InputLemmas.{inputs_follow, numbered_get}
use Rattle.lk_live.specs.declared.live.Live.{Live}
use Rattle.lk_live.specs.Reach.{AreLive, live_inputs}
use Rattle.lk_reach.proofs.LiveWalk.{split_at}
use Rattle.lk_reach.proofs.SymbolNumbers.{inputs_few}
use Rattle.lk_sizes.specs.declared.addresses.CommonAddress.{CommonAddress}
use Rattle.lk_tables.specs.declared.commons.Common.{Common}
use Rattle.lk_sizes.specs.Addresses.{primary_address, told_common}
use Rattle.lk_sizes.specs.Owners.{Content, EntryOwner, Filling, IsCommonIn, Taker, common_taker, commons_of, content_owners, file_takers, leading_of, live_of, own_sizes, owner_bytes, owners_in, section_taker, size_in, size_of, sorted_takers, stands_in_file, takers, thunk_bytes, thunk_taker, thunk_takers}
use Rattle.lk_sizes.specs.PartOwners.{EndsFit, block_address, common_address, live_address, tables_of}
use Rattle.lk_tables.specs.TableLists.{table_of}
use Rattle.lk_sizes.specs.Tables.{ArePassed, HaveSpace, behind_leading, block_places, blocks_of, bytes_in, common_place, common_places, live_below, next_behind, own_block, section_place, section_places, taker_by, IsInput}
use Rattle.lk_sizes.proofs.Addressing.{live_among, number_of, section_behind}
use Rattle.lk_sizes.proofs.BlockOnes.{block_behind, primary_goes}
use Rattle.lk_sizes.proofs.CommonOnes.{common_among, common_behind, common_goes}
use Rattle.lk_sizes.proofs.LiveOnes.{live_goes_at}
use Rattle.lk_sizes.proofs.OwnSizes.{live_own_size, own_size_at}
use Rattle.std.proofs.Math.Seq.{take-append_seam}
use Rattle.lk_sizes.proofs.Takers.{bytes_in-append, bytes_in_here, one_passed, passed_both, room_for}
use Rattle.lk_sizes.proofs.ThunkTakers.{block_there}

-- ---- the sections of a file, one after the other

and_left : (a b : Bool) → (a && b) ≡ true → a ≡ true
and_left true b h = refl
and_left false b h = absurd (cc)

abbrev pub sections_of_file : NumberedFile → List Input
sections_of_file f = inputs_from f.id 0 f.file.sections

pub input_there : (f : NumberedFile) (k : ℕ) (section : InputSection) → slice_get f.file.sections k ≡ Some section
    → slice_get (sections_of_file f) k ≡ Some (record { file = f.id; index = k; section = section })
input_there f k section there =
    let number : 0 + k ≡ k = omega arith in
    map_in (numbered_section f.id) (enumerate_from 0 f.file.sections) k (0 + k, section) (numbered_get 0 f.file.sections k section there)
    ∙ ap (λ (n : ℕ). let x : Input = record { file = f.id; index = n; section = section } in Some x) number

taken_more : {X : Type 0} (xs : List X) (k : ℕ) (x : X) → slice_get xs k ≡ Some x → take (k + 1) xs ≡ take k xs ++ x ∷ []
taken_more xs k x there =
    take_more xs k x (slice_get_within xs k x there) ∙ ap (λ y. take k xs ++ y ∷ []) (get_or_from_slice_get xs k x x there)

-- the live ones among them, with one more
below_live : (link : LinkInput) (live : Live) (f : NumberedFile) (k : ℕ) (x : Input) → slice_get (sections_of_file f) k ≡ Some x → stands_in_file link live x ≡ true
    → live_below link live f (k + 1) ≡ live_below link live f k ++ x ∷ []
below_live link live f k x there set =
    let xs : List Input = sections_of_file f in
    ap (filter (stands_in_file link live)) (taken_more xs k x there)
    ∙ filter-append (stands_in_file link live) (take k xs) (x ∷ [])
    ∙ ap (λ b. live_below link live f k ++ (if b then x ∷ [] else [])) set

below_other : (link : LinkInput) (live : Live) (f : NumberedFile) (k : ℕ) (x : Input) → slice_get (sections_of_file f) k ≡ Some x → stands_in_file link live x ≡ false
    → live_below link live f (k + 1) ≡ live_below link live f k
below_other link live f k x there set =
    let xs : List Input = sections_of_file f in
    ap (filter (stands_in_file link live)) (taken_more xs k x there)
    ∙ filter-append (stands_in_file link live) (take k xs) (x ∷ [])
    ∙ ap (λ b. live_below link live f k ++ (if b then x ∷ [] else [])) set
    ∙ append-nil (live_below link live f k)

-- all of them, around one
pub live_split : (link : LinkInput) (live : Live) (f : NumberedFile) (k : ℕ) (x : Input) → slice_get (sections_of_file f) k ≡ Some x → stands_in_file link live x ≡ true
    → (rest : List Input) × (live_of link live f ≡ live_below link live f k ++ x ∷ rest)
live_split link live f k x there set =
    let xs : List Input = sections_of_file f in
    let split = split_at xs k x there in (
      filter (stands_in_file link live) split.0,
      ap (filter (stands_in_file link live)) split.1
          ∙ filter-append (stands_in_file link live) (take k xs) (x ∷ split.0)
          ∙ ap (λ b. live_below link live f k ++ (if b then x ∷ filter (stands_in_file link live) split.0 else filter (stands_in_file link live) split.0)) set,
    )

-- the next addresses are behind the first sections of a file, which have theirs
pub record AreReached (size : Input → ℕ) (link : LinkInput) (live : Live) (f : NumberedFile) (old : List ℕ) (k : ℕ) (next : List ℕ) (front addresses : List ℕ) : Type 0 where
  pub passed : ArePassed link old (map (taker_by size) (live_below link live f k)) next
  pub told : addresses ≡ front ++ map (section_place size link live old f) (take k (enumerate_from 0 (sections_of_file f)))

pub none_reached : (size : Input → ℕ) (link : LinkInput) (live : Live) (f : NumberedFile) (old front : List ℕ) → AreReached size link live f old 0 old front front
none_reached size link live f old front = record { passed = record { count = refl; moved = λ p h. omega arith }; told = sym (append-nil front) }

told_more : (size : Input → ℕ) (link : LinkInput) (live : Live) (f : NumberedFile) (old front addresses : List ℕ) (k : ℕ) (x : Input) (address : ℕ) → slice_get (sections_of_file f) k ≡ Some x
    → addresses ≡ front ++ map (section_place size link live old f) (take k (enumerate_from 0 (sections_of_file f))) → address ≡ section_place size link live old f (k, x)
    → addresses ++ address ∷ [] ≡ front ++ map (section_place size link live old f) (take (k + 1) (enumerate_from 0 (sections_of_file f)))
told_more size link live f old front addresses k x address there before is =
    let g : ℕ × Input → ℕ = section_place size link live old f in
    let all : List (ℕ × Input) = enumerate_from 0 (sections_of_file f) in
    let number : 0 + k ≡ k = omega arith in
    let numbered : slice_get all k ≡ Some (k, x) = numbered_get 0 (sections_of_file f) k x there ∙ ap (λ (n : ℕ). Some (n, x)) number in
    ap (λ (ns : List ℕ). ns ++ address ∷ []) before
    ∙ append_assoc front (map g (take k all)) (address ∷ [])
    ∙ ap (λ (n : ℕ). front ++ (map g (take k all) ++ n ∷ [])) is
    ∙ ap (λ (ns : List ℕ). front ++ ns) (sym (map_push g (take k all) (k, x)))
    ∙ ap (λ (qs : List (ℕ × Input)). front ++ map g qs) (sym (taken_more all k (k, x) numbered))

-- a live one gets the next address of its part
pub live_reached : (size : Input → ℕ) (link : LinkInput) (live : Live) (f : NumberedFile) (old : List ℕ) (k : ℕ) (next front addresses : List ℕ) (x : Input) (at moved : ℕ) → slice_get (sections_of_file f) k ≡ Some x
    → stands_in_file link live x ≡ true → AreReached size link live f old k next front addresses → at ≡ x.section.part → at < length old
    → moved ≡ slice_index next at + capacity (part_at link.plan.sections at) (size x)
    → AreReached size link live f old (k + 1) (set next at moved) front (addresses ++ slice_index next at ∷ [])
live_reached size link live f old k next front addresses x at moved there lit h here within is =
    let before : List Taker = map (taker_by size) (live_below link live f k) in
    let more : map (taker_by size) (live_below link live f (k + 1)) ≡ before ++ taker_by size x ∷ []
    = ap (map (taker_by size)) (below_live link live f k x there lit) ∙ map-append (taker_by size) (live_below link live f k) (x ∷ []) in
    let place : slice_index next at ≡ section_place size link live old f (k, x)
    = h.passed.moved at within
    ∙ ap (next_behind link old before) here
    ∙ ap (λ b. if b then next_behind link old before x.section.part else 0) (sym lit) in
    record {
      passed = subst (λ (ts : List Taker). ArePassed link old ts (set next at moved)) (sym more) (one_passed link old before (taker_by size x) next at moved h.passed here within is);
      told = told_more size link live f old front addresses k x (slice_index next at) there h.told place;
    }

-- any other gets 0
pub other_reached : (size : Input → ℕ) (link : LinkInput) (live : Live) (f : NumberedFile) (old : List ℕ) (k : ℕ) (next front addresses : List ℕ) (x : Input) → slice_get (sections_of_file f) k ≡ Some x
    → stands_in_file link live x ≡ false → AreReached size link live f old k next front addresses → AreReached size link live f old (k + 1) next front (addresses ++ 0 ∷ [])
other_reached size link live f old k next front addresses x there set h =
    let before : List Taker = map (taker_by size) (live_below link live f k) in
    record {
      passed = subst (λ (xs : List Input). ArePassed link old (map (taker_by size) xs) next) (sym (below_other link live f k x there set)) h.passed;
      told = told_more size link live f old front addresses k x 0 there h.told (ap (λ b. if b then next_behind link old before x.section.part else 0) (sym set));
    }

-- there is room for a live one
pub live_room : (size : Input → ℕ) (link : LinkInput) (live : Live) (f : NumberedFile) (old : List ℕ) (k : ℕ) (next : List ℕ) (x : Input) (at : ℕ) → slice_get (sections_of_file f) k ≡ Some x
    → stands_in_file link live x ≡ true → HaveSpace link old (map (taker_by size) (live_of link live f)) → ArePassed link old (map (taker_by size) (live_below link live f k)) next → at ≡ x.section.part → at < length old
    → slice_index next at + capacity (part_at link.plan.sections at) (size x) < 2 ^ 64
live_room size link live f old k next x at there set space h here within =
    let split = live_split link live f k x there set in
    let before : List Taker = map (taker_by size) (live_below link live f k) in
    let all : map (taker_by size) (live_of link live f) ≡ before ++ taker_by size x ∷ map (taker_by size) split.0
    = ap (map (taker_by size)) split.1 ∙ map-append (taker_by size) (live_below link live f k) (x ∷ split.0) in
    room_for link old before (taker_by size x) (map (taker_by size) split.0) next at (subst (HaveSpace link old) all space) h here within

-- at the end all have their addresses
pub all_reached : (size : Input → ℕ) (link : LinkInput) (live : Live) (f : NumberedFile) (old : List ℕ) (k : ℕ) (next front addresses : List ℕ) → k ≡ length f.file.sections → AreReached size link live f old k next front addresses
    → ArePassed link old (map (taker_by size) (live_of link live f)) next × (addresses ≡ front ++ section_places size link live old f)
all_reached size link live f old k next front addresses all h =
    let xs : List Input = sections_of_file f in
    let count : length xs ≡ k = length-map (enumerate_from 0 f.file.sections) (numbered_section f.id) ∙ length-enumerate_from 0 f.file.sections ∙ sym all in
    let whole : take k xs ≡ xs = ap (λ (n : ℕ). take n xs) (sym count) ∙ take_whole xs in
    let numbers : take k (enumerate_from 0 xs) ≡ enumerate_from 0 xs = ap (λ (n : ℕ). take n (enumerate_from 0 xs)) (sym (length-enumerate_from 0 xs ∙ count)) ∙ take_whole (enumerate_from 0 xs) in (
      subst (λ (ys : List Input). ArePassed link old (map (taker_by size) (filter (stands_in_file link live) ys)) next) whole h.passed,
      h.told ∙ ap (λ (qs : List (ℕ × Input)). front ++ map (section_place size link live old f) qs) numbers,
    )
  where
    take_whole : {X : Type 0} (ys : List X) → take (length ys) ys ≡ ys
    take_whole [] = refl
    take_whole (y ∷ ys) = ap (λ (zs : List _). y ∷ zs) (take_whole ys)

-- ---- the commons of a file, one after the other

abbrev pub AreTold : LinkInput → List ℕ → List Common → List Common → List CommonAddress → List CommonAddress → Type 0
AreTold link old all done front told = told ≡ front ++ map (common_place link old all) (take (length done) (enumerate_from 0 all))

pub none_told : (link : LinkInput) (old : List ℕ) (all : List Common) (front : List CommonAddress) → AreTold link old all [] front front
none_told link old all front = sym (append-nil front)

pub one_told : (link : LinkInput) (old : List ℕ) (all done : List Common) (c : Common) (rest : List Common) (front told : List CommonAddress) (next : List ℕ) (at : ℕ) (one : CommonAddress)
    → all ≡ done ++ c ∷ rest → ArePassed link old (map common_taker done) next → at ≡ c.part → at < length old
    → one ≡ record { symbol = c.symbol; address = slice_index next at } → AreTold link old all done front told → AreTold link old all (done ++ c ∷ []) front (told ++ one ∷ [])
one_told link old all done c rest front told next at one splits h here within is before =
    let k : ℕ = length done in
    let g : ℕ × Common → CommonAddress = common_place link old all in
    let numbers : List (ℕ × Common) = enumerate_from 0 all in
    let there : slice_get all k ≡ Some c = ap (λ (cs : List Common). slice_get cs k) splits ∙ seam done in
    let number : 0 + k ≡ k = omega arith in
    let numbered : slice_get numbers k ≡ Some (k, c) = numbered_get 0 all k c there ∙ ap (λ (n : ℕ). Some (n, c)) number in
    let front_is : take k all ≡ done = ap (take k) splits ∙ take-append_seam done (c ∷ rest) in
    let count : length (done ++ c ∷ []) ≡ k + 1 = omega (arith, length-append done (c ∷ [])) in
    let tell : ℕ → CommonAddress = λ a. record { symbol = c.symbol; address = a } in
    let place : one ≡ g (k, c)
    = is ∙ ap tell (h.moved at within ∙ ap (next_behind link old (map common_taker done)) here ∙ ap (λ (cs : List Common). next_behind link old (map common_taker cs) c.part) (sym front_is)) in
    ap (λ (cs : List CommonAddress). cs ++ one ∷ []) before
    ∙ append_assoc front (map g (take k numbers)) (one ∷ [])
    ∙ ap (λ (o : CommonAddress). front ++ (map g (take k numbers) ++ o ∷ [])) place
    ∙ ap (λ (cs : List CommonAddress). front ++ cs) (sym (map_push g (take k numbers) (k, c)))
    ∙ ap (λ (qs : List (ℕ × Common)). front ++ map g qs) (sym (taken_more numbers k (k, c) numbered))
    ∙ ap (λ (n : ℕ). front ++ map g (take n numbers)) (sym count)
  where
    seam : (xs : List Common) → slice_get (xs ++ c ∷ rest) (length xs) ≡ Some c
    seam [] = refl
    seam (x ∷ xs) = seam xs

pub all_told : (link : LinkInput) (old : List ℕ) (all done : List Common) (front told : List CommonAddress) → done ≡ all → AreTold link old all done front told
    → told ≡ front ++ common_places link old all
all_told link old all done front told is h =
    h
    ∙ ap (λ (cs : List Common). front ++ map (common_place link old all) (take (length cs) (enumerate_from 0 all))) is
    ∙ ap (λ (n : ℕ). front ++ map (common_place link old all) (take n (enumerate_from 0 all))) (sym (length-enumerate_from 0 all))
    ∙ ap (λ (qs : List (ℕ × Common)). front ++ map (common_place link old all) qs) (take_whole (enumerate_from 0 all))
  where
    take_whole : {X : Type 0} (ys : List X) → take (length ys) ys ≡ ys
    take_whole [] = refl
    take_whole (y ∷ ys) = ap (λ (zs : List _). y ∷ zs) (take_whole ys)

-- ---- file by file

-- what is made of numbered elements alike
made_alike : {X Y : Type 0} (g h : ℕ × X → Y) (m n : ℕ) (xs : List X) → ((k : ℕ) (x : X) → slice_get xs k ≡ Some x → g (m + k, x) ≡ h (n + k, x))
    → map g (enumerate_from m xs) ≡ map h (enumerate_from n xs)
made_alike g h m n [] same = refl
made_alike {X} {Y} g h m n (x ∷ xs) same =
    let a : m + 0 ≡ m = omega arith in
    let b : n + 0 ≡ n = omega arith in
    let here : g (m, x) ≡ h (n, x) = ap (λ (i : ℕ). g (i, x)) (sym a) ∙ same 0 x refl ∙ ap (λ (i : ℕ). h (i, x)) b in
    ap (λ (y : Y). y ∷ map g (enumerate_from (m + 1) xs)) here
    ∙ ap (λ (ys : List Y). h (n, x) ∷ ys) (made_alike g h (m + 1) (n + 1) xs (λ k y there.
    let c : m + 1 + k ≡ m + suc k = omega arith in
    let d : n + 1 + k ≡ n + suc k = omega arith in
    ap (λ (i : ℕ). g (i, y)) c ∙ same (suc k) y there ∙ ap (λ (i : ℕ). h (i, y)) (sym d)))

-- where what leads in parts ends
abbrev pub AreEnds : LinkInput → List ℕ → List ℕ → List ℕ → Type 0
AreEnds link merged_lens starts ends = ends ≡ map (behind_leading link merged_lens starts) (range_with_len 0 (length starts))

pub end_at : (content : Content) (starts ends : List ℕ) (p : ℕ) → AreEnds content.link content.merged_lens starts ends → p < length starts → slice_index ends p ≡ behind_leading content.link content.merged_lens starts p
end_at content starts ends p is below =
    ap (λ (ns : List ℕ). slice_index ns p) is
    ∙ get_or-map-range_with_len (behind_leading content.link content.merged_lens starts) 0 (length starts) p p 0 below (omega arith)

pub ends_count : (content : Content) (starts ends : List ℕ) → AreEnds content.link content.merged_lens starts ends → length ends ≡ length starts
ends_count content starts ends is = ap length is ∙ length-map-range_with_len (behind_leading content.link content.merged_lens starts) 0 (length starts)

-- all that files bring fits behind what leads
pub all_fit : (filling : Filling) (starts : List ℕ) (p : ℕ) → EndsFit filling starts → p < length starts
    → behind_leading filling.content.link filling.content.merged_lens starts p + bytes_in filling.content.link p (takers filling) < 2 ^ 64
all_fit filling starts p fit below =
    omega (
      arith,
      fit p below,
      sum_by-append (owner_bytes (part_at filling.content.link.plan.sections p)) (content_owners filling p)
          (map EntryOwner (table_of filling.content.link.plan.named (tables_of filling.content) p)),
      sum_by-append (owner_bytes (part_at filling.content.link.plan.sections p)) (leading_of filling.content.link filling.content.merged_lens p) (owners_in p (takers filling)),
    )

-- no size is above its capacity
pub size-le : (part : PlanPart) (size : ℕ) → size ≤ capacity part size
size-le part size =
    elim part.packed as (λ b. size ≤ cond b size (next_multiple_of size part.alignment)) [
      | true ↦ omega arith
      | false ↦ omega arith
    ]

-- behind a live section there is room for its size in the filling, up to the end of its part
pub ends_within : (filling : Filling) (starts : List ℕ) (k : ℕ) (x : Input) → slice_get (live_inputs filling.content.link filling.content.live) k ≡ Some x
    → EndsFit filling starts → x.section.part < length starts → live_address filling starts x + size_of filling x < 2 ^ 64
ends_within filling starts k x there fit within =
    let link : LinkInput = filling.content.link in
    let p : ℕ = x.section.part in
    let split = live_among filling k x there in
    omega (
      arith,
      section_behind filling starts split.front x split.rest split.splits,
      all_fit filling starts p fit within,
      ap (bytes_in link p) split.splits,
      bytes_in-append link p split.front (section_taker filling x ∷ split.rest),
      bytes_in-append link p (section_taker filling x ∷ []) split.rest,
      bytes_in_here link p (section_taker filling x) refl,
      size-le (part_at link.plan.sections p) (size_of filling x),
    )

-- the address that is known of an input section, with its number, when the files are done: sorted ones wait
abbrev pub early_address : Filling → List ℕ → ℕ × Input → ℕ
early_address filling starts q =
    if is_marked filling.content.live.marks q.0 && not q.1.section.sorted then live_address filling starts q.1 else 0

-- the files so far have their addresses, and the next ones are behind them
pub record AreDone (filling : Filling) (starts ends : List ℕ) (done : List NumberedFile) (next sections : List ℕ) (commons : List CommonAddress) (owned : List ℕ) : Type 0 where
  pub passed : ArePassed filling.content.link ends (flat_map (file_takers filling) done) next
  pub addresses : sections ≡ map (early_address filling starts) (enumerate_from 0 (inputs_of done))
  pub told : commons ≡ map (told_common filling starts) (flat_map (commons_of filling.content.link filling.content.live) done)
  pub blocks : owned ≡ map (λ q. primary_address filling starts q.0) (flat_map (blocks_of filling.thunks) done)

pub none_done : (filling : Filling) (starts ends : List ℕ) → AreDone filling starts ends [] ends [] [] []
none_done filling starts ends =
    record { passed = record { count = refl; moved = λ p h. omega arith }; addresses = refl; told = refl; blocks = refl }

-- ---- one file more

-- all files around one
pub record IsNextFile (link : LinkInput) (done : List NumberedFile) (f : NumberedFile) : Type 0 where
  pub rest : List NumberedFile
  pub splits : numbered_files link.groups ≡ done ++ f ∷ rest

-- what takes bytes behind some files: these ones, and the sorted sections
abbrev after_files : Filling → List NumberedFile → List Taker
after_files filling rest = flat_map (file_takers filling) rest ++ sorted_takers filling

takers_split : (filling : Filling) (done : List NumberedFile) (f : NumberedFile) (h : IsNextFile filling.content.link done f)
    → takers filling ≡ flat_map (file_takers filling) done ++ (file_takers filling f ++ after_files filling h.rest)
takers_split filling done f h =
    let own : NumberedFile → List Taker = file_takers filling in
    let sorted : List Taker = sorted_takers filling in
    ap (λ (ts : List Taker). ts ++ sorted) (ap (flat_map own) h.splits ∙ flat_map-append own done (f ∷ h.rest))
    ∙ append_assoc (flat_map own done) (own f ++ flat_map own h.rest) sorted
    ∙ ap (λ (ts : List Taker). flat_map own done ++ ts) (append_assoc (own f) (flat_map own h.rest) sorted)

-- a part of a list around an element
around : {X : Type 0} (before front rest after : List X) (x : X) → before ++ ((front ++ x ∷ rest) ++ after) ≡ (before ++ front) ++ x ∷ (rest ++ after)
around before front rest after x =
    ap (λ (zs : List _). before ++ zs) (append_assoc front (x ∷ rest) after) ∙ sym (append_assoc before front (x ∷ (rest ++ after)))

-- space for the sections of a file, for its commons behind them, and for its block of thunks behind these
pub section_space : (filling : Filling) (starts ends : List ℕ) (done : List NumberedFile) (f : NumberedFile) (next : List ℕ) (h : IsNextFile filling.content.link done f) → EndsFit filling starts
    → AreEnds filling.content.link filling.content.merged_lens starts ends → ArePassed filling.content.link ends (flat_map (file_takers filling) done) next → HaveSpace filling.content.link next (map (taker_by (size_of filling)) (live_of filling.content.link filling.content.live f))
section_space filling starts ends done f next h fit is passed = λ p below.
    let before : List Taker = flat_map (file_takers filling) done in
    let count = ends_count filling.content starts ends is in
    let inside : p < length starts = omega (arith, below, passed.count, count) in
    omega (
      arith,
      passed.moved p (omega (arith, below, passed.count)),
      end_at filling.content starts ends p is inside,
      all_fit filling starts p fit inside,
      ap (bytes_in filling.content.link p) (takers_split filling done f h),
      bytes_in-append filling.content.link p before (file_takers filling f ++ after_files filling h.rest),
      bytes_in-append filling.content.link p (file_takers filling f) (after_files filling h.rest),
      bytes_in-append filling.content.link p (map (taker_by (size_of filling)) (live_of filling.content.link filling.content.live f)) (map common_taker (commons_of filling.content.link filling.content.live f) ++ thunk_takers filling f),
    )

pub common_space : (filling : Filling) (starts ends : List ℕ) (done : List NumberedFile) (f : NumberedFile) (next later : List ℕ) (h : IsNextFile filling.content.link done f) → EndsFit filling starts
    → AreEnds filling.content.link filling.content.merged_lens starts ends → ArePassed filling.content.link ends (flat_map (file_takers filling) done) next → ArePassed filling.content.link next (map (taker_by (size_of filling)) (live_of filling.content.link filling.content.live f)) later
    → HaveSpace filling.content.link later (map common_taker (commons_of filling.content.link filling.content.live f))
common_space filling starts ends done f next later h fit is passed sections = λ p below.
    let before : List Taker = flat_map (file_takers filling) done in
    let count = ends_count filling.content starts ends is in
    let inside : p < length starts = omega (arith, below, sections.count, passed.count, count) in
    omega (
      arith,
      sections.moved p (omega (arith, below, sections.count)),
      passed.moved p (omega (arith, below, sections.count, passed.count)),
      end_at filling.content starts ends p is inside,
      all_fit filling starts p fit inside,
      ap (bytes_in filling.content.link p) (takers_split filling done f h),
      bytes_in-append filling.content.link p before (file_takers filling f ++ after_files filling h.rest),
      bytes_in-append filling.content.link p (file_takers filling f) (after_files filling h.rest),
      bytes_in-append filling.content.link p (map (taker_by (size_of filling)) (live_of filling.content.link filling.content.live f)) (map common_taker (commons_of filling.content.link filling.content.live f) ++ thunk_takers filling f),
      bytes_in-append filling.content.link p (map common_taker (commons_of filling.content.link filling.content.live f)) (thunk_takers filling f),
    )

pub block_space : (filling : Filling) (starts ends : List ℕ) (done : List NumberedFile) (f : NumberedFile) (next later last : List ℕ) (h : IsNextFile filling.content.link done f) → EndsFit filling starts
    → AreEnds filling.content.link filling.content.merged_lens starts ends → ArePassed filling.content.link ends (flat_map (file_takers filling) done) next
    → ArePassed filling.content.link next (map (taker_by (size_of filling)) (live_of filling.content.link filling.content.live f)) later
    → ArePassed filling.content.link later (map common_taker (commons_of filling.content.link filling.content.live f)) last
    → HaveSpace filling.content.link last (thunk_takers filling f)
block_space filling starts ends done f next later last h fit is passed sections commons = λ p below.
    let link : LinkInput = filling.content.link in
    let before : List Taker = flat_map (file_takers filling) done in
    let own : List Taker = map (taker_by (size_of filling)) (live_of link filling.content.live f) in
    let cs : List Taker = map common_taker (commons_of link filling.content.live f) in
    let count = ends_count filling.content starts ends is in
    let inside : p < length starts = omega (arith, below, commons.count, sections.count, passed.count, count) in
    omega (
      arith,
      commons.moved p (omega (arith, below, commons.count)),
      sections.moved p (omega (arith, below, commons.count, sections.count)),
      passed.moved p (omega (arith, below, commons.count, sections.count, passed.count)),
      end_at filling.content starts ends p is inside,
      all_fit filling starts p fit inside,
      ap (bytes_in link p) (takers_split filling done f h),
      bytes_in-append link p before (file_takers filling f ++ after_files filling h.rest),
      bytes_in-append link p (file_takers filling f) (after_files filling h.rest),
      bytes_in-append link p own (cs ++ thunk_takers filling f),
      bytes_in-append link p cs (thunk_takers filling f),
    )

-- the sections of the next file have the addresses of the link's
section_is : (filling : Filling) (starts ends : List ℕ) (done : List NumberedFile) (f : NumberedFile) (next : List ℕ) (h : IsNextFile filling.content.link done f)
    → IsWellFormed filling.content.link → AreLive filling.content.link filling.content.live → length starts ≡ length (all_parts filling.content.link.plan.sections) → AreEnds filling.content.link filling.content.merged_lens starts ends
    → ArePassed filling.content.link ends (flat_map (file_takers filling) done) next → (k : ℕ) (x : Input) → slice_get (sections_of_file f) k ≡ Some x
    → section_place (size_of filling) filling.content.link filling.content.live next f (k, x) ≡ early_address filling starts (length (inputs_of done) + k, x)
section_is filling starts ends done f next h good are parts is passed k x there =
    let before : List Taker = flat_map (file_takers filling) done in
    let inputs : List Input = all_inputs filling.content.link.groups in
    let split : inputs ≡ inputs_of done ++ (sections_of_file f ++ inputs_of h.rest) = ap inputs_of h.splits ∙ flat_map-append sections_of_file done (f ∷ h.rest) in
    let here = append_left (sections_of_file f) (inputs_of h.rest) k x there in
    let place = append_right (inputs_of done) (sections_of_file f ++ inputs_of h.rest) k (length (inputs_of done) + k) x refl here in
    let at : slice_get inputs (length (inputs_of done) + k) ≡ Some x = ap (λ (xs : List Input). slice_get xs (length (inputs_of done) + k)) split ∙ place in
    let number : input_number filling.content.link.groups x.file x.index ≡ length (inputs_of done) + k = number_of filling.content.link (length (inputs_of done) + k) x at in
    let mark : (is_marked filling.content.live.marks (length (inputs_of done) + k) && not x.section.sorted) ≡ stands_in_file filling.content.link filling.content.live x
    = ap (λ (n : ℕ). is_marked filling.content.live.marks n && not x.section.sorted) (sym number) in
    let front : List Taker = map (taker_by (size_of filling)) (live_below filling.content.link filling.content.live f k) in
    (elim (stands_in_file filling.content.link filling.content.live x) as (λ b. stands_in_file filling.content.link filling.content.live x ≡ b → (if b then next_behind filling.content.link next front x.section.part else 0) ≡ (if b then live_address filling starts x else 0)) [
      | true ↦ λ set.
          let in_file = live_split filling.content.link filling.content.live f k x there set in
          let commons : List Taker = map common_taker (commons_of filling.content.link filling.content.live f) ++ thunk_takers filling f in
          let later : List Taker = after_files filling h.rest in
          let mapped : map (taker_by (size_of filling)) (live_of filling.content.link filling.content.live f) ≡ front ++ taker_by (size_of filling) x ∷ map (taker_by (size_of filling)) in_file.0
          = ap (map (taker_by (size_of filling))) in_file.1 ∙ map-append (taker_by (size_of filling)) (live_below filling.content.link filling.content.live f k) (x ∷ in_file.0) in
          let whole : takers filling ≡ (before ++ front) ++ taker_by (size_of filling) x ∷ (map (taker_by (size_of filling)) in_file.0 ++ (commons ++ later))
          = takers_split filling done f h
          ∙ ap (λ (ts : List Taker). before ++ ts) (append_assoc (map (taker_by (size_of filling)) (live_of filling.content.link filling.content.live f)) commons later)
          ∙ ap (λ (ts : List Taker). before ++ (ts ++ (commons ++ later))) mapped
          ∙ around before front (map (taker_by (size_of filling)) in_file.0) (commons ++ later) (taker_by (size_of filling) x) in
          let goes : x.section.part < length starts = omega (arith, parts, live_goes_at filling.content.link filling.content.live (length (inputs_of done) + k) x good are at (and_left _ _ (mark ∙ set))) in
          omega (
            arith,
            passed.moved x.section.part (omega (arith, goes, ends_count filling.content starts ends is)),
            end_at filling.content starts ends x.section.part is goes,
            bytes_in-append filling.content.link x.section.part before front,
            section_behind filling starts (before ++ front) x (map (taker_by (size_of filling)) in_file.0 ++ (commons ++ later)) whole,
          )
      | false ↦ λ set. refl
    ]) refl
    ∙ ap (λ b. if b then live_address filling starts x else 0) (sym mark)

sections_are_placed : (filling : Filling) (starts ends : List ℕ) (done : List NumberedFile) (f : NumberedFile) (next : List ℕ) (h : IsNextFile filling.content.link done f)
    → IsWellFormed filling.content.link → AreLive filling.content.link filling.content.live → length starts ≡ length (all_parts filling.content.link.plan.sections) → AreEnds filling.content.link filling.content.merged_lens starts ends
    → ArePassed filling.content.link ends (flat_map (file_takers filling) done) next
    → section_places (size_of filling) filling.content.link filling.content.live next f ≡ map (early_address filling starts) (enumerate_from (length (inputs_of done)) (sections_of_file f))
sections_are_placed filling starts ends done f next h good are parts is passed =
    made_alike (section_place (size_of filling) filling.content.link filling.content.live next f) (early_address filling starts) 0 (length (inputs_of done)) (sections_of_file f) (λ k x there.
    let number : 0 + k ≡ k = omega arith in
    ap (λ (n : ℕ). section_place (size_of filling) filling.content.link filling.content.live next f (n, x)) number ∙ section_is filling starts ends done f next h good are parts is passed k x there)

-- so have its commons
common_is : (filling : Filling) (starts ends : List ℕ) (done : List NumberedFile) (f : NumberedFile) (next later : List ℕ) (h : IsNextFile filling.content.link done f)
    → IsWellFormed filling.content.link → file_in filling.content.link.groups f.id ≡ Some f.file → length starts ≡ length (all_parts filling.content.link.plan.sections) → AreEnds filling.content.link filling.content.merged_lens starts ends
    → ArePassed filling.content.link ends (flat_map (file_takers filling) done) next → ArePassed filling.content.link next (map (taker_by (size_of filling)) (live_of filling.content.link filling.content.live f)) later
    → (k : ℕ) (c : Common) → slice_get (commons_of filling.content.link filling.content.live f) k ≡ Some c
    → common_place filling.content.link later (commons_of filling.content.link filling.content.live f) (k, c) ≡ told_common filling starts c
common_is filling starts ends done f next later h good in_link parts is passed sections k c there =
    let before : List Taker = flat_map (file_takers filling) done in
    let cs : List Common = commons_of filling.content.link filling.content.live f in
    let split = split_at cs k c there in
    let own : List Taker = map (taker_by (size_of filling)) (live_of filling.content.link filling.content.live f) in
    let front : List Taker = map common_taker (take k cs) in
    let blocks : List Taker = thunk_takers filling f in
    let rest : List Taker = map common_taker split.0 ++ blocks in
    let behind : List Taker = after_files filling h.rest in
    let mapped : map common_taker cs ++ blocks ≡ front ++ common_taker c ∷ rest
    = ap (λ (ts : List Taker). ts ++ blocks) (ap (map common_taker) split.1 ∙ map-append common_taker (take k cs) (c ∷ split.0))
    ∙ append_assoc front (common_taker c ∷ map common_taker split.0) blocks in
    let in_file : file_takers filling f ≡ (own ++ front) ++ common_taker c ∷ rest
    = ap (λ (ts : List Taker). own ++ ts) mapped ∙ sym (append_assoc own front (common_taker c ∷ rest)) in
    let whole : takers filling ≡ (before ++ (own ++ front)) ++ common_taker c ∷ (rest ++ behind)
    = takers_split filling done f h
    ∙ ap (λ (ts : List Taker). before ++ (ts ++ behind)) in_file
    ∙ around before (own ++ front) rest behind (common_taker c) in
    let goes : c.part < length starts = omega (arith, parts, common_goes filling.content.link filling.content.live f (take k cs) c split.0 good in_link split.1) in
    let address : next_behind filling.content.link later front c.part ≡ common_address filling starts c.part c.symbol
    = omega (
      arith,
      sections.moved c.part (omega (arith, goes, ends_count filling.content starts ends is, passed.count)),
      passed.moved c.part (omega (arith, goes, ends_count filling.content starts ends is)),
      end_at filling.content starts ends c.part is goes,
      bytes_in-append filling.content.link c.part before (own ++ front),
      bytes_in-append filling.content.link c.part own front,
      common_behind filling starts (before ++ (own ++ front)) c (rest ++ behind) whole,
    ) in
    let tell : ℕ → CommonAddress = λ a. record { symbol = c.symbol; address = a } in
    ap tell address

without_number : {X Y : Type 0} (g : X → Y) (n : ℕ) (xs : List X) → map (λ (q : ℕ × X). g q.1) (enumerate_from n xs) ≡ map g xs
without_number g n [] = refl
without_number g n (x ∷ xs) = ap (λ (ys : List _). g x ∷ ys) (without_number g (n + 1) xs)

commons_are_placed : (filling : Filling) (starts ends : List ℕ) (done : List NumberedFile) (f : NumberedFile) (next later : List ℕ) (h : IsNextFile filling.content.link done f)
    → IsWellFormed filling.content.link → file_in filling.content.link.groups f.id ≡ Some f.file → length starts ≡ length (all_parts filling.content.link.plan.sections) → AreEnds filling.content.link filling.content.merged_lens starts ends
    → ArePassed filling.content.link ends (flat_map (file_takers filling) done) next → ArePassed filling.content.link next (map (taker_by (size_of filling)) (live_of filling.content.link filling.content.live f)) later
    → common_places filling.content.link later (commons_of filling.content.link filling.content.live f) ≡ map (told_common filling starts) (commons_of filling.content.link filling.content.live f)
commons_are_placed filling starts ends done f next later h good in_link parts is passed sections =
    made_alike (common_place filling.content.link later (commons_of filling.content.link filling.content.live f)) (λ (q : ℕ × Common). told_common filling starts q.1) 0 0 (commons_of filling.content.link filling.content.live f) (λ k c there.
    let number : 0 + k ≡ k = omega arith in
    ap (λ (n : ℕ). common_place filling.content.link later (commons_of filling.content.link filling.content.live f) (n, c)) number
    ∙ common_is filling starts ends done f next later h good in_link parts is passed sections k c there)
    ∙ without_number (told_common filling starts) 0 (commons_of filling.content.link filling.content.live f)

-- and so has its block of thunks
block_is : (filling : Filling) (starts ends : List ℕ) (done : List NumberedFile) (f : NumberedFile) (next later last : List ℕ) (p size : ℕ) (h : IsNextFile filling.content.link done f)
    → IsWellFormed filling.content.link → length starts ≡ length (all_parts filling.content.link.plan.sections) → AreEnds filling.content.link filling.content.merged_lens starts ends
    → ArePassed filling.content.link ends (flat_map (file_takers filling) done) next
    → ArePassed filling.content.link next (map (taker_by (size_of filling)) (live_of filling.content.link filling.content.live f)) later
    → ArePassed filling.content.link later (map common_taker (commons_of filling.content.link filling.content.live f)) last
    → filling.content.link.plan.named.primary ≡ Some p → thunk_bytes filling f.id ≡ Some size → slice_index last p ≡ block_address filling starts p f.id
block_is filling starts ends done f next later last p size h good parts is passed sections commons primary bytes =
    let link : LinkInput = filling.content.link in
    let before : List Taker = flat_map (file_takers filling) done in
    let own : List Taker = map (taker_by (size_of filling)) (live_of link filling.content.live f) in
    let cs : List Taker = map common_taker (commons_of link filling.content.live f) in
    let t : Taker = thunk_taker f.id p size in
    let behind : List Taker = after_files filling h.rest in
    let in_file : file_takers filling f ≡ (own ++ cs) ++ t ∷ []
    = ap (λ (ts : List Taker). own ++ (cs ++ ts)) (block_there filling f p size primary bytes) ∙ sym (append_assoc own cs (t ∷ [])) in
    let whole : takers filling ≡ (before ++ (own ++ cs)) ++ t ∷ behind
    = takers_split filling done f h
    ∙ ap (λ (ts : List Taker). before ++ (ts ++ behind)) in_file
    ∙ around before (own ++ cs) [] behind t in
    let goes : p < length starts = omega (arith, parts, primary_goes link p good primary) in
    let count = ends_count filling.content starts ends is in
    omega (
      arith,
      commons.moved p (omega (arith, goes, count, passed.count, sections.count)),
      sections.moved p (omega (arith, goes, count, passed.count)),
      passed.moved p (omega (arith, goes, count)),
      end_at filling.content starts ends p is goes,
      bytes_in-append link p before (own ++ cs),
      bytes_in-append link p own cs,
      block_behind filling starts (before ++ (own ++ cs)) f.id p size behind whole,
    )

blocks_are_placed : (filling : Filling) (starts ends : List ℕ) (done : List NumberedFile) (f : NumberedFile) (next later last : List ℕ) (h : IsNextFile filling.content.link done f)
    → IsWellFormed filling.content.link → length starts ≡ length (all_parts filling.content.link.plan.sections) → AreEnds filling.content.link filling.content.merged_lens starts ends
    → ArePassed filling.content.link ends (flat_map (file_takers filling) done) next
    → ArePassed filling.content.link next (map (taker_by (size_of filling)) (live_of filling.content.link filling.content.live f)) later
    → ArePassed filling.content.link later (map common_taker (commons_of filling.content.link filling.content.live f)) last
    → block_places filling.content.link last (thunk_bytes filling f.id) ≡ map (λ q. primary_address filling starts q.0) (blocks_of filling.thunks f)
blocks_are_placed filling starts ends done f next later last h good parts is passed sections commons =
    by (thunk_bytes filling f.id) refl filling.content.link.plan.named.primary refl
  where
    by : (size : Option ℕ) → thunk_bytes filling f.id ≡ size → (primary : Option ℕ) → filling.content.link.plan.named.primary ≡ primary
        → option_to_list (option_map (λ n. option_map_or (slice_index last) primary 0) size)
        ≡ map (λ (q : FileId × ℕ). option_map_or (λ p. block_address filling starts p q.0) primary 0) (own_block f.id size)
    by None of primary named = refl
    by (Some n) of None named = refl
    by (Some n) of (Some p) named =
        ap (λ (a : ℕ). a ∷ []) (block_is filling starts ends done f next later last p n h good parts is passed sections commons named of)

-- numbers go on behind those of a first list
numbered_append : {X : Type 0} (n : ℕ) (xs ys : List X) → enumerate_from n (xs ++ ys) ≡ enumerate_from n xs ++ enumerate_from (n + length xs) ys
numbered_append n [] ys = let e : n ≡ n + 0 = omega arith in ap (λ m. enumerate_from m ys) e
numbered_append n (x ∷ xs) ys =
    let e : n + 1 + length xs ≡ n + suc (length xs) = omega arith in
    ap (λ zs. (n, x) ∷ zs) (numbered_append (n + 1) xs ys ∙ ap (λ m. enumerate_from (n + 1) xs ++ enumerate_from m ys) e)

-- with the next file
pub file_done : (filling : Filling) (starts ends : List ℕ) (done : List NumberedFile) (f : NumberedFile) (next later last end sections new_sections : List ℕ)
    (commons new_commons : List CommonAddress) (blocks new_blocks : List ℕ) (h : IsNextFile filling.content.link done f)
    → IsWellFormed filling.content.link → AreLive filling.content.link filling.content.live → file_in filling.content.link.groups f.id ≡ Some f.file
    → length starts ≡ length (all_parts filling.content.link.plan.sections) → AreEnds filling.content.link filling.content.merged_lens starts ends
    → AreDone filling starts ends done next sections commons blocks
    → ArePassed filling.content.link next (map (taker_by (size_of filling)) (live_of filling.content.link filling.content.live f)) later
    → new_sections ≡ sections ++ section_places (size_of filling) filling.content.link filling.content.live next f
    → ArePassed filling.content.link later (map common_taker (commons_of filling.content.link filling.content.live f)) last
    → new_commons ≡ commons ++ common_places filling.content.link later (commons_of filling.content.link filling.content.live f)
    → ArePassed filling.content.link last (thunk_takers filling f) end
    → new_blocks ≡ blocks ++ block_places filling.content.link last (thunk_bytes filling f.id)
    → AreDone filling starts ends (done ++ f ∷ []) end new_sections new_commons new_blocks
file_done filling starts ends done f next later last end sections new_sections commons new_commons blocks new_blocks h good are in_link parts is so_far by_sections told_sections by_commons told_commons by_block told_block =
    let link : LinkInput = filling.content.link in
    let live : Live = filling.content.live in
    let takes : NumberedFile → List Taker = file_takers filling in
    let n : ℕ = length (inputs_of done) in
    let zero_more : 0 + n ≡ n = omega arith in
    let g : ℕ × Input → ℕ = early_address filling starts in
    let tell : Common → CommonAddress = told_common filling starts in
    let place : FileId × ℕ → ℕ = λ q. primary_address filling starts q.0 in
    let own : List Taker = map (taker_by (size_of filling)) (live_of link live f) in
    let cs : List Taker = map common_taker (commons_of link live f) in
    let inputs : inputs_of (done ++ f ∷ []) ≡ inputs_of done ++ sections_of_file f = one_file sections_of_file in
    record {
      passed = subst (λ (ts : List Taker). ArePassed link ends ts end) (sym (one_file takes))
          (passed_both link ends next end (flat_map takes done) (takes f) so_far.passed
          (passed_both link next later end own (cs ++ thunk_takers filling f) by_sections
          (passed_both link later last end cs (thunk_takers filling f) by_commons by_block)));
      addresses =
          told_sections
          ∙ ap (λ (ns : List ℕ). ns ++ section_places (size_of filling) link live next f) so_far.addresses
          ∙ ap (λ (ns : List ℕ). map g (enumerate_from 0 (inputs_of done)) ++ ns) (sections_are_placed filling starts ends done f next h good are parts is so_far.passed)
          ∙ sym (ap (λ (xs : List Input). map g (enumerate_from 0 xs)) inputs
          ∙ ap (map g) (numbered_append 0 (inputs_of done) (sections_of_file f))
          ∙ map-append g (enumerate_from 0 (inputs_of done)) (enumerate_from (0 + n) (sections_of_file f))
          ∙ ap (λ (m : ℕ). map g (enumerate_from 0 (inputs_of done)) ++ map g (enumerate_from m (sections_of_file f))) zero_more);
      told =
          told_commons
          ∙ ap (λ (c : List CommonAddress). c ++ common_places link later (commons_of link live f)) so_far.told
          ∙ ap (λ (c : List CommonAddress). map tell (flat_map (commons_of link live) done) ++ c) (commons_are_placed filling starts ends done f next later h good in_link parts is so_far.passed by_sections)
          ∙ sym (ap (map tell) (one_file (commons_of link live)) ∙ map-append tell (flat_map (commons_of link live) done) (commons_of link live f));
      blocks =
          told_block
          ∙ ap (λ (ns : List ℕ). ns ++ block_places link last (thunk_bytes filling f.id)) so_far.blocks
          ∙ ap (λ (ns : List ℕ). map place (flat_map (blocks_of filling.thunks) done) ++ ns) (blocks_are_placed filling starts ends done f next later last h good parts is so_far.passed by_sections by_commons)
          ∙ sym (ap (map place) (one_file (blocks_of filling.thunks)) ∙ map-append place (flat_map (blocks_of filling.thunks) done) (blocks_of filling.thunks f));
    }
  where
    one_file : {X : Type 0} (of : NumberedFile → List X) → flat_map of (done ++ f ∷ []) ≡ flat_map of done ++ of f
    one_file {X} of = flat_map-append of done (f ∷ []) ∙ ap (λ (xs : List X). flat_map of done ++ xs) (append-nil (of f))

-- ---- in the middle of a walk over a file's sections

-- its number can be told
pub number_fits : (link : LinkInput) (f : NumberedFile) (k first : ℕ) → IsWellFormed link → file_in link.groups f.id ≡ Some f.file → k < length f.file.sections
    → first ≡ first_input link.groups f.id → first + k < 2 ^ 64
number_fits link f k first good in_link below is =
    let at = at_index f.file.sections k below in
    let within = slice_get_within (all_inputs link.groups) (input_number link.groups f.id k) _ (inputs_follow.at link.groups f.id f.file k at.0 in_link at.1) in
    omega (arith, is, within, inputs_follow.count link.groups, inputs_few link good)

-- the next section, with its number and its mark
pub record IsSectionTurn (link : LinkInput) (live : Live) (f : NumberedFile) (marks : List Bool) (k : ℕ) (section : InputSection) (number : ℕ) : Type 0 where
  pub there : slice_get (sections_of_file f) k ≡ Some (record { file = f.id; index = k; section = section })
  pub input : IsInput link (record { file = f.id; index = k; section = section })
  pub mark : stands_in_file link live (record { file = f.id; index = k; section = section }) ≡ (is_marked marks number && not section.sorted)
  pub goes : (is_marked marks number && not section.sorted) ≡ true → section.part < length (all_parts link.plan.sections)

pub section_turn : (link : LinkInput) (live : Live) (f : NumberedFile) (sections : List InputSection) (marks : List Bool) (k : ℕ) (section : InputSection) (number : ℕ) → IsWellFormed link → AreLive link live
    → file_in link.groups f.id ≡ Some f.file → sections ≡ f.file.sections → marks ≡ live.marks → k < length sections → section ≡ get_or sections k section → number ≡ input_number link.groups f.id k
    → IsSectionTurn link live f marks k section number
section_turn link live f sections marks k section number good are in_link all read below is numbered =
    let at : slice_get sections k ≡ Some section = slice_get-get_or sections k section below ∙ ap Some (sym is) in
    let there : slice_get f.file.sections k ≡ Some section = ap (λ (ss : List InputSection). slice_get ss k) (sym all) ∙ at in
    let x : Input = record { file = f.id; index = k; section = section } in
    let set : is_marked live.marks (input_number link.groups f.id k) ≡ is_marked marks number
    = ap (is_marked live.marks) (sym numbered) ∙ ap (λ (ms : List Bool). is_marked ms number) (sym read) in
    let mark : stands_in_file link live x ≡ (is_marked marks number && not section.sorted) = ap (λ b. b && not section.sorted) set in
    record {
      there = input_there f k section there;
      input = inputs_follow.at link.groups f.id f.file k section in_link there;
      mark = mark;
      goes = λ stands. live_goes_at link live (input_number link.groups f.id k) x good are (inputs_follow.at link.groups f.id f.file k section in_link there) (set ∙ and_left _ _ stands);
    }

-- the size that is told of it
pub told_size : (link : LinkInput) (o : Option (Bor (List ℕ))) (n : ℕ) (x : Input) → IsInput link x → n ≡ input_number link.groups x.file x.index
    → option_map_or (λ s. slice_index s.now n) o x.section.size ≡ size_in link (option_map_or (λ s. s.now) o (own_sizes link)) x
told_size link None n x there is = sym (own_size_at link (input_number link.groups x.file x.index) x there)
told_size link (Some s) n x there is = ap (slice_index s.now) is

-- ---- ends

-- behind a live section there is room for what it takes, where it has the size of the description
pub live_ends : (filling : Filling) (starts : List ℕ) (k : ℕ) (x : Input) → slice_get (live_inputs filling.content.link filling.content.live) k ≡ Some x → filling.sizes ≡ own_sizes filling.content.link
    → EndsFit filling starts → x.section.part < length starts
    → live_address filling starts x + capacity (part_at filling.content.link.plan.sections x.section.part) x.section.size < 2 ^ 64
live_ends filling starts k x there is fit within =
    let content : Content = filling.content in
    let p : ℕ = x.section.part in
    let size : size_of filling x ≡ x.section.size = ap (λ (sizes : List ℕ). size_in content.link sizes x) is ∙ live_own_size content k x there in
    let split = live_among filling k x there in
    omega (
      arith,
      section_behind filling starts split.front x split.rest split.splits,
      all_fit filling starts p fit within,
      ap (bytes_in content.link p) split.splits,
      bytes_in-append content.link p split.front (section_taker filling x ∷ split.rest),
      bytes_in-append content.link p (section_taker filling x ∷ []) split.rest,
      bytes_in_here content.link p (section_taker filling x) refl,
      ap (capacity (part_at content.link.plan.sections p)) size,
    )

-- and behind a common
pub common_ends : (filling : Filling) (starts : List ℕ) (p s size : ℕ) → IsCommonIn filling.content.link filling.content.live p s size → EndsFit filling starts
    → p < length starts → common_address filling starts p s + capacity (part_at filling.content.link.plan.sections p) size < 2 ^ 64
common_ends filling starts p s size h fit within =
    let c : Common = record { symbol = s; part = p; size = size } in
    let split = common_among filling p s size h in
    omega (
      arith,
      common_behind filling starts split.front c split.rest split.splits,
      all_fit filling starts p fit within,
      ap (bytes_in filling.content.link p) split.splits,
      bytes_in-append filling.content.link p split.front (common_taker c ∷ split.rest),
      bytes_in-append filling.content.link p (common_taker c ∷ []) split.rest,
      bytes_in_here filling.content.link p (common_taker c) refl,
    )
