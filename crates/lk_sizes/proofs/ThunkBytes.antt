-- What blocks of thunks bring: to the primary part alone, each what it takes there.
use Rattle.std.proofs.Common.{◌≡◌, ℕ, zero, suc, ◌+◌, ◌==◌, ◌&&◌, ◌^◌, Bool, true, false, cond, ◌⊎◌, ◌-◌, length-append, if◌then◌else◌, min, List, [], ◌∷◌, ◌++◌, length, map, Option, Some, None, IsSome, find, sum_by, refl, sym, ap, ◌∙◌, arith, inl, inr}
use Rattle.std.specs.Prelude.{option_and_then, option_map}
use Rattle.std.specs.List.{enumerate_from, flat_map, slice_get}
use Rattle.std.specs.Option.{option_map_or, option_to_list}
use Rattle.std.proofs.lemmas.Bool.{eqb-true, false_from_ne_true}
use Rattle.std.proofs.lemmas.Bool.Decides.{eqb_tells}
use Rattle.std.proofs.lemmas.List.Sums.{sum_by-append, sum_by-cons}
use Rattle.std.proofs.lemmas.Option.{slice_get_within}
use Rattle.lk_link.specs.declared.file.InputFile.{InputFile}
use Rattle.lk_link.specs.declared.ids.FileId.{FileId}
use Rattle.lk_link.specs.declared.link.LinkInput.{LinkInput}
use Rattle.lk_link.specs.declared.plan.PlanPart.{PlanPart}
use Rattle.lk_link.specs.Files.{file_in}
use Rattle.lk_link.specs.Inputs.{NumberedFile, numbered_files}
use Rattle.lk_link.specs.Parts.{all_parts, part_at}
use Rattle.lk_link.specs.Sizes.{capacity}
use Rattle.lk_link.specs.Symbols.{file_number}
use Rattle.lk_link.proofs.Elements.{at_index, map_in}
use Rattle.lk_link.proofs.InputLemmas.{file_stands, numbered_get}
use Rattle.lk_link.proofs.Numbers.{length-made}
use Rattle.lk_live.specs.declared.live.Live.{Live}
use Rattle.lk_tables.specs.TableLists.{table_of}
use Rattle.lk_sizes.specs.declared.owners.PartContents.{PartContents}
use Rattle.lk_sizes.specs.declared.owners.PartTotal.{PartTotal}
use Rattle.lk_sizes.specs.Contents.{AreSums, contents_of, part_contents}
use Rattle.lk_sizes.specs.Owners.{AreThunkOwners, EntryOwner, Filling, Taker, all_file_takers, bytes_of, common_taker, commons_of, content_owners, leading_of, live_of, owner_bytes, owners_in, section_taker, sorted_takers, takers, thunk_bytes, thunk_taker, thunk_takers, without_thunks}
use Rattle.lk_sizes.specs.PartOwners.{part_size, tables_of}
use Rattle.lk_sizes.specs.Tables.{bytes_in, with_entries}
use Rattle.lk_sizes.specs.ThunkSums.{AreWithBlocks, block_bytes, blocks_in}
use Rattle.lk_sizes.proofs.LiveNumbers.{place_is_number}
use Rattle.lk_sizes.proofs.Takers.{bytes_in-append, bytes_in_both, bytes_in_here, bytes_in_other}

-- ---- sums over files

sum_same : {X : Type 0} (g h : X → ℕ) (xs : List X) → ((k : ℕ) (y : X) → slice_get xs k ≡ Some y → g y ≡ h y) → sum_by g xs ≡ sum_by h xs
sum_same g h [] same = refl
sum_same g h (x ∷ xs) same = omega (arith, sum_by-cons g x xs, sum_by-cons h x xs, same 0 x refl, sum_same g h xs (λ k. same (suc k)))

-- one place has so much more
sum_one : {X : Type 0} (g h : X → ℕ) (xs : List X) (n : ℕ) (x : X) (v : ℕ) → slice_get xs n ≡ Some x → g x ≡ v + h x
    → ((k : ℕ) (y : X) → slice_get xs k ≡ Some y → (k ≡ n → ⊥) → g y ≡ h y) → sum_by g xs ≡ v + sum_by h xs
sum_one g h [] n x v there more same = absurd (cc)
sum_one g h (y ∷ xs) zero x v there more same =
    let is : y ≡ x = cc in
    omega (arith, sum_by-cons g y xs, sum_by-cons h y xs, ap g is, ap h is, more, sum_same g h xs (λ k z at. same (suc k) z at (λ e. absurd (omega (arith, e)))))
sum_one g h (y ∷ xs) (suc n) x v there more same =
    omega (
      arith,
      sum_by-cons g y xs,
      sum_by-cons h y xs,
      same 0 y refl (λ e. absurd (omega (arith, e))),
      sum_one g h xs n x v there more (λ k z at other. same (suc k) z at (λ e. other (omega (arith, e)))),
    )

-- ---- the block of a file

abbrev pub same_id : FileId → FileId × ℕ → Bool
same_id id q = q.0.group == id.group && q.0.file == id.file

both : (a b : Bool) → (a && b) ≡ true → (a ≡ true) × (b ≡ true)
both true b h = (refl, h)
both false b h = absurd (cc)

pub is_id : (id : FileId) (q : FileId × ℕ) → same_id id q ≡ true → q.0 ≡ id
is_id id q h =
    let each = both (q.0.group == id.group) (q.0.file == id.file) h in
    let made : ℕ → ℕ → FileId = λ g n. record { group = g; file = n } in
    ap (λ (g : ℕ). made g q.0.file) (eqb-true q.0.group id.group each.0) ∙ ap (made id.group) (eqb-true q.0.file id.file each.1)

same_number : (n : ℕ) → (n == n) ≡ true
same_number n =
    elim (eqb_tells n n) [
      | inl hit ↦ hit.0
      | inr miss ↦ absurd (miss.1 refl)
    ]

pub itself : (q : FileId × ℕ) → same_id q.0 q ≡ true
itself q = ap (λ b. b && q.0.file == q.0.file) (same_number q.0.group) ∙ same_number q.0.file

pub other_id : (id : FileId) (q : FileId × ℕ) → (q.0 ≡ id → ⊥) → same_id id q ≡ false
other_id id q other = false_from_ne_true (same_id id q) (λ h. other (is_id id q h))

-- what a file's block takes, among some
abbrev size_told : List (FileId × ℕ) → FileId → Option ℕ
size_told qs id = option_map (λ q. q.1) (find (same_id id) qs)

abbrev file_bytes : PlanPart → List (FileId × ℕ) → NumberedFile → ℕ
file_bytes part qs f = option_map_or (capacity part) (size_told qs f.id) 0

found : (part : PlanPart) (q : FileId × ℕ) (qs : List (FileId × ℕ)) (f : NumberedFile) → q.0 ≡ f.id → file_bytes part (q ∷ qs) f ≡ capacity part q.1
found part q qs f is =
    let hit : same_id f.id q ≡ true = ap (λ (id : FileId). same_id id q) (sym is) ∙ itself q in
    ap (λ b. option_map_or (capacity part) (option_map (λ r. r.1) (cond b (Some q) (find (same_id f.id) qs))) 0) hit

passed_by : (part : PlanPart) (q : FileId × ℕ) (qs : List (FileId × ℕ)) (f : NumberedFile) → (q.0 ≡ f.id → ⊥) → file_bytes part (q ∷ qs) f ≡ file_bytes part qs f
passed_by part q qs f other =
    ap (λ b. option_map_or (capacity part) (option_map (λ r. r.1) (cond b (Some q) (find (same_id f.id) qs))) 0) (other_id f.id q other)

none_told : (part : PlanPart) (qs : List (FileId × ℕ)) (f : NumberedFile) → ((k : ℕ) (q : FileId × ℕ) → slice_get qs k ≡ Some q → q.0 ≡ f.id → ⊥) → file_bytes part qs f ≡ 0
none_told part [] f none = refl
none_told part (q ∷ qs) f none = passed_by part q qs f (none 0 q refl) ∙ none_told part qs f (λ k. none (suc k))

pub tail : (link : LinkInput) (q : FileId × ℕ) (qs : List (FileId × ℕ)) → AreThunkOwners link (q ∷ qs) → AreThunkOwners link qs
tail link q qs h = record {
  there = λ k r at. h.there (suc k) r at;
  rising = λ j k r s less at next. h.rising (suc j) (suc k) r s (omega (arith, less)) at next;
}

pub file_of_some : (o : Option InputFile) → IsSome o → (file : InputFile) × (o ≡ Some file)
file_of_some None h = absurd (cc)
file_of_some (Some file) h = (file, refl)

-- all files' blocks take what each takes
pub files_take : (link : LinkInput) (part : PlanPart) (qs : List (FileId × ℕ)) → AreThunkOwners link qs
    → sum_by (file_bytes part qs) (numbered_files link.groups) ≡ block_bytes part qs
files_take link part [] h = zeros (numbered_files link.groups)
  where
    zeros : (fs : List NumberedFile) → sum_by (file_bytes part []) fs ≡ 0
    zeros [] = refl
    zeros (f ∷ fs) = omega (arith, sum_by-cons (file_bytes part []) f fs, zeros fs)
files_take link part (q ∷ qs) h =
    let file = file_of_some (file_in link.groups q.0) (h.there 0 q refl) in
    let f : NumberedFile = record { id = q.0; file = file.0 } in
    let n : ℕ = file_number link.groups q.0 in
    let none : file_bytes part qs f ≡ 0
    = none_told part qs f (λ k r at same. absurd (omega (arith, h.rising 0 (suc k) q r (omega arith) refl at, ap (file_number link.groups) same))) in
    let one = sum_one (file_bytes part (q ∷ qs)) (file_bytes part qs) (numbered_files link.groups) n f (capacity part q.1) (file_stands link.groups q.0 file.0 file.1)
    (omega (arith, found part q qs f refl, none))
    (λ k g at other. passed_by part q qs g (λ same. other (place_is_number link k g at ∙ ap (file_number link.groups) (sym same)))) in
    omega (arith, one, files_take link part qs (tail link q qs h), sum_by-cons (λ (r : FileId × ℕ). capacity part r.1) q qs)

-- ---- takers

flat_bytes : (link : LinkInput) (p : ℕ) (g : NumberedFile → List Taker) (fs : List NumberedFile) → bytes_in link p (flat_map g fs) ≡ sum_by (λ f. bytes_in link p (g f)) fs
flat_bytes link p g [] = refl
flat_bytes link p g (f ∷ fs) = omega (arith, bytes_in-append link p (g f) (flat_map g fs), sum_by-cons (λ h. bytes_in link p (g h)) f fs, flat_bytes link p g fs)

-- what the blocks of all files bring
pub blocks_bring : (filling : Filling) (p : ℕ) → AreThunkOwners filling.content.link filling.thunks
    → bytes_in filling.content.link p (flat_map (thunk_takers filling) (numbered_files filling.content.link.groups)) ≡ blocks_in filling.content.link filling.thunks p
blocks_bring filling p h =
    let link : LinkInput = filling.content.link in
    flat_bytes link p (thunk_takers filling) (numbered_files link.groups) ∙ by link.plan.named.primary
  where
    link : LinkInput
    link = filling.content.link

    part : PlanPart
    part = part_at filling.content.link.plan.sections p

    one : Option ℕ → NumberedFile → ℕ
    one primary f = bytes_in link p (option_to_list (option_and_then (λ q. option_map (thunk_taker f.id q) (thunk_bytes filling f.id)) primary))

    zeros : (fs : List NumberedFile) → sum_by (one None) fs ≡ 0
    zeros [] = refl
    zeros (f ∷ fs) = omega (arith, sum_by-cons (one None) f fs, zeros fs)

    here : (q : ℕ) (f : NumberedFile) (o : Option ℕ) → q ≡ p → bytes_in link p (option_to_list (option_map (thunk_taker f.id q) o)) ≡ option_map_or (capacity part) o 0
    here q f None is = refl
    here q f (Some size) is = bytes_in_here link p (thunk_taker f.id q size) is

    elsewhere : (q : ℕ) (f : NumberedFile) (o : Option ℕ) → (q ≡ p → ⊥) → bytes_in link p (option_to_list (option_map (thunk_taker f.id q) o)) ≡ 0
    elsewhere q f None other = refl
    elsewhere q f (Some size) other = bytes_in_other link p (thunk_taker f.id q size) other

    none_here : (q : ℕ) (fs : List NumberedFile) → (q ≡ p → ⊥) → sum_by (one (Some q)) fs ≡ 0
    none_here q [] other = refl
    none_here q (f ∷ fs) other = omega (arith, sum_by-cons (one (Some q)) f fs, elsewhere q f (thunk_bytes filling f.id) other, none_here q fs other)

    by : (primary : Option ℕ) → sum_by (one primary) (numbered_files link.groups) ≡ option_map_or (λ q. if q == p then block_bytes part filling.thunks else 0) primary 0
    by None = zeros (numbered_files link.groups)
    by (Some q) =
        elim (eqb_tells q p) [
          | inl hit ↦
              sum_same (one (Some q)) (file_bytes part filling.thunks) (numbered_files link.groups) (λ k f at. here q f (thunk_bytes filling f.id) hit.1)
              ∙ files_take link part filling.thunks h
              ∙ ap (λ b. if b then block_bytes part filling.thunks else 0) (sym hit.0)
          | inr miss ↦ none_here q (numbered_files link.groups) miss.1 ∙ ap (λ b. if b then block_bytes part filling.thunks else 0) (sym miss.0)
        ]

-- ---- sizes

-- what takes bytes of a part, but for blocks
abbrev pub rest_size : Filling → ℕ → ℕ
rest_size filling p =
    let link : LinkInput = filling.content.link in
    let live : Live = filling.content.live in
    let part : PlanPart = part_at link.plan.sections p in
    bytes_of part (leading_of link filling.content.merged_lens p)
    + bytes_in link p (flat_map (λ f. map (section_taker filling) (live_of link live f)) (numbered_files link.groups))
    + bytes_in link p (flat_map (λ f. map common_taker (commons_of link live f)) (numbered_files link.groups))
    + bytes_in link p (sorted_takers filling)
    + bytes_of part (map EntryOwner (table_of link.plan.named (tables_of filling.content) p))

pub sizes_apart : (filling : Filling) (p : ℕ)
    → part_size filling p ≡ rest_size filling p + bytes_in filling.content.link p (flat_map (thunk_takers filling) (numbered_files filling.content.link.groups))
sizes_apart filling p =
    let link : LinkInput = filling.content.link in
    let live : Live = filling.content.live in
    let part : PlanPart = part_at link.plan.sections p in
    let files : List NumberedFile = numbered_files link.groups in
    let sections : NumberedFile → List Taker = λ f. map (section_taker filling) (live_of link live f) in
    let commons : NumberedFile → List Taker = λ f. map common_taker (commons_of link live f) in
    omega (
      arith,
      sum_by-append (owner_bytes part) (content_owners filling p) (map EntryOwner (table_of link.plan.named (tables_of filling.content) p)),
      sum_by-append (owner_bytes part) (leading_of link filling.content.merged_lens p) (owners_in p (takers filling)),
      bytes_in-append link p (all_file_takers filling) (sorted_takers filling),
      bytes_in_both link p sections (λ f. commons f ++ thunk_takers filling f) files,
      bytes_in_both link p commons (thunk_takers filling) files,
    )

no_owners : (link : LinkInput) → AreThunkOwners link []
no_owners link = record { there = λ k q at. absurd (cc); rising = λ j k q r less at next. absurd (cc) }

either_zero : (b : Bool) (n : ℕ) → n ≡ 0 → (if b then n else 0) ≡ 0
either_zero true n h = h
either_zero false n h = refl

no_bytes : (link : LinkInput) (p : ℕ) → blocks_in link [] p ≡ 0
no_bytes link p = by link.plan.named.primary
  where
    by : (primary : Option ℕ) → option_map_or (λ q. if q == p then block_bytes (part_at link.plan.sections p) [] else 0) primary 0 ≡ 0
    by None = refl
    by (Some q) = either_zero (q == p) (block_bytes (part_at link.plan.sections p) []) refl

-- a part's size is that without thunks, and what they bring
pub with_blocks : (filling : Filling) (p : ℕ) → AreThunkOwners filling.content.link filling.thunks
    → part_size filling p ≡ part_size (without_thunks filling) p + blocks_in filling.content.link filling.thunks p
with_blocks filling p h =
    let plain : part_size (without_thunks filling) p ≡ rest_size filling p + 0
    = sizes_apart (without_thunks filling) p
    ∙ ap (λ (n : ℕ). rest_size filling p + n) (blocks_bring (without_thunks filling) p (no_owners filling.content.link) ∙ no_bytes filling.content.link p) in
    let whole : part_size filling p ≡ rest_size filling p + blocks_in filling.content.link filling.thunks p
    = sizes_apart filling p ∙ ap (λ (n : ℕ). rest_size filling p + n) (blocks_bring filling p h) in
    let rest : ℕ = rest_size filling p in
    joined rest (part_size filling p) (part_size (without_thunks filling) p) (blocks_in filling.content.link filling.thunks p) whole plain
  where
    joined : (rest a b n : ℕ) → a ≡ rest + n → b ≡ rest + 0 → a ≡ b + n
    joined rest a b n h i = omega (arith, h, i)

-- ---- totals

-- with what blocks bring, the totals are the sizes
pub with_block_sums : (filling : Filling) (contents : List PartContents) (totals : List PartTotal) → AreThunkOwners filling.content.link filling.thunks
    → contents ≡ part_contents (without_thunks filling) → AreWithBlocks filling.content.link filling.thunks contents totals → AreSums filling totals
with_block_sums filling contents totals owners is h =
    let link : LinkInput = filling.content.link in
    let plain : Filling = without_thunks filling in
    let parts : List PlanPart = all_parts link.plan.sections in
    let long : length contents ≡ length parts = ap length is ∙ length-made (contents_of plain) parts 0 in
    let stands : (p : ℕ) (total : PartTotal) → slice_get totals p ≡ Some total → slice_get contents p ≡ Some (contents_of plain p)
    = λ p total there.
    let at = at_index parts p (omega (arith, slice_get_within totals p total there, h.count, long)) in
    let number : 0 + p ≡ p = omega arith in
    ap (λ (cs : List PartContents). slice_get cs p) is
    ∙ map_in (λ q. contents_of plain q.0) (enumerate_from 0 parts) p (0 + p, at.0) (numbered_get 0 parts p at.0 at.1)
    ∙ ap (λ (n : ℕ). Some (contents_of plain n)) number in
    record {
      count = h.count ∙ long;
      bytes = λ p total there. omega (arith, h.each p (contents_of plain p) total (stands p total there) there, with_blocks filling p owners);
      image = λ p total there. h.image p (contents_of plain p) total (stands p total there) there;
      attrs = λ p total there. h.attrs p (contents_of plain p) total (stands p total there) there;
    }

pub no_parts : (link : LinkInput) (thunks : List (FileId × ℕ)) → AreWithBlocks link thunks [] []
no_parts link thunks = record {
  count = refl;
  each = λ p c t at. absurd (cc);
  image = λ p c t at. absurd (cc);
  attrs = λ p c t at. absurd (cc);
}

-- elements of two lists that are as long, with one more each
both_at : {X Y : Type 0} (xs : List X) (ys : List Y) (x : X) (y : Y) (p : ℕ) (a : X) (b : Y) → length ys ≡ length xs → slice_get (xs ++ x ∷ []) p ≡ Some a → slice_get (ys ++ y ∷ []) p ≡ Some b
    → ((slice_get xs p ≡ Some a) × (slice_get ys p ≡ Some b)) ⊎ ((p ≡ length xs) × (x ≡ a) × (y ≡ b))
both_at [] [] x y zero a b long at_a at_b = inr (refl, cc, cc)
both_at [] [] x y (suc p) a b long at_a at_b = absurd (cc)
both_at [] (z ∷ ys) x y p a b long at_a at_b = absurd (omega (arith, long))
both_at (z ∷ xs) [] x y p a b long at_a at_b = absurd (omega (arith, long))
both_at (z ∷ xs) (w ∷ ys) x y zero a b long at_a at_b = inl (at_a, at_b)
both_at (z ∷ xs) (w ∷ ys) x y (suc p) a b long at_a at_b =
    elim (both_at xs ys x y p a b (omega (arith, long)) at_a at_b) [
      | inl front ↦ inl front
      | inr last ↦ inr (omega (arith, last.0), last.1, last.2)
    ]

-- one part more
pub one_part : (link : LinkInput) (thunks : List (FileId × ℕ)) (done : List PartContents) (totals : List PartTotal) (c : PartContents) (new : PartTotal) (more : ℕ)
    → AreWithBlocks link thunks done totals → new ≡ with_entries (record { bytes = c.bytes; has_image = c.has_image; attrs = c.attrs }) more
    → min more (2 ^ 64) ≡ min (blocks_in link thunks (length done)) (2 ^ 64) → AreWithBlocks link thunks (done ++ c ∷ []) (totals ++ new ∷ [])
one_part link thunks done totals c new more h is brought = record {
  count = omega (arith, length-append done (c ∷ []), length-append totals (new ∷ []), h.count);
  each = λ p d t at_d at_t. elim (both_at done totals c new p d t h.count at_d at_t) [
    | inl front ↦ h.each p d t front.0 front.1
    | inr last ↦
        let bytes : t.bytes ≡ min (d.bytes + more) (2 ^ 128 - 1)
        = ap (λ (u : PartTotal). u.bytes) (sym last.2 ∙ is) ∙ ap (λ (e : PartContents). min (e.bytes + more) (2 ^ 128 - 1)) last.1 in
        omega (arith, bytes, brought, ap (blocks_in link thunks) last.0)
  ];
  image = λ p d t at_d at_t. elim (both_at done totals c new p d t h.count at_d at_t) [
    | inl front ↦ h.image p d t front.0 front.1
    | inr last ↦ ap (λ (u : PartTotal). u.has_image) (sym last.2 ∙ is) ∙ ap (λ (e : PartContents). e.has_image) last.1
  ];
  attrs = λ p d t at_d at_t. elim (both_at done totals c new p d t h.count at_d at_t) [
    | inl front ↦ h.attrs p d t front.0 front.1
    | inr last ↦ ap (λ (u : PartTotal). u.attrs) (sym last.2 ∙ is) ∙ ap (λ (e : PartContents). e.attrs) last.1
  ];
}
