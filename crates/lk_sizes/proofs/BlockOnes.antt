-- The blocks of thunks that files own: file by file, each once, and where each stands among the owners of the primary part.
use Rattle.std.proofs.Common.{◌≡◌, ℕ, zero, suc, ◌+◌, ◌<◌, true, cond, if◌then◌else◌, List, [], ◌∷◌, ◌++◌, length, map, Option, Some, None, find, refl, sym, ap, ◌∙◌, arith, append_assoc}
use Rattle.std.specs.Prelude.{option_map}
use Rattle.std.specs.List.{flat_map, slice_get}
use Rattle.std.proofs.lemmas.Grind.{flat_map-append}
use Rattle.std.proofs.lemmas.List.{append_cancel_left}
use Rattle.std.proofs.lemmas.Option.{slice_get_within}
use Rattle.lk_link.specs.declared.ids.FileId.{FileId}
use Rattle.lk_link.specs.declared.link.LinkInput.{LinkInput}
use Rattle.lk_link.specs.declared.walks.FileRef.{FileRef}
use Rattle.lk_link.specs.Files.{file_in}
use Rattle.lk_link.specs.Inputs.{NumberedFile, numbered_files}
use Rattle.lk_link.specs.Parts.{all_parts}
use Rattle.lk_link.specs.Symbols.{file_number}
use Rattle.lk_link.specs.Walks.{file_of}
use Rattle.lk_link.specs.WellFormed.{IsWellFormed}
use Rattle.lk_link.proofs.Elements.{append_right, flat_map_at}
use Rattle.lk_link.proofs.GoodPartFields.{good_part_fields}
use Rattle.lk_link.proofs.InputLemmas.{file_stands}
use Rattle.lk_reach.proofs.WalkLemmas.{one_file_more}
use Rattle.lk_sizes.specs.Owners.{AreThunkOwners, Filling, Taker, bytes_owned, takers, thunk_taker}
use Rattle.lk_sizes.specs.PartOwners.{block_address, thunk_key}
use Rattle.lk_sizes.specs.Tables.{AreBlocksLeft, behind_leading, blocks_of, bytes_in, own_block}
use Rattle.lk_sizes.proofs.Addressing.{address_behind, stands_behind}
use Rattle.lk_sizes.proofs.Lists.{flat_alike}
use Rattle.lk_sizes.proofs.OwnerKeys.{blocks_once, place_is_number}
use Rattle.lk_sizes.proofs.ThunkBytes.{file_of_some, itself, other_id, same_id, tail}

-- ---- what one file owns

own_first : (q : FileId × ℕ) (qs : List (FileId × ℕ)) (f : NumberedFile) → q.0 ≡ f.id → blocks_of (q ∷ qs) f ≡ q ∷ []
own_first q qs f is =
    let hit : same_id f.id q ≡ true = ap (λ (id : FileId). same_id id q) (sym is) ∙ itself q in
    ap (λ b. own_block f.id (option_map (λ r. r.1) (cond b (Some q) (find (same_id f.id) qs)))) hit
    ∙ ap (λ (id : FileId). own_block id (Some q.1)) (sym is)

own_other : (q : FileId × ℕ) (qs : List (FileId × ℕ)) (f : NumberedFile) → (q.0 ≡ f.id → ⊥) → blocks_of (q ∷ qs) f ≡ blocks_of qs f
own_other q qs f other = ap (λ b. own_block f.id (option_map (λ r. r.1) (cond b (Some q) (find (same_id f.id) qs)))) (other_id f.id q other)

owns_none : (qs : List (FileId × ℕ)) (f : NumberedFile) → ((k : ℕ) (q : FileId × ℕ) → slice_get qs k ≡ Some q → q.0 ≡ f.id → ⊥) → blocks_of qs f ≡ []
owns_none [] f none = refl
owns_none (q ∷ qs) f none = own_other q qs f (none 0 q refl) ∙ owns_none qs f (λ k. none (suc k))

-- ---- what all files own

-- one place has one more, and nothing stands before it
one_in_front : {X Y : Type 0} (g h : X → List Y) (xs : List X) (n : ℕ) (x : X) (y : Y) → slice_get xs n ≡ Some x → g x ≡ y ∷ []
    → ((k : ℕ) (z : X) → k < n → slice_get xs k ≡ Some z → g z ≡ []) → ((k : ℕ) (z : X) → k < n + 1 → slice_get xs k ≡ Some z → h z ≡ [])
    → ((k : ℕ) (z : X) → n < k → slice_get xs k ≡ Some z → g z ≡ h z) → flat_map g xs ≡ y ∷ flat_map h xs
one_in_front g h [] n x y there one before none same = absurd (cc)
one_in_front {X} {Y} g h (z ∷ xs) zero x y there one before none same =
    let is : z ≡ x = cc in
    ap (λ (ys : List Y). ys ++ flat_map g xs) (ap g is ∙ one)
    ∙ ap (λ (ys : List Y). y ∷ ys) (flat_alike g h xs (λ k w at. same (suc k) w (omega arith) at) ∙ sym (ap (λ (ys : List Y). ys ++ flat_map h xs) (none 0 z (omega arith) refl)))
one_in_front {X} {Y} g h (z ∷ xs) (suc n) x y there one before none same =
    ap (λ (ys : List Y). ys ++ flat_map g xs) (before 0 z (omega arith) refl)
    ∙ one_in_front g h xs n x y there one (λ k w lt at. before (suc k) w (omega (arith, lt)) at) (λ k w lt at. none (suc k) w (omega (arith, lt)) at) (λ k w lt at. same (suc k) w (omega (arith, lt)) at)
    ∙ ap (λ (ys : List Y). y ∷ ys) (sym (ap (λ (ys : List Y). ys ++ flat_map h xs) (none 0 z (omega arith) refl)))

-- file by file they are all there
pub all_blocks : (link : LinkInput) (qs : List (FileId × ℕ)) → AreThunkOwners link qs → flat_map (blocks_of qs) (numbered_files link.groups) ≡ qs
all_blocks link [] h = nothing (numbered_files link.groups)
  where
    nothing : (fs : List NumberedFile) → flat_map (blocks_of []) fs ≡ []
    nothing [] = refl
    nothing (f ∷ fs) = nothing fs
all_blocks link (q ∷ qs) h =
    let files : List NumberedFile = numbered_files link.groups in
    let file = file_of_some (file_in link.groups q.0) (h.there 0 q refl) in
    let f : NumberedFile = record { id = q.0; file = file.0 } in
    let n : ℕ = file_number link.groups q.0 in
    let none : (k : ℕ) (g : NumberedFile) → k < n + 1 → slice_get files k ≡ Some g → blocks_of qs g ≡ []
    = λ k g lt at. owns_none qs g (λ j r there same. absurd (omega (
      arith,
      lt,
      place_is_number link k g at,
      ap (file_number link.groups) same,
      h.rising 0 (suc j) q r (omega arith) refl there,
    ))) in
    one_in_front (blocks_of (q ∷ qs)) (blocks_of qs) files n f q (file_stands link.groups q.0 file.0 file.1) (own_first q qs f refl)
    (λ k g lt at. own_other q qs g (λ same. absurd (omega (arith, lt, place_is_number link k g at, ap (file_number link.groups) same))) ∙ none k g (omega (arith, lt)) at)
    none
    (λ k g lt at. own_other q qs g (λ same. absurd (omega (arith, lt, place_is_number link k g at, ap (file_number link.groups) same))))
    ∙ ap (λ (rs : List (FileId × ℕ)). q ∷ rs) (all_blocks link qs (tail link q qs h))

-- ---- those that are left

-- when files are done
pub next_blocks : (link : LinkInput) (thunks : List (FileId × ℕ)) (done : List NumberedFile) (f : NumberedFile) (rest : List NumberedFile) (left : List (FileId × ℕ))
    → AreThunkOwners link thunks → numbered_files link.groups ≡ done ++ f ∷ rest → flat_map (blocks_of thunks) done ++ left ≡ thunks → AreBlocksLeft link thunks f left
next_blocks link thunks done f rest left owners files all =
    let split : thunks ≡ flat_map (blocks_of thunks) done ++ (blocks_of thunks f ++ flat_map (blocks_of thunks) rest)
    = sym (all_blocks link thunks owners) ∙ ap (flat_map (blocks_of thunks)) files ∙ flat_map-append (blocks_of thunks) done (f ∷ rest) in
    record {
      done = done;
      rest = rest;
      files = files;
      blocks = append_cancel_left (flat_map (blocks_of thunks) done) left (blocks_of thunks f ++ flat_map (blocks_of thunks) rest) (all ∙ split);
    }

-- and when the next one is
pub still_blocks : (thunks : List (FileId × ℕ)) (yielded : List FileRef) (file : FileRef) (own : Option ℕ) (behind left : List (FileId × ℕ)) → own ≡ bytes_owned thunks file.id
    → own_block file.id own ++ behind ≡ left → flat_map (blocks_of thunks) (map file_of yielded) ++ left ≡ thunks
    → flat_map (blocks_of thunks) (map file_of (yielded ++ file ∷ [])) ++ behind ≡ thunks
still_blocks thunks yielded file own behind left is joined all =
    let done : List (FileId × ℕ) = flat_map (blocks_of thunks) (map file_of yielded) in
    ap (λ (qs : List (FileId × ℕ)). qs ++ behind) (one_file_more (blocks_of thunks) yielded file)
    ∙ append_assoc done (blocks_of thunks (file_of file)) behind
    ∙ ap (λ (o : Option ℕ). done ++ (own_block file.id o ++ behind)) (sym is)
    ∙ ap (λ (qs : List (FileId × ℕ)). done ++ qs) joined
    ∙ all

-- nothing is left, so the file owns none
pub none_left : (link : LinkInput) (thunks : List (FileId × ℕ)) (f : NumberedFile) (left : List (FileId × ℕ)) → AreBlocksLeft link thunks f left → left ≡ [] → bytes_owned thunks f.id ≡ None
none_left link thunks f left h is = by (bytes_owned thunks f.id) refl
  where
    by : (o : Option ℕ) → bytes_owned thunks f.id ≡ o → o ≡ None
    by None of = refl
    by (Some n) of =
        let rest : List (FileId × ℕ) = flat_map (blocks_of thunks) h.rest in
        let front : left ≡ (f.id, n) ∷ rest = h.blocks ∙ ap (λ (o : Option ℕ). own_block f.id o ++ rest) of in
        absurd (cc)

-- of those that are left, the first one is the file's, if any is
pub first_left : (link : LinkInput) (thunks : List (FileId × ℕ)) (f : NumberedFile) (left : List (FileId × ℕ)) (q : FileId × ℕ) (qs : List (FileId × ℕ)) → AreBlocksLeft link thunks f left → left ≡ q ∷ qs
    → bytes_owned thunks f.id ≡ (if same_id f.id q then Some q.1 else None)
first_left link thunks f left q qs h is = by (bytes_owned thunks f.id) refl
  where
    rest : List (FileId × ℕ)
    rest = flat_map (blocks_of thunks) h.rest

    -- a block behind is another file's
    other : bytes_owned thunks f.id ≡ None → q.0 ≡ f.id → ⊥
    other of same =
        let behind : slice_get rest 0 ≡ Some q
        = ap (λ (rs : List (FileId × ℕ)). slice_get rs 0) (sym (h.blocks ∙ ap (λ (o : Option ℕ). own_block f.id o ++ rest) of) ∙ is) in
        let at = flat_map_at (blocks_of thunks) h.rest 0 q behind in
        let n : ℕ = length h.done in
        let files : List NumberedFile = numbered_files link.groups in
        let here : slice_get files (n + 0) ≡ Some f
        = ap (λ (fs : List NumberedFile). slice_get fs (n + 0)) h.files ∙ append_right h.done (f ∷ h.rest) 0 (n + 0) f refl refl in
        let there : slice_get files (n + suc at.outer) ≡ Some at.from
        = ap (λ (fs : List NumberedFile). slice_get fs (n + suc at.outer)) h.files ∙ append_right h.done (f ∷ h.rest) (suc at.outer) (n + suc at.outer) at.from refl at.there in
        let its : q.0 ≡ at.from.id = owner (bytes_owned thunks at.from.id) at.from.id at.inner at.gives in
        absurd (omega (
          arith,
          place_is_number link (n + 0) f here,
          place_is_number link (n + suc at.outer) at.from there,
          ap (file_number link.groups) (sym same ∙ its),
        ))
      where
        owner : (o : Option ℕ) (id : FileId) (k : ℕ) → slice_get (own_block id o) k ≡ Some q → q.0 ≡ id
        owner None id k at = absurd (cc)
        owner (Some m) id zero at = let one : (id, m) ≡ q = cc in ap (λ (r : FileId × ℕ). r.0) (sym one)
        owner (Some m) id (suc k) at = absurd (cc)

    by : (o : Option ℕ) → bytes_owned thunks f.id ≡ o → o ≡ (if same_id f.id q then Some q.1 else None)
    by None of = ap (λ b. if b then Some q.1 else None) (sym (other_id f.id q (other of)))
    by (Some n) of =
        let front : (f.id, n) ∷ rest ≡ q ∷ qs = sym (h.blocks ∙ ap (λ (o : Option ℕ). own_block f.id o ++ rest) of) ∙ is in
        let one : (f.id, n) ≡ q = cc in
        let hit : same_id f.id q ≡ true = ap (same_id f.id) (sym one) ∙ itself (f.id, n) in
        ap (λ (r : FileId × ℕ). Some r.1) one ∙ ap (λ b. if b then Some q.1 else None) (sym hit)

-- ---- among the owners of the primary part

-- that part is one of the plan's
pub primary_goes : (link : LinkInput) (p : ℕ) → IsWellFormed link → link.plan.named.primary ≡ Some p → p < length (all_parts link.plan.sections)
primary_goes link p good is =
    let free = (good_part_fields link good).primary p is in
    slice_get_within (all_parts link.plan.sections) p free.0.part free.0.there

-- a block's address
pub block_behind : (filling : Filling) (starts : List ℕ) (front : List Taker) (id : FileId) (p size : ℕ) (rest : List Taker) → takers filling ≡ front ++ thunk_taker id p size ∷ rest
    → block_address filling starts p id ≡ behind_leading filling.content.link filling.content.merged_lens starts p + bytes_in filling.content.link p front
block_behind filling starts front id p size rest all =
    let link : LinkInput = filling.content.link in
    let key = thunk_key link in
    let n : ℕ = file_number link.groups id in
    let t : Taker = thunk_taker id p size in
    address_behind key n filling starts front t (stands_behind key n filling front t rest all refl (blocks_once filling p))
