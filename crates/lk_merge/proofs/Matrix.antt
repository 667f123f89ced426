-- Behind every list of steps of the matrix.
use Rattle.std.proofs.Common.{◌≡◌, ◌<◌, ◌≤◌, ◌+◌, ◌||◌, ◌∙◌, [], ◌∷◌, ◌++◌, ℕ, List, Some, ap, arith, cond, get_or, length, refl, slice_get, sym, take, zero, suc, add-one}
use Rattle.std.specs.List.{concat, flat_map, range_with_len}
use Rattle.std.specs.Option.{option_map_or}
use Rattle.std.proofs.lemmas.Grind.{flat_map-append}
use Rattle.std.proofs.lemmas.List.{append-nil, take_all, take_more}
use Rattle.std.proofs.lemmas.List.Concat.{flat_map-cons}
use Rattle.std.proofs.lemmas.List.Elements.{filter-append}
use Rattle.std.proofs.lemmas.Option.{slice_get-get_or}
use Rattle.lk_grid.specs.Machine.{held_of}
use Rattle.lk_grid.proofs.Steps.{buckets_hold}
use Rattle.lk_merge.specs.declared.groups.SectionGroup.{SectionGroup}
use Rattle.lk_merge.specs.Groups.{group_pieces}
use Rattle.lk_merge.specs.Image.{all_buckets, all_pieces, bucket_list, firsts_behind, in_bucket, is_among}
use Rattle.lk_merge.specs.Matrix.{MatrixMerges, grid_of, pieces_of_group, with_pieces}
use Rattle.lk_merge.specs.Pieces.{MergeInput, Piece}
use Rattle.lk_merge.proofs.AmongLemmas.{among-append, among-firsts, firsts-append, firsts_none}
use Rattle.lk_merge.proofs.Covering.{groups_cover}

-- what is kept behind some pieces goes by which they are alone
firsts_same : (xs ys ps : List Piece) → ((p : Piece) → is_among xs p ≡ is_among ys p) → firsts_behind xs ps ≡ firsts_behind ys ps
unfolding firsts_behind
firsts_same xs ys [] same = refl
firsts_same xs ys (p ∷ ps) same =
    ap (λ t. cond t (firsts_behind (xs ++ p ∷ []) ps) (p ∷ firsts_behind (xs ++ p ∷ []) ps)) (same p)
    ∙ ap (λ rest. cond (is_among ys p) rest (p ∷ rest)) (firsts_same (xs ++ p ∷ []) (ys ++ p ∷ []) ps
    (λ q. among-append xs (p ∷ []) q ∙ ap (λ t. t || is_among (p ∷ []) q) (same q) ∙ sym (among-append ys (p ∷ []) q)))

module _ (hash : Piece → ℕ) (inputs : List MergeInput) (gs : List SectionGroup) where
  -- the pieces of the first so many groups
  unfoldable pub front : ℕ → List Piece
  front g = flat_map (group_pieces inputs) (take g gs)

  pub front_more : (g : ℕ) → g < length gs → front (g + 1) ≡ front g ++ pieces_of_group inputs gs g
  unfolding front
  front_more g there =
      let x : SectionGroup = get_or gs g (record { start = 0; end = 0 }) in
      let at : slice_get gs g ≡ Some x = slice_get-get_or gs g (record { start = 0; end = 0 }) there in
      ap (flat_map (group_pieces inputs)) (take_more gs g (record { start = 0; end = 0 }) there)
      ∙ flat_map-append (group_pieces inputs) (take g gs) (x ∷ [])
      ∙ ap (λ ps. front g ++ ps) (flat_map_one x ∙ sym (ap (λ o. option_map_or (group_pieces inputs) o []) at))
    where
      flat_map_one : (x : SectionGroup) → flat_map (group_pieces inputs) (x ∷ []) ≡ group_pieces inputs x
      flat_map_one x = flat_map-cons (group_pieces inputs) x [] ∙ append-nil (group_pieces inputs x)

  grown : (b : ℕ) (first more : List Piece) → bucket_list hash (first ++ more) b ≡ bucket_list hash first b ++ firsts_behind (in_bucket hash b first) (in_bucket hash b more)
  grown b first more = ap (firsts_behind []) (filter-append _ first more) ∙ firsts-append [] (in_bucket hash b first) (in_bucket hash b more)

  -- what the matrix makes a bucket hold is what merging keeps
  pub held_is : (b g : ℕ) → g ≤ length gs → held_of (grid_of hash inputs gs) b g ≡ bucket_list hash (front g) b
  unfolding held_of front
  held_is b zero within = sym (firsts_none [])
  held_is b (suc g) within =
      let more = in_bucket hash b (pieces_of_group inputs gs g) in
      let now = bucket_list hash (front g) b in
      ap (λ held. with_pieces held more) (held_is b g (omega (arith, within)))
      ∙ ap (λ ps. now ++ ps) (firsts_same now (in_bucket hash b (front g)) more (among-firsts (in_bucket hash b (front g))))
      ∙ sym (grown b (front g) (pieces_of_group inputs gs g))
      ∙ ap (λ ps. bucket_list hash ps b) (sym (front_more g (omega (arith, within))) ∙ ap front (add-one g))

-- lists made of some buckets go by what is made of each of these
same_buckets : (f g : ℕ → List Piece) (a n : ℕ) → ((b : ℕ) → b < a + n → f b ≡ g b) → flat_map f (range_with_len a n) ≡ flat_map g (range_with_len a n)
same_buckets f g a zero same = refl
same_buckets f g a (suc n) same =
    flat_map-cons f a (range_with_len (a + 1) n) ∙ ap (λ ps. ps ++ flat_map f (range_with_len (a + 1) n)) (same a (omega arith))
    ∙ ap (λ ps. g a ++ ps) (same_buckets f g (a + 1) n (λ b below. same b (omega (arith, below)))) ∙ sym (flat_map-cons g a (range_with_len (a + 1) n))

pub matrix_merges : MatrixMerges
unfolding front all_buckets
matrix_merges hash inputs size gs steps st ended groups h = record {
  each = held;
  all = λ done. ap concat (same_buckets (λ b. (st.buckets b).held) (bucket_list hash (all_pieces inputs)) 0 16 (λ b there. held b ∙ ap (λ n. bucket_list hash (front hash inputs gs n) b) (done b there) ∙ whole b));
}
  where
    held : (b : ℕ) → (st.buckets b).held ≡ bucket_list hash (flat_map (group_pieces inputs) (take (st.buckets b).taken gs)) b
    held b = let told = buckets_hold (grid_of hash inputs gs) steps st b h in told.0 ∙ held_is hash inputs gs b (st.buckets b).taken told.1

    whole : (b : ℕ) → bucket_list hash (front hash inputs gs (length gs)) b ≡ bucket_list hash (all_pieces inputs) b
    whole b = ap (λ ps. bucket_list hash ps b) (ap (flat_map (group_pieces inputs)) (take_all (length gs) gs (omega arith)) ∙ groups_cover.pieces inputs size gs ended groups)
