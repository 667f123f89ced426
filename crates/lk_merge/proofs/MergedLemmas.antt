-- A merged section's buckets and offset map.
use Rattle.std.proofs.Common.{◌≡◌, ◌≢◌, ℕ, zero, suc, ◌+◌, ◌<◌, ◌≤◌, ◌^◌, Bool, true, false, eqb, List, [], ◌∷◌, length, map, take, get_or, Option, None, Some, Err, option_map, refl, sym, ap, ◌∙◌, subst, arith}
use Rattle.std.specs.List.{concat, list_all, range_with_len, slice_get, All}
use Rattle.std.proofs.lemmas.Bool.{eqb-true, eqb-false}
use Rattle.std.proofs.lemmas.List.{length-map, get_or-take}
use Rattle.std.proofs.lemmas.List.FromFn.{fill_by_all}
use Rattle.std.proofs.lemmas.Option.{slice_get-map, slice_get-get_or, get_or_from_slice_get}
use Rattle.lk_link.specs.Files.{first_some}
use Rattle.lk_merge.specs.declared.error.MergeError.{MergeError}
use Rattle.lk_merge.specs.declared.error.MergeError.TheVariants.{NotTerminated, TooLarge, NoMemory}
use Rattle.lk_merge.specs.declared.merging.BucketState.{BucketState}
use Rattle.lk_merge.specs.declared.merging.Merging.{Merging as Merges}
use Rattle.lk_merge.specs.declared.offset_map.OffsetMap.{OffsetMap}
use Rattle.lk_merge.specs.Buckets.{Bucket}
use Rattle.lk_merge.specs.Hash.{fnv64}
use Rattle.lk_merge.specs.Image.{all_buckets, all_pieces, bucket_list, in_bucket}
use Rattle.lk_merge.specs.Inputs.{Located, located}
use Rattle.lk_merge.specs.MergedTables.{IsMerged}
use Rattle.lk_merge.specs.Merging.{bucket_refusal, first_of, kept_lists, long_refusal}
use Rattle.lk_merge.specs.MergingTables.{AllFit, GivesFitting, HasMerged, entry_of, pieces_in}
use Rattle.lk_merge.specs.OffsetMapTables.{HoldsIn}
use Rattle.lk_merge.specs.Pieces.{Piece, MergeInput, is_terminated}
use Rattle.lk_merge.proofs.TooLong.{none_first, some_first, unrefused_fits}
use Rattle.lk_merge.proofs.Beginning.{no_list}
use Rattle.lk_link.proofs.Elements.{map_at}
use Rattle.lk_merge.proofs.InputLemmas.{located_none, pieces_located_from}
use Rattle.lk_merge.proofs.LocatedLemmas.{slice_within}

pub no_merged : (entries : OffsetMap) → HoldsIn [] entries → IsMerged [] [] entries
no_merged entries none = record {
  terminated = refl;
  kept = refl;
  numbered = λ b k there. absurd (cc);
  small = λ b h. let n : length (concat (bucket_list fnv64 [] b)) ≡ 0 = ap (λ l. length (concat l)) (no_list b) in omega (arith, n);
  offsets = subst (λ es. HoldsIn es entries) (ap (map (entry_of [])) (sym (located_none 0 0))) none;
}

-- one entry for each piece
pub entries_count : (inputs : List MergeInput) → length (map (entry_of (all_pieces inputs)) (located inputs)) ≡ length (all_pieces inputs)
entries_count inputs =
    length-map (located inputs) (entry_of (all_pieces inputs)) ∙ sym (length-map (located inputs) (λ (l : Located). l.piece))
    ∙ ap length (pieces_located_from 0 0 inputs)

-- ---- what has been merged is a merged section

states_at : (states : List BucketState) (b : ℕ) → b < length states → (s : BucketState) × (slice_get states b ≡ Some s)
states_at [] b h = absurd (omega arith)
states_at (s ∷ states) zero h = (s, refl)
states_at (s ∷ states) (suc b) h = states_at states b (omega arith)

module _ (section limit : ℕ) (done : List Located) (merging : Merges) (h : HasMerged section limit done merging) where
  abbrev pieces : List Piece
  pieces = pieces_in done

  state_refusal : (b : ℕ) (s : BucketState) → slice_get merging.buckets.items b ≡ Some s → bucket_refusal section limit b (bucket_list fnv64 pieces b) ≡ s.refusal
  state_refusal b s at = sym (h.buckets b s at).refusal

  pub all_fit : All (λ (s : BucketState). s.refusal ≡ None) merging.buckets.items → AllFit section limit pieces
  all_fit none b small =
      let s = states_at merging.buckets.items b (omega (arith, h.count)) in
      let same : get_or merging.buckets.items b s.0 ≡ s.0 = get_or_from_slice_get merging.buckets.items b s.0 s.0 s.1 in
      state_refusal b s.0 s.1 ∙ subst (λ (z : BucketState). z.refusal ≡ None) same (none b s.0 (omega (arith, h.count)))

  list_at : (fit : AllFit section limit pieces) (b : ℕ) → b < 16
      → get_or (map (λ (k : Bucket). k.pieces) (map (λ (s : BucketState). s.bucket) merging.buckets.items)) b [] ≡ bucket_list fnv64 pieces b
  list_at fit b small =
      let states : List BucketState = merging.buckets.items in
      let s = states_at states b (omega (arith, h.count)) in
      let there : slice_get (map (λ (k : Bucket). k.pieces) (map (λ (z : BucketState). z.bucket) states)) b ≡ Some s.0.bucket.pieces
      = slice_get-map (λ (k : Bucket). k.pieces) (map (λ (z : BucketState). z.bucket) states) b
      ∙ ap (option_map (λ (k : Bucket). k.pieces)) (slice_get-map (λ (z : BucketState). z.bucket) states b ∙ ap (option_map (λ (z : BucketState). z.bucket)) s.1) in
      get_or_from_slice_get _ b s.0.bucket.pieces [] there ∙ ap (λ (k : Bucket). k.pieces) ((h.buckets b s.0 s.1).holds (fit b small))

  pub kept_are : AllFit section limit pieces
      → map (λ (k : Bucket). k.pieces) (map (λ (s : BucketState). s.bucket) merging.buckets.items) ≡ map (bucket_list fnv64 pieces) all_buckets
  unfolding all_buckets
  kept_are fit =
      fill_by_all (bucket_list fnv64 pieces) _ 16 [] (length-map (map (λ (s : BucketState). s.bucket) merging.buckets.items) (λ (k : Bucket). k.pieces)
      ∙ length-map merging.buckets.items (λ (s : BucketState). s.bucket) ∙ h.count) (λ k small. list_at fit k small)

  pub lists_small : limit ≤ 2 ^ 28 → AllFit section limit pieces → (b : ℕ) → b < 16 → length (concat (bucket_list fnv64 pieces b)) ≤ 2 ^ 28
  lists_small small fit b below = let n = unrefused_fits section limit b (in_bucket fnv64 b pieces) (fit b below) in omega (arith, n)

kept_lists_some : (inputs : List MergeInput) → length inputs ≢ 0 → kept_lists fnv64 inputs ≡ map (bucket_list fnv64 (all_pieces inputs)) all_buckets
kept_lists_some [] h = absurd (h refl)
kept_lists_some (x ∷ xs) h = refl

pub is_merged : (section limit : ℕ) (inputs : List MergeInput) (merging : Merges) (buckets : List Bucket) (entries : OffsetMap) → limit ≤ 2 ^ 28
    → HasMerged section limit (located inputs) merging → list_all is_terminated inputs ≡ true → length inputs ≢ 0
    → All (λ (s : BucketState). s.refusal ≡ None) merging.buckets.items → buckets ≡ map (λ (s : BucketState). s.bucket) merging.buckets.items
    → entries ≡ merging.entries → IsMerged inputs buckets entries
is_merged section limit inputs merging buckets entries small h terminated some none are is =
    let all : pieces_in (located inputs) ≡ all_pieces inputs = pieces_located_from 0 0 inputs in
    let fit = all_fit section limit (located inputs) merging h none in
    record {
      terminated = terminated;
      kept =
          ap (map (λ (k : Bucket). k.pieces)) are ∙ kept_are section limit (located inputs) merging h fit
          ∙ ap (λ ps. map (bucket_list fnv64 ps) all_buckets) all ∙ sym (kept_lists_some inputs some);
      numbered = λ b k there.
          let bucket_of : BucketState → Bucket = λ s. s.bucket in
          let from = map_at bucket_of merging.buckets.items b k (ap (λ (l : List Bucket). slice_get l b) (sym are) ∙ there) in
          let within = slice_within merging.buckets.items b from.0 from.1 in
          let holds = (h.buckets b from.0 from.1).holds (fit b (omega (arith, within, h.count))) in
          ap (λ (z : Bucket). z.number) (sym from.2 ∙ holds);
      small = λ b below. subst (λ ps. length (concat (bucket_list fnv64 ps b)) ≤ 2 ^ 28) all (lists_small section limit (located inputs) merging h small fit b below);
      offsets = subst (λ m. HoldsIn (map (entry_of (all_pieces inputs)) (located inputs)) m) (sym is)
          (subst (λ ps. HoldsIn (map (entry_of ps) (located inputs)) merging.entries) all (h.entries fit));
    }

-- ---- the refusal of the least bucket

none_among : (f : ℕ → Option MergeError) (a n : ℕ) → ((b : ℕ) → a ≤ b → b < a + n → f b ≡ None) → first_of f (range_with_len a n) ≡ None
unfolding first_of
none_among f a zero h = refl
none_among f a (suc n) h =
    ap (λ o. first_some o (first_of f (range_with_len (a + 1) n))) (h a (omega arith) (omega arith)) ∙ none_first _
    ∙ none_among f (a + 1) n (λ b low high. h b (omega arith) (omega arith))

first_among : (f : ℕ → Option MergeError) (a n i : ℕ) (e : MergeError) → a ≤ i → i < a + n → ((b : ℕ) → a ≤ b → b < i → f b ≡ None) → f i ≡ Some e
    → first_of f (range_with_len a n) ≡ Some e
unfolding first_of
first_among f a zero i e low high none is = absurd (omega arith)
first_among f a (suc n) i e low high none is = by (eqb a i) refl (first_among f (a + 1) n i e)
  where
    by : (t : Bool) → eqb a i ≡ t
        → (a + 1 ≤ i → i < (a + 1) + n → ((b : ℕ) → a + 1 ≤ b → b < i → f b ≡ None) → f i ≡ Some e → first_of f (range_with_len (a + 1) n) ≡ Some e)
        → first_some (f a) (first_of f (range_with_len (a + 1) n)) ≡ Some e
    by true t rest = ap (λ o. first_some o (first_of f (range_with_len (a + 1) n))) (ap f (eqb-true a i t) ∙ is) ∙ some_first e _
    by false t rest =
        let differ : a ≢ i = eqb-false a i t in
        ap (λ o. first_some o (first_of f (range_with_len (a + 1) n))) (none a (omega arith) (omega arith)) ∙ none_first _
        ∙ rest (omega arith) (omega arith) (λ b l r. none b (omega arith) r) is

pub no_long : (section limit : ℕ) (all : List Piece) → AllFit section limit all → long_refusal fnv64 section limit all ≡ None
unfolding all_buckets
no_long section limit all fit = none_among (λ b. bucket_refusal section limit b (bucket_list fnv64 all b)) 0 16 (λ b low high. fit b high)

pub found_long : (section limit : ℕ) (done : List Located) (merging : Merges) (before : List BucketState) (state : BucketState) (e : MergeError)
    → HasMerged section limit done merging → All (λ (s : BucketState). s.refusal ≡ None) before
    → before ≡ take (length before) merging.buckets.items → length before < length merging.buckets.items
    → state ≡ get_or merging.buckets.items (length before) state → state.refusal ≡ Some e
    → long_refusal fnv64 section limit (pieces_in done) ≡ Some e
unfolding all_buckets
found_long section limit done merging before state e h none are within at is =
    let states : List BucketState = merging.buckets.items in
    let i : ℕ = length before in
    let f : ℕ → Option MergeError = λ b. bucket_refusal section limit b (bucket_list fnv64 (pieces_in done) b) in
    let here : slice_get states i ≡ Some state = slice_get-get_or states i state within ∙ ap (λ (s : BucketState). Some s) (sym at) in
    first_among f 0 16 i e (omega arith) (omega (arith, h.count)) (λ b low high.
    let s = states_at states b (omega arith) in
    let same : get_or before b s.0 ≡ s.0 = ap (λ l. get_or l b s.0) are ∙ get_or-take i states b s.0 high ∙ get_or_from_slice_get states b s.0 s.0 s.1 in
    state_refusal section limit done merging h b s.0 s.1 ∙ subst (λ (z : BucketState). z.refusal ≡ None) same (none b s.0 high))
    (state_refusal section limit done merging h i state here ∙ is)

pub gives_long : (section limit : ℕ) (all : List Piece) (inputs : List MergeInput) (e : MergeError) → long_refusal fnv64 section limit all ≡ Some e
    → GivesFitting section limit all inputs (Err e)
gives_long section limit all inputs (NotTerminated s i) h = h
gives_long section limit all inputs (TooLarge s b o n) h = h
gives_long section limit all inputs NoMemory h = tt
