-- What a merged section tells: how much it keeps, and of how much.
use Rattle.std.proofs.Common.{◌≡◌, ℕ, zero, suc, ◌+◌, ◌*◌, ◌<◌, ◌≤◌, ◌^◌, Bool, true, false, List, [], ◌∷◌, ◌++◌, length, map, sum_by, refl, subst, arith, length-append}
use Rattle.std.specs.Prelude.{if◌then◌else◌}
use Rattle.std.specs.List.{concat, flat_map, range_with_len}
use Rattle.std.proofs.lemmas.List.Sums.{sum_by-cons, sum_by-le-sum_by}
use denote.Known.{Known, declared_known, view_known}
use denote.Ref.{NamedLft}
use Rattle.lk_merge.specs.Hash.{fnv64}
use Rattle.lk_merge.specs.Image.{all_buckets, all_pieces, bucket_list, firsts_behind, image, image_pieces, in_bucket, is_among}
use Rattle.lk_merge.specs.Inputs.{AreInputs, input_of, padded_len}
use Rattle.lk_merge.specs.Pieces.{MergeInput, Piece, pieces_of}
use Rattle.lk_merge.specs.contracts.inputs.StringMergeInputSections as inputs_row
use Rattle.lk_merge.specs.contracts.inputs.StringMergeInputSections.TheInside as inputs_inside
use Rattle.lk_merge.specs.contracts.section.MergedStringsSection as merged_row
use Rattle.lk_merge.specs.contracts.section.MergedStringsSection.TheInside as merged_inside
use Rattle.lk_merge.specs.declared.inputs.StringMergeInputSection.{StringMergeInputSection}
use Rattle.lk_merge.proofs.Counting.{data_bytes, data_len, length_concat_flat}
use Rattle.lk_merge.proofs.EachOne.{Each, each_append, each_filter}
use Rattle.lk_merge.proofs.GoodPieces.{have_bytes}
use Rattle.lk_merge.proofs.LaidOut.{data_fits}
use Rattle.lk_merge.proofs.LocatedLemmas.{HaveBytes}
use Rattle.lk_merge.proofs.MergeBytes.{sum_map}
use Rattle.lk_report_maps.proofs.TypeFacts.{◌&◌, nothing, told_so}

-- ---- pieces that have bytes

abbrev HasBytes : Piece → Type 0
HasBytes p = 0 < length p

each_of : (ps : List Piece) → HaveBytes ps → Each HasBytes ps
each_of [] h = tt
each_of (p ∷ ps) h = (h 0 p refl, each_of ps (λ k q at. h (suc k) q at))

each_flat : {X : Type 0} (f : X → List Piece) → ((x : X) → Each HasBytes (f x)) → (xs : List X) → Each HasBytes (flat_map f xs)
each_flat f h [] = tt
each_flat f h (x ∷ xs) = each_append HasBytes (f x) (flat_map f xs) (h x) (each_flat f h xs)

each_if : (b : Bool) (p : Piece) (ps : List Piece) → HasBytes p → Each HasBytes ps → Each HasBytes (if b then ps else p ∷ ps)
each_if true p ps h rest = rest
each_if false p ps h rest = (h, rest)

each_first : (before ps : List Piece) → Each HasBytes ps → Each HasBytes (firsts_behind before ps)
unfolding firsts_behind
each_first before [] h = tt
each_first before (p ∷ ps) h = each_if (is_among before p) p (firsts_behind (before ++ p ∷ []) ps) h.0 (each_first (before ++ p ∷ []) ps h.1)

-- no more pieces than bytes
few_pieces : (ps : List Piece) → Each HasBytes ps → length ps ≤ length (concat ps)
few_pieces [] h = omega arith
few_pieces (p ∷ ps) h = omega (arith, length-append p (concat ps), few_pieces ps h.1, h.0)

all_have : (inputs : List MergeInput) → Each HasBytes (all_pieces inputs)
all_have inputs = each_flat pieces_of (λ x. each_of (pieces_of x) (have_bytes x)) inputs

kept_have : (pieces : List Piece) → Each HasBytes pieces → Each HasBytes (image_pieces fnv64 pieces)
kept_have pieces h =
    each_flat (bucket_list fnv64 pieces) (λ b. each_first [] (in_bucket fnv64 b pieces) (each_filter HasBytes _ pieces h)) all_buckets

-- ---- how much is kept

sum_within : (f : ℕ → ℕ) (most a n : ℕ) → ((b : ℕ) → a ≤ b → b < a + n → f b ≤ most) → sum_by f (range_with_len a n) ≤ n * most
sum_within f most a zero h = omega arith
sum_within f most a (suc n) h =
    let first = h a (omega arith) (omega arith) in
    let rest = sum_within f most (a + 1) n (λ b low high. h b (omega arith) (omega arith)) in
    omega (arith, sum_by-cons f a (range_with_len (a + 1) n), first, rest)

image_few : (inputs : List MergeInput) → ((b : ℕ) → b < 16 → length (concat (bucket_list fnv64 (all_pieces inputs) b)) ≤ 2 ^ 28) → length (image fnv64 (all_pieces inputs)) ≤ 16 * 2 ^ 28
unfolding all_buckets
image_few inputs small =
    let most = sum_within (λ b. length (concat (bucket_list fnv64 (all_pieces inputs) b))) (2 ^ 28) 0 16 (λ b low high. small b high) in
    omega (arith, length_concat_flat (bucket_list fnv64 (all_pieces inputs)) all_buckets, most)

-- the numbers that are told of what is merged in an output section are below 2^64
pub record IsShortMerged (inputs : List MergeInput) : Type 0 where
  pub image : length (image fnv64 (all_pieces inputs)) < 2 ^ 64
  pub kept : length (image_pieces fnv64 (all_pieces inputs)) < 2 ^ 64
  pub pieces : length (all_pieces inputs) < 2 ^ 64
  pub bytes : length (concat (all_pieces inputs)) < 2 ^ 64

short_merged : (inputs : List MergeInput) (sections : List StringMergeInputSection) (total : ℕ) → map input_of sections ≡ inputs → AreInputs total sections
    → ((b : ℕ) → b < 16 → length (concat (bucket_list fnv64 (all_pieces inputs) b)) ≤ 2 ^ 28) → sum_by data_len sections ≡ length (concat (all_pieces inputs)) → IsShortMerged inputs
short_merged inputs sections total are h small sum =
    let all = sum_by-le-sum_by data_len (λ s. padded_len (input_of s)) sections (λ s. data_fits (input_of s)) in
    let bytes : length (concat (all_pieces inputs)) < 2 ^ 63 = omega (arith, all, sum_map padded_len input_of sections, h.sum, h.fits, sum) in
    record {
      image = omega (arith, image_few inputs small);
      kept = omega (arith, image_few inputs small, few_pieces (image_pieces fnv64 (all_pieces inputs)) (kept_have (all_pieces inputs) (all_have inputs)));
      pieces = omega (arith, bytes, few_pieces (all_pieces inputs) (all_have inputs));
      bytes = omega (arith, bytes);
    }

module _ (a : NamedLft) where
  abbrev pub of_inputs : Known (inputs_row.the_row a)
  of_inputs =
      view_known (inputs_inside.the_row a) (declared_known (inputs_inside.the_type a) (nothing & nothing & tt)) (List MergeInput) (inputs_row.the_row a).coded
      (inputs_row.the_view a) (inputs_row.the_invariant a)

  abbrev pub of_merged_view : Known (merged_row.the_row a)
  of_merged_view =
      view_known (merged_inside.the_row a) (declared_known (merged_inside.the_type a) (of_inputs & nothing & nothing & tt)) (List MergeInput) (merged_row.the_row a).coded
      (merged_row.the_view a) (merged_row.the_invariant a)

  pub merged_tells : (inputs : List MergeInput) → of_merged_view.Fact inputs → IsShortMerged inputs
  merged_tells inputs f =
      let m = f.0 in
      let s = f.2.0 in
      subst IsShortMerged f.1.0 (short_merged m.inputs s.0.sections.items s.0.total s.1.0 s.1.1 f.1.1.small (data_bytes s.0.sections.items m.inputs s.1.0 f.1.1.terminated))

  abbrev pub of_merged : Known (merged_row.the_row a)
  of_merged = told_so (merged_row.the_row a) of_merged_view IsShortMerged merged_tells
