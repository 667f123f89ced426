use Rattle.std.proofs.Common.{◌≡◌, List, ◌∙◌, Some, None, length, sym, ap}
use Rattle.std.specs.List.{concat, slice_get}
use Rattle.std.proofs.lemmas.Option.{slice_get-get_or, slice_get_past}
use Rattle.lk_merge.specs.Buckets.{Bucket}
use Rattle.lk_merge.specs.Hash.{fnv64}
use Rattle.lk_merge.specs.Image.{all_pieces, bucket_list}
use Rattle.lk_merge.specs.Pieces.{Piece, MergeInput}
use Rattle.lk_merge.proofs.Counting.{kept_at, kept_none}
use Rattle.lk_merge.proofs.section.MergedStringsSection.bucket_len.Goals as goal

pub returns-in-Some : goal.returns-in-Some
returns-in-Some c =
    let i = c.self.inside in
    let there : slice_get i.buckets.items c.args.bucket ≡ Some c.in-Some.bucket.now
    = ap (λ (l : List Bucket). slice_get l c.args.bucket) (sym c.as_slice.ensures.value)
    ∙ slice_get-get_or c.as_slice.result.now c.args.bucket c.in-Some.bucket.now c.in-Some.ensures.lookup.3.0
    ∙ ap (λ (k : Bucket). Some k) (sym c.in-Some.ensures.lookup.1) in
    c.len.ensures.bytes ∙ ap (λ (ps : List Piece). length (concat ps)) (kept_at i.inputs i.buckets.items i.string_offsets c.self.invariant c.args.bucket c.in-Some.bucket.now c.requires there)
    ∙ ap (λ (xs : List MergeInput). length (concat (bucket_list fnv64 (all_pieces xs) c.args.bucket))) c.self.view_is

pub returns-in-None : goal.returns-in-None
returns-in-None c =
    let i = c.self.inside in
    let none : slice_get i.buckets.items c.args.bucket ≡ None
    = ap (λ (l : List Bucket). slice_get l c.args.bucket) (sym c.as_slice.ensures.value) ∙ slice_get_past c.as_slice.result.now c.args.bucket c.in-None.ensures.lookup.3 in
    ap (λ (ps : List Piece). length (concat ps)) (kept_none i.inputs i.buckets.items i.string_offsets c.self.invariant c.args.bucket c.requires none)
    ∙ ap (λ (xs : List MergeInput). length (concat (bucket_list fnv64 (all_pieces xs) c.args.bucket))) c.self.view_is
