use Rattle.std.proofs.Common.{◌≡◌, ◌∙◌, ◌+◌, ℕ, Some, sym, ap}
use Rattle.std.specs.List.{slice_get}
use Rattle.std.proofs.lemmas.Option.{slice_get-get_or}
use Rattle.lk_merge.proofs.KeptStarts.{start_of}
use Rattle.lk_merge.proofs.piece_starts.PieceStarts.at.Goals as goal

pub returns : goal.returns
returns c = λ pieces h.
    let s = c.args.self.now in
    let k = c.args.index in
    let offset : slice_get s.offsets.items k ≡ Some c.in-Some-Some.offset.now
    = ap (λ l. slice_get l k) (sym c.as_slice.ensures.value) ∙ slice_get-get_or c.as_slice.result.now k c.in-Some-Some.offset.now c.in-Some-Some.ensures.lookup.3.0
    ∙ ap (λ (n : ℕ). Some n) (sym c.in-Some-Some.ensures.lookup.1) in
    let own : slice_get s.buckets.items k ≡ Some c.in-Some-Some.bucket.now
    = ap (λ l. slice_get l k) (sym c.as_slice-2.ensures.value) ∙ slice_get-get_or c.as_slice-2.result.now k c.in-Some-Some.bucket.now c.in-Some-Some.ensures'.lookup.3.0
    ∙ ap (λ (n : ℕ). Some n) (sym c.in-Some-Some.ensures'.lookup.1) in
    start_of pieces s k c.in-Some-Some.offset.now c.in-Some-Some.bucket.now c.in-Some.start c.from-2.result offset own (c.in-Some.ensures.1 ∙ ap (λ n. s.from + n) c.from.ensures) c.from-2.ensures h
