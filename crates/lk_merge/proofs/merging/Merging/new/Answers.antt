use Rattle.std.proofs.Common.{◌≡◌, ℕ, [], ◌∷◌, ◌++◌, None, map, sym, ap, ◌∙◌, arith}
use Rattle.std.specs.List.{range_with_len}
use Rattle.std.proofs.lemmas.List.FromFn.{map-range_with_len_more}
use Rattle.lk_merge.specs.declared.merging.BucketState.{BucketState}
use Rattle.lk_merge.specs.Buckets.{Bucket}
use Rattle.lk_merge.proofs.Beginning.{empty_state, merged_none}
use Rattle.lk_merge.proofs.merging.Merging.new.Goals as goal

pub loop-number-preserved : goal.loop-number-preserved
loop-number-preserved c =
    let n : ℕ = c.loop-number.number in
    let state : Bucket → BucketState = λ b. record { bucket = b; refusal = None } in
    c.in_ok-push.ensures.items
    ∙ ap (λ b. c.loop-number.buckets.items ++ state b ∷ []) c.new.ensures
    ∙ ap (λ l. l ++ empty_state c.args.section c.args.limit n ∷ []) c.loop-number.invariant
    ∙ sym (map-range_with_len_more (empty_state c.args.section c.args.limit) 0 n n (omega arith))

pub returns : goal.returns
returns c =
    let all : c.loop-number.number ≡ 16 = omega arith in
    merged_none c.args.section c.args.limit _
    (c.loop-number.invariant ∙ ap (λ (n : ℕ). map (empty_state c.args.section c.args.limit) (range_with_len 0 n)) all) c.in_ok-with_capacity.ensures
