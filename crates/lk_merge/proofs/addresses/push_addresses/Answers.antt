use Rattle.std.proofs.Common.{◌≡◌, ℕ, List, [], ◌∷◌, ◌++◌, sym, ap, ◌∙◌, arith, append-nil}
use Rattle.lk_merge.specs.Hash.{fnv64}
use Rattle.lk_merge.specs.Image.{all_pieces}
use Rattle.lk_merge.specs.Pieces.{MergeInput}
use Rattle.lk_merge.proofs.AddressLemmas.{addresses_all, addresses_more, bucket_within, first_addresses, start_more}
use Rattle.lk_merge.proofs.addresses.push_addresses.Goals as goal

pub loop-bucket-init : goal.loop-bucket-init
loop-bucket-init c = (sym (append-nil c.args.addresses.now.items), omega arith)

pub overflow_add-address : goal.overflow_add-address
overflow_add-address c =
    let within = bucket_within fnv64 (all_pieces c.args.section.now) c.loop-bucket.bucket c.loop-bucket-test.true in
    omega (arith, within, c.loop-bucket.invariant.1, c.bucket_len-address.ensures, c.requires)

pub loop-bucket-preserved : goal.loop-bucket-preserved
loop-bucket-preserved c =
    let inputs : List MergeInput = c.args.section.now in
    let old : List ℕ = c.args.addresses.now.items in
    let more = start_more fnv64 (all_pieces inputs) c.loop-bucket.bucket in (
      c.in_ok-push.ensures.items ∙ (λ i. c.loop-bucket.invariant.0 i ++ c.loop-bucket.invariant.1 i ∷ [])
          ∙ addresses_more c.args.start inputs old c.loop-bucket.bucket,
      omega (arith, more, c.loop-bucket.invariant.1, c.bucket_len-address.ensures),
    )

pub returns : goal.returns
returns c =
    let inputs : List MergeInput = c.args.section.now in
    let old : List ℕ = c.args.addresses.now.items in
    let end : c.loop-bucket.bucket ≡ 16 = omega (arith, c.loop-bucket-test.false, c.loop-bucket.auto.bucket-end) in
    c.loop-bucket.invariant.0 ∙ ap (λ n. old ++ first_addresses c.args.start inputs n) end ∙ ap (λ (l : List ℕ). old ++ l) (addresses_all c.args.start inputs)
