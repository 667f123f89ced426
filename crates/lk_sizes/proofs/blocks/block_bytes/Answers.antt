use Rattle.std.proofs.Common.{◌≡◌, ◌^◌, ℕ, List, length, min, ap, sym, ◌∙◌, arith}
use Rattle.std.proofs.lemmas.List.Sums.{sum_by_more}
use Rattle.lk_link.specs.declared.ids.FileId.{FileId}
use Rattle.lk_link.specs.Sizes.{capacity}
use Rattle.lk_sizes.specs.ThunkSums.{block_bytes}
use Rattle.lk_ranks.proofs.Turns.{all_so_far}
use Rattle.lk_sizes.proofs.blocks.block_bytes.Goals as goal

pub loop-owner-preserved : goal.loop-owner-preserved
loop-owner-preserved c =
    let all : List (FileId × ℕ) = c.args.thunk_owners.now in
    let nothing : FileId × ℕ = (record { group = 0; file = 0 }, 0) in
    let more = sum_by_more (λ (r : FileId × ℕ). capacity c.args.part.now r.1) all c.loop-owner.owner-index nothing c.loop-owner-test.true in
    omega (arith, c.loop-owner.invariant, more, c.exact_capacity.ensures)

pub returns : goal.returns
returns c =
    let i : ℕ = c.loop-owner.owner-index in
    let all : List (FileId × ℕ) = c.args.thunk_owners.now in
    let end : i ≡ length all = omega (arith, c.loop-owner-test.false, c.loop-owner.auto.owner-index-end) in
    sym (ap (λ (qs : List (FileId × ℕ)). min (block_bytes c.args.part.now qs) (2 ^ 64)) (sym (all_so_far all i end)) ∙ sym c.loop-owner.invariant)
