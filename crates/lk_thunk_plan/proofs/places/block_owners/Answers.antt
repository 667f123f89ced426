use Rattle.std.proofs.Common.{◌≡◌, ℕ, List, Option, length, map, ap, ◌∙◌, arith}
use Rattle.std.specs.Prelude.{option_map}
use Rattle.std.specs.List.{range_with_len, slice_get}
use Rattle.std.proofs.lemmas.List.{length-map}
use Rattle.lk_link.specs.declared.ids.FileId.{FileId}
use Rattle.lk_sizes.proofs.Made.{one_pushed}
use Rattle.lk_thunks.specs.declared.sets.ThunkBlock.{ThunkBlock}
use Rattle.lk_thunk_plan.proofs.BlockPlaces.{owners_are}
use Rattle.lk_thunk_plan.proofs.places.block_owners.Goals as goal

pub loop-number-preserved : goal.loop-number-preserved
loop-number-preserved c =
    let owner : ℕ → Option FileId = λ k. option_map (λ (q : FileId × ℕ). q.0) (slice_get c.args.plan.now.owners k) in
    one_pushed owner c.loop-number.number c.loop-number.owners.items c.push.new.self.items c.owner_at.result c.in_ok-push.ensures.items c.loop-number.invariant c.owner_at.ensures

pub returns : goal.returns
returns c =
    let owner : ℕ → Option FileId = λ k. option_map (λ (q : FileId × ℕ). q.0) (slice_get c.args.plan.now.owners k) in
    let symbols : ThunkBlock → List ℕ = λ b. b.symbols in
    let blocks : List ThunkBlock = c.args.plan.now.blocks in
    let count : c.loop-number.number ≡ length (map symbols blocks) = omega (arith, length-map blocks symbols, c.len-count.ensures, c.loop-number-test.false, c.loop-number.auto.number-end) in
    c.loop-number.invariant ∙ ap (λ n. map owner (range_with_len 0 n)) count ∙ owners_are c.args.plan.now (map symbols blocks) c.requires
