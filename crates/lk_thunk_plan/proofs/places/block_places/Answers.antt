use Rattle.std.proofs.Common.{◌≡◌, ℕ, List, length, map, ap, ◌∙◌, arith}
use Rattle.std.specs.List.{range_with_len, slice_get}
use Rattle.std.proofs.lemmas.List.{length-map}
use Rattle.lk_sizes.proofs.Made.{one_pushed}
use Rattle.lk_thunks.specs.declared.sets.ThunkBlock.{ThunkBlock}
use Rattle.lk_thunk_plan.proofs.BlockPlaces.{places_are}
use Rattle.lk_thunk_plan.proofs.places.block_places.Goals as goal

pub loop-number-preserved : goal.loop-number-preserved
loop-number-preserved c =
    one_pushed (slice_get c.args.addresses.now) c.loop-number.number c.loop-number.places.items c.push.new.self.items c.address_at.result c.in_ok-push.ensures.items c.loop-number.invariant c.address_at.ensures

pub returns : goal.returns
returns c place is =
    let symbols : ThunkBlock → List ℕ = λ b. b.symbols in
    let blocks : List ThunkBlock = c.args.plan.now.blocks in
    let count : c.loop-number.number ≡ length (map symbols blocks) = omega (arith, length-map blocks symbols, c.len-count.ensures, c.loop-number-test.false, c.loop-number.auto.number-end) in
    c.loop-number.invariant ∙ ap (λ n. map (slice_get c.args.addresses.now) (range_with_len 0 n)) count
    ∙ places_are c.args.plan.now place c.args.addresses.now (map symbols blocks) c.requires is
