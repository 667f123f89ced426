use Rattle.std.proofs.Common.{◌≡◌, ℕ, ◌<◌, ◌^◌, length, List, Some, sym, ap, ◌∙◌, arith}
use Rattle.std.specs.List.{slice_get}
use Rattle.std.proofs.lemmas.Bool.{ltb-true}
use Rattle.std.proofs.lemmas.Nat.{mul-le}
use Rattle.std.proofs.lemmas.Option.{slice_get-get_or}
use Rattle.lk_link.proofs.Elements.{map_in}
use Rattle.lk_thunks.specs.declared.sets.ThunkBlock.{ThunkBlock}
use Rattle.lk_thunk_plan.proofs.Spots.{one_of}
use Rattle.lk_thunk_plan.proofs.thunk_plan.set_bytes.Goals as goal

pub overflow_mul-result : goal.overflow_mul-result
overflow_mul-result c =
    let blocks : List ThunkBlock = c.args.blocks.now in
    let block : ThunkBlock = c.in-Some.block.now in
    let at : slice_get blocks c.as_usize.result ≡ Some block
    = slice_get-get_or blocks c.as_usize.result block (ltb-true c.as_usize.result (length blocks) (sym c.in-Some.ensures.lookup.0)) ∙ ap (λ (b : ThunkBlock). Some b) (sym c.in-Some.ensures.lookup.1) in
    let few : length block.symbols < 2 ^ 32
    = one_of (λ (set : List ℕ). length set < 2 ^ 32) _ c.as_usize.result block.symbols c.requires.few (map_in (λ (b : ThunkBlock). b.symbols) blocks c.as_usize.result block at) in
    omega (arith, mul-le c.args.size c.len.result 65536 (2 ^ 32) c.requires.small (omega (arith, few, c.len.ensures)))
