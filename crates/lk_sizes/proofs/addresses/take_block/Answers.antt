use Rattle.std.proofs.Common.{◌≡◌, ◌∷◌, [], ◌<◌, false, List, ℕ, Some, Option, length, set, ap, sym, subst, arith}
use Rattle.std.specs.Prelude.{option_and_then, option_map}
use Rattle.std.specs.Option.{option_to_list}
use Rattle.lk_link.specs.Parts.{all_parts}
use Rattle.lk_sizes.specs.Owners.{Taker, thunk_taker}
use Rattle.lk_sizes.specs.Tables.{ArePassed, HaveSpace, block_takers}
use Rattle.lk_sizes.proofs.BlockOnes.{primary_goes}
use Rattle.lk_sizes.proofs.LiveParts.{read_alignment, read_part}
use Rattle.lk_sizes.proofs.Takers.{none_passed, one_passed, room_for}
use Rattle.lk_sizes.proofs.addresses.take_block.Goals as goal

pub take_next-requires-clause-aligned : goal.take_next-requires-clause-aligned
take_next-requires-clause-aligned c =
    let link = c.args.link.now in
    let below : c.as_usize-part.result < length (all_parts link.plan.sections) = omega (arith, primary_goes link c.in-Some.primary c.requires.good c.in-Some.is, c.as_usize-part.ensures) in
    read_alignment link c.parts-parts.result.now c.as_usize-part.result _ c.requires.good c.parts-parts.ensures (rw c.parts-parts.ensures below)

pub take_next-requires-clause-room : goal.take_next-requires-clause-room
take_next-requires-clause-room c =
    let link = c.args.link.now in
    let p : ℕ = c.as_usize-part.result in
    let t : Taker = thunk_taker c.requires.space.0 c.in-Some.primary c.args.size in
    let one : block_takers link c.requires.space.0 (Some c.args.size) ≡ t ∷ []
    = ap (λ (o : Option ℕ). option_to_list (option_and_then (λ q. option_map (thunk_taker c.requires.space.0 q) (Some c.args.size)) o)) c.in-Some.is in
    let below : p < length (all_parts link.plan.sections) = omega (arith, primary_goes link c.in-Some.primary c.requires.good c.in-Some.is, c.as_usize-part.ensures) in
    let part = read_part link c.parts-parts.result.now p (record { alignment = 0; packed = false }) c.parts-parts.ensures (rw c.parts-parts.ensures below) in
    let fits = room_for link c.args.next.now [] t [] c.args.next.now p (subst (HaveSpace link c.args.next.now) one c.requires.space.1) (none_passed link c.args.next.now)
    c.as_usize-part.ensures (omega (arith, below, c.requires.count)) in
    rw part fits

pub returns-in-Some-clause-moved : goal.returns-in-Some-clause-moved
returns-in-Some-clause-moved c = λ id.
    let link = c.args.link.now in
    let p : ℕ = c.as_usize-part.result in
    let old : List ℕ = c.args.next.now in
    let t : Taker = thunk_taker id c.in-Some.primary c.args.size in
    let one : block_takers link id (Some c.args.size) ≡ t ∷ []
    = ap (λ (o : Option ℕ). option_to_list (option_and_then (λ q. option_map (thunk_taker id q) (Some c.args.size)) o)) c.in-Some.is in
    let below : p < length (all_parts link.plan.sections) = omega (arith, primary_goes link c.in-Some.primary c.requires.good c.in-Some.is, c.as_usize-part.ensures) in
    let part = read_part link c.parts-parts.result.now p (record { alignment = 0; packed = false }) c.parts-parts.ensures (rw c.parts-parts.ensures below) in
    subst (λ (ts : List Taker). ArePassed link old ts (set old p c.take_next.new.next)) (sym one)
    (one_passed link old [] t old p c.take_next.new.next (none_passed link old) c.as_usize-part.ensures (omega (arith, below, c.requires.count))
    (rw part at c.take_next.ensures.moved))
