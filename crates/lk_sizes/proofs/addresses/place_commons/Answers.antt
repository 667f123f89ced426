use Rattle.std.proofs.Common.{◌≡◌, ◌++◌, ◌∷◌, [], ◌<◌, ◌+◌, ℕ, List, false, length, map, set, take, ap, sym, ◌∙◌, subst, arith}
use Rattle.std.proofs.lemmas.List.{map-append}
use Rattle.lk_link.specs.Parts.{all_parts}
use Rattle.lk_sizes.specs.declared.addresses.CommonAddress.{CommonAddress}
use Rattle.lk_tables.specs.declared.commons.Common.{Common}
use Rattle.lk_sizes.specs.Owners.{Taker, common_taker}
use Rattle.lk_sizes.specs.Tables.{ArePassed, HaveSpace}
use Rattle.lk_sizes.proofs.LiveParts.{read_alignment, read_part}
use Rattle.lk_sizes.proofs.Placed.{AreTold, all_told, one_told}
use Rattle.lk_sizes.proofs.Takers.{one_passed, room_for}
use Rattle.lk_reach.proofs.LiveWalk.{split_at}
use Rattle.lk_ranks.proofs.Turns.{all_so_far, so_far, there}
use Rattle.lk_sizes.proofs.addresses.place_commons.Goals as goal

pub bounds-next-part : goal.bounds-next-part
bounds-next-part c =
    let at = there c.args.commons.now c.loop-common.common-index c.common-item.result c.loop-common-test.true c.common-item.is in
    omega (arith, c.requires.goes c.loop-common.common-index c.common-item.result at, c.as_usize-part.ensures, c.requires.count, c.loop-common.invariant.passed.count)

pub bounds-parts-part : goal.bounds-parts-part
bounds-parts-part c =
    let link = c.args.link.now in
    let at = there c.args.commons.now c.loop-common.common-index c.common-item.result c.loop-common-test.true c.common-item.is in
    let below : c.as_usize-part.result < length (all_parts link.plan.sections) = omega (arith, c.requires.goes c.loop-common.common-index c.common-item.result at, c.as_usize-part.ensures) in
    rw c.parts-parts.ensures below

pub take_next-address-requires-clause-aligned : goal.take_next-address-requires-clause-aligned
take_next-address-requires-clause-aligned c =
    let link = c.args.link.now in
    let at = there c.args.commons.now c.loop-common.common-index c.common-item.result c.loop-common-test.true c.common-item.is in
    let below : c.as_usize-part.result < length (all_parts link.plan.sections) = omega (arith, c.requires.goes c.loop-common.common-index c.common-item.result at, c.as_usize-part.ensures) in
    read_alignment link c.parts-parts.result.now c.as_usize-part.result _ c.requires.good c.parts-parts.ensures (rw c.parts-parts.ensures below)

pub take_next-address-requires-clause-room : goal.take_next-address-requires-clause-room
take_next-address-requires-clause-room c =
    let link = c.args.link.now in
    let i : ℕ = c.loop-common.common-index in
    let commons : List Common = c.args.commons.now in
    let done : List Common = take i commons in
    let common : Common = c.common-item.result in
    let p : ℕ = c.as_usize-part.result in
    let at = there commons i common c.loop-common-test.true c.common-item.is in
    let rest = split_at commons i common at in
    let below : p < length (all_parts link.plan.sections) = omega (arith, c.requires.goes i common at, c.as_usize-part.ensures) in
    let part = read_part link c.parts-parts.result.now p (record { alignment = 0; packed = false }) c.parts-parts.ensures (rw c.parts-parts.ensures below) in
    let all : map common_taker commons ≡ map common_taker done ++ common_taker common ∷ map common_taker rest.0
    = ap (map common_taker) rest.1 ∙ map-append common_taker done (common ∷ rest.0) in
    let fits = room_for link c.args.next.now (map common_taker done) (common_taker common) (map common_taker rest.0) c.loop-common.next p
    (subst (HaveSpace link c.args.next.now) all c.requires.space) c.loop-common.invariant.passed c.as_usize-part.ensures (omega (arith, below, c.requires.count)) in
    rw part fits

pub loop-common-preserved : goal.loop-common-preserved
loop-common-preserved c =
    let link = c.args.link.now in
    let i : ℕ = c.loop-common.common-index in
    let all : List Common = c.args.commons.now in
    let done : List Common = take i all in
    let common : Common = c.common-item.result in
    let p : ℕ = c.as_usize-part.result in
    let next : List ℕ = c.loop-common.next in
    let old : List ℕ = c.args.next.now in
    let at = there all i common c.loop-common-test.true c.common-item.is in
    let rest = split_at all i common at in
    let below : p < length (all_parts link.plan.sections) = omega (arith, c.requires.goes i common at, c.as_usize-part.ensures) in
    let inside : p < length old = omega (arith, below, c.requires.count) in
    let part = read_part link c.parts-parts.result.now p (record { alignment = 0; packed = false }) c.parts-parts.ensures (rw c.parts-parts.ensures below) in
    let more : take (i + 1) all ≡ done ++ common ∷ [] = so_far all i common at in
    let passed = one_passed link old (map common_taker done) (common_taker common) next p c.take_next-address.new.next c.loop-common.invariant.passed c.as_usize-part.ensures inside
    (rw part at c.take_next-address.ensures.moved) in
    let tell : ℕ → CommonAddress = λ a. record { symbol = common.symbol; address = a } in
    let told = one_told link old all done common rest.0 c.args.addresses.now.items c.loop-common.addresses.items next p (tell c.take_next-address.result) rest.1 c.loop-common.invariant.passed
    c.as_usize-part.ensures inside (ap tell c.take_next-address.ensures.address) c.loop-common.invariant.told in
    record {
      passed = subst (λ (cs : List Common). ArePassed link old (map common_taker cs) (set next p c.take_next-address.new.next)) (sym more)
          (subst (λ (ts : List Taker). ArePassed link old ts (set next p c.take_next-address.new.next)) (sym (map-append common_taker done (common ∷ []))) passed);
      told = subst (λ (cs : List Common). AreTold link old all cs c.args.addresses.now.items c.push.new.self.items) (sym more)
          (subst (λ (cs : List CommonAddress). AreTold link old all (done ++ common ∷ []) c.args.addresses.now.items cs) (sym c.in_ok-push.ensures.items) told);
    }

pub returns-clause-told : goal.returns-clause-told
returns-clause-told c =
    let i : ℕ = c.loop-common.common-index in
    let all : List Common = c.args.commons.now in
    let end : i ≡ length all = omega (arith, c.loop-common-test.false, c.loop-common.auto.common-index-end) in
    all_told c.args.link.now c.args.next.now all (take i all) c.args.addresses.now.items c.loop-common.addresses.items (all_so_far all i end) c.loop-common.invariant.told
