use Rattle.std.proofs.Common.{◌≡◌, ℕ, List, Option, length, ap, sym, ◌∙◌, arith}
use Rattle.std.proofs.lemmas.List.{length-map, take_all}
use Rattle.lk_link.specs.declared.ids.FileId.{FileId}
use Rattle.lk_relax.specs.PassWords.{deleted_by, standing_with}
use Rattle.lk_relax.specs.Scan.{scanned}
use Rattle.lk_relax.proofs.Finding.{all_of, found_next, is_asked, is_one}
use Rattle.lk_relax.proofs.passes.delete_found.Goals as goal

abbrev Found : Type 0
Found = FileId × ℕ × List (ℕ × ℕ) × Option ℕ

pub loop-one-init : goal.loop-one-init
loop-one-init c = λ by scan h. h.whole

pub delete_more-requires : goal.delete_more-requires
delete_more-requires c =
    let link = c.args.link.now in
    let ds = c.args.deltas.now.items in
    let by = c.requires.found.0 in
    let scan = c.requires.found.1 in
    let h = c.requires.found.2 in
    let i : ℕ = c.loop-one.one-index in
    let one : Found = c.one-item.result in
    let is = is_one c.good_candidates_can_go.ensures link ds by scan c.args.found.now i one c.requires.good c.candidates_of-candidates.ensures.small h c.loop-one-test.true c.one-item.is in
    let asked = is_asked c.picked_can_go.ensures c.picked_are_new.ensures link ds c.loop-one.deltas.items by scan i one is (c.loop-one.invariant by scan h) in
    record { there = asked.there; entry = asked.entry; apart = (all_of link ds by is.x, asked.apart) }

pub loop-one-preserved : goal.loop-one-preserved
loop-one-preserved c = λ by scan h.
    let link = c.args.link.now in
    let ds = c.args.deltas.now.items in
    let i : ℕ = c.loop-one.one-index in
    let one : Found = c.one-item.result in
    let is = is_one c.good_candidates_can_go.ensures link ds by scan c.args.found.now i one c.requires.good c.candidates_of-candidates.ensures.small h c.loop-one-test.true c.one-item.is in
    let asked = is_asked c.picked_can_go.ensures c.picked_are_new.ensures link ds c.loop-one.deltas.items by scan i one is (c.loop-one.invariant by scan h) in
    found_next c.picked_are_new.ensures link ds c.loop-one.deltas.items c.delete_more.new.deltas.items by scan i one is (c.loop-one.invariant by scan h) (c.in_ok-delete_more.ensures (all_of link ds by is.x) asked.apart)

pub returns : goal.returns
returns c = λ by scan h.
    let w = standing_with c.args.link.now c.args.deltas.now.items by in
    let count : length scan ≡ length c.args.found.now = sym (ap length h.found_is ∙ length-map scan (scanned w)) in
    c.loop-one.invariant by scan h ∙ ap (deleted_by w) (take_all c.loop-one.one-index scan (omega (arith, count, c.loop-one-test.false)))
