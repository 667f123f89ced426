use Rattle.std.proofs.Common.{◌≡◌, ◌^◌, ◌+◌, ◌++◌, ◌∷◌, [], ◌≤◌, ℕ, List, false, get_or, length, min, take, ap, sym, ◌∙◌, subst, arith}
use Rattle.std.proofs.lemmas.List.{length-take-le, take_all, take_more}
use Rattle.lk_sizes.specs.declared.owners.PartContents.{PartContents}
use Rattle.lk_sizes.specs.declared.owners.PartTotal.{PartTotal}
use Rattle.lk_sizes.specs.Tables.{with_entries}
use Rattle.lk_sizes.specs.ThunkSums.{AreWithBlocks, blocks_in}
use Rattle.lk_sizes.proofs.ThunkBytes.{one_part}
use Rattle.lk_sizes.proofs.blocks.totals_with_blocks.Goals as goal

pub loop-number-preserved : goal.loop-number-preserved
loop-number-preserved c =
    let link = c.args.link.now in
    let thunks = c.args.thunk_owners.now in
    let all : List PartContents = c.args.contents.now in
    let n : ℕ = c.loop-number.number in
    let nothing : PartContents = record { bytes = 0; has_image = false; attrs = 0 } in
    let p : PartContents = get_or all n nothing in
    let more : take (n + 1) all ≡ take n all ++ p ∷ [] = take_more all n nothing c.loop-number-test.true in
    let below : n ≤ length all = omega (arith, c.loop-number-test.true) in
    let long : length (take n all) ≡ n = length-take-le n all below in
    let is : c.with_entries.result ≡ with_entries (record { bytes = p.bytes; has_image = p.has_image; attrs = p.attrs }) c.blocks_in.result
    = c.with_entries.ensures
    ∙ ap (λ (b : ℕ). let t : PartTotal = record { bytes = b; has_image = p.has_image; attrs = p.attrs } in with_entries t c.blocks_in.result) c.from.ensures in
    let brought : min c.blocks_in.result (2 ^ 64) ≡ min (blocks_in link thunks (length (take n all))) (2 ^ 64)
    = c.blocks_in.ensures ∙ ap (λ (m : ℕ). min (blocks_in link thunks m) (2 ^ 64)) (sym long) in
    let one = one_part link thunks (take n all) c.loop-number.totals.items p c.with_entries.result c.blocks_in.result c.loop-number.invariant is brought in
    subst (λ (cs : List PartContents). AreWithBlocks link thunks cs c.push.new.self.items) (sym more)
    (subst (λ (ts : List PartTotal). AreWithBlocks link thunks (take n all ++ p ∷ []) ts) (sym c.in_ok-push.ensures.items) one)

pub returns : goal.returns
returns c =
    let all = take_all c.loop-number.number c.args.contents.now c.loop-number-test.false in
    subst (λ (cs : List PartContents). AreWithBlocks c.args.link.now c.args.thunk_owners.now cs c.loop-number.totals.items) all c.loop-number.invariant
