use Rattle.std.proofs.Common.{◌≡◌, List, ℕ, sym, ap, ◌∙◌, subst}
use Rattle.lk_merge.specs.Addresses.{AreStartsOf, image_start, start_addresses}
use Rattle.lk_merge.specs.Hash.{fnv64}
use Rattle.lk_merge.proofs.AddressLemmas.{all_starts, are_starts, sections_all}
use Rattle.lk_merge.proofs.addresses.MergedStringStartAddresses.compute.Goals as goal

pub returns-clause-each : goal.returns-clause-each
returns-clause-each c =
    let same : c.loop-number.addresses.items ≡ start_addresses fnv64 c.args.merged.now c.args.starts.now
    = sections_all c.args.starts.now c.loop-number.addresses.items c.args.merged.now c.loop-number.number c.loop-number-test.false c.loop-number.invariant in
    subst (λ (l : List ℕ). AreStartsOf c.args.merged.now l) (sym same) (are_starts c.args.merged.now c.args.starts.now c.requires)

pub returns-clause-images : goal.returns-clause-images
returns-clause-images c s within =
    let same : c.loop-number.addresses.items ≡ start_addresses fnv64 c.args.merged.now c.args.starts.now
    = sections_all c.args.starts.now c.loop-number.addresses.items c.args.merged.now c.loop-number.number c.loop-number-test.false c.loop-number.invariant in
    ap (λ (l : List ℕ). image_start l s) same ∙ all_starts c.args.merged.now c.args.starts.now s within
