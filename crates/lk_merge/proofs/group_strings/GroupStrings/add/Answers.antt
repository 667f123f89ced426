use Rattle.std.proofs.Common.{◌≡◌, ◌<◌, ◌%◌, Some, refl, sym, ap, ◌∙◌, set, arith}
use Rattle.std.specs.List.{slice_get}
use Rattle.std.proofs.Math.Nat.{mod-lt}
use Rattle.std.proofs.lemmas.Option.{slice_get-get_or}
use Rattle.lk_merge.specs.Hash.{fnv64}
use Rattle.lk_merge.proofs.GroupBrings.{brought_more}
use Rattle.lk_merge.proofs.group_strings.GroupStrings.add.Goals as goal

pub returns-clause-made : goal.returns-clause-made
returns-clause-made c = λ done h.
    let own : c.hash_value.result % 16 ≡ fnv64 c.args.string.bytes.now % 16 = ap (λ n. n % 16) c.hash_value.ensures in
    let small : c.hash_value.result % 16 < 16 = mod-lt c.hash_value.result (omega arith) in
    let found = c.index_mut-strings.result.now in
    let at = slice_get-get_or c.args.self.now.buckets.items (c.hash_value.result % 16) found (omega (arith, small, c.requires.count)) in
    brought_more done c.args.self.now _ c.args.string c.args.input c.args.start found c.push.new.self h
    (ap (slice_get c.args.self.now.buckets.items) (sym own) ∙ at ∙ ap (λ v. Some v) (sym c.index_mut-strings.ensures.value)) c.in_ok-push.ensures.items
    (ap (λ k. set c.args.self.now.buckets.items k c.push.new.self) own)
    (c.in_ok-add.ensures done (record { input = c.args.input; start = c.args.start; piece = c.args.string.bytes.now }) refl (sym own))
