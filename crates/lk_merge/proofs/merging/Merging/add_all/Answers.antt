use Rattle.std.proofs.Common.{◌≡◌, ◌+◌, List, length, map, take, Some, sym, ap, ◌∙◌, subst, arith}
use Rattle.std.proofs.lemmas.Option.{slice_get-get_or}
use Rattle.lk_merge.specs.declared.string.MergeString.{MergeString}
use Rattle.lk_merge.specs.Buckets.{piece_of}
use Rattle.lk_merge.specs.MergingTables.{AreAdded}
use Rattle.lk_merge.proofs.Strings.{added_none, added_next, fits_next}
use Rattle.lk_merge.proofs.merging.Merging.add_all.Goals as goal

pub loop-index-init : goal.loop-index-init
loop-index-init c = added_none c.args.input c.args.start c.args.self.now

pub add-requires-clause-some : goal.add-requires-clause-some
add-requires-clause-some c =
    let ss : List MergeString = c.args.strings.now in
    let s : MergeString = c.index-strings-index.result in
    c.requires.some c.loop-index.index s (slice_get-get_or ss c.loop-index.index s c.loop-index-test.true ∙ ap (λ (x : MergeString). Some x) (sym c.index-strings-index.is))

pub overflow_add-at : goal.overflow_add-at
overflow_add-at c =
    let within = fits_next c.args.strings.now c.loop-index.index c.index-strings-index.result c.loop-index-test.true c.index-strings-index.is in
    let len : length c.index-strings-index.result.bytes.now ≡ length c.as_bytes.result.now = ap length (sym c.as_bytes.ensures) in
    omega (arith, within, len, c.loop-index.invariant.at, c.requires.fits)

pub loop-index-preserved : goal.loop-index-preserved
loop-index-preserved c =
    let ss : List MergeString = c.args.strings.now in
    let s : MergeString = c.index-strings-index.result in
    let len : length s.bytes.now ≡ length c.as_bytes.result.now = ap length (sym c.as_bytes.ensures) in
    let same : length c.add.new.self.buckets.items ≡ length c.loop-index.self.buckets.items
    = c.in_ok-add.ensures.count ∙ sym (c.loop-index.invariant.count ∙ c.requires.count) in
    subst (λ n. AreAdded c.args.input c.args.start c.args.self.now (map piece_of (take (c.loop-index.index + 1) ss)) (c.loop-index.at + n) c.add.new.self) len
    (added_next c.args.input c.args.start c.loop-index.at c.args.self.now c.loop-index.self c.add.new.self ss c.loop-index.index s c.loop-index-test.true c.index-strings-index.is
    c.loop-index.invariant same c.in_ok-add.ensures.made)
