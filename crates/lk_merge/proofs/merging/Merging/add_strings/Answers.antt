use Rattle.std.proofs.Common.{◌≡◌, ◌≢◌, ◌∙◌, List, length, map, sym, ap, subst, arith}
use Rattle.std.proofs.lemmas.Bool.{eqb-true, eqb-false}
use Rattle.std.proofs.lemmas.List.{length-map}
use Rattle.lk_merge.specs.declared.string.MergeString.{MergeString}
use Rattle.lk_merge.specs.Buckets.{piece_of}
use Rattle.lk_merge.specs.MergingTables.{AreTaken}
use Rattle.lk_merge.proofs.Strings.{took_none, took_more, took_fits, took_all, taken_some, taken_less}
use Rattle.lk_merge.proofs.merging.Merging.add_strings.Goals as goal

pub taking-init : goal.taking-init
taking-init c = took_none c.args.bytes.now c.args.input c.args.start c.args.self.now

pub add_all-requires-clause-some : goal.add_all-requires-clause-some
add_all-requires-clause-some c =
    let strings : List MergeString = c.as_slice-taken.result.now in
    let taken : AreTaken c.taking.rest.now (map piece_of strings) c.take_strings.new.source.now
    = subst (λ (l : List MergeString). AreTaken c.taking.rest.now (map piece_of l) c.take_strings.new.source.now) (sym c.as_slice-taken.ensures.value) c.in_ok-take_strings.ensures.taken in
    taken_some c.taking.rest.now c.take_strings.new.source.now strings taken

pub add_all-requires-clause-count : goal.add_all-requires-clause-count
add_all-requires-clause-count c = c.taking.invariant.added.count ∙ c.requires.count

pub add_all-requires-clause-fits : goal.add_all-requires-clause-fits
add_all-requires-clause-fits c =
    let strings : List MergeString = c.as_slice-taken.result.now in
    let taken : AreTaken c.taking.rest.now (map piece_of strings) c.take_strings.new.source.now
    = subst (λ (l : List MergeString). AreTaken c.taking.rest.now (map piece_of l) c.take_strings.new.source.now) (sym c.as_slice-taken.ensures.value) c.in_ok-take_strings.ensures.taken in
    let within = took_fits c.args.bytes.now c.args.input c.args.start c.args.self.now c.taking.rest.now c.take_strings.new.source.now c.taking.at c.taking.self
    (map piece_of strings) c.taking.invariant taken in
    omega (arith, within, c.requires.fits)

pub taking-preserved : goal.taking-preserved
taking-preserved c =
    let strings : List MergeString = c.as_slice-taken.result.now in
    let taken : AreTaken c.taking.rest.now (map piece_of strings) c.take_strings.new.source.now
    = subst (λ (l : List MergeString). AreTaken c.taking.rest.now (map piece_of l) c.take_strings.new.source.now) (sym c.as_slice-taken.ensures.value) c.in_ok-take_strings.ensures.taken in
    took_more c.args.bytes.now c.args.input c.args.start c.args.self.now c.taking.rest.now c.take_strings.new.source.now c.taking.at c.in_ok-at.at
    c.taking.self c.add_all.new.self (map piece_of strings) c.taking.invariant taken c.in_ok-at.ensures

pub taking-smaller : goal.taking-smaller
taking-smaller c =
    let some : length c.as_slice-taken.result.now ≢ 0 = eqb-false _ _ (sym c.if-is_empty.ensures) in
    taken_less c.taking.rest.now c.take_strings.new.source.now c.as_slice-taken.result.now
    (subst (λ (l : List MergeString). AreTaken c.taking.rest.now (map piece_of l) c.take_strings.new.source.now) (sym c.as_slice-taken.ensures.value) c.in_ok-take_strings.ensures.taken) some

pub returns-then-is_empty-clause-made : goal.returns-then-is_empty-clause-made
returns-then-is_empty-clause-made c =
    let strings : List MergeString = c.take_strings.new.strings.items in
    let none : length strings ≡ 0 = ap (λ (l : List MergeString). length l) (sym c.as_slice-taken.ensures.value) ∙ eqb-true _ _ (sym c.if-is_empty.ensures) in
    took_all c.args.bytes.now c.args.input c.args.start c.args.self.now c.taking.rest.now c.take_strings.new.source.now c.taking.at c.taking.self
    (map piece_of strings) c.taking.invariant c.in_ok-take_strings.ensures.taken (length-map strings piece_of ∙ none) (c.in_ok-take_strings.ensures.some none)
