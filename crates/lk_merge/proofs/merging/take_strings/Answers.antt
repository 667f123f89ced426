use Rattle.std.proofs.Common.{◌∷◌, [], List, map, sym, ap, ◌∙◌, subst}
use Rattle.std.proofs.lemmas.List.{map-append}
use Rattle.lk_merge.specs.declared.string.MergeString.{MergeString}
use Rattle.lk_merge.specs.Buckets.{piece_of}
use Rattle.lk_merge.specs.MergingTables.{AreTaken}
use Rattle.lk_merge.proofs.Strings.{taken_none, taken_more}
use Rattle.lk_merge.proofs.merging.take_strings.Goals as goal

pub taking-init : goal.taking-init
taking-init c =
    subst (λ (l : List MergeString). AreTaken c.args.source.now.now (map piece_of l) c.args.source.now.now) (sym c.clear.ensures.items) (taken_none c.args.source.now.now)

pub taking-preserved : goal.taking-preserved
taking-preserved c =
    let ss : List MergeString = c.taking.strings.items in
    let s : MergeString = c.in-Some.string in
    subst (λ l. AreTaken c.args.source.now.now l c.take_string_hashed.new.source.now) (sym (ap (map piece_of) c.in_ok-push.ensures.items ∙ map-append piece_of ss (s ∷ [])))
    (taken_more c.args.source.now.now c.taking.source.now c.take_string_hashed.new.source.now (map piece_of ss) s.bytes.now c.taking.invariant
    c.in-Some.ensures.taken.0 c.in-Some.ensures.taken.1)
