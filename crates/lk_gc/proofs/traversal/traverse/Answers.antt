use Rattle.std.proofs.Common.{ap, sym, subst, ◌∙◌}
use Rattle.lk_reach.specs.Marks.{AreFew}
use Rattle.lk_reach.proofs.FewFlags.{words_few}
use Rattle.lk_gc.proofs.traversal.traverse.Goals as goal

pub live_of_by_groups-requires-clause-walked : goal.live_of_by_groups-requires-clause-walked
live_of_by_groups-requires-clause-walked g c = λ lifetimes outlive.
    let marks = ap (λ v. v.items) c.of_parts-walk.ensures.marks ∙ c.in_ok-marks.ensures.marks in
    let words = ap (λ v. v.items) c.of_parts-walk.ensures.words ∙ c.in_ok-marks.ensures.words in
    record { marks = marks; words = words; few = subst AreFew (sym words) (words_few c.args.link.now c.requires.well_formed) }
