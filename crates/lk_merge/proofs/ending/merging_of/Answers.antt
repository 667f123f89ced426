use Rattle.std.proofs.Common.{◌∙◌, refl, ap}
use Rattle.lk_merge.specs.Hash.{fnv64}
use Rattle.lk_merge.specs.Image.{in_bucket}
use Rattle.lk_merge.specs.MatrixWork.{places_of}
use Rattle.lk_merge.proofs.AllEnded.{all_ended, front_whole, not_both}
use Rattle.lk_merge.proofs.ending.merging_of.Goals as goal

pub returns-then-stopped : goal.returns-then-stopped
returns-then-stopped g c =
    let e = c.in_ok-states.field-0 in
    all_ended g.J.Brings.work e _ c.requires.work c.in_ok-states.ensures.0 c.in_ok-states.ensures.1 refl (λ go. not_both e.stopped c.if-stopped.true go)

pub entries_of-requires-clause-places : goal.entries_of-requires-clause-places
entries_of-requires-clause-places g c = λ b found there.
    c.in_ok-states.ensures.0.places c.if-stopped.false b found there ∙ ap (λ ps. places_of b (in_bucket fnv64 b ps)) (front_whole g.J.Brings.work c.requires.work)

pub returns : goal.returns
returns g c = all_ended g.J.Brings.work c.in_ok-states.field-0 _ c.requires.work c.in_ok-states.ensures.0 c.in_ok-states.ensures.1 refl (λ _. c.in_ok-entries.ensures)
