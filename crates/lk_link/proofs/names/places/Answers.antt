use Rattle.std.proofs.Common.{ap, ◌∙◌, ◌++◌, ◌∷◌, []}
use Rattle.lk_link.proofs.NameLemmas.{places_more}
use Rattle.lk_link.proofs.names.places.Goals as goal

pub loop-place-preserved : goal.loop-place-preserved
loop-place-preserved c = c.in_ok-push.ensures.items ∙ ap (λ ns. ns ++ c.loop-place.place ∷ []) c.loop-place.invariant ∙ places_more c.loop-place.place
