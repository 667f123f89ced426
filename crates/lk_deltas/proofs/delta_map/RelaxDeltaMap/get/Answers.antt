use Rattle.std.proofs.Common.{List, ap, ◌∙◌}
use Rattle.lk_deltas.specs.DeltaMaps.{deltas_at}
use Rattle.lk_deltas.proofs.MapLemmas.{Entry, found}
use Rattle.lk_deltas.proofs.delta_map.RelaxDeltaMap.get.Goals as goal

pub returns : goal.returns
returns c = c.get.ensures.value ∙ found c.args.section c.self.inside.entries.entries ∙ ap (λ (es : List Entry). deltas_at es c.args.section) c.self.view_is
