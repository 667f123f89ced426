use Rattle.std.proofs.Common.{◌≡◌, ◌∙◌, List, OnOk, ap, subst, sym}
use Rattle.lk_deltas.specs.DeltaMaps.{deltas_at, with_entry}
use Rattle.lk_deltas.proofs.MapLemmas.{Entry, entered}
use Rattle.lk_deltas.proofs.delta_map.RelaxDeltaMap.insert_sorted.Goals as goal
use Rattle.lk_deltas.proofs.delta_map.RelaxDeltaMap.insert_sorted.Goals.{in-Ok+in-Some-1, in-Ok+in-None-1, in-Err}

pub returns-clause-inserted : goal.returns-clause-inserted
returns-clause-inserted c =
    let s = c.args.section in
    let new = ap (λ (es : List Entry). deltas_at es s) c.self.view_is ∙ c.requires.new in
    let added = entered s c.args.deltas c.self.inside.entries.entries new ∙ ap (with_entry s c.args.deltas) c.self.view_is in
    let Is : Type 0 = c.insert.new.self.entries ≡ with_entry s c.args.deltas c.args.self.now in
    elim c.match-insert.branch [
      | in-Ok+in-Some-1 w ↦ subst (λ r. OnOk r Is) (sym w.result-is) (w.in-Ok.ensures.entries ∙ added)
      | in-Ok+in-None-1 w ↦ subst (λ r. OnOk r Is) (sym w.result-is) (w.in-Ok.ensures.entries ∙ added)
      | in-Err w ↦ subst (λ r. OnOk r Is) (sym w.result-is) tt
    ]
