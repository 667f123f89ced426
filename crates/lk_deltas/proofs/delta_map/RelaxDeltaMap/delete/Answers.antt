use Rattle.std.proofs.Common.{◌≡◌, ℕ, List, ap, subst, sym, ◌∙◌}
use Rattle.std.specs.Option.{option_copied}
use Rattle.std.specs.Ordering.{nat_cmp}
use Rattle.std.specs.BTreeMap.{insert_entry}
use Rattle.lk_deltas.specs.Candidates.{ranges_in}
use Rattle.lk_deltas.specs.Deletions.{AreBoth}
use Rattle.lk_deltas.specs.DeltaMaps.{deltas_at, with_ranges}
use Rattle.lk_deltas.proofs.MapLemmas.{Entry, found, put}
use Rattle.lk_deltas.proofs.delta_map.RelaxDeltaMap.delete.Goals as goal

pub with_more-requires : goal.with_more-requires
with_more-requires c =
    let es : List Entry = c.self.inside.entries.entries in
    let read : option_copied c.get.result ≡ deltas_at c.args.self.now c.args.section
    = c.get.ensures.value ∙ found c.args.section es ∙ ap (λ (xs : List Entry). deltas_at xs c.args.section) c.self.view_is in
    record { apart = (c.requires.apart.0, subst (λ o. AreBoth (ranges_in o) c.args.more.now c.requires.apart.0) (sym read) c.requires.apart.1) }

pub returns-in-Ok-clause-deleted : goal.returns-in-Ok-clause-deleted
returns-in-Ok-clause-deleted c = λ all both.
    let es : List Entry = c.self.inside.entries.entries in
    let s : ℕ = c.args.section in
    let read : option_copied c.get.result ≡ deltas_at c.args.self.now s
    = c.get.ensures.value ∙ found s es ∙ ap (λ (xs : List Entry). deltas_at xs s) c.self.view_is in
    let made : c.in_ok-both.both ≡ all = c.in_ok-both.ensures all (subst (λ o. AreBoth (ranges_in o) c.args.more.now all) (sym read) both) in
    c.in-Ok.ensures.entries
    ∙ ap (insert_entry nat_cmp es s) made
    ∙ put s all es
    ∙ ap (with_ranges s all) c.self.view_is
