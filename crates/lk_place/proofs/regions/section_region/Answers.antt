use Rattle.std.proofs.Common.{◌∙◌, ap, sym, arith, List, ℕ}
use Rattle.std.specs.Prelude.{position}
use Rattle.std.specs.Str.{bytes_eq}
use Rattle.std.proofs.lemmas.List.Quantifiers.{position-Some}
use Rattle.lk_link.specs.declared.plan.Region.{Region}
use Rattle.lk_place.specs.InRegions.{named_region, numbered_region}
use Rattle.lk_place.proofs.SectionRegions.{nameless}
use Rattle.lk_place.proofs.regions.section_region.Goals as goal

pub numbered_region-requires : goal.numbered_region-requires
numbered_region-requires c r is =
    omega (arith, (position-Some (λ (q : Region). bytes_eq q.name c.as_str.result.now) c.args.regions.now r nameless (sym c.position_named.ensures ∙ is)).0, c.requires.few)

pub returns-in-Some : goal.returns-in-Some
returns-in-Some c =
    c.numbered_region.ensures
    ∙ ap numbered_region c.position_named.ensures
    ∙ ap (λ (name : List ℕ). numbered_region (position (λ (q : Region). bytes_eq q.name name) c.args.regions.now)) c.as_str.ensures
    ∙ ap (named_region c.args.regions.now) (sym c.in-Some.is)
