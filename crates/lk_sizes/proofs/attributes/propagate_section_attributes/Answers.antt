use Rattle.std.proofs.Common.{◌≡◌, ℕ, List, length, map, sym, ap, ◌∙◌}
use Rattle.std.proofs.lemmas.List.{length-map}
use Rattle.lk_sizes.specs.declared.owners.PartContents.{PartContents}
use Rattle.lk_sizes.specs.declared.owners.PartTotal.{PartTotal}
use Rattle.lk_sizes.specs.Attributes.{part_attributes}
use Rattle.lk_sizes.specs.Owners.{by_part}
use Rattle.lk_sizes.proofs.Emitting.{joined_of}
use Rattle.lk_sizes.proofs.attributes.propagate_section_attributes.Goals as goal

pub attributes_of_contents-requires-clause-count : goal.attributes_of_contents-requires-clause-count
attributes_of_contents-requires-clause-count c =
    let of_part : PartContents → ℕ = λ p. p.attrs in
    let of_total : PartTotal → ℕ = λ t. t.attrs in
    sym (length-map c.deref-2.result.now of_part)
    ∙ ap (λ (cs : List PartContents). length (map of_part cs)) c.deref-2.ensures.value
    ∙ ap length c.in_ok-contents.ensures
    ∙ length-map c.deref.result.now of_total
    ∙ ap length c.deref.ensures.value
    ∙ c.in_ok-totals.ensures.count

pub returns : goal.returns
returns c =
    let link = c.args.link.now in
    let live = c.args.live.now in
    let of_part : PartContents → ℕ = λ p. p.attrs in
    let of_total : PartTotal → ℕ = λ t. t.attrs in
    let joined : map of_part c.deref-2.result.now ≡ by_part (part_attributes link live) link
    = ap (map of_part) c.deref-2.ensures.value ∙ c.in_ok-contents.ensures ∙ ap (map of_total) c.deref.ensures.value
    ∙ joined_of link live c.in_ok-totals.totals.items c.in_ok-totals.ensures.count c.in_ok-totals.ensures.attrs in
    c.in_ok-all.ensures.joined live joined
