use Rattle.std.proofs.Common.{◌≡◌, ◌-◌, ℕ, Bool, List, ◌++◌, ◌∷◌, [], length, map, sym, ap, ◌∙◌, arith}
use Rattle.std.specs.List.{list_any, range_with_len}
use Rattle.std.proofs.lemmas.List.FromFn.{map-range_with_len_more}
use Rattle.lk_link.specs.declared.plan.PlanSection.{PlanSection}
use Rattle.lk_link.specs.Marks.{is_marked}
use Rattle.lk_link.specs.Parts.{first_part}
use Rattle.lk_link.proofs.PartNumbers.{first_part-rises}
use Rattle.lk_live.specs.KeptParts.{part_keeps}
use Rattle.lk_live.proofs.KeepLemmas.{by_number}
use Rattle.lk_live.proofs.keep.kept_by_parts.Goals as goal

pub any_marked-requires : goal.any_marked-requires
any_marked-requires c = omega (arith, first_part-rises c.args.link.now.plan.sections c.loop-section.section, c.part_range-first.ensures.first, c.part_range-first.ensures.behind)

pub loop-section-preserved : goal.loop-section-preserved
loop-section-preserved c =
    let link = c.args.link.now in
    let o = c.loop-section.section in
    let parts : List Bool = c.args.parts.now in
    let f : ℕ → Bool = part_keeps link parts in
    let first = c.part_range-first.result.0 in
    let behind = c.part_range-first.result.1 in
    let same : list_any (is_marked parts) (range_with_len first (behind - first)) ≡ f o
    = ap (λ n. list_any (is_marked parts) (range_with_len n (behind - n))) c.part_range-first.ensures.first
    ∙ ap (λ n. list_any (is_marked parts) (range_with_len (first_part link.plan.sections o) (n - first_part link.plan.sections o))) c.part_range-first.ensures.behind in
    c.in_ok-push.ensures.items ∙ ap (λ b. c.loop-section.kept.items ++ b ∷ []) (c.any_marked.ensures ∙ same) ∙ ap (λ ks. ks ++ f o ∷ []) c.loop-section.invariant
    ∙ sym (map-range_with_len_more f 0 o o (omega arith))

pub returns : goal.returns
returns c =
    let link = c.args.link.now in
    let f : ℕ → Bool = part_keeps link c.args.parts.now in
    let sections : List PlanSection = link.plan.sections in
    let all : c.loop-section.section ≡ length sections = omega (arith, c.len-sections.ensures) in
    c.loop-section.invariant ∙ ap (λ n. map f (range_with_len 0 n)) all ∙ by_number f 0 sections
