use Rattle.std.proofs.Common.{◌≡◌, ℕ, List, [], ◌∷◌, ◌++◌, sym, ap, ◌∙◌, subst, arith, append_assoc, append-nil}
use Rattle.lk_merge.specs.declared.groups.SectionGroup.{SectionGroup}
use Rattle.lk_merge.specs.Groups.{AreGroups, IsGroupEnd}
use Rattle.lk_merge.specs.Pieces.{MergeInput}
use Rattle.lk_merge.proofs.Grouping.{groups_end, groups_more}
use Rattle.lk_merge.proofs.groups.split_sections.Goals as goal

pub loop-start-preserved : goal.loop-start-preserved
loop-start-preserved c =
    let xs : List MergeInput = c.args.sections.now in
    let start : ℕ = c.loop-start.start in
    let end : ℕ = c.group_end-end.result in
    let items : List SectionGroup = c.loop-start.groups.items in
    let group : SectionGroup = record { start = start; end = end } in
    let is : IsGroupEnd xs c.args.size start end = subst (λ (ys : List MergeInput). IsGroupEnd ys c.args.size start end) c.as_slice-inputs.ensures.inputs c.group_end-end.ensures.end in
    let within = is.within in (
      λ rest h.
          let made = c.loop-start.invariant.0 (group ∷ rest) (groups_more xs c.args.size start end rest c.group_end-end.ensures.further is h) in
          let same : items ++ group ∷ rest ≡ c.push.new.self.items ++ rest
          = sym (append_assoc items (group ∷ []) rest)
          ∙ ap (λ (l : List SectionGroup). l ++ rest) (sym (c.in_ok-push.ensures.items ∙ (λ i. items ++ record { start = c.from_u64.ensures i; end = c.from_u64-in-loop-start.ensures i } ∷ []))) in
          subst (λ (l : List SectionGroup). AreGroups xs c.args.size 0 l) same made,
      omega (arith, within, c.total_input_size-total.ensures),
    )

pub returns : goal.returns
returns c =
    let xs : List MergeInput = c.args.sections.now in
    subst (λ (l : List SectionGroup). AreGroups xs c.args.size 0 l) (append-nil c.loop-start.groups.items)
    (c.loop-start.invariant.0 [] (groups_end xs c.args.size c.loop-start.start (omega (arith, c.loop-start.invariant.1, c.loop-start-test.false, c.total_input_size-total.ensures))))
