use Rattle.std.proofs.Common.{◌≡◌, ◌<◌, All, length, List, ℕ, ap, sym, subst, ◌∙◌, arith}
use Rattle.std.proofs.lemmas.Grind.{common_steps}
use Rattle.lk_link.specs.Inside.{sections_inside}
use Rattle.lk_place.proofs.Insides.{insides_count, inside_at}
use Rattle.lk_place.proofs.segments.Spans.end_inside.Goals as goal

pub bounds-self-number : goal.bounds-self-number
bounds-self-number c = omega (arith, insides_count c.args.self.now.link.now.plan c.args.self.now.insides.now c.requires.ready.insides)

pub compact_end-requires : goal.compact_end-requires
compact_end-requires c =
    let count = insides_count c.args.self.now.link.now.plan c.args.self.now.insides.now c.requires.ready.insides in
    let same : c.as_slice-else-is_stack.result.now ≡ _ = c.as_slice-else-is_stack.ensures in
    subst (λ (xs : List ℕ). All (λ s. s < length c.args.self.now.records.now) xs) (sym same) (c.requires.ready.in_range c.as_usize-number.result c.index-self-number.result (omega (arith, count)))

pub returns-else-is_stack-clause-greatest : goal.returns-else-is_stack-clause-greatest
returns-else-is_stack-clause-greatest c =
    let below : c.as_usize-number.result < length c.args.self.now.link.now.plan.segments = omega arith in
    let same : c.as_slice-else-is_stack.result.now ≡ sections_inside c.args.self.now.link.now.plan.events c.args.segment
    = c.as_slice-else-is_stack.ensures
    ∙ inside_at c.args.self.now.link.now.plan c.args.self.now.insides.now c.as_usize-number.result c.index-self-number.result c.requires.ready.insides below
    ∙ ap (sections_inside c.args.self.now.link.now.plan.events) c.as_usize-number.ensures in
    grind (arith, common_steps)
