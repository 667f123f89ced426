use Rattle.std.proofs.Common.{◌≡◌, ℕ, List, [], ◌∷◌, ◌++◌, length, map, replicate, refl, sym, ap, ◌∙◌, arith, append-nil, append_assoc}
use Rattle.std.proofs.lemmas.List.{replicate_more}
use Rattle.lk_link.specs.declared.plan.PlanPart.{PlanPart}
use Rattle.lk_link.proofs.part_sections.push_numbers.Goals as goal

same_for_each : (n : ℕ) (parts : List PlanPart) → replicate (length parts) n ≡ map (λ p. n) parts
same_for_each n [] = refl
same_for_each n (p ∷ parts) = ap (λ (l : List ℕ). n ∷ l) (same_for_each n parts)

pub loop-part-init : goal.loop-part-init
loop-part-init c = sym (append-nil c.args.numbers.now.items)

pub loop-part-preserved : goal.loop-part-preserved
loop-part-preserved c =
    let old : List ℕ = c.args.numbers.now.items in
    let n : ℕ = c.args.number in
    let k : ℕ = c.loop-part._part-index in
    c.in_ok-push.ensures.items ∙ ap (λ (l : List ℕ). l ++ n ∷ []) c.loop-part.invariant ∙ append_assoc old (replicate k n) (n ∷ [])
    ∙ ap (λ (l : List ℕ). old ++ l) (replicate_more k n)

pub returns : goal.returns
returns c =
    let all : c.loop-part._part-index ≡ length c.args.parts.now = omega arith in
    c.loop-part.invariant ∙ ap (λ (k : ℕ). c.args.numbers.now.items ++ replicate k c.args.number) all
    ∙ ap (λ (l : List ℕ). c.args.numbers.now.items ++ l) (same_for_each c.args.number c.args.parts.now)
