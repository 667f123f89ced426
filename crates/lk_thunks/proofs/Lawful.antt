-- What thunks are like on the small architecture is lawful.
use Rattle.std.proofs.Common.{◌≡◌, ◌≢◌, ◌⊎◌, inl, inr, ℕ, ◌<◌, ◌≤◌, ◌==◌, ◌%◌, Bool, true, false, List, [], ◌∷◌, Option, Some, None, arith, refl, subst, sym, ap, ◌∙◌, IfSome, option_map}
use Rattle.std.specs.List.{list_any}
use Rattle.std.specs.Option.{ForSome}
use Rattle.std.proofs.lemmas.Bool.{eqb-true}
use Rattle.std.proofs.lemmas.Option.{get_or_from_slice_get}
use Rattle.lk_link.specs.declared.link.LinkInput.{LinkInput}
use Rattle.lk_link.specs.Alignments.{alignments, is_alignment}
use Rattle.lk_link.specs.Laws.{PartsAreAligned}
use Rattle.lk_link.specs.declared.limits.TheConstants.{MOST_NEAR_BRANCH, MOST_PRIMARY_ALIGNMENT}
use Rattle.lk_link.specs.declared.plan.PlanPart.{PlanPart}
use Rattle.lk_link.specs.PartFieldRules.{AreGoodPartFields, IsFreePart}
use Rattle.lk_link.specs.Parts.{all_parts}
use Rattle.lk_link.specs.Rules.{AreGoodOptions}
use Rattle.lk_link.specs.WellFormed.{IsWellFormed}
use Rattle.lk_thunks.specs.Configs.{IsLawfulConfig}

-- each of some numbers
Each : (ℕ → Type 0) → List ℕ → Type 0
Each P [] = Unit {0}
Each P (a ∷ xs) = P a × Each P xs

-- what is so of each of some numbers is so of one that is among them
among : (n : ℕ) (P : ℕ → Type 0) (xs : List ℕ) → list_any (λ a. n == a) xs ≡ true → Each P xs → P n
unfolding Each
among n P [] h each = absurd (cc)
among n P (a ∷ xs) h each = by (n == a) refl h (λ t. among n P xs t each.1)
  where
    by : (b : Bool) → (n == a) ≡ b → list_any (λ c. n == c) (a ∷ xs) ≡ true → (list_any (λ c. n == c) xs ≡ true → P n) → P n
    by true e t others = subst P (sym (eqb-true n a e)) each.0
    by false e t others = others (rw e at t)

-- 16 is a multiple of each alignment up to it
sixteen : (a : ℕ) → is_alignment a ≡ true → a ≤ 16 → 16 % a ≡ 0
unfolding is_alignment Each
sixteen a h = among a (λ n. n ≤ 16 → 16 % n ≡ 0) alignments h (λ _. refl, (λ _. refl, (λ _. refl, (λ _. refl, (λ _. refl, (λ t. absurd (omega (arith, t)), (λ t. absurd (omega (arith, t)), (λ t. absurd (omega (arith, t)), (λ t. absurd (omega (arith, t)), (λ t. absurd (omega (arith, t)), (λ t. absurd (omega (arith, t)), (λ t. absurd (omega (arith, t)), (λ t. absurd (omega (arith, t)), (λ t. absurd (omega (arith, t)), (λ t. absurd (omega (arith, t)), (λ t. absurd (omega (arith, t)), (λ t. absurd (omega (arith, t)), tt)))))))))))))))))

pub lawful : (link : LinkInput) → IsWellFormed link → AreGoodOptions link.groups link.options → AreGoodPartFields link → PartsAreAligned → (o : Option ℕ) → link.plan.named.primary ≡ o
    → IfSome (option_map (λ p. record { primary_function_part_id = p; thunk_size = 16; min_branch_range = link.options.branch_range }) o) (IsLawfulConfig link)
lawful link good options fields aligned None e = tt
lawful link good options fields aligned (Some p) e =
    let here = subst (λ q. ForSome q (λ p. (h : IsFreePart link.plan p) × (h.part.packed ≡ false) × (h.part.alignment ≤ MOST_PRIMARY_ALIGNMENT) × (link.options.branch_range ≢ 0))) e fields.primary p refl in
    let part = here.0.part in
    let at = get_or_from_slice_get (all_parts link.plan.sections) p part (record { alignment = 1; packed = false }) here.0.there in
    let law = aligned link p part good here.0.there in
    record {
      primary = e;
      aligned = ap (λ (q : PlanPart). 16 % q.alignment) at ∙ sixteen part.alignment law.0 here.2;
      small = omega arith;
      far = far_of link.options.branch_range options.branch_range here.3;
    }
  where
    far_of : (n : ℕ) → (n ≡ 0) ⊎ (MOST_NEAR_BRANCH < n) → n ≢ 0 → MOST_NEAR_BRANCH < n
    far_of n (inl z) h = absurd (h z)
    far_of n (inr t) h = t
