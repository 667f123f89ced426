-- The named parts of a well-formed link: lemmas for its laws.
use Rattle.std.specs.Prelude.{◌≡◌, ◌≢◌, ℕ, ◌+◌, ◌<◌, ◌≤◌, ◌==◌, ◌&&◌, not, Bool, true, false, Option, Some, None, length, nat_le, nat_lt, slice_get, take, refl}
use Rattle.std.specs.List.{enumerate_from, list_any}
use Rattle.std.specs.Option.{option_map_or}
use Rattle.std.proofs.Common.{ap, sym, ◌∙◌, ⊎_elim, arith, zero-add}
use Rattle.std.proofs.lemmas.Bool.{and_parts, cases_lt, eq-eqb, eqb-true, leb-true, ltb-true, not-true}
use Rattle.lk_link.specs.declared.limits.TheConstants.{MOST_PRIMARY_ALIGNMENT}
use Rattle.lk_link.specs.declared.link.LinkInput.{LinkInput}
use Rattle.lk_link.specs.declared.plan.Plan.{Plan}
use Rattle.lk_link.specs.declared.plan.PlanPart.{PlanPart}
use Rattle.lk_link.specs.PartFieldRules.{is_good_table, is_free_with, can_be_primary, IsFreePart, AreGoodPartFields}
use Rattle.lk_link.specs.PartRules.{is_free_part, is_part, is_table_part, table_parts}
use Rattle.lk_link.specs.Parts.{all_parts}
use Rattle.lk_link.specs.WellFormed.{IsWellFormed}
use Rattle.lk_link.proofs.InputLemmas.{numbered_get}
use Rattle.lk_link.proofs.Places.{all_at, among}

-- ---- table parts

table_at : (link : LinkInput) (k p : ℕ) → IsWellFormed link → slice_get (table_parts link.plan.named) k ≡ Some (Some p) → (p < length (all_parts link.plan.sections)) × (list_any (is_part p) (take k (table_parts link.plan.named)) ≡ false)
table_at link k p h at_k =
    let tables = table_parts link.plan.named in
    let parts = length (all_parts link.plan.sections) in
    let there = numbered_get 0 tables k (Some p) at_k in
    let good = all_at (is_good_table link.plan) (enumerate_from 0 tables) k (0 + k, Some p) h.parts.tables there in
    let clean : (nat_lt p parts && not (list_any (is_part p) (take k tables))) ≡ true = ap (λ (n : ℕ). nat_lt p parts && not (list_any (is_part p) (take n tables))) (sym (zero-add k)) ∙ good in
    let both = and_parts (nat_lt p parts) (not (list_any (is_part p) (take k tables))) clean in
    (ltb-true p parts both.0, not-true (list_any (is_part p) (take k tables)) both.1)

not_before : (link : LinkInput) (j k p : ℕ) → IsWellFormed link → j < k → slice_get (table_parts link.plan.named) j ≡ Some (Some p) → slice_get (table_parts link.plan.named) k ≡ Some (Some p) → ⊥
not_before link j k p h lt at_j at_k =
    let tables = table_parts link.plan.named in
    let none = (table_at link k p h at_k).1 in
    let some = among (is_part p) tables j k (Some p) lt at_j (eq-eqb p p refl) in
    let clash : true ≡ false = sym some ∙ none in
    cc

apart : (link : LinkInput) (j k p : ℕ) → IsWellFormed link → slice_get (table_parts link.plan.named) j ≡ Some (Some p) → slice_get (table_parts link.plan.named) k ≡ Some (Some p) → j ≡ k
apart link j k p h at_j at_k =
    ⊎_elim
    (λ before. absurd (not_before link j k p h before at_j at_k))
    (λ reaches. ⊎_elim (λ behind. absurd (not_before link k j p h behind at_k at_j)) (λ most. omega (arith, reaches, most)) (cases_lt k j))
    (cases_lt j k)

-- ---- the others

part_of : (test : PlanPart → Bool) (o : Option PlanPart) → option_map_or test o false ≡ true → (q : PlanPart) × (o ≡ Some q) × (test q ≡ true)
part_of test None h = absurd (cc)
part_of test (Some q) h = (q, refl, h)

free_with : (test : PlanPart → Bool) (plan : Plan) (p : ℕ) → is_free_with test plan p ≡ true → (h : IsFreePart plan p) × (test h.part ≡ true)
free_with test plan p h =
    let parts = all_parts plan.sections in
    let both = and_parts (is_free_part plan p) (option_map_or test (slice_get parts p) false) h in
    let free = and_parts (nat_lt p (length parts)) (not (is_table_part plan.named p)) both.0 in
    let found = part_of test (slice_get parts p) both.1 in
    (record { part = found.0; there = found.1; no_table = not-true (is_table_part plan.named p) free.1 }, found.2)

comment_of : (plan : Plan) (o : Option ℕ) (p : ℕ) → option_map_or (is_free_with (λ q. q.alignment == 1) plan) o true ≡ true → o ≡ Some p → (h : IsFreePart plan p) × (h.part.alignment ≡ 1)
comment_of plan o p h e =
    let free = free_with (λ q. q.alignment == 1) plan p (ap (λ x. option_map_or (is_free_with (λ q. q.alignment == 1) plan) x true) (sym e) ∙ h) in
    (free.0, eqb-true free.0.part.alignment 1 free.1)

limited : (n : ℕ) → not (n == 0) ≡ true → n ≢ 0
limited n h = λ e.
    let zero : (n == 0) ≡ true = eq-eqb n 0 e in
    let other = not-true (n == 0) h in
    let clash : true ≡ false = sym zero ∙ other in
    cc

primary_of : (link : LinkInput) (o : Option ℕ) (p : ℕ) → option_map_or (λ p. is_free_with can_be_primary link.plan p && not (link.options.branch_range == 0)) o true ≡ true → o ≡ Some p → (h : IsFreePart link.plan p) × (h.part.packed ≡ false) × (h.part.alignment ≤ MOST_PRIMARY_ALIGNMENT) × (link.options.branch_range ≢ 0)
primary_of link o p h e =
    let here = ap (λ x. option_map_or (λ p. is_free_with can_be_primary link.plan p && not (link.options.branch_range == 0)) x true) (sym e) ∙ h in
    let both = and_parts (is_free_with can_be_primary link.plan p) (not (link.options.branch_range == 0)) here in
    let free = free_with can_be_primary link.plan p both.0 in
    let q = free.0.part in
    let can = and_parts (not q.packed) (nat_le q.alignment MOST_PRIMARY_ALIGNMENT) free.1 in
    (free.0, not-true q.packed can.0, leb-true q.alignment MOST_PRIMARY_ALIGNMENT can.1, limited link.options.branch_range both.1)

-- the named parts of a well-formed link are good
pub good_part_fields : (link : LinkInput) → IsWellFormed link → AreGoodPartFields link
good_part_fields link h = record {
  in_range = λ k p at_k. (table_at link k p h at_k).0;
  apart = λ j k p at_j at_k. apart link j k p h at_j at_k;
  comment = λ p e. comment_of link.plan link.plan.named.comment p h.parts.comment e;
  primary = λ p e. primary_of link link.plan.named.primary p h.parts.primary e;
}
