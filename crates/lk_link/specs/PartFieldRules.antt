-- The rule on the parts that the plan names.
use Rattle.std.specs.Prelude.{◌≡◌, ◌≢◌, ℕ, ◌<◌, ◌≤◌, ◌==◌, ◌&&◌, not, Bool, true, false, Option, Some, length, nat_le, nat_lt, slice_get, take}
use Rattle.std.specs.List.{enumerate_from, list_all, list_any}
use Rattle.std.specs.Option.{ForSome, option_map_or}
use Rattle.lk_link.specs.declared.limits.TheConstants.{MOST_PRIMARY_ALIGNMENT}
use Rattle.lk_link.specs.declared.link.LinkInput.{LinkInput}
use Rattle.lk_link.specs.declared.plan.Plan.{Plan}
use Rattle.lk_link.specs.declared.plan.PlanPart.{PlanPart}
use Rattle.lk_link.specs.PartRules.{is_free_part, is_part, is_table_part, table_parts}
use Rattle.lk_link.specs.Parts.{all_parts}

-- a table part is one of the plan's, and none of those before it
abbrev pub is_good_table : Plan → ℕ × Option ℕ → Bool
is_good_table plan q =
    option_map_or (λ p. nat_lt p (length (all_parts plan.sections)) && not (list_any (is_part p) (take q.0 (table_parts plan.named)))) q.1 true

-- the part with this number is one of the plan's and no table part, and passes a test
abbrev pub is_free_with : (PlanPart → Bool) → Plan → ℕ → Bool
is_free_with test plan p = is_free_part plan p && option_map_or test (slice_get (all_parts plan.sections) p) false

-- a comment's part has alignment 1
abbrev pub has_good_comment : Plan → Bool
has_good_comment plan = option_map_or (is_free_with (λ q. q.alignment == 1) plan) plan.named.comment true

-- the primary part isn't packed, and is aligned to few bytes
abbrev pub can_be_primary : PlanPart → Bool
can_be_primary q = not q.packed && nat_le q.alignment MOST_PRIMARY_ALIGNMENT

-- it is named only where branches are limited
abbrev pub has_good_primary : LinkInput → Bool
has_good_primary link =
    option_map_or (λ p. is_free_with can_be_primary link.plan p && not (link.options.branch_range == 0)) link.plan.named.primary true

-- all named parts
pub record HasGoodPartFields (link : LinkInput) : Type 0 where
  pub tables : list_all (is_good_table link.plan) (enumerate_from 0 (table_parts link.plan.named)) ≡ true
  pub comment : has_good_comment link.plan ≡ true
  pub primary : has_good_primary link ≡ true

-- ---- good ones, taken apart

-- one of the plan's parts, and no table part
pub record IsFreePart (plan : Plan) (p : ℕ) : Type 0 where
  pub part : PlanPart
  pub there : slice_get (all_parts plan.sections) p ≡ Some part
  pub no_table : is_table_part plan.named p ≡ false

pub record AreGoodPartFields (link : LinkInput) : Type 0 where
  pub in_range : (k p : ℕ) → slice_get (table_parts link.plan.named) k ≡ Some (Some p) → p < length (all_parts link.plan.sections)
  pub apart : (j k p : ℕ) → slice_get (table_parts link.plan.named) j ≡ Some (Some p)
      → slice_get (table_parts link.plan.named) k ≡ Some (Some p) → j ≡ k
  pub comment : ForSome link.plan.named.comment (λ p. (h : IsFreePart link.plan p) × (h.part.alignment ≡ 1))
  pub primary : ForSome link.plan.named.primary (λ p. (h : IsFreePart link.plan p) × (h.part.packed ≡ false)
      × (h.part.alignment ≤ MOST_PRIMARY_ALIGNMENT) × (link.options.branch_range ≢ 0))
