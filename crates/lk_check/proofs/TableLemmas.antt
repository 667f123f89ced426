-- The walk over table parts.
use Rattle.std.proofs.Common.{◌≡◌, ℕ, ◌+◌, ◌<◌, ◌≤◌, ◌&&◌, Bool, true, false, not, cond, List, Option, Some, None, length, get_or, drop, take, nat_lt, ap, sym, ◌∙◌}
use Rattle.std.specs.List.{enumerate_from, list_any}
use Rattle.std.specs.Option.{option_map_or}
use Rattle.lk_link.specs.declared.plan.Plan.{Plan}
use Rattle.lk_link.specs.PartFieldRules.{is_good_table}
use Rattle.lk_link.specs.PartRules.{is_part, table_parts}
use Rattle.lk_link.specs.Parts.{all_parts}
use Rattle.lk_check.specs.FirstAnswer.{first_of, where_not}
use Rattle.lk_check.proofs.First.{numbered_here, numbered_on, numbered_end}

-- the place of a table part, if it isn't good
abbrev pub bad_table : Plan → ℕ × Option ℕ → Option ℕ
bad_table plan q = where_not (is_good_table plan q) q.0

-- a table part, if it is named, is one of the plan's and none of those before it
abbrev pub is_new : Plan → List (Option ℕ) → Option ℕ → Bool
is_new plan before table = option_map_or (λ p. nat_lt p (length (all_parts plan.sections)) && not (list_any (is_part p) before)) table true

same_test : (plan : Plan) (tables : List (Option ℕ)) (i : ℕ) (x : Option ℕ) (b : Bool) → tables ≡ table_parts plan.named → x ≡ get_or tables i x → is_new plan (take i tables) x ≡ b → is_good_table plan (i, get_or (table_parts plan.named) i x) ≡ b
same_test plan tables i x b same item h =
    ap (λ ts. is_new plan (take i ts) (get_or ts i x)) (sym same) ∙ ap (is_new plan (take i tables)) (sym item) ∙ h

pub stops : (plan : Plan) (tables : List (Option ℕ)) (i : ℕ) (x : Option ℕ) → tables ≡ table_parts plan.named → i < length tables → x ≡ get_or tables i x → is_new plan (take i tables) x ≡ false → first_of (bad_table plan) (enumerate_from i (drop i (table_parts plan.named))) ≡ Some i
stops plan tables i x same lt item h =
    let below : i < length (table_parts plan.named) = rw same at lt in
    numbered_here (bad_table plan) (table_parts plan.named) i x i below (ap (λ b. cond b None (Some i)) (same_test plan tables i x false same item h))

pub goes_on : (plan : Plan) (tables : List (Option ℕ)) (i : ℕ) (x : Option ℕ) → tables ≡ table_parts plan.named → i < length tables → x ≡ get_or tables i x → is_new plan (take i tables) x ≡ true → first_of (bad_table plan) (enumerate_from i (drop i (table_parts plan.named))) ≡ first_of (bad_table plan) (enumerate_from (i + 1) (drop (i + 1) (table_parts plan.named)))
goes_on plan tables i x same lt item h =
    let below : i < length (table_parts plan.named) = rw same at lt in
    numbered_on (bad_table plan) (table_parts plan.named) i x below (ap (λ b. cond b None (Some i)) (same_test plan tables i x true same item h))

pub finds_none : (plan : Plan) (tables : List (Option ℕ)) (i : ℕ) → tables ≡ table_parts plan.named → length tables ≤ i → first_of (bad_table plan) (enumerate_from i (drop i (table_parts plan.named))) ≡ None
finds_none plan tables i same past =
    let behind : length (table_parts plan.named) ≤ i = rw same at past in
    numbered_end (bad_table plan) (table_parts plan.named) i behind
