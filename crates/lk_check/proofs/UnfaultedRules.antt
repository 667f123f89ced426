-- The rules on named parts, expressions and what files hold are kept exactly where there is no place at which they are broken.
use Rattle.std.specs.Prelude.{◌≡◌, ℕ, Bool, true, not, List, Option, Some, None, option_map, find}
use Rattle.std.specs.List.{enumerate_from, list_all}
use Rattle.std.proofs.Common.{sym, ap, ◌∙◌, cond}
use Rattle.std.proofs.lemmas.Bool.{not-false}
use Rattle.lk_link.specs.declared.fault.Place.{Place}
use Rattle.lk_link.specs.declared.fault.Place.TheVariants as place
use Rattle.lk_link.specs.declared.fault.Rule.TheVariants as rule
use Rattle.lk_link.specs.declared.file.InputFile.{InputFile}
use Rattle.lk_link.specs.declared.link.LinkInput.{LinkInput}
use Rattle.lk_link.specs.declared.symbol.InputSymbol.{InputSymbol}
use Rattle.lk_link.specs.CandidateRules.{has_good_candidates}
use Rattle.lk_link.specs.ExpressionRules.{is_good_expression, is_good_region, has_good_address, has_good_move, is_good_redirect, HasGoodExpressions}
use Rattle.lk_link.specs.Files.{first_some}
use Rattle.lk_link.specs.Inputs.{NumberedFile, numbered_files}
use Rattle.lk_link.specs.PartFieldRules.{is_good_table, has_good_comment, has_good_primary, HasGoodPartFields}
use Rattle.lk_link.specs.PartRules.{table_parts}
use Rattle.lk_link.specs.Symbols.{all_symbols}
use Rattle.lk_link.proofs.Places.{all_at, all_from, all_where_none, none_found}
use Rattle.lk_check.specs.FirstAnswer.{first_bad, where_not}
use Rattle.lk_check.specs.FirstBadExpression.{first_bad_plan_expression, first_bad_redirect}
use Rattle.lk_check.specs.FirstBadFile.{first_bad_in_files}
use Rattle.lk_check.specs.FirstBadPartField.{first_bad_table, first_bad_part_field}
use Rattle.lk_check.specs.FirstFault.{first_place, symbol_place}
use Rattle.lk_check.proofs.NoAnswer.{no_map, passes_if, none_first, both_none, find_none, none_where_all, none_of, none_from}
use Rattle.lk_check.proofs.NumberedFiles.{all_by_groups, all_in_files, all_of_files, none_in_files}
use Rattle.lk_check.proofs.TableLemmas.{bad_table}

-- ---- named parts

pub parts_good : (link : LinkInput) → first_bad_part_field link ≡ None → HasGoodPartFields link
parts_good link h =
    let plan = link.plan in
    let tables = enumerate_from 0 (table_parts plan.named) in
    let comment : Option ℕ = cond (has_good_comment plan) None (Some 11) in
    let primary : Option ℕ = cond (has_good_primary link) None (Some 12) in
    let first = none_first (first_bad_table plan) (first_some comment primary) h in
    let others = none_first comment primary first.1 in
    record {
      tables = all_from (is_good_table plan) tables (λ k q at_k. passes_if (is_good_table plan q) q.0 (none_of (bad_table plan) tables k q first.0 at_k));
      comment = passes_if (has_good_comment plan) 11 others.0;
      primary = passes_if (has_good_primary link) 12 others.1;
    }

pub no_bad_part : (link : LinkInput) → HasGoodPartFields link → first_bad_part_field link ≡ None
no_bad_part link h =
    let plan = link.plan in
    let tables = enumerate_from 0 (table_parts plan.named) in
    let comment : Option ℕ = cond (has_good_comment plan) None (Some 11) in
    let primary : Option ℕ = cond (has_good_primary link) None (Some 12) in
    both_none (first_bad_table plan) (first_some comment primary)
    (none_from (bad_table plan) tables (λ k q at_k. ap (λ b. cond b None (Some q.0)) (all_at (is_good_table plan) tables k q h.tables at_k)))
    (both_none comment primary (ap (λ b. cond b None (Some 11)) h.comment) (ap (λ b. cond b None (Some 12)) h.primary))

-- ---- expressions

abbrev good_redirect : LinkInput → InputSymbol → Bool
good_redirect link x = is_good_redirect link x.at

redirects_good : (link : LinkInput) → first_bad_redirect link ≡ None → list_all (good_redirect link) (all_symbols link.groups) ≡ true
redirects_good link h =
    all_of_files (good_redirect link) (λ f. f.symbols) link.groups
    ∙ all_from (λ x. list_all (good_redirect link) x.file.symbols) (numbered_files link.groups)
    (all_in_files (λ f. f.symbols) (λ f. good_redirect link) link.groups h)

no_bad_redirect : (link : LinkInput) → list_all (good_redirect link) (all_symbols link.groups) ≡ true → first_bad_redirect link ≡ None
no_bad_redirect link h = none_in_files (λ f. f.symbols) (λ f. good_redirect link) link.groups (λ k x at_k.
    all_at (λ y. list_all (good_redirect link) y.file.symbols) (numbered_files link.groups) k x (sym (all_of_files (good_redirect link) (λ f. f.symbols) link.groups) ∙ h) at_k)

pub expressions_good : (link : LinkInput) → first_place link rule.Expressions ≡ None → HasGoodExpressions link
unfolding first_place
expressions_good link h =
    let plan = link.plan in
    let redirect : Option Place = option_map (symbol_place link) (first_bad_redirect link) in
    let move : Option Place = option_map place.Event (first_bad (has_good_move link) plan.events) in
    let address : Option Place = option_map place.Section (first_bad (has_good_address link) plan.sections) in
    let region : Option Place = option_map place.Region (first_bad (is_good_region link) plan.regions) in
    let base : Option Place = where_not (is_good_expression link plan.base) place.Plan in
    let both = none_first (first_bad_plan_expression link) redirect h in
    let bases = none_first base (first_some region (first_some address move)) both.0 in
    let regions = none_first region (first_some address move) bases.1 in
    let others = none_first address move regions.1 in
    record {
      base = passes_if (is_good_expression link plan.base) place.Plan bases.0;
      regions = all_where_none (is_good_region link) plan.regions (no_map place.Region (first_bad (is_good_region link) plan.regions) regions.0);
      addresses = all_where_none (has_good_address link) plan.sections (no_map place.Section (first_bad (has_good_address link) plan.sections) others.0);
      moves = all_where_none (has_good_move link) plan.events (no_map place.Event (first_bad (has_good_move link) plan.events) others.1);
      redirects = redirects_good link (no_map (symbol_place link) (first_bad_redirect link) both.1);
    }

pub no_bad_expression : (link : LinkInput) → HasGoodExpressions link → first_place link rule.Expressions ≡ None
unfolding first_place
no_bad_expression link h =
    let plan = link.plan in
    let redirect : Option Place = option_map (symbol_place link) (first_bad_redirect link) in
    let move : Option Place = option_map place.Event (first_bad (has_good_move link) plan.events) in
    let address : Option Place = option_map place.Section (first_bad (has_good_address link) plan.sections) in
    let region : Option Place = option_map place.Region (first_bad (is_good_region link) plan.regions) in
    let base : Option Place = where_not (is_good_expression link plan.base) place.Plan in
    both_none (first_bad_plan_expression link) redirect
    (both_none base (first_some region (first_some address move)) (ap (λ b. cond b None (Some place.Plan)) h.base)
    (both_none region (first_some address move) (ap (option_map place.Region) (none_where_all (is_good_region link) plan.regions h.regions))
    (both_none address move (ap (option_map place.Section) (none_where_all (has_good_address link) plan.sections h.addresses))
    (ap (option_map place.Event) (none_where_all (has_good_move link) plan.events h.moves)))))
    (ap (option_map (symbol_place link)) (no_bad_redirect link h.redirects))

-- ---- what files hold

-- what all files of all groups have is good, where none is found that isn't
pub files_good : {X : Type 0} (list : InputFile → List X) (good : InputFile → X → Bool) (groups : List (List InputFile)) → first_bad_in_files list good groups ≡ None → list_all (λ files. list_all (λ f. list_all (good f) (list f)) files) groups ≡ true
files_good list good groups h =
    all_by_groups (λ f. list_all (good f) (list f)) groups
    ∙ all_from (λ x. list_all (good x.file) (list x.file)) (numbered_files groups) (all_in_files list good groups h)

-- and the other way round
pub none_bad_in : {X : Type 0} (list : InputFile → List X) (good : InputFile → X → Bool) (groups : List (List InputFile)) → list_all (λ files. list_all (λ f. list_all (good f) (list f)) files) groups ≡ true → first_bad_in_files list good groups ≡ None
none_bad_in list good groups h = none_in_files list good groups (λ k x at_k.
    all_at (λ y. list_all (good y.file) (list y.file)) (numbered_files groups) k x (sym (all_by_groups (λ f. list_all (good f) (list f)) groups) ∙ h) at_k)

-- ---- candidates

pub candidates_good : (link : LinkInput) → first_place link rule.Candidates ≡ None → list_all (λ files. list_all (has_good_candidates link) files) link.groups ≡ true
unfolding first_place
candidates_good link h =
    let bad : NumberedFile → Bool = λ f. not (has_good_candidates link f.file) in
    let none = no_map (λ (f : NumberedFile). place.File f.id) (find bad (numbered_files link.groups)) h in
    all_by_groups (has_good_candidates link) link.groups
    ∙ all_from (λ x. has_good_candidates link x.file) (numbered_files link.groups) (λ k x at_k.
    not-false (has_good_candidates link x.file) (none_found bad (numbered_files link.groups) k x none at_k))

pub no_bad_candidates : (link : LinkInput) → list_all (λ files. list_all (has_good_candidates link) files) link.groups ≡ true → first_place link rule.Candidates ≡ None
unfolding first_place
no_bad_candidates link h =
    ap (option_map (λ (f : NumberedFile). place.File f.id))
    (find_none (λ (f : NumberedFile). not (has_good_candidates link f.file)) (numbered_files link.groups) (λ k x at_k.
    ap not (all_at (λ y. has_good_candidates link y.file) (numbered_files link.groups) k x (sym (all_by_groups (has_good_candidates link) link.groups) ∙ h) at_k)))
