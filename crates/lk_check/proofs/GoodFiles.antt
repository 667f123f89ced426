-- Where all files are good, no rule on what they hold is broken.
use Rattle.std.proofs.Common.{◌≡◌, ℕ, ◌&&◌, Bool, true, not, List, [], ◌∷◌, Option, Some, None, option_map, length, refl, ap, sym, ◌∙◌}
use Rattle.std.specs.List.{list_all, slice_get}
use Rattle.std.proofs.lemmas.Bool.{and_parts}
use Rattle.lk_link.specs.declared.fault.LinkFault.{LinkFault}
use Rattle.lk_link.specs.declared.fault.LinkFault.TheVariants.{BadLink}
use Rattle.lk_link.specs.declared.fault.Rule.{Rule}
use Rattle.lk_link.specs.declared.fault.Rule.TheVariants as rule
use Rattle.lk_link.specs.declared.fault.Place.TheVariants as place
use Rattle.lk_link.specs.declared.file.InputFile.{InputFile}
use Rattle.lk_link.specs.declared.link.LinkInput.{LinkInput}
use Rattle.lk_link.specs.declared.section.InputSection.{InputSection}
use Rattle.lk_link.specs.CandidateRules.{has_good_candidates}
use Rattle.lk_link.specs.DataRules.{has_whole_data}
use Rattle.lk_link.specs.ExpressionRules.{is_good_redirect}
use Rattle.lk_link.specs.InputRules.{is_good_input}
use Rattle.lk_link.specs.Inputs.{NumberedFile, numbered_files}
use Rattle.lk_link.specs.SymbolRules.{is_good_symbol}
use Rattle.lk_link.specs.TableRules.{has_tables}
use Rattle.lk_link.proofs.Places.{all_at}
use Rattle.lk_check.specs.ByGroups.{has_good_files, has_good_sections, has_good_symbols, is_good_file}
use Rattle.lk_check.specs.FirstAnswer.{first_of}
use Rattle.lk_check.specs.FirstBadExpression.{first_bad_redirect}
use Rattle.lk_check.specs.FirstFault.{all_rules, first_place, input_place, rule_fault, symbol_place}
use Rattle.lk_check.proofs.First.{first_of-none, first_of-on, left_out}
use Rattle.lk_check.proofs.NoAnswer.{find_none}
use Rattle.lk_check.proofs.NumberedFiles.{all_by_groups, none_in_files}

-- what passes two tests passes each
first_of_both : {X : Type 0} (p q : X → Bool) (xs : List X) → list_all (λ x. p x && q x) xs ≡ true → list_all p xs ≡ true
first_of_both p q [] h = refl
first_of_both p q (x ∷ xs) h =
    let parts = and_parts (p x && q x) (list_all (λ y. p y && q y) xs) h in
    ap (λ b. b && list_all p xs) (and_parts (p x) (q x) parts.0).0 ∙ first_of_both p q xs parts.1

second_of_both : {X : Type 0} (p q : X → Bool) (xs : List X) → list_all (λ x. p x && q x) xs ≡ true → list_all q xs ≡ true
second_of_both p q [] h = refl
second_of_both p q (x ∷ xs) h =
    let parts = and_parts (p x && q x) (list_all (λ y. p y && q y) xs) h in
    ap (λ b. b && list_all q xs) (and_parts (p x) (q x) parts.0).1 ∙ second_of_both p q xs parts.1

-- ---- what holds of a good file

record IsGood (link : LinkInput) (f : InputFile) : Type 0 where
  pub symbols : list_all (is_good_symbol link f) f.symbols ≡ true
  pub redirects : list_all (λ s. is_good_redirect link s.at) f.symbols ≡ true
  pub inputs : list_all (is_good_input link.plan (length f.symbols)) f.sections ≡ true
  pub tables : list_all (has_tables link.plan.named) f.sections ≡ true
  pub given : list_all has_whole_data f.sections ≡ true
  pub candidates : has_good_candidates link f ≡ true

good_file : (link : LinkInput) (f : InputFile) → is_good_file link f ≡ true → IsGood link f
unfolding is_good_file
good_file link f h =
    let outer = and_parts (has_good_symbols link f && has_good_sections link.plan f) (has_good_candidates link f) h in
    let inner = and_parts (has_good_symbols link f) (has_good_sections link.plan f) outer.0 in
    let input : InputSection → Bool = is_good_input link.plan (length f.symbols) in
    let named : InputSection → Bool = has_tables link.plan.named in
    let both = first_of_both (λ s. input s && named s) has_whole_data f.sections inner.1 in
    record {
      symbols = first_of_both (is_good_symbol link f) (λ s. is_good_redirect link s.at) f.symbols inner.0;
      redirects = second_of_both (is_good_symbol link f) (λ s. is_good_redirect link s.at) f.symbols inner.0;
      inputs = first_of_both input named f.sections both;
      tables = second_of_both input named f.sections both;
      given = second_of_both (λ s. input s && named s) has_whole_data f.sections inner.1;
      candidates = outer.1;
    }

each_good : (link : LinkInput) → has_good_files link ≡ true → (k : ℕ) (x : NumberedFile) → slice_get (numbered_files link.groups) k ≡ Some x → IsGood link x.file
each_good link h k x at_k =
    good_file link x.file (all_at (λ y. is_good_file link y.file) (numbered_files link.groups) k x (sym (all_by_groups (is_good_file link) link.groups) ∙ h) at_k)

-- ---- none of it is bad

pub no_redirect : (link : LinkInput) → has_good_files link ≡ true → first_bad_redirect link ≡ None
no_redirect link h = none_in_files (λ f. f.symbols) (λ f s. is_good_redirect link s.at) link.groups (λ k x at_k. (each_good link h k x at_k).redirects)

-- the rules on what files hold
abbrev inside : List Rule
inside = rule.Symbols ∷ rule.InputSections ∷ rule.Tables ∷ rule.Candidates ∷ rule.Data ∷ []

-- and those before them
abbrev outside : List Rule
outside = rule.Options ∷ rule.Page ∷ rule.Sections ∷ rule.PartFields ∷ rule.Singletons ∷ rule.TlsSegment ∷ rule.Events ∷ rule.Expressions
    ∷ rule.Prelude ∷ []

none_broken : (link : LinkInput) → has_good_files link ≡ true → first_of (rule_fault link) inside ≡ None
unfolding first_place
none_broken link h =
    let fault : Rule → Option LinkFault = rule_fault link in
    let symbols : fault rule.Symbols ≡ None = ap (λ o. option_map (BadLink rule.Symbols) (option_map (symbol_place link) o))
    (none_in_files (λ f. f.symbols) (is_good_symbol link) link.groups (λ k x at_k. (each_good link h k x at_k).symbols)) in
    let inputs : fault rule.InputSections ≡ None = ap (λ o. option_map (BadLink rule.InputSections) (option_map input_place o))
    (none_in_files (λ f. f.sections) (λ f. is_good_input link.plan (length f.symbols)) link.groups (λ k x at_k. (each_good link h k x at_k).inputs)) in
    let tables : fault rule.Tables ≡ None = ap (λ o. option_map (BadLink rule.Tables) (option_map input_place o))
    (none_in_files (λ f. f.sections) (λ f. has_tables link.plan.named) link.groups (λ k x at_k. (each_good link h k x at_k).tables)) in
    let candidates : fault rule.Candidates ≡ None = ap (λ o. option_map (BadLink rule.Candidates) (option_map (λ (f : NumberedFile). place.File f.id) o))
    (find_none (λ (f : NumberedFile). not (has_good_candidates link f.file)) (numbered_files link.groups) (λ k x at_k. ap not (each_good link h k x at_k).candidates)) in
    let given : fault rule.Data ≡ None = ap (λ o. option_map (BadLink rule.Data) (option_map input_place o))
    (none_in_files (λ f. f.sections) (λ f. has_whole_data) link.groups (λ k x at_k. (each_good link h k x at_k).given)) in
    first_of-on fault rule.Symbols (rule.InputSections ∷ rule.Tables ∷ rule.Candidates ∷ rule.Data ∷ []) symbols
    ∙ first_of-on fault rule.InputSections (rule.Tables ∷ rule.Candidates ∷ rule.Data ∷ []) inputs
    ∙ first_of-on fault rule.Tables (rule.Candidates ∷ rule.Data ∷ []) tables
    ∙ first_of-on fault rule.Candidates (rule.Data ∷ []) candidates
    ∙ first_of-on fault rule.Data [] given
    ∙ first_of-none fault

-- where all files are good, the first rule that is broken is one on something else
pub nothing_in_files : (link : LinkInput) → has_good_files link ≡ true → first_of (rule_fault link) all_rules ≡ first_of (rule_fault link) outside
nothing_in_files link h = left_out (rule_fault link) outside inside (none_broken link h)
