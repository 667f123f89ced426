-- A link is well formed exactly where it has no fault.
use Rattle.std.specs.Prelude.{◌≡◌, ℕ, suc, ◌+◌, ◌<◌, ◌≤◌, ◌==◌, ◌&&◌, Bool, true, false, not, List, [], ◌∷◌, Option, Some, None, option_map, option_and_then, count_by, drop, find, length, map, nat_lt, position, take, refl}
use Rattle.std.specs.List.{list_all, prefix_len, slice_get}
use Rattle.std.proofs.Common.{sym, ap, ◌∙◌, ⊎_elim, arith, cond, get_or, zero-add}
use Rattle.std.proofs.lemmas.Bool.{and_parts, cases_lt, eq-eqb, eqb-true, le-ltb, lt-ltb, ltb-false, not-false, not-true}
use Rattle.std.proofs.lemmas.List.{get_or-take, get_or_default, length-take}
use Rattle.std.proofs.lemmas.List.Folds.{list_all-map}
use Rattle.std.proofs.lemmas.List.Quantifiers.{position-Some}
use Rattle.std.proofs.lemmas.List.Sums.{count_by_more_yes, prefix_len_passes, sum_by-cons, sum_by-take-drop, sum_by-take-le}
use Rattle.lk_link.specs.declared.fault.Limited.{Limited}
use Rattle.lk_link.specs.declared.fault.Limited.TheVariants as limited
use Rattle.lk_link.specs.declared.fault.LinkFault.TheVariants.{BadLink}
use Rattle.lk_link.specs.declared.fault.Rule.{Rule}
use Rattle.lk_link.specs.declared.fault.Rule.TheVariants as rule
use Rattle.lk_link.specs.declared.fault.Place.TheVariants as place
use Rattle.lk_link.specs.declared.file.InputFile.{InputFile}
use Rattle.lk_link.specs.declared.ids.FileId.{FileId}
use Rattle.lk_link.specs.declared.link.LinkInput.{LinkInput}
use Rattle.lk_link.specs.declared.plan.PlanSegment.{PlanSegment}
use Rattle.lk_link.specs.declared.symbol.InputSymbol.{InputSymbol}
use Rattle.lk_link.specs.Alignments.{is_alignment}
use Rattle.lk_link.specs.Files.{file_in}
use Rattle.lk_link.specs.FileKinds.{is_prelude}
use Rattle.lk_link.specs.DataRules.{has_whole_data}
use Rattle.lk_link.specs.InputRules.{is_good_input}
use Rattle.lk_link.specs.Inputs.{NumberedFile, numbered_files}
use Rattle.lk_link.specs.Limits.{counted, limit_of}
use Rattle.lk_link.proofs.Places.{all_at, all_from, all_where_none, none_found}
use Rattle.lk_link.specs.Rules.{is_good_options, is_good_section, has_good_singletons, has_script, begins_with_prelude}
use Rattle.lk_link.specs.SegmentKinds.{is_tls}
use Rattle.lk_link.specs.SymbolRules.{is_good_symbol, file_symbols}
use Rattle.lk_link.specs.Symbols.{all_files, file_number}
use Rattle.lk_link.specs.TableRules.{has_tables}
use Rattle.lk_link.specs.WellFormed.{IsLedByPrelude, IsWellFormed}
use Rattle.lk_link.proofs.InputLemmas.{file_stands}
use Rattle.lk_check.specs.FirstAnswer.{first_bad, first_of}
use Rattle.lk_check.specs.FirstBadEvent.{first_bad_event}
use Rattle.lk_check.specs.FirstBadFile.{first_file_where, first_bad_prelude, first_bad_in_files, is_other_prelude}
use Rattle.lk_check.specs.FirstBadPartField.{first_bad_part_field}
use Rattle.lk_check.specs.FirstExcess.{all_limits, excess, first_excess, first_exceeded}
use Rattle.lk_check.specs.FirstFault.{all_rules, first_fault, first_place, input_place, rule_fault, second_tls, symbol_place, WellFormedExactlyUnfaulted}
use Rattle.lk_check.proofs.NoAnswer.{no_map, passes_if, holds_if, none_unless, none_first, both_none, find_none, none_where_all, none_of, none_from}
use Rattle.lk_check.proofs.NumberedFiles.{numbered_there, all_in_files, all_of_files, none_in_files}
use Rattle.lk_check.proofs.UnfaultedEvents.{event_order, scripted, none_bad}
use Rattle.lk_check.proofs.UnfaultedRules.{parts_good, no_bad_part, expressions_good, no_bad_expression, files_good, none_bad_in, candidates_good, no_bad_candidates}

-- ---- limits

each_fails : (p : Limited → Bool) → find p all_limits ≡ None → (what : Limited) → p what ≡ false
each_fails p h limited.Groups = none_found p all_limits 0 limited.Groups h refl
each_fails p h limited.Files = none_found p all_limits 1 limited.Files h refl
each_fails p h limited.OutputSections = none_found p all_limits 2 limited.OutputSections h refl
each_fails p h limited.Parts = none_found p all_limits 3 limited.Parts h refl
each_fails p h limited.Segments = none_found p all_limits 4 limited.Segments h refl
each_fails p h limited.Regions = none_found p all_limits 5 limited.Regions h refl
each_fails p h limited.Events = none_found p all_limits 6 limited.Events h refl
each_fails p h limited.Symbols = none_found p all_limits 7 limited.Symbols h refl
each_fails p h limited.InputSections = none_found p all_limits 8 limited.InputSections h refl
each_fails p h limited.Candidates = none_found p all_limits 9 limited.Candidates h refl
each_fails p h limited.Relocations = none_found p all_limits 10 limited.Relocations h refl
each_fails p h limited.Relaxations = none_found p all_limits 11 limited.Relaxations h refl
each_fails p h limited.NameBytes = none_found p all_limits 12 limited.NameBytes h refl
each_fails p h limited.MergeBytes = none_found p all_limits 13 limited.MergeBytes h refl

-- where no list is too long, each is within its limit
pub within_limits : (link : LinkInput) → first_excess link ≡ None → (what : Limited) → counted link what ≤ limit_of what
unfolding first_excess
within_limits link h what =
    ltb-false (limit_of what) (counted link what) (each_fails (λ w. nat_lt (limit_of w) (counted link w)) (no_map (excess link) (first_exceeded link) h) what)

-- where each is within its limit, no list is too long
no_excess : (link : LinkInput) → ((what : Limited) → counted link what ≤ limit_of what) → first_excess link ≡ None
unfolding first_excess
no_excess link h =
    ap (option_map (excess link)) (find_none (λ what. nat_lt (limit_of what) (counted link what)) all_limits (λ _ what _. le-ltb (limit_of what) (counted link what) (h what)))

-- ---- segments

-- what fails each time is counted nowhere
none_counted : {X : Type 0} (p : X → Bool) (xs : List X) → ((k : ℕ) (d : X) → k < length xs → p (get_or xs k d) ≡ false) → count_by p xs ≡ 0
none_counted p [] h = refl
none_counted p (x ∷ xs) h =
    sum_by-cons (λ y. cond (p y) 1 0) x xs
    ∙ ap (λ b. cond b 1 0 + count_by p xs) (h 0 x (omega arith))
    ∙ zero-add (count_by p xs)
    ∙ none_counted p xs (λ k d lt. h (suc k) d (omega arith))

no_position : {X : Type 0} (p : X → Bool) (xs : List X) → position p xs ≡ None → (k : ℕ) (d : X) → k < length xs → p (get_or xs k d) ≡ false
no_position p xs h k d lt =
    let n = prefix_len (λ x. not (p x)) xs in
    ⊎_elim
    (λ short. absurd (let some : position p xs ≡ Some n = ap (λ b. cond b (Some n) None) (lt-ltb n (length xs) short) in cc))
    (λ whole. not-true (p (get_or xs k d)) (prefix_len_passes (λ x. not (p x)) xs k d (omega arith)))
    (cases_lt n (length xs))

-- where nothing behind the first passes, one at most does
one_counted : {X : Type 0} (p : X → Bool) (xs : List X) (i : ℕ) (d : X) → position p xs ≡ Some i → position p (drop (i + 1) xs) ≡ None → count_by p xs ≤ 1
one_counted p xs i d at_i none =
    let first = position-Some p xs i d at_i in
    let before : count_by p (take i xs) ≡ 0 = none_counted p (take i xs) (λ k e lt.
    let at : k < i = omega (arith, length-take i xs) in
    ap p (get_or-take i xs k e at ∙ get_or_default xs k e d (omega (arith, first.0))) ∙ first.2 k at) in
    let behind = none_counted p (drop (i + 1) xs) (no_position p (drop (i + 1) xs) none) in
    let here = count_by_more_yes p xs i d first.0 first.1 in
    omega (arith, before, behind, here, sum_by-take-drop (λ x. cond (p x) 1 0) xs (i + 1))

abbrev tls : PlanSegment → Bool
tls s = is_tls s.kind

tls_from : (segments : List PlanSegment) (d : PlanSegment) (o : Option ℕ) → position tls segments ≡ o → option_and_then (λ i. option_map (λ k. i + 1 + k) (position tls (drop (i + 1) segments))) o ≡ None → count_by tls segments ≤ 1
tls_from segments d None first h = omega (arith, none_counted tls segments (no_position tls segments first))
tls_from segments d (Some i) first h = one_counted tls segments i d first (no_map (λ k. i + 1 + k) (position tls (drop (i + 1) segments)) h)

-- where there is no second one, there is one at most
tls_few : (segments : List PlanSegment) → second_tls segments ≡ None → count_by tls segments ≤ 1
tls_few [] h = omega arith
tls_few (s ∷ segments) h = tls_from (s ∷ segments) s (position tls (s ∷ segments)) refl h

second_from : (segments : List PlanSegment) (d : PlanSegment) (o : Option ℕ) → position tls segments ≡ o → count_by tls segments ≤ 1 → option_and_then (λ i. option_map (λ k. i + 1 + k) (position tls (drop (i + 1) segments))) o ≡ None
second_from segments d None first few = refl
second_from segments d (Some i) first few =
    ap (option_map (λ k. i + 1 + k)) (none_unless (position tls (drop (i + 1) segments)) (λ k at_k.
    let here = position-Some tls segments i d first in
    let there = position-Some tls (drop (i + 1) segments) k d at_k in
    let one = count_by_more_yes tls segments i d here.0 here.1 in
    let two = count_by_more_yes tls (drop (i + 1) segments) k d there.0 there.1 in
    let is_one : PlanSegment → ℕ = λ s. cond (tls s) 1 0 in
    omega (arith, one, two, few, sum_by-take-drop is_one segments (i + 1), sum_by-take-le is_one (drop (i + 1) segments) (k + 1))))

-- where there is one at most, there is no second one
no_second : (segments : List PlanSegment) → count_by tls segments ≤ 1 → second_tls segments ≡ None
no_second [] few = refl
no_second (s ∷ segments) few = second_from (s ∷ segments) s (position tls (s ∷ segments)) refl few

-- ---- files

-- a prelude that is no other one is the first file
is_first : (id : FileId) (f : InputFile) → is_other_prelude (record { id = id; file = f }) ≡ false → is_prelude f.kind ≡ true → ((id.group == 0) ≡ true) × ((id.file == 0) ≡ true)
is_first id f none prelude =
    let here : not (id.group == 0 && id.file == 0) ≡ false = ap (λ b. b && not (id.group == 0 && id.file == 0)) (sym prelude) ∙ none in
    and_parts (id.group == 0) (id.file == 0) (not-false (id.group == 0 && id.file == 0) here)

led : (groups : List (List InputFile)) → first_bad_prelude groups ≡ None → IsLedByPrelude groups
led groups h =
    let begun = holds_if (begins_with_prelude groups) (first_file_where is_other_prelude groups) (place.File (record { group = 0; file = 0 })) h in
    record {
      first = begun.0;
      only = λ id f at_id prelude.
          let none = none_found is_other_prelude (numbered_files groups) (file_number groups id) (record { id = id; file = f }) (no_map (λ (x : NumberedFile). place.File x.id) (find is_other_prelude (numbered_files groups)) begun.1) (file_stands groups id f at_id) in
          let first = is_first id f none prelude in
          (eqb-true id.group 0 first.0, eqb-true id.file 0 first.1);
    }

no_other : (groups : List (List InputFile)) → IsLedByPrelude groups → (x : NumberedFile) → file_in groups x.id ≡ Some x.file → (b : Bool) → is_prelude x.file.kind ≡ b → is_other_prelude x ≡ false
no_other groups h x at_id true e =
    let first = h.only x.id x.file at_id e in
    let here : (x.id.group == 0 && x.id.file == 0) ≡ true = ap (λ b. b && x.id.file == 0) (eq-eqb x.id.group 0 first.0) ∙ eq-eqb x.id.file 0 first.1 in
    ap (λ b. b && not (x.id.group == 0 && x.id.file == 0)) e ∙ ap not here
no_other groups h x at_id false e = ap (λ b. b && not (x.id.group == 0 && x.id.file == 0)) e

unled : (groups : List (List InputFile)) → IsLedByPrelude groups → first_bad_prelude groups ≡ None
unled groups h =
    ap (λ b. cond b (first_file_where is_other_prelude groups) (Some (place.File (record { group = 0; file = 0 })))) h.first
    ∙ ap (option_map (λ (f : NumberedFile). place.File f.id)) (find_none is_other_prelude (numbered_files groups) (λ k x at_k. no_other groups h x (numbered_there groups k x at_k) (is_prelude x.file.kind) refl))

-- ---- symbols

abbrev good_pair : LinkInput → InputFile × InputSymbol → Bool
good_pair link p = is_good_symbol link p.0 p.1

abbrev pairs_of : InputFile → List (InputFile × InputSymbol)
pairs_of f = map (λ s. (f, s)) f.symbols

symbols_good : (link : LinkInput) → first_bad_in_files (λ f. f.symbols) (is_good_symbol link) link.groups ≡ None → list_all (good_pair link) (file_symbols (all_files link.groups)) ≡ true
symbols_good link h =
    all_of_files (good_pair link) pairs_of link.groups
    ∙ all_from (λ x. list_all (good_pair link) (pairs_of x.file)) (numbered_files link.groups) (λ k x at_k.
    list_all-map (good_pair link) (λ s. (x.file, s)) x.file.symbols
    ∙ all_in_files (λ f. f.symbols) (is_good_symbol link) link.groups h k x at_k)

no_bad_symbol : (link : LinkInput) → list_all (good_pair link) (file_symbols (all_files link.groups)) ≡ true → first_bad_in_files (λ f. f.symbols) (is_good_symbol link) link.groups ≡ None
no_bad_symbol link h =
    none_in_files (λ f. f.symbols) (is_good_symbol link) link.groups (λ k x at_k.
    sym (list_all-map (good_pair link) (λ s. (x.file, s)) x.file.symbols)
    ∙ all_at (λ y. list_all (good_pair link) (pairs_of y.file)) (numbered_files link.groups) k x (sym (all_of_files (good_pair link) pairs_of link.groups) ∙ h) at_k)

-- ---- the rules

-- a link that keeps all rules has no place at which one is broken
no_place : (link : LinkInput) → IsWellFormed link → (r : Rule) → first_place link r ≡ None
unfolding first_place
no_place link h rule.Options = ap (λ b. cond b None (Some place.Options)) h.options
no_place link h rule.Page = ap (λ b. cond b None (Some place.Plan)) h.page
no_place link h rule.Sections = ap (option_map place.Section) (none_where_all (is_good_section link.plan.sections) link.plan.sections h.sections)
no_place link h rule.PartFields = ap (option_map place.PartField) (no_bad_part link h.parts)
no_place link h rule.Singletons = ap (λ b. cond b None (Some place.Plan)) h.singletons
no_place link h rule.TlsSegment = ap (option_map place.Segment) (no_second link.plan.segments h.tls)
no_place link h rule.Events = ap (option_map place.Event) (none_bad (has_script link.groups) link.plan h.events h.locations)
no_place link h rule.Expressions = no_bad_expression link h.expressions
no_place link h rule.Prelude = unled link.groups h.prelude
no_place link h rule.Symbols = ap (option_map (symbol_place link)) (no_bad_symbol link h.symbols)
no_place link h rule.InputSections = ap (option_map input_place) (none_bad_in (λ f. f.sections) (λ f. is_good_input link.plan (length f.symbols)) link.groups h.inputs)
no_place link h rule.Tables = ap (option_map input_place) (none_bad_in (λ f. f.sections) (λ f. has_tables link.plan.named) link.groups h.tables)
no_place link h rule.Candidates = no_bad_candidates link h.candidates
no_place link h rule.Data = ap (option_map input_place) (none_bad_in (λ f. f.sections) (λ f. has_whole_data) link.groups h.given)

-- where there is no first fault, no rule has one
kept : (link : LinkInput) (k : ℕ) (r : Rule) → first_of (rule_fault link) all_rules ≡ None → slice_get all_rules k ≡ Some r → first_place link r ≡ None
kept link k r h at_k = no_map (BadLink r) (first_place link r) (none_of (rule_fault link) all_rules k r h at_k)

-- ---- the link

-- a link without a fault is well formed
pub unfaulted : (link : LinkInput) → first_fault link ≡ None → IsWellFormed link
unfolding first_fault first_place
unfaulted link h =
    let plan = link.plan in
    let both = none_first (first_excess link) (first_of (rule_fault link) all_rules) h in
    let none : (k : ℕ) (r : Rule) → slice_get all_rules k ≡ Some r → first_place link r ≡ None = λ k r at_k. kept link k r both.1 at_k in
    let events = no_map place.Event (first_bad_event (has_script link.groups) plan) (none 6 rule.Events refl) in
    record {
      within = within_limits link both.0;
      options = passes_if (is_good_options link.groups link.options) place.Options (none 0 rule.Options refl);
      page = passes_if (is_alignment plan.page) place.Plan (none 1 rule.Page refl);
      sections = all_where_none (is_good_section plan.sections) plan.sections (no_map place.Section (first_bad (is_good_section plan.sections) plan.sections) (none 2 rule.Sections refl));
      parts = parts_good link (no_map place.PartField (first_bad_part_field link) (none 3 rule.PartFields refl));
      singletons = passes_if (has_good_singletons link) place.Plan (none 4 rule.Singletons refl);
      tls = tls_few plan.segments (no_map place.Segment (second_tls plan.segments) (none 5 rule.TlsSegment refl));
      events = event_order (has_script link.groups) plan events;
      locations = scripted (has_script link.groups) plan events;
      expressions = expressions_good link (none 7 rule.Expressions refl);
      prelude = led link.groups (none 8 rule.Prelude refl);
      symbols = symbols_good link (no_map (symbol_place link) (first_bad_in_files (λ f. f.symbols) (is_good_symbol link) link.groups) (none 9 rule.Symbols refl));
      inputs = files_good (λ f. f.sections) (λ f. is_good_input plan (length f.symbols)) link.groups (no_map input_place (first_bad_in_files (λ f. f.sections) (λ f. is_good_input plan (length f.symbols)) link.groups) (none 10 rule.InputSections refl));
      tables = files_good (λ f. f.sections) (λ f. has_tables plan.named) link.groups (no_map input_place (first_bad_in_files (λ f. f.sections) (λ f. has_tables plan.named) link.groups) (none 11 rule.Tables refl));
      candidates = candidates_good link (none 12 rule.Candidates refl);
      given = files_good (λ f. f.sections) (λ f. has_whole_data) link.groups (no_map input_place (first_bad_in_files (λ f. f.sections) (λ f. has_whole_data) link.groups) (none 13 rule.Data refl));
    }

-- a well-formed link has no fault
faultless : (link : LinkInput) → IsWellFormed link → first_fault link ≡ None
unfolding first_fault
faultless link h =
    both_none (first_excess link) (first_of (rule_fault link) all_rules)
    (no_excess link h.within)
    (none_from (rule_fault link) all_rules (λ _ r _. ap (option_map (BadLink r)) (no_place link h r)))

pub exactly_unfaulted : WellFormedExactlyUnfaulted
exactly_unfaulted link = (faultless link, unfaulted link)
