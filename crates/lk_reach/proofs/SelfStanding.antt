-- A symbol that is reached stands for itself.
use Rattle.std.proofs.Common.{◌≡◌, ℕ, ◌+◌, ◌<◌, Bool, true, false, if◌then◌else◌, ◌&&◌, List, [], ◌∷◌, length, Option, Some, None, refl, sym, ap, ◌∙◌, subst, option_and_then, option_map, unwrap_or}
use Rattle.std.specs.Prelude.{◌==◌, not}
use Rattle.std.specs.List.{All, enumerate_from, flat_map, slice_get}
use Rattle.std.specs.Option.{ForSome, option_map_or, option_to_list}
use Rattle.std.proofs.lemmas.Bool.{and_parts, eqb-true}
use Rattle.std.proofs.lemmas.List.Elements.{All-append, All-cons, All-contains, All-nil}
use Rattle.std.proofs.lemmas.Option.{slice_get_within}
use Rattle.lk_link.specs.declared.expression.Operand.TheVariants as operand
use Rattle.lk_link.specs.declared.expression.Token.{Token}
use Rattle.lk_link.specs.declared.expression.Token.TheVariants as token
use Rattle.lk_link.specs.declared.file.Candidate.{Candidate}
use Rattle.lk_link.specs.declared.file.FileKind.{FileKind}
use Rattle.lk_link.specs.declared.file.FileKind.TheVariants as kind
use Rattle.lk_link.specs.declared.file.InputFile.{InputFile}
use Rattle.lk_link.specs.declared.flags.TheConstants.ValueFlags as flag
use Rattle.lk_link.specs.declared.ids.FileId.{FileId}
use Rattle.lk_link.specs.declared.link.LinkInput.{LinkInput}
use Rattle.lk_link.specs.declared.plan.OrderEvent.{OrderEvent}
use Rattle.lk_link.specs.declared.plan.OrderEvent.TheVariants as event
use Rattle.lk_link.specs.declared.relocation.Relocation.{Relocation}
use Rattle.lk_link.specs.declared.section.InputSection.{InputSection}
use Rattle.lk_link.specs.declared.symbol.InputSymbol.{InputSymbol}
use Rattle.lk_link.specs.declared.symbol.SymbolPlacement.{SymbolPlacement}
use Rattle.lk_link.specs.declared.symbol.SymbolPlacement.TheVariants as at
use Rattle.lk_link.specs.Expressions.{Term, postfix}
use Rattle.lk_link.specs.Files.{file_in}
use Rattle.lk_link.specs.InputRules.{IsGoodInput}
use Rattle.lk_link.specs.Inputs.{NumberedFile, numbered_files}
use Rattle.lk_link.specs.InputSlots.{can_be_kept, is_regular}
use Rattle.lk_link.specs.Relocations.{resolution_flags}
use Rattle.lk_link.specs.SectionGroups.{group_members}
use Rattle.lk_link.specs.SymbolPlacements.{edge_of, is_in_discarded, is_provided, is_undefined, section_of}
use Rattle.lk_link.specs.Symbols.{definition_of, first_symbol, is_canonical, is_named, symbol_at}
use Rattle.lk_link.specs.WellFormed.{IsWellFormed}
use Rattle.lk_link.proofs.Elements.{at_index, numbered_at}
use Rattle.lk_link.proofs.GoodInputs.{inputs_are_good}
use Rattle.lk_link.proofs.GoodSymbols.{defined_once, symbol_of}
use Rattle.lk_link.proofs.SymbolLemmas.{symbols_follow}
use Rattle.lk_reach.specs.declared.exports.ExportSymbolsMode.{ExportSymbolsMode}
use Rattle.lk_reach.specs.declared.units.Ask.{Ask}
use Rattle.lk_reach.specs.declared.units.Ask.TheVariants.{Reference, Section, Mark}
use Rattle.lk_reach.specs.declared.units.Unit.{Unit as LinkUnit}
use Rattle.lk_reach.specs.declared.units.Unit.TheVariants.{Sym, Sec}
use Rattle.lk_reach.specs.Exports.{is_exportable, is_exported, is_listed, is_own_definition, is_seen_outside, list_for, mode_of}
use Rattle.lk_reach.specs.Laws.{ReachedStandForThemselves}
use Rattle.lk_reach.specs.Placements.{is_defined}
use Rattle.lk_reach.specs.Reach.{IsPath}
use Rattle.lk_reach.specs.Units.{AskFor, AsksFor, ask_for, asked_definition, asked_members, asked_references, candidate_ask, candidate_asks, definition_ask, dynamic_ask, entry_asks, event_asks, export_asks, export_roots, file_roots, flags_from, follows, is_other, is_primary_section, is_root, is_script_root, kind_asks, kind_roots, local_definition, location_asks, member_asks, numbered_symbols, own_asks, prelude_symbol_asks, range_mark, redirect_references, reference, relocation_asks, roots, script_redirect_asks, section_references, section_roots, shown_ask, symbol_asks, target_of, token_ask, token_asks, wanted_symbol_asks, other_asks}
use Rattle.lk_reach.proofs.Numbered.{file_at, sections_of}
use Rattle.lk_reach.proofs.UnitLemmas.{all_joined, all_passing, regular_kept}

-- ---- what an ask refers to stands for itself

abbrev Stands : List (List InputFile) → Ask → Type 0
Stands groups (Reference s f) = definition_of groups s ≡ Some s
Stands groups (Section id i) = Unit {0}
Stands groups (Mark s f) = Unit {0}

abbrev UnitStands : List (List InputFile) → LinkUnit → Type 0
UnitStands groups (Sym s) = definition_of groups s ≡ Some s
UnitStands groups (Sec id i) = Unit {0}

one_stands : (groups : List (List InputFile)) (a : Ask) → Stands groups a → All (Stands groups) (a ∷ [])
one_stands groups a h = All-cons (Stands groups) a [] h (All-nil (Stands groups))

if_stands : (groups : List (List InputFile)) (b : Bool) (a : Ask) → Stands groups a → All (Stands groups) (option_to_list (if b then Some a else None))
if_stands groups true a h = one_stands groups a h
if_stands groups false a h = All-nil (Stands groups)

unless_stands : (groups : List (List InputFile)) (b : Bool) (a : Ask) → Stands groups a → All (Stands groups) (option_to_list (if b then None else Some a))
unless_stands groups true a h = All-nil (Stands groups)
unless_stands groups false a h = one_stands groups a h

either_stands : (groups : List (List InputFile)) (b : Bool) (asks : List Ask) → (b ≡ true → All (Stands groups) asks) → All (Stands groups) (if b then asks else [])
either_stands groups true asks h = h refl
either_stands groups false asks h = All-nil (Stands groups)

-- ---- symbols

-- one that is canonical stands for itself
canonical_stands : (groups : List (List InputFile)) (s : ℕ) (x : InputSymbol) → symbol_at groups s ≡ Some x → is_canonical s x ≡ true → definition_of groups s ≡ Some s
canonical_stands groups s x at_s is = ap (option_map (λ (y : InputSymbol). unwrap_or y.def s)) at_s ∙ ap Some (eqb-true (unwrap_or x.def s) s is)

-- what stands for one stands for itself
definition_stands : (groups : List (List InputFile)) (s : ℕ) (x : InputSymbol) (def : Option ℕ) → symbol_at groups s ≡ Some x → x.def ≡ def → ForSome def (λ d. definition_of groups d ≡ Some d)
    → definition_of groups (unwrap_or def s) ≡ Some (unwrap_or def s)
definition_stands groups s x None at_s none good = ap (option_map (λ (y : InputSymbol). unwrap_or y.def s)) at_s ∙ ap (λ o. Some (unwrap_or o s)) none
definition_stands groups s x (Some d) at_s some good = good d refl

-- the symbol of a file stands under its number
symbol_here : (groups : List (List InputFile)) (id : FileId) (file : InputFile) (i : ℕ) (x : InputSymbol) → file_in groups id ≡ Some file → slice_get file.symbols i ≡ Some x
    → symbol_at groups (first_symbol groups id + i) ≡ Some x
symbol_here groups id file i x there at_i = symbols_follow groups id file i there (slice_get_within file.symbols i x at_i) ∙ at_i

-- the same, for the symbols of a file with their numbers
pub record IsSymbolHere (link : LinkInput) (f : NumberedFile) (q : ℕ × InputSymbol) : Type 0 where
  pub at_number : symbol_at link.groups q.0 ≡ Some q.1
  pub defined : ForSome q.1.def (λ d. definition_of link.groups d ≡ Some d)

numbered_here : (link : LinkInput) (f : NumberedFile) (k : ℕ) (q : ℕ × InputSymbol) → IsWellFormed link → file_in link.groups f.id ≡ Some f.file
    → slice_get (enumerate_from (first_symbol link.groups f.id) f.file.symbols) k ≡ Some q → IsSymbolHere link f q
numbered_here link f k q wf there at_k =
    let x = numbered_at (first_symbol link.groups f.id) f.file.symbols k q at_k in
    record {
      at_number = ap (symbol_at link.groups) x.0 ∙ symbol_here link.groups f.id f.file k q.1 there x.1;
      defined = (symbol_of link f.id k f.file q.1 wf there x.1).defined;
    }

-- ---- relocations

local_stands : (link : LinkInput) (id : FileId) (file : InputFile) (i : ℕ) → IsWellFormed link → file_in link.groups id ≡ Some file → i < length file.symbols
    → definition_of link.groups (local_definition (first_symbol link.groups id) file.symbols i) ≡ Some (local_definition (first_symbol link.groups id) file.symbols i)
local_stands link id file i wf there lt =
    let first = first_symbol link.groups id in
    let x = at_index file.symbols i lt in
    let good = symbol_of link id i file x.0 wf there x.1 in
    let same : local_definition first file.symbols i ≡ unwrap_or x.0.def (first + i) = ap (λ o. option_map_or (λ (s : InputSymbol). unwrap_or s.def (first + i)) o (first + i)) x.1 in
    subst (λ d. definition_of link.groups d ≡ Some d) (sym same)
    (definition_stands link.groups (first + i) x.0 x.0.def (symbol_here link.groups id file i x.0 there x.1) refl good.defined)

relocation_stands : (link : LinkInput) (id : FileId) (file : InputFile) (primary : Bool) (r : Relocation) → IsWellFormed link → file_in link.groups id ≡ Some file → r.symbol < length file.symbols
    → All (Stands link.groups) (relocation_asks primary (first_symbol link.groups id) file.symbols r)
relocation_stands link id file primary r wf there lt =
    let groups : List (List InputFile) = link.groups in
    let first = first_symbol groups id in
    All-append (Stands groups) (option_to_list (reference first file.symbols r)) (option_to_list (range_mark primary first r))
    (unless_stands groups (resolution_flags r.kind == 0) (Reference (local_definition first file.symbols r.symbol) (flags_from (resolution_flags r.kind))) (local_stands link id file r.symbol wf there lt))
    (if_stands groups (primary && r.thunkable) (Mark (first + r.symbol) flag.HAS_RANGE_LIMITED_REL) tt)

references_stand : (link : LinkInput) (id : FileId) (file : InputFile) (i : ℕ) (section : InputSection) → IsWellFormed link → file_in link.groups id ≡ Some file → slice_get file.sections i ≡ Some section
    → All (Stands link.groups) (section_references link id file section)
references_stand link id file i section wf there at_i =
    let asks : Relocation → List Ask = relocation_asks (is_primary_section link section) (first_symbol link.groups id) file.symbols in
    either_stands link.groups (is_regular section.slot) (flat_map asks section.relocs)
    (λ regular.
    let good : IsGoodInput link.plan (length file.symbols) section = inputs_are_good link id i file section wf there at_i (regular_kept section.slot regular) in
    all_joined (Stands link.groups) asks section.relocs (λ k r at_k. relocation_stands link id file (is_primary_section link section) r wf there (good.in_relocs k r at_k).1))

-- ---- section groups

members_stand : (groups : List (List InputFile)) (id : FileId) (sections : List InputSection) (i : ℕ) (group : Option ℕ) → All (Stands groups) (option_map_or (λ g. other_asks id sections i (group_members sections g)) group [])
members_stand groups id sections i None = All-nil (Stands groups)
members_stand groups id sections i (Some g) = all_passing (Stands groups) (Section id) (is_other sections i) (group_members sections g) (λ j k at_j is. tt)

section_members_stand : (groups : List (List InputFile)) (id : FileId) (sections : List InputSection) (i : ℕ) (o : Option InputSection) → All (Stands groups) (option_map_or (member_asks id sections i) o [])
section_members_stand groups id sections i None = All-nil (Stands groups)
section_members_stand groups id sections i (Some s) = either_stands groups (can_be_kept s.slot) (option_map_or (λ g. other_asks id sections i (group_members sections g)) s.group []) (λ kept. members_stand groups id sections i s.group)

file_members_stand : (groups : List (List InputFile)) (id : FileId) (i : ℕ) (o : Option InputFile)
    → All (Stands groups) (option_map_or (λ f. option_map_or (member_asks id f.sections i) (slice_get f.sections i) []) o [])
file_members_stand groups id i None = All-nil (Stands groups)
file_members_stand groups id i (Some f) = section_members_stand groups id f.sections i (slice_get f.sections i)

-- ---- expressions

operand_stands : (link : LinkInput) (s : ℕ) (o : Option ℕ) → IsWellFormed link → definition_of link.groups s ≡ o → All (Stands link.groups) (option_to_list (option_map (λ d. Reference d flag.DIRECT) o))
operand_stands link s None wf e = All-nil (Stands link.groups)
operand_stands link s (Some d) wf e = one_stands link.groups (Reference d flag.DIRECT) (defined_once link s d wf e)

token_stands : (link : LinkInput) (t : Token) → IsWellFormed link → All (Stands link.groups) (option_to_list (token_ask link.groups t))
token_stands link (token.Operand (operand.Symbol s)) wf = operand_stands link s (definition_of link.groups s) wf refl
token_stands link (token.Operand (operand.Number n)) wf = All-nil (Stands link.groups)
token_stands link (token.Operand operand.Dot) wf = All-nil (Stands link.groups)
token_stands link (token.Operand (operand.Address n)) wf = All-nil (Stands link.groups)
token_stands link (token.Operand (operand.SizeOf n)) wf = All-nil (Stands link.groups)
token_stands link (token.Operand (operand.Origin n)) wf = All-nil (Stands link.groups)
token_stands link (token.Operand (operand.Length n)) wf = All-nil (Stands link.groups)
token_stands link (token.Operand operand.SizeOfHeaders) wf = All-nil (Stands link.groups)
token_stands link (token.Operator o) wf = All-nil (Stands link.groups)

tokens_stand : (link : LinkInput) (tokens : List Token) → IsWellFormed link → All (Stands link.groups) (token_asks link.groups tokens)
tokens_stand link tokens wf = all_joined (Stands link.groups) (λ t. option_to_list (token_ask link.groups t)) tokens (λ k t at_k. token_stands link t wf)

redirect_stands : (link : LinkInput) (s : ℕ) (e : Term) → IsWellFormed link → definition_of link.groups s ≡ Some s → All (Stands link.groups) (redirect_references link.groups s e)
redirect_stands link s e wf own = All-cons (Stands link.groups) (Reference s flag.DIRECT) (token_asks link.groups (postfix e)) own (tokens_stand link (postfix e) wf)

-- ---- units

script_stands : (link : LinkInput) (s : ℕ) (p : SymbolPlacement) → IsWellFormed link → definition_of link.groups s ≡ Some s → All (Stands link.groups) (script_redirect_asks link.groups s p)
script_stands link s (at.Redirect e l provide) wf own = redirect_stands link s e wf own
script_stands link s at.ForceUndefined wf own = All-nil (Stands link.groups)
script_stands link s (at.Section i o) wf own = All-nil (Stands link.groups)
script_stands link s (at.Common q n) wf own = All-nil (Stands link.groups)
script_stands link s (at.Absolute n) wf own = All-nil (Stands link.groups)
script_stands link s at.Undef wf own = All-nil (Stands link.groups)
script_stands link s at.Dynamic wf own = All-nil (Stands link.groups)
script_stands link s at.Undefined wf own = All-nil (Stands link.groups)
script_stands link s (at.SectionStart o) wf own = All-nil (Stands link.groups)
script_stands link s (at.SectionEnd o) wf own = All-nil (Stands link.groups)
script_stands link s (at.SectionGroupEnd o) wf own = All-nil (Stands link.groups)
script_stands link s at.TlsEnd wf own = All-nil (Stands link.groups)
script_stands link s at.LoadBaseAddress wf own = All-nil (Stands link.groups)

placed_stands : (groups : List (List InputFile)) (id : FileId) (o : Option ℕ) → All (Stands groups) (option_to_list (option_map (Section id) o))
placed_stands groups id None = All-nil (Stands groups)
placed_stands groups id (Some i) = one_stands groups (Section id i) tt

candidates_stand : (groups : List (List InputFile)) (candidates : List Candidate) (o : Option ℕ) → All (Stands groups) (option_map_or (candidate_asks candidates) o [])
candidates_stand groups candidates None = All-nil (Stands groups)
candidates_stand groups candidates (Some o) = all_passing (Stands groups) candidate_ask (λ c. c.output == o) candidates (λ k c at_k is. tt)

kind_stands : (link : LinkInput) (s : ℕ) (id : FileId) (file : InputFile) (x : InputSymbol) (k : FileKind) → IsWellFormed link → definition_of link.groups s ≡ Some s
    → All (Stands link.groups) (kind_asks link.groups s id file x k)
kind_stands link s id file x kind.Object wf own = placed_stands link.groups id (section_of x.at)
kind_stands link s id file x kind.SyntheticSymbols wf own = candidates_stand link.groups file.candidates (edge_of x.at)
kind_stands link s id file x kind.LinkerScript wf own =
    All-append (Stands link.groups) (script_redirect_asks link.groups s x.at) (option_to_list (shown_ask s x)) (script_stands link s x.at wf own)
    (if_stands link.groups (is_named x && not x.hidden) (Reference s flag.EXPORT_DYNAMIC) own)
kind_stands link s id file x kind.Prelude wf own = All-nil (Stands link.groups)
kind_stands link s id file x kind.Dynamic wf own = All-nil (Stands link.groups)
kind_stands link s id file x kind.NotLoaded wf own = All-nil (Stands link.groups)

symbol_stands : (link : LinkInput) (s : ℕ) (o : Option (NumberedFile × InputSymbol)) → IsWellFormed link → definition_of link.groups s ≡ Some s
    → All (Stands link.groups) (option_map_or (symbol_asks link.groups s) o [])
symbol_stands link s None wf own = All-nil (Stands link.groups)
symbol_stands link s (Some q) wf own = kind_stands link s q.0.id q.0.file q.1 q.0.file.kind wf own

section_stands : (link : LinkInput) (id : FileId) (i : ℕ) (file : InputFile) (o : Option InputSection) → IsWellFormed link → file_in link.groups id ≡ Some file → slice_get file.sections i ≡ o
    → All (Stands link.groups) (option_map_or (section_references link id file) o [])
section_stands link id i file None wf there e = All-nil (Stands link.groups)
section_stands link id i file (Some section) wf there e = references_stand link id file i section wf there e

file_stands : (link : LinkInput) (id : FileId) (i : ℕ) (o : Option InputFile) → IsWellFormed link → file_in link.groups id ≡ o
    → All (Stands link.groups) (option_map_or (λ f. option_map_or (section_references link id f) (slice_get f.sections i) []) o [])
file_stands link id i None wf e = All-nil (Stands link.groups)
file_stands link id i (Some file) wf e = section_stands link id i file (slice_get file.sections i) wf e refl

-- what a unit asks for stands for itself, if the unit does
follows_stand : (link : LinkInput) (u : LinkUnit) → IsWellFormed link → UnitStands link.groups u → All (Stands link.groups) (follows link u)
follows_stand link (Sym s) wf own = symbol_stands link s (slice_get (numbered_symbols link.groups) s) wf own
follows_stand link (Sec id i) wf own =
    All-append (Stands link.groups) (asked_members link id i) (asked_references link id i) (file_members_stand link.groups id i (file_in link.groups id))
    (file_stands link id i (file_in link.groups id) wf refl)

-- ---- roots

entry_stands : (link : LinkInput) (entry d : Option ℕ) → IsWellFormed link → option_and_then (definition_of link.groups) entry ≡ d
    → All (Stands link.groups) (option_to_list (option_map (λ s. Reference s flag.DIRECT) d))
entry_stands link entry None wf e = All-nil (Stands link.groups)
entry_stands link None (Some d) wf e = absurd (cc)
entry_stands link (Some s) (Some d) wf e = one_stands link.groups (Reference d flag.DIRECT) (defined_once link s d wf e)

own_stands : (link : LinkInput) (f : NumberedFile) (s : ℕ) (x : InputSymbol) (p : SymbolPlacement) → IsWellFormed link → IsSymbolHere link f (s, x) → All (Stands link.groups) (own_asks link.groups s x p)
own_stands link f s x (at.Redirect e l provide) wf here =
    either_stands link.groups (is_canonical s x) (redirect_references link.groups s e) (λ is. redirect_stands link s e wf (canonical_stands link.groups s x here.at_number is))
own_stands link f s x at.ForceUndefined wf here =
    if_stands link.groups (is_defined link.groups (unwrap_or x.def s)) (Reference (unwrap_or x.def s) flag.DIRECT) (definition_stands link.groups s x x.def here.at_number refl here.defined)
own_stands link f s x (at.Section i o) wf here = All-nil (Stands link.groups)
own_stands link f s x (at.Common q n) wf here = All-nil (Stands link.groups)
own_stands link f s x (at.Absolute n) wf here = All-nil (Stands link.groups)
own_stands link f s x at.Undef wf here = All-nil (Stands link.groups)
own_stands link f s x at.Dynamic wf here = All-nil (Stands link.groups)
own_stands link f s x at.Undefined wf here = All-nil (Stands link.groups)
own_stands link f s x (at.SectionStart o) wf here = All-nil (Stands link.groups)
own_stands link f s x (at.SectionEnd o) wf here = All-nil (Stands link.groups)
own_stands link f s x (at.SectionGroupEnd o) wf here = All-nil (Stands link.groups)
own_stands link f s x at.TlsEnd wf here = All-nil (Stands link.groups)
own_stands link f s x at.LoadBaseAddress wf here = All-nil (Stands link.groups)

-- what is exported is canonical
exported_canonical : (list : Option (List (List ℕ))) (sections : List InputSection) (q : ℕ × InputSymbol) → is_exported list sections q ≡ true → is_canonical q.0 q.1 ≡ true
exported_canonical list sections q h =
    let seen = is_seen_outside q.1 q.1.flags in
    let exportable = (and_parts (not (is_in_discarded sections q.1.at)) (is_exportable list q.0 q.1 q.1.flags) h).1 in
    let both = (and_parts (is_own_definition q.0 q.1 && seen) (is_listed list q.1.name) exportable).0 in
    let own = (and_parts (is_own_definition q.0 q.1) seen both).0 in
    (and_parts (is_canonical q.0 q.1) (not (is_undefined q.1.at)) own).0

exports_stand : (link : LinkInput) (f : NumberedFile) (m : Option ExportSymbolsMode) → IsWellFormed link → file_in link.groups f.id ≡ Some f.file
    → All (Stands link.groups) (option_map_or (λ m. export_asks (list_for link.options m) f.file.sections (first_symbol link.groups f.id) f.file.symbols) m [])
exports_stand link f None wf there = All-nil (Stands link.groups)
exports_stand link f (Some m) wf there =
    let ask : ℕ × InputSymbol → Ask = λ q. Reference q.0 flag.EXPORT_DYNAMIC in
    let own : List (ℕ × InputSymbol) = enumerate_from (first_symbol link.groups f.id) f.file.symbols in
    let list = list_for link.options m in
    all_passing (Stands link.groups) ask (is_exported list f.file.sections) own (λ k q at_k is.
    let here = numbered_here link f k q wf there at_k in
    canonical_stands link.groups q.0 q.1 here.at_number (exported_canonical list f.file.sections q is))

wanted_stand : (link : LinkInput) (f : NumberedFile) → IsWellFormed link → file_in link.groups f.id ≡ Some f.file → All (Stands link.groups) (wanted_symbol_asks link f)
wanted_stand link f wf there =
    let ask : ℕ × InputSymbol → Ask = λ q. Reference q.0 (flags_from 0) in
    let own : List (ℕ × InputSymbol) = enumerate_from (first_symbol link.groups f.id) f.file.symbols in
    all_passing (Stands link.groups) ask is_script_root own (λ k q at_k is.
    let here = numbered_here link f k q wf there at_k in
    canonical_stands link.groups q.0 q.1 here.at_number (and_parts (is_canonical q.0 q.1) (not (is_provided q.1.at)) is).0)

definition_ask_stands : (link : LinkInput) (d : ℕ) (q : InputFile × InputSymbol) (k : FileKind) → definition_of link.groups d ≡ Some d → All (Stands link.groups) (option_to_list (definition_ask link d q k))
definition_ask_stands link d q kind.Prelude own = All-nil (Stands link.groups)
definition_ask_stands link d q kind.Object own = if_stands link.groups _ (Reference d flag.EXPORT_DYNAMIC) own
definition_ask_stands link d q kind.Dynamic own = All-nil (Stands link.groups)
definition_ask_stands link d q kind.NotLoaded own = All-nil (Stands link.groups)
definition_ask_stands link d q kind.SyntheticSymbols own = All-nil (Stands link.groups)
definition_ask_stands link d q kind.LinkerScript own = if_stands link.groups (is_own_definition d q.1) (Reference d (flags_from 0)) own

asked_definition_stands : (link : LinkInput) (d : ℕ) (o : Option (NumberedFile × InputSymbol)) → definition_of link.groups d ≡ Some d
    → All (Stands link.groups) (option_to_list (option_and_then (λ q. definition_ask link d (q.0.file, q.1) q.0.file.kind) o))
asked_definition_stands link d None own = All-nil (Stands link.groups)
asked_definition_stands link d (Some q) own = definition_ask_stands link d (q.0.file, q.1) q.0.file.kind own

unless_own_stands : (link : LinkInput) (d : ℕ) (b : Bool) → definition_of link.groups d ≡ Some d → All (Stands link.groups) (option_to_list (if b then None else asked_definition link d))
unless_own_stands link d true own = All-nil (Stands link.groups)
unless_own_stands link d false own = asked_definition_stands link d (slice_get (numbered_symbols link.groups) d) own

dynamic_stands : (link : LinkInput) (s : ℕ) (def : Option ℕ) → ForSome def (λ d. definition_of link.groups d ≡ Some d)
    → All (Stands link.groups) (option_to_list (option_and_then (λ d. if d == s then None else asked_definition link d) def))
dynamic_stands link s None good = All-nil (Stands link.groups)
dynamic_stands link s (Some d) good = unless_own_stands link d (d == s) (good d refl)

event_stands : (link : LinkInput) (e : OrderEvent) → IsWellFormed link → All (Stands link.groups) (event_asks link.groups e)
event_stands link (event.SetLocation e) wf = tokens_stand link (postfix e) wf
event_stands link (event.SetLocationRelative e s) wf = tokens_stand link (postfix e) wf
event_stands link (event.SetSectionAddress e) wf = All-nil (Stands link.groups)
event_stands link (event.Section s) wf = All-nil (Stands link.groups)
event_stands link (event.SegmentStart i) wf = All-nil (Stands link.groups)
event_stands link (event.SegmentEnd i) wf = All-nil (Stands link.groups)

kind_roots_stand : (link : LinkInput) (f : NumberedFile) (k : FileKind) → IsWellFormed link → file_in link.groups f.id ≡ Some f.file → All (Stands link.groups) (kind_roots link f k)
kind_roots_stand link f kind.Prelude wf there =
    All-append (Stands link.groups) (entry_asks link) (prelude_symbol_asks link f)
    (entry_stands link link.options.entry (option_and_then (definition_of link.groups) link.options.entry) wf refl)
    (all_joined (Stands link.groups) (λ q. own_asks link.groups q.0 q.1 q.1.at) (enumerate_from (first_symbol link.groups f.id) f.file.symbols)
    (λ k q at_k. own_stands link f q.0 q.1 q.1.at wf (numbered_here link f k q wf there at_k)))
kind_roots_stand link f kind.Object wf there =
    All-append (Stands link.groups) (section_roots link.options.gc f.id 0 f.file.sections) (export_roots link f)
    (all_passing (Stands link.groups) ask_for (λ x. is_root link.options.gc x.section.slot) (sections_of f) (λ k x at_k is. tt))
    (exports_stand link f (mode_of link.options f.file) wf there)
kind_roots_stand link f kind.Dynamic wf there =
    all_joined (Stands link.groups) (λ q. option_to_list (dynamic_ask link q)) (enumerate_from (first_symbol link.groups f.id) f.file.symbols)
    (λ k q at_k. dynamic_stands link q.0 q.1.def (numbered_here link f k q wf there at_k).defined)
kind_roots_stand link f kind.NotLoaded wf there = All-nil (Stands link.groups)
kind_roots_stand link f kind.SyntheticSymbols wf there = All-nil (Stands link.groups)
kind_roots_stand link f kind.LinkerScript wf there =
    All-append (Stands link.groups) (wanted_symbol_asks link f) (location_asks link) (wanted_stand link f wf there)
    (all_joined (Stands link.groups) (event_asks link.groups) link.plan.events (λ k e at_k. event_stands link e wf))

roots_stand : (link : LinkInput) → IsWellFormed link → All (Stands link.groups) (roots link)
roots_stand link wf = all_joined (Stands link.groups) (file_roots link) (numbered_files link.groups) (λ k f there. kind_roots_stand link f f.file.kind wf (file_at link.groups k f there).there)

-- ---- paths

-- what stands for itself is the target of an ask that does
target_stands : (groups : List (List InputFile)) (a : Ask) (u : LinkUnit) → Stands groups a → target_of a ≡ Some u → UnitStands groups u
target_stands groups (Reference s f) u own e = let same : Sym s ≡ u = cc in subst (UnitStands groups) same own
target_stands groups (Section id i) u own e = let same : Sec id i ≡ u = cc in subst (UnitStands groups) same tt
target_stands groups (Mark s f) u own e = absurd (cc)

asked_stands : (groups : List (List InputFile)) (asks : List Ask) (u : LinkUnit) → All (Stands groups) asks → AskFor asks u → UnitStands groups u
asked_stands groups asks u all a = target_stands groups a.ask u (All-contains (Stands groups) asks a.ask all a.among) a.target

path_stands : (link : LinkInput) (first : LinkUnit) (rest : List LinkUnit) (last : LinkUnit) → IsWellFormed link → UnitStands link.groups first → IsPath link first rest last → UnitStands link.groups last
path_stands link first [] last wf own path = subst (UnitStands link.groups) path own
path_stands link first (next ∷ rest) last wf own path =
    let asks : AsksFor link first next = path.0 in
    path_stands link next rest last wf (asked_stands link.groups (follows link first) next (follows_stand link first wf own) asks) path.1

pub reached_stand_for_themselves : ReachedStandForThemselves
reached_stand_for_themselves link s wf reached =
    path_stands link reached.first reached.rest (Sym s) wf (asked_stands link.groups (roots link) reached.first (roots_stand link wf) reached.root) reached.path
