-- Marks set one flag, for which no symbol gets a resolution: a symbol that gets one is referred to, so it is reached. References set flags of 32 bits.
use Rattle.std.proofs.Common.{◌≡◌, ℕ, zero, suc, ◌+◌, ◌^◌, ◌<◌, Bool, true, false, ◌&&◌, if◌then◌else◌, List, [], ◌∷◌, Option, Some, None, filter, sym, ap, ◌∙◌, subst, inl, inr, arith, option_and_then}
use Rattle.std.specs.Prelude.{◌==◌, not, option_map, refl, unwrap_or}
use Rattle.std.specs.Int.{bit_at}
use Rattle.std.specs.List.{Contains, enumerate_from, flat_map, slice_get}
use Rattle.std.specs.Option.{option_map_or, option_to_list}
use Rattle.std.proofs.lemmas.Nat.Bits.{bit_at-pow_other, bit_at_above}
use Rattle.lk_link.specs.declared.file.Candidate.{Candidate}
use Rattle.lk_link.specs.declared.file.FileKind.{FileKind}
use Rattle.lk_link.specs.declared.file.FileKind.TheVariants as kind
use Rattle.lk_link.specs.declared.file.InputFile.{InputFile}
use Rattle.lk_link.specs.declared.flags.TheConstants.ValueFlags as flag
use Rattle.lk_link.specs.declared.ids.FileId.{FileId}
use Rattle.lk_link.specs.declared.link.LinkInput.{LinkInput}
use Rattle.lk_link.specs.declared.plan.OrderEvent.{OrderEvent}
use Rattle.lk_link.specs.declared.plan.OrderEvent.TheVariants as event
use Rattle.lk_link.specs.CandidateIndex.{candidates_of}
use Rattle.lk_link.specs.declared.relocation.Relocation.{Relocation}
use Rattle.lk_link.specs.declared.section.InputSection.{InputSection}
use Rattle.lk_link.specs.declared.symbol.InputSymbol.{InputSymbol}
use Rattle.lk_link.specs.Files.{file_in}
use Rattle.lk_link.specs.Inputs.{Input, NumberedFile, inputs_from, numbered_files}
use Rattle.lk_link.specs.InputSlots.{can_be_kept, is_regular}
use Rattle.lk_link.specs.Relocations.{resolution_flags}
use Rattle.lk_link.specs.SectionGroups.{group_members}
use Rattle.lk_link.specs.Symbols.{definition_of, first_symbol, is_named}
use Rattle.lk_link.proofs.Elements.{append_at, at_contained, flat_map_at, map_at}
use Rattle.lk_link.proofs.GoodSymbols.{numbered_symbol}
use Rattle.lk_reach.specs.declared.exports.ExportSymbolsMode.{ExportSymbolsMode}
use Rattle.lk_reach.specs.declared.exports.ExportSymbolsMode.TheVariants as mode
use Rattle.lk_reach.specs.declared.units.Ask.{Ask}
use Rattle.lk_reach.specs.declared.units.Ask.TheVariants.{Reference, Section, Mark}
use Rattle.lk_reach.specs.declared.units.Unit.{Unit as LinkUnit}
use Rattle.lk_reach.specs.declared.units.Unit.TheVariants.{Sym, Sec}
use Rattle.lk_reach.specs.Exports.{is_exported, is_own_definition, list_for, mode_of}
use Rattle.lk_reach.specs.Laws.{ResolvedIsReached}
use Rattle.lk_link.specs.declared.expression.Operand.TheVariants as operand
use Rattle.lk_link.specs.declared.expression.Token.{Token}
use Rattle.lk_link.specs.declared.expression.Token.TheVariants as token
use Rattle.lk_link.specs.declared.symbol.SymbolPlacement.{SymbolPlacement}
use Rattle.lk_link.specs.declared.symbol.SymbolPlacement.TheVariants as at
use Rattle.lk_link.specs.Expressions.{postfix}
use Rattle.lk_link.specs.SymbolPlacements.{edge_of, section_of}
use Rattle.lk_reach.specs.Placements.{is_defined}
use Rattle.lk_reach.specs.Units.{candidate_ask, candidate_asks, event_asks, is_script_root, kind_asks, location_asks, script_redirect_asks, script_symbol_asks, shown_ask, wanted_symbol_asks, AskFlag, AskFor, ask_for, asked_definition, asked_members, asked_references, definition_ask, dynamic_ask, entry_asks, own_asks, prelude_symbol_asks, token_ask, token_asks, export_asks, export_roots, file_roots, flags_from, flags_of, follows, is_other, is_primary_section, is_root, kind_roots, local_definition, member_asks, numbered_symbols, range_mark, reference, relocation_asks, roots, section_references, section_roots, symbol_asks, other_asks}
use Rattle.lk_reach.proofs.KindFlags.{kind_few}
use Rattle.lk_reach.proofs.ReachLemmas.{reach_more, reach_root}

-- ---- marks set one flag, which is none of these, and references set flags of 32 bits

abbrev pub IsPlainAsk : Ask → Type 0
IsPlainAsk (Reference s f) = f.0 < 2 ^ 32
IsPlainAsk (Section id i) = Unit {0}
IsPlainAsk (Mark s f) = f.0 ≡ 2 ^ 14

plain_if : (b : Bool) (x : Ask) (k : ℕ) (a : Ask) → IsPlainAsk x → slice_get (option_to_list (if b then Some x else None)) k ≡ Some a → IsPlainAsk a
plain_if true x zero a plain h = let same : x ≡ a = cc in subst IsPlainAsk same plain
plain_if true x (suc k) a plain h = absurd (cc)
plain_if false x k a plain h = absurd (cc)

plain_unless : (b : Bool) (x : Ask) (k : ℕ) (a : Ask) → IsPlainAsk x → slice_get (option_to_list (if b then None else Some x)) k ≡ Some a → IsPlainAsk a
plain_unless false x zero a plain h = let same : x ≡ a = cc in subst IsPlainAsk same plain
plain_unless false x (suc k) a plain h = absurd (cc)
plain_unless true x k a plain h = absurd (cc)

relocation_plain : (primary : Bool) (first : ℕ) (symbols : List InputSymbol) (r : Relocation) (k : ℕ) (a : Ask) → slice_get (relocation_asks primary first symbols r) k ≡ Some a → IsPlainAsk a
relocation_plain primary first symbols r k a h =
    elim (append_at (option_to_list (reference first symbols r)) (option_to_list (range_mark primary first r)) k a h) [
      | inl refers ↦ plain_unless (resolution_flags r.kind == 0) (Reference (local_definition first symbols r.symbol) (flags_from (resolution_flags r.kind))) k a (kind_few r.kind) refers
      | inr marks ↦ plain_if (primary && r.thunkable) (Mark (first + r.symbol) flag.HAS_RANGE_LIMITED_REL) marks.0 a refl marks.2
    ]

section_plain : (link : LinkInput) (id : FileId) (file : InputFile) (s : InputSection) (k : ℕ) (a : Ask) → slice_get (section_references link id file s) k ≡ Some a → IsPlainAsk a
section_plain link id file s k a h =
    let asks : Relocation → List Ask = relocation_asks (is_primary_section link s) (first_symbol link.groups id) file.symbols in
    elim (is_regular s.slot) as (λ b. slice_get (if b then flat_map asks s.relocs else []) k ≡ Some a → IsPlainAsk a) [
      | true ↦ λ among. let at = flat_map_at asks s.relocs k a among in relocation_plain (is_primary_section link s) (first_symbol link.groups id) file.symbols at.from at.inner a at.gives
      | false ↦ λ among. absurd (cc)
    ] h

placed_plain : (id : FileId) (o : Option ℕ) (k : ℕ) (a : Ask) → slice_get (option_to_list (option_map (Section id) o)) k ≡ Some a → IsPlainAsk a
placed_plain id None k a h = absurd (cc)
placed_plain id (Some i) zero a h = let same : Section id i ≡ a = cc in subst IsPlainAsk same tt
placed_plain id (Some i) (suc k) a h = absurd (cc)

entry_plain : (o : Option ℕ) (k : ℕ) (a : Ask) → slice_get (option_to_list (option_map (λ s. Reference s flag.DIRECT) o)) k ≡ Some a → IsPlainAsk a
entry_plain None k a h = absurd (cc)
entry_plain (Some s) zero a h = let same : Reference s flag.DIRECT ≡ a = cc in subst IsPlainAsk same (omega arith)
entry_plain (Some s) (suc k) a h = absurd (cc)

token_plain : (groups : List (List InputFile)) (t : Token) (k : ℕ) (a : Ask) → slice_get (option_to_list (token_ask groups t)) k ≡ Some a → IsPlainAsk a
token_plain groups (token.Operand (operand.Symbol s)) k a h = entry_plain (definition_of groups s) k a h
token_plain groups (token.Operand (operand.Number n)) k a h = absurd (cc)
token_plain groups (token.Operand operand.Dot) k a h = absurd (cc)
token_plain groups (token.Operand (operand.Address n)) k a h = absurd (cc)
token_plain groups (token.Operand (operand.SizeOf n)) k a h = absurd (cc)
token_plain groups (token.Operand (operand.Origin n)) k a h = absurd (cc)
token_plain groups (token.Operand (operand.Length n)) k a h = absurd (cc)
token_plain groups (token.Operand operand.SizeOfHeaders) k a h = absurd (cc)
token_plain groups (token.Operator o) k a h = absurd (cc)

redirect_plain : (groups : List (List InputFile)) (s : ℕ) (tokens : List Token) (k : ℕ) (a : Ask) → slice_get (Reference s flag.DIRECT ∷ token_asks groups tokens) k ≡ Some a → IsPlainAsk a
redirect_plain groups s tokens zero a h = let same : Reference s flag.DIRECT ≡ a = cc in subst IsPlainAsk same (omega arith)
redirect_plain groups s tokens (suc k) a h =
    let at = flat_map_at (λ t. option_to_list (token_ask groups t)) tokens k a h in
    token_plain groups at.from at.inner a at.gives

candidates_plain : (candidates : List Candidate) (o : Option ℕ) (k : ℕ) (a : Ask) → slice_get (option_map_or (candidate_asks candidates) o []) k ≡ Some a → IsPlainAsk a
candidates_plain candidates None k a h = absurd (cc)
candidates_plain candidates (Some o) k a h = let x = map_at candidate_ask (candidates_of o candidates) k a h in subst IsPlainAsk x.2 tt

script_redirect_plain : (groups : List (List InputFile)) (s : ℕ) (p : SymbolPlacement) (k : ℕ) (a : Ask) → slice_get (script_redirect_asks groups s p) k ≡ Some a → IsPlainAsk a
script_redirect_plain groups s (at.Redirect e l provide) k a h = redirect_plain groups s (postfix e) k a h
script_redirect_plain groups s at.ForceUndefined k a h = absurd (cc)
script_redirect_plain groups s (at.Section i o) k a h = absurd (cc)
script_redirect_plain groups s (at.Common q n) k a h = absurd (cc)
script_redirect_plain groups s (at.Absolute n) k a h = absurd (cc)
script_redirect_plain groups s at.Undef k a h = absurd (cc)
script_redirect_plain groups s at.Dynamic k a h = absurd (cc)
script_redirect_plain groups s at.Undefined k a h = absurd (cc)
script_redirect_plain groups s (at.SectionStart o) k a h = absurd (cc)
script_redirect_plain groups s (at.SectionEnd o) k a h = absurd (cc)
script_redirect_plain groups s (at.SectionGroupEnd o) k a h = absurd (cc)
script_redirect_plain groups s at.TlsEnd k a h = absurd (cc)
script_redirect_plain groups s at.LoadBaseAddress k a h = absurd (cc)

script_plain : (groups : List (List InputFile)) (s : ℕ) (x : InputSymbol) (k : ℕ) (a : Ask) → slice_get (script_symbol_asks groups s x) k ≡ Some a → IsPlainAsk a
script_plain groups s x k a h = elim (append_at (script_redirect_asks groups s x.at) (option_to_list (shown_ask s x)) k a h) [
  | inl own ↦ script_redirect_plain groups s x.at k a own
  | inr shown ↦ plain_if (is_named x && not x.hidden) (Reference s flag.EXPORT_DYNAMIC) shown.0 a (omega arith) shown.2
]

kind_asks_plain : (groups : List (List InputFile)) (s : ℕ) (id : FileId) (file : InputFile) (x : InputSymbol) (of : FileKind) (k : ℕ) (a : Ask) → slice_get (kind_asks groups s id file x of) k ≡ Some a → IsPlainAsk a
kind_asks_plain groups s id file x kind.Object k a h = placed_plain id (section_of x.at) k a h
kind_asks_plain groups s id file x kind.SyntheticSymbols k a h = candidates_plain file.candidates (edge_of x.at) k a h
kind_asks_plain groups s id file x kind.LinkerScript k a h = script_plain groups s x k a h
kind_asks_plain groups s id file x kind.Prelude k a h = absurd (cc)
kind_asks_plain groups s id file x kind.Dynamic k a h = absurd (cc)
kind_asks_plain groups s id file x kind.NotLoaded k a h = absurd (cc)

symbol_plain : (groups : List (List InputFile)) (s : ℕ) (o : Option (NumberedFile × InputSymbol)) (k : ℕ) (a : Ask) → slice_get (option_map_or (symbol_asks groups s) o []) k ≡ Some a → IsPlainAsk a
symbol_plain groups s None k a h = absurd (cc)
symbol_plain groups s (Some q) k a h = kind_asks_plain groups s q.0.id q.0.file q.1 q.0.file.kind k a h

held_plain : (link : LinkInput) (id : FileId) (file : InputFile) (o : Option InputSection) (k : ℕ) (a : Ask) → slice_get (option_map_or (section_references link id file) o []) k ≡ Some a → IsPlainAsk a
held_plain link id file None k a h = absurd (cc)
held_plain link id file (Some s) k a h = section_plain link id file s k a h

filed_plain : (link : LinkInput) (id : FileId) (i : ℕ) (o : Option InputFile) (k : ℕ) (a : Ask)
    → slice_get (option_map_or (λ f. option_map_or (section_references link id f) (slice_get f.sections i) []) o []) k ≡ Some a → IsPlainAsk a
filed_plain link id i None k a h = absurd (cc)
filed_plain link id i (Some f) k a h = held_plain link id f (slice_get f.sections i) k a h

group_plain : (id : FileId) (sections : List InputSection) (own : ℕ) (group : Option ℕ) (k : ℕ) (a : Ask) → slice_get (option_map_or (λ g. other_asks id sections own (group_members sections g)) group []) k ≡ Some a → IsPlainAsk a
group_plain id sections own None k a h = absurd (cc)
group_plain id sections own (Some g) k a h =
    let x = map_at (Section id) (filter (is_other sections own) (group_members sections g)) k a h in
    subst IsPlainAsk x.2 tt

member_plain : (id : FileId) (sections : List InputSection) (own : ℕ) (o : Option InputSection) (k : ℕ) (a : Ask) → slice_get (option_map_or (member_asks id sections own) o []) k ≡ Some a → IsPlainAsk a
member_plain id sections own None k a h = absurd (cc)
member_plain id sections own (Some s) k a h =
    elim (can_be_kept s.slot) as (λ b. slice_get (if b then option_map_or (λ g. other_asks id sections own (group_members sections g)) s.group [] else []) k ≡ Some a → IsPlainAsk a) [
      | true ↦ λ among. group_plain id sections own s.group k a among
      | false ↦ λ among. absurd (cc)
    ] h

filed_member_plain : (id : FileId) (i : ℕ) (o : Option InputFile) (k : ℕ) (a : Ask)
    → slice_get (option_map_or (λ f. option_map_or (member_asks id f.sections i) (slice_get f.sections i) []) o []) k ≡ Some a → IsPlainAsk a
filed_member_plain id i None k a h = absurd (cc)
filed_member_plain id i (Some f) k a h = member_plain id f.sections i (slice_get f.sections i) k a h

-- what units ask for is plain
pub follows_plain : (link : LinkInput) (u : LinkUnit) (k : ℕ) (a : Ask) → slice_get (follows link u) k ≡ Some a → IsPlainAsk a
follows_plain link (Sym s) k a h = symbol_plain link.groups s (slice_get (numbered_symbols link.groups) s) k a h
follows_plain link (Sec id i) k a h = elim (append_at (asked_members link id i) (asked_references link id i) k a h) [
  | inl member ↦ filed_member_plain id i (file_in link.groups id) k a member
  | inr refers ↦ filed_plain link id i (file_in link.groups id) refers.0 a refers.2
]

own_plain : (groups : List (List InputFile)) (s : ℕ) (x : InputSymbol) (p : SymbolPlacement) (k : ℕ) (a : Ask) → slice_get (own_asks groups s x p) k ≡ Some a → IsPlainAsk a
own_plain groups s x (at.Redirect e l provide) k a h =
    elim (unwrap_or x.def s == s) as (λ b. slice_get (if b then Reference s flag.DIRECT ∷ token_asks groups (postfix e) else []) k ≡ Some a → IsPlainAsk a) [
      | true ↦ λ among. redirect_plain groups s (postfix e) k a among
      | false ↦ λ among. absurd (cc)
    ] h
own_plain groups s x at.ForceUndefined k a h = plain_if (is_defined groups (unwrap_or x.def s)) (Reference (unwrap_or x.def s) flag.DIRECT) k a (omega arith) h
own_plain groups s x (at.Section i o) k a h = absurd (cc)
own_plain groups s x (at.Common q n) k a h = absurd (cc)
own_plain groups s x (at.Absolute n) k a h = absurd (cc)
own_plain groups s x at.Undef k a h = absurd (cc)
own_plain groups s x at.Dynamic k a h = absurd (cc)
own_plain groups s x at.Undefined k a h = absurd (cc)
own_plain groups s x (at.SectionStart o) k a h = absurd (cc)
own_plain groups s x (at.SectionEnd o) k a h = absurd (cc)
own_plain groups s x (at.SectionGroupEnd o) k a h = absurd (cc)
own_plain groups s x at.TlsEnd k a h = absurd (cc)
own_plain groups s x at.LoadBaseAddress k a h = absurd (cc)

exports_plain : (link : LinkInput) (f : NumberedFile) (m : Option ExportSymbolsMode) (k : ℕ) (a : Ask)
    → slice_get (option_map_or (λ m. export_asks (list_for link.options m) f.file.sections (first_symbol link.groups f.id) f.file.symbols) m []) k ≡ Some a → IsPlainAsk a
exports_plain link f None k a h = absurd (cc)
exports_plain link f (Some m) k a h =
    let ask : ℕ × InputSymbol → Ask = λ q. Reference q.0 flag.EXPORT_DYNAMIC in
    let x = map_at ask (filter (is_exported (list_for link.options m) f.file.sections) (enumerate_from (first_symbol link.groups f.id) f.file.symbols)) k a h in
    subst IsPlainAsk x.2 (omega arith)

definition_plain : (link : LinkInput) (d : ℕ) (q : InputFile × InputSymbol) (of : FileKind) (k : ℕ) (a : Ask) → slice_get (option_to_list (definition_ask link d q of)) k ≡ Some a → IsPlainAsk a
definition_plain link d q kind.Prelude k a h = absurd (cc)
definition_plain link d q kind.Object k a h = plain_if (is_exported (list_for link.options mode.All) q.0.sections (d, q.1)) (Reference d flag.EXPORT_DYNAMIC) k a (omega arith) h
definition_plain link d q kind.Dynamic k a h = absurd (cc)
definition_plain link d q kind.NotLoaded k a h = absurd (cc)
definition_plain link d q kind.SyntheticSymbols k a h = absurd (cc)
definition_plain link d q kind.LinkerScript k a h = plain_if (is_own_definition d q.1) (Reference d (flags_from 0)) k a (omega arith) h

defined_plain : (link : LinkInput) (d : ℕ) (o : Option (NumberedFile × InputSymbol)) (k : ℕ) (a : Ask)
    → slice_get (option_to_list (option_and_then (λ q. definition_ask link d (q.0.file, q.1) q.0.file.kind) o)) k ≡ Some a → IsPlainAsk a
defined_plain link d None k a h = absurd (cc)
defined_plain link d (Some q) k a h = definition_plain link d (q.0.file, q.1) q.0.file.kind k a h

dynamic_plain : (link : LinkInput) (s : ℕ) (def : Option ℕ) (k : ℕ) (a : Ask)
    → slice_get (option_to_list (option_and_then (λ d. if d == s then None else asked_definition link d) def)) k ≡ Some a → IsPlainAsk a
dynamic_plain link s None k a h = absurd (cc)
dynamic_plain link s (Some d) k a h =
    elim (d == s) as (λ b. slice_get (option_to_list (if b then None else asked_definition link d)) k ≡ Some a → IsPlainAsk a) [
      | true ↦ λ among. absurd (cc)
      | false ↦ λ among. defined_plain link d (slice_get (numbered_symbols link.groups) d) k a among
    ] h

tokens_plain : (groups : List (List InputFile)) (tokens : List Token) (k : ℕ) (a : Ask) → slice_get (token_asks groups tokens) k ≡ Some a → IsPlainAsk a
tokens_plain groups tokens k a h =
    let at = flat_map_at (λ t. option_to_list (token_ask groups t)) tokens k a h in
    token_plain groups at.from at.inner a at.gives

event_plain : (groups : List (List InputFile)) (e : OrderEvent) (k : ℕ) (a : Ask) → slice_get (event_asks groups e) k ≡ Some a → IsPlainAsk a
event_plain groups (event.SetLocation e) k a h = tokens_plain groups (postfix e) k a h
event_plain groups (event.SetLocationRelative e s) k a h = tokens_plain groups (postfix e) k a h
event_plain groups (event.SetSectionAddress e) k a h = absurd (cc)
event_plain groups (event.Section s) k a h = absurd (cc)
event_plain groups (event.SegmentStart i) k a h = absurd (cc)
event_plain groups (event.SegmentEnd i) k a h = absurd (cc)

kind_plain : (link : LinkInput) (f : NumberedFile) (of : FileKind) (k : ℕ) (a : Ask) → slice_get (kind_roots link f of) k ≡ Some a → IsPlainAsk a
kind_plain link f kind.Prelude k a h = elim (append_at (entry_asks link) (prelude_symbol_asks link f) k a h) [
  | inl entry ↦ entry_plain _ k a entry
  | inr own ↦
      let at = flat_map_at (λ q. own_asks link.groups q.0 q.1 q.1.at) (enumerate_from (first_symbol link.groups f.id) f.file.symbols) own.0 a own.2 in
      own_plain link.groups at.from.0 at.from.1 at.from.1.at at.inner a at.gives
]
kind_plain link f kind.Object k a h = elim (append_at (section_roots link.options.gc f.id 0 f.file.sections) (export_roots link f) k a h) [
  | inl own ↦
      let x = map_at ask_for (filter (λ (x : Input). is_root link.options.gc x.section.slot) (inputs_from f.id 0 f.file.sections)) k a own in
      subst IsPlainAsk x.2 tt
  | inr exports ↦ exports_plain link f (mode_of link.options f.file) exports.0 a exports.2
]
kind_plain link f kind.Dynamic k a h =
    let at = flat_map_at (λ q. option_to_list (dynamic_ask link q)) (enumerate_from (first_symbol link.groups f.id) f.file.symbols) k a h in
    dynamic_plain link at.from.0 at.from.1.def at.inner a at.gives
kind_plain link f kind.NotLoaded k a h = absurd (cc)
kind_plain link f kind.SyntheticSymbols k a h = absurd (cc)
kind_plain link f kind.LinkerScript k a h = elim (append_at (wanted_symbol_asks link f) (location_asks link) k a h) [
  | inl own ↦
      let ask : ℕ × InputSymbol → Ask = λ q. Reference q.0 (flags_from 0) in
      let x = map_at ask (filter is_script_root (enumerate_from (first_symbol link.groups f.id) f.file.symbols)) k a own in
      subst IsPlainAsk x.2 (omega arith)
  | inr locations ↦
      let at = flat_map_at (event_asks link.groups) link.plan.events locations.0 a locations.2 in
      event_plain link.groups at.from at.inner a at.gives
]

-- what roots ask for is plain
pub roots_plain : (link : LinkInput) (k : ℕ) (a : Ask) → slice_get (roots link) k ≡ Some a → IsPlainAsk a
roots_plain link k a h =
    let at = flat_map_at (file_roots link) (numbered_files link.groups) k a h in
    kind_plain link at.from at.from.file.kind at.inner a at.gives

-- ---- a symbol that has a resolution is reached

-- what sets such a bit refers to the symbol
refers : (asks : List Ask) (s i : ℕ) (a : Ask) (flags : ℕ) → i < 14 → IsPlainAsk a → Contains asks a → flags_of a ≡ Some (s, flags) → bit_at flags i ≡ 1 → AskFor asks (Sym s)
refers asks s i (Reference t f) flags below plain among sets bit =
    let given : ℕ × ℕ = (t, f.0) in
    let wanted : ℕ × ℕ = (s, flags) in
    let pair : given ≡ wanted = cc in
    record { ask = Reference t f; among = among; target = ap (λ (p : ℕ × ℕ). Some (Sym p.0)) pair }
refers asks s i (Section id j) flags below plain among sets bit = absurd (cc)
refers asks s i (Mark t f) flags below plain among sets bit =
    let given : ℕ × ℕ = (t, f.0) in
    let wanted : ℕ × ℕ = (s, flags) in
    let pair : given ≡ wanted = cc in
    let same : bit_at (2 ^ 14) i ≡ bit_at flags i = ap (λ n. bit_at n i) (sym plain ∙ ap (λ (p : ℕ × ℕ). p.1) pair) in
    absurd (omega (arith, same, bit, bit_at-pow_other 14 i (λ is. omega (arith, is, below))))

asked_for : (asks : List Ask) (s i : ℕ) → i < 14 → ((k : ℕ) (a : Ask) → slice_get asks k ≡ Some a → IsPlainAsk a) → AskFlag asks s i → AskFor asks (Sym s)
asked_for asks s i below plain h =
    let at = at_contained asks h.ask h.among in
    refers asks s i h.ask h.flags below (plain at.0 h.ask at.1) h.among h.sets h.bit

pub resolved_is_reached : ResolvedIsReached
resolved_is_reached link s i wf from below h = elim h [
  | inl handed ↦
      let few = (numbered_symbol link s handed.symbol wf handed.there).2.few_flags in
      absurd (omega (arith, handed.bit, bit_at_above handed.symbol.flags.0 6 i few from))
  | inr set ↦ elim set [
    | inl root ↦ reach_root link (Sym s) (asked_for (roots link) s i below (roots_plain link) root)
    | inr unit ↦ reach_more link unit.unit (Sym s) unit.reached (asked_for (follows link unit.unit) s i below (follows_plain link unit.unit) unit.asks)
  ]
]
