-- What can be kept, and what asks for it.
use Rattle.std.specs.Prelude.{◌≡◌, ℕ, ◌+◌, ◌==◌, ◌&&◌, not, Bool, true, false, if◌then◌else◌, List, [], ◌∷◌, ◌++◌, Option, Some, None, Contains, map, filter, option_and_then, option_map, slice_get, unwrap_or}
use Rattle.std.specs.Int.{bit_at}
use Rattle.std.specs.List.{enumerate_from, flat_map}
use Rattle.std.specs.Option.{option_map_or, option_to_list}
use Rattle.lk_link.specs.declared.file.Candidate.{Candidate}
use Rattle.lk_link.specs.declared.file.FileKind.{FileKind}
use Rattle.lk_link.specs.declared.file.FileKind.TheVariants as kind
use Rattle.lk_link.specs.declared.file.InputFile.{InputFile}
use Rattle.lk_link.specs.declared.flags.TheConstants.ValueFlags as flag
use Rattle.lk_link.specs.declared.flags.ValueFlags.{ValueFlags}
use Rattle.lk_link.specs.declared.ids.FileId.{FileId}
use Rattle.lk_link.specs.declared.link.LinkInput.{LinkInput}
use Rattle.lk_link.specs.declared.plan.OrderEvent.{OrderEvent}
use Rattle.lk_link.specs.declared.plan.OrderEvent.TheVariants as event
use Rattle.lk_link.specs.declared.relocation.Relocation.{Relocation}
use Rattle.lk_link.specs.declared.section.InputSection.{InputSection}
use Rattle.lk_link.specs.declared.section.InputSlot.{InputSlot}
use Rattle.lk_link.specs.declared.section.InputSlot.TheVariants as slot
use Rattle.lk_link.specs.declared.symbol.InputSymbol.{InputSymbol}
use Rattle.lk_link.specs.declared.symbol.SymbolPlacement.{SymbolPlacement}
use Rattle.lk_link.specs.declared.symbol.SymbolPlacement.TheVariants as at
use Rattle.lk_link.specs.declared.expression.Operand.TheVariants as operand
use Rattle.lk_link.specs.declared.expression.Token.{Token}
use Rattle.lk_link.specs.declared.expression.Token.TheVariants as token
use Rattle.lk_link.specs.CandidateIndex.{candidates_of}
use Rattle.lk_link.specs.Expressions.{Term, postfix}
use Rattle.lk_link.specs.Files.{file_in}
use Rattle.lk_link.specs.Inputs.{Input, NumberedFile, inputs_from, numbered_files}
use Rattle.lk_link.specs.InputSlots.{can_be_kept, is_regular}
pub use Rattle.lk_link.specs.NumberedSymbols.{numbered_symbols, symbols_of}
use Rattle.lk_link.specs.PartRules.{is_part}
use Rattle.lk_link.specs.Relocations.{resolution_flags}
use Rattle.lk_link.specs.SectionGroups.{group_members}
use Rattle.lk_link.specs.Symbols.{definition_of, first_symbol, is_canonical, is_named}
use Rattle.lk_reach.specs.declared.exports.ExportSymbolsMode.TheVariants as mode
use Rattle.lk_reach.specs.Exports.{is_exported, is_own_definition, list_for, mode_of}
use Rattle.lk_link.specs.SymbolPlacements.{edge_of, is_provided}
use Rattle.lk_reach.specs.Placements.{is_defined}
pub use Rattle.lk_link.specs.SymbolPlacements.{section_of}
use Rattle.lk_reach.specs.declared.units.Ask.{Ask}
use Rattle.lk_reach.specs.declared.units.Ask.TheVariants.{Reference, Section, Mark}
use Rattle.lk_reach.specs.declared.units.Unit.{Unit as LinkUnit}
use Rattle.lk_reach.specs.declared.units.Unit.TheVariants.{Sym, Sec}

-- ---- asks

-- the unit that an ask reaches, if it reaches one
abbrev pub target_of : Ask → Option LinkUnit
target_of (Reference symbol flags) = Some (Sym symbol)
target_of (Section file index) = Some (Sec file index)
target_of (Mark symbol flags) = None

-- the symbol of which an ask sets flags, and those flags
abbrev pub flags_of : Ask → Option (ℕ × ℕ)
flags_of (Reference symbol flags) = Some (symbol, flags.0)
flags_of (Section file index) = None
flags_of (Mark symbol flags) = Some (symbol, flags.0)

-- the asks of a list that there may be
abbrev pub all_of : Option (List Ask) → List Ask
all_of asks = unwrap_or asks []

-- an input section as a unit, and as what is asked for
abbrev pub unit_of : Input → LinkUnit
unit_of x = Sec x.file x.index

abbrev pub ask_for : Input → Ask
ask_for x = Section x.file x.index

-- ---- sections

-- what stands for a symbol of a file, by its index there and the number of the file's first symbol: its definition, else itself
abbrev pub local_definition : ℕ → List InputSymbol → ℕ → ℕ
local_definition first symbols i = option_map_or (λ s. unwrap_or s.def (first + i)) (slice_get symbols i) (first + i)

-- a set of flags by its number
abbrev pub flags_from : ℕ → ValueFlags
flags_from n = record { 0 = n }

-- a relocation refers to what stands for its symbol, with the flags that its kind wants, unless it wants none
abbrev pub reference : ℕ → List InputSymbol → Relocation → Option Ask
reference first symbols r =
    if resolution_flags r.kind == 0 then None
    else Some (Reference (local_definition first symbols r.symbol) (flags_from (resolution_flags r.kind)))

-- in the primary part one that a thunk may stand in for marks its own symbol
abbrev pub range_mark : Bool → ℕ → Relocation → Option Ask
range_mark primary first r = if primary && r.thunkable then Some (Mark (first + r.symbol) flag.HAS_RANGE_LIMITED_REL) else None

-- what a relocation asks for: its reference, then its mark
abbrev pub relocation_asks : Bool → ℕ → List InputSymbol → Relocation → List Ask
relocation_asks primary first symbols r = option_to_list (reference first symbols r) ++ option_to_list (range_mark primary first r)

-- whether a section goes to the primary part
abbrev pub is_primary_section : LinkInput → InputSection → Bool
is_primary_section link s = is_part s.part link.plan.named.primary

-- what the relocations of a section of a file ask for, where it is loaded for what it holds: those of other sections aren't followed
abbrev pub section_references : LinkInput → FileId → InputFile → InputSection → List Ask
section_references link id file s =
    if is_regular s.slot then flat_map (relocation_asks (is_primary_section link s) (first_symbol link.groups id) file.symbols) s.relocs
    else []

-- ---- section groups

-- whether a section comes with the other members of its group: debug data that is kept in any case is asked for by its file
abbrev pub comes_along : InputSlot → Bool
comes_along slot.MustLoadDebugInfo = false
comes_along s = can_be_kept s

-- the same, for the section of a file with an index
abbrev pub is_coming : List InputSection → ℕ → Bool
is_coming sections k = option_map_or (λ s. comes_along s.slot) (slice_get sections k) false

-- whether it is another section than this one and comes along
abbrev pub is_other : List InputSection → ℕ → ℕ → Bool
is_other sections own k = not (k == own) && is_coming sections k

-- those of some sections of a file that come along, as what is asked for
abbrev pub coming_asks : FileId → List InputSection → List ℕ → List Ask
coming_asks id sections members = map (Section id) (filter (is_coming sections) members)

-- those of some sections of a file that are others than this one and come along, as what is asked for
abbrev pub other_asks : FileId → List InputSection → ℕ → List ℕ → List Ask
other_asks id sections own members = map (Section id) (filter (is_other sections own) members)

-- what a section asks for of the group that it is in, if it is kept itself and in one: the other members that come along
abbrev pub member_asks : FileId → List InputSection → ℕ → InputSection → List Ask
member_asks id sections own s =
    if can_be_kept s.slot then option_map_or (λ g. other_asks id sections own (group_members sections g)) s.group [] else []

-- ---- sections of the link

-- what the section of a file with an index asks for of its group
abbrev pub asked_members : LinkInput → FileId → ℕ → List Ask
asked_members link id i =
    option_map_or (λ f. option_map_or (member_asks id f.sections i) (slice_get f.sections i) []) (file_in link.groups id) []

-- what it asks for by its relocations
abbrev pub asked_references : LinkInput → FileId → ℕ → List Ask
asked_references link id i =
    option_map_or (λ f. option_map_or (section_references link id f) (slice_get f.sections i) []) (file_in link.groups id) []

-- ---- expressions

-- what a piece of an expression refers to: what stands for its symbol, directly
abbrev pub token_ask : List (List InputFile) → Token → Option Ask
token_ask groups (token.Operand (operand.Symbol s)) = option_map (λ d. Reference d flag.DIRECT) (definition_of groups s)
token_ask groups _ = None

abbrev pub token_asks : List (List InputFile) → List Token → List Ask
token_asks groups tokens = flat_map (λ t. option_to_list (token_ask groups t)) tokens

-- what a redirect refers to: itself, then the symbols of its expression, from left to right
abbrev pub redirect_references : List (List InputFile) → ℕ → Term → List Ask
redirect_references groups s e = Reference s flag.DIRECT ∷ token_asks groups (postfix e)

-- ---- symbols of each kind of file (libwild: `load_symbol`)

-- a candidate, as what is asked for
abbrev pub candidate_ask : Candidate → Ask
candidate_ask c = Section c.file c.index

-- those of an output section among the candidates of a file
abbrev pub candidate_asks : List Candidate → ℕ → List Ask
candidate_asks candidates o = map candidate_ask (candidates_of o candidates)

-- a redirect of a script asks for itself and the symbols of its expression
abbrev pub script_redirect_asks : List (List InputFile) → ℕ → SymbolPlacement → List Ask
script_redirect_asks groups s (at.Redirect e l provide) = redirect_references groups s e
script_redirect_asks groups s _ = []

-- a symbol of a script that has a name and isn't hidden asks for itself, for the dynamic linker
abbrev pub shown_ask : ℕ → InputSymbol → Option Ask
shown_ask s x = if is_named x && not x.hidden then Some (Reference s flag.EXPORT_DYNAMIC) else None

abbrev pub script_symbol_asks : List (List InputFile) → ℕ → InputSymbol → List Ask
script_symbol_asks groups s x = script_redirect_asks groups s x.at ++ option_to_list (shown_ask s x)

-- what a symbol, with its number, of a file of a kind asks for: in an object for its section, if it has one; in a synthetic file, where it
-- stands at the start or an end of an output section, for the file's candidates of that section; in a script as above; in a file of another
-- kind for nothing
abbrev pub kind_asks : List (List InputFile) → ℕ → FileId → InputFile → InputSymbol → FileKind → List Ask
kind_asks groups s id file x kind.Object = option_to_list (option_map (Section id) (section_of x.at))
kind_asks groups s id file x kind.SyntheticSymbols = option_map_or (candidate_asks file.candidates) (edge_of x.at) []
kind_asks groups s id file x kind.LinkerScript = script_symbol_asks groups s x
kind_asks groups s id file x _ = []

-- the same, for a symbol with its file
abbrev pub symbol_asks : List (List InputFile) → ℕ → NumberedFile × InputSymbol → List Ask
symbol_asks groups s q = kind_asks groups s q.0.id q.0.file q.1 q.0.file.kind

-- ---- units

-- what a unit asks for: a symbol as its kind of file does; a section for the other members of its group, then for what its
-- relocations refer to
-- (libwild: `handle_section_load_request`)
abbrev pub follows : LinkInput → LinkUnit → List Ask
follows link (Sym s) = option_map_or (symbol_asks link.groups s) (slice_get (numbered_symbols link.groups) s) []
follows link (Sec id i) = asked_members link id i ++ asked_references link id i

-- ---- roots

-- whether a section is asked for by its own file: one that is kept in any case is, and without collection any that can be kept
abbrev pub is_root : Bool → InputSlot → Bool
is_root gc slot.MustLoad = true
is_root gc slot.MustLoadDebugInfo = true
is_root gc s = can_be_kept s && not gc

-- the entry, as the prelude refers to it: what stands for it, directly
abbrev pub entry_asks : LinkInput → List Ask
entry_asks link =
    option_to_list (option_map (λ s. Reference s flag.DIRECT) (option_and_then (definition_of link.groups) link.options.entry))

-- what a symbol that is wanted all the same refers to: what stands for it, if that is defined
abbrev pub forced_ask : List (List InputFile) → ℕ → Option Ask
forced_ask groups d = if is_defined groups d then Some (Reference d flag.DIRECT) else None

-- what the prelude refers to by a symbol of its own, with its number and its placement: by a redirect that stands for itself, and by one
-- that is wanted all the same
abbrev pub own_asks : List (List InputFile) → ℕ → InputSymbol → SymbolPlacement → List Ask
own_asks groups s x (at.Redirect e l provide) = if is_canonical s x then redirect_references groups s e else []
own_asks groups s x at.ForceUndefined = option_to_list (forced_ask groups (unwrap_or x.def s))
own_asks groups s x _ = []

-- the same for all symbols
abbrev pub prelude_symbol_asks : LinkInput → NumberedFile → List Ask
prelude_symbol_asks link f =
    flat_map (λ q. own_asks link.groups q.0 q.1 q.1.at) (enumerate_from (first_symbol link.groups f.id) f.file.symbols)

-- the sections that an object asks for
abbrev pub section_roots : Bool → FileId → ℕ → List InputSection → List Ask
section_roots gc id i sections = map ask_for (filter (λ x. is_root gc x.section.slot) (inputs_from id i sections))

-- the symbols that an object exports, the first of those given with this number
abbrev pub export_asks : Option (List (List ℕ)) → List InputSection → ℕ → List InputSymbol → List Ask
export_asks list sections first symbols =
    map (λ q. Reference q.0 flag.EXPORT_DYNAMIC) (filter (is_exported list sections) (enumerate_from first symbols))

-- what an object asks for by what it exports, where it exports anything (libwild: `load_non_hidden_symbols`)
abbrev pub export_roots : LinkInput → NumberedFile → List Ask
export_roots link f =
    option_map_or (λ m. export_asks (list_for link.options m) f.file.sections (first_symbol link.groups f.id) f.file.symbols)
    (mode_of link.options f.file) []

-- what a dynamic file asks for by a definition in another file, with its number: of an object one that it can export, outside
-- discarded sections; of a script any
abbrev pub definition_ask : LinkInput → ℕ → InputFile × InputSymbol → FileKind → Option Ask
definition_ask link d q kind.Object =
    if is_exported (list_for link.options mode.All) q.0.sections (d, q.1) then Some (Reference d flag.EXPORT_DYNAMIC) else None
definition_ask link d q kind.LinkerScript = if is_own_definition d q.1 then Some (Reference d (flags_from 0)) else None
definition_ask link d q _ = None

-- the same, for the definition with this number
abbrev pub asked_definition : LinkInput → ℕ → Option Ask
asked_definition link d =
    option_and_then (λ q. definition_ask link d (q.0.file, q.1) q.0.file.kind) (slice_get (numbered_symbols link.groups) d)

-- what a dynamic file asks for by a symbol with its number: what another symbol stands for it
abbrev pub dynamic_ask : LinkInput → ℕ × InputSymbol → Option Ask
dynamic_ask link q = option_and_then (λ d. if d == q.0 then None else asked_definition link d) q.1.def

-- the same for all symbols (libwild: `request_all_undefined_symbols`)
abbrev pub dynamic_roots : LinkInput → NumberedFile → List Ask
dynamic_roots link f =
    flat_map (λ q. option_to_list (dynamic_ask link q)) (enumerate_from (first_symbol link.groups f.id) f.file.symbols)

-- whether a symbol of a script is asked for by the script: it stands for itself, and isn't only provided
abbrev pub is_script_root : ℕ × InputSymbol → Bool
is_script_root q = is_canonical q.0 q.1 && not (is_provided q.1.at)

-- what a script asks for by its symbols: each that passes, without flags
abbrev pub wanted_symbol_asks : LinkInput → NumberedFile → List Ask
wanted_symbol_asks link f =
    map (λ q. Reference q.0 (flags_from 0)) (filter is_script_root (enumerate_from (first_symbol link.groups f.id) f.file.symbols))

-- what an event that sets the location counter refers to: the symbols of its expression
abbrev pub event_asks : List (List InputFile) → OrderEvent → List Ask
event_asks groups (event.SetLocation e) = token_asks groups (postfix e)
event_asks groups (event.SetLocationRelative e s) = token_asks groups (postfix e)
event_asks groups _ = []

-- what all of them refer to
abbrev pub location_asks : LinkInput → List Ask
location_asks link = flat_map (event_asks link.groups) link.plan.events

-- what a file of a kind asks for by itself: the prelude for the entry, then by its symbols; an object for sections, then by what it exports;
-- a dynamic file for definitions in other files; a script by its symbols, then by the location counter's expressions; synthetic files and
-- those that aren't loaded for nothing (libwild: `activate`)
abbrev pub kind_roots : LinkInput → NumberedFile → FileKind → List Ask
kind_roots link f kind.Prelude = entry_asks link ++ prelude_symbol_asks link f
kind_roots link f kind.Object = section_roots link.options.gc f.id 0 f.file.sections ++ export_roots link f
kind_roots link f kind.Dynamic = dynamic_roots link f
kind_roots link f kind.LinkerScript = wanted_symbol_asks link f ++ location_asks link
kind_roots link f _ = []

abbrev pub file_roots : LinkInput → NumberedFile → List Ask
file_roots link f = kind_roots link f f.file.kind

-- what the files of a link ask for by themselves, file by file
abbrev pub roots : LinkInput → List Ask
roots link = flat_map (file_roots link) (numbered_files link.groups)

-- ---- who asks

-- one of these asks has the unit as its target
pub record AskFor (asks : List Ask) (unit : LinkUnit) : Type 0 where
  pub ask : Ask
  pub among : Contains asks ask
  pub target : target_of ask ≡ Some unit

-- one of these asks sets this bit of a symbol's flags
pub record AskFlag (asks : List Ask) (s i : ℕ) : Type 0 where
  pub ask : Ask
  pub among : Contains asks ask
  pub flags : ℕ
  pub sets : flags_of ask ≡ Some (s, flags)
  pub bit : bit_at flags i ≡ 1

-- a root asks for the unit
abbrev pub IsRoot : LinkInput → LinkUnit → Type 0
IsRoot link unit = AskFor (roots link) unit

-- the first unit asks for the second
abbrev pub AsksFor : LinkInput → LinkUnit → LinkUnit → Type 0
AsksFor link unit next = AskFor (follows link unit) next
