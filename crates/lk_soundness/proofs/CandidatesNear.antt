-- Each deleted candidate is within its limit: what stands for its symbol has an address, by which it is looked at.
use Rattle.std.proofs.Common.{◌≡◌, ◌||◌, ◌+◌, ℕ, zero, suc, Bool, true, false, List, [], ◌∷◌, Option, Some, None, IsSome, filter, map, inl, inr, refl, sym, ap, subst, ◌∙◌, arith}
use Rattle.std.specs.Prelude.{if◌then◌else◌, option_and_then, option_map, slice_get, slice_index, unwrap_or}
use Rattle.std.specs.List.{enumerate_from}
use Rattle.std.proofs.lemmas.Option.{slice_get_within}
use Rattle.lk_own_symbols.specs.EdgeLaws.{OthersAreNoRedirects}
use Rattle.lk_expressions.specs.declared.positions.SymbolPosition.{SymbolPosition}
use Rattle.lk_expressions.specs.Records.{Record}
use Rattle.lk_expressions.specs.Surroundings.{flat}
use Rattle.lk_live.specs.declared.live.Live.{Live}
use Rattle.lk_link.specs.declared.file.FileKind.{FileKind}
use Rattle.lk_link.specs.declared.file.FileKind.TheVariants as kind
use Rattle.lk_link.specs.declared.file.InputFile.{InputFile}
use Rattle.lk_link.specs.declared.flags.TheConstants.ValueFlags as flag
use Rattle.lk_link.specs.declared.ids.FileId.{FileId}
use Rattle.lk_link.specs.declared.link.LinkInput.{LinkInput}
use Rattle.lk_link.specs.declared.plan.attributes.TheConstants.{EXEC}
use Rattle.lk_link.specs.declared.relocation.RelaxCandidate.{RelaxCandidate}
use Rattle.lk_link.specs.declared.section.InputSection.{InputSection}
use Rattle.lk_link.specs.declared.symbol.InputSymbol.{InputSymbol}
use Rattle.lk_link.specs.declared.symbol.SymbolPlacement.{SymbolPlacement}
use Rattle.lk_link.specs.declared.symbol.SymbolPlacement.TheVariants as at
use Rattle.lk_link.specs.FileKinds.{is_internal}
use Rattle.lk_link.specs.Files.{first_some}
use Rattle.lk_link.specs.declared.flags.ValueFlags.{ValueFlags}
use Rattle.lk_link.specs.Flags.{has_flag}
use Rattle.lk_link.specs.Inputs.{Input, NumberedFile, all_inputs, first_input, input_number}
use Rattle.lk_link.specs.Marks.{is_marked}
use Rattle.lk_link.specs.PlanSections.{is_set}
use Rattle.lk_link.specs.NumberedSymbols.{numbered_symbol, numbered_symbols}
use Rattle.lk_link.specs.SymbolRules.{IsPlacementThere, is_internal_placement, is_placement_in}
use Rattle.lk_link.specs.Symbols.{all_symbols, definition_of, first_symbol, symbol_at}
use Rattle.lk_link.specs.WellFormed.{IsWellFormed}
use Rattle.lk_link.proofs.Elements.{at_index, filter_at, filter_in, map_at, numbered_at}
use Rattle.lk_link.proofs.GoodInputs.{inputs_are_good}
use Rattle.lk_link.proofs.GoodSymbols.{defined_once, symbol_of}
use Rattle.lk_link.proofs.InputLemmas.{inputs_follow}
use Rattle.lk_link.proofs.NumberedSymbolLemmas.{numbered_count}
use Rattle.lk_link.proofs.SymbolLemmas.{symbols_follow}
use Rattle.lk_reach.proofs.Numbered.{file_of_input, one_place}
use Rattle.lk_reach.proofs.UnitLemmas.{symbols_length}
use Rattle.lk_place.specs.PlacementLaws.{PartsTakeTheirBytes}
use Rattle.lk_place_laws.specs.PlacementLaws.{RefusedExactlyPast}
use Rattle.lk_deltas.specs.Candidates.{goes, is_gone, range_of, shrunk}
use Rattle.lk_deltas.specs.Deletions.{RiseWithin}
use Rattle.lk_deltas.proofs.CandidateLemmas.{gone_again}
use Rattle.lk_deltas.specs.LinkDeletions.{Deletions, output_offset}
use Rattle.lk_relax.specs.Positions.{has_position, position_in, section_position, section_positions, symbol_position}
use Rattle.lk_relax.specs.RelaxedLaws.{RelaxedIsShrunk}
use Rattle.lk_relax.specs.Scan.{PassState, absolute_value, address_in, outcome_by, ranges_of, site, target, told}
use Rattle.lk_relax.specs.Sites.{DeletedSitesAreNear}
use Rattle.lk_relax.specs.Stages.{DeletionsAreRead, IsFirst, IsPass, LeadsTo, Relaxing, Stage, filling_after, is_among, link_of, ranges_behind, standing_at}
use Rattle.lk_sizes.specs.Addresses.{section_addresses}
use Rattle.lk_sizes.specs.Owners.{Filling}
use Rattle.lk_sizes.specs.PartOwners.{live_address}
use Rattle.lk_sizes.proofs.Numbering.{table_at}
use Rattle.lk_tables.specs.Late.{flags_at, late_flags}
use Rattle.lk_resolutions.specs.Resolutions.{address_at, placed_value}
use Rattle.lk_resolutions.specs.Starts.{starts_of}
use Rattle.lk_resolution_list.specs.StoreLaws.{ChangesValuesAlone}
use Rattle.lk_layout.specs.Defined.{layout_of, made_standing}
use Rattle.lk_layout.specs.LayoutRecord.{LayoutRecord}
use Rattle.lk_layout.specs.Machines.{Machine}
use Rattle.lk_layout.specs.Made.{Made, made_deletions, made_filling, relaxing_for}
use Rattle.lk_layout.specs.Redirects.{made_resolutions, placed_resolutions}
use Rattle.lk_soundness.specs.Sound.{StandsAt}
use Rattle.lk_soundness.proofs.BySymbol.{IsOfFile, of_its_file, worth_by_place}
use Rattle.lk_layout.proofs.LaidOut.{IsLaidOut, made_by}
use Rattle.lk_soundness.proofs.OnlyScanned.{IsScanned, all_three, first_scanned, only_scanned_lose, pass_scanned}
use Rattle.lk_soundness.proofs.Resolving.{made_at}
use Rattle.lk_soundness.proofs.Stands.{DeletedCandidatesAreNear, FlagsStand}
use Rattle.lk_soundness.proofs.TargetPlaces.{IsPositioned, candidates_rise, marked_regular, position_is, regular_is, site_is}

-- ---- what can be near

-- a placement in a file has an address for relaxation, by what is live: it is absolute, or stands in a section that is live, neither debug data nor
-- merged, and not put in order by its name
abbrev HasPlace : LinkInput → Live → FileId → SymbolPlacement → Type 0
HasPlace link live id (at.Section i offset) = (x : Input) × (slice_get (all_inputs link.groups) (input_number link.groups id i) ≡ Some x)
    × (has_position (is_marked live.marks (input_number link.groups id i)) x.section ≡ true)
HasPlace link live id (at.Absolute n) = Unit {0}
HasPlace link live id _ = ⊥

-- what stands for a symbol: nothing may take its place, and it has one
record HasAim (link : LinkInput) (live : Live) (s : ℕ) : Type 0 where
  definition : ℕ
  stands_for : definition_of link.groups s ≡ Some definition
  file : NumberedFile
  symbol : InputSymbol
  named : numbered_symbol link.groups definition ≡ Some (file, symbol)
  own : has_flag flag.INTERPOSABLE.0 (flags_at live.flags definition).0 ≡ false
  place : HasPlace link live file.id symbol.at

-- what stands for a symbol has a file
some_of : {X Y : Type 0} (f : X → Y) (o : Option X) (y : Y) → option_map f o ≡ Some y → (x : X) × (o ≡ Some x)
some_of f None y h = absurd (cc)
some_of f (Some x) y h = (x, refl)

named_at : (link : LinkInput) (s d : ℕ) → IsWellFormed link → definition_of link.groups s ≡ Some d → (q : NumberedFile × InputSymbol) × (numbered_symbol link.groups d ≡ Some q)
named_at link s d good defined =
    let groups = link.groups in
    let x = some_of (λ (y : InputSymbol). unwrap_or y.def d) (symbol_at groups d) d (defined_once link s d good defined) in
    at_index (numbered_symbols groups) d (omega (arith, numbered_count groups, symbols_length groups, slice_get_within (all_symbols groups) d x.0 x.1))

-- a target is that of its symbol
abbrev target_by : PassState → ℕ → FileId → SymbolPlacement → Option ℕ
target_by by d id p =
    if has_flag flag.INTERPOSABLE.0 (flags_at by.live.flags d).0 then None
    else first_some (absolute_value p) (option_and_then (λ q. address_in by.parts q.part q.offset) (symbol_position by.link.groups by.deletions by.sections id p))

target_is : (rel : Relaxing) (a : Stage) (d : ℕ) (f : NumberedFile) (x : InputSymbol) → numbered_symbol (link_of rel).groups d ≡ Some (f, x)
    → target (standing_at rel a) d ≡ target_by (standing_at rel a) d f.id x.at
target_is rel a d f x named =
    let groups : List (List InputFile) = (link_of rel).groups in
    let sections : List (Option (ℕ × ℕ)) = section_positions (filling_after rel a.deletions) in
    let is : IsOfFile groups d f x = of_its_file groups d f x named in
    let number : Option InputSymbol → Option ℕ = option_and_then (λ (y : InputSymbol). absolute_value y.at) in
    let place : Option SymbolPosition → Option ℕ = option_and_then (λ (q : SymbolPosition). address_in a.records q.part q.offset) in
    let other : Bool = has_flag flag.INTERPOSABLE.0 (flags_at rel.filling.content.live.flags d).0 in
    let symbol : symbol_at groups d ≡ Some x
    = ap (symbol_at groups) is.number ∙ symbols_follow groups f.id f.file is.index is.there (slice_get_within f.file.symbols is.index x is.at) ∙ is.at in
    ap (λ (o : Option InputSymbol). if other then None else first_some (number o) (place (flat (slice_get (standing_at rel a).symbols d)))) symbol
    ∙ ap (λ (o : Option SymbolPosition). if other then None else first_some (absolute_value x.at) (place o)) (position_is groups a.deletions sections d f x named)

-- ---- one that has an address can

flat_some : {X : Type 0} (o : Option (Option X)) (x : X) → flat o ≡ Some x → o ≡ Some (Some x)
flat_some None x h = absurd (cc)
flat_some (Some o) x h = ap (λ q. Some q) h

if_some : (b : Bool) (p q : ℕ × ℕ) → (if b then Some p else None) ≡ Some q → b ≡ true
if_some true p q h = refl
if_some false p q h = absurd (cc)

section_has : (filling : Filling) (id : FileId) (i : ℕ) (p : ℕ × ℕ) → position_in filling.content.link.groups (section_positions filling) id i ≡ Some p
    → (y : Input) × (slice_get (all_inputs filling.content.link.groups) (input_number filling.content.link.groups id i) ≡ Some y)
    × (has_position (is_marked filling.content.live.marks (input_number filling.content.link.groups id i)) y.section ≡ true)
section_has filling id i p h =
    let inputs : List Input = all_inputs filling.content.link.groups in
    let n : ℕ = input_number filling.content.link.groups id i in
    let from = map_at (section_position filling) (enumerate_from 0 inputs) n (Some p) (flat_some (slice_get (section_positions filling) n) p h) in
    let at_n = numbered_at 0 inputs n from.0 from.1 in
    let number : from.0.0 ≡ n = omega (arith, at_n.0) in
    let has : has_position (is_marked filling.content.live.marks from.0.0) from.0.1.section ≡ true
    = if_some (has_position (is_marked filling.content.live.marks from.0.0) from.0.1.section) _ p from.2 in
    (from.0.1, at_n.1, subst (λ (m : ℕ). has_position (is_marked filling.content.live.marks m) from.0.1.section ≡ true) number has)

map_then : {X Y Z : Type 0} (f : X → Y) (g : Y → Option Z) (o : Option X) (z : Z) → option_and_then g (option_map f o) ≡ Some z → (x : X) × (o ≡ Some x)
map_then f g None z h = absurd (cc)
map_then f g (Some x) z h = (x, refl)

placed : (rel : Relaxing) (a : Stage) (id : FileId) (p : SymbolPlacement) (place : ℕ)
    → first_some (absolute_value p) (option_and_then (λ q. address_in a.records q.part q.offset) (symbol_position (link_of rel).groups a.deletions (section_positions (filling_after rel a.deletions)) id p)) ≡ Some place
    → HasPlace (link_of rel) rel.filling.content.live id p
unfolding first_some
placed rel a id (at.Section i offset) place h =
    let moved : ℕ × ℕ → SymbolPosition = λ p. record { part = p.0; offset = p.1 + output_offset (link_of rel).groups a.deletions id i offset } in
    let position = map_then moved (λ (q : SymbolPosition). address_in a.records q.part q.offset) (position_in (link_of rel).groups (section_positions (filling_after rel a.deletions)) id i) place h in
    section_has (filling_after rel a.deletions) id i position.0 position.1
placed rel a id (at.Absolute n) place h = tt
placed rel a id (at.Common p size) place h = absurd (cc)
placed rel a id at.Undef place h = absurd (cc)
placed rel a id at.Dynamic place h = absurd (cc)
placed rel a id at.Undefined place h = absurd (cc)
placed rel a id at.ForceUndefined place h = absurd (cc)
placed rel a id (at.SectionStart t) place h = absurd (cc)
placed rel a id (at.SectionEnd t) place h = absurd (cc)
placed rel a id (at.SectionGroupEnd t) place h = absurd (cc)
placed rel a id at.TlsEnd place h = absurd (cc)
placed rel a id at.LoadBaseAddress place h = absurd (cc)
placed rel a id (at.Redirect e l provide) place h = absurd (cc)

unless_set : (b : Bool) (o : Option ℕ) (n : ℕ) → (if b then None else o) ≡ Some n → (b ≡ false) × (o ≡ Some n)
unless_set true o n h = absurd (cc)
unless_set false o n h = (refl, h)

then_some : {X Y : Type 0} (f : X → Option Y) (o : Option X) (y : Y) → option_and_then f o ≡ Some y → (x : X) × (o ≡ Some x) × (f x ≡ Some y)
then_some f None y h = absurd (cc)
then_some f (Some x) y h = (x, refl, h)

-- what stands for a symbol aims, if it has an address at a stage
aims : (rel : Relaxing) (a : Stage) (s place : ℕ) → IsWellFormed (link_of rel) → option_and_then (target (standing_at rel a)) (definition_of (link_of rel).groups s) ≡ Some place
    → HasAim (link_of rel) rel.filling.content.live s
aims rel a s place good h =
    let groups = (link_of rel).groups in
    let d = then_some (target (standing_at rel a)) (definition_of groups s) place h in
    let q = named_at (link_of rel) s d.0 good d.1 in
    let f : NumberedFile = q.0.0 in
    let x : InputSymbol = q.0.1 in
    let both = unless_set (has_flag flag.INTERPOSABLE.0 (flags_at rel.filling.content.live.flags d.0).0) _ place (sym (target_is rel a d.0 f x q.1) ∙ d.2) in
    record { definition = d.0; stands_for = d.1; file = f; symbol = x; named = q.1; own = both.0; place = placed rel a f.id x.at place both.1 }

-- ---- so is each whose bytes are deleted

-- a candidate of those that are picked out is told
picked_out : (f : RelaxCandidate → Bool) (high : ℕ) (cs : List RelaxCandidate) (j : ℕ) (c : RelaxCandidate) → RiseWithin 0 high (map range_of cs) → slice_get cs j ≡ Some c
    → is_gone (map range_of (filter f cs)) c ≡ true → f c ≡ true
picked_out f high cs j c rising here gone =
    let among = filter_in (is_gone (map range_of (filter f cs))) cs j c here gone in
    let there : slice_get (filter f cs) among.0 ≡ Some c = ap (λ (ds : List RelaxCandidate). slice_get ds among.0) (sym (gone_again f 0 high cs rising)) ∙ among.1 in
    (filter_at f cs among.0 c there).2

-- one that goes has a target
has_target : (t s : Option ℕ) (limit : ℕ) → goes (outcome_by t s limit) ≡ true → (a : ℕ) × (t ≡ Some a)
has_target None s limit h = absurd (cc)
has_target (Some a) s limit h = (a, refl)

either_true : (a b : Bool) (P : Type 0) → (a || b) ≡ true → (a ≡ true → P) → (b ≡ true → P) → P
either_true true b P h first second = first refl
either_true false b P h first second = second h

-- at a stage each deleted candidate of a section aims
record AllAim (rel : Relaxing) (k : ℕ) (x : Input) (a : Stage) : Type 0 where
  scanned : IsScanned rel k x a
  each : (j : ℕ) (c : RelaxCandidate) → slice_get x.section.relax j ≡ Some c → is_gone (ranges_of (link_of rel).groups a.deletions x.file x.index) c ≡ true
      → HasAim (link_of rel) rel.filling.content.live (first_symbol (link_of rel).groups x.file + c.symbol)

nothing_gone : (ranges : List (ℕ × ℕ)) (c : RelaxCandidate) → ranges ≡ [] → is_gone ranges c ≡ true → ⊥
nothing_gone [] c none gone = absurd (cc)
nothing_gone (r ∷ rs) c none gone = absurd (cc)

first_aims : DeletionsAreRead → (rel : Relaxing) (k : ℕ) (x : Input) (a : Stage) → slice_get (all_inputs (link_of rel).groups) k ≡ Some x → IsFirst rel a → AllAim rel k x a
first_aims read rel k x a there first = record {
  scanned = first_scanned read rel k x a there first;
  each = λ j c here gone. absurd (nothing_gone (ranges_of (link_of rel).groups a.deletions x.file x.index) c
      (ap (λ (ds : Deletions). ranges_of (link_of rel).groups ds x.file x.index) first.deletions ∙ read (link_of rel) (λ _. []) k x there) gone);
}

pass_aims : DeletionsAreRead → (rel : Relaxing) (k : ℕ) (x : Input) (a b : Stage) → IsWellFormed (link_of rel) → slice_get (all_inputs (link_of rel).groups) k ≡ Some x → IsPass rel a b → AllAim rel k x a → AllAim rel k x b
pass_aims read rel k x a b good there pass h =
    let groups : List (List InputFile) = (link_of rel).groups in
    let tell = told (standing_at rel a) x.file x.index in
    let old : List (ℕ × ℕ) = ranges_of groups a.deletions x.file x.index in
    let goal : RelaxCandidate → Type 0 = λ c. HasAim (link_of rel) rel.filling.content.live (first_symbol groups x.file + c.symbol) in
    let behind : ranges_of groups b.deletions x.file x.index ≡ ranges_behind rel a x
    = ap (λ (ds : Deletions). ranges_of groups ds x.file x.index) pass.deletions ∙ read (link_of rel) (ranges_behind rel a) k x there in
    let of_going : (c : RelaxCandidate) → goes (tell c) ≡ true → goal c = λ c going.
    let aim = has_target (option_and_then (target (standing_at rel a)) (definition_of groups (first_symbol groups x.file + c.symbol))) (site (standing_at rel a) x.file x.index c.at) c.limit going in
    aims rel a (first_symbol groups x.file + c.symbol) aim.0 good aim.1 in
    let looked : (b : Bool) → is_among a.scan x ≡ b → (j : ℕ) (c : RelaxCandidate) → slice_get x.section.relax j ≡ Some c
    → is_gone (if b then shrunk tell old x.section.relax else old) c ≡ true → goal c
    = λ b. elim b as (λ b. is_among a.scan x ≡ b → (j : ℕ) (c : RelaxCandidate) → slice_get x.section.relax j ≡ Some c → is_gone (if b then shrunk tell old x.section.relax else old) c ≡ true → goal c) [
      | true ↦ λ is j c here gone.
          let can = all_three (has_position (is_marked rel.filling.content.live.marks k) x.section) (is_set EXEC x.section.attrs) (link_of rel).options.relax (h.scanned.scan is) in
          let f = file_of_input groups k x there in
          let rising = candidates_rise (link_of rel) x.file f.0 x.index x.section good f.1 f.2 (marked_regular rel.filling.content.live.marks k x.section can.0).1 in
          either_true (is_gone old c) (goes (tell c)) (goal c) (picked_out (λ (e : RelaxCandidate). is_gone old e || goes (tell e)) x.section.size x.section.relax j c rising here gone) (h.each j c here) (of_going c)
      | false ↦ λ is j c here gone. h.each j c here gone
    ] in
    record {
      scanned = pass_scanned read rel k x a b there pass h.scanned;
      each = λ j c here gone. looked (is_among a.scan x) refl j c here (ap (λ (rs : List (ℕ × ℕ)). is_gone rs c) (sym behind) ∙ gone);
    }

aims_behind : DeletionsAreRead → (rel : Relaxing) (n k : ℕ) (x : Input) (a z : Stage) → IsWellFormed (link_of rel) → slice_get (all_inputs (link_of rel).groups) k ≡ Some x → LeadsTo rel n a z → AllAim rel k x a → AllAim rel k x z
aims_behind read rel zero k x a z good there leads h = subst (AllAim rel k x) leads h
aims_behind read rel (suc n) k x a z good there (inl leads) h = subst (AllAim rel k x) leads.1 h
aims_behind read rel (suc n) k x a z good there (inr leads) h = aims_behind read rel n k x leads.0 z good there leads.2 (pass_aims read rel k x a leads.0 good there leads.1 h)

-- ---- at the end

-- where a placement stands for relaxation, at the end, is where it is told, and what its symbol is worth
record IsAt (made : Made) (d : ℕ) (f : NumberedFile) (x : InputSymbol) : Type 0 where
  place : ℕ
  told : StandsAt made (layout_of made) f.id x.at place
  aimed : target (made_standing made) d ≡ Some place
  worth : placed_value (made_at made) (first_input made.link.groups f.id) d x.at ≡ place

-- a symbol's position behind its section's
behind_section : (groups : List (List InputFile)) (records : List Record) (deletions : Deletions) (sections : List (Option (ℕ × ℕ))) (id : FileId) (i offset : ℕ)
    → option_and_then (λ q. address_in records q.part q.offset) (symbol_position groups deletions sections id (at.Section i offset))
    ≡ option_and_then (λ p. address_in records p.0 (p.1 + output_offset groups deletions id i offset)) (position_in groups sections id i)
behind_section groups records deletions sections id i offset = by (position_in groups sections id i)
  where
    by : (o : Option (ℕ × ℕ)) → option_and_then (λ (q : SymbolPosition). address_in records q.part q.offset) (option_map (λ p. record { part = p.0; offset = p.1 + output_offset groups deletions id i offset }) o)
        ≡ option_and_then (λ p. address_in records p.0 (p.1 + output_offset groups deletions id i offset)) o
    by None = refl
    by (Some p) = refl

some_same : {X : Type 0} {x y : X} → Some x ≡ Some y → x ≡ y
some_same e = cc

at_end : RelaxedIsShrunk → RefusedExactlyPast → PartsTakeTheirBytes → (machine : Machine) (link : LinkInput) (layout : LayoutRecord) (laid : IsLaidOut machine link layout)
    → (d : ℕ) (f : NumberedFile) (x : InputSymbol) → numbered_symbol link.groups d ≡ Some (f, x) → has_flag flag.INTERPOSABLE.0 (flags_at laid.live.flags d).0 ≡ false → (p : SymbolPlacement) → x.at ≡ p
    → HasPlace link laid.live f.id p → IsAt (made_by laid) d f x
unfolding first_some
at_end shrunk refused mass machine link layout laid d f x named own (at.Section i offset) at_p held =
    let groups : List (List InputFile) = link.groups in
    let made : Made = made_by laid in
    let filling : Filling = made_filling made in
    let starts : List ℕ = starts_of laid.stage.records in
    let n : ℕ = input_number groups f.id i in
    let is : IsOfFile groups d f x = of_its_file groups d f x named in
    let stands : IsPlacementThere link.plan f.file.sections (at.Section i offset)
    = subst (IsPlacementThere link.plan f.file.sections) at_p (symbol_of link f.id is.index f.file x laid.good is.there is.at).there in
    let section : InputSection = stands.0 in
    let input : Input = record { file = f.id; index = i; section = section } in
    let at_n : slice_get (all_inputs groups) n ≡ Some input = inputs_follow.at groups f.id f.file i section is.there stands.1 in
    let same : held.0.section ≡ section = ap (λ (z : Input). z.section) (some_same (sym held.1 ∙ at_n)) in
    let positioned : IsPositioned link laid.live.marks f.id f.file i section
    = record { there = is.there; at = stands.1; has = subst (λ (s : InputSection). has_position (is_marked laid.live.marks n) s ≡ true) same held.2 } in
    let lives = marked_regular laid.live.marks n section positioned.has in
    let place : ℕ = slice_index (section_addresses filling starts) n + output_offset groups laid.stage.deletions f.id i offset in
    let found : site (made_standing made) f.id i offset ≡ Some place
    = site_is shrunk refused mass machine link layout laid f.id f.file i offset section positioned (stands.2 (regular_is section.slot lives.1).1) in
    let moved : Input → ℕ = λ z. live_address filling starts z + output_offset groups (made_deletions made) z.file z.index offset in
    let address : address_at filling (made_deletions made) starts n offset ≡ Some place
    = ap (λ b. if b then option_map moved (slice_get (all_inputs groups) n) else None) lives.0 ∙ ap (option_map moved) at_n
    ∙ ap (λ (m : ℕ). Some (m + output_offset groups laid.stage.deletions f.id i offset)) (sym (table_at filling starts n input at_n lives.0)) in
    record {
      place = place;
      told = subst (λ (q : SymbolPlacement). StandsAt made (layout_of made) f.id q place) (sym at_p) (held.0, held.1, held.2, refl);
      aimed = target_is (relaxing_for machine link laid.live) laid.stage d f x named
          ∙ ap (λ b. if b then None else first_some (absolute_value x.at) (option_and_then (λ (q : SymbolPosition). address_in laid.stage.records q.part q.offset)
          (symbol_position groups laid.stage.deletions (section_positions filling) f.id x.at))) own
          ∙ ap (λ (p : SymbolPlacement). first_some (absolute_value p) (option_and_then (λ (q : SymbolPosition). address_in laid.stage.records q.part q.offset)
          (symbol_position groups laid.stage.deletions (section_positions filling) f.id p))) at_p
          ∙ behind_section groups laid.stage.records laid.stage.deletions (section_positions filling) f.id i offset
          ∙ found;
      worth = ap (placed_value (made_at made) (first_input groups f.id) d) at_p ∙ ap (λ (o : Option ℕ). unwrap_or o ((made_at made).merged d)) address;
    }
at_end shrunk refused mass machine link layout laid d f x named own (at.Absolute n) at_p place =
    let groups : List (List InputFile) = link.groups in
    let made : Made = made_by laid in
    let filling : Filling = made_filling made in
    record {
      place = n;
      told = subst (λ (q : SymbolPlacement). StandsAt made (layout_of made) f.id q n) (sym at_p) refl;
      aimed = target_is (relaxing_for machine link laid.live) laid.stage d f x named
          ∙ ap (λ b. if b then None else first_some (absolute_value x.at) (option_and_then (λ (q : SymbolPosition). address_in laid.stage.records q.part q.offset)
          (symbol_position groups laid.stage.deletions (section_positions filling) f.id x.at))) own
          ∙ ap (λ (p : SymbolPlacement). first_some (absolute_value p) (option_and_then (λ (q : SymbolPosition). address_in laid.stage.records q.part q.offset)
          (symbol_position groups laid.stage.deletions (section_positions filling) f.id p))) at_p;
      worth = ap (placed_value (made_at made) (first_input groups f.id) d) at_p;
    }
at_end shrunk refused mass machine link layout laid d f x named own (at.Common p size) at_p place = absurd place
at_end shrunk refused mass machine link layout laid d f x named own at.Undef at_p place = absurd place
at_end shrunk refused mass machine link layout laid d f x named own at.Dynamic at_p place = absurd place
at_end shrunk refused mass machine link layout laid d f x named own at.Undefined at_p place = absurd place
at_end shrunk refused mass machine link layout laid d f x named own at.ForceUndefined at_p place = absurd place
at_end shrunk refused mass machine link layout laid d f x named own (at.SectionStart t) at_p place = absurd place
at_end shrunk refused mass machine link layout laid d f x named own (at.SectionEnd t) at_p place = absurd place
at_end shrunk refused mass machine link layout laid d f x named own (at.SectionGroupEnd t) at_p place = absurd place
at_end shrunk refused mass machine link layout laid d f x named own at.TlsEnd at_p place = absurd place
at_end shrunk refused mass machine link layout laid d f x named own at.LoadBaseAddress at_p place = absurd place
at_end shrunk refused mass machine link layout laid d f x named own (at.Redirect e l provide) at_p place = absurd place

-- the linker's own files have no symbols with a place
not_internal : (link : LinkInput) (live : Live) (id : FileId) (p : SymbolPlacement) → HasPlace link live id p → is_internal_placement p ≡ true → ⊥
not_internal link live id (at.Section i offset) place h = absurd (cc)
not_internal link live id (at.Absolute n) place h = absurd (cc)
not_internal link live id (at.Common p size) place h = place
not_internal link live id at.Undef place h = place
not_internal link live id at.Dynamic place h = place
not_internal link live id at.Undefined place h = place
not_internal link live id at.ForceUndefined place h = place
not_internal link live id (at.SectionStart t) place h = place
not_internal link live id (at.SectionEnd t) place h = place
not_internal link live id (at.SectionGroupEnd t) place h = place
not_internal link live id at.TlsEnd place h = place
not_internal link live id at.LoadBaseAddress place h = place
not_internal link live id (at.Redirect e l provide) place h = place

not_own : (link : LinkInput) (live : Live) (id : FileId) (k : FileKind) (p : SymbolPlacement) → HasPlace link live id p → is_placement_in k p ≡ true → is_internal k ≡ false
not_own link live id kind.Object p place h = refl
not_own link live id kind.Dynamic p place h = refl
not_own link live id kind.NotLoaded p place h = refl
not_own link live id kind.Prelude p place h = absurd (not_internal link live id p place h)
not_own link live id kind.SyntheticSymbols p place h = absurd (not_internal link live id p place h)
not_own link live id kind.LinkerScript p place h = absurd (not_internal link live id p place h)

-- where something is gone of a section, something is deleted of it
some_gone : (ranges : List (ℕ × ℕ)) (c : RelaxCandidate) → is_gone ranges c ≡ true → IsSome (slice_get ranges 0)
some_gone [] c h = absurd (cc)
some_gone (r ∷ rs) c h = refl

-- no symbol of another file than the linker's own is marked late
not_late : (link : LinkInput) (told : List Bool) (k : FileKind) (s : ℕ) (x : InputSymbol) (flags : ValueFlags) → is_internal k ≡ false → late_flags link told k s x flags ≡ flags
not_late link told kind.Object s x flags h = refl
not_late link told kind.Dynamic s x flags h = refl
not_late link told kind.NotLoaded s x flags h = refl
not_late link told kind.SyntheticSymbols s x flags h = refl
not_late link told kind.LinkerScript s x flags h = refl
not_late link told kind.Prelude s x flags h = absurd (cc)

pub candidates_near : OthersAreNoRedirects → DeletionsAreRead → RelaxedIsShrunk → DeletedSitesAreNear → RefusedExactlyPast → PartsTakeTheirBytes → (machine : Machine) (link : LinkInput) (layout : LayoutRecord) (laid : IsLaidOut machine link layout)
    → ChangesValuesAlone link.groups (placed_resolutions (made_by laid)) (made_resolutions (made_by laid)) → FlagsStand (made_by laid) (layout_of (made_by laid)) → DeletedCandidatesAreNear (made_by laid) (layout_of (made_by laid))
candidates_near others read shrunk near refused mass machine link layout laid changed flags k j x c there here gone =
    let groups : List (List InputFile) = link.groups in
    let made : Made = made_by laid in
    let rel : Relaxing = relaxing_for machine link laid.live in
    let s : ℕ = first_symbol groups x.file + c.symbol in
    let all : AllAim rel k x laid.stage = aims_behind read rel 5 k x laid.relaxed.first laid.stage laid.good there laid.relaxed.leads (first_aims read rel k x laid.relaxed.first there laid.relaxed.begins) in
    let aim : HasAim link laid.live s = all.each j c here gone in
    let is : IsOfFile groups aim.definition aim.file aim.symbol = of_its_file groups aim.definition aim.file aim.symbol aim.named in
    let stands : IsAt made aim.definition aim.file aim.symbol
    = at_end shrunk refused mass machine link layout laid aim.definition aim.file aim.symbol aim.named aim.own aim.symbol.at refl aim.place in
    let own = file_of_input groups k x there in
    let input : Input = record { file = x.file; index = x.index; section = x.section } in
    let number : input_number groups x.file x.index ≡ k = one_place groups (input_number groups x.file x.index) k input x (inputs_follow.at groups x.file own.0 x.index x.section own.1 own.2) there refl refl in
    let lost = all_three (has_position (is_marked laid.live.marks k) x.section) (is_set EXEC x.section.attrs) link.options.relax
    (only_scanned_lose read rel laid.stage k x there laid.relaxed (some_gone (ranges_of groups laid.stage.deletions x.file x.index) c gone)) in
    let positioned : IsPositioned link laid.live.marks x.file own.0 x.index x.section
    = record { there = own.1; at = own.2; has = subst (λ (n : ℕ). has_position (is_marked laid.live.marks n) x.section ≡ true) (sym number) lost.0 } in
    let regular = marked_regular laid.live.marks k x.section lost.0 in
    let good = inputs_are_good link x.file x.index own.0 x.section laid.good own.1 own.2 (regular_is x.section.slot regular.1).0 in
    let table : List ℕ = section_addresses (made_filling made) (starts_of laid.stage.records) in
    let moved : ℕ = output_offset groups laid.stage.deletions x.file x.index c.at in
    let from : site (made_standing made) x.file x.index c.at ≡ Some (slice_index table k + moved)
    = site_is shrunk refused mass machine link layout laid x.file own.0 x.index c.at x.section positioned (omega (arith, (good.in_relax j c here).1))
    ∙ ap (λ (n : ℕ). Some (slice_index table n + moved)) number in
    let outside : is_internal aim.file.file.kind ≡ false
    = not_own link laid.live aim.file.id aim.file.file.kind aim.symbol.at aim.place (symbol_of link aim.file.id is.index aim.file.file aim.symbol laid.good is.there is.at).of_kind in
    record {
      definition = aim.definition;
      stands_for = aim.stands_for;
      file = aim.file;
      symbol = aim.symbol;
      named = aim.named;
      own = ap (λ (f : ValueFlags). has_flag flag.INTERPOSABLE.0 f.0)
          (flags aim.definition aim.file aim.symbol aim.named ∙ not_late link _ aim.file.file.kind aim.definition aim.symbol (flags_at laid.live.flags aim.definition) outside) ∙ aim.own;
      place = stands.place;
      at = stands.told;
      near = near (made_standing made) k j stands.place (slice_index table k + moved) x c laid.near there here gone (ap (option_and_then (target (made_standing made))) aim.stands_for ∙ stands.aimed) from;
      valued = λ value told.
          worth_by_place others made changed aim.definition value aim.file aim.symbol aim.named outside told ∙ stands.worth;
    }
