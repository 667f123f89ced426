-- Lists of units that are paths, and what a check of them answers.
use Rattle.std.proofs.Common.{◌≡◌, ◌↔◌, ℕ, ◌+◌, ◌<◌, Bool, true, false, if◌then◌else◌, ◌&&◌, ◌==◌, not, List, [], ◌∷◌, length, map, Option, Some, None, unwrap_or, is_some, refl, sym, ap, ◌∙◌, subst, inl, inr, arith, option_map}
use Rattle.std.specs.List.{list_any, range_with_len, slice_get}
use Rattle.std.specs.Prelude.{IsOk, Result, Ok, Err}
use Rattle.std.specs.Option.{option_map_or, option_or}
use Rattle.std.proofs.lemmas.Bool.{and_parts, eq-eqb, eqb-true}
use Rattle.std.proofs.lemmas.List.Folds.{Any-from_list_any, list_any_at}
use Rattle.std.proofs.lemmas.Option.{slice_get_within}
use Rattle.lk_link.specs.declared.file.InputFile.{InputFile}
use Rattle.lk_link.specs.declared.ids.FileId.{FileId}
use Rattle.lk_link.specs.declared.link.LinkInput.{LinkInput}
use Rattle.lk_link.specs.declared.section.InputSection.{InputSection}
use Rattle.lk_link.specs.declared.symbol.InputSymbol.{InputSymbol}
use Rattle.lk_link.specs.Files.{file_in}
use Rattle.lk_link.specs.Inputs.{all_inputs}
use Rattle.lk_link.specs.Symbols.{all_symbols, is_canonical, symbol_at}
use Rattle.lk_link.specs.WellFormed.{IsWellFormed}
use Rattle.lk_link.proofs.Elements.{append_at, map_at}
use Rattle.lk_reach.specs.declared.units.Ask.{Ask}
use Rattle.lk_reach.specs.declared.units.Ask.TheVariants.{Reference, Section, Mark}
use Rattle.lk_reach.specs.declared.units.Unit.{Unit as LinkUnit}
use Rattle.lk_reach.specs.declared.units.Unit.TheVariants.{Sym, Sec}
use Rattle.lk_reach.specs.Marks.{IsUnit, symbols_in_all, unit_number}
use Rattle.lk_reach.specs.Reach.{IsPath, IsReached}
use Rattle.lk_reach.specs.Units.{AskFor, follows, roots, target_of, unit_of}
use Rattle.lk_reach.proofs.Numbered.{file_of_input}
use Rattle.lk_reach.proofs.ReachLemmas.{reach_more, reach_root, reached_unit}
use Rattle.lk_reach.proofs.SelfStanding.{reached_stand_for_themselves}
use Rattle.lk_reach.proofs.UnitLemmas.{section_unit, symbol_unit, symbols_length}
use Rattle.lk_explain.specs.declared.check.PathFault.{PathFault}
use Rattle.lk_explain.specs.declared.check.PathFault.TheVariants.{NoSuchUnit, NotRoot, NoAsk}
use Rattle.lk_explain.specs.Faults.{chain_fault, fault_of, has_unit, is_for, path_fault, unit_fault}
use Rattle.lk_explain.specs.KeepPath.{IsKeepPath, IsPathTo}

-- ---- asks for a unit

same_file : (a b : FileId) → a.group ≡ b.group → a.file ≡ b.file → a ≡ b
same_file a b g f =
    let id : ℕ → ℕ → FileId = λ x y. record { group = x; file = y } in
    ap (λ x. id x a.file) g ∙ ap (id b.group) f

same_section : (file id : FileId) (index i : ℕ) → is_for (Sec id i) (Section file index) ≡ true → Some (Sec file index) ≡ Some (Sec id i)
same_section file id index i h =
    let parts = and_parts (file.group == id.group && file.file == id.file) (index == i) h in
    let files = and_parts (file.group == id.group) (file.file == id.file) parts.0 in
    let group : file.group ≡ id.group = eqb-true file.group id.group files.0 in
    let own : file.file ≡ id.file = eqb-true file.file id.file files.1 in
    let place : index ≡ i = eqb-true index i parts.1 in
    ap (λ f. Some (Sec f index)) (same_file file id group own) ∙ ap (λ k. Some (Sec id k)) place

-- an ask that is for a unit has it as its target
for_target : (unit : LinkUnit) (a : Ask) → is_for unit a ≡ true → target_of a ≡ Some unit
for_target (Sym s) (Reference t flags) h = ap (λ k. Some (Sym k)) (eqb-true t s h)
for_target (Sym s) (Section file index) h = absurd (cc)
for_target (Sym s) (Mark t flags) h = absurd (cc)
for_target (Sec id i) (Reference t flags) h = absurd (cc)
for_target (Sec id i) (Section file index) h = same_section file id index i h
for_target (Sec id i) (Mark t flags) h = absurd (cc)

eq_same : (n : ℕ) → (n == n) ≡ true
eq_same n = eq-eqb n n refl

for_own : (unit : LinkUnit) (a : Ask) → target_of a ≡ Some unit → is_for unit a ≡ true
for_own unit (Reference t flags) h =
    let same : Sym t ≡ unit = cc in
    subst (λ u. is_for u (Reference t flags) ≡ true) same (eq_same t)
for_own unit (Section file index) h =
    let same : Sec file index ≡ unit = cc in
    let all : is_for (Sec file index) (Section file index) ≡ true = simp eq_same in
    subst (λ u. is_for u (Section file index) ≡ true) same all
for_own unit (Mark t flags) h = absurd (cc)

-- an ask for a unit is found
pub any_asks : (unit : LinkUnit) (asks : List Ask) → list_any (is_for unit) asks ≡ true → AskFor asks unit
any_asks unit asks h =
    let at = Any-from_list_any (is_for unit) asks h in
    record { ask = at.1; among = (at.0, at.2, at.3); target = for_target unit at.1 at.4 }

pub asks_any : (unit : LinkUnit) (asks : List Ask) → AskFor asks unit → list_any (is_for unit) asks ≡ true
asks_any unit asks h = list_any_at (is_for unit) asks h.among.0 h.ask h.among.1 (ap (is_for unit) h.among.2 ∙ for_own unit h.ask h.target)

-- ---- units that are there

canonical_from : (s : ℕ) (o : Option InputSymbol) → option_map (λ x. unwrap_or x.def s) o ≡ Some s → option_map_or (is_canonical s) o false ≡ true
canonical_from s None h = absurd (cc)
canonical_from s (Some x) h =
    let same : unwrap_or x.def s ≡ s = cc in
    ap (λ n. n == s) same ∙ eq_same s

canonical_there : (groups : List (List InputFile)) (s : ℕ) (o : Option InputSymbol) → symbol_at groups s ≡ o → option_map_or (is_canonical s) o false ≡ true → s < symbols_in_all groups
canonical_there groups s None e h = absurd (cc)
canonical_there groups s (Some x) e h = omega (arith, slice_get_within (all_symbols groups) s x e, symbols_length groups)

section_at : (groups : List (List InputFile)) (id : FileId) (i : ℕ) (file : InputFile) (o : Option InputSection) → file_in groups id ≡ Some file → slice_get file.sections i ≡ o → is_some o ≡ true → IsUnit groups (Sec id i)
section_at groups id i file None at_file e h = absurd (cc)
section_at groups id i file (Some section) at_file e h = section_unit groups id file i section at_file e

section_in : (groups : List (List InputFile)) (id : FileId) (i : ℕ) (o : Option InputFile) → file_in groups id ≡ o → option_map_or (λ f. is_some (slice_get f.sections i)) o false ≡ true → IsUnit groups (Sec id i)
section_in groups id i None e h = absurd (cc)
section_in groups id i (Some file) e h = section_at groups id i file (slice_get file.sections i) e refl h

-- a unit that is there is a unit by its number
pub has_is_unit : (link : LinkInput) (unit : LinkUnit) → has_unit link unit ≡ true → IsUnit link.groups unit
has_is_unit link (Sym s) h = symbol_unit link.groups s (canonical_there link.groups s (symbol_at link.groups s) refl h)
has_is_unit link (Sec id i) h = section_in link.groups id i (file_in link.groups id) refl h

-- a section that is a unit stands in its file
section_stands : (link : LinkInput) (id : FileId) (i : ℕ) → IsUnit link.groups (Sec id i) → has_unit link (Sec id i) ≡ true
section_stands link id i h =
    let groups = link.groups in
    let symbols : List LinkUnit = map Sym (range_with_len 0 (symbols_in_all groups)) in
    elim (append_at symbols (map unit_of (all_inputs groups)) (unit_number groups (Sec id i)) (Sec id i) h) [
      | inl a ↦ let at = map_at Sym (range_with_len 0 (symbols_in_all groups)) (unit_number groups (Sec id i)) (Sec id i) a in absurd (cc (at.2))
      | inr b ↦
          let at = map_at unit_of (all_inputs groups) b.0 (Sec id i) b.2 in
          let from = file_of_input groups b.0 at.0 at.1 in
          let same : Sec at.0.file at.0.index ≡ Sec id i = at.2 in
          let same_id : at.0.file ≡ id = cc in
          let same_index : at.0.index ≡ i = cc in
          let there : file_in groups id ≡ Some from.0 = ap (file_in groups) (sym same_id) ∙ from.1 in
          let section : is_some (slice_get from.0.sections i) ≡ true = ap (λ k. is_some (slice_get from.0.sections k)) (sym same_index) ∙ ap is_some from.2 in
          ap (λ o. option_map_or (λ f. is_some (slice_get f.sections i)) o false) there ∙ section
    ]

-- what is reached is there
pub reached_has : (link : LinkInput) (unit : LinkUnit) → IsWellFormed link → IsReached link unit → has_unit link unit ≡ true
reached_has link (Sym s) wf r = canonical_from s (symbol_at link.groups s) (reached_stand_for_themselves link s wf r)
reached_has link (Sec id i) wf r = section_stands link id i (reached_unit link (Sec id i) wf r)

-- ---- faults

none_parts : (a b : Bool) (x y : PathFault) → (if not a then Some x else if b then None else Some y) ≡ None → (a ≡ true) × (b ≡ true)
none_parts true true x y h = (refl, refl)
none_parts true false x y h = absurd (cc)
none_parts false b x y h = absurd (cc)

none_from : (a b : Bool) (x y : PathFault) → a ≡ true → b ≡ true → (if not a then Some x else if b then None else Some y) ≡ None
none_from true true x y h k = refl
none_from true false x y h k = absurd (cc)
none_from false b x y h k = absurd (cc)

or_none : (o p : Option PathFault) → option_or o p ≡ None → (o ≡ None) × (p ≡ None)
or_none None p h = (refl, h)
or_none (Some x) p h = absurd (cc)

none_or : (o p : Option PathFault) → o ≡ None → p ≡ None → option_or o p ≡ None
none_or None p h k = k
none_or (Some x) p h k = absurd (cc)

unit_asked : (link : LinkInput) (asks : List Ask) (unasked : PathFault) (at : ℕ) (unit : LinkUnit) → unit_fault link asks unasked at unit ≡ None → AskFor asks unit
unit_asked link asks unasked at unit h = any_asks unit asks (none_parts (has_unit link unit) (list_any (is_for unit) asks) (NoSuchUnit at) unasked h).1

unit_free : (link : LinkInput) (asks : List Ask) (unasked : PathFault) (at : ℕ) (unit : LinkUnit) → has_unit link unit ≡ true → AskFor asks unit → unit_fault link asks unasked at unit ≡ None
unit_free link asks unasked at unit has h = none_from (has_unit link unit) (list_any (is_for unit) asks) (NoSuchUnit at) unasked has (asks_any unit asks h)

chain_path : (link : LinkInput) (before : LinkUnit) (at : ℕ) (rest : List LinkUnit) → chain_fault link before at rest ≡ None → (last : LinkUnit) × IsPath link before rest last
unfolding chain_fault
chain_path link before at [] h = (before, refl)
chain_path link before at (unit ∷ rest) h =
    let parts = or_none (unit_fault link (follows link before) (NoAsk at) at unit) (chain_fault link unit (at + 1) rest) h in
    let more = chain_path link unit (at + 1) rest parts.1 in
    (more.0, (unit_asked link (follows link before) (NoAsk at) at unit parts.0, more.1))

path_chain : (link : LinkInput) (before : LinkUnit) (at : ℕ) (rest : List LinkUnit) (last : LinkUnit) → IsWellFormed link → IsReached link before → IsPath link before rest last → chain_fault link before at rest ≡ None
unfolding chain_fault
path_chain link before at [] last wf reached path = refl
path_chain link before at (unit ∷ rest) last wf reached path =
    let next : IsReached link unit = reach_more link before unit reached path.0 in
    none_or (unit_fault link (follows link before) (NoAsk at) at unit) (chain_fault link unit (at + 1) rest)
    (unit_free link (follows link before) (NoAsk at) at unit (reached_has link unit wf next) path.0)
    (path_chain link unit (at + 1) rest last wf next path.1)

-- a list without a fault is a path
pub accepted_path : (link : LinkInput) (path : List LinkUnit) → path_fault link path ≡ None → IsKeepPath link path
accepted_path link [] h = absurd (cc)
accepted_path link (first ∷ rest) h =
    let parts = or_none (unit_fault link (roots link) NotRoot 0 first) (chain_fault link first 1 rest) h in
    let more = chain_path link first 1 rest parts.1 in
    (more.0, (unit_asked link (roots link) NotRoot 0 first parts.0, more.1))

-- a path has no fault
pub path_accepted : (link : LinkInput) (path : List LinkUnit) (unit : LinkUnit) → IsWellFormed link → IsPathTo link path unit → path_fault link path ≡ None
path_accepted link [] unit wf h = absurd h
path_accepted link (first ∷ rest) unit wf h =
    let reached : IsReached link first = reach_root link first h.0 in
    none_or (unit_fault link (roots link) NotRoot 0 first) (chain_fault link first 1 rest)
    (unit_free link (roots link) NotRoot 0 first (reached_has link first wf reached) h.0)
    (path_chain link first 1 rest unit wf reached h.1)

-- a check answers Ok exactly at a path
pub ok_path : (link : LinkInput) (path : List LinkUnit) (r : Result (Unit {0}) PathFault) → IsWellFormed link → fault_of r ≡ path_fault link path → IsOk r ↔ IsKeepPath link path
ok_path link path (Ok u) wf h = (λ ok. accepted_path link path (sym h), λ is. refl)
ok_path link path (Err f) wf h = (λ ok. absurd (cc), λ is. let none = path_accepted link path is.0 wf is.1 in absurd (cc))

-- ---- turns of a check

pub break_end : (link : LinkInput) (before : LinkUnit) (at : ℕ) (left : List LinkUnit) → length left ≡ 0 → chain_fault link before at left ≡ None
unfolding chain_fault
break_end link before at [] h = refl
break_end link before at (unit ∷ rest) h = absurd (omega arith)

fault_unit : (a b : Bool) (x y : PathFault) (p : Option PathFault) → a ≡ false → option_or (if not a then Some x else if b then None else Some y) p ≡ Some x
fault_unit true b x y p h = absurd (cc)
fault_unit false b x y p h = refl

fault_ask : (a b : Bool) (x y : PathFault) (p : Option PathFault) → a ≡ true → b ≡ false → option_or (if not a then Some x else if b then None else Some y) p ≡ Some y
fault_ask false b x y p h k = absurd (cc)
fault_ask true true x y p h k = absurd (cc)
fault_ask true false x y p h k = refl

fault_past : (a b : Bool) (x y : PathFault) (p : Option PathFault) → a ≡ true → b ≡ true → option_or (if not a then Some x else if b then None else Some y) p ≡ p
fault_past false b x y p h k = absurd (cc)
fault_past true false x y p h k = absurd (cc)
fault_past true true x y p h k = refl

-- no such unit, no ask for it, and neither
pub break_unit : (link : LinkInput) (before unit : LinkUnit) (at : ℕ) (rest left : List LinkUnit) → left ≡ unit ∷ rest → has_unit link unit ≡ false → chain_fault link before at left ≡ Some (NoSuchUnit at)
unfolding chain_fault
break_unit link before unit at rest left e h =
    ap (chain_fault link before at) e
    ∙ fault_unit (has_unit link unit) (list_any (is_for unit) (follows link before)) (NoSuchUnit at) (NoAsk at) (chain_fault link unit (at + 1) rest) h

pub break_ask : (link : LinkInput) (before unit : LinkUnit) (at : ℕ) (rest left : List LinkUnit) → left ≡ unit ∷ rest → has_unit link unit ≡ true
    → list_any (is_for unit) (follows link before) ≡ false → chain_fault link before at left ≡ Some (NoAsk at)
unfolding chain_fault
break_ask link before unit at rest left e h k =
    ap (chain_fault link before at) e
    ∙ fault_ask (has_unit link unit) (list_any (is_for unit) (follows link before)) (NoSuchUnit at) (NoAsk at) (chain_fault link unit (at + 1) rest) h k

pub break_next : (link : LinkInput) (before unit : LinkUnit) (at : ℕ) (rest left : List LinkUnit) → left ≡ unit ∷ rest → has_unit link unit ≡ true
    → list_any (is_for unit) (follows link before) ≡ true → chain_fault link before at left ≡ chain_fault link unit (at + 1) rest
unfolding chain_fault
break_next link before unit at rest left e h k =
    ap (chain_fault link before at) e
    ∙ fault_past (has_unit link unit) (list_any (is_for unit) (follows link before)) (NoSuchUnit at) (NoAsk at) (chain_fault link unit (at + 1) rest) h k
