-- The load address of a section goes by what stands behind it.
use Rattle.std.proofs.Common.{◌≡◌, ℕ, ◌+◌, ◌-◌, ◌<◌, Bool, true, false, cond, List, [], ◌∷◌, drop, length, map, take, Option, Some, None, refl, sym, ap, ◌∙◌, inl, inr}
use Rattle.std.specs.Prelude.{◌==◌, option_map, slice_get, Result}
use Rattle.std.specs.List.{list_any}
use Rattle.std.proofs.Math.ListN.{get_or-map}
use Rattle.std.proofs.Math.Path.{fun_ext}
use Rattle.std.proofs.lemmas.Bool.{cases_Bool}
use Rattle.std.proofs.lemmas.List.{drop-map, length-map, take-map}
use Rattle.lk_link.specs.declared.expression.Operand.{Operand}
use Rattle.lk_link.specs.declared.expression.Operand.TheVariants as operand
use Rattle.lk_link.specs.declared.plan.PlanSection.{PlanSection}
use Rattle.lk_link.specs.declared.symbol.SymbolPlacement.{SymbolPlacement}
use Rattle.lk_link.specs.declared.symbol.SymbolPlacement.TheVariants as at
use Rattle.lk_link.specs.Expressions.{Term}
use Rattle.lk_link.specs.Parts.{all_parts, first_part}
use Rattle.lk_link.specs.PlanSections.{section_at}
use Rattle.lk_place.specs.declared.cursors.Cursors.{Cursors}
use Rattle.lk_place.specs.declared.cursors.Offsets.{Offsets}
use Rattle.lk_place.specs.declared.error.Refusal.{Refusal}
use Rattle.lk_expressions.specs.declared.positions.SymbolPosition.{SymbolPosition}
use Rattle.lk_expressions.specs.Expressions.{Valued, expression_value}
use Rattle.lk_place.specs.PlacedBefore.{PlacedRecords, dot_of, early_known, early_value, is_placing, is_placing_part, lies_in, standing_before}
use Rattle.lk_place.specs.Placement.{load_by, loading, record_by, records_by, section_left, section_start, standing_with}
use Rattle.lk_place.specs.CarriedOut.{PlacesSection}
use Rattle.lk_place_laws.specs.PlacementLaws.{LoadsGoByWhatStands}
use Rattle.lk_expressions.specs.Records.{Record, file_end, mem_end, nowhere, record_at}
use Rattle.lk_place.specs.Segments.{greatest, hull, least, part_records}
use Rattle.lk_place.specs.Setting.{IsReady, Setting, part_count}
use Rattle.lk_expressions.specs.Surroundings.{Early, address_of, early_operand, early_symbol, flat, offset_behind, symbol_value, told}
use Rattle.lk_place.specs.Walk.{Rewrites, all_written}
use Rattle.lk_place.proofs.Loading.{standing_behind}
use Rattle.lk_place.proofs.PlacedSections.{places_makes, unloaded}
use Rattle.lk_place.proofs.WalkRecords.{section_there}
use Rattle.lk_place.proofs.PartEvents.{among_is}

-- ---- expressions read nothing of where something is loaded

-- what is known, but for where what stands is loaded
abbrev bared : Early → Early
bared known = record known { section = λ s. option_map unloaded (known.section s); part = λ p. option_map unloaded (known.part p) }

place_bare : (part : ℕ → Option Record) (o : Option SymbolPosition) → address_of (λ p. option_map unloaded (part p)) o ≡ address_of part o
place_bare part None = refl
place_bare part (Some place) = elim (part place.part) as (λ r. offset_behind place.offset (option_map unloaded r) ≡ offset_behind place.offset r) [ None ↦ refl | Some r ↦ refl ]

symbol_bare : (known : Early) (d : ℕ) (x : SymbolPlacement) → early_symbol (bared known) d x ≡ early_symbol known d x
symbol_bare known d (at.Section i offset) = place_bare known.part (flat (slice_get known.positions d))
symbol_bare known d (at.Common part size) = refl
symbol_bare known d (at.Absolute n) = refl
symbol_bare known d at.Undef = refl
symbol_bare known d at.Dynamic = refl
symbol_bare known d at.Undefined = refl
symbol_bare known d at.ForceUndefined = refl
symbol_bare known d (at.SectionStart s) = refl
symbol_bare known d (at.SectionEnd s) = refl
symbol_bare known d (at.SectionGroupEnd s) = refl
symbol_bare known d at.TlsEnd = refl
symbol_bare known d at.LoadBaseAddress = refl
symbol_bare known d (at.Redirect e l provide) = refl

operand_bare : (known : Early) (o : Operand) → early_operand (bared known) o ≡ early_operand known o
operand_bare known (operand.Number n) = refl
operand_bare known (operand.Symbol s) = ap (λ (f : ℕ → SymbolPlacement → Valued). symbol_value f known.groups s) (fun_ext (λ d. fun_ext (λ x. symbol_bare known d x)))
operand_bare known operand.Dot = refl
operand_bare known (operand.Address s) = elim (known.section s) as (λ r. told (λ (x : Record). x.mem_offset) (option_map unloaded r) ≡ told (λ (x : Record). x.mem_offset) r) [ None ↦ refl | Some r ↦ refl ]
operand_bare known (operand.SizeOf s) = elim (known.section s) as (λ r. told (λ (x : Record). x.mem_size) (option_map unloaded r) ≡ told (λ (x : Record). x.mem_size) r) [ None ↦ refl | Some r ↦ refl ]
operand_bare known (operand.Origin r) = refl
operand_bare known (operand.Length r) = refl
operand_bare known operand.SizeOfHeaders = refl

-- what stands, but for where it is loaded
abbrev bare : PlacedRecords → PlacedRecords
bare x = record { section = λ s. option_map unloaded (x.section s); part = λ p. option_map unloaded (x.part p) }

value_bare : (setting : Setting) (x : PlacedRecords) (c : Cursors) (e : Term) → early_value setting (bare x) c e ≡ early_value setting x c e
value_bare setting x c e = ap (λ (f : Operand → Valued). expression_value f e) (fun_ext (operand_bare (early_known setting x (dot_of c))))

load_bare : (setting : Setting) (s : ℕ) (x : PlacedRecords) (c : Cursors) (e : Option Term) → load_by setting s (bare x) c e ≡ load_by setting s x c e
load_bare setting s x c None = refl
load_bare setting s x c (Some e) = ap (loading s) (value_bare setting x c e)

-- ---- records that aren't loaded elsewhere

-- what is read of each of what is made of some is what is read of that of each
maps_twice : {X Y Z : Type 0} (f : Y → Z) (g : X → Y) (xs : List X) → map f (map g xs) ≡ map (λ x. f (g x)) xs
maps_twice f g [] = refl
maps_twice f g (x ∷ xs) = ap (λ ys. f (g x) ∷ ys) (maps_twice f g xs)

-- their hull isn't either
hull_unloaded : (rs : List Record) → hull (map unloaded rs) ≡ unloaded (hull rs)
hull_unloaded rs =
    let files = maps_twice (λ (r : Record). r.file_offset) unloaded rs in
    let starts = maps_twice (λ (r : Record). r.mem_offset) unloaded rs in
    let loads = maps_twice (λ (r : Record). r.lma_offset) unloaded rs in
    let file_ends = maps_twice file_end unloaded rs in
    let ends = maps_twice mem_end unloaded rs in
    let alignments = maps_twice (λ (r : Record). r.alignment) unloaded rs in
    λ i. record {
      file_size = greatest 0 (file_ends i) - least 0 (files i);
      mem_size = greatest 0 (ends i) - least 0 (starts i);
      alignment = greatest 1 (alignments i);
      file_offset = least 0 (files i);
      mem_offset = least 0 (starts i);
      lma_offset = least 0 (loads i);
    }

parts_unloaded : (sections : List PlanSection) (records : List Record) (s : ℕ) → part_records sections (map unloaded records) s ≡ map unloaded (part_records sections records s)
parts_unloaded sections records s =
    let first : ℕ = first_part sections s in
    let count : ℕ = first_part sections (s + 1) - first in
    ap (take count) (drop-map unloaded first records) ∙ take-map unloaded count (drop first records)

-- what stands by them is what stands, but for where it is loaded
standing_unloaded : (setting : Setting) (records : List Record) (n : ℕ) → standing_before setting.plan (map unloaded records) n ≡ bare (standing_before setting.plan records n)
standing_unloaded setting records n =
    let sections : List PlanSection = setting.plan.sections in
    let before : PlacedRecords = standing_before setting.plan (map unloaded records) n in
    let after : PlacedRecords = bare (standing_before setting.plan records n) in
    let section : before.section ≡ after.section = fun_ext (λ s.
    ap (λ (r : Record). cond (list_any (is_placing s) (take n setting.plan.events)) (Some r) None) (ap hull (parts_unloaded sections records s) ∙ hull_unloaded (part_records sections records s))
    ∙ elim (list_any (is_placing s) (take n setting.plan.events)) as (λ b. cond b (Some (unloaded (hull (part_records sections records s)))) None
    ≡ option_map unloaded (cond b (Some (hull (part_records sections records s))) None)) [ true ↦ refl | false ↦ refl ]) in
    let part : before.part ≡ after.part = fun_ext (λ p.
    ap (λ (r : Record). cond (list_any (is_placing_part sections p) (take n setting.plan.events)) (Some r) None) (get_or-map unloaded records p nowhere)
    ∙ elim (list_any (is_placing_part sections p) (take n setting.plan.events)) as (λ b. cond b (Some (unloaded (record_at records p))) None
    ≡ option_map unloaded (cond b (Some (record_at records p)) None)) [ true ↦ refl | false ↦ refl ]) in
    λ i. record { section = section i; part = part i }

-- ---- the law

-- but for where something is loaded, what stands with a section goes by what stood, but for that
with_bare : (setting : Setting) (x : PlacedRecords) (s : ℕ) (begin : Offsets) → bare (standing_with setting (bare x) s begin) ≡ bare (standing_with setting x s begin)
with_bare setting x s begin =
    let one : PlacedRecords = bare (standing_with setting (bare x) s begin) in
    let two : PlacedRecords = bare (standing_with setting x s begin) in
    let twice : (o : Option Record) → option_map unloaded (option_map unloaded o) ≡ option_map unloaded o = λ o. elim o as (λ o. option_map unloaded (option_map unloaded o) ≡ option_map unloaded o) [ None ↦ refl | Some r ↦ refl ] in
    let section : one.section ≡ two.section = fun_ext (λ t. elim (s == t) as (λ b. option_map unloaded (cond b (Some (hull (records_by setting s begin))) (option_map unloaded (x.section t)))
    ≡ option_map unloaded (cond b (Some (hull (records_by setting s begin))) (x.section t))) [ true ↦ refl | false ↦ twice (x.section t) ]) in
    let part : one.part ≡ two.part = fun_ext (λ p. elim (lies_in (first_part setting.plan.sections s) (part_count setting.plan.sections s) p) as (λ b. option_map unloaded (cond b (Some (record_by setting s begin p)) (option_map unloaded (x.part p)))
    ≡ option_map unloaded (cond b (Some (record_by setting s begin p)) (x.part p))) [ true ↦ refl | false ↦ twice (x.part p) ]) in
    λ i. record { section = section i; part = part i }

-- records that place a section are written already, but for where they are loaded
written : (setting : Setting) (s : ℕ) (from to : Cursors) (records : List Record) → IsReady setting → s < length setting.plan.sections → PlacesSection setting s from records to
    → Rewrites (all_written setting s (section_start setting s from)) (map unloaded records) (map unloaded records)
written setting s from to records ready below places p =
    let begin : Offsets = section_start setting s from in
    let first : ℕ = first_part setting.plan.sections s in
    let count : ℕ = part_count setting.plan.sections s in
    let old : Record = record_at (map unloaded records) p in
    elim (cases_Bool (lies_in first count p)) [
      | inl lies ↦
          let place = among_is first count p lies in
          get_or-map unloaded records p nowhere
          ∙ ap (λ (n : ℕ). unloaded (record_at records n)) place.2
          ∙ (places_makes setting s from records to ready below places).made place.0 place.1
          ∙ ap (record_by setting s begin) (sym place.2)
          ∙ sym (ap (λ (b : Bool). cond b (record_by setting s begin p) old) lies)
      | inr other ↦ sym (ap (λ (b : Bool). cond b (record_by setting s begin p) old) other)
    ]

pub loads_go_by_what_stands : LoadsGoByWhatStands
loads_go_by_what_stands setting k s from to records ready each here places =
    let begin : Offsets = section_start setting s from in
    let left : Cursors = section_left setting s from in
    let e : Option Term = (section_at setting.plan.sections s).at in
    let below : s < length setting.plan.sections = section_there setting k s ready here in
    let bared : List Record = map unloaded records in
    let count : length bared ≡ length (all_parts setting.plan.sections) = length-map records unloaded ∙ each in
    let before : PlacedRecords = standing_before setting.plan records k in
    let behind : PlacedRecords = standing_before setting.plan records (k + 1) in
    let by : PlacedRecords → Result (Option ℕ) Refusal = λ x. load_by setting s x left e in
    sym (load_bare setting s (standing_with setting before s begin) left e)
    ∙ sym (ap by (with_bare setting before s begin))
    ∙ load_bare setting s (standing_with setting (bare before) s begin) left e
    ∙ sym (ap (λ (x : PlacedRecords). by (standing_with setting x s begin)) (standing_unloaded setting records k))
    ∙ sym (ap by (standing_behind setting k s begin bared bared ready here count count (written setting s from to records ready below places)))
    ∙ ap by (standing_unloaded setting records (k + 1))
    ∙ load_bare setting s behind left e
    ∙ ap (λ (c : Cursors). load_by setting s behind c e) (sym (places_makes setting s from records to ready below places).leaves)
