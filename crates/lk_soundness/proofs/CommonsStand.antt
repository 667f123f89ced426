-- A common that has a resolution is an owner of bytes of its part, and has their address as its value.
use Rattle.std.proofs.Common.{◌≡◌, ℕ, ◌<◌, false, true, List, Option, Some, refl, sym, ap, subst, ◌∙◌, arith}
use Rattle.std.specs.Prelude.{option_map, slice_index}
use Rattle.std.specs.Int.{◌∣◌}
use Rattle.std.specs.List.{slice_index_or}
use Rattle.std.proofs.Math.ListN as lists
use Rattle.std.proofs.Math.Nat.{dvd-add}
use Rattle.lk_link.specs.declared.file.FileKind.{FileKind}
use Rattle.lk_link.specs.declared.file.FileKind.TheVariants as kind
use Rattle.lk_link.specs.declared.file.InputFile.{InputFile}
use Rattle.lk_link.specs.declared.link.LinkInput.{LinkInput}
use Rattle.lk_link.specs.declared.plan.PlanPart.{PlanPart}
use Rattle.lk_link.specs.declared.symbol.InputSymbol.{InputSymbol}
use Rattle.lk_link.specs.declared.symbol.SymbolPlacement.TheVariants as at
use Rattle.lk_link.specs.FileKinds.{is_object}
use Rattle.lk_link.specs.Inputs.{first_input}
use Rattle.lk_link.specs.Parts.{part_at}
use Rattle.lk_link.specs.SymbolRules.{is_placement_in}
use Rattle.lk_layout.specs.Made.{Made, made_filling}
use Rattle.lk_layout.specs.Machines.{Machine}
use Rattle.lk_link.specs.WellFormed.{IsWellFormed}
use Rattle.lk_link.proofs.GoodSymbols.{symbol_of}
use Rattle.lk_live.specs.declared.live.Live.{Live}
use Rattle.lk_expressions.specs.Records.{Record, nowhere, record_at}
use Rattle.lk_sizes.specs.Owners.{CommonOwner, IsCommonIn, Owner, owner_address, Filling}
use Rattle.lk_sizes.specs.PartOwners.{common_address, common_number, owners_of, part_size, part_sizes}
use Rattle.lk_size_laws.specs.Tiles.{HasByte, OwnersAreAligned, OwnersTileTheirPart}
use Rattle.lk_sizes.proofs.CommonOnes.{common_is_placed, commons_are_owners}
use Rattle.lk_layout.specs.LayoutRecord.{LayoutRecord}
use Rattle.lk_link.specs.declared.resolution.Resolution.{Resolution}
use Rattle.lk_resolutions.specs.Starts.{starts_of}
use Rattle.lk_resolutions.specs.Entries.{EntrySetting}
use Rattle.lk_resolutions.specs.Resolutions.{ValueAddresses, placed_value, resolution_of}
use Rattle.lk_resolution_list.specs.Lists.{resolution_at}
use Rattle.lk_soundness.specs.Sound.{part_record}
use Rattle.lk_soundness.proofs.Stands.{CommonsStand}
use Rattle.lk_layout.proofs.LaidOut.{IsLaidOut, made_by}
use Rattle.lk_soundness.proofs.PartStarts.{part_starts}
use Rattle.lk_sizes.proofs.Placed.{size-le}
use Rattle.lk_layout.proofs.Settings.{part_size_at}
use Rattle.lk_soundness.proofs.Resolving.{ObjectsAreTold, made_at, made_entries, object_value}

-- ---- its file

-- only objects place symbols as commons
of_kind : (k : FileKind) (p size : ℕ) → is_placement_in k (at.Common p size) ≡ true → is_object k ≡ true
of_kind kind.Object p size h = refl
of_kind kind.Dynamic p size h = absurd (cc)
of_kind kind.NotLoaded p size h = absurd (cc)
of_kind kind.Prelude p size h = absurd (cc)
of_kind kind.SyntheticSymbols p size h = absurd (cc)
of_kind kind.LinkerScript p size h = absurd (cc)

of_object : (link : LinkInput) (live : Live) (p s size : ℕ) → IsWellFormed link → (c : IsCommonIn link live p s size) → is_object c.file.file.kind ≡ true
of_object link live p s size good c =
    let k : FileKind = c.file.file.kind in
    of_kind k p size (ap (is_placement_in k) (sym c.placed) ∙ (symbol_of link c.file.id c.index c.file.file c.symbol good c.there c.stands).of_kind)

-- ---- its value

-- what is told of its symbol: its address
value_told : (made : Made) (layout : LayoutRecord) (p s size : ℕ) (c : IsCommonIn made.link made.live p s size) → ObjectsAreTold made layout → is_object c.file.file.kind ≡ true
    → option_map (λ (r : Resolution). r.raw_value) (resolution_at layout.symbol_resolutions s) ≡ Some (common_address (made_filling made) (starts_of made.stage.records) p s)
value_told made layout p s size c told object =
    let x : InputSymbol = c.symbol in
    let file : InputFile = c.file.file in
    let first : ℕ = first_input made.link.groups c.file.id in
    let places : ValueAddresses = made_at made in
    let by : EntrySetting = made_entries made in
    let raw : Option Resolution → Option ℕ = option_map (λ (r : Resolution). r.raw_value) in
    let read : resolution_at layout.symbol_resolutions s ≡ resolution_of places by file.kind first (s, x)
    = ap (λ (n : ℕ). resolution_at layout.symbol_resolutions n) c.number
    ∙ told c.file.id file c.index x c.there c.stands object
    ∙ ap (λ (n : ℕ). resolution_of places by file.kind first (n, x)) (sym c.number) in
    ap raw read ∙ object_value places by file.kind first (s, x) object c.wanted ∙ ap (λ (n : ℕ). Some n) (ap (placed_value places first s) c.placed)

-- ---- where it stands

-- an owner of bytes starts at a multiple of its part's alignment, where the part is no table part and isn't packed
common_aligned : OwnersTileTheirPart → OwnersAreAligned → (machine : Machine) (link : LinkInput) (layout : LayoutRecord) (laid : IsLaidOut machine link layout) (p s size : ℕ)
    → IsCommonIn link laid.live p s size → 0 < size → (part_at link.plan.sections p).packed ≡ false
    → (part_at link.plan.sections p).alignment ∣ owner_address (part_record layout p).mem_offset (part_at link.plan.sections p) (owners_of (made_filling (made_by laid)) p) (common_number (made_filling (made_by laid)) p s)
common_aligned tile aligned machine link layout laid p s size c some unpacked =
    let live : Live = laid.live in
    let filling : Filling = made_filling (made_by laid) in
    let part : PlanPart = part_at link.plan.sections p in
    let owners : List Owner = owners_of filling p in
    let k : ℕ = common_number filling p s in
    let start : ℕ = (part_record layout p).mem_offset in
    let placed = common_is_placed link live p s size laid.good c in
    let byte : HasByte start part owners k (owner_address start part owners k) = record {
      owner = CommonOwner s size;
      there = commons_are_owners filling p s size c;
      from = omega arith;
      below = omega (arith, some, size-le part size);
    } in
    let inside = (tile filling p start).inside k (owner_address start part owners k) byte in
    let bytes : 0 < part_size filling p = omega (arith, inside.0, inside.1) in
    let size_is : slice_index_or (part_sizes filling) p 0 ≡ part_size filling p = part_size_at filling p placed.0 in
    let begins : part.alignment ∣ (record_at laid.stage.records p).mem_offset
    = part_starts machine link live laid.stage p laid.good laid.stands laid.unrefused placed.0 (omega (arith, bytes, size_is)) in
    let record_is : (record_at laid.stage.records p).mem_offset ≡ start = ap (λ (l : LayoutRecord). (record_at l.section_part_layouts p).mem_offset) (sym laid.same) in
    dvd-add part.alignment (subst (λ n. part.alignment ∣ n) record_is begins) (aligned filling p k laid.good placed.1 unpacked)

pub commons_stand : OwnersTileTheirPart → OwnersAreAligned → (machine : Machine) (link : LinkInput) (layout : LayoutRecord) (laid : IsLaidOut machine link layout)
    → ObjectsAreTold (made_by laid) layout → CommonsStand (made_by laid) layout
commons_stand tile aligned machine link layout laid told p s size c =
    let filling : Filling = made_filling (made_by laid) in
    let records : List Record = laid.stage.records in
    let part : PlanPart = part_at link.plan.sections p in
    let k : ℕ = common_number filling p s in
    let at_start : ℕ → ℕ = λ n. owner_address n part (owners_of filling p) k in
    let start : slice_index (starts_of records) p ≡ (part_record layout p).mem_offset
    = lists.get_or-map (λ (r : Record). r.mem_offset) records p nowhere ∙ ap (λ (l : LayoutRecord). (part_record l p).mem_offset) (sym laid.same) in
    record {
      part = (common_is_placed link laid.live p s size laid.good c).0;
      number = k;
      owner = commons_are_owners filling p s size c;
      address = at_start (part_record layout p).mem_offset;
      at = refl;
      valued = value_told (made_by laid) layout p s size c told (of_object link laid.live p s size laid.good c) ∙ ap (λ (n : ℕ). Some (at_start n)) start;
      aligned = common_aligned tile aligned machine link layout laid p s size c;
    }
