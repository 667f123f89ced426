-- Where sections and symbols stand when relaxation has ended, by the addresses that are told.
use Rattle.std.proofs.Common.{◌≡◌, ◌&&◌, ◌+◌, ◌-◌, ◌<◌, ◌≤◌, ℕ, zero, suc, Bool, true, false, not, List, [], ◌∷◌, ◌++◌, length, map, take, Option, Some, None, refl, sym, ap, subst, ◌∙◌, arith}
use Rattle.std.specs.Prelude.{if◌then◌else◌, option_and_then, slice_get, slice_index, sum_by}
use Rattle.std.specs.List.{enumerate_from, flat_map}
use Rattle.std.proofs.Math.ListN as lists
use Rattle.std.proofs.lemmas.List.{length-map, map-append}
use Rattle.std.proofs.lemmas.List.Sums.{sum_by-cons}
use Rattle.std.proofs.lemmas.Option.{get_or_from_slice_get}
use Rattle.lk_expressions.specs.declared.positions.SymbolPosition.{SymbolPosition}
use Rattle.lk_expressions.specs.Records.{Record, nowhere, record_at}
use Rattle.lk_expressions.specs.Surroundings.{flat}
use Rattle.lk_link.specs.declared.file.InputFile.{InputFile}
use Rattle.lk_link.specs.declared.ids.FileId.{FileId}
use Rattle.lk_link.specs.declared.link.LinkInput.{LinkInput}
use Rattle.lk_link.specs.declared.plan.PlanPart.{PlanPart}
use Rattle.lk_link.specs.declared.relocation.RelaxCandidate.{RelaxCandidate}
use Rattle.lk_link.specs.declared.section.InputSection.{InputSection}
use Rattle.lk_link.specs.declared.section.InputSlot.{InputSlot}
use Rattle.lk_link.specs.declared.section.InputSlot.TheVariants as slot
use Rattle.lk_link.specs.declared.symbol.InputSymbol.{InputSymbol}
use Rattle.lk_link.specs.Files.{file_in}
use Rattle.lk_link.specs.InputRules.{IsGoodInput}
use Rattle.lk_link.specs.InputSlots.{is_discarded, is_merge, is_regular}
use Rattle.lk_link.specs.Inputs.{Input, NumberedFile, all_inputs, input_number, numbered_files}
use Rattle.lk_link.specs.Marks.{is_marked}
use Rattle.lk_link.specs.NumberedSymbols.{numbered_symbol, numbered_symbols, symbols_of}
use Rattle.lk_link.specs.Parts.{all_parts, part_at}
use Rattle.lk_link.specs.WellFormed.{IsWellFormed}
use Rattle.lk_link.proofs.Elements.{map_in}
use Rattle.lk_link.proofs.GoodInputs.{inputs_are_good}
use Rattle.lk_link.proofs.InputLemmas.{inputs_follow, numbered_get}
use Rattle.lk_place.specs.PlacementLaws.{PartsTakeTheirBytes}
use Rattle.lk_place_laws.specs.PlacementLaws.{RefusedExactlyPast}
use Rattle.lk_deltas.specs.Candidates.{AreOf, is_gone, range_of, ranges_in}
use Rattle.lk_deltas.specs.Deletions.{RiseWithin, bytes_before, mapped, mapped_by}
use Rattle.lk_deltas.proofs.CandidateLemmas.{kept_rise, rise_by}
use Rattle.lk_deltas.specs.LinkDeletions.{Deletions, deleted_of, output_offset, size_after, sizes_after}
use Rattle.lk_relax.specs.Positions.{file_positions, has_position, no_starts, position_in, section_position, section_positions, symbol_position, symbol_positions}
use Rattle.lk_relax.specs.RelaxedLaws.{RelaxedIsShrunk}
use Rattle.lk_relax.specs.Scan.{address_in, as_address, ranges_of, site}
use Rattle.lk_sizes.proofs.Placed.{ends_within}
use Rattle.lk_sizes.specs.Addresses.{section_addresses}
use Rattle.lk_sizes.specs.Owners.{Filling, bytes_of, size_of}
use Rattle.lk_sizes.specs.PartOwners.{live_address, owner_number, owners_of}
use Rattle.lk_sizes.proofs.LiveOnes.{live_goes}
use Rattle.lk_sizes.proofs.Numbering.{table_at}
use Rattle.lk_resolutions.specs.Starts.{starts_of}
use Rattle.lk_resolutions.proofs.Placing.{marked_in}
use Rattle.lk_layout.specs.Defined.{made_standing}
use Rattle.lk_layout.specs.LayoutRecord.{LayoutRecord}
use Rattle.lk_layout.specs.Machines.{Machine}
use Rattle.lk_layout.specs.Made.{made_filling, relaxing_for}
use Rattle.lk_soundness.proofs.Fitting.{owners_fit}
use Rattle.lk_layout.proofs.LaidOut.{IsLaidOut, made_by}
use Rattle.lk_soundness.proofs.ThunkAddresses.{is_address}

-- ---- symbols by number

abbrev by_place : (groups : List (List InputFile)) (deletions : Deletions) (sections : List (Option (ℕ × ℕ))) → NumberedFile × InputSymbol → Option SymbolPosition
by_place groups deletions sections q = symbol_position groups deletions sections q.0.id q.1.at

one_file : (groups : List (List InputFile)) (deletions : Deletions) (sections : List (Option (ℕ × ℕ))) (f : NumberedFile) (xs : List InputSymbol)
    → map (λ (x : InputSymbol). symbol_position groups deletions sections f.id x.at) xs ≡ map (by_place groups deletions sections) (map (λ (x : InputSymbol). (f, x)) xs)
one_file groups deletions sections f [] = refl
one_file groups deletions sections f (x ∷ xs) = ap (λ ps. symbol_position groups deletions sections f.id x.at ∷ ps) (one_file groups deletions sections f xs)

by_number : (groups : List (List InputFile)) (deletions : Deletions) (sections : List (Option (ℕ × ℕ))) (files : List NumberedFile)
    → flat_map (file_positions groups deletions sections) files ≡ map (by_place groups deletions sections) (flat_map symbols_of files)
by_number groups deletions sections [] = refl
by_number groups deletions sections (f ∷ files) =
    ap (λ ps. file_positions groups deletions sections f ++ ps) (by_number groups deletions sections files)
    ∙ ap (λ ps. ps ++ map (by_place groups deletions sections) (flat_map symbols_of files)) (one_file groups deletions sections f f.file.symbols)
    ∙ sym (map-append (by_place groups deletions sections) (symbols_of f) (flat_map symbols_of files))

-- the position of the symbol with a number is that of its placement
pub position_is : (groups : List (List InputFile)) (deletions : Deletions) (sections : List (Option (ℕ × ℕ))) (s : ℕ) (f : NumberedFile) (x : InputSymbol) → numbered_symbol groups s ≡ Some (f, x)
    → flat (slice_get (symbol_positions groups deletions sections) s) ≡ symbol_position groups deletions sections f.id x.at
position_is groups deletions sections s f x named =
    ap (λ ps. flat (slice_get ps s)) (by_number groups deletions sections (numbered_files groups))
    ∙ ap flat (map_in (by_place groups deletions sections) (numbered_symbols groups) s (f, x) named)

-- ---- offsets keep their order

pub regular_is : (s : InputSlot) → is_regular s ≡ true → (is_discarded s ≡ false) × (is_merge s ≡ false)
regular_is slot.Discard h = absurd (cc)
regular_is slot.Unloaded h = (refl, refl)
regular_is slot.MustLoad h = (refl, refl)
regular_is slot.DebugInfo h = absurd (cc)
regular_is slot.MustLoadDebugInfo h = absurd (cc)
regular_is slot.Merge h = absurd (cc)

-- between two offsets no more is deleted than there is
grows : (low high a b : ℕ) (rs : List (ℕ × ℕ)) → RiseWithin low high rs → a ≤ b
    → (sum_by (bytes_before b) rs ≤ sum_by (bytes_before a) rs + (b - a)) × (sum_by (bytes_before b) rs ≤ sum_by (bytes_before a) rs + (b - low))
grows low high a b [] h order = (omega arith, omega arith)
grows low high a b (r ∷ rs) h order =
    let rest = grows (r.0 + r.1) high a b rs h.2 order in (
      omega (arith, sum_by-cons (bytes_before a) r rs, sum_by-cons (bytes_before b) r rs, rest.0, rest.1, order),
      omega (arith, sum_by-cons (bytes_before a) r rs, sum_by-cons (bytes_before b) r rs, rest.0, rest.1, order, h.0),
    )

mapped_in_order : (o : Option (List (ℕ × ℕ))) (high a b : ℕ) → RiseWithin 0 high (ranges_in o) → a ≤ b → mapped_by o a ≤ mapped_by o b
unfolding mapped
mapped_in_order None high a b rising order = order
mapped_in_order (Some ranges) high a b rising order = omega (arith, (grows 0 high a b ranges rising order).0, order)

-- ---- a section

-- the candidates of a section that isn't left out rise
pub candidates_rise : (link : LinkInput) (id : FileId) (file : InputFile) (i : ℕ) (section : InputSection) → IsWellFormed link → file_in link.groups id ≡ Some file → slice_get file.sections i ≡ Some section
    → is_regular section.slot ≡ true → RiseWithin 0 section.size (map range_of section.relax)
candidates_rise link id file i section well there at regular =
    let good : IsGoodInput link.plan (length file.symbols) section = inputs_are_good link id i file section well there at (regular_is section.slot regular).0 in
    rise_by 0 section.size section.relax (omega arith) (λ k r e. (omega arith, (good.in_relax k r e).0, (good.in_relax k r e).1)) good.apart

-- a section of a file, with its number, that has a position
pub record IsPositioned (link : LinkInput) (marks : List Bool) (id : FileId) (file : InputFile) (i : ℕ) (section : InputSection) : Type 0 where
  pub there : file_in link.groups id ≡ Some file
  pub at : slice_get file.sections i ≡ Some section
  pub has : has_position (is_marked marks (input_number link.groups id i)) section ≡ true

three : (a b c : Bool) → (a && (b && not c)) ≡ true → (a ≡ true) × (b ≡ true)
three true true c h = (refl, refl)
three true false c h = absurd (cc)
three false b c h = absurd (cc)

pub marked_regular : (marks : List Bool) (k : ℕ) (section : InputSection) → has_position (is_marked marks k) section ≡ true → (is_marked marks k ≡ true) × (is_regular section.slot ≡ true)
marked_regular marks k section h = three (is_marked marks k) (is_regular section.slot) section.sorted h

-- so it has one
position_there : (filling : Filling) (id : FileId) (file : InputFile) (i : ℕ) (section : InputSection) → IsPositioned filling.content.link filling.content.live.marks id file i section
    → position_in filling.content.link.groups (section_positions filling) id i ≡ Some (section.part, live_address filling (no_starts filling.content.link) (record { file = id; index = i; section = section }))
position_there filling id file i section h =
    let link : LinkInput = filling.content.link in
    let inputs : List Input = all_inputs link.groups in
    let x : Input = record { file = id; index = i; section = section } in
    let k : ℕ = input_number link.groups id i in
    let number : 0 + k ≡ k = omega arith in
    let at_k : slice_get inputs k ≡ Some x = inputs_follow.at link.groups id file i section h.there h.at in
    let numbered : slice_get (enumerate_from 0 inputs) k ≡ Some (k, x) = numbered_get 0 inputs k x at_k ∙ ap (λ (n : ℕ). Some (n, x)) number in
    ap flat (map_in (section_position filling) (enumerate_from 0 inputs) k (k, x) numbered)
    ∙ ap (λ b. if b then Some (section.part, live_address filling (no_starts link) x) else None) h.has

-- every part starts at 0 there
starts_at_0 : (ps : List PlanPart) (p : ℕ) → slice_index (map (λ (q : PlanPart). 0) ps) p ≡ 0
starts_at_0 [] p = refl
starts_at_0 (q ∷ ps) zero = refl
starts_at_0 (q ∷ ps) (suc p) = starts_at_0 ps p

-- where an offset of it goes: as far behind the address that is told as the offset, less what is deleted before it
pub site_is : RelaxedIsShrunk → RefusedExactlyPast → PartsTakeTheirBytes → (machine : Machine) (link : LinkInput) (layout : LayoutRecord) (laid : IsLaidOut machine link layout)
    → (id : FileId) (file : InputFile) (i offset : ℕ) (section : InputSection) → IsPositioned link laid.live.marks id file i section → offset ≤ section.size
    → site (made_standing (made_by laid)) id i offset
    ≡ Some (slice_index (section_addresses (made_filling (made_by laid)) (starts_of laid.stage.records)) (input_number link.groups id i) + output_offset link.groups laid.stage.deletions id i offset)
site_is shrunk refused mass machine link layout laid id file i offset section h inside =
    let groups : List (List InputFile) = link.groups in
    let filling : Filling = made_filling (made_by laid) in
    let records : List Record = laid.stage.records in
    let starts : List ℕ = starts_of records in
    let deletions : Deletions = laid.stage.deletions in
    let x : Input = record { file = id; index = i; section = section } in
    let k : ℕ = input_number groups id i in
    let p : ℕ = section.part in
    let at_k : slice_get (all_inputs groups) k ≡ Some x = inputs_follow.at groups id file i section h.there h.at in
    let is = marked_regular laid.live.marks k section h.has in
    let among = marked_in laid.live.marks (all_inputs groups) k x at_k is.0 in
    let goes : p < length (all_parts link.plan.sections) = live_goes link laid.live among.0 x laid.good laid.are_live among.1 in
    let count : length starts ≡ length records = length-map records (λ (r : Record). r.mem_offset) in
    let end = ends_within filling starts among.0 x among.1 (owners_fit refused mass machine link layout laid) (omega (arith, goes, count, laid.stands.placed.each)) in
    let size : size_of filling x ≡ size_after groups deletions x
    = get_or_from_slice_get (sizes_after groups deletions) k (size_after groups deletions x) 0 (map_in (size_after groups deletions) (all_inputs groups) k x at_k) in
    let of : AreOf (ranges_of groups deletions id i) section.relax = (shrunk (relaxing_for machine link laid.live) laid.stage laid.good laid.relaxed).of k x at_k in
    let gone : RelaxCandidate → Bool = is_gone (ranges_of groups deletions id i) in
    let rising : RiseWithin 0 section.size (ranges_of groups deletions id i)
    = subst (RiseWithin 0 section.size) (sym of) (kept_rise gone 0 section.size section.relax (candidates_rise link id file i section laid.good h.there h.at is.1)) in
    let order = mapped_in_order (deleted_of groups deletions id i) section.size offset section.size rising inside in
    let told : slice_index (section_addresses filling starts) k ≡ live_address filling starts x = table_at filling starts k x at_k is.0 in
    let start : slice_index starts p ≡ (record_at records p).mem_offset = lists.get_or-map (λ (r : Record). r.mem_offset) records p nowhere in
    let none : slice_index (no_starts link) p ≡ 0 = starts_at_0 (all_parts link.plan.sections) p in
    let before : ℕ = bytes_of (part_at link.plan.sections p) (take (owner_number filling x) (owners_of filling p)) in
    let moved : ℕ = output_offset groups deletions id i offset in
    let from_0 : live_address filling (no_starts link) x ≡ slice_index (no_starts link) p + before = refl in
    let from_start : live_address filling starts x ≡ slice_index starts p + before = refl in
    let sum : (record_at records p).mem_offset + (live_address filling (no_starts link) x + moved) ≡ slice_index (section_addresses filling starts) k + moved
    = omega (arith, told, start, none, from_0, from_start) in
    ap (option_and_then (λ (q : ℕ × ℕ). address_in records q.0 (q.1 + moved))) (position_there filling id file i section (record { there = h.there; at = h.at; has = h.has }))
    ∙ ap as_address sum
    ∙ is_address (slice_index (section_addresses filling starts) k + moved) (omega (arith, told, end, size, order))
