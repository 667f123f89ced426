-- Where references are met, a symbol that has a resolution, and stands for a place in a section, stands in a live one.
use Rattle.std.proofs.Common.{◌≡◌, ℕ, zero, suc, ◌+◌, ◌/◌, ◌%◌, ◌<◌, ◌≤◌, Bool, true, false, ◌&&◌, if◌then◌else◌, List, [], ◌∷◌, length, Option, Some, min, sym, ap, ◌∙◌, inl, inr, arith}
use Rattle.std.specs.Prelude.{◌==◌, bit_and, not, option_map, refl}
use Rattle.std.specs.Int.{bit_at}
use Rattle.std.specs.List.{enumerate_from, slice_get}
use Rattle.std.specs.Option.{option_to_list}
use Rattle.std.proofs.lemmas.Bool.{and_parts, cases_eq, cases_lt, false_from_ne_true}
use Rattle.std.proofs.lemmas.List.Sums.{sum_by_more}
use Rattle.std.proofs.lemmas.Nat.Bits.{bit_at-lt, bit_at-suc, bit_at_and, bit_at_lowest, bit_at_mask_above, bit_at_mask_below}
use Rattle.std.proofs.lemmas.Option.{get_or_from_slice_get, slice_get-get_or, slice_get_within}
use Rattle.lk_link.specs.declared.file.InputFile.{InputFile}
use Rattle.lk_link.specs.declared.flags.ValueFlags.{ValueFlags}
use Rattle.lk_link.specs.declared.ids.FileId.{FileId}
use Rattle.lk_link.specs.declared.link.LinkInput.{LinkInput}
use Rattle.lk_link.specs.declared.section.InputSection.{InputSection}
use Rattle.lk_link.specs.declared.section.InputSlot.{InputSlot}
use Rattle.lk_link.specs.declared.section.InputSlot.TheVariants as slot
use Rattle.lk_link.specs.declared.symbol.InputSymbol.{InputSymbol}
use Rattle.lk_link.specs.Files.{file_in}
use Rattle.lk_link.specs.FileKinds.{is_object}
use Rattle.lk_link.specs.Flags.{has_resolution, resolution}
use Rattle.lk_link.specs.Inputs.{Input, NumberedFile, all_inputs, input_number, numbered_files}
use Rattle.lk_link.specs.InputSlots.{can_be_kept, is_discarded, is_merge, is_regular}
use Rattle.lk_link.specs.Marks.{is_marked}
use Rattle.lk_link.specs.Symbols.{IsSymbolIn, all_files, all_symbols, file_number, first_symbol, symbol_at, symbols_in}
use Rattle.lk_link.specs.WellFormed.{IsWellFormed}
use Rattle.lk_link.proofs.Elements.{append_left, contains_at, flat_map_in}
use Rattle.lk_link.proofs.InputLemmas.{file_stands, inputs_follow, numbered_get}
use Rattle.lk_link.proofs.SymbolLemmas.{files_have_numbers, symbols_follow}
use Rattle.lk_live.specs.declared.error.ReferenceFault.{ReferenceFault}
use Rattle.lk_live.specs.declared.error.ReferenceFault.TheVariants.{Discarded}
use Rattle.lk_reach.specs.declared.units.Ask.{Ask}
use Rattle.lk_reach.specs.declared.units.Ask.TheVariants.{Section}
use Rattle.lk_reach.specs.declared.units.Unit.TheVariants.{Sym, Sec}
use Rattle.lk_live.specs.Faults.{dynamic_faults, file_faults, held_faults, marked_faults, reference_faults, relocation_faults, section_faults}
use Rattle.lk_reach.specs.Marks.{reached_marks, unit_number}
use Rattle.lk_live.specs.Reach.{IsLive}
use Rattle.lk_reach.specs.Reach.{IsReached}
use Rattle.lk_reach.specs.Units.{flags_from, follows, section_of}
use Rattle.lk_reach.proofs.PlainAsks.{resolved_is_reached}
use Rattle.lk_reach.proofs.ReachLemmas.{marks_are_reached, reach_more}
use Rattle.lk_reach.proofs.SymbolNumbers.{object_follows}
use Rattle.lk_reach.proofs.UnitLemmas.{section_unit}
use Rattle.lk_link.specs.Symbols.{can_resolve, is_canonical}
use Rattle.lk_tables.specs.Late.{flags_at}
use Rattle.lk_soundness.specs.Laws.{ResolvedSectionsAreLive}

-- ---- bits

-- a number that isn't 0 has a bit
some_bit : (fuel n : ℕ) → n ≤ fuel → 0 < n → (i : ℕ) × (bit_at n i ≡ 1)
some_bit zero n few some = absurd (omega arith)
some_bit (suc fuel) n few some =
    elim (cases_eq (n % 2) 1) [
      | inl odd ↦ (0, bit_at_lowest n ∙ odd)
      | inr even ↦
          let r = some_bit fuel (n / 2) (omega arith) (omega (arith, even)) in
          (suc r.0, bit_at-suc n r.0 ∙ r.1)
    ]

-- a bit among those for which a symbol gets a resolution
record HasAskedBit (flags : ℕ) : Type 0 where
  place : ℕ
  set : bit_at flags place ≡ 1
  from : 6 ≤ place
  below : place < 14

asked_bit : (flags : ℕ) → not (bit_and flags resolution == 0) ≡ true → HasAskedBit flags
asked_bit flags h =
    let some : 0 < bit_and flags resolution = elim (cases_eq (bit_and flags resolution) 0) [
      | inl none ↦ absurd (let none_set : not (bit_and flags resolution == 0) ≡ false = ap (λ n. not (n == 0)) none in cc)
      | inr other ↦ omega (arith, other)
    ] in
    let found = some_bit (bit_and flags resolution) (bit_and flags resolution) (omega arith) some in
    let both : min (bit_at flags found.0) (bit_at resolution found.0) ≡ 1 = sym (bit_at_and flags resolution found.0) ∙ found.1 in
    let asked : bit_at resolution found.0 ≡ 1 = omega (arith, both, bit_at-lt flags found.0, bit_at-lt resolution found.0) in
    record {
      place = found.0;
      set = omega (arith, both, bit_at-lt flags found.0, bit_at-lt resolution found.0);
      from = elim (cases_lt found.0 6) [
        | inl low ↦ absurd (omega (arith, asked, bit_at_mask_below 6 14 found.0 low))
        | inr high ↦ high
      ];
      below = elim (cases_lt found.0 14) [
        | inl low ↦ low
        | inr high ↦ absurd (omega (arith, asked, bit_at_mask_above 6 14 found.0 high))
      ];
    }

-- ---- a section of a symbol that has a resolution is reached

pub in_file : (groups : List (List InputFile)) (id : FileId) (file : InputFile) (k : ℕ) → file_in groups id ≡ Some file → k < length file.symbols → IsSymbolIn groups id (first_symbol groups id + k)
in_file groups id file k h lt =
    let n = file_number groups id in
    let at_n = files_have_numbers groups id file h in
    let within = slice_get_within (all_files groups) n file at_n in
    let more = sum_by_more symbols_in (all_files groups) n file within in
    let same = ap symbols_in (get_or_from_slice_get (all_files groups) n file file at_n) in
    record { file = file; there = h; symbol = record { there = within; from = omega arith; below = omega (arith, lt, more, same) } }

section_reached : (link : LinkInput) (id : FileId) (file : InputFile) (i k : ℕ) (x : InputSymbol) → file_in link.groups id ≡ Some file → slice_get file.symbols k ≡ Some x → is_object file.kind ≡ true
    → section_of x.at ≡ Some i → IsReached link (Sym (first_symbol link.groups id + k)) → IsReached link (Sec id i)
section_reached link id file i k x there at_k object placed reached =
    let s : ℕ = first_symbol link.groups id + k in
    let lt = slice_get_within file.symbols k x at_k in
    let at_s : symbol_at link.groups s ≡ Some x = symbols_follow link.groups id file k there lt ∙ at_k in
    let asks : follows link (Sym s) ≡ Section id i ∷ []
    = object_follows link id s file x (in_file link.groups id file k there lt) there at_s object ∙ ap (λ o. option_to_list (option_map (Section id) o)) placed in
    reach_more link (Sym s) (Sec id i) reached
    (record { ask = Section id i; among = contains_at (follows link (Sym s)) 0 (Section id i) (ap (λ (xs : List Ask). slice_get xs 0) asks); target = refl })

-- ---- which isn't left out

discarded_fault : (link : LinkInput) (id : FileId) (file : InputFile) (i : ℕ) (section : InputSection) → IsWellFormed link → file_in link.groups id ≡ Some file → slice_get file.sections i ≡ Some section
    → IsReached link (Sec id i) → is_discarded section.slot ≡ true → (n : ℕ) × (slice_get (reference_faults link) n ≡ Some (Discarded id i))
discarded_fault link id file i section wf there at_i reached discarded =
    let marks : List Bool = reached_marks link in
    let f : NumberedFile = record { id = id; file = file } in
    let q : ℕ × InputSection = (i, section) in
    let mark : is_marked marks (unit_number link.groups (Sec id i)) ≡ true = (marks_are_reached link (Sec id i) wf (section_unit link.groups id file i section there at_i)).1 reached in
    let rest : List ReferenceFault = if is_regular section.slot && link.options.error_objects then relocation_faults link.groups f i section.relocs else [] in
    let here : slice_get (marked_faults link marks f q) 0 ≡ Some (Discarded id i)
    = ap (λ b. slice_get (if b then section_faults link f q else []) 0) mark ∙ ap (λ b. slice_get (if b then Discarded id i ∷ [] else rest) 0) discarded in
    let shown : ℕ → Option (ℕ × InputSection) = λ n. Some (n, section) in
    let zero_more : 0 + i ≡ i = omega arith in
    let numbered : slice_get (enumerate_from 0 file.sections) i ≡ Some q = numbered_get 0 file.sections i section at_i ∙ ap shown zero_more in
    let of_file = flat_map_in (marked_faults link marks f) (enumerate_from 0 file.sections) i 0 q (Discarded id i) numbered here in
    let of_whole = append_left (held_faults link marks f) (dynamic_faults link f) of_file.0 (Discarded id i) of_file.1 in
    flat_map_in (file_faults link marks) (numbered_files link.groups) (file_number link.groups id) of_file.0 f (Discarded id i) (file_stands link.groups id file there) of_whole

no_faults : (faults : List ReferenceFault) (n : ℕ) (fault : ReferenceFault) → faults ≡ [] → slice_get faults n ≡ Some fault → ⊥
no_faults [] n fault is h = absurd (cc)
no_faults (x ∷ faults) n fault is h = absurd (cc)

can_keep : (s : InputSlot) → is_discarded s ≡ false → is_merge s ≡ false → can_be_kept s ≡ true
can_keep slot.Discard h g = absurd (cc)
can_keep slot.Unloaded h g = refl
can_keep slot.MustLoad h g = refl
can_keep slot.DebugInfo h g = refl
can_keep slot.MustLoadDebugInfo h g = refl
can_keep slot.Merge h g = absurd (cc)

pub resolved_sections_are_live : ResolvedSectionsAreLive
resolved_sections_are_live link live wf are met id file i section there r at_i unmerged =
    let s : ℕ = first_symbol link.groups id + r.index in
    let f : ValueFlags = flags_at live.flags s in
    let lt = slice_get_within file.symbols r.index r.symbol r.there in
    let at_s : symbol_at link.groups s ≡ Some r.symbol = symbols_follow link.groups id file r.index there lt ∙ r.there in
    let few : s < length live.flags = omega (arith, are.symbols, slice_get_within (all_symbols link.groups) s r.symbol at_s) in
    let asked = and_parts (is_canonical s r.symbol && has_resolution f.0) (can_resolve file.kind r.symbol) r.resolved in
    let bit = asked_bit f.0 (and_parts (is_canonical s r.symbol) (has_resolution f.0) asked.0).1 in
    let flag_is = (are.flags s f (slice_get-get_or live.flags s (flags_from 0) few) bit.place).0 bit.set in
    let reached = section_reached link id file i r.index r.symbol there r.there r.object r.at (resolved_is_reached link s bit.place wf bit.from bit.below flag_is) in
    let kept = false_from_ne_true (is_discarded section.slot) (λ discarded.
    let fault = discarded_fault link id file i section wf there at_i reached discarded in
    no_faults (reference_faults link) fault.0 (Discarded id i) met fault.1) in
    let x : Input = record { file = id; index = i; section = section } in
    let at_x : slice_get (all_inputs link.groups) (input_number link.groups id i) ≡ Some x = inputs_follow.at link.groups id file i section there at_i in
    let lives : IsLive link x = record { reached = reached; slot = can_keep section.slot kept unmerged } in
    (are.marks (input_number link.groups id i) x at_x).1 lives
