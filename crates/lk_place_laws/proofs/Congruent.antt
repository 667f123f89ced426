-- Memory and the file stay in step along the parts of a section.
use Rattle.std.proofs.Common.{◌≡◌, ℕ, zero, suc, ◌+◌, ◌-◌, ◌%◌, ◌<◌, ◌≤◌, Bool, true, false, List, length, refl, sym, ap, subst, ◌∙◌, arith}
use Rattle.std.specs.Prelude.{if◌then◌else◌}
use Rattle.std.specs.Int.{◌∣◌, next_multiple_of}
use Rattle.std.proofs.Math.Nat.{mod-add-mod, mod-mod_of_dvd}
use Rattle.lk_link.specs.Alignments.{is_alignment, IsLeastMultiple}
use Rattle.lk_link.specs.PlanSections.{is_file_backed}
use Rattle.lk_link.proofs.Powers.{alignment-pos, alignment_divides}
use Rattle.lk_link.proofs.Starts.{next_multiple_is_least}
use Rattle.lk_place.specs.declared.cursors.Cursors.{Cursors}
use Rattle.lk_place.specs.declared.cursors.Offsets.{Offsets}
use Rattle.lk_place.specs.Alignments.{section_alignment}
use Rattle.lk_place.specs.Placement.{behind, first_walked, is_walked, section_start, walk_alignment}
use Rattle.lk_place.specs.CarriedOut.{IsPlacedAt, PlacesSection, reached}
use Rattle.lk_expressions.specs.Records.{Record, record_at}
use Rattle.lk_place.specs.Setting.{IsReady, Setting, part_count, part_number, size_at, takes_addresses}
use Rattle.lk_place.specs.ThreadLocal.{free_memory}
use Rattle.lk_place.proofs.Multiples.{least_one}
use Rattle.lk_place.proofs.Ranges.{passed}
use Rattle.lk_place.proofs.SectionEnds.{first_is_walked, first_walked_place}
use Rattle.lk_place.proofs.WalkedAlignments.{walk_aligned}

-- memory and the file have the same remainder: of a record's starts, and of the cursors
abbrev pub StartsAgree : ℕ → Record → Type 0
StartsAgree place r = r.mem_offset % place ≡ r.file_offset % place

abbrev pub OffsetsAgree : ℕ → Offsets → Type 0
OffsetsAgree place c = c.memory % place ≡ c.file % place

abbrev pub CursorsAgree : ℕ → Cursors → Type 0
CursorsAgree place c = c.memory % place ≡ c.file % place

-- and what is free of memory has the file's
abbrev pub FreeAgrees : ℕ → Cursors → Type 0
FreeAgrees place c = free_memory c % place ≡ c.file % place

-- ---- numbers

pub more_agrees : (place m f d : ℕ) → m % place ≡ f % place → (m + d) % place ≡ (f + d) % place
more_agrees place m f d h = sym (mod-add-mod m place d) ∙ ap (λ n. (n + d) % place) h ∙ mod-add-mod f place d

-- what is rounded up alike agrees still
rounded_agrees : (place a m f m' f' : ℕ) → 0 < a → a ∣ place → m % place ≡ f % place → IsLeastMultiple a m m' → IsLeastMultiple a f f' → m' % place ≡ f' % place
rounded_agrees place a m f m' f' positive divides h memory file =
    let rest : m % a ≡ f % a = sym (mod-mod_of_dvd a m divides) ∙ ap (λ n. n % a) h ∙ mod-mod_of_dvd a f divides in
    let up : m' ≡ m + (a - m % a) % a = least_one a m m' (next_multiple_of m a) memory (next_multiple_is_least a m positive) in
    let along : f' ≡ f + (a - f % a) % a = least_one a f f' (next_multiple_of f a) file (next_multiple_is_least a f positive) in
    let alike : f + (a - m % a) % a ≡ f + (a - f % a) % a = ap (λ r. f + (a - r) % a) rest in
    ap (λ n. n % place) up ∙ more_agrees place m f ((a - m % a) % a) h ∙ ap (λ n. n % place) (alike ∙ sym along)

-- ---- one part

-- a walked part with bytes in the file keeps them in agreement, where its alignment divides the place's
placed_agrees : (place a size : ℕ) (from : Offsets) (r : Record) → is_alignment a ≡ true → is_alignment place ≡ true → a ≤ place → OffsetsAgree place from
    → IsPlacedAt true a size from r → StartsAgree place r × OffsetsAgree place (behind r)
placed_agrees place a size from r aligned good le h is =
    let starts : StartsAgree place r = rounded_agrees place a from.memory from.file r.mem_offset r.file_offset (alignment-pos a aligned) (alignment_divides a place aligned good le) h is.at is.in_file in
    let same : r.mem_size ≡ r.file_size = is.takes ∙ sym is.takes_file in
    (starts, ap (λ n. (r.mem_offset + n) % place) same ∙ more_agrees place r.mem_offset r.file_offset r.file_size starts)

part_agrees : (place a size : ℕ) (walked : Bool) (from : Offsets) (r : Record) → is_alignment a ≡ true → is_alignment place ≡ true → a ≤ place → OffsetsAgree place from
    → (walked ≡ true → IsPlacedAt true a size from r) → OffsetsAgree place (passed walked r from)
part_agrees place a size true from r aligned good le h is = (placed_agrees place a size from r aligned good le h (is refl)).1
part_agrees place a size false from r aligned good le h is = h

-- ---- the parts of a section

-- a section inside a load segment that has memory and bytes in the file, from cursors that agree
pub record KeepsAgreement (setting : Setting) (place s : ℕ) (from : Cursors) : Type 0 where
  pub ready : IsReady setting
  pub good : is_alignment place ≡ true
  pub there : s < length setting.plan.sections
  pub within : section_alignment setting s ≤ place
  pub backed : is_file_backed setting.plan s ≡ true
  pub addressed : takes_addresses setting s ≡ true
  pub agrees : CursorsAgree place from

-- a walked part is placed with its bytes in the file
walked_at : (setting : Setting) (place s j : ℕ) (from to : Cursors) (records : List Record) → KeepsAgreement setting place s from → PlacesSection setting s from records to
    → j < part_count setting.plan.sections s → is_walked setting s (part_number setting.plan.sections s j) ≡ true
    → IsPlacedAt true (walk_alignment setting s (part_number setting.plan.sections s j)) (size_at setting.sizes (part_number setting.plan.sections s j))
    (reached setting s records (section_start setting s from) j) (record_at records (part_number setting.plan.sections s j))
walked_at setting place s j from to records k h below walked =
    let p : ℕ = part_number setting.plan.sections s j in
    subst (λ b. IsPlacedAt b (walk_alignment setting s p) (size_at setting.sizes p) (reached setting s records (section_start setting s from) j) (record_at records p)) k.backed (h.walked j below walked)

-- the cursors behind each part agree
reached_agrees : (setting : Setting) (place s j : ℕ) (from to : Cursors) (records : List Record) → KeepsAgreement setting place s from → PlacesSection setting s from records to
    → j ≤ part_count setting.plan.sections s → OffsetsAgree place (reached setting s records (section_start setting s from) j)
reached_agrees setting place s zero from to records k h le = ap (λ b. (if b then from.memory else 0) % place) k.addressed ∙ k.agrees
reached_agrees setting place s (suc j) from to records k h le =
    let p : ℕ = part_number setting.plan.sections s j in
    let aligned = walk_aligned setting s p k.ready in
    part_agrees place (walk_alignment setting s p) (size_at setting.sizes p) (is_walked setting s p) (reached setting s records (section_start setting s from) j) (record_at records p)
    aligned.0 k.good (omega (arith, aligned.1, k.within)) (reached_agrees setting place s j from to records k h (omega arith)) (walked_at setting place s j from to records k h (omega arith))

-- and so do those behind the section
pub section_leaves : (setting : Setting) (place s : ℕ) (from to : Cursors) (records : List Record) → KeepsAgreement setting place s from → PlacesSection setting s from records to → CursorsAgree place to
section_leaves setting place s from to records k h =
    let end : Offsets = reached setting s records (section_start setting s from) (part_count setting.plan.sections s) in
    let memory : to.memory ≡ end.memory = ap (λ (c : Cursors). c.memory) h.leaves ∙ ap (λ b. if b then end.memory else from.memory) k.addressed in
    let file : to.file ≡ end.file = ap (λ (c : Cursors). c.file) h.leaves in
    ap (λ n. n % place) memory ∙ reached_agrees setting place s (part_count setting.plan.sections s) from to records k h (omega arith) ∙ ap (λ n. n % place) (sym file)

-- a walked part's starts agree
walked_agrees : (setting : Setting) (place s j : ℕ) (from to : Cursors) (records : List Record) → KeepsAgreement setting place s from → PlacesSection setting s from records to
    → j < part_count setting.plan.sections s → is_walked setting s (part_number setting.plan.sections s j) ≡ true → StartsAgree place (record_at records (part_number setting.plan.sections s j))
walked_agrees setting place s j from to records k h below walked =
    let p : ℕ = part_number setting.plan.sections s j in
    let aligned = walk_aligned setting s p k.ready in
    (placed_agrees place (walk_alignment setting s p) (size_at setting.sizes p) (reached setting s records (section_start setting s from) j) (record_at records p)
    aligned.0 k.good (omega (arith, aligned.1, k.within)) (reached_agrees setting place s j from to records k h (omega arith)) (walked_at setting place s j from to records k h below walked)).0

-- and those of each part, as one that isn't walked rests where the first walked one starts
pub part_starts : (setting : Setting) (place s j : ℕ) (from to : Cursors) (records : List Record) → KeepsAgreement setting place s from → PlacesSection setting s from records to
    → j < part_count setting.plan.sections s → StartsAgree place (record_at records (part_number setting.plan.sections s j))
part_starts setting place s j from to records k h below =
    let p : ℕ = part_number setting.plan.sections s j in
    elim (is_walked setting s p) as (λ b. is_walked setting s p ≡ b → StartsAgree place (record_at records p)) [
      | true ↦ λ is. walked_agrees setting place s j from to records k h below is
      | false ↦ λ is.
          let first = first_walked_place setting s k.ready k.there in
          let walked = ap (is_walked setting s) (sym first.1.is) ∙ first_is_walked setting s in
          let begun : StartsAgree place (record_at records (part_number setting.plan.sections s first.0)) = walked_agrees setting place s first.0 from to records k h first.1.within walked in
          let starts : StartsAgree place (record_at records (first_walked setting s)) = subst (λ n. StartsAgree place (record_at records n)) (sym first.1.is) begun in
          let rests = h.resting j below is in
          ap (λ n. n % place) rests.at ∙ starts ∙ ap (λ n. n % place) (sym rests.in_file)
    ] refl

-- ---- sections without bytes in the file

-- a part without bytes in the file leaves its offset
unbacked_passed : (walked : Bool) (a size : ℕ) (from : Offsets) (r : Record) → (walked ≡ true → IsPlacedAt false a size from r) → (passed walked r from).file ≡ from.file
unbacked_passed true a size from r is = let placed = is refl in omega (arith, placed.in_file, placed.takes_file)
unbacked_passed false a size from r is = refl

unbacked_reached : (setting : Setting) (s j : ℕ) (from to : Cursors) (records : List Record) → is_file_backed setting.plan s ≡ false → PlacesSection setting s from records to
    → j ≤ part_count setting.plan.sections s → (reached setting s records (section_start setting s from) j).file ≡ from.file
unbacked_reached setting s zero from to records unbacked h le = refl
unbacked_reached setting s (suc j) from to records unbacked h le =
    let p : ℕ = part_number setting.plan.sections s j in
    let before : Offsets = reached setting s records (section_start setting s from) j in
    unbacked_passed (is_walked setting s p) (walk_alignment setting s p) (size_at setting.sizes p) before (record_at records p)
    (λ walked. subst (λ b. IsPlacedAt b (walk_alignment setting s p) (size_at setting.sizes p) before (record_at records p)) unbacked (h.walked j (omega arith) walked))
    ∙ unbacked_reached setting s j from to records unbacked h (omega arith)

-- so does a section
pub unbacked_leaves : (setting : Setting) (s : ℕ) (from to : Cursors) (records : List Record) → is_file_backed setting.plan s ≡ false → PlacesSection setting s from records to → to.file ≡ from.file
unbacked_leaves setting s from to records unbacked h =
    ap (λ (c : Cursors). c.file) h.leaves ∙ unbacked_reached setting s (part_count setting.plan.sections s) from to records unbacked h (omega arith)
