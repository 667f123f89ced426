-- The records that place a section are those that the walk computes.
use Rattle.std.proofs.Common.{◌≡◌, ℕ, zero, suc, ◌+◌, ◌-◌, ◌≤◌, ◌<◌, Bool, true, false, cond, List, length, Option, Some, None, refl, sym, ap, subst, ◌∙◌, arith, inl, inr}
use Rattle.std.specs.Prelude.{unwrap_or}
use Rattle.std.specs.Int.{next_multiple_of}
use Rattle.std.proofs.lemmas.Bool.{cases_Bool}
use Rattle.lk_link.specs.Parts.{first_part, part_at}
use Rattle.lk_link.specs.PlanSections.{is_file_backed}
use Rattle.lk_link.proofs.Powers.{alignment-pos}
use Rattle.lk_link.proofs.Starts.{next_multiple_is_least}
use Rattle.lk_place.specs.declared.cursors.Cursors.{Cursors}
use Rattle.lk_place.specs.declared.cursors.Offsets.{Offsets}
use Rattle.lk_place.specs.Placement.{behind, end_behind, first_record, first_walked, is_walked, left_at, loaded_by, placed_at, record_by, resting, section_start, walk_alignment, walked_from}
use Rattle.lk_place.specs.CarriedOut.{IsPlacedAt, IsRestingAt, PlacesSection, reached}
use Rattle.lk_expressions.specs.Records.{Record, record_at}
use Rattle.lk_place.specs.Setting.{IsReady, Setting, part_count, part_number, size_at}
use Rattle.lk_place.proofs.WalkedAlignments.{walk_aligned}
use Rattle.lk_place.proofs.Multiples.{least_one}
use Rattle.lk_place.proofs.SectionEnds.{IsFirstWalked, first_is_walked, first_walked_place, none_before}

-- ---- one part

-- a record, but for where it is loaded
abbrev pub unloaded : Record → Record
unloaded r = record r { lma_offset = r.mem_offset }

-- the computed record is placed there
placed_at_is : (backed : Bool) (a size : ℕ) (c : Offsets) → 0 < a → IsPlacedAt backed a size c (placed_at backed a size c)
unfolding placed_at
placed_at_is true a size c h = record { at = next_multiple_is_least a c.memory h; in_file = next_multiple_is_least a c.file h; takes = refl; takes_file = refl; aligned = refl }
placed_at_is false a size c h = record { at = next_multiple_is_least a c.memory h; in_file = refl; takes = refl; takes_file = refl; aligned = refl }

-- and so is one that is loaded elsewhere
placed_unloaded : (backed : Bool) (a size : ℕ) (c : Offsets) (r : Record) → IsPlacedAt backed a size c (unloaded r) → IsPlacedAt backed a size c r
placed_unloaded backed a size c r h = record { at = h.at; in_file = h.in_file; takes = h.takes; takes_file = h.takes_file; aligned = h.aligned }

-- and each record that is placed there is the computed one, but for where it is loaded
placed_at_one : (backed : Bool) (a size : ℕ) (c : Offsets) (r : Record) → 0 < a → IsPlacedAt backed a size c r → unloaded r ≡ placed_at backed a size c
unfolding placed_at
placed_at_one true a size c r h p =
    let mem : r.mem_offset ≡ next_multiple_of c.memory a = least_one a c.memory r.mem_offset (next_multiple_of c.memory a) p.at (next_multiple_is_least a c.memory h) in
    let file : r.file_offset ≡ next_multiple_of c.file a = least_one a c.file r.file_offset (next_multiple_of c.file a) p.in_file (next_multiple_is_least a c.file h) in
    λ i. record { file_size = p.takes_file i; mem_size = p.takes i; alignment = p.aligned i; file_offset = file i; mem_offset = mem i; lma_offset = mem i }
placed_at_one false a size c r h p =
    let mem : r.mem_offset ≡ next_multiple_of c.memory a = least_one a c.memory r.mem_offset (next_multiple_of c.memory a) p.at (next_multiple_is_least a c.memory h) in
    λ i. record { file_size = p.takes_file i; mem_size = p.takes i; alignment = p.aligned i; file_offset = p.in_file i; mem_offset = mem i; lma_offset = mem i }

-- a part that rests beside a record rests beside the computed one, but for where it is loaded
rests_one : (own : ℕ) (first r f : Record) → unloaded first ≡ f → IsRestingAt own first r → unloaded r ≡ resting f own
rests_one own first r f is h =
    let mem : r.mem_offset ≡ f.mem_offset = h.at ∙ ap (λ (x : Record). x.mem_offset) is in
    let file : r.file_offset ≡ f.file_offset = h.in_file ∙ ap (λ (x : Record). x.file_offset) is in
    λ i. record { file_size = h.takes_file i; mem_size = h.takes i; alignment = h.aligned i; file_offset = file i; mem_offset = mem i; lma_offset = mem i }

-- and the other way
rests_so : (own : ℕ) (first r f : Record) → unloaded first ≡ f → unloaded r ≡ resting f own → IsRestingAt own first r
rests_so own first r f is h = record {
  at = ap (λ (x : Record). x.mem_offset) h ∙ sym (ap (λ (x : Record). x.mem_offset) is);
  in_file = ap (λ (x : Record). x.file_offset) h ∙ sym (ap (λ (x : Record). x.file_offset) is);
  takes = ap (λ (x : Record). x.mem_size) h;
  takes_file = ap (λ (x : Record). x.file_size) h;
  aligned = ap (λ (x : Record). x.alignment) h;
}

walks_above : (setting : Setting) (s p : ℕ) → IsReady setting → 0 < walk_alignment setting s p
walks_above setting s p ready = alignment-pos (walk_alignment setting s p) (walk_aligned setting s p ready).0

-- ---- the parts of a section

-- the place of a part's number in its section
place_of : (first j : ℕ) → first + j - first ≡ j
place_of first j = omega arith

-- the record of a walked part, by its place
abbrev pub walked_record : Setting → ℕ → Offsets → ℕ → Record
walked_record setting s begin j = walked_from setting s (part_number setting.plan.sections s j) (end_behind setting s begin j)

pub by_walked : (setting : Setting) (s : ℕ) (begin : Offsets) (j : ℕ) → is_walked setting s (part_number setting.plan.sections s j) ≡ true
    → record_by setting s begin (part_number setting.plan.sections s j) ≡ walked_record setting s begin j
by_walked setting s begin j h =
    let p : ℕ = part_number setting.plan.sections s j in
    let rest : Record = resting (first_record setting s begin) (part_at setting.plan.sections p).alignment in
    let placed : ℕ → Record = λ n. placed_at (is_file_backed setting.plan s) (walk_alignment setting s p) (size_at setting.sizes p) (end_behind setting s begin n) in
    ap (λ (b : Bool). cond b (placed (p - first_part setting.plan.sections s)) rest) h ∙ ap placed (place_of (first_part setting.plan.sections s) j)

by_resting : (setting : Setting) (s : ℕ) (begin : Offsets) (p : ℕ) → is_walked setting s p ≡ false
    → record_by setting s begin p ≡ resting (first_record setting s begin) (part_at setting.plan.sections p).alignment
by_resting setting s begin p h =
    let rest : Record = resting (first_record setting s begin) (part_at setting.plan.sections p).alignment in
    ap (λ (b : Bool). cond b (placed_at (is_file_backed setting.plan s) (walk_alignment setting s p) (size_at setting.sizes p) (end_behind setting s begin (p - first_part setting.plan.sections s))) rest) h

-- the first walked part's record is the one that others rest beside
first_walked_record : (setting : Setting) (s i : ℕ) (begin : Offsets) → IsFirstWalked setting s i → walked_record setting s begin i ≡ first_record setting s begin
first_walked_record setting s i begin walked =
    let p : ℕ = part_number setting.plan.sections s i in
    ap (walked_from setting s p) (none_before setting s i begin i walked (omega arith))
    ∙ ap (λ (n : ℕ). walked_from setting s n begin) (sym walked.is)

pub place_walked : (setting : Setting) (s i : ℕ) → IsFirstWalked setting s i → is_walked setting s (part_number setting.plan.sections s i) ≡ true
place_walked setting s i walked = ap (is_walked setting s) (sym walked.is) ∙ first_is_walked setting s

-- these records are those that the walk computes for the parts of a section that begin here, but for where they are loaded
abbrev pub AreMade : Setting → ℕ → Offsets → List Record → Type 0
AreMade setting s begin records = (j : ℕ) → j < part_count setting.plan.sections s → unloaded (record_at records (part_number setting.plan.sections s j)) ≡ record_by setting s begin (part_number setting.plan.sections s j)

-- where the walked ones are, the cursors are those that it computes
reached_is : (setting : Setting) (s : ℕ) (begin : Offsets) (records : List Record) (j : ℕ)
    → ((i : ℕ) → i < j → is_walked setting s (part_number setting.plan.sections s i) ≡ true → unloaded (record_at records (part_number setting.plan.sections s i)) ≡ walked_record setting s begin i)
    → reached setting s records begin j ≡ end_behind setting s begin j
reached_is setting s begin records zero made = refl
reached_is setting s begin records (suc j) made =
    let p : ℕ = part_number setting.plan.sections s j in
    let before : Offsets = reached setting s records begin j in
    let computed : Offsets = end_behind setting s begin j in
    let next : Offsets = behind (walked_from setting s p computed) in
    let so_far : before ≡ computed = reached_is setting s begin records j (λ i less walked. made i (omega arith) walked) in
    elim (cases_Bool (is_walked setting s p)) [
      | inl walked ↦
          ap (λ (b : Bool). cond b (behind (record_at records p)) before) walked
          ∙ ap behind (made j (omega arith) walked)
          ∙ ap (λ (b : Bool). cond b next computed) (sym walked)
      | inr rests ↦
          ap (λ (b : Bool). cond b (behind (record_at records p)) before) rests
          ∙ so_far
          ∙ ap (λ (b : Bool). cond b next computed) (sym rests)
    ]

-- what the walk computes places the section
pub made_places : (setting : Setting) (s : ℕ) (from : Cursors) (records : List Record) (to : Cursors) → IsReady setting → s < length setting.plan.sections
    → AreMade setting s (section_start setting s from) records
    → to ≡ left_at setting s from (end_behind setting s (section_start setting s from) (part_count setting.plan.sections s))
    → PlacesSection setting s from records to
made_places setting s from records to ready below made left =
    let begin : Offsets = section_start setting s from in
    let count : ℕ = part_count setting.plan.sections s in
    let backed : Bool = is_file_backed setting.plan s in
    let number : ℕ → ℕ = part_number setting.plan.sections s in
    let first = first_walked_place setting s ready below in
    let walked_made : (i : ℕ) → i < count → is_walked setting s (number i) ≡ true → unloaded (record_at records (number i)) ≡ walked_record setting s begin i = λ i less walked. made i less ∙ by_walked setting s begin i walked in
    let same : (j : ℕ) → j ≤ count → reached setting s records begin j ≡ end_behind setting s begin j = λ j within. reached_is setting s begin records j (λ i less walked. walked_made i (omega arith) walked) in
    let first_is : unloaded (record_at records (first_walked setting s)) ≡ first_record setting s begin =
    ap (λ (p : ℕ). unloaded (record_at records p)) first.1.is ∙ walked_made first.0 first.1.within (place_walked setting s first.0 first.1) ∙ first_walked_record setting s first.0 begin first.1 in
    record {
      walked = λ j less walked.
          placed_unloaded backed (walk_alignment setting s (number j)) (size_at setting.sizes (number j)) (reached setting s records begin j) (record_at records (number j))
          (subst (λ (r : Record). IsPlacedAt backed (walk_alignment setting s (number j)) (size_at setting.sizes (number j)) (reached setting s records begin j) r) (sym (walked_made j less walked))
          (subst (λ (c : Offsets). IsPlacedAt backed (walk_alignment setting s (number j)) (size_at setting.sizes (number j)) c (walked_record setting s begin j)) (sym (same j (omega arith)))
          (placed_at_is backed (walk_alignment setting s (number j)) (size_at setting.sizes (number j)) (end_behind setting s begin j) (walks_above setting s (number j) ready))));
      resting = λ j less rests.
          rests_so (part_at setting.plan.sections (number j)).alignment (record_at records (first_walked setting s)) (record_at records (number j)) (first_record setting s begin) first_is
          (made j less ∙ by_resting setting s begin (number j) rests);
      leaves = left ∙ ap (left_at setting s from) (sym (same count (omega arith)));
    }

-- ---- and the other way

-- the walked ones among the first parts are those that it computes
walked_are : (setting : Setting) (s : ℕ) (from to : Cursors) (records : List Record) → IsReady setting → PlacesSection setting s from records to
    → (n : ℕ) → n ≤ part_count setting.plan.sections s
    → (j : ℕ) → j < n → is_walked setting s (part_number setting.plan.sections s j) ≡ true → unloaded (record_at records (part_number setting.plan.sections s j)) ≡ walked_record setting s (section_start setting s from) j
walked_are setting s from to records ready places zero within j less walked = absurd (omega arith)
walked_are setting s from to records ready places (suc n) within j less walked =
    let begin : Offsets = section_start setting s from in
    let p : ℕ = part_number setting.plan.sections s j in
    let backed : Bool = is_file_backed setting.plan s in
    let same : reached setting s records begin j ≡ end_behind setting s begin j =
    reached_is setting s begin records j (λ i early w. walked_are setting s from to records ready places n (omega arith) i (omega arith) w) in
    placed_at_one backed (walk_alignment setting s p) (size_at setting.sizes p) (reached setting s records begin j) (record_at records p) (walks_above setting s p ready) (places.walked j (omega arith) walked)
    ∙ ap (placed_at backed (walk_alignment setting s p) (size_at setting.sizes p)) same

-- what places a section is what the walk computes
pub record MakesSection (setting : Setting) (s : ℕ) (from : Cursors) (records : List Record) (to : Cursors) : Type 0 where
  pub made : AreMade setting s (section_start setting s from) records
  pub leaves : to ≡ left_at setting s from (end_behind setting s (section_start setting s from) (part_count setting.plan.sections s))

pub places_makes : (setting : Setting) (s : ℕ) (from : Cursors) (records : List Record) (to : Cursors) → IsReady setting → s < length setting.plan.sections
    → PlacesSection setting s from records to → MakesSection setting s from records to
places_makes setting s from records to ready below places =
    let begin : Offsets = section_start setting s from in
    let count : ℕ = part_count setting.plan.sections s in
    let number : ℕ → ℕ = part_number setting.plan.sections s in
    let first = first_walked_place setting s ready below in
    let walked_made : (j : ℕ) → j < count → is_walked setting s (number j) ≡ true → unloaded (record_at records (number j)) ≡ walked_record setting s begin j = walked_are setting s from to records ready places count (omega arith) in
    let first_is : unloaded (record_at records (first_walked setting s)) ≡ first_record setting s begin =
    ap (λ (p : ℕ). unloaded (record_at records p)) first.1.is ∙ walked_made first.0 first.1.within (place_walked setting s first.0 first.1) ∙ first_walked_record setting s first.0 begin first.1 in
    record {
      made = λ j less.
          elim (cases_Bool (is_walked setting s (number j))) [
            | inl walked ↦ walked_made j less walked ∙ sym (by_walked setting s begin j walked)
            | inr rests ↦
                rests_one (part_at setting.plan.sections (number j)).alignment (record_at records (first_walked setting s)) (record_at records (number j)) (first_record setting s begin) first_is (places.resting j less rests)
                ∙ sym (by_resting setting s begin (number j) rests)
          ];
      leaves = places.leaves ∙ ap (left_at setting s from) (reached_is setting s begin records count walked_made);
    }

-- ---- where it is loaded

-- a computed record is loaded from where it stands
pub loaded_there : (setting : Setting) (s : ℕ) (begin : Offsets) (p : ℕ) → unloaded (record_by setting s begin p) ≡ record_by setting s begin p
unfolding placed_at
loaded_there setting s begin p =
    let placed : Record = placed_at (is_file_backed setting.plan s) (walk_alignment setting s p) (size_at setting.sizes p) (end_behind setting s begin (p - first_part setting.plan.sections s)) in
    let rest : Record = resting (first_record setting s begin) (part_at setting.plan.sections p).alignment in
    elim (is_walked setting s p) as (λ b. unloaded (cond b placed rest) ≡ cond b placed rest) [ true ↦ refl | false ↦ refl ]

-- a record that is loaded from an address is the one without, loaded from it
pub loaded_is : (load : Option ℕ) (r x : Record) → unloaded r ≡ x → r.lma_offset ≡ unwrap_or load r.mem_offset → r ≡ loaded_by load x
loaded_is None r x is at =
    let same : r ≡ unloaded r = λ i. record r { lma_offset = at i } in
    same ∙ is
loaded_is (Some address) r x is at =
    let same : r ≡ record r { lma_offset = address } = λ i. record r { lma_offset = at i } in
    same ∙ ap (loaded_by (Some address)) is

-- and the other way
pub unloaded_is : (load : Option ℕ) (r x : Record) → unloaded x ≡ x → r ≡ loaded_by load x → unloaded r ≡ x
unloaded_is None r x there is = ap unloaded is ∙ there
unloaded_is (Some address) r x there is = ap unloaded is ∙ there

pub loads_at : (load : Option ℕ) (r x : Record) → unloaded x ≡ x → r ≡ loaded_by load x → r.lma_offset ≡ unwrap_or load r.mem_offset
loads_at None r x there is = ap (λ (q : Record). q.lma_offset) is ∙ sym (ap (λ (q : Record). q.lma_offset) there) ∙ sym (ap (λ (q : Record). q.mem_offset) is)
loads_at (Some address) r x there is = ap (λ (q : Record). q.lma_offset) is
