use Rattle.std.proofs.Common.{◌≡◌, ◌≤◌, ◌<◌, ◌^◌, ℕ, All, List, Some, length, min, refl, ap, sym, subst, ◌∙◌}
use Rattle.std.specs.Prelude.{unwrap_or}
use Rattle.std.specs.List.{slice_get, slice_index}
use Rattle.std.specs.Option.{option_map_or}
use Rattle.std.proofs.lemmas.Option.{get_or_from_slice_get, slice_get_within}
use Rattle.lk_link.specs.declared.link.LinkInput.{LinkInput}
use Rattle.lk_link.specs.Parts.{all_parts}
use Rattle.lk_link.specs.WellFormed.{IsWellFormed}
use Rattle.lk_live.specs.declared.live.Live.{Live}
use Rattle.lk_sizes.specs.declared.owners.PartContents.{PartContents}
use Rattle.lk_sizes.specs.declared.owners.PartTotal.{PartTotal}
use Rattle.lk_sizes.specs.declared.sorted.InputSortedSection.{InputSortedSection}
use Rattle.lk_tables.specs.DynamicCounters.{AreNumbersAt}
use Rattle.lk_sizes.specs.Emitted.{told_marks}
use Rattle.lk_sizes.specs.Harvest.{sorted_sections}
use Rattle.lk_sizes.specs.Owners.{Filling, in_output, own_sizes, size_in}
use Rattle.lk_sizes.specs.OwnersRecord.{OwnersRecord}
use Rattle.lk_sizes.specs.Resized.{Fall, less_bytes, resized_sections}
use Rattle.lk_sizes.specs.Sizing.{AreFilled}
use Rattle.lk_sizes.specs.Tables.{live_size}
use Rattle.lk_sizes.proofs.FilledOwners.{handed}
use Rattle.lk_sizes.proofs.Resizing.{AreBrought, IsResizing, less_are, resizing_falls, sorted_fit_still, sorted_resized}
use Rattle.lk_sizes.proofs.SortedPlaces.{sorted_there}
use Rattle.lk_sizes.proofs.part_owners.resize.Goals as goal

-- what is read of the contents fits
read_fits : (contents seen : List PartContents) → seen ≡ contents → All (λ (c : PartContents). c.bytes < 2 ^ 64) seen → (p : ℕ) (c : PartContents) → slice_get contents p ≡ Some c → c.bytes < 2 ^ 64
read_fits contents seen same fit p c there =
    let at : slice_get seen p ≡ Some c = ap (λ (cs : List PartContents). slice_get cs p) same ∙ there in
    subst (λ (d : PartContents). d.bytes < 2 ^ 64) (get_or_from_slice_get seen p c c at) (fit p c (slice_get_within seen p c at))

-- what is brought by the sizes that are handed on
brought : (link : LinkInput) (live : Live) (given sizes : List ℕ) (totals seen : List PartTotal) → given ≡ sizes → seen ≡ totals → length totals ≡ length (all_parts link.plan.sections)
    → ((p : ℕ) (total : PartTotal) → slice_get totals p ≡ Some total → min total.bytes (2 ^ 64) ≡ min (live_size (size_in link given) link live p) (2 ^ 64)) → AreBrought link live sizes seen
brought link live given sizes totals seen same is count bytes =
    subst (AreBrought link live sizes) (sym is) (subst (λ (ns : List ℕ). AreBrought link live ns totals) same (record { count = count; bytes = bytes }))

-- ---- the steps

module _ (link : LinkInput) (live : Live) (owners : OwnersRecord) (new : List ℕ) (good : IsWellFormed link) (found : Filling) (h : AreFilled (in_output link live found) owners)
    (lesser : (k : ℕ) → slice_index new k ≤ slice_index (unwrap_or owners.sizes (own_sizes link)) k) where
  resizing : (seen : List PartContents) (before after : List PartTotal) → seen ≡ owners.contents → All (λ (c : PartContents). c.bytes < 2 ^ 64) seen
      → AreBrought link live (unwrap_or owners.sizes (own_sizes link)) before → AreBrought link live new after → IsResizing (in_output link live found) new owners.contents before after
  resizing seen before after same fit old now = record {
    good = good;
    are = h.contents;
    small = read_fits owners.contents seen same fit;
    old = subst (λ (ns : List ℕ). AreBrought link live ns before) h.sizes old;
    new = now;
    lesser = λ k. subst (λ (ns : List ℕ). slice_index new k ≤ slice_index ns k) h.sizes (lesser k);
  }

pub less_bytes-requires : goal.less_bytes-requires
less_bytes-requires c =
    let link = c.args.link.now in
    let live = c.args.live.now in
    let owners = c.args.owners.now in
    let new : List ℕ = c.args.sizes.now in
    let before : List PartTotal = c.deref.result.now in
    let after : List PartTotal = c.deref-2.result.now in
    let own : List ℕ = unwrap_or owners.sizes (own_sizes link) in
    let found = c.requires.filled.0 in
    let same = handed c.sizes.result owners.sizes (own_sizes link) c.sizes.ensures in
    let old : AreBrought link live own before = brought link live (option_map_or (λ s. s.now) c.sizes.result (own_sizes link)) own c.in_ok-before.before.items before same c.deref.ensures.value c.in_ok-before.ensures.count c.in_ok-before.ensures.bytes in
    let now : AreBrought link live new after = brought link live new new c.in_ok-after.after.items after refl c.deref-2.ensures.value c.in_ok-after.ensures.count c.in_ok-after.ensures.bytes in
    let by = resizing link live owners new c.requires.good found c.requires.filled.1 c.requires.lesser c.contents.result.now before after c.contents.ensures c.contents_fit.ensures old now in
    subst (λ (cs : List PartContents). Fall cs before after) (sym c.contents-2.ensures) (resizing_falls (in_output link live found) new owners.contents before after by)

-- the sorted sections that are lent
lent : (link : LinkInput) (live : Live) (owners : OwnersRecord) (found : Filling) (ss : List InputSortedSection) (k : ℕ) (s : InputSortedSection) → AreFilled (in_output link live found) owners → ss ≡ owners.sorted
    → slice_get ss k ≡ Some s → slice_get (sorted_sections link live found.sizes) k ≡ Some s
lent link live owners found ss k s h is there = ap (λ (ts : List InputSortedSection). slice_get ts k) (sym (is ∙ h.sorted)) ∙ there

pub resize_sections-requires-clause-there : goal.resize_sections-requires-clause-there
resize_sections-requires-clause-there c = λ k s there.
    let link = c.args.link.now in
    let live = c.args.live.now in
    let found = c.requires.filled.0 in
    sorted_there link live found.sizes (length (all_parts link.plan.sections)) c.requires.good c.requires.live refl k s (lent link live c.args.owners.now found c.sorted.result.now k s c.requires.filled.1 c.sorted.ensures there)

pub resize_sections-requires-clause-fit : goal.resize_sections-requires-clause-fit
resize_sections-requires-clause-fit c = λ k s there.
    let link = c.args.link.now in
    let live = c.args.live.now in
    let owners = c.args.owners.now in
    let new : List ℕ = c.args.sizes.now in
    let before : List PartTotal = c.deref.result.now in
    let after : List PartTotal = c.deref-2.result.now in
    let own : List ℕ = unwrap_or owners.sizes (own_sizes link) in
    let found = c.requires.filled.0 in
    let same = handed c.sizes.result owners.sizes (own_sizes link) c.sizes.ensures in
    let old : AreBrought link live own before = brought link live (option_map_or (λ s. s.now) c.sizes.result (own_sizes link)) own c.in_ok-before.before.items before same c.deref.ensures.value c.in_ok-before.ensures.count c.in_ok-before.ensures.bytes in
    let now : AreBrought link live new after = brought link live new new c.in_ok-after.after.items after refl c.deref-2.ensures.value c.in_ok-after.ensures.count c.in_ok-after.ensures.bytes in
    let by = resizing link live owners new c.requires.good found c.requires.filled.1 c.requires.lesser c.contents.result.now before after c.contents.ensures c.contents_fit.ensures old now in
    sorted_fit_still (in_output link live found) new owners.contents before after k s c.requires.live by (lent link live owners found c.sorted.result.now k s c.requires.filled.1 c.sorted.ensures there)

pub returns : goal.returns
returns c = λ found h.
    let link = c.args.link.now in
    let live = c.args.live.now in
    let owners = c.args.owners.now in
    let new : List ℕ = c.args.sizes.now in
    let before : List PartTotal = c.deref.result.now in
    let after : List PartTotal = c.deref-2.result.now in
    let own : List ℕ = unwrap_or owners.sizes (own_sizes link) in
    let same = handed c.sizes.result owners.sizes (own_sizes link) c.sizes.ensures in
    let old : AreBrought link live own before = brought link live (option_map_or (λ s. s.now) c.sizes.result (own_sizes link)) own c.in_ok-before.before.items before same c.deref.ensures.value c.in_ok-before.ensures.count c.in_ok-before.ensures.bytes in
    let now : AreBrought link live new after = brought link live new new c.in_ok-after.after.items after refl c.deref-2.ensures.value c.in_ok-after.ensures.count c.in_ok-after.ensures.bytes in
    let by = resizing link live owners new c.requires.good found h c.requires.lesser c.contents.result.now before after c.contents.ensures c.contents_fit.ensures old now in
    record {
      contents = c.in_ok-contents.ensures ∙ ap (less_bytes before after) c.contents-2.ensures ∙ less_are (in_output link live found) new owners.contents before after by;
      sorted = c.in_ok-sorted.ensures ∙ ap (resized_sections link new) (c.sorted.ensures ∙ h.sorted) ∙ sorted_resized link live found.sizes new;
      sizes = c.from_vec-sizes.ensures ∙ c.in_ok-from_slice.ensures.items;
    }
