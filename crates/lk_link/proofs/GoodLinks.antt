-- A well-formed link: lemmas for the laws on its options, its plan, and how much it has.
use Rattle.std.specs.Prelude.{◌≡◌, ◌≢◌, ℕ, ◌+◌, ◌<◌, ◌≤◌, ◌==◌, ◌&&◌, ◌⊎◌, true, false, List, Option, Some, None, is_none, length, nat_le, nat_lt, slice_get, refl}
use Rattle.std.specs.List.{list_all}
use Rattle.std.specs.Option.{option_map_or}
use Rattle.std.proofs.Common.{inl, inr, ⊎_elim, ap, sym, ◌∙◌}
use Rattle.std.proofs.lemmas.Bool.{and_parts, eqb-true, leb-true, ltb-true, or_cases}
use Rattle.std.proofs.lemmas.List.Folds.{length-flat_map-take}
use Rattle.std.proofs.lemmas.Option.{slice_get_within, get_or_from_slice_get}
use Rattle.lk_link.specs.declared.alignment.TheConstants.{GREATEST_ALIGNMENT}
use Rattle.lk_link.specs.declared.fault.Limited.TheVariants as limited
use Rattle.lk_link.specs.declared.file.InputFile.{InputFile}
use Rattle.lk_link.specs.declared.symbol.InputSymbol.{InputSymbol}
use Rattle.lk_link.specs.declared.limits.TheConstants.{ATTRIBUTE_SETS, MOST_NEAR_BRANCH, MOST_BUCKET, MOST_MERGE_GROUP}
use Rattle.lk_link.specs.declared.link.LinkInput.{LinkInput}
use Rattle.lk_link.specs.declared.options.Options.{Options}
use Rattle.lk_link.specs.declared.plan.OrderEvent.{OrderEvent}
use Rattle.lk_link.specs.declared.plan.OrderEvent.TheVariants.{SegmentStart, SegmentEnd, Section}
use Rattle.lk_link.specs.declared.plan.PlanPart.{PlanPart}
use Rattle.lk_link.specs.declared.plan.PlanSection.{PlanSection}
use Rattle.lk_link.specs.Alignments.{is_alignment}
use Rattle.lk_link.specs.Limits.{counted, limit_of, AreFew}
use Rattle.lk_link.specs.OutputKinds.{is_partial}
use Rattle.lk_link.specs.Parts.{all_parts, first_part}
use Rattle.lk_link.proofs.Places.{value_of, all_at, all_from, all_joined}
use Rattle.lk_link.proofs.Powers.{alignment-pos, alignment-le}
use Rattle.lk_link.specs.Rules.{is_branch_range, has_entry, is_good_options, falls, is_primary, has_primary, is_good_section, has_good_singletons, AreGoodOptions, IsPrimary, IsGoodSection}
use Rattle.lk_link.specs.Symbols.{symbol_at}
use Rattle.lk_link.specs.WellFormed.{IsInRange, IsAboutPlace, IsWellFormed}

-- ---- options

branch : (n : ℕ) → is_branch_range n ≡ true → (n ≡ 0) ⊎ (MOST_NEAR_BRANCH < n)
branch n h = ⊎_elim (λ none. inl (eqb-true n 0 none)) (λ far. inr (ltb-true MOST_NEAR_BRANCH n far)) (or_cases (n == 0) (nat_lt MOST_NEAR_BRANCH n) h)

entry_there : (groups : List (List InputFile)) (entry : Option ℕ) (s : ℕ) → has_entry groups entry ≡ true → entry ≡ Some s → (x : InputSymbol) × (symbol_at groups s ≡ Some x)
entry_there groups entry s h e = value_of (symbol_at groups s) (ap (has_entry groups) (sym e) ∙ h)

pub good_options : (groups : List (List InputFile)) (o : Options) → is_good_options groups o ≡ true → AreGoodOptions groups o
good_options groups o h =
    let branches = is_branch_range o.branch_range in
    let bucket = nat_le o.bucket_limit MOST_BUCKET in
    let least = nat_le 1 o.merge_group in
    let most = nat_le o.merge_group MOST_MERGE_GROUP in
    let all = and_parts (branches && bucket && least && most) (has_entry groups o.entry) h in
    let four = and_parts (branches && bucket && least) most all.0 in
    let three = and_parts (branches && bucket) least four.0 in
    let two = and_parts branches bucket three.0 in
    record {
      branch_range = branch o.branch_range two.0;
      bucket_limit = leb-true o.bucket_limit MOST_BUCKET two.1;
      merge_group_least = leb-true 1 o.merge_group three.1;
      merge_group_most = leb-true o.merge_group MOST_MERGE_GROUP four.1;
      entry = λ s e. entry_there groups o.entry s all.1 e;
    }

-- ---- output sections

none_of : {X : Type 0} (o : Option X) → is_none o ≡ true → o ≡ None
none_of None h = refl
none_of (Some x) h = absurd (cc)

primary_from : (o : Option PlanSection) → option_map_or (λ q. is_none q.primary) o false ≡ true → (q : PlanSection) × (o ≡ Some q) × (q.primary ≡ None)
primary_from None h = absurd (cc)
primary_from (Some q) h = (q, refl, none_of q.primary h)

primary_there : (sections : List PlanSection) (primary : Option ℕ) (p : ℕ) → option_map_or (is_primary sections) primary true ≡ true → primary ≡ Some p → IsPrimary sections p
primary_there sections primary p h e =
    primary_from (slice_get sections p) (ap (λ o. option_map_or (is_primary sections) o true) (sym e) ∙ h)

pub good_section : (sections : List PlanSection) (s : PlanSection) → is_good_section sections s ≡ true → IsGoodSection sections s
good_section sections s h =
    let parts = nat_lt 0 (length s.parts) in
    let own = is_alignment s.align in
    let aligned = list_all (λ p. is_alignment p.alignment) s.parts in
    let attrs = nat_lt s.attrs ATTRIBUTE_SETS in
    let all = and_parts (parts && own && aligned && falls s.parts && attrs) (has_primary sections s) h in
    let five = and_parts (parts && own && aligned && falls s.parts) attrs all.0 in
    let four = and_parts (parts && own && aligned) (falls s.parts) five.0 in
    let three = and_parts (parts && own) aligned four.0 in
    let two = and_parts parts own three.0 in
    record {
      has_part = ltb-true 0 (length s.parts) two.0;
      aligned_self = two.1;
      aligned = three.1;
      falling = four.1;
      few_attrs = ltb-true s.attrs ATTRIBUTE_SETS five.1;
      primary = λ p e. primary_there sections s.primary p all.1 e;
    }

-- each section of a well-formed link is good
pub section_of : (link : LinkInput) (s : ℕ) (section : PlanSection) → IsWellFormed link → slice_get link.plan.sections s ≡ Some section → IsGoodSection link.plan.sections section
section_of link s section h at_s =
    good_section link.plan.sections section (all_at (is_good_section link.plan.sections) link.plan.sections s section h.sections at_s)

-- a section is secondary to another one, which isn't secondary itself
pub primary_is_other : (link : LinkInput) (s p : ℕ) (section : PlanSection) → IsWellFormed link → slice_get link.plan.sections s ≡ Some section → section.primary ≡ Some p → (p ≢ s) × IsPrimary link.plan.sections p
primary_is_other link s p section h at_s e =
    let there = (section_of link s section h at_s).primary p e in (
      λ same. let at_p : slice_get link.plan.sections s ≡ Some there.0 = ap (slice_get link.plan.sections) (sym same) ∙ there.1 in
          let one : Some section ≡ Some there.0 = sym at_s ∙ at_p in
          let secondary : there.0.primary ≡ Some p = cc in
          absurd (cc),
      there,
    )

-- ---- parts

-- the parts of a section have alignments
pub section_aligned : (link : LinkInput) (s : ℕ) (section : PlanSection) → IsWellFormed link → slice_get link.plan.sections s ≡ Some section → list_all (λ p. is_alignment p.alignment) section.parts ≡ true
section_aligned link s section h at_s = (section_of link s section h at_s).aligned

-- each part has an alignment
pub part_aligned : (link : LinkInput) (p : ℕ) (part : PlanPart) → IsWellFormed link → slice_get (all_parts link.plan.sections) p ≡ Some part → is_alignment part.alignment ≡ true
part_aligned link p part h at_p =
    all_at (λ q. is_alignment q.alignment) (all_parts link.plan.sections) p part
    (all_joined (λ q. is_alignment q.alignment) (λ s. s.parts) link.plan.sections
    (all_from (λ s. list_all (λ q. is_alignment q.alignment) s.parts) link.plan.sections (λ s section at_s. section_aligned link s section h at_s)))
    at_p

-- which lies between 1 and 65,536
pub part_alignment-pos : (link : LinkInput) (p : ℕ) (part : PlanPart) → IsWellFormed link → slice_get (all_parts link.plan.sections) p ≡ Some part → 0 < part.alignment
part_alignment-pos link p part h at_p = alignment-pos part.alignment (part_aligned link p part h at_p)

pub part_alignment-le : (link : LinkInput) (p : ℕ) (part : PlanPart) → IsWellFormed link → slice_get (all_parts link.plan.sections) p ≡ Some part → part.alignment ≤ GREATEST_ALIGNMENT
part_alignment-le link p part h at_p = alignment-le part.alignment (part_aligned link p part h at_p)

-- a section has a part
pub section_has_part : (link : LinkInput) (s : ℕ) (section : PlanSection) → IsWellFormed link → slice_get link.plan.sections s ≡ Some section → 0 < length section.parts
section_has_part link s section h at_s = (section_of link s section h at_s).has_part

-- the parts of a section stand among all parts, of any link
pub section_parts_within : (sections : List PlanSection) (s : ℕ) (section : PlanSection) → slice_get sections s ≡ Some section → first_part sections s + length section.parts ≤ length (all_parts sections)
section_parts_within sections s section at_s =
    let inside = slice_get_within sections s section at_s in
    let same = get_or_from_slice_get sections s section section at_s in
    let sum = length-flat_map-take (λ q. q.parts) sections s section inside in
    rw same at sum

-- ---- singletons

-- the section of singletons is there, and output is partial
pub good_singletons : (link : LinkInput) (s : ℕ) → has_good_singletons link ≡ true → link.plan.singletons ≡ Some s → (s < length link.plan.sections) × (is_partial link.options.output ≡ true)
good_singletons link s h e =
    let both : (nat_lt s (length link.plan.sections) && is_partial link.options.output) ≡ true =
    sym (ap (λ o. option_map_or (λ t. nat_lt t (length link.plan.sections) && is_partial link.options.output) o true) e) ∙ h in
    let parts = and_parts (nat_lt s (length link.plan.sections)) (is_partial link.options.output) both in
    (ltb-true s (length link.plan.sections) parts.0, parts.1)

-- ---- events

-- what an event names is there
pub event_in_range : (link : LinkInput) (k : ℕ) (e : OrderEvent) → IsWellFormed link → slice_get link.plan.events k ≡ Some e → IsInRange link.plan e
event_in_range link k e h at_k = h.events.in_range k e at_k

-- no event but those that move the location stands twice
pub event_once : (link : LinkInput) (j k : ℕ) (e : OrderEvent) → IsWellFormed link → IsAboutPlace e → slice_get link.plan.events j ≡ Some e → slice_get link.plan.events k ≡ Some e → j ≡ k
event_once link j k e h place at_j at_k = h.events.once j k e place at_j at_k

-- each section is placed
pub section_placed : (link : LinkInput) (s : ℕ) → IsWellFormed link → s < length link.plan.sections → (k : ℕ) × (slice_get link.plan.events k ≡ Some (Section s))
section_placed link s h lt = h.events.placed s lt

-- each segment opens, and closes after that
pub segment_opened : (link : LinkInput) (i : ℕ) → IsWellFormed link → i < length link.plan.segments → (j : ℕ) × (k : ℕ) × (j < k) × (slice_get link.plan.events j ≡ Some (SegmentStart i)) × (slice_get link.plan.events k ≡ Some (SegmentEnd i))
segment_opened link i h lt = h.events.opened i lt

-- ---- numbers

pub few : (link : LinkInput) → IsWellFormed link → AreFew link
unfolding counted limit_of
few link h = record {
  groups = h.within limited.Groups;
  files = h.within limited.Files;
  sections = h.within limited.OutputSections;
  parts = h.within limited.Parts;
  segments = h.within limited.Segments;
  regions = h.within limited.Regions;
  events = h.within limited.Events;
  symbols = h.within limited.Symbols;
  inputs = h.within limited.InputSections;
  candidates = h.within limited.Candidates;
  names = h.within limited.NameBytes;
  merged = h.within limited.MergeBytes;
}
