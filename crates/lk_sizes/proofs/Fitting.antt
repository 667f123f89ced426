-- From the totals of the parts to their contents.
use Rattle.std.proofs.Common.{◌≡◌, ℕ, ◌+◌, ◌-◌, ◌^◌, ◌<◌, min, Bool, true, false, List, [], ◌∷◌, ◌++◌, length, ltb, map, take, sum, Some, None, refl, sym, ap, ◌∙◌, arith, inl, inr}
use Rattle.std.specs.Prelude.{option_map}
use Rattle.std.specs.List.{enumerate_from, slice_get, slice_index, sum_by, take-map}
use Rattle.std.proofs.lemmas.Bool.{cases_lt}
use Rattle.std.proofs.lemmas.Bool.Decides.{nat_tests}
use Rattle.std.proofs.lemmas.List.{length-map}
use Rattle.std.proofs.lemmas.List.FromFn.{length-enumerate_from}
use Rattle.std.proofs.lemmas.List.Sums.{sum-map, sum_by-append, sum_by-cons}
use Rattle.std.proofs.lemmas.Option.{get_or_from_slice_get}
use Rattle.lk_link.specs.declared.fault.Place.TheVariants.{Part}
use Rattle.lk_link.specs.declared.link.LinkInput.{LinkInput}
use Rattle.lk_link.specs.declared.plan.NamedParts.{NamedParts}
use Rattle.lk_link.specs.declared.plan.PlanPart.{PlanPart}
use Rattle.lk_link.specs.Parts.{all_parts, part_at}
use Rattle.lk_link.specs.TableSizes.{TableSizes}
use Rattle.lk_link.proofs.Elements.{at_index, map_at, map_in, numbered_at}
use Rattle.lk_link.proofs.Numbers.{length-made, made_at, made_of}
use Rattle.lk_live.specs.declared.live.Live.{Live}
use Rattle.lk_tables.specs.HeaderParts.{told_sum}
use Rattle.lk_tables.specs.SymbolTable.{TableEntry, entry_bytes}
use Rattle.lk_tables.specs.TableLists.{TableLists, first_tables, table_bytes, table_of}
use Rattle.lk_sizes.specs.declared.error.SizeError.TheVariants.{AddressOverflow}
use Rattle.lk_sizes.specs.declared.owners.PartContents.{PartContents}
use Rattle.lk_sizes.specs.declared.owners.PartTotal.{PartTotal}
use Rattle.lk_sizes.specs.Attributes.{part_attributes}
use Rattle.lk_sizes.specs.Contents.{AreContentTotals, AreSums, contents_of, part_contents, sum_refusal}
use Rattle.lk_sizes.specs.Owners.{AreFirstSizes, EntryOwner, Filling, bytes_of, content_of, content_owners, content_size, first_size, has_image, owner_bytes, plain_filling}
use Rattle.lk_sizes.specs.PartOwners.{overflowing_part, part_size, part_sizes, tables_of}
use Rattle.lk_sizes.specs.Tables.{with_table, with_tables}
use Rattle.lk_sizes.proofs.Made.{made_map}
use Rattle.lk_sizes.proofs.Overflowing.{agree_fitting, agree_overflow, overflows_at, overflows_nowhere}

-- what a total says, where its bytes fit
abbrev pub as_contents : PartTotal → PartContents
as_contents t = record { bytes = t.bytes; has_image = t.has_image; attrs = t.attrs }

abbrev pub sums : List PartTotal → List ℕ
sums totals = map (λ t. t.bytes) totals

agree : (filling : Filling) (totals : List PartTotal) → AreSums filling totals → (p : ℕ) → p < length (sums totals) → min (slice_index (sums totals) p) (2 ^ 64) ≡ min (slice_index (part_sizes filling) p) (2 ^ 64)
agree filling totals h p below =
    let parts : List PlanPart = all_parts filling.content.link.plan.sections in
    let within : p < length totals = omega (arith, length-map totals (λ (t : PartTotal). t.bytes)) in
    let at = at_index totals p within in
    let sum : slice_index (sums totals) p ≡ at.0.bytes = get_or_from_slice_get (sums totals) p at.0.bytes 0 (map_in (λ (t : PartTotal). t.bytes) totals p at.0 at.1) in
    let size : slice_index (part_sizes filling) p ≡ part_size filling p = made_at (part_size filling) 0 parts 0 p (omega (arith, h.count)) ∙ ap (part_size filling) (omega arith) in
    omega (arith, sum, size, h.bytes p at.0 at.1)

as_long : (filling : Filling) (totals : List PartTotal) → AreSums filling totals → length (sums totals) ≡ length (part_sizes filling)
as_long filling totals h =
    length-map totals (λ (t : PartTotal). t.bytes) ∙ h.count ∙ sym (length-made (part_size filling) (all_parts filling.content.link.plan.sections) 0)

-- what doesn't fit is refused
pub refused : (filling : Filling) (totals : List PartTotal) (i : ℕ) → AreSums filling totals → i < length totals → sum_by (λ t. t.bytes) (take i totals) < 2 ^ 64
    → 2 ^ 64 - 1 < sum_by (λ t. t.bytes) (take (i + 1) totals) → sum_refusal filling ≡ Some (AddressOverflow (Part i))
refused filling totals i h within low high =
    let before = sum-map (λ (t : PartTotal). t.bytes) (take i totals) in
    let behind = sum-map (λ (t : PartTotal). t.bytes) (take (i + 1) totals) in
    let front = take-map (λ (t : PartTotal). t.bytes) i totals in
    let more = take-map (λ (t : PartTotal). t.bytes) (i + 1) totals in
    let found : overflowing_part (sums totals) ≡ Some i = overflows_at (sums totals) i (omega (arith, length-map totals (λ (t : PartTotal). t.bytes))) (omega (arith, ap sum front, before)) (omega (arith, ap sum more, behind)) in
    ap (option_map (λ p. AddressOverflow (Part p))) (sym (agree_overflow (sums totals) (part_sizes filling) (as_long filling totals h) (agree filling totals h)) ∙ found)

-- what fits is what the live sections bring
pub fitting : (filling : Filling) (totals : List PartTotal) → AreSums filling totals → sum_by (λ t. t.bytes) totals < 2 ^ 64
    → (sum_refusal filling ≡ None) × (map as_contents totals ≡ part_contents filling)
fitting filling totals h fits =
    let low : sum (sums totals) < 2 ^ 64 = omega (arith, sum-map (λ (t : PartTotal). t.bytes) totals) in
    let same : sums totals ≡ part_sizes filling = agree_fitting (sums totals) (part_sizes filling) (as_long filling totals h) (agree filling totals h) low in
    let none : overflowing_part (part_sizes filling) ≡ None = ap overflowing_part (sym same) ∙ overflows_nowhere (sums totals) low in
    let parts : List PlanPart = all_parts filling.content.link.plan.sections in
    let contents : map as_contents totals ≡ part_contents filling =
    made_of (contents_of filling) (map as_contents totals) parts 0 (length-map totals as_contents ∙ h.count) (λ p below.
    let at = at_index totals p (omega (arith, h.count)) in
    let size : slice_index (part_sizes filling) p ≡ part_size filling p = made_at (part_size filling) 0 parts 0 p below ∙ ap (part_size filling) (omega arith) in
    let sum : slice_index (sums totals) p ≡ at.0.bytes = get_or_from_slice_get (sums totals) p at.0.bytes 0 (map_in (λ (t : PartTotal). t.bytes) totals p at.0 at.1) in
    let bytes : at.0.bytes ≡ part_size filling p = sym sum ∙ ap (λ (xs : List ℕ). slice_index xs p) same ∙ size in
    let number : 0 + p ≡ p = omega arith in
    map_in as_contents totals p at.0 at.1
    ∙ ap (λ (b : ℕ). Some (record (as_contents at.0) { bytes = b })) bytes
    ∙ ap (λ (e : Bool). let c : PartContents = record { bytes = part_size filling p; has_image = e; attrs = at.0.attrs } in Some c) (h.image p at.0 at.1)
    ∙ ap (λ (a : ℕ). let c : PartContents = record { bytes = part_size filling p; has_image = has_image filling.content.link p; attrs = a } in Some c) (h.attrs p at.0 at.1)
    ∙ ap (λ (n : ℕ). Some (contents_of filling n)) (sym number)) in
    (ap (option_map (λ p. AddressOverflow (Part p))) none, contents)

-- the bytes of the contents are the sizes
pub contents_sizes : (filling : Filling) → map (λ c. c.bytes) (part_contents filling) ≡ part_sizes filling
contents_sizes filling = made_map (λ (c : PartContents). c.bytes) (contents_of filling) (all_parts filling.content.link.plan.sections) 0

-- ---- with the entries of tables

entries_take : (part : PlanPart) (es : List TableEntry) → bytes_of part (map EntryOwner es) ≡ entry_bytes es
entries_take part [] = refl
entries_take part (e ∷ es) =
    omega (
      arith,
      entries_take part es,
      sum_by-cons (owner_bytes part) (EntryOwner e) (map EntryOwner es),
      sum_by-cons (λ (x : TableEntry). x.bytes) e es,
    )

-- what content and the entries of some tables take in a part
size_with : (filling : Filling) (lists : TableLists) (p : ℕ)
    → bytes_of (part_at filling.content.link.plan.sections p) (content_owners filling p ++ map EntryOwner (table_of filling.content.link.plan.named lists p))
    ≡ content_size filling p + table_bytes filling.content.link.plan.named lists p
size_with filling lists p =
    let part : PlanPart = part_at filling.content.link.plan.sections p in
    let entries : List TableEntry = table_of filling.content.link.plan.named lists p in
    omega (arith, sum_by-append (owner_bytes part) (content_owners filling p) (map EntryOwner entries), entries_take part entries)

-- a total is what both bring
record IsWith (filling : Filling) (lists : TableLists) (p : ℕ) (total : PartTotal) : Type 0 where
  bytes : min total.bytes (2 ^ 64) ≡ min (content_size filling p + table_bytes filling.content.link.plan.named lists p) (2 ^ 64)
  image : total.has_image ≡ has_image filling.content.link p
  attrs : total.attrs ≡ part_attributes filling.content.link filling.content.live p

with_at : (filling : Filling) (lists : TableLists) (totals : List PartTotal) (p : ℕ) (total : PartTotal) → AreContentTotals filling totals
    → slice_get (with_tables filling.content.link.plan.named lists totals) p ≡ Some total → IsWith filling lists p total
with_at filling lists totals p total are there =
    let named : NamedParts = filling.content.link.plan.named in
    let from = map_at (with_table named lists) (enumerate_from 0 totals) p total there in
    let q : ℕ × PartTotal = from.0 in
    let at = numbered_at 0 totals p q from.1 in
    let h = are.each p q.1 at.1 in
    let number : q.0 ≡ p = omega (arith, at.0) in
    let table : table_bytes named lists q.0 ≡ table_bytes named lists p = ap (table_bytes named lists) number in
    let bytes : total.bytes ≡ min (q.1.bytes + told_sum (table_bytes named lists q.0)) (2 ^ 128 - 1) = ap (λ (t : PartTotal). t.bytes) (sym from.2) in
    record {
      bytes = omega (arith, bytes, table, h.bytes);
      image = ap (λ (t : PartTotal). t.has_image) (sym from.2) ∙ h.image;
      attrs = ap (λ (t : PartTotal). t.attrs) (sym from.2) ∙ h.attrs;
    }

as_many : (named : NamedParts) (lists : TableLists) (totals : List PartTotal) → length (with_tables named lists totals) ≡ length totals
as_many named lists totals = length-map (enumerate_from 0 totals) (with_table named lists) ∙ length-enumerate_from 0 totals

-- with the whole tables, they are the sums of the parts
pub are_sums : (filling : Filling) (totals : List PartTotal) → AreContentTotals filling totals
    → AreSums filling (with_tables filling.content.link.plan.named (tables_of filling.content) totals)
are_sums filling totals are =
    let lists : TableLists = tables_of filling.content in
    let at : (p : ℕ) (total : PartTotal) → slice_get (with_tables filling.content.link.plan.named lists totals) p ≡ Some total → IsWith filling lists p total
    = λ p total there. with_at filling lists totals p total are there in
    record {
      count = as_many filling.content.link.plan.named lists totals ∙ are.count;
      bytes = λ p total there. (at p total there).bytes ∙ ap (λ (n : ℕ). min n (2 ^ 64)) (sym (size_with filling lists p));
      image = λ p total there. (at p total there).image;
      attrs = λ p total there. (at p total there).attrs;
    }

-- ---- first sizes

is_above : (n : ℕ) → 0 < n → ltb 0 n ≡ true
is_above n h = grind (arith, nat_tests)

is_nothing : (n : ℕ) → n < 1 → ltb 0 n ≡ false
is_nothing n h = grind (arith, nat_tests)

above_alike : (m n : ℕ) → min m 1 ≡ min n 1 → ltb 0 m ≡ ltb 0 n
above_alike m n h =
    elim (cases_lt 0 m) [
      | inl l ↦ is_above m l ∙ sym (is_above n (omega arith))
      | inr r ↦ is_nothing m (omega arith) ∙ sym (is_nothing n (omega arith))
    ]

-- a total's bytes, at most 2^64 - 1
abbrev pub cap : PartTotal → ℕ
cap t = min t.bytes (2 ^ 64 - 1)

-- with the first tables, they tell what the first sizes tell
pub are_first : (sizes : TableSizes) (link : LinkInput) (live : Live) (merged_lens : List ℕ) (totals : List PartTotal) (first : List ℕ) → AreContentTotals (plain_filling (content_of link sizes live merged_lens)) totals
    → first ≡ map cap (with_tables link.plan.named (first_tables sizes link live) totals) → AreFirstSizes (content_of link sizes live merged_lens) first
are_first sizes link live merged_lens totals first are is =
    let lists : TableLists = first_tables sizes link live in
    let whole : List PartTotal = with_tables link.plan.named lists totals in
    let count : length first ≡ length whole = ap length is ∙ length-map whole cap in
    record {
      count = count ∙ as_many link.plan.named lists totals ∙ are.count;
      each = λ p below.
          let at = at_index whole p (omega (arith, below, count)) in
          let read : slice_index first p ≡ cap at.0
          = ap (λ (xs : List ℕ). slice_index xs p) is ∙ get_or_from_slice_get (map cap whole) p (cap at.0) 0 (map_in cap whole p at.0 at.1) in
          let with = with_at (plain_filling (content_of link sizes live merged_lens)) lists totals p at.0 are at.1 in
          above_alike (slice_index first p) (first_size (content_of link sizes live merged_lens) p)
          (omega (arith, read, with.bytes, size_with (plain_filling (content_of link sizes live merged_lens)) lists p));
    }
