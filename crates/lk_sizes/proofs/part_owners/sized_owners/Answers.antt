use Rattle.std.proofs.Common.{◌≡◌, ℕ, Bool, Bor, List, Option, None, Some, Result, Ok, Err, length, refl, ap, sym, subst, ◌∙◌}
use Rattle.lk_live.specs.declared.live.Live.{Live}
use Rattle.lk_link.specs.declared.link.LinkInput.{LinkInput}
use Rattle.lk_link.specs.Files.{first_some}
use Rattle.lk_link.specs.TableSizes.{TableSizes}
use Rattle.lk_tables.specs.declared.header_info.HeaderInfo.{HeaderInfo}
use Rattle.lk_tables.specs.declared.shares.FileShare.{FileShare}
use Rattle.lk_tables.specs.declared.totals.TableTotals.{TableTotals}
use Rattle.lk_tables.specs.HeaderParts.{CountsSections, section_count}
use Rattle.lk_tables.specs.ShareWords.{first_shares, prelude_share}
use Rattle.lk_tables.specs.TableLists.{whole_tables}
use Rattle.lk_tables.specs.Totals.{totals_of}
use Rattle.std.specs.Prelude.{option_map, unwrap_or}
use Rattle.std.specs.Option.{option_map_or}
use Rattle.std.specs.Result.{IsErrAnd}
use Rattle.lk_sizes.specs.declared.error.SizeError.{SizeError}
use Rattle.lk_sizes.specs.declared.error.SizeError.TheVariants.{AddressOverflow, NoMemory}
use Rattle.lk_sizes.specs.Contents.{AreContentTotals, GivesContents, size_refusal, sum_refusal}
use Rattle.lk_sizes.specs.Sizing.{GivesOwners}
use Rattle.lk_sizes.specs.Header.{header_info}
use Rattle.lk_sizes.specs.Owners.{AreFirstSizes, Content, Filling, content_of, own_sizes, plain_filling, sized_filling}
use Rattle.lk_sizes.specs.OwnersRecord.{OwnersRecord}
use Rattle.lk_sizes.specs.PartOwners.{tables_of}
use Rattle.lk_sizes.proofs.SortedFits.{sorted_fit}
use Rattle.lk_sizes.proofs.part_owners.sized_owners.Goals as goal

-- the tables are whole, by the header
whole_are : (sizes : TableSizes) (link : LinkInput) (live : Live) (lens : List ℕ) (header : HeaderInfo) (told : List Bool) (shares : List FileShare) (prelude : FileShare) (tables : TableTotals)
    → header ≡ header_info (content_of link sizes live lens) → told ≡ header.told → prelude ≡ prelude_share sizes link live told
    → tables ≡ totals_of (whole_tables sizes link live told header.emitted header.active_segment_ids) → tables ≡ totals_of (tables_of (content_of link sizes live lens))
whole_are sizes link live lens header told shares prelude tables is by marked whole =
    whole
    ∙ ap (λ (ms : List Bool). totals_of (whole_tables sizes link live ms header.emitted header.active_segment_ids)) by
    ∙ ap (λ (h : HeaderInfo). totals_of (whole_tables sizes link live h.told h.emitted h.active_segment_ids)) is

-- what headers tell counts the link's sections
counted : (content : Content) (header : HeaderInfo) → header ≡ header_info content → CountsSections content.link content.live header
counted content header is = record {
  sections = ap (λ (h : HeaderInfo). h.num_output_sections_with_content) is ∙ sym (ap (λ (h : HeaderInfo). section_count content.link content.live h.emitted) is);
  names = ap (λ (h : HeaderInfo). h.partial_link_section_name_bytes) is;
}

-- the exit of a `?`
exit : (filling : Filling) (P : SizeError → Type 0) (answer : Result OwnersRecord SizeError) → IsErrAnd answer P → ((e : SizeError) → P e → GivesOwners filling (Err e))
    → GivesOwners filling answer
exit filling P (Ok owners) h f = absurd h
exit filling P (Err e) h f = f e h

-- without thunks, both sums are one
twice : {X : Type 0} (o : Option X) → first_some o o ≡ o
unfolding first_some
twice None = refl
twice (Some x) = refl

one_sum : (content : Content) (given : List ℕ) → size_refusal (sized_filling content given) ≡ sum_refusal (sized_filling content given)
one_sum content given = twice (sum_refusal (sized_filling content given))

same_refusal : (content : Content) (given : List ℕ) (e : SizeError) → GivesContents (sized_filling content given) (Err e) → GivesOwners (sized_filling content given) (Err e)
same_refusal content given (AddressOverflow place) h = one_sum content given ∙ h
same_refusal content given NoMemory h = tt

refused : (content : Content) (given : List ℕ) (e told : SizeError) → told ≡ e → GivesContents (sized_filling content given) (Err e) → GivesOwners (sized_filling content given) (Err told)
refused content given e told is h = subst (λ (x : SizeError). GivesOwners (sized_filling content given) (Err x)) (sym is) (same_refusal content given e h)

-- what is kept of the sizes that are given
kept_sizes : (o : Option (Bor (List ℕ))) (own : List ℕ) → unwrap_or (option_map (λ s. s.now) o) own ≡ option_map_or (λ s. s.now) o own
kept_sizes None own = refl
kept_sizes (Some s) own = refl

pub content_totals-requires-clause-commons : goal.content_totals-requires-clause-commons
content_totals-requires-clause-commons g c = c.deref.ensures.value ∙ c.requires.commons

pub first_sizes-requires-clause-count : goal.first_sizes-requires-clause-count
first_sizes-requires-clause-count g c = ap length c.deref-2.ensures.value ∙ (c.in_ok-totals.ensures (g.P.Platform.table_sizes c.args.platform.now)).count

pub determine_header_sizes-requires-clause-sizes : goal.determine_header_sizes-requires-clause-sizes
determine_header_sizes-requires-clause-sizes g c =
    let link = c.args.link.now in
    let live : Live = c.args.live.now in
    let lens : List ℕ = c.args.merged_lens.now in
    let sizes : TableSizes = g.P.Platform.table_sizes c.args.platform.now in
    let added : AreContentTotals (plain_filling (content_of link sizes live lens)) c.deref-2.result.now = subst (AreContentTotals (plain_filling (content_of link sizes live lens))) (sym c.deref-2.ensures.value) (c.in_ok-totals.ensures sizes) in
    let shared : c.deref-3.result.now ≡ first_shares sizes link live = c.deref-3.ensures.value ∙ c.requires.shares in
    ap length c.deref-4.ensures.value ∙ (c.in_ok-first.ensures sizes live lens added shared).count

pub resized-requires-clause-commons : goal.resized-requires-clause-commons
resized-requires-clause-commons g c = c.deref-6.ensures.value ∙ c.requires.commons

pub resized-requires-clause-own : goal.resized-requires-clause-own
resized-requires-clause-own g c = c.in_ok-totals.ensures

pub part_contents-requires-clause-count : goal.part_contents-requires-clause-count
part_contents-requires-clause-count g c = ap length c.deref-7.ensures.value ∙ (c.in_ok-whole.ensures (g.P.Platform.table_sizes c.args.platform.now)).count

pub tell_sorted-requires-clause-fit : goal.tell_sorted-requires-clause-fit
tell_sorted-requires-clause-fit g c =
    let link = c.args.link.now in
    let live : Live = c.args.live.now in
    let lens : List ℕ = c.args.merged_lens.now in
    let sizes : TableSizes = g.P.Platform.table_sizes c.args.platform.now in
    let content : Content = content_of link sizes live lens in
    let added : AreContentTotals (plain_filling (content_of link sizes live lens)) c.deref-2.result.now = subst (AreContentTotals (plain_filling (content_of link sizes live lens))) (sym c.deref-2.ensures.value) (c.in_ok-totals.ensures sizes) in
    let given : List ℕ = option_map_or (λ s. s.now) c.args.sizes (own_sizes link) in
    let again : AreContentTotals (sized_filling (content_of link sizes live lens) given) c.deref-7.result.now = subst (AreContentTotals (sized_filling (content_of link sizes live lens) given)) (sym c.deref-7.ensures.value) (c.in_ok-whole.ensures sizes) in
    let shared : c.deref-3.result.now ≡ first_shares sizes link live = c.deref-3.ensures.value ∙ c.requires.shares in
    let later : c.deref-5.result.now ≡ first_shares sizes link live = c.deref-5.ensures.value ∙ c.requires.shares in
    let first : AreFirstSizes content c.deref-4.result.now = subst (AreFirstSizes content) (sym c.deref-4.ensures.value) (c.in_ok-first.ensures sizes live lens added shared) in
    let header : c.in_ok-header.header ≡ header_info content = c.in_ok-header.ensures.header sizes lens first in
    let told : c.whole_totals-tables.result ≡ totals_of (tables_of content)
    = whole_are sizes link live lens c.in_ok-header.header c.as_slice.result.now c.deref-5.result.now c.mark_prelude-prelude.result c.whole_totals-tables.result
    header c.as_slice.ensures c.mark_prelude-prelude.ensures (c.whole_totals-tables.ensures.all live c.as_slice.result.now (counted (content_of link sizes live lens) c.in_ok-header.header header) later c.mark_prelude-prelude.ensures) in
    let gives = c.in_ok-contents.ensures (sized_filling content given) again told in
    sorted_fit (sized_filling content given) c.requires.good c.requires.live gives.0

pub returns-clause-owners : goal.returns-clause-owners
returns-clause-owners g c =
    let link = c.args.link.now in
    let live : Live = c.args.live.now in
    let lens : List ℕ = c.args.merged_lens.now in
    let sizes : TableSizes = g.P.Platform.table_sizes c.args.platform.now in
    let content : Content = content_of link sizes live lens in
    let added : AreContentTotals (plain_filling (content_of link sizes live lens)) c.deref-2.result.now = subst (AreContentTotals (plain_filling (content_of link sizes live lens))) (sym c.deref-2.ensures.value) (c.in_ok-totals.ensures sizes) in
    let given : List ℕ = option_map_or (λ s. s.now) c.args.sizes (own_sizes link) in
    let again : AreContentTotals (sized_filling (content_of link sizes live lens) given) c.deref-7.result.now = subst (AreContentTotals (sized_filling (content_of link sizes live lens) given)) (sym c.deref-7.ensures.value) (c.in_ok-whole.ensures sizes) in
    let shared : c.deref-3.result.now ≡ first_shares sizes link live = c.deref-3.ensures.value ∙ c.requires.shares in
    let later : c.deref-5.result.now ≡ first_shares sizes link live = c.deref-5.ensures.value ∙ c.requires.shares in
    let first : AreFirstSizes content c.deref-4.result.now = subst (AreFirstSizes content) (sym c.deref-4.ensures.value) (c.in_ok-first.ensures sizes live lens added shared) in
    let header : c.in_ok-header.header ≡ header_info content = c.in_ok-header.ensures.header sizes lens first in
    let told : c.whole_totals-tables.result ≡ totals_of (tables_of content)
    = whole_are sizes link live lens c.in_ok-header.header c.as_slice.result.now c.deref-5.result.now c.mark_prelude-prelude.result c.whole_totals-tables.result
    header c.as_slice.ensures c.mark_prelude-prelude.ensures (c.whole_totals-tables.ensures.all live c.as_slice.result.now (counted (content_of link sizes live lens) c.in_ok-header.header header) later c.mark_prelude-prelude.ensures) in
    let gives = c.in_ok-contents.ensures (sized_filling content given) again told in
    let marked : c.mark_prelude-prelude.result ≡ prelude_share sizes link live (header_info content).told
    = c.mark_prelude-prelude.ensures ∙ ap (prelude_share sizes link live) (c.as_slice.ensures ∙ ap (λ (h : HeaderInfo). h.told) header) in (
      one_sum content given ∙ gives.0,
      record {
        contents = gives.1;
        header = header;
        numbers = c.new-numbers.ensures sizes live (header_info content).told c.requires.good (c.deref-8.ensures.value ∙ c.requires.shares) marked;
        commons = c.from_vec.ensures ∙ c.requires.commons;
        shares = c.from_vec-2.ensures ∙ c.requires.shares;
        sorted = c.from_vec-sorted.ensures ∙ c.in_ok-tell_sorted.ensures;
        lens = c.from_vec-lens.ensures ∙ c.in_ok-from_slice.ensures.items;
        thunks = c.new.ensures;
        sizes = ap (λ (o : Option (List ℕ)). unwrap_or o (own_sizes link)) c.in_ok-sizes.ensures ∙ kept_sizes c.args.sizes (own_sizes link);
      },
    )

pub returns-clause-marks : goal.returns-clause-marks
returns-clause-marks g c =
    let link = c.args.link.now in
    let live : Live = c.args.live.now in
    let lens : List ℕ = c.args.merged_lens.now in
    let sizes : TableSizes = g.P.Platform.table_sizes c.args.platform.now in
    let added : AreContentTotals (plain_filling (content_of link sizes live lens)) c.deref-2.result.now = subst (AreContentTotals (plain_filling (content_of link sizes live lens))) (sym c.deref-2.ensures.value) (c.in_ok-totals.ensures sizes) in
    let shared : c.deref-3.result.now ≡ first_shares sizes link live = c.deref-3.ensures.value ∙ c.requires.shares in
    let first : AreFirstSizes (content_of link sizes live lens) c.deref-4.result.now
    = subst (AreFirstSizes (content_of link sizes live lens)) (sym c.deref-4.ensures.value) (c.in_ok-first.ensures sizes live lens added shared) in
    c.in_ok-header.ensures.marks sizes lens first

pub returns-in_err-contents-clause-owners : goal.returns-in_err-contents-clause-owners
returns-in_err-contents-clause-owners g c =
    let link = c.args.link.now in
    let live : Live = c.args.live.now in
    let lens : List ℕ = c.args.merged_lens.now in
    let sizes : TableSizes = g.P.Platform.table_sizes c.args.platform.now in
    let given_sizes : List ℕ = option_map_or (λ s. s.now) c.args.sizes (own_sizes link) in
    let filling : Filling = sized_filling (content_of link sizes live lens) given_sizes in
    let added : AreContentTotals (plain_filling (content_of link sizes live lens)) c.deref-2.result.now = subst (AreContentTotals (plain_filling (content_of link sizes live lens))) (sym c.deref-2.ensures.value) (c.in_ok-totals.ensures sizes) in
    let given : List ℕ = option_map_or (λ s. s.now) c.args.sizes (own_sizes link) in
    let again : AreContentTotals (sized_filling (content_of link sizes live lens) given) c.deref-7.result.now = subst (AreContentTotals (sized_filling (content_of link sizes live lens) given)) (sym c.deref-7.ensures.value) (c.in_ok-whole.ensures sizes) in
    let shared : c.deref-3.result.now ≡ first_shares sizes link live = c.deref-3.ensures.value ∙ c.requires.shares in
    let later : c.deref-5.result.now ≡ first_shares sizes link live = c.deref-5.ensures.value ∙ c.requires.shares in
    let first : AreFirstSizes filling.content c.deref-4.result.now = subst (AreFirstSizes filling.content) (sym c.deref-4.ensures.value) (c.in_ok-first.ensures sizes live lens added shared) in
    let header : c.in_ok-header.header ≡ header_info filling.content = c.in_ok-header.ensures.header sizes lens first in
    let told : c.whole_totals-tables.result ≡ totals_of (tables_of filling.content)
    = whole_are sizes link live lens c.in_ok-header.header c.as_slice.result.now c.deref-5.result.now c.mark_prelude-prelude.result c.whole_totals-tables.result
    header c.as_slice.ensures c.mark_prelude-prelude.ensures (c.whole_totals-tables.ensures.all live c.as_slice.result.now (counted (content_of link sizes live lens) c.in_ok-header.header header) later c.mark_prelude-prelude.ensures) in
    exit filling _ c.from_residual-in_err-contents.result c.from_residual-in_err-contents.ensures.1
    (λ e is. refused (content_of link sizes live lens) given_sizes c.in_err-contents.field-0.0 e is (c.in_err-contents.ensures filling again told))
