-- The expressions of a well-formed link: lemmas for its laws.
use Rattle.std.specs.Prelude.{◌≡◌, ℕ, true, Option, Some, nat_le, slice_get}
use Rattle.std.specs.List.{list_all}
use Rattle.std.specs.Option.{option_map_or}
use Rattle.std.proofs.Common.{ap, sym, ◌∙◌}
use Rattle.std.proofs.lemmas.Bool.{and_parts, leb-true}
use Rattle.lk_link.specs.declared.file.InputFile.{InputFile}
use Rattle.lk_link.specs.declared.ids.FileId.{FileId}
use Rattle.lk_link.specs.declared.limits.TheConstants.{MOST_DEPTH}
use Rattle.lk_link.specs.declared.link.LinkInput.{LinkInput}
use Rattle.lk_link.specs.declared.plan.OrderEvent.{OrderEvent}
use Rattle.lk_link.specs.declared.plan.OrderEvent.TheVariants.{SegmentStart, SegmentEnd, Section, SetLocation, SetLocationRelative, SetSectionAddress}
use Rattle.lk_link.specs.declared.plan.Region.{Region}
use Rattle.lk_link.specs.declared.symbol.InputSymbol.{InputSymbol}
use Rattle.lk_link.specs.declared.symbol.SymbolPlacement.{SymbolPlacement}
use Rattle.lk_link.specs.declared.symbol.SymbolPlacement.TheVariants as at
use Rattle.lk_link.specs.ExpressionRules.{depth, all_operands, is_operand_there, is_good_expression, is_good_region, has_good_address, has_good_move, is_good_redirect, IsGoodExpression, HasGoodMove, IsGoodRedirect, AreGoodExpressions}
use Rattle.lk_link.specs.Expressions.{Term}
use Rattle.lk_link.specs.Files.{file_in}
use Rattle.lk_link.specs.Symbols.{all_files, all_symbols}
use Rattle.lk_link.specs.WellFormed.{IsWellFormed}
use Rattle.lk_link.proofs.Places.{all_at, all_parted, file_passes}

-- a good expression, taken apart
good_expression : (link : LinkInput) (t : Term) → is_good_expression link t ≡ true → IsGoodExpression link t
good_expression link t h =
    let both = and_parts (all_operands (is_operand_there link) t) (nat_le (depth t) MOST_DEPTH) h in
    record { shallow = leb-true (depth t) MOST_DEPTH both.1; all_there = both.0 }

good_region : (link : LinkInput) (r : Region) → is_good_region link r ≡ true → IsGoodExpression link r.origin × IsGoodExpression link r.length
good_region link r h =
    let both = and_parts (is_good_expression link r.origin) (is_good_expression link r.length) h in
    (good_expression link r.origin both.0, good_expression link r.length both.1)

good_address : (link : LinkInput) (o : Option Term) (t : Term) → option_map_or (is_good_expression link) o true ≡ true → o ≡ Some t → IsGoodExpression link t
good_address link o t h e = good_expression link t (ap (λ x. option_map_or (is_good_expression link) x true) (sym e) ∙ h)

good_move : (link : LinkInput) (e : OrderEvent) → has_good_move link e ≡ true → HasGoodMove link e
good_move link (SetLocation t) h = good_expression link t h
good_move link (SetLocationRelative t s) h = good_expression link t h
good_move link (SetSectionAddress t) h = good_expression link t h
good_move link (SegmentStart i) h = tt
good_move link (SegmentEnd i) h = tt
good_move link (Section s) h = tt

good_redirect : (link : LinkInput) (p : SymbolPlacement) → is_good_redirect link p ≡ true → IsGoodRedirect link p
good_redirect link (at.Redirect t l provide) h = good_expression link t h
good_redirect link (at.Section i offset) h = tt
good_redirect link (at.Common p n) h = tt
good_redirect link (at.Absolute n) h = tt
good_redirect link at.Undef h = tt
good_redirect link at.Dynamic h = tt
good_redirect link at.Undefined h = tt
good_redirect link at.ForceUndefined h = tt
good_redirect link (at.SectionStart s) h = tt
good_redirect link (at.SectionEnd s) h = tt
good_redirect link (at.SectionGroupEnd s) h = tt
good_redirect link at.TlsEnd h = tt
good_redirect link at.LoadBaseAddress h = tt

by_file : (link : LinkInput) (id : FileId) (i : ℕ) (file : InputFile) (x : InputSymbol) → IsWellFormed link → file_in link.groups id ≡ Some file → slice_get file.symbols i ≡ Some x → IsGoodRedirect link x.at
by_file link id i file x h at_id at_i =
    let files = all_parted (λ y. is_good_redirect link y.at) (λ f. f.symbols) (all_files link.groups) h.expressions.redirects in
    let groups = all_parted (λ f. list_all (λ y. is_good_redirect link y.at) f.symbols) (λ fs. fs) link.groups files in
    let here = file_passes (λ f. list_all (λ y. is_good_redirect link y.at) f.symbols) link.groups id file groups at_id in
    good_redirect link x.at (all_at (λ y. is_good_redirect link y.at) file.symbols i x here at_i)

-- the expressions of a well-formed link are good
pub good_expressions : (link : LinkInput) → IsWellFormed link → AreGoodExpressions link
good_expressions link h = record {
  base = good_expression link link.plan.base h.expressions.base;
  regions = λ i r at_i. good_region link r (all_at (is_good_region link) link.plan.regions i r h.expressions.regions at_i);
  addresses = λ s x at_s t e. good_address link x.at t (all_at (has_good_address link) link.plan.sections s x h.expressions.addresses at_s) e;
  moves = λ k e at_k. good_move link e (all_at (has_good_move link) link.plan.events k e h.expressions.moves at_k);
  redirects = λ s x at_s. good_redirect link x.at (all_at (λ y. is_good_redirect link y.at) (all_symbols link.groups) s x h.expressions.redirects at_s);
  by_file = λ id i file x at_id at_i. by_file link id i file x h at_id at_i;
}
