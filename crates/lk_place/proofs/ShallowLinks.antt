-- No expression of a well-formed link is too deep.
use Rattle.std.proofs.Common.{◌≡◌, Some, List, ap, ◌∙◌}
use Rattle.std.specs.Prelude.{option_and_then, slice_get}
use Rattle.std.specs.List.{slice_index_or}
use Rattle.std.proofs.lemmas.Option.{slice_get-get_or}
use Rattle.lk_link.specs.declared.file.InputFile.{InputFile}
use Rattle.lk_link.specs.declared.link.LinkInput.{LinkInput}
use Rattle.lk_link.specs.declared.plan.OrderEvent.{OrderEvent}
use Rattle.lk_link.specs.declared.plan.OrderEvent.TheVariants.{SegmentStart, SegmentEnd, Section, SetLocation, SetLocationRelative, SetSectionAddress}
use Rattle.lk_link.specs.declared.symbol.SymbolPlacement.{SymbolPlacement}
use Rattle.lk_link.specs.declared.symbol.SymbolPlacement.TheVariants as at
use Rattle.lk_link.specs.ExpressionRules.{AreGoodExpressions, HasGoodMove, IsGoodRedirect}
use Rattle.lk_link.specs.Files.{file_in}
use Rattle.lk_link.specs.WellFormed.{IsWellFormed}
use Rattle.lk_link.proofs.GoodExpressions.{good_expressions}
use Rattle.lk_expressions.specs.Constants.{HasShallowRedirects, IsShallowPlacement}
use Rattle.lk_place.specs.Shallow.{AreShallow, IsShallowEvent}

shallow_redirect : (link : LinkInput) (p : SymbolPlacement) → IsGoodRedirect link p → IsShallowPlacement p
shallow_redirect link at.Undef h = tt
shallow_redirect link at.Undefined h = tt
shallow_redirect link at.ForceUndefined h = tt
shallow_redirect link (at.Absolute n) h = tt
shallow_redirect link (at.Redirect e l provide) h = h.shallow
shallow_redirect link (at.Section i o) h = tt
shallow_redirect link (at.Common p n) h = tt
shallow_redirect link at.Dynamic h = tt
shallow_redirect link (at.SectionStart s) h = tt
shallow_redirect link (at.SectionEnd s) h = tt
shallow_redirect link (at.SectionGroupEnd s) h = tt
shallow_redirect link at.TlsEnd h = tt
shallow_redirect link at.LoadBaseAddress h = tt

shallow_event : (link : LinkInput) (e : OrderEvent) → HasGoodMove link e → IsShallowEvent e
shallow_event link (SegmentStart i) h = tt
shallow_event link (SegmentEnd i) h = tt
shallow_event link (Section s) h = tt
shallow_event link (SetLocation x) h = h.shallow
shallow_event link (SetLocationRelative x s) h = h.shallow
shallow_event link (SetSectionAddress x) h = h.shallow

redirects : (link : LinkInput) → AreGoodExpressions link → HasShallowRedirects link.groups
redirects link good g d below n f within i x less =
    let files : List InputFile = slice_index_or link.groups g d in
    let file : InputFile = slice_index_or files n f in
    let there : file_in link.groups (record { group = g; file = n }) ≡ Some file =
    ap (option_and_then (λ fs. slice_get fs n)) (slice_get-get_or link.groups g d below) ∙ slice_get-get_or files n f within in
    shallow_redirect link (slice_index_or file.symbols i x).at
    (good.by_file (record { group = g; file = n }) i file (slice_index_or file.symbols i x) there (slice_get-get_or file.symbols i x less))

pub shallow_link : (link : LinkInput) → IsWellFormed link → AreShallow link
shallow_link link well =
    let good : AreGoodExpressions link = good_expressions link well in
    record {
      base = good.base.shallow;
      regions = λ i d below. let both = good.regions i (slice_index_or link.plan.regions i d) (slice_get-get_or link.plan.regions i d below) in (both.0.shallow, both.1.shallow);
      redirects = redirects link good;
      events = λ k e here. shallow_event link e (good.moves k e here);
      loads = λ s x here e named. (good.addresses s x here e named).shallow;
    }
