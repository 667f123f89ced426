-- How limits, rules, places and faults are written.
use Rattle.std.specs.Prelude.{ℕ, List, [], ◌∷◌, ◌++◌, codes}
use Rattle.std.specs.Fmt.{decimal}
use Rattle.lk_link.specs.declared.fault.Limited.{Limited}
use Rattle.lk_link.specs.declared.fault.Limited.TheVariants as limited
use Rattle.lk_link.specs.declared.fault.LinkFault.{LinkFault}
use Rattle.lk_link.specs.declared.fault.LinkFault.TheVariants.{TooMany, BadLink}
use Rattle.lk_link.specs.declared.fault.Rule.{Rule}
use Rattle.lk_link.specs.declared.fault.Rule.TheVariants as rule
use Rattle.lk_link.specs.declared.fault.Place.{Place}
use Rattle.lk_link.specs.declared.fault.Place.TheVariants as place

-- the pieces, one after the other
abbrev pub joined : List (List ℕ) → List ℕ
joined [] = []
joined (t ∷ []) = t
joined (t ∷ u ∷ ts) = t ++ joined (u ∷ ts)

-- what a limit speaks of
abbrev pub limited_text : Limited → List ℕ
limited_text limited.Groups = codes "groups"
limited_text limited.Files = codes "files"
limited_text limited.OutputSections = codes "output sections"
limited_text limited.Parts = codes "parts"
limited_text limited.Segments = codes "segments"
limited_text limited.Regions = codes "regions"
limited_text limited.Events = codes "events"
limited_text limited.Symbols = codes "symbols"
limited_text limited.InputSections = codes "input sections"
limited_text limited.Candidates = codes "candidates"
limited_text limited.Relocations = codes "relocations"
limited_text limited.Relaxations = codes "relaxations"
limited_text limited.NameBytes = codes "name bytes"
limited_text limited.MergeBytes = codes "merge bytes"

-- the number under which a rule is told
abbrev pub rule_number : Rule → ℕ
rule_number rule.Options = 1
rule_number rule.Page = 2
rule_number rule.Sections = 3
rule_number rule.PartFields = 4
rule_number rule.Singletons = 5
rule_number rule.TlsSegment = 6
rule_number rule.Events = 7
rule_number rule.Expressions = 8
rule_number rule.Prelude = 9
rule_number rule.Symbols = 10
rule_number rule.InputSections = 11
rule_number rule.Tables = 12
rule_number rule.Candidates = 13
rule_number rule.Data = 14

-- a place
abbrev pub place_text : Place → List ℕ
place_text place.Options = codes "options"
place_text place.Plan = codes "plan"
place_text place.Base = codes "base"
place_text (place.Section i) = joined (codes "section " ∷ decimal i ∷ [])
place_text (place.PartField k) = joined (codes "part field " ∷ decimal k ∷ [])
place_text (place.Part p) = joined (codes "part " ∷ decimal p ∷ [])
place_text (place.Segment i) = joined (codes "segment " ∷ decimal i ∷ [])
place_text (place.Region i) = joined (codes "region " ∷ decimal i ∷ [])
place_text (place.Event i) = joined (codes "event " ∷ decimal i ∷ [])
place_text (place.Symbol s) = joined (codes "symbol " ∷ decimal s ∷ [])
place_text (place.File id) = joined (codes "file " ∷ decimal id.group ∷ codes " " ∷ decimal id.file ∷ [])
place_text (place.Input id i) = joined (codes "input " ∷ decimal id.group ∷ codes " " ∷ decimal id.file ∷ codes " " ∷ decimal i ∷ [])

-- a fault
abbrev pub link_fault_text : LinkFault → List ℕ
link_fault_text (TooMany what count limit) =
    joined (codes "too many " ∷ limited_text what ∷ codes ": " ∷ decimal count ∷ codes ", limit " ∷ decimal limit ∷ [])
link_fault_text (BadLink r p) = joined (codes "bad link: rule " ∷ decimal (rule_number r) ∷ codes ", " ∷ place_text p ∷ [])
