-- How it is told why a link isn't laid out.
use Rattle.std.specs.Prelude.{ℕ, false, List, [], ◌∷◌, ◌++◌, codes}
use Rattle.std.specs.Fmt.{decimal, digits}
use Rattle.std.specs.List.{flat_map}
use Rattle.lk_live.specs.declared.error.ReferenceFault.{ReferenceFault}
use Rattle.lk_live.specs.Texts.{input_text, reference_text}
use Rattle.lk_link.specs.declared.fault.LinkFault.TheVariants as fault
use Rattle.lk_link.specs.declared.ids.FileId.{FileId}
use Rattle.lk_link.specs.Texts.{joined, link_fault_text, place_text}
use Rattle.lk_expressions.specs.ExpressionTexts.{cause_text}
use Rattle.lk_layout.specs.declared.error.LayoutError.{LayoutError}
use Rattle.lk_layout.specs.declared.error.LayoutError.TheVariants as layout
use Rattle.lk_layout.specs.declared.error.ReachKind.{ReachKind}
use Rattle.lk_layout.specs.declared.error.ReachKind.TheVariants as reach
use Rattle.lk_resolutions.specs.Texts.{merge_offset_text}

-- a number with its digits to the base of 16
abbrev pub hexadecimal : ℕ → List ℕ
hexadecimal n = digits 16 false n

-- a base without room for the headers below it
unfoldable pub low_base_text : ℕ → ℕ → List ℕ
low_base_text base headers =
    joined (codes "base address (0x" ∷ hexadecimal base ∷ codes ") is less than the size of headers (0x" ∷ hexadecimal headers ∷ codes ")" ∷ [])

-- an input of an output section whose strings don't end in a zero byte
unfoldable pub unterminated_text : ℕ → ℕ → List ℕ
unterminated_text section input =
    joined (codes "String in merge-string section is not null-terminated: section " ∷ decimal section ∷ codes ", input " ∷ decimal input ∷ [])

-- a bucket of an output section without room for a piece that would start at an offset there
unfoldable pub full_bucket_text : ℕ → ℕ → ℕ → ℕ → List ℕ
full_bucket_text section bucket offset len =
    joined (codes "Merge-string bucket too large: section " ∷ decimal section ∷ codes ", bucket " ∷ decimal bucket
    ∷ codes ", offset " ∷ decimal offset ∷ codes ", length " ∷ decimal len ∷ [])

-- a region with the name of an earlier one
unfoldable pub duplicate_text : ℕ → List ℕ
duplicate_text region = joined (codes "region " ∷ decimal region ∷ codes " already defined" ∷ [])

-- a section whose region isn't there
unfoldable pub undeclared_text : ℕ → List ℕ
undeclared_text section = joined (codes "region of section " ∷ decimal section ∷ codes " not declared" ∷ [])

-- a region whose sections take more bytes than it has
unfoldable pub full_region_text : ℕ → ℕ → List ℕ
full_region_text region by = joined (codes "region " ∷ decimal region ∷ codes " overflowed by " ∷ decimal by ∷ codes " bytes" ∷ [])

-- a location outside its region
unfoldable pub outside_text : ℕ → ℕ → List ℕ
outside_text event address = joined (codes "address 0x" ∷ hexadecimal address ∷ codes " at event " ∷ decimal event ∷ codes " is outside its region" ∷ [])

-- a location before where it may stand
unfoldable pub backwards_text : ℕ → ℕ → List ℕ
backwards_text from to =
    joined (codes "Cannot move location counter backwards (from 0x" ∷ hexadecimal from ∷ codes " to 0x" ∷ hexadecimal to ∷ codes ")" ∷ [])

-- what doesn't reach, in a word
unfoldable pub reach_text : ReachKind → List ℕ
reach_text reach.Branch = codes "branch"
reach_text reach.Relaxed = codes "relaxed"

-- a relocation that doesn't reach, by its file, its section's index and its own
unfoldable pub out_of_reach_text : ReachKind → FileId → ℕ → ℕ → List ℕ
out_of_reach_text kind file section index =
    joined (codes "out of reach: " ∷ reach_text kind ∷ codes " " ∷ input_text file section ∷ codes " " ∷ decimal index ∷ [])

-- references that can't be met, each on a line of its own behind another line
abbrev pub further_lines : List ReferenceFault → List ℕ
further_lines faults = flat_map (λ fault. codes "\n" ++ reference_text fault) faults

-- the same, a line for each
abbrev pub references_text : List ReferenceFault → List ℕ
references_text [] = []
references_text (fault ∷ faults) = reference_text fault ++ further_lines faults

-- why a link isn't laid out: a fault as lk_link tells it; want of memory has no text
abbrev pub error_text : LayoutError → List ℕ
error_text layout.NoMemory = []
error_text (layout.TooMany what count limit) = link_fault_text (fault.TooMany what count limit)
error_text (layout.BadLink rule place) = link_fault_text (fault.BadLink rule place)
error_text (layout.MergeNotTerminated section input) = unterminated_text section input
error_text (layout.MergeTooLarge section bucket offset len) = full_bucket_text section bucket offset len
error_text (layout.References faults) = references_text faults
error_text (layout.AddressOverflow place) = joined (codes "address overflow: " ∷ place_text place ∷ [])
error_text (layout.RegionDuplicate region) = duplicate_text region
error_text (layout.Expression place cause) =
    joined (codes "expression at " ∷ place_text place ∷ codes ": " ∷ cause_text cause ∷ [])
error_text (layout.RegionUnknown section) = undeclared_text section
error_text (layout.RegionOverflow region by) = full_region_text region by
error_text (layout.OutsideRegion event address) = outside_text event address
error_text (layout.LocationBackwards from to) = backwards_text from to
error_text (layout.BaseTooLow base headers) = low_base_text base headers
error_text (layout.SectionOutsideSegments section) = joined (codes "section " ∷ decimal section ∷ codes " is in no segment" ∷ [])
error_text (layout.MergeOffset place) = merge_offset_text place
error_text (layout.OutOfReach kind file section index) = out_of_reach_text kind file section index
