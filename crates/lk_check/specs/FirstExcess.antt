-- The first list of a link that is longer than it may be.
use Rattle.std.specs.Prelude.{◌-◌, ◌^◌, List, [], ◌∷◌, Option, option_map, find, min, nat_lt}
use Rattle.lk_link.specs.declared.fault.Limited.{Limited}
use Rattle.lk_link.specs.declared.fault.Limited.TheVariants as limited
use Rattle.lk_link.specs.declared.fault.LinkFault.{LinkFault}
use Rattle.lk_link.specs.declared.fault.LinkFault.TheVariants.{TooMany}
use Rattle.lk_link.specs.declared.link.LinkInput.{LinkInput}
use Rattle.lk_link.specs.Limits.{counted, limit_of}

-- the order in which lists are looked at
abbrev pub all_limits : List Limited
all_limits = limited.Groups ∷ limited.Files ∷ limited.OutputSections ∷ limited.Parts ∷ limited.Segments ∷ limited.Regions ∷ limited.Events
    ∷ limited.Symbols ∷ limited.InputSections ∷ limited.Candidates ∷ limited.Relocations ∷ limited.Relaxations
    ∷ limited.NameBytes ∷ limited.MergeBytes ∷ []

-- the fault of a list that is too long; a count past 2^64 - 1 is given as that
abbrev pub excess : LinkInput → Limited → LinkFault
excess link what = TooMany what (min (counted link what) (2 ^ 64 - 1)) (limit_of what)

-- the first list that is too long
abbrev pub first_exceeded : LinkInput → Option Limited
first_exceeded link = find (λ what. nat_lt (limit_of what) (counted link what)) all_limits

-- its fault
unfoldable pub first_excess : LinkInput → Option LinkFault
first_excess link = option_map (excess link) (first_exceeded link)
