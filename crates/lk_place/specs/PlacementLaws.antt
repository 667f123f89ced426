-- Laws of the definition of placement: there is one, it is one, and parts take their bytes.
use Rattle.std.specs.Prelude.{◌≡◌, List, None, map}
use Rattle.lk_place.specs.declared.cursors.Cursors.{Cursors}
use Rattle.lk_place.specs.Placement.{IsPlaced, placement_refusal}
use Rattle.lk_expressions.specs.Records.{Record}
use Rattle.lk_place.specs.Setting.{IsReady, Setting}

-- there is a placement of each plan, up to the first refused event
abbrev pub PlacementExists : Type 0
PlacementExists = (setting : Setting) → IsReady setting
    → (states : List Cursors) × (records : List Record) × IsPlaced setting states records

-- there is one alone: the same states and the same records
abbrev pub PlacementIsOne : Type 0
PlacementIsOne = (setting : Setting) (states states' : List Cursors) (records records' : List Record) → IsReady setting
    → IsPlaced setting states records → IsPlaced setting states' records' → (states ≡ states') × (records ≡ records')

-- where nothing is refused, the record of each part takes exactly its bytes in memory
abbrev pub PartsTakeTheirBytes : Type 0
PartsTakeTheirBytes = (setting : Setting) (states : List Cursors) (records : List Record) → IsReady setting
    → IsPlaced setting states records → placement_refusal setting states records ≡ None → map (λ r. r.mem_size) records ≡ setting.sizes
