-- Verdicts: the laws that a map whose lines rise has one, that nothing has two, and that good maps alone have that of no fault.
use Rattle.std.specs.Prelude.{◌≡◌, ◌↔◌, ℕ, List, Result, Ok}
use Rattle.lk_map.specs.declared.check.MapFault.{MapFault}
use Rattle.lk_map.specs.declared.map_text.SectionLine.{SectionLine}
use Rattle.lk_map.specs.declared.map_text.SegmentLine.{SegmentLine}
use Rattle.lk_map.specs.Checking.{IsVerdict}
use Rattle.lk_map.specs.Good.{IsGood}
use Rattle.lk_map.specs.MapText.{LinesRise}
use Rattle.lk_map.specs.Written.{TextSays}

-- the sections of a map stand in rising order of their lines
abbrev pub MapsRise : Type 0
MapsRise = (text : List ℕ) (sections : List SectionLine) (segments : List SegmentLine) → TextSays text (Ok (sections, segments)) → LinesRise sections

-- sections whose lines rise, with any segments, have a verdict
abbrev pub MapsAreJudged : Type 0
MapsAreJudged =
    (sections : List SectionLine) (segments : List SegmentLine) → LinesRise sections → (result : Result (Unit {0}) MapFault) × IsVerdict result sections segments

-- two verdicts on the same sections and segments are equal
abbrev pub VerdictsAgree : Type 0
VerdictsAgree =
    (sections : List SectionLine) (segments : List SegmentLine) (one other : Result (Unit {0}) MapFault) → IsVerdict one sections segments → IsVerdict other sections segments → one ≡ other

-- a verdict finds no fault exactly where the map is good
abbrev pub VerdictsTellGood : Type 0
VerdictsTellGood =
    (sections : List SectionLine) (segments : List SegmentLine) (result : Result (Unit {0}) MapFault) → IsVerdict result sections segments → (result ≡ Ok tt) ↔ IsGood sections segments
