-- Laws on deleted ranges.
use Rattle.std.specs.Prelude.{◌≡◌, ℕ, ◌+◌, ◌^◌, ◌<◌, ◌≤◌, List, [], map}
use Rattle.std.specs.List.{Contains}
use Rattle.lk_link.specs.InputRules.{IsGoodInput}
use Rattle.lk_link.specs.declared.plan.Plan.{Plan}
use Rattle.lk_link.specs.declared.section.InputSection.{InputSection}
use Rattle.lk_link.specs.declared.relocation.RelaxCandidate.{RelaxCandidate}
use Rattle.lk_deltas.specs.declared.candidates.Outcome.{Outcome}
use Rattle.lk_deltas.specs.Candidates.{AreCandidates, AreOf, picked, range_of, shrunk}
use Rattle.lk_deltas.specs.Deletions.{AreApart, AreBoth, AreDeletions, RiseWithin, mapped}

-- offsets keep their order
abbrev pub OffsetsKeepOrder : Type 0
OffsetsKeepOrder = (ranges : List (ℕ × ℕ)) (a b : ℕ) → AreDeletions ranges → a ≤ b → mapped ranges a ≤ mapped ranges b

-- an offset in a deleted range, or at its end, goes where the range's start goes
abbrev pub RangesGoToTheirStarts : Type 0
RangesGoToTheirStarts = (ranges : List (ℕ × ℕ)) (r : ℕ × ℕ) (a : ℕ) → AreDeletions ranges → Contains ranges r
    → r.0 ≤ a → a ≤ r.0 + r.1
    → mapped ranges a ≡ mapped ranges r.0

-- where more is deleted, an offset goes at most as far from the start
abbrev pub OffsetsOnlyFall : Type 0
OffsetsOnlyFall = (old more all : List (ℕ × ℕ)) (a : ℕ) → AreBoth old more all → mapped all a ≤ mapped old a

-- two lists of ranges have one list of both that can be deleted, if any
abbrev pub BothAreOne : Type 0
BothAreOne = (old more all other : List (ℕ × ℕ)) → AreBoth old more all → AreBoth old more other → other ≡ all

-- the candidates of a good section can go, and end inside it
abbrev pub GoodCandidatesCanGo : Type 0
GoodCandidatesCanGo = (plan : Plan) (symbols : ℕ) (s : InputSection) → IsGoodInput plan symbols s → s.size < 2 ^ 64
    → AreCandidates s.relax × RiseWithin 0 s.size (map range_of s.relax)

-- nothing is the ranges of none of the candidates
abbrev pub NothingIsOf : Type 0
NothingIsOf = (cs : List RelaxCandidate) → AreOf [] cs

-- what a pass picks can be deleted
abbrev pub PickedCanGo : Type 0
PickedCanGo = (told : RelaxCandidate → Outcome) (old : List (ℕ × ℕ)) (cs : List RelaxCandidate) → AreCandidates cs
    → AreDeletions (picked told old cs)

-- what is deleted and what a pass picks are together what is deleted behind the pass
abbrev pub PickedAreNew : Type 0
PickedAreNew = (told : RelaxCandidate → Outcome) (old : List (ℕ × ℕ)) (cs : List RelaxCandidate) → AreCandidates cs → AreOf old cs
    → AreBoth old (picked told old cs) (shrunk told old cs)

-- what is deleted behind a pass are ranges of some of the candidates again
abbrev pub ShrunkAreOf : Type 0
ShrunkAreOf = (told : RelaxCandidate → Outcome) (old : List (ℕ × ℕ)) (cs : List RelaxCandidate) → AreCandidates cs
    → AreOf (shrunk told old cs) cs

-- two lists of ranges that can be deleted, apart, have one list of both
abbrev pub ApartHaveBoth : Type 0
ApartHaveBoth = (old more : List (ℕ × ℕ)) → AreDeletions old → AreDeletions more → AreApart old more
    → (all : List (ℕ × ℕ)) × AreBoth old more all
