-- A pass over sections: what more is deleted of each, by the addresses before the pass.
use Rattle.std.specs.Prelude.{◌≡◌, ℕ, ◌+◌, ◌-◌, ◌^◌, if◌then◌else◌, List, [], Option, Some, None, nat_le, nat_lt, option_and_then, slice_get, true}
use Rattle.std.specs.Int.{abs_diff}
use Rattle.std.specs.Option.{option_map_or}
use Rattle.lk_link.specs.declared.file.InputFile.{InputFile}
use Rattle.lk_link.specs.declared.flags.TheConstants.ValueFlags as flag
use Rattle.lk_link.specs.declared.ids.FileId.{FileId}
use Rattle.lk_link.specs.declared.link.LinkInput.{LinkInput}
use Rattle.lk_link.specs.declared.relocation.RelaxCandidate.{RelaxCandidate}
use Rattle.lk_link.specs.declared.section.InputSection.{InputSection}
use Rattle.lk_link.specs.declared.symbol.SymbolPlacement.{SymbolPlacement}
use Rattle.lk_link.specs.declared.symbol.SymbolPlacement.TheVariants as at
use Rattle.lk_link.specs.Files.{file_in, first_some}
use Rattle.lk_link.specs.Flags.{has_flag}
use Rattle.lk_link.specs.InputSlots.{is_regular}
use Rattle.lk_link.specs.Symbols.{definition_of, first_symbol, symbol_at}
use Rattle.lk_live.specs.declared.live.Live.{Live}
use Rattle.lk_expressions.specs.declared.positions.SymbolPosition.{SymbolPosition}
use Rattle.lk_expressions.specs.Records.{Record, record_at}
use Rattle.lk_expressions.specs.Surroundings.{flat}
use Rattle.lk_deltas.specs.declared.candidates.Outcome.{Outcome}
use Rattle.lk_deltas.specs.declared.candidates.Outcome.TheVariants as outcome
use Rattle.lk_deltas.specs.Candidates.{AreOf, margin, picked, ranges_in}
use Rattle.lk_tables.specs.Late.{flags_at}
use Rattle.lk_deltas.specs.LinkDeletions.{Deletions, deleted_of, output_offset}
use Rattle.lk_relax.specs.Positions.{position_in}

-- how all stands before a pass: a link and what is live of it, the positions of its input sections and symbols, the records of all parts,
-- and what is deleted
pub record PassState : Type 0 where
  pub link : LinkInput
  pub live : Live
  pub sections : List (Option (ℕ × ℕ))
  pub symbols : List (Option SymbolPosition)
  pub parts : List Record
  pub deletions : Deletions

-- ---- addresses

-- a number as an address, if it is one
abbrev pub as_address : ℕ → Option ℕ
as_address n = if nat_lt n (2 ^ 64) then Some n else None

-- the address at so many bytes from a part's start
abbrev pub address_in : List Record → ℕ → ℕ → Option ℕ
address_in parts p offset = as_address ((record_at parts p).mem_offset + offset)

-- the address of an offset of a section of a file, if the section has a position
abbrev pub site : PassState → FileId → ℕ → ℕ → Option ℕ
site by id index offset =
    option_and_then (λ p. address_in by.parts p.0 (p.1 + output_offset by.link.groups by.deletions id index offset)) (position_in by.link.groups by.sections id index)

-- the number that a symbol is, if it is absolute
abbrev pub absolute_value : SymbolPlacement → Option ℕ
absolute_value (at.Absolute n) = Some n
absolute_value _ = None

-- the address of a symbol by its number: the number that it is, or where it stands; none if it has none, or another may take its place
abbrev pub target : PassState → ℕ → Option ℕ
target by s =
    if has_flag flag.INTERPOSABLE.0 (flags_at by.live.flags s).0 then None
    else first_some (option_and_then (λ x. absolute_value x.at) (symbol_at by.link.groups s))
    (option_and_then (λ p. address_in by.parts p.part p.offset) (flat (slice_get by.symbols s)))

-- ---- outcomes

-- what comes of a candidate with a limit, by the addresses of its symbol and of its site
abbrev pub outcome_by : Option ℕ → Option ℕ → ℕ → Outcome
outcome_by (Some a) (Some b) limit = if nat_le (abs_diff a b) limit then outcome.Goes else outcome.Short (abs_diff a b - limit)
outcome_by _ _ limit = outcome.Untouched

-- what comes of a candidate of a section of a file whose bytes are there: by what stands for its symbol
abbrev pub told : PassState → FileId → ℕ → RelaxCandidate → Outcome
told by id index c =
    outcome_by (option_and_then (target by) (definition_of by.link.groups (first_symbol by.link.groups id + c.symbol))) (site by id index c.at) c.limit

-- ---- the pass

-- the candidates of a section of a file
abbrev pub candidates_of : List (List InputFile) → FileId → ℕ → List RelaxCandidate
candidates_of groups id index = option_map_or (λ s. s.relax) (option_and_then (λ f. slice_get f.sections index) (file_in groups id)) []

-- what is deleted of a section of a file
abbrev pub ranges_of : List (List InputFile) → Deletions → FileId → ℕ → List (ℕ × ℕ)
ranges_of groups deletions id index = ranges_in (deleted_of groups deletions id index)

-- a section can be looked at: it is there, no debug data and not merged, and what is deleted of it are bytes of some of its candidates
pub record CanBeScanned (groups : List (List InputFile)) (deletions : Deletions) (id : FileId) (index : ℕ) : Type 0 where
  pub file : InputFile
  pub there : file_in groups id ≡ Some file
  pub section : InputSection
  pub at : slice_get file.sections index ≡ Some section
  pub regular : is_regular section.slot ≡ true
  pub of : AreOf (ranges_of groups deletions id index) section.relax

-- what a pass finds in a section of a file: what more is deleted of it, and the margin, by how much the nearest one of the others misses
abbrev pub scanned : PassState → FileId × ℕ → FileId × ℕ × List (ℕ × ℕ) × Option ℕ
scanned by q =
    let cs = candidates_of by.link.groups q.0 q.1 in
    let old = ranges_of by.link.groups by.deletions q.0 q.1 in
    (q.0, q.1, picked (told by q.0 q.1) old cs, margin (told by q.0 q.1) old cs)
