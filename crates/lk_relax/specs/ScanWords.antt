-- What the code goes by: what a judge of one section holds, of which contracts of private functions speak, and how all stands.
use Rattle.std.specs.Prelude.{◌≡◌, ℕ, ◌+◌, ◌-◌, ◌<◌, ◌^◌, if◌then◌else◌, List, [], Option, nat_le, option_and_then, slice_get}
use Rattle.std.specs.Option.{option_copied}
use Rattle.lk_link.specs.declared.link.LinkInput.{LinkInput}
use Rattle.lk_link.specs.declared.relocation.RelaxCandidate.{RelaxCandidate}
use Rattle.lk_live.specs.declared.live.Live.{Live}
use Rattle.lk_link.specs.Symbols.{definition_of, symbol_at}
use Rattle.lk_expressions.specs.declared.positions.SymbolPosition.{SymbolPosition}
use Rattle.lk_expressions.specs.Records.{Record}
use Rattle.lk_deltas.specs.declared.candidates.Outcome.{Outcome}
use Rattle.lk_deltas.specs.declared.candidates.Outcome.TheVariants as outcome
use Rattle.lk_deltas.specs.Deletions.{mapped_by}
use Rattle.lk_relax.specs.declared.judge.SectionJudge.{SectionJudge}
use Rattle.lk_relax.specs.declared.scan.StandingLink.{StandingLink}
use Rattle.lk_relax.specs.Scan.{PassState, address_in, outcome_by, target}

-- the address of a symbol by its number, by what is lent
abbrev pub target_in : LinkInput → Live → List (Option SymbolPosition) → List Record → ℕ → Option ℕ
target_in link live symbols parts s =
    target (record { link = link; live = live; sections = []; symbols = symbols; parts = parts; deletions = [] }) s

-- that of an offset of a section with a position, by what is deleted of it
abbrev pub site_in : List Record → Option (ℕ × ℕ) → Option (List (ℕ × ℕ)) → ℕ → Option ℕ
site_in parts position deleted offset = option_and_then (λ p. address_in parts p.0 (p.1 + mapped_by deleted offset)) position

-- what comes of a candidate by its distance
abbrev pub by_distance : ℕ → ℕ → Outcome
by_distance distance limit = if nat_le distance limit then outcome.Goes else outcome.Short (distance - limit)

-- what a judge tells
abbrev pub judged : SectionJudge → RelaxCandidate → Outcome
judged j c =
    outcome_by (option_and_then (target_in j.link.now j.live.now j.symbols.now j.parts.now) (definition_of j.link.now.groups (j.first + c.symbol)))
    (site_in j.parts.now j.position (option_copied j.deleted) c.at) c.limit

-- it tells of candidates of symbols of its file, which have numbers of 32 bits
pub record IsNumbered (j : SectionJudge) (c : RelaxCandidate) : Type 0 where
  pub few : j.first + c.symbol < 2 ^ 32
  pub own : symbol_at j.link.now.groups (j.first + c.symbol) ≡ slice_get j.own.now c.symbol

-- how all stands, by what is lent
abbrev pub pass_state_of : StandingLink → PassState
pass_state_of s = record {
  link = s.link.now;
  live = s.live.now;
  sections = s.sections.now;
  symbols = s.symbols.now;
  parts = s.parts.now;
  deletions = s.deltas.now;
}
