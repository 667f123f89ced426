-- Words of private contracts: what is taken into a set, by stamps of symbols.
use Rattle.std.specs.Prelude.{◌≡◌, ℕ, ◌<◌, ◌≤◌, ◌==◌, ◌&&◌, Bool, if◌then◌else◌, List, count_by, length, nat_lt, slice_index}
use Rattle.lk_link.specs.declared.link.LinkInput.{LinkInput}
use Rattle.lk_link.specs.Marks.{is_marked}
use Rattle.lk_link.specs.Symbols.{all_symbols}
use Rattle.lk_live.specs.declared.live.Live.{Live}
use Rattle.lk_thunks.specs.declared.sets.Planner.{Planner}
use Rattle.lk_thunks.specs.ThunkSets.{Planning, is_named_elsewhere}

-- what thunks are planned by, as contracts see it
abbrev pub planning_of : Planner → Planning
planning_of by = record { link = by.link.now; live = by.live.now; range = by.range; ranges = by.ranges.now }

-- the symbols that pass a test have a stamp, and stand in a set, each once
pub record AreNoted (stamp : ℕ) (test : ℕ → Bool) (stamps set : List ℕ) : Type 0 where
  pub told : (d : ℕ) → d < length stamps → (slice_index stamps d == stamp) ≡ test d
  pub once : (d : ℕ) → count_by (λ x. x == d) set ≡ (if nat_lt d (length stamps) && test d then 1 else 0)
  pub few : (d : ℕ) → d < length stamps → slice_index stamps d ≤ stamp

-- a mark for each symbol, set exactly where the symbol is named elsewhere
pub record AreElsewhere (link : LinkInput) (live : Live) (marks : List Bool) : Type 0 where
  pub count : length marks ≡ length (all_symbols link.groups)
  pub each : (d : ℕ) → d < length marks → is_marked marks d ≡ is_named_elsewhere link live d

-- a stamp for each symbol, none above a number
pub record AreFresh (by : Planning) (number : ℕ) (stamps : List ℕ) : Type 0 where
  pub count : length stamps ≡ length (all_symbols by.link.groups)
  pub few : (d : ℕ) → d < length stamps → slice_index stamps d ≤ number
