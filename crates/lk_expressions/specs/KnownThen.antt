-- What the code knows when it evaluates expressions, as definitions see it.
use Rattle.std.specs.Prelude.{ℕ, Option}
use Rattle.lk_expressions.specs.declared.constants.BeforeAll.{BeforeAll}
use Rattle.lk_expressions.specs.declared.early.EarlySurroundings.{EarlySurroundings}
use Rattle.lk_expressions.specs.declared.late.LateSurroundings.{LateSurroundings}
use Rattle.lk_expressions.specs.Constants.{Before}
use Rattle.lk_expressions.specs.Records.{Record}
use Rattle.lk_expressions.specs.Surroundings.{Early, Late}

-- before anything is placed
abbrev pub before_of : BeforeAll → Before
before_of known = record { groups = known.link.now.groups; headers = known.headers; regions = known.regions.now }

-- while sections are placed
abbrev pub early_of : {R : Type 0} → (R → ℕ → Option Record) → (R → ℕ → Option Record) → EarlySurroundings R → Early
early_of section part known = record {
  groups = known.link.now.groups;
  dot = known.dot;
  headers = known.headers;
  regions = known.regions.now;
  constants = known.constants.now;
  section = section known.records.now;
  part = part known.records.now;
  positions = known.positions.now;
}

-- when all is placed
abbrev pub late_of : {V : Type 0} → (V → ℕ → Option ℕ) → LateSurroundings V → Late
late_of value known = record {
  groups = known.link.now.groups;
  own = known.own;
  dot = known.dot;
  headers = known.headers;
  regions = known.regions.now;
  sections = known.sections.now;
  values = value known.values.now;
}
