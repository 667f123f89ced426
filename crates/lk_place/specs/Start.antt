-- Where the walk begins, if it does: regions are evaluated first, then constants by them, and then the base.
use Rattle.std.specs.Prelude.{◌≡◌, ℕ, List, [], None, Some, Option, Result, Ok, Err, slice_get}
use Rattle.lk_link.specs.declared.file.InputFile.{InputFile}
use Rattle.lk_link.specs.declared.plan.Plan.{Plan}
use Rattle.lk_place.specs.declared.cursors.Cursors.{Cursors}
use Rattle.lk_place.specs.declared.error.PlaceError.{PlaceError}
use Rattle.lk_place.specs.declared.error.PlaceError.TheVariants.{NoMemory}
use Rattle.lk_place.specs.declared.start.Beginning.{Beginning}
use Rattle.lk_place.specs.Base.{first_memory, known_first}
use Rattle.lk_expressions.specs.Constants.{constants_of}
use Rattle.lk_expressions.specs.Expressions.{Valued, ◌>>=◌, expression_value}
use Rattle.lk_place.specs.AtHand.{AreAtHand}
use Rattle.lk_place.specs.Regions.{given_regions, regions_of}
use Rattle.lk_place.specs.Setting.{Setting}
use Rattle.lk_expressions.specs.Surroundings.{early_operand}

-- what constant redirects are worth, by the headers, and by origin and length of each region
abbrev pub constants_by : List (List InputFile) → ℕ → List (ℕ × ℕ) → List (Option Valued)
constants_by groups headers regions = constants_of (record { groups = groups; headers = headers; regions = regions })

-- the base by the regions: it may speak of them and of constants, and of nothing that is placed
abbrev pub base_by : Plan → List (List InputFile) → ℕ → List (ℕ × ℕ) → Valued
base_by plan groups headers regions = expression_value (early_operand (known_first groups headers regions (constants_by groups headers regions))) plan.base

-- the same, where no region is refused
abbrev pub base_value : Setting → Valued
base_value setting = base_by setting.plan setting.groups setting.headers (given_regions (regions_of setting.plan.regions))

-- where memory begins: the first refusal of the regions, else what the base gives
abbrev pub begun_memory : Plan → List (List InputFile) → ℕ → Result ℕ PlaceError
begun_memory plan groups headers = regions_of plan.regions >>= λ regions. first_memory plan headers (base_by plan groups headers regions)

-- the cursors before the first event, where memory begins here: the file begins at 0, nothing is saved, and no location waits
abbrev pub first_cursors : ℕ → Cursors
first_cursors memory = record { file = 0; memory = memory; saved = None; pending = None }

-- stand for cursors where there are none
abbrev pub no_cursors : Cursors
no_cursors = first_cursors 0

-- where the walk begins, unless memory doesn't
abbrev pub start : Setting → Result Cursors PlaceError
start setting = begun_memory setting.plan setting.groups setting.headers >>= λ memory. Ok (first_cursors memory)

-- states begin there; where that is refused, there are none
abbrev pub BeginsAt : Result Cursors PlaceError → List Cursors → Type 0
BeginsAt (Ok c) states = slice_get states 0 ≡ Some c
BeginsAt (Err e) states = states ≡ []

-- ---- what the code makes of it

-- what is known before the first event is so
pub record IsBegun (plan : Plan) (groups : List (List InputFile)) (headers : ℕ) (b : Beginning) : Type 0 where
  pub regions : regions_of plan.regions ≡ Ok b.regions
  pub constants : AreAtHand plan (constants_by groups headers b.regions) b.constants.items
  pub base : base_by plan groups headers b.regions ≡ Ok b.base
  pub memory : begun_memory plan groups headers ≡ Ok b.memory

-- that, or the refusal, or want of memory
abbrev pub GivesBeginning : Plan → List (List InputFile) → ℕ → Result Beginning PlaceError → Type 0
GivesBeginning plan groups headers (Ok b) = IsBegun plan groups headers b
GivesBeginning plan groups headers (Err NoMemory) = Unit {0}
GivesBeginning plan groups headers (Err e) = begun_memory plan groups headers ≡ Err e
