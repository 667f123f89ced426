-- Reading a link description: what bytes give, or why they give none.
use Rattle.std.specs.Prelude.{◌≡◌, ℕ, List, [], Option, Some, None, Result, Ok, Err, if◌then◌else◌}
use Rattle.std.specs.Str.{is_utf8}
use Rattle.serde_json.specs.Data.{Data}
use Rattle.serde_json.specs.Read.{read as read_json}
use Rattle.lk_link.specs.declared.link.LinkInput.{LinkInput}
use Rattle.lk_input.specs.declared.read.error.InputError.{InputError}
use Rattle.lk_input.specs.declared.read.error.InputError.TheVariants.{NotJson, Shape, NoMemory}
use Rattle.lk_input.specs.ReadingSteps.{Path, ◌>>=◌, object, required, defaulted, object_or_empty, written}
use Rattle.lk_input.specs.ReadingOptions.{options_of}
use Rattle.lk_input.specs.ReadingPlan.{plan_of}
use Rattle.lk_input.specs.ReadingFiles.{groups_of}

-- the whole description: the plan must be given
unfoldable pub link_of : Data → Result LinkInput Path
link_of d = do
  _ ← object d
  options ← object_or_empty options_of (written "options") d
  plan ← required plan_of (written "plan") d
  groups ← defaulted [] groups_of (written "groups") d
  Ok (record { options = options; plan = plan; groups = groups })

-- the JSON value that bytes are
abbrev pub json_of : List ℕ → Option Data
json_of bytes = if is_utf8 bytes then read_json bytes else None

-- what is read, or where its first value of a wrong shape is
abbrev pub shaped : {A : Type 0} → Result A Path → Result A InputError
shaped (Ok x) = Ok x
shaped (Err path) = Err (Shape path)

-- what a JSON value gives
abbrev pub reading_of_json : Option Data → Result LinkInput InputError
reading_of_json None = Err NotJson
reading_of_json (Some d) = shaped (link_of d)

-- the description that bytes give, or why they give none
abbrev pub reading_of : List ℕ → Result LinkInput InputError
reading_of bytes = reading_of_json (json_of bytes)

-- what was answered is the reading, unless memory ran out
abbrev pub Answers : {A : Type 0} → Result A InputError → Result A InputError → Type 0
Answers (Ok x) reading = reading ≡ Ok x
Answers (Err NotJson) reading = reading ≡ Err NotJson
Answers (Err (Shape path)) reading = reading ≡ Err (Shape path)
Answers (Err NoMemory) reading = Unit {0}
