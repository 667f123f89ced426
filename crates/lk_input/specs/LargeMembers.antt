-- The large member of the whole description: the words of private contracts.
use Rattle.std.specs.Prelude.{ℕ, List, [], Bool, option_map, Result, Ok}
use Rattle.std.specs.Str.{bytes_eq}
use Rattle.serde_json.specs.Data.{Data, Members}
use Rattle.serde_json.specs.Find.{get_member}
use Rattle.lk_link.specs.declared.link.LinkInput.{LinkInput}
use Rattle.lk_input.specs.declared.read.LinkKey.TheVariants as link
use Rattle.lk_input.specs.declared.read.LinkMembers.{LinkMembers}
use Rattle.lk_input.specs.Large.{kept_or}
use Rattle.lk_input.specs.ReadingSteps.{Path, ◌>>=◌, required, object_or_empty}
use Rattle.lk_input.specs.ReadingFiles.{groups_of}
use Rattle.lk_input.specs.ReadingOptions.{options_of}
use Rattle.lk_input.specs.ReadingPlan.{plan_of}
use Rattle.lk_input.specs.Keys.{link_key_text}

-- the large member of the whole description: its groups
abbrev pub link_large : List ℕ → Bool
link_large k = bytes_eq k (link_key_text link.Groups)

-- what is kept of it
abbrev pub link_kept : Members → LinkMembers
link_kept ms = record { groups = option_map groups_of (get_member (link_key_text link.Groups) ms) }

-- the whole description, of its large member and the object of the others
unfoldable pub link_from : LinkMembers → Data → Result LinkInput Path
link_from large d = do
  options ← object_or_empty options_of (link_key_text link.Options) d
  plan ← required plan_of (link_key_text link.Plan) d
  groups ← kept_or [] (link_key_text link.Groups) large.groups
  Ok (record { options = options; plan = plan; groups = groups })
