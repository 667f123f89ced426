-- The plan of a link's thunks, by what fills its parts without them.
use Rattle.std.specs.Prelude.{◌≡◌, ℕ, ◌*◌, ◌&&◌, not, Bool, if◌then◌else◌, List, [], Option, filter, length, map, slice_index, sum}
use Rattle.std.specs.List.{slice_index_or}
use Rattle.std.specs.Option.{option_map_or}
use Rattle.lk_link.specs.declared.ids.FileId.{FileId}
use Rattle.lk_link.specs.declared.link.LinkInput.{LinkInput}
use Rattle.lk_link.specs.declared.options.Options.{Options}
use Rattle.lk_link.specs.declared.plan.Plan.{Plan}
use Rattle.lk_link.specs.declared.plan.attributes.TheConstants.{EXEC}
use Rattle.lk_link.specs.PartRules.{is_part}
use Rattle.lk_link.specs.Parts.{part_sections}
use Rattle.lk_link.specs.PlanSections.{is_set}
use Rattle.lk_live.specs.declared.live.Live.{Live}
use Rattle.lk_sizes.specs.Attributes.{section_attributes}
use Rattle.lk_sizes.specs.Owners.{Filling, by_part, with_thunks}
use Rattle.lk_sizes.specs.PartOwners.{part_size}
use Rattle.lk_thunks.specs.declared.arch.ThunkConfig.{ThunkConfig}
use Rattle.lk_thunks.specs.Blocks.{assigned}
use Rattle.lk_thunks.specs.Building.{builder_of}
use Rattle.lk_thunks.specs.Ranges.{planned_objects}
use Rattle.lk_thunks.specs.ThunkSets.{thunk_sets}
use Rattle.lk_thunk_plan.specs.declared.thunk_plan.ThunkPlan.{ThunkPlan}

-- how thunks are made for a link, by what an architecture says for options and a plan; none where they aren't
abbrev pub config_for : (Options → Plan → Option ThunkConfig) → LinkInput → Option ThunkConfig
config_for thunks link = thunks link.options link.plan

-- the bytes of a thunk; 0 where none are made
abbrev pub thunk_size : Option ThunkConfig → ℕ
thunk_size config = option_map_or (λ c. c.thunk_size) config 0

-- ---- where the first object stands

-- whether a part belongs to an output section that is executable in the output, and isn't the primary one
abbrev pub has_other_code : LinkInput → Live → ℕ → Bool
has_other_code link live p =
    is_set EXEC (section_attributes link live (slice_index (part_sections link.plan.sections) p)) && not (is_part p link.plan.named.primary)

-- the bytes of such a part; of any other none
abbrev pub other_code : Filling → ℕ → ℕ
other_code filling p = if has_other_code filling.content.link filling.content.live p then part_size filling p else 0

-- where the first object is taken to stand: behind all code that isn't in the primary part
abbrev pub code_before : Filling → ℕ
code_before filling = sum (by_part (other_code filling) filling.content.link)

-- ---- the plan; `filling` is without thunks

-- how far a branch is taken to reach when thunks are planned, if they are
abbrev pub planned_range : (Options → Plan → Option ThunkConfig) → LinkInput → Option ℕ
planned_range thunks link = builder_of link (config_for thunks link)

-- the definitions that each block has thunks for, one block at least; none where no thunks are planned
unfoldable pub planned_sets : (Options → Plan → Option ThunkConfig) → Filling → List (List ℕ)
planned_sets thunks filling =
    let content = filling.content in
    option_map_or (λ range. thunk_sets content.link content.live range (code_before filling)) (planned_range thunks content.link) []

-- each object with its block, and whether it owns it; none where no thunks are planned
unfoldable pub planned_users : (Options → Plan → Option ThunkConfig) → Filling → List (FileId × ℕ × Bool)
planned_users thunks filling =
    let content = filling.content in
    option_map_or (λ range. assigned range (planned_objects content.link content.live (code_before filling))) (planned_range thunks content.link) []

-- an object with the bytes of its block: a thunk for each definition
abbrev pub owned_bytes : ℕ → List (List ℕ) → FileId × ℕ × Bool → FileId × ℕ
owned_bytes size sets u = (u.0, size * length (slice_index_or sets u.1 []))

-- the bytes of each block, by the object that owns it, in the order of objects
abbrev pub owners_among : ℕ → List (List ℕ) → List (FileId × ℕ × Bool) → List (FileId × ℕ)
owners_among size sets users = map (owned_bytes size sets) (filter (λ u. u.2) users)

-- those of a link
abbrev pub thunk_owners : (Options → Plan → Option ThunkConfig) → Filling → List (FileId × ℕ)
thunk_owners thunks filling =
    owners_among (thunk_size (config_for thunks filling.content.link)) (planned_sets thunks filling) (planned_users thunks filling)

-- what fills the parts with thunks, by what does so without
abbrev pub thunked : (Options → Plan → Option ThunkConfig) → Filling → Filling
thunked thunks filling = with_thunks filling (thunk_owners thunks filling)

-- the plan is that of what fills the parts
pub record IsThunkPlan (thunks : Options → Plan → Option ThunkConfig) (filling : Filling) (plan : ThunkPlan) : Type 0 where
  pub config : plan.config ≡ config_for thunks filling.content.link
  pub sets : map (λ b. b.symbols) plan.blocks ≡ planned_sets thunks filling
  pub users : plan.users ≡ planned_users thunks filling
  pub owners : plan.owners ≡ thunk_owners thunks filling
