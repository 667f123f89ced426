-- Words of private contracts: a plan of thunks by where the first object stands, and code by attributes of output sections.
use Rattle.std.specs.Prelude.{◌≡◌, ℕ, ◌*◌, ◌<◌, ◌≤◌, ◌^◌, ◌&&◌, not, All, Bool, if◌then◌else◌, List, [], Option, length, map, slice_index}
use Rattle.std.specs.List.{slice_index_or}
use Rattle.lk_link.specs.declared.link.LinkInput.{LinkInput}
use Rattle.lk_link.specs.declared.plan.attributes.TheConstants.{EXEC}
use Rattle.lk_link.specs.PartRules.{is_part}
use Rattle.lk_link.specs.Parts.{part_sections}
use Rattle.lk_link.specs.PlanSections.{is_set}
use Rattle.lk_live.specs.declared.live.Live.{Live}
use Rattle.lk_sizes.specs.declared.owners.PartContents.{PartContents}
use Rattle.lk_thunks.specs.declared.arch.ThunkConfig.{ThunkConfig}
use Rattle.lk_thunks.specs.declared.arch.TheConstants.{MOST_THUNK}
use Rattle.lk_thunks.specs.Blocks.{assigned}
use Rattle.lk_thunks.specs.Ranges.{planned_objects}
use Rattle.lk_thunks.specs.ThunkSets.{thunk_sets}
use Rattle.lk_thunk_plan.specs.declared.thunk_plan.ThunkPlan.{ThunkPlan}
use Rattle.lk_thunk_plan.specs.ThunkPlans.{owners_among, thunk_size}

-- a plan by this range, where the first object stands at an address
pub record IsPlannedFrom (link : LinkInput) (live : Live) (made : Option ThunkConfig) (range start : ℕ) (plan : ThunkPlan) : Type 0 where
  pub config : plan.config ≡ made
  pub sets : map (λ b. b.symbols) plan.blocks ≡ thunk_sets link live range start
  pub users : plan.users ≡ assigned range (planned_objects link live start)
  pub owners : plan.owners ≡ owners_among (thunk_size made) (map (λ b. b.symbols) plan.blocks) plan.users

-- a part belongs to an executable output section, by the attributes of these, and isn't the primary one
abbrev pub has_code_by : LinkInput → List ℕ → ℕ → Bool
has_code_by link attributes p =
    is_set EXEC (slice_index attributes (slice_index (part_sections link.plan.sections) p)) && not (is_part p link.plan.named.primary)

-- the bytes of such a part, with its number
abbrev pub other_code_by : LinkInput → List ℕ → ℕ × PartContents → ℕ
other_code_by link attributes q = if has_code_by link attributes q.0 then q.1.bytes else 0

-- the bytes of the thunks of block k
abbrev pub set_bytes : ℕ → List (List ℕ) → ℕ → ℕ
set_bytes size sets k = size * length (slice_index_or sets k [])

-- thunks of this size are so few in each set that their bytes fit 64 bits
pub record ThunksAreSmall (size : ℕ) (sets : List (List ℕ)) : Type 0 where
  pub small : size ≤ MOST_THUNK
  pub few : All (λ set. length set < 2 ^ 32) sets
