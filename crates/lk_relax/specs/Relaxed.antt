-- What relaxation of a link answers.
use Rattle.std.specs.Prelude.{◌≡◌, ℕ, List, Some, None, Result, Ok, Err}
use Rattle.lk_link.specs.declared.ids.FileId.{FileId}
use Rattle.lk_link.specs.declared.link.LinkInput.{LinkInput}
use Rattle.lk_link.specs.TableSizes.{TableSizes}
use Rattle.lk_link.specs.Target.{platform_target}
use Rattle.lk_live.specs.declared.live.Live.{Live}
use Rattle.lk_place.specs.declared.error.PlaceError.{PlaceError}
use Rattle.lk_place.specs.declared.error.PlaceError.TheVariants.{NoMemory}
use Rattle.lk_place.specs.declared.walk.Placed.{Placed}
use Rattle.lk_place.specs.Answers.{ArePlaced}
use Rattle.lk_sizes.specs.Owners.{Filling, content_of, in_output, plain_filling, with_thunks}
use Rattle.lk_sizes.specs.Sizing.{AreFilled}
use Rattle.lk_relax.specs.declared.relaxation.Relaxed.{Relaxed}
use Rattle.lk_relax.specs.declared.relaxation.RelaxedParts.{RelaxedParts}
use Rattle.lk_deltas.specs.LinkDeletions.{Deletions, sizes_after}
use Rattle.lk_relax.specs.RelaxedLaws.{nothing_deleted}
use Rattle.lk_relax.specs.Stages.{IsRelaxed, Relaxing, Stage, filling_after, link_of, refusal_of, setting_after}

-- what relaxation of this link goes by, with what is live of it
abbrev pub for_link : LinkInput → Live → Relaxing → Relaxing
for_link link live by = record by { filling = in_output link live by.filling }

-- what it goes by where parts are filled so, on a machine that starts load segments so, with headers of so many bytes
abbrev pub relaxing : (ℕ → ℕ → ℕ → ℕ) → ℕ → Filling → Relaxing
relaxing segment_start headers filling = record { filling = filling; target = platform_target segment_start; headers = headers }

-- what fills the parts where input sections have the sizes of the description, with these lengths of images and bytes of blocks of thunks
abbrev pub own_filling : LinkInput → TableSizes → Live → List ℕ → List (FileId × ℕ) → Filling
own_filling link tables live merged_lens thunks = with_thunks (plain_filling (content_of link tables live merged_lens)) thunks

-- this is the placement where nothing is deleted
abbrev pub ArePlacedFirst : Relaxing → Placed → Type 0
ArePlacedFirst by placed = ArePlaced (setting_after by (nothing_deleted (link_of by))) placed

-- relaxation ends at a stage: this is deleted there, and the placement that stands isn't refused
pub record EndsAt (by : Relaxing) (last : Stage) (deleted : Deletions) (placed : Placed) : Type 0 where
  pub relaxed : IsRelaxed by last
  pub unrefused : refusal_of by last ≡ None
  pub deletions : deleted ≡ last.deletions
  pub stands : ArePlaced (setting_after by last.walked) placed
  pub states : stands.states ≡ last.states
  pub records : placed.parts ≡ last.records

-- it ends so, with what comes into the parts by what is deleted
pub record AreRelaxed (by : Relaxing) (parts : RelaxedParts) : Type 0 where
  pub last : Stage
  pub ends : EndsAt by last parts.deltas.items parts.placed
  pub filled : AreFilled (filling_after by last.deletions) parts.owners

-- it ends so, with the sizes of input sections by what is deleted
pub record IsRelaxedLink (by : Relaxing) (relaxed : Relaxed) : Type 0 where
  pub last : Stage
  pub ends : EndsAt by last relaxed.deltas.items relaxed.placed
  pub sizes : relaxed.sizes.items ≡ sizes_after (link_of by).groups last.deletions

-- it ends at a stage whose placement is refused
pub record EndsRefused (by : Relaxing) (error : PlaceError) : Type 0 where
  pub last : Stage
  pub relaxed : IsRelaxed by last
  pub refused : refusal_of by last ≡ Some error

-- what relaxation answers, by what holds of its end, or the refusal there; nothing is said for want of memory
abbrev pub GivesRelaxed : {X : Type 0} → Relaxing → (X → Type 0) → Result X PlaceError → Type 0
GivesRelaxed by Ends (Ok end) = Ends end
GivesRelaxed by Ends (Err NoMemory) = Unit {0}
GivesRelaxed by Ends (Err error) = EndsRefused by error

-- so it answers what comes into the parts, what is deleted, and the placement
abbrev pub GivesRelaxedParts : Relaxing → Result RelaxedParts PlaceError → Type 0
GivesRelaxedParts by answer = GivesRelaxed by (AreRelaxed by) answer

-- and so the sizes of input sections in place of what comes into the parts
abbrev pub GivesRelaxedLink : Relaxing → Result Relaxed PlaceError → Type 0
GivesRelaxedLink by answer = GivesRelaxed by (IsRelaxedLink by) answer
