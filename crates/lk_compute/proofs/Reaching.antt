-- How a stage leads back to the answer of the link: what is answered behind it is answered of the link.
use Rattle.std.proofs.Common.{◌≡◌, None, Result, Ok, Err, ap}
use Rattle.std.specs.Prelude.{option_map}
use Rattle.lk_link.specs.declared.link.LinkInput.{LinkInput}
use Rattle.lk_layout.specs.Machines.{Machine}
use Rattle.lk_live.specs.declared.live.Live.{Live}
use Rattle.lk_sizes.specs.Contents.{size_refusal}
use Rattle.lk_layout.specs.declared.error.LayoutError.{LayoutError}
use Rattle.lk_resolutions.specs.declared.images.Images.{Images}
use Rattle.lk_layout.specs.LayoutRecord.{LayoutRecord}
use Rattle.lk_layout.specs.declared.stages.KeptLink.{KeptLink}
use Rattle.lk_layout.specs.declared.stages.PlacedLink.{PlacedLink}
use Rattle.lk_layout.specs.declared.stages.SizedLink.{SizedLink}
use Rattle.lk_layout.specs.declared.stages.SpannedLink.{SpannedLink}
use Rattle.lk_layout.specs.declared.stages.ToldLink.{ToldLink}
use Rattle.lk_layout.specs.Defined.{Gives, IsDefined, WithMemory, layout_of, references_refusal}
use Rattle.lk_layout.specs.Errors.{fault_error, place_error, size_error}
use Rattle.lk_layout.specs.Made.{Made, filling_for}
use Rattle.lk_layout.specs.Merging.{merging_refusal}
use Rattle.lk_compute.specs.MergingWords.{GivesImages}
use Rattle.lk_layout.specs.Stages.{IsChecked, IsKept, IsMerged, IsPlacedLink, IsSized, IsSpannedLink, IsToldLink, Reaches, made_placed, made_spanned, made_told}
use Rattle.lk_layout.specs.Redirects.{redirects_refusal}
use Rattle.lk_layout.proofs.Answering.{none_chosen, none_past, none_redirected, none_unreached, passed_on, unless_none, unless_some}
use Rattle.lk_layout.proofs.Refusals.{IsCheckedAnswer, IsLiveAnswer, IsMergedAnswer, IsPlacedAnswer, IsSizedAnswer, IsSpannedAnswer, branch_refusal, fault_refusal, joining_refusal, offsets_refusal, segment_refusal, sites_refusal, sizes_refusal, unmet_refusal, walk_refusal}

pub from_checked : (machine : Machine) (link : LinkInput) (answer : Result LayoutRecord LayoutError) → IsChecked link
    → WithMemory (IsCheckedAnswer machine link) answer → Gives machine link answer
from_checked machine link answer is given =
    passed_on (IsCheckedAnswer machine link) (IsDefined machine link) answer (λ a h.
    unless_none (fault_refusal link) a _ (ap (option_map fault_error) is.faultless) h) given

pub from_merged : (machine : Machine) (link : LinkInput) (images : Images) (answer : Result LayoutRecord LayoutError) → IsMerged link images
    → WithMemory (IsMergedAnswer machine link) answer → Gives machine link answer
from_merged machine link images answer is given =
    from_checked machine link answer is.checked
    (passed_on (IsMergedAnswer machine link) (IsCheckedAnswer machine link) answer (λ a h. unless_none (merging_refusal link) a _ is.unrefused h) given)

pub from_kept : (machine : Machine) (link : LinkInput) (kept : KeptLink) (answer : Result LayoutRecord LayoutError) → IsKept link kept
    → WithMemory (IsLiveAnswer machine link kept.live) answer → Gives machine link answer
from_kept machine link kept answer is given =
    from_merged machine link kept.images answer is.merged (passed_on (IsLiveAnswer machine link kept.live) (IsMergedAnswer machine link) answer (λ a h.
    unless_none (unmet_refusal link) a _ (ap references_refusal is.met) (kept.live, is.live, h)) given)

-- where all fits
pub from_fitting : (machine : Machine) (link : LinkInput) (kept : KeptLink) (answer : Result LayoutRecord LayoutError) → IsKept link kept
    → size_refusal (filling_for machine link kept.live) ≡ None → WithMemory (IsSizedAnswer machine link kept.live) answer → Gives machine link answer
from_fitting machine link kept answer is fits given =
    let live : Live = kept.live in
    from_kept machine link kept answer is (passed_on (IsSizedAnswer machine link live) (IsLiveAnswer machine link live) answer (λ a h.
    unless_none (sizes_refusal machine link live) a _ (ap (option_map size_error) fits) h) given)

pub from_sized : (machine : Machine) (link : LinkInput) (sized : SizedLink) (answer : Result LayoutRecord LayoutError) → IsSized machine link sized
    → WithMemory (IsSizedAnswer machine link sized.kept.live) answer → Gives machine link answer
from_sized machine link sized answer is given = from_fitting machine link sized.kept answer is.kept is.fits given

pub from_placed : (machine : Machine) (link : LinkInput) (placed : PlacedLink) (answer : Result LayoutRecord LayoutError) (is : IsPlacedLink machine link placed)
    → WithMemory (IsPlacedAnswer (made_placed is)) answer → Gives machine link answer
from_placed machine link placed answer is given =
    let made : Made = made_placed is in
    from_fitting machine link placed.kept answer is.kept is.fits (passed_on (IsPlacedAnswer made) (IsSizedAnswer machine link made.live) answer (λ a h. (
      made.stage,
      is.relaxed,
      unless_none (walk_refusal made) a _ (ap (option_map place_error) is.unrefused) h,
    )) given)

pub from_spanned : (machine : Machine) (link : LinkInput) (spanned : SpannedLink) (answer : Result LayoutRecord LayoutError) (is : IsSpannedLink machine link spanned)
    → WithMemory (IsSpannedAnswer (made_spanned is)) answer → Gives machine link answer
from_spanned machine link spanned answer is given =
    let made : Made = made_spanned is in
    from_placed machine link spanned.placed answer is.placed (passed_on (IsSpannedAnswer made) (IsPlacedAnswer made) answer (λ a h.
    unless_none (joining_refusal made) a _ (ap (option_map place_error) is.fits) (unless_none (segment_refusal made) a _ (ap (option_map place_error) is.covered) h)) given)

-- what is told is the layout
pub from_told : (machine : Machine) (link : LinkInput) (told : ToldLink) (layout : LayoutRecord) (is : IsToldLink machine link told) → layout ≡ layout_of (made_told is)
    → Gives machine link (Ok layout)
from_told machine link told layout is same =
    let made : Made = made_told is in
    let addressed = is.reaching.branched.addressed in
    from_spanned machine link told.reaching.addressed.spanned (Ok layout) addressed.spanned
    (unless_none (offsets_refusal made) (Ok layout) _ (none_chosen made addressed.inside)
    (unless_none (redirects_refusal made) (Ok layout) _ (none_redirected made told.reaching.addressed.addresses.resolutions addressed.redirected)
    (unless_none (branch_refusal made) (Ok layout) _ (none_unreached made is.reaching.branched.reach)
    (unless_none (sites_refusal made) (Ok layout) _ (none_past made is.reaching.near) (ap (λ (l : LayoutRecord). Ok l) same)))))

-- what merging gives is the next stage, or the answer
pub merged : (machine : Machine) (link : LinkInput) (result : Result Images LayoutError) → IsChecked link → GivesImages link result
    → Reaches machine link (IsMerged link) result
merged machine link (Ok images) is given = record { checked = is; unrefused = given.0; are = given.1 }
merged machine link (Err e) is given = from_checked machine link (Err e) is (λ some. unless_some (merging_refusal link) e _ (given some))
