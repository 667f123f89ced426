-- What the branches of a link go by, once it is addressed.
use Rattle.std.proofs.Common.{◌≡◌, ℕ, Bool, List, Option, map, sym, ap, ◌∙◌}
use Rattle.lk_thunk_plan.specs.Branches.{Branching, block_places, branching}
use Rattle.lk_live.specs.declared.live.Live.{Live}
use Rattle.lk_link.specs.declared.ids.FileId.{FileId}
use Rattle.lk_link.specs.declared.link.LinkInput.{LinkInput}
use Rattle.lk_link.specs.declared.resolution.Resolution.{Resolution}
use Rattle.lk_deltas.specs.LinkDeletions.{Deletions}
use Rattle.lk_sizes.specs.Addresses.{primary_address}
use Rattle.lk_thunks.specs.declared.arch.ThunkConfig.{ThunkConfig}
use Rattle.lk_layout.specs.declared.stages.AddressedLink.{AddressedLink}
use Rattle.lk_layout.specs.Machines.{Machine}
use Rattle.lk_layout.specs.Made.{Made, made_filling}
use Rattle.lk_layout.specs.Redirects.{unless_refused}
use Rattle.lk_layout.specs.Stages.{IsAddressedLink, made_addressed}
use Rattle.lk_layout.specs.Thunks.{made_branching, made_places, made_sets}
use Rattle.lk_resolutions.specs.Starts.{starts_of}

-- what branches go by is the same where all of it is
same_branching : (link : LinkInput) (live : Live) (config config' : Option ThunkConfig) (sets sets' : List (List ℕ)) (users users' : List (FileId × ℕ × Bool)) (places places' : List (Option ℕ))
    (addresses addresses' : List ℕ) (deletions deletions' : Deletions) (resolutions resolutions' : List (Option Resolution))
    → config ≡ config' → sets ≡ sets' → users ≡ users' → places ≡ places' → addresses ≡ addresses' → deletions ≡ deletions' → resolutions ≡ resolutions'
    → ◌≡◌ {A = Branching} (record { link = link; live = live; config = config; sets = sets; users = users; places = places; addresses = addresses; deletions = deletions; resolutions = resolutions })
    (record { link = link; live = live; config = config'; sets = sets'; users = users'; places = places'; addresses = addresses'; deletions = deletions'; resolutions = resolutions' })
same_branching link live config config' sets sets' users users' places places' addresses addresses' deletions deletions' resolutions resolutions' ec es eu ep ea ed er = cc

-- where the thunks of blocks begin, by the addresses of those that their owners have
pub places_are : (machine : Machine) (link : LinkInput) (addressed : AddressedLink) (is : IsAddressedLink machine link addressed) (blocks : List ℕ) (places : List (Option ℕ))
    → blocks ≡ addressed.addresses.blocks.items
    → ((place : FileId → ℕ) → blocks ≡ map (λ (q : FileId × ℕ). place q.0) addressed.spanned.placed.thunks.owners
    → places ≡ block_places place (map (λ b. b.symbols) addressed.spanned.placed.thunks.blocks) addressed.spanned.placed.thunks.users)
    → places ≡ made_places (made_addressed is)
places_are machine link addressed is blocks places read law =
    let made : Made = made_addressed is in
    let plan = is.spanned.placed.thunks in
    let place : FileId → ℕ = primary_address (made_filling made) (starts_of made.stage.records) in
    law place (read ∙ is.blocks ∙ ap (map (λ (q : FileId × ℕ). place q.0)) (sym plan.owners))
    ∙ ap (λ (sets : List (List ℕ)). block_places place sets addressed.spanned.placed.thunks.users) plan.sets
    ∙ ap (block_places place (made_sets made)) plan.users

-- and all that they go by
pub branching_is : (machine : Machine) (link : LinkInput) (addressed : AddressedLink) (is : IsAddressedLink machine link addressed) (places : List (Option ℕ)) (addresses : List ℕ) (deletions : Deletions)
    → places ≡ made_places (made_addressed is) → addresses ≡ addressed.addresses.sections.items → deletions ≡ addressed.spanned.placed.deltas
    → branching link addressed.spanned.placed.kept.live addressed.spanned.placed.thunks places addresses deletions addressed.addresses.resolutions ≡ made_branching (made_addressed is)
branching_is machine link addressed is places addresses deletions stand read deleted =
    let plan = is.spanned.placed.thunks in
    same_branching link addressed.spanned.placed.kept.live _ _ _ _ _ _ _ _ _ _ _ _ _ _ plan.config plan.sets plan.users stand (read ∙ is.sections)
    (deleted ∙ is.spanned.placed.deltas) (sym (ap unless_refused is.redirected))
