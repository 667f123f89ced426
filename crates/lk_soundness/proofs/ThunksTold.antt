-- Where the thunks of a layout stand, and that branches reach.
use Rattle.std.proofs.Common.{◌≡◌, ℕ, suc, ◌*◌, ◌==◌, IsSome, filter, length, Bool, true, false, cond, List, [], ◌∷◌, Option, Some, None, sym, ap, ◌∙◌, arith, refl}
use Rattle.std.specs.Prelude.{find, option_map, slice_get, slice_index}
use Rattle.std.specs.List.{enumerate_from}
use Rattle.std.specs.Option.{IfSome, option_map_or}
use Rattle.std.proofs.Math.ListN as lists
use Rattle.std.proofs.lemmas.Bool.{and_parts, eqb-true}
use Rattle.lk_thunk_plan.specs.BranchLaws.{BranchesReach, HaveRanges, LiveBranchesReach, ThunksHaveRanges}
use Rattle.lk_thunk_plan.specs.Branches.{block_owner, owns_block}
use Rattle.lk_thunk_plan.specs.ThunkPlans.{config_for, owned_bytes, planned_range, planned_sets, planned_users, thunk_size}
use Rattle.lk_thunk_plan.proofs.PlanLemmas.{owners_are_good}
use Rattle.lk_expressions.specs.Records.{Record, nowhere}
use Rattle.lk_link.specs.declared.ids.FileId.{FileId}
use Rattle.lk_link.specs.declared.link.LinkInput.{LinkInput}
use Rattle.lk_link.specs.declared.options.Options.{Options}
use Rattle.lk_link.specs.declared.plan.Plan.{Plan}
use Rattle.lk_link.specs.declared.file.InputFile.{InputFile}
use Rattle.lk_link.specs.Files.{file_in}
use Rattle.lk_link.specs.Parts.{part_at}
use Rattle.lk_link.proofs.Elements.{filter_in, map_at, map_in, numbered_at}
use Rattle.lk_sizes.specs.Owners.{Filling, ThunkOwner, owner_address}
use Rattle.lk_sizes.specs.Sizing.{with_sizes}
use Rattle.lk_size_laws.proofs.OwnersLive.{owners_are_live}
use Rattle.lk_sizes.proofs.ThunkOwners.{thunks_are_owners}
use Rattle.lk_sizes.specs.Addresses.{primary_address}
use Rattle.lk_sizes.specs.PartOwners.{block_address, owners_of, thunk_number}
use Rattle.lk_thunks.specs.declared.arch.ThunkConfig.{ThunkConfig}
use Rattle.lk_thunks.specs.Building.{builder_of}
use Rattle.lk_thunks.specs.Configs.{IsLawfulConfig}
use Rattle.lk_resolutions.specs.Starts.{starts_of}
use Rattle.lk_layout.specs.LayoutRecord.{LayoutRecord}
use Rattle.lk_layout.specs.Machines.{IsLawfulMachine, Machine}
use Rattle.lk_layout.specs.Made.{Made, filling_for, made_filling, made_plain}
use Rattle.lk_soundness.specs.Sound.{AreThunksAt, part_record}
use Rattle.lk_layout.specs.Thunks.{made_branching, made_owners, made_places, made_sets, made_users}
use Rattle.lk_layout.proofs.LaidOut.{IsLaidOut, made_by}

-- ---- who owns a block

-- what is found stands there, and passes
found_at : {X : Type 0} (p : X → Bool) (xs : List X) (x : X) → find p xs ≡ Some x → (j : ℕ) × (slice_get xs j ≡ Some x) × (p x ≡ true)
found_at p [] x h = absurd (cc)
found_at p (y ∷ xs) x h = (elim (p y) as (λ b. p y ≡ b → cond b (Some y) (find p xs) ≡ Some x → (j : ℕ) × (slice_get (y ∷ xs) j ≡ Some x) × (p x ≡ true)) [
  | true ↦ λ passes at. let same : y ≡ x = cc in (0, at, ap p (sym same) ∙ passes)
  | false ↦ λ other at. let later = found_at p xs x at in (suc later.0, later.1, later.2)
]) refl h

-- the owner of a block is among the objects, with the block's number
owner_among : (users : List (FileId × ℕ × Bool)) (k : ℕ) (id : FileId) → block_owner users k ≡ Some id → (j : ℕ) × (slice_get users j ≡ Some (id, k, true))
owner_among users k id h =
    (elim (find (owns_block k) users) as (λ o. find (owns_block k) users ≡ o → option_map (λ (u : FileId × ℕ × Bool). u.0) o ≡ Some id → (j : ℕ) × (slice_get users j ≡ Some (id, k, true))) [
      | None ↦ λ none at. absurd (cc)
      | Some u ↦ λ found at.
          let there = found_at (owns_block k) users u found in
          let both = and_parts u.2 (u.1 == k) there.2 in
          let file : u.0 ≡ id = cc in
          let made : FileId → ℕ → Bool → Option (FileId × ℕ × Bool) = λ f n b. Some (f, n, b) in
          (there.0, there.1 ∙ ap (λ f. made f u.1 u.2) file ∙ ap (λ n. made id n u.2) (eqb-true u.1 k both.1) ∙ ap (made id k) both.0)
    ]) refl h

-- ---- where there are objects, the plan names the part

no_users : (thunks : Options → Plan → Option ThunkConfig) (filling : Filling) (j : ℕ) (u : FileId × ℕ × Bool) → planned_range thunks filling.content.link ≡ None
    → slice_get (planned_users thunks filling) j ≡ Some u → ⊥
unfolding planned_users
no_users thunks filling j u none there = absurd (let empty : planned_users thunks filling ≡ [] = rw none (refl) in let nothing : slice_get [] j ≡ Some u = ap (λ (us : List (FileId × ℕ × Bool)). slice_get us j) (sym empty) ∙ there in cc)

primary_of : (link : LinkInput) (o : Option ThunkConfig) → IfSome o (IsLawfulConfig link) → (builder_of link o ≡ None → ⊥) → (p : ℕ) × (link.plan.named.primary ≡ Some p)
primary_of link None lawful planned = absurd (planned refl)
primary_of link (Some config) lawful planned = (config.primary_function_part_id, lawful.primary)

-- ---- where they stand

-- where input sections have other sizes, thunks have their ranges as before
still_ranges : (before : Filling) (sizes : List ℕ) (p : ℕ) (id : FileId) (file : InputFile) (size : ℕ) (set : List ℕ) → file_in before.content.link.groups id ≡ Some file
    → HaveRanges before p id size set → HaveRanges (with_sizes before sizes) p id size set
still_ranges before sizes p id file size set there h =
    let is = owners_are_live before p (thunk_number before p id) (ThunkOwner id (size * length set)) h.owner in
    record {
      owner = thunks_are_owners (with_sizes before sizes) id file p (size * length set) there is.0 is.1;
      rising = h.rising;
      told = h.told;
      inside = h.inside;
      apart = h.apart;
    }

-- the file of an object that owns a block is there
its_file : (thunks : Options → Plan → Option ThunkConfig) (filling : Filling) (j k : ℕ) (id : FileId) → slice_get (planned_users thunks filling) j ≡ Some (id, k, true)
    → (file : InputFile) × (file_in filling.content.link.groups id ≡ Some file)
its_file thunks filling j k id at =
    let link : LinkInput = filling.content.link in
    let size : ℕ = thunk_size (config_for thunks link) in
    let sets : List (List ℕ) = planned_sets thunks filling in
    let users : List (FileId × ℕ × Bool) = planned_users thunks filling in
    let owning : FileId × ℕ × Bool → Bool = λ u. u.2 in
    let owner = filter_in owning users j (id, k, true) at refl in
    let told = map_in (owned_bytes size sets) (filter owning users) owner.0 (id, k, true) owner.1 in
    file_there (file_in link.groups id) ((owners_are_good thunks filling).there owner.0 (owned_bytes size sets (id, k, true)) told)
  where
    file_there : (o : Option InputFile) → IsSome o → (file : InputFile) × (o ≡ Some file)
    file_there None h = absurd (cc)
    file_there (Some file) h = (file, refl)

pub thunks_owned : ThunksHaveRanges → (machine : Machine) (link : LinkInput) (layout : LayoutRecord) (laid : IsLaidOut machine link layout) → IsLawfulMachine machine
    → (k : ℕ) (id : FileId) (set : List ℕ) → slice_get layout.thunk_block_owners k ≡ Some (Some id) → slice_get layout.thunk_blocks k ≡ Some set → AreThunksAt (made_by laid) layout k id set
thunks_owned ranges machine link layout laid lawful k id set owner_at set_at =
    let made : Made = made_by laid in
    let filling : Filling = made_filling made in
    let starts : List ℕ = starts_of laid.stage.records in
    let sets : List (List ℕ) = made_sets made in
    let users : List (FileId × ℕ × Bool) = made_users made in
    let told_owner : slice_get (made_owners made) k ≡ Some (Some id) = ap (λ (l : LayoutRecord). slice_get l.thunk_block_owners k) (sym laid.same) ∙ owner_at in
    let told_set : slice_get sets k ≡ Some set = ap (λ (l : LayoutRecord). slice_get l.thunk_blocks k) (sym laid.same) ∙ set_at in
    let from = map_at (λ (q : ℕ × List ℕ). block_owner users q.0) (enumerate_from 0 sets) k (Some id) told_owner in
    let number : k ≡ from.0.0 = omega (arith, (numbered_at 0 sets k from.0 from.1).0) in
    let owner : block_owner users k ≡ Some id = ap (block_owner users) number ∙ from.2 in
    let among = owner_among users k id owner in
    let named = primary_of link (config_for machine.thunks link) (lawful.thunks link laid.good) (λ none. no_users machine.thunks (made_plain made) among.0 (id, k, true) none among.1) in
    let p : ℕ = named.0 in
    let file = its_file machine.thunks (made_plain made) among.0 k id among.1 in
    let place : FileId → ℕ = primary_address filling starts in
    let at_start : ℕ → ℕ = λ n. owner_address n (part_at link.plan.sections p) (owners_of filling p) (thunk_number filling p id) in
    let here : slice_get (made_places made) k ≡ Some (Some (place id))
    = map_in (λ (q : ℕ × List ℕ). option_map place (block_owner users q.0)) (enumerate_from 0 sets) k from.0 from.1
    ∙ ap (λ (o : Option FileId). Some (option_map place o)) from.2 in
    let is : place id ≡ at_start (slice_index starts p) = ap (λ (o : Option ℕ). option_map_or (λ q. block_address filling starts q id) o 0) named.1 in
    let record_is : slice_index starts p ≡ (part_record layout p).mem_offset
    = lists.get_or-map (λ (r : Record). r.mem_offset) laid.stage.records p nowhere ∙ ap (λ (l : LayoutRecord). (part_record l p).mem_offset) (sym laid.same) in
    record {
      part = p;
      primary = named.1;
      ranges = still_ranges (filling_for machine link laid.live) filling.sizes p id file.0 (thunk_size (config_for machine.thunks link)) set file.1
          (ranges machine.thunks (made_plain made) among.0 k p id set laid.good named.1 among.1 told_set);
      told = ap (λ (l : LayoutRecord). slice_get l.thunk_block_addresses k) laid.same ∙ here ∙ ap (λ (n : ℕ). Some (Some n)) (is ∙ ap at_start record_is);
    }

-- what has a place has an owner
owner_of_place : (place : FileId → ℕ) (o : Option FileId) (a : ℕ) → option_map place o ≡ Some a → (id : FileId) × (o ≡ Some id)
owner_of_place place None a h = absurd (cc)
owner_of_place place (Some id) a h = (id, refl)

pub thunks_addressed : (machine : Machine) (link : LinkInput) (layout : LayoutRecord) (laid : IsLaidOut machine link layout) (k a : ℕ) → slice_get layout.thunk_block_addresses k ≡ Some (Some a)
    → (id : FileId) × (set : List ℕ) × (slice_get layout.thunk_block_owners k ≡ Some (Some id)) × (slice_get layout.thunk_blocks k ≡ Some set)
thunks_addressed machine link layout laid k a at =
    let made : Made = made_by laid in
    let sets : List (List ℕ) = made_sets made in
    let users : List (FileId × ℕ × Bool) = made_users made in
    let place : FileId → ℕ = primary_address (made_filling made) (starts_of made.stage.records) in
    let told : slice_get (made_places made) k ≡ Some (Some a) = ap (λ (l : LayoutRecord). slice_get l.thunk_block_addresses k) (sym laid.same) ∙ at in
    let from = map_at (λ (q : ℕ × List ℕ). option_map place (block_owner users q.0)) (enumerate_from 0 sets) k (Some a) told in
    let owner = owner_of_place place (block_owner users from.0.0) a from.2 in
    let owned : slice_get (made_owners made) k ≡ Some (Some owner.0)
    = map_in (λ (q : ℕ × List ℕ). block_owner users q.0) (enumerate_from 0 sets) k from.0 from.1 ∙ ap (λ (o : Option FileId). Some o) owner.1 in (
      owner.0,
      from.0.1,
      ap (λ (l : LayoutRecord). slice_get l.thunk_block_owners k) laid.same ∙ owned,
      ap (λ (l : LayoutRecord). slice_get l.thunk_blocks k) laid.same ∙ (numbered_at 0 sets k from.0 from.1).1,
    )

-- ---- branches

pub branches_reach : BranchesReach → (machine : Machine) (link : LinkInput) (layout : LayoutRecord) (laid : IsLaidOut machine link layout) → LiveBranchesReach (made_branching (made_by laid))
branches_reach reach machine link layout laid = reach (made_branching (made_by laid)) laid.reaching
