-- The address that is told of each thunk is the one by which branches go.
use Rattle.std.proofs.Common.{◌≡◌, ℕ, zero, suc, ◌+◌, ◌*◌, ◌<◌, ◌≤◌, ◌^◌, length, List, [], ◌∷◌, Option, Some, None, refl, sym, ap, subst, ◌∙◌, arith, take, true}
use Rattle.std.specs.Prelude.{if◌then◌else◌, nat_lt, option_and_then, option_map, slice_get, slice_index}
use Rattle.std.specs.List.{slice_index_or}
use Rattle.std.proofs.Math.ListN as lists
use Rattle.std.proofs.lemmas.Bool.Decides.{nat_tests}
use Rattle.std.proofs.lemmas.Option.{slice_get_within}
use Rattle.lk_thunk_plan.specs.BranchLaws.{ThunksHaveRanges}
use Rattle.lk_thunk_plan.specs.Branches.{thunk_in, thunks_of}
use Rattle.lk_thunk_plan.specs.ThunkPlans.{config_for, thunk_size}
use Rattle.lk_expressions.specs.Records.{Record, nowhere}
use Rattle.lk_link.specs.declared.ids.FileId.{FileId}
use Rattle.lk_link.specs.declared.link.LinkInput.{LinkInput}
use Rattle.lk_link.specs.declared.plan.PlanPart.{PlanPart}
use Rattle.lk_link.specs.Parts.{all_parts, part_at}
use Rattle.lk_link.proofs.GoodPartFields.{good_part_fields}
use Rattle.lk_place.specs.PlacementLaws.{PartsTakeTheirBytes}
use Rattle.lk_place_laws.specs.PlacementLaws.{RefusedExactlyPast}
use Rattle.lk_relax.specs.Scan.{as_address}
use Rattle.lk_sizes.specs.Owners.{Filling, Owner, ThunkOwner, bytes_of, owner_address, owner_bytes}
use Rattle.lk_sizes.specs.PartOwners.{owners_of, thunk_number}
use Rattle.lk_size_laws.proofs.Tiling.{whole}
use Rattle.lk_resolutions.specs.Starts.{starts_of}
use Rattle.lk_layout.specs.LayoutRecord.{LayoutRecord}
use Rattle.lk_layout.specs.Layouts.{thunk_address}
use Rattle.lk_layout.specs.Machines.{IsLawfulMachine, Machine}
use Rattle.lk_layout.specs.Made.{made_filling}
use Rattle.lk_layout.specs.Thunks.{made_branching}
use Rattle.lk_soundness.specs.Sound.{AreThunksAt, ThunksStand, part_record}
use Rattle.lk_soundness.proofs.Fitting.{owners_fit}
use Rattle.lk_layout.proofs.LaidOut.{IsLaidOut, made_by}
use Rattle.lk_soundness.proofs.ThunksTold.{thunks_addressed, thunks_owned}

-- an owner with those before it has no more bytes than all
pub bytes_within : (part : PlanPart) (owners : List Owner) (k : ℕ) (o : Owner) → slice_get owners k ≡ Some o → bytes_of part (take k owners) + owner_bytes part o ≤ bytes_of part owners
bytes_within part [] k o at = absurd (cc)
bytes_within part (q ∷ owners) zero o at =
    let same : q ≡ o = cc in
    omega (arith, whole part q owners, ap (owner_bytes part) same)
bytes_within part (q ∷ owners) (suc k) o at = omega (arith, whole part q owners, whole part q (take k owners), bytes_within part owners k o at)

pub is_address : (n : ℕ) → n < 2 ^ 64 → as_address n ≡ Some n
is_address n below = let yes : nat_lt n (2 ^ 64) ≡ true = grind (arith, nat_tests) in ap (λ b. if b then Some n else None) yes

-- what is told where there is something stands there
told_there : {X : Type 0} (xs : List (Option X)) (k : ℕ) (x : X) → slice_index_or xs k None ≡ Some x → slice_get xs k ≡ Some (Some x)
told_there [] k x h = absurd (cc)
told_there (y ∷ xs) zero x h = ap (λ o. Some o) h
told_there (y ∷ xs) (suc k) x h = told_there xs k x h

-- the thunks of a block that an object owns end below 2^64
ends_below : RefusedExactlyPast → PartsTakeTheirBytes → (machine : Machine) (link : LinkInput) (layout : LayoutRecord) (laid : IsLaidOut machine link layout) (k a place : ℕ)
    (id : FileId) (set : List ℕ) → AreThunksAt (made_by laid) layout k id set → slice_get layout.thunk_block_addresses k ≡ Some (Some a) → place < length set
    → a + place * thunk_size (config_for machine.thunks link) < 2 ^ 64
ends_below refused mass machine link layout laid k a place id set s at within =
    let filling : Filling = made_filling (made_by laid) in
    let p : ℕ = s.part in
    let part : PlanPart = part_at link.plan.sections p in
    let owners : List Owner = owners_of filling p in
    let size : ℕ = thunk_size (config_for machine.thunks link) in
    let block : Owner = ThunkOwner id (size * length set) in
    let number : ℕ = thunk_number filling p id in
    let starts : List ℕ = starts_of laid.stage.records in
    let named = (good_part_fields link laid.good).primary p s.primary in
    let many : p < length (all_parts link.plan.sections) = slice_get_within (all_parts link.plan.sections) p named.0.part named.0.there in
    let count : length starts ≡ length laid.stage.records = lists.length-map laid.stage.records (λ (r : Record). r.mem_offset) in
    let fit = owners_fit refused mass machine link layout laid p (omega (arith, many, count, laid.stands.placed.each)) in
    let start : slice_index starts p ≡ (part_record layout p).mem_offset
    = lists.get_or-map (λ (r : Record). r.mem_offset) laid.stage.records p nowhere ∙ ap (λ (l : LayoutRecord). (part_record l p).mem_offset) (sym laid.same) in
    let both : Some (Some a) ≡ Some (Some (owner_address (part_record layout p).mem_offset part owners number)) = sym at ∙ s.told in
    let is : a ≡ owner_address (part_record layout p).mem_offset part owners number = cc in
    omega (arith, is, start, fit, bytes_within part owners number block s.ranges.owner, s.ranges.inside place within)

-- so the address that is told of each thunk is the one that branches go by
thunks_told : RefusedExactlyPast → PartsTakeTheirBytes → ThunksHaveRanges → (machine : Machine) (link : LinkInput) (layout : LayoutRecord) (laid : IsLaidOut machine link layout) → IsLawfulMachine machine
    → (k place d : ℕ) (set : List ℕ) → slice_get layout.thunk_blocks k ≡ Some set → slice_get set place ≡ Some d
    → thunk_address layout k place ≡ option_and_then (thunk_in layout.thunk_size d) (thunks_of (made_branching (made_by laid)) k)
thunks_told refused mass ranges machine link layout laid lawful k place d set set_at d_at =
    let size : ℕ = thunk_size (config_for machine.thunks link) in
    let told : Option ℕ = slice_index_or layout.thunk_block_addresses k None in
    let size_is : layout.thunk_size ≡ size = ap (λ (l : LayoutRecord). l.thunk_size) laid.same in
    let by_size : (b : Option ℕ) (n : ℕ) → Type 0 = λ b n. option_and_then (λ begin. as_address (begin + place * n)) b
    ≡ option_and_then (thunk_in n d) (option_and_then (λ begin. option_map (λ (s : List ℕ). (begin, s)) (slice_get layout.thunk_blocks k)) b) in
    let at_size : by_size told size
    = (elim told as (λ b. told ≡ b → by_size b size) [
      | None ↦ λ none. refl
      | Some a ↦ λ some.
          let there = told_there layout.thunk_block_addresses k a some in
          let owned = thunks_addressed machine link layout laid k a there in
          let whose : Some owned.1 ≡ Some set = sym owned.3 ∙ set_at in
          let same : owned.1 ≡ set = cc in
          let s : AreThunksAt (made_by laid) layout k owned.0 set = thunks_owned ranges machine link layout laid lawful k owned.0 set owned.2 set_at in
          let below = ends_below refused mass machine link layout laid k a place owned.0 set s there (slice_get_within set place d d_at) in
          is_address (a + place * size) below ∙ sym (s.ranges.told a place d d_at)
          ∙ ap (λ (o : Option (List ℕ)). option_and_then (thunk_in size d) (option_map (λ (s : List ℕ). (a, s)) o)) (sym set_at)
    ]) refl in
    let block : LayoutRecord → Option (ℕ × List ℕ)
    = λ l. option_and_then (λ (begin : ℕ). option_map (λ (s : List ℕ). (begin, s)) (slice_get l.thunk_blocks k)) (slice_index_or l.thunk_block_addresses k None) in
    let by_layout : thunk_address layout k place ≡ option_and_then (thunk_in layout.thunk_size d) (block layout) = subst (by_size told) (sym size_is) at_size in
    by_layout ∙ ap (λ (l : LayoutRecord). option_and_then (thunk_in layout.thunk_size d) (block l)) laid.same

pub thunks_stand : RefusedExactlyPast → PartsTakeTheirBytes → ThunksHaveRanges → (machine : Machine) (link : LinkInput) (layout : LayoutRecord) (laid : IsLaidOut machine link layout) → IsLawfulMachine machine
    → ThunksStand (made_by laid) layout
thunks_stand refused mass ranges machine link layout laid lawful = record {
  owned = thunks_owned ranges machine link layout laid lawful;
  addressed = thunks_addressed machine link layout laid;
  each = thunks_told refused mass ranges machine link layout laid lawful;
}
