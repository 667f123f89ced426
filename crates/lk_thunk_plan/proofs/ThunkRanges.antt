-- The thunks of a block stand among the bytes of the file that owns it.
use Rattle.std.proofs.Common.{◌≡◌, ℕ, ◌+◌, ◌*◌, ◌<◌, ◌≤◌, ◌==◌, Bool, true, false, List, [], find, length, Option, Some, None, IsSome, position, refl, sym, ap, ◌∙◌, arith, inl, inr}
use Rattle.std.specs.Prelude.{option_map}
use Rattle.std.specs.List.{slice_get, slice_index_or}
use Rattle.std.proofs.lemmas.Bool.{cases_lt, eqb-true}
use Rattle.std.proofs.lemmas.List.Quantifiers.{position-Some}
use Rattle.std.proofs.lemmas.Nat.{mul-le}
use Rattle.std.proofs.lemmas.Option.{get_or_from_slice_get, slice_get_within}
use Rattle.lk_link.specs.declared.file.InputFile.{InputFile}
use Rattle.lk_link.specs.declared.ids.FileId.{FileId}
use Rattle.lk_link.specs.declared.link.LinkInput.{LinkInput}
use Rattle.lk_link.specs.declared.plan.PlanPart.{PlanPart}
use Rattle.lk_link.specs.Files.{file_in}
use Rattle.lk_link.specs.Parts.{all_parts, part_at}
use Rattle.lk_link.proofs.Elements.{filter_in, map_in}
use Rattle.lk_link.proofs.GoodLinks.{part_alignment-pos}
use Rattle.lk_link.proofs.GoodPartFields.{good_part_fields}
use Rattle.lk_sizes.specs.Owners.{AreThunkOwners, thunk_bytes}
use Rattle.lk_sizes.proofs.ThunkOwners.{thunks_are_owners}
use Rattle.lk_thunks.specs.SetLaws.{IsRising}
use Rattle.lk_thunks.proofs.Places.{found_there}
use Rattle.lk_thunk_plan.specs.BranchLaws.{ThunksHaveRanges}
use Rattle.lk_thunk_plan.specs.Branches.{thunk_in}
use Rattle.lk_thunk_plan.specs.Orders.{owning}
use Rattle.lk_thunk_plan.specs.ThunkPlans.{config_for, owned_bytes, planned_sets, planned_users, thunk_owners, thunk_size, thunked}
use Rattle.lk_sizes.proofs.Placed.{size-le}
use Rattle.lk_thunk_plan.proofs.NextUsers.{finds_at, itself, other_number, same_file}
use Rattle.lk_thunk_plan.proofs.PlanLemmas.{owners_are_good, planned_sets_rise}
use Rattle.lk_thunk_plan.proofs.Spots.{one_of}

-- an owner's bytes are those that are told of its file
bytes_are : (link : LinkInput) (owners : List (FileId × ℕ)) (k : ℕ) (q : FileId × ℕ) → AreThunkOwners link owners → slice_get owners k ≡ Some q
    → option_map (λ r. r.1) (find (λ r. same_file q.0 r.0) owners) ≡ Some q.1
bytes_are link owners k q good at =
    ap (option_map (λ (r : FileId × ℕ). r.1))
    (finds_at (λ (r : FileId × ℕ). same_file q.0 r.0) owners k q at (itself q.0) (λ j r lt there.
    other_number link q.0 r.0 (λ same. absurd (omega (arith, good.rising j k r q lt there at, same)))))

-- an owner's file is there
file_there : (o : Option InputFile) → IsSome o → (file : InputFile) × (o ≡ Some file)
file_there None h = absurd (cc)
file_there (Some file) h = (file, refl)

-- a definition is found at its rank
rank_is : (set : List ℕ) (rank d : ℕ) → IsRising set → slice_get set rank ≡ Some d → position (λ s. s == d) set ≡ Some rank
rank_is set rank d rising at =
    let within : rank < length set = slice_get_within set rank d at in
    let is : slice_index_or set rank 0 ≡ d = get_or_from_slice_get set rank d 0 at in
    sym (found_there d rank set (record {
      within = omega (arith, within);
      below = λ k lt. omega (arith, rising k rank lt within, is);
      above = λ k le below. elim (cases_lt rank k) [
        | inl lt ↦ omega (arith, rising rank k lt below, is)
        | inr other ↦
            let same : k ≡ rank = omega (arith, le, other) in
            omega (arith, ap (λ i. slice_index_or set i 0) same, is)
      ];
    }) within is)

-- so many thunks, and one more, take no more than all
more : (i j size : ℕ) → i < j → i * size + size ≤ j * size
more i j size lt =
    let next : i * size + size ≡ (i + 1) * size = omega arith in
    omega (arith, next, mul-le (i + 1) size j size (omega (arith, lt)) (omega arith))

-- the rank of a definition that has a thunk
ranked : (size begin d : ℕ) (set : List ℕ) (o : Option ℕ) (place : ℕ) → position (λ s. s == d) set ≡ o → option_map (λ r. begin + r * size) o ≡ Some place
    → (rank : ℕ) × (rank < length set) × (slice_index_or set rank 0 ≡ d) × (begin + rank * size ≡ place)
ranked size begin d set None place at told = absurd (cc)
ranked size begin d set (Some rank) place at told =
    let found = position-Some (λ s. s == d) set rank 0 at in
    (rank, found.0, eqb-true (slice_index_or set rank 0) d found.1, cc)

-- of two definitions the lower one's thunk ends before the other's begins
apart : (size begin : ℕ) (set : List ℕ) (d e from behind : ℕ) → IsRising set → d < e → thunk_in size d (begin, set) ≡ Some from
    → thunk_in size e (begin, set) ≡ Some behind → from + size ≤ behind
apart size begin set d e from behind rising lt first second =
    let i = ranked size begin d set (position (λ s. s == d) set) from refl first in
    let j = ranked size begin e set (position (λ s. s == e) set) behind refl second in
    let below : i.0 < j.0
    = elim (cases_lt i.0 j.0) [
      | inl before ↦ before
      | inr other ↦ absurd (elim (cases_lt j.0 i.0) [
        | inl turned ↦ omega (arith, rising j.0 i.0 turned i.1, i.2, j.2, lt)
        | inr neither ↦
            let same : i.0 ≡ j.0 = omega (arith, other, neither) in
            omega (arith, ap (λ (k : ℕ). slice_index_or set k 0) same, i.2, j.2, lt)
      ])
    ] in
    omega (arith, more i.0 j.0 size below, i.3, j.3)

pub thunks_have_ranges : ThunksHaveRanges
thunks_have_ranges thunks filling j k p id set good named at_user at_set =
    let link : LinkInput = filling.content.link in
    let size : ℕ = thunk_size (config_for thunks link) in
    let users : List (FileId × ℕ × Bool) = planned_users thunks filling in
    let sets : List (List ℕ) = planned_sets thunks filling in
    let owner = filter_in (λ (u : FileId × ℕ × Bool). u.2) users j (id, k, true) at_user refl in
    let made = map_in (owned_bytes size sets) (owning users) owner.0 (id, k, true) owner.1 in
    let is_set : slice_index_or sets k [] ≡ set = get_or_from_slice_get sets k set [] at_set in
    let told : slice_get (thunk_owners thunks filling) owner.0 ≡ Some (id, size * length set) = made ∙ ap (λ (ds : List ℕ). Some (id, size * length ds)) is_set in
    let owners = owners_are_good thunks filling in
    let bytes : thunk_bytes (thunked thunks filling) id ≡ Some (size * length set) = bytes_are link (thunk_owners thunks filling) owner.0 (id, size * length set) owners told in
    let file = file_there (file_in link.groups id) (owners.there owner.0 (id, size * length set) told) in
    let free = (good_part_fields link good).primary p named in
    let part_is : part_at link.plan.sections p ≡ free.0.part = get_or_from_slice_get (all_parts link.plan.sections) p free.0.part (record { alignment = 1; packed = false }) free.0.there in
    let aligned : 0 < (part_at link.plan.sections p).alignment = omega (arith, part_alignment-pos link p free.0.part good free.0.there, ap (λ (q : PlanPart). q.alignment) part_is) in
    let rising : IsRising set = one_of IsRising sets k set (planned_sets_rise thunks filling) at_set in
    record {
      owner = thunks_are_owners (thunked thunks filling) id file.0 p (size * length set) file.1 named bytes;
      rising = rising;
      told = λ begin rank d at. ap (option_map (λ r. begin + r * size)) (rank_is set rank d rising at);
      inside = λ rank below.
          let turned : size * length set ≡ length set * size = omega arith in
          omega (arith, more rank (length set) size below, turned, size-le (part_at link.plan.sections p) (size * length set));
      apart = λ begin d e from behind lt first second. apart size begin set d e from behind rising lt first second;
    }
