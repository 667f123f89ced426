-- What a plan is, and what stands in order there.
use Rattle.std.proofs.Common.{◌≡◌, ℕ, All, Bool, List, [], ◌∷◌, map, Option, Some, None, Result, Ok, Err, refl, sym, ap, subst, ◌∙◌}
use Rattle.std.specs.Prelude.{IfOk}
use Rattle.std.specs.List.{slice_get}
use Rattle.std.specs.Option.{option_map_or}
use Rattle.std.proofs.lemmas.List.Elements.{All-nil}
use Rattle.lk_link.specs.declared.ids.FileId.{FileId}
use Rattle.lk_link.specs.declared.link.LinkInput.{LinkInput}
use Rattle.lk_link.specs.declared.options.Options.{Options}
use Rattle.lk_link.specs.declared.plan.Plan.{Plan}
use Rattle.lk_sizes.specs.Owners.{AreThunkOwners, Filling}
use Rattle.lk_thunks.specs.declared.arch.ThunkConfig.{ThunkConfig}
use Rattle.lk_thunks.specs.declared.sets.ThunkBlock.{ThunkBlock}
use Rattle.lk_thunks.specs.Blocks.{assigned}
use Rattle.lk_thunks.specs.Ranges.{planned_objects}
use Rattle.lk_thunks.specs.SetLaws.{IsRising}
use Rattle.lk_thunks.specs.ThunkSets.{thunk_sets}
use Rattle.lk_thunk_plan.specs.declared.thunk_plan.ThunkPlan.{ThunkPlan}
use Rattle.lk_thunk_plan.specs.Orders.{AreUsersOf, IsInOrder, owning}
use Rattle.lk_thunk_plan.specs.Planning.{IsPlannedFrom}
use Rattle.lk_thunk_plan.specs.ThunkPlans.{IsThunkPlan, code_before, config_for, owned_bytes, owners_among, planned_range, planned_sets, planned_users, thunk_owners, thunk_size}
use Rattle.lk_thunk_plan.proofs.FilesInOrder.{FilesRise, file_there, files_rising, some_rise}
use Rattle.lk_thunk_plan.proofs.Owning.{owners_follow}
use Rattle.lk_thunk_plan.proofs.PlannedSets.{sets_rise}
use Rattle.lk_thunk_plan.proofs.PlannedUsers.{users_rise}

pub if_ok : {X E : Type 0} (P Q : X → Type 0) (r : Result X E) → ((x : X) → P x → Q x) → IfOk r P → IfOk r Q
if_ok P Q (Ok x) f h = f x h
if_ok P Q (Err e) f h = h

-- ---- what a plan is

-- where none is planned, there are no sets and no objects
pub no_sets : (thunks : Options → Plan → Option ThunkConfig) (filling : Filling) → planned_range thunks filling.content.link ≡ None → planned_sets thunks filling ≡ []
unfolding planned_sets
no_sets thunks filling none = ap (λ (o : Option ℕ). option_map_or (λ range. thunk_sets filling.content.link filling.content.live range (code_before filling)) o []) none

pub no_users : (thunks : Options → Plan → Option ThunkConfig) (filling : Filling) → planned_range thunks filling.content.link ≡ None → planned_users thunks filling ≡ []
unfolding planned_users
no_users thunks filling none = ap (λ (o : Option ℕ). option_map_or (λ range. assigned range (planned_objects filling.content.link filling.content.live (code_before filling))) o []) none

pub some_sets : (thunks : Options → Plan → Option ThunkConfig) (filling : Filling) (range : ℕ) → planned_range thunks filling.content.link ≡ Some range
    → planned_sets thunks filling ≡ thunk_sets filling.content.link filling.content.live range (code_before filling)
unfolding planned_sets
some_sets thunks filling range some = ap (λ (o : Option ℕ). option_map_or (λ r. thunk_sets filling.content.link filling.content.live r (code_before filling)) o []) some

pub some_users : (thunks : Options → Plan → Option ThunkConfig) (filling : Filling) (range : ℕ) → planned_range thunks filling.content.link ≡ Some range
    → planned_users thunks filling ≡ assigned range (planned_objects filling.content.link filling.content.live (code_before filling))
unfolding planned_users
some_users thunks filling range some = ap (λ (o : Option ℕ). option_map_or (λ r. assigned r (planned_objects filling.content.link filling.content.live (code_before filling))) o []) some

pub unplanned_is : (thunks : Options → Plan → Option ThunkConfig) (filling : Filling) (plan : ThunkPlan) → planned_range thunks filling.content.link ≡ None
    → plan.config ≡ config_for thunks filling.content.link → plan.blocks ≡ [] → plan.users ≡ [] → plan.owners ≡ [] → IsThunkPlan thunks filling plan
unplanned_is thunks filling plan none config blocks users owners =
    let size : ℕ = thunk_size (config_for thunks filling.content.link) in
    record {
      config = config;
      sets = ap (map (λ (b : ThunkBlock). b.symbols)) blocks ∙ sym (no_sets thunks filling none);
      users = users ∙ sym (no_users thunks filling none);
      owners = owners ∙ sym (ap (owners_among size (planned_sets thunks filling)) (no_users thunks filling none));
    }

pub planned_is : (thunks : Options → Plan → Option ThunkConfig) (filling : Filling) (range : ℕ) (plan : ThunkPlan) → planned_range thunks filling.content.link ≡ Some range
    → IsPlannedFrom filling.content.link filling.content.live (config_for thunks filling.content.link) range (code_before filling) plan → IsThunkPlan thunks filling plan
planned_is thunks filling range plan some is =
    let size : ℕ = thunk_size (config_for thunks filling.content.link) in
    let sets : map (λ (b : ThunkBlock). b.symbols) plan.blocks ≡ planned_sets thunks filling = is.sets ∙ sym (some_sets thunks filling range some) in
    let users : plan.users ≡ planned_users thunks filling = is.users ∙ sym (some_users thunks filling range some) in
    record {
      config = is.config;
      sets = sets;
      users = users;
      owners = is.owners ∙ ap (λ ss. owners_among size ss plan.users) sets ∙ ap (owners_among size (planned_sets thunks filling)) users;
    }

-- ---- what stands in order

pub planned_sets_rise : (thunks : Options → Plan → Option ThunkConfig) (filling : Filling) → All IsRising (planned_sets thunks filling)
planned_sets_rise thunks filling = by (planned_range thunks filling.content.link) refl
  where
    by : (o : Option ℕ) → planned_range thunks filling.content.link ≡ o → All IsRising (planned_sets thunks filling)
    by None e = subst (All IsRising) (sym (no_sets thunks filling e)) (All-nil IsRising)
    by (Some range) e = subst (All IsRising) (sym (some_sets thunks filling range e)) (sets_rise filling.content.link filling.content.live range (code_before filling))

pub planned_files_rise : (thunks : Options → Plan → Option ThunkConfig) (filling : Filling) → FilesRise filling.content.link.groups 0 (map (λ u. u.0) (planned_users thunks filling))
planned_files_rise thunks filling = by (planned_range thunks filling.content.link) refl
  where
    Rise : List (FileId × ℕ × Bool) → Type 0
    Rise us = FilesRise filling.content.link.groups 0 (map (λ (u : FileId × ℕ × Bool). u.0) us)

    by : (o : Option ℕ) → planned_range thunks filling.content.link ≡ o → FilesRise filling.content.link.groups 0 (map (λ u. u.0) (planned_users thunks filling))
    by None e = subst (λ (us : List (FileId × ℕ × Bool)). FilesRise filling.content.link.groups 0 (map (λ (u : FileId × ℕ × Bool). u.0) us)) (sym (no_users thunks filling e)) tt
    by (Some range) e = subst (λ (us : List (FileId × ℕ × Bool)). FilesRise filling.content.link.groups 0 (map (λ (u : FileId × ℕ × Bool). u.0) us)) (sym (some_users thunks filling range e)) (users_rise filling.content.link filling.content.live range (code_before filling))

planned_numbers : (thunks : Options → Plan → Option ThunkConfig) (filling : Filling) (k : ℕ) (u : FileId × ℕ × Bool) → slice_get (owning (planned_users thunks filling)) k ≡ Some u → u.1 ≡ k
planned_numbers thunks filling k u at = by (planned_range thunks filling.content.link) refl
  where
    by : (o : Option ℕ) → planned_range thunks filling.content.link ≡ o → u.1 ≡ k
    by None e = absurd (nothing k u (sym (ap (λ us. slice_get (owning us) k) (no_users thunks filling e)) ∙ at))
      where
        nothing : (i : ℕ) (v : FileId × ℕ × Bool) → slice_get [] i ≡ Some v → ⊥
        nothing i v h = absurd (cc)
    by (Some range) e =
        owners_follow range (planned_objects filling.content.link filling.content.live (code_before filling)) k u
        (sym (ap (λ us. slice_get (owning us) k) (some_users thunks filling range e)) ∙ at)

owned_files : (size : ℕ) (sets : List (List ℕ)) (users : List (FileId × ℕ × Bool)) → map (λ q. q.0) (map (owned_bytes size sets) users) ≡ map (λ u. u.0) users
owned_files size sets [] = refl
owned_files size sets (u ∷ users) = ap (λ (ids : List FileId). u.0 ∷ ids) (owned_files size sets users)

pub owners_rise : (thunks : Options → Plan → Option ThunkConfig) (filling : Filling) → FilesRise filling.content.link.groups 0 (map (λ q. q.0) (thunk_owners thunks filling))
owners_rise thunks filling =
    let groups = filling.content.link.groups in
    let users : List (FileId × ℕ × Bool) = planned_users thunks filling in
    subst (FilesRise groups 0) (sym (owned_files (thunk_size (config_for thunks filling.content.link)) (planned_sets thunks filling) (owning users)))
    (some_rise groups 0 (λ (u : FileId × ℕ × Bool). u.0) (λ (u : FileId × ℕ × Bool). u.2) users (planned_files_rise thunks filling))

pub owners_are_good : (thunks : Options → Plan → Option ThunkConfig) (filling : Filling) → AreThunkOwners filling.content.link (thunk_owners thunks filling)
owners_are_good thunks filling =
    let groups = filling.content.link.groups in
    let id : FileId × ℕ → FileId = λ q. q.0 in
    let rise = owners_rise thunks filling in
    record {
      there = λ k q at. (file_there groups 0 id (thunk_owners thunks filling) k q rise at).0;
      rising = λ j k q r lt at_j at_k. files_rising groups 0 id (thunk_owners thunks filling) j k q r rise lt at_j at_k;
    }

users_are_good : (link : LinkInput) (users : List (FileId × ℕ × Bool)) → FilesRise link.groups 0 (map (λ u. u.0) users) → AreUsersOf link users
users_are_good link users rise =
    let id : FileId × ℕ × Bool → FileId = λ u. u.0 in
    record {
      there = λ k u at. (file_there link.groups 0 id users k u rise at).0;
      rising = λ j k u v lt at_j at_k. files_rising link.groups 0 id users j k u v rise lt at_j at_k;
    }

pub in_order : (thunks : Options → Plan → Option ThunkConfig) (filling : Filling) (plan : ThunkPlan) → IsThunkPlan thunks filling plan → IsInOrder filling.content.link plan
in_order thunks filling plan is =
    let users : List (FileId × ℕ × Bool) = planned_users thunks filling in
    let size : ℕ = thunk_size (config_for thunks filling.content.link) in
    record {
      sets = subst (All IsRising) (sym is.sets) (planned_sets_rise thunks filling);
      users = subst (AreUsersOf filling.content.link) (sym is.users) (users_are_good filling.content.link users (planned_files_rise thunks filling));
      owners = record {
        numbers = λ k u at. planned_numbers thunks filling k u (ap (λ us. slice_get (owning us) k) (sym is.users) ∙ at);
        files = ap (map (λ (q : FileId × ℕ). q.0)) is.owners ∙ owned_files size (planned_sets thunks filling) (owning users)
            ∙ ap (λ us. map (λ (u : FileId × ℕ × Bool). u.0) (owning us)) (sym is.users);
      };
    }
