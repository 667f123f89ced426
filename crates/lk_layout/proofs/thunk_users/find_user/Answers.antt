use Rattle.std.proofs.Common.{◌≡◌, ◌≤◌, Some, length, sym, ap, ◌∙◌, rules}
use Rattle.std.specs.List.{slice_get}
use Rattle.std.proofs.lemmas.List.Sorted.{IsPartitionPoint-from_clause}
use Rattle.std.proofs.lemmas.Option.{slice_get-get_or}
use Rattle.lk_layout.proofs.UsersFound.{IsSeam, User, found_here, none_here, none_past, parted, stands_before}
use Rattle.lk_layout.proofs.thunk_users.find_user.Goals as goal
use Rattle.lk_layout.proofs.thunk_users.find_user.Goals.{in_default-via-in-Some+else-is_same, in_default-via-in_default}

pub returns-in-Some : goal.returns-in-Some
returns-in-Some c =
    let users = c.args.users.now in
    let id = c.args.id in
    let place = c.partition_point-place.result in
    let seam : IsSeam users id place
    = IsPartitionPoint-from_clause (stands_before id) users place c.partition_point-place.ensures.partitioned (parted users id c.requires) (λ a r q k. search rules) in
    let there : slice_get users place ≡ Some c.in-Some.user.now
    = slice_get-get_or users place c.in-Some.user.now c.in-Some.ensures.lookup.3.0 ∙ ap (λ (u : User). Some u) (sym c.in-Some.ensures.lookup.1) in
    sym (found_here users id place c.in-Some.user.now seam there (search rules))

pub returns-in_default : goal.returns-in_default
returns-in_default c =
    let users = c.args.users.now in
    let id = c.args.id in
    let place = c.partition_point-place.result in
    let seam : IsSeam users id place
    = IsPartitionPoint-from_clause (stands_before id) users place c.partition_point-place.ensures.partitioned (parted users id c.requires) (λ a r q k. search rules) in
    elim c.in_default.branch [
      | in_default-via-in-Some+else-is_same w ↦
          let there : slice_get users place ≡ Some w.in-Some.user.now
          = slice_get-get_or users place w.in-Some.user.now w.in-Some.ensures.lookup.3.0 ∙ ap (λ (u : User). Some u) (sym w.in-Some.ensures.lookup.1) in
          sym (none_here users id place w.in-Some.user.now c.requires seam there (search rules))
      | in_default-via-in_default w ↦
          let past : length users ≤ place = search rules in
          sym (none_past users id place seam past)
    ]
