-- Groups are closed exactly where marks and words are.
use Rattle.std.proofs.Common.{◌≡◌, ℕ, ◌||◌, not, Bool, true, false, [], length, Option, None, Some, get_or, refl, sym, ap, ◌∙◌, subst, zero-add}
use Rattle.std.specs.List.{All, list_all, range_with_len}
use Rattle.std.specs.Option.{option_map_or}
use Rattle.std.proofs.lemmas.Bool.{and_from, and_parts}
use Rattle.std.proofs.lemmas.List.Elements.{All-contains, All-nil}
use Rattle.std.proofs.lemmas.Option.{slice_get-get_or}
use Rattle.lk_link.specs.declared.link.LinkInput.{LinkInput}
use Rattle.lk_link.specs.Files.{file_in}
use Rattle.lk_link.specs.Inputs.{NumberedFile, numbered_files}
use Rattle.lk_link.specs.Symbols.{file_number}
use Rattle.lk_link.proofs.Elements.{contains_at, flat_map_in}
use Rattle.lk_link.proofs.InputLemmas.{file_stands}
use Rattle.lk_link.proofs.Places.{all_at, all_from}
use Rattle.lk_reach.specs.declared.units.Ask.{Ask}
use Rattle.lk_reach.specs.declared.units.Unit.{Unit as LinkUnit}
use Rattle.lk_reach.specs.Marks.{IsClosed, IsMarked, IsUnit, asking, reached_marks, unit_at, unit_number}
use Rattle.lk_reach.specs.Units.{file_roots, follows, roots}
use Rattle.lk_reach.proofs.ClosedWords.{closed_words_hold_flags}
use Rattle.lk_reach.proofs.Numbered.{file_at}
use Rattle.lk_reach.proofs.ReachLemmas.{closed_marks_hold_reach, follows_at, reach_is_closed}
use Rattle.lk_reach.proofs.UnitLemmas.{all_joined, number_of}
use Rattle.lk_slot_link.specs.LinkGraphs.{files_of_group}
use Rattle.lk_slot_link.proofs.Fitting.{lists_fit}
use Rattle.lk_workers.specs.Closings.{ClosedValue, are_groups_closed, file_units, is_ask_met, is_file_closed, is_group_closed, is_unit_closed, is_unit_done}
use Rattle.lk_worker_laws.specs.Laws.{ClosedGroupsHoldFlags, ClosedGroupsHoldReach, ClosedInsideIsAll, GroupsAreClosed, ReachedGroupsAreClosed, all_reached}
use Rattle.lk_worker_laws.proofs.FileUnits.{covered, file_here, file_there, number_at, unit_there}
use Rattle.lk_worker_laws.proofs.MetAsks.{IsFitted, all_fitted, all_met}

-- ---- from groups

file_parts : (link : LinkInput) (v : ClosedValue) (f : NumberedFile) → are_groups_closed v link ≡ true → file_in link.groups f.id ≡ Some f.file
    → (list_all (is_ask_met v link.groups) (file_roots link f) ≡ true) × (list_all (is_unit_closed v link) (file_units link.groups f) ≡ true)
file_parts link v f h there =
    let g : ℕ = f.id.group in
    let here = file_here link.groups f there in
    let group = all_at (is_group_closed v link) (range_with_len 0 (length link.groups)) g g h (number_at 0 (length link.groups) g here.0 ∙ ap Some (zero-add g)) in
    and_parts (list_all (is_ask_met v link.groups) (file_roots link f)) (list_all (is_unit_closed v link) (file_units link.groups f))
    (all_at (is_file_closed v link) (files_of_group link.groups g) f.id.file f group here.1)

where_done : (a b : Bool) → a ≡ true → (not a || b) ≡ true → b ≡ true
where_done true b e h = h
where_done false b e h = absurd (cc)

unit_fitted : (link : LinkInput) (v : ClosedValue) (u : ℕ) (o : Option LinkUnit) → are_groups_closed v link ≡ true → unit_at link.groups u ≡ o → IsMarked v.done u → All (IsFitted link v) (option_map_or (follows link) o [])
unit_fitted link v u None h at marked = All-nil (IsFitted link v)
unit_fitted link v u (Some unit) h at marked =
    let of = covered link.groups u unit at in
    let closed = all_at (is_unit_closed v link) (file_units link.groups of.file) of.place unit (file_parts link v of.file h of.there).1 of.among in
    let is : is_unit_done v link.groups unit ≡ true = subst (IsMarked v.done) (sym (number_of link.groups u unit at)) marked in
    all_fitted link v (follows link unit) (where_done (is_unit_done v link.groups unit) (list_all (is_ask_met v link.groups) (follows link unit)) is closed)

from_groups : (link : LinkInput) (v : ClosedValue) → are_groups_closed v link ≡ true → IsClosed (asking link) v.done v.words
from_groups link v h = record {
  by_roots = all_joined (IsFitted link v) (file_roots link) (numbered_files link.groups)
      (λ k f at. all_fitted link v (file_roots link f) (file_parts link v f h (file_at link.groups k f at).there).0);
  by_units = λ u marked. unit_fitted link v u (unit_at link.groups u) h refl marked;
}

-- ---- to groups

-- what all roots have, a file's have
roots_of_file : (P : Ask → Type 0) (link : LinkInput) (f : NumberedFile) → file_in link.groups f.id ≡ Some f.file → All P (roots link) → All P (file_roots link f)
roots_of_file P link f there h k d lt =
    let a : Ask = get_or (file_roots link f) k d in
    let at = flat_map_in (file_roots link) (numbered_files link.groups) (file_number link.groups f.id) k f a (file_stands link.groups f.id f.file there) (slice_get-get_or (file_roots link f) k d lt) in
    All-contains P (roots link) a h (contains_at (roots link) at.0 a at.1)

unit_closed : (link : LinkInput) (v : ClosedValue) (unit : LinkUnit) (b : Bool) → IsClosed (asking link) v.done v.words → IsUnit link.groups unit → is_unit_done v link.groups unit ≡ b → is_unit_closed v link unit ≡ true
unit_closed link v unit false closed is e = ap (λ b. not b || list_all (is_ask_met v link.groups) (follows link unit)) e
unit_closed link v unit true closed is e =
    ap (λ b. not b || list_all (is_ask_met v link.groups) (follows link unit)) e
    ∙ all_met link v (follows link unit) (subst (All (IsFitted link v)) (follows_at link (unit_number link.groups unit) unit is) (closed.by_units (unit_number link.groups unit) e))

file_closed : (link : LinkInput) (v : ClosedValue) (f : NumberedFile) → IsClosed (asking link) v.done v.words → file_in link.groups f.id ≡ Some f.file → is_file_closed v link f ≡ true
file_closed link v f closed there =
    and_from (list_all (is_ask_met v link.groups) (file_roots link f)) (list_all (is_unit_closed v link) (file_units link.groups f))
    (all_met link v (file_roots link f) (roots_of_file (IsFitted link v) link f there closed.by_roots))
    (all_from (is_unit_closed v link) (file_units link.groups f)
    (λ k unit at. unit_closed link v unit (is_unit_done v link.groups unit) closed (unit_there link.groups f k unit there at) refl))

to_groups : (link : LinkInput) (v : ClosedValue) → IsClosed (asking link) v.done v.words → are_groups_closed v link ≡ true
to_groups link v closed =
    all_from (is_group_closed v link) (range_with_len 0 (length link.groups))
    (λ k g at. all_from (is_file_closed v link) (files_of_group link.groups g) (λ j f here. file_closed link v f closed (file_there link.groups g j f here)))

-- ---- laws

pub groups_are_closed : GroupsAreClosed
groups_are_closed link v = (from_groups link v, to_groups link v)

pub reached_groups_are_closed : ReachedGroupsAreClosed
reached_groups_are_closed link wf = to_groups link (all_reached link) (reach_is_closed link wf)

pub closed_groups_hold_reach : ClosedGroupsHoldReach
closed_groups_hold_reach link v unit wf h reached = closed_marks_hold_reach link v.done v.words unit wf (from_groups link v h) reached

pub closed_groups_hold_flags : ClosedGroupsHoldFlags
closed_groups_hold_flags link v s i wf h handed flag = closed_words_hold_flags link v.done v.words s i wf (from_groups link v h) handed flag

pub closed_inside_is_all : ClosedInsideIsAll
closed_inside_is_all link v wf inside = (
  λ h. (lists_fit link wf).all v.done v.words inside (from_groups link v h),
  λ same.
      let words : IsClosed (asking link) (reached_marks link) v.words = subst (IsClosed (asking link) (reached_marks link)) (sym same.1) (reach_is_closed link wf) in
      to_groups link v (subst (λ marks. IsClosed (asking link) marks v.words) (sym same.0) words),
)
