-- Laws on groups that are closed.
use Rattle.std.specs.Prelude.{◌≡◌, ◌↔◌, ℕ, true, slice_index}
use Rattle.std.specs.Int.{bit_at}
use Rattle.lk_link.specs.declared.link.LinkInput.{LinkInput}
use Rattle.lk_link.specs.WellFormed.{IsWellFormed}
use Rattle.lk_flags.specs.Flags.{AllWithin}
use Rattle.lk_reach.specs.declared.units.Unit.{Unit as LinkUnit}
use Rattle.lk_reach.specs.Marks.{IsClosed, asking, flag_words, handed_in, reached_marks, word_of}
use Rattle.lk_reach.specs.Reach.{HasFlag, IsReached}
use Rattle.lk_slot_link.specs.LinkLists.{AreInside, lists_of}
use Rattle.lk_workers.specs.Closings.{ClosedValue, are_groups_closed, is_unit_done}

-- all groups are closed exactly where the marks and the words are
abbrev pub GroupsAreClosed : Type 0
GroupsAreClosed = (link : LinkInput) (v : ClosedValue) → (are_groups_closed v link ≡ true) ↔ IsClosed (asking link) v.done v.words

-- all that is reached, with all flags
abbrev pub all_reached : LinkInput → ClosedValue
all_reached link = record { done = reached_marks link; words = flag_words link }

-- then all groups are closed
abbrev pub ReachedGroupsAreClosed : Type 0
ReachedGroupsAreClosed = (link : LinkInput) → IsWellFormed link → are_groups_closed (all_reached link) link ≡ true

-- where all groups are closed, each unit that is reached is done
abbrev pub ClosedGroupsHoldReach : Type 0
ClosedGroupsHoldReach = (link : LinkInput) (v : ClosedValue) (unit : LinkUnit) → IsWellFormed link → are_groups_closed v link ≡ true
    → IsReached link unit → is_unit_done v link.groups unit ≡ true

-- there words that have what is handed in have all flags
abbrev pub ClosedGroupsHoldFlags : Type 0
ClosedGroupsHoldFlags = (link : LinkInput) (v : ClosedValue) (s i : ℕ) → IsWellFormed link → are_groups_closed v link ≡ true
    → AllWithin (handed_in link) v.words → HasFlag link s i → bit_at (slice_index v.words (word_of s)) i ≡ 1

-- of marks and words inside a link's lists, all groups are closed exactly where they are all
abbrev pub ClosedInsideIsAll : Type 0
ClosedInsideIsAll = (link : LinkInput) (v : ClosedValue) → IsWellFormed link → AreInside (lists_of link) v.done v.words
    → (are_groups_closed v link ≡ true) ↔ ((v.done ≡ reached_marks link) × (v.words ≡ flag_words link))
