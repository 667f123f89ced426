-- Marks on what events name: words of the contracts of private functions.
use Rattle.std.specs.Prelude.{◌≡◌, ◌≢◌, ℕ, ◌<◌, ◌&&◌, Bool, true, not, List, length, nat_lt}
use Rattle.std.specs.List.{list_any}
use Rattle.lk_link.specs.declared.plan.OrderEvent.{OrderEvent}
use Rattle.lk_link.specs.declared.plan.Plan.{Plan}
use Rattle.lk_link.specs.Marks.{is_marked}
use Rattle.lk_link.specs.Rules.{is_section, is_start, is_end}

-- of n numbers those have marks that some event names
pub record AreMarked (names : ℕ → OrderEvent → Bool) (n : ℕ) (before : List OrderEvent) (marks : List Bool) : Type 0 where
  pub all : length marks ≡ n
  pub each : (k : ℕ) → is_marked marks k ≡ list_any (names k) before

-- marks on the sections that events placed, and on the segments that they opened and closed
pub record AreMarks (plan : Plan) (before : List OrderEvent) (placed opened closed : List Bool) : Type 0 where
  pub on_sections : AreMarked is_section (length plan.sections) before placed
  pub on_starts : AreMarked is_start (length plan.segments) before opened
  pub on_ends : AreMarked is_end (length plan.segments) before closed

-- a number that had no mark, where it has a place, gets one, and nothing else does; fresh says whether it did
pub record Marks (n : ℕ) (old new : List Bool) (fresh : Bool) : Type 0 where
  pub is_fresh : fresh ≡ (nat_lt n (length old) && not (is_marked old n))
  pub set : n < length old → is_marked new n ≡ true
  pub others : (k : ℕ) → k ≢ n → is_marked new k ≡ is_marked old k
  pub len : length new ≡ length old
