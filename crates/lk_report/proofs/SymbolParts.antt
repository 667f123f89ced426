-- Lines of symbols, part by part.
use Rattle.std.proofs.Common.{◌≡◌, ℕ, suc, ◌+◌, ◌-◌, ◌<◌, List, ◌++◌, ◌∷◌, ◌≤◌, Option, get_or, length, refl, arith, append_assoc}
use Rattle.lk_link.specs.declared.resolution.Resolution.{Resolution}
use Rattle.lk_report.specs.Report.{each, symbol_text}
use Rattle.lk_report.specs.SymbolParts.{lines_from, part_start}
use Rattle.lk_report.proofs.Lines.{ends}

-- the first part begins with the first item
pub first_start : (count parts : ℕ) → 0 < parts → part_start count parts 0 ≡ 0
first_start count parts some = grind arith

-- behind the last part all items end
pub last_start : (count parts : ℕ) → part_start count parts parts ≡ count
last_start count parts = grind arith

-- where the lines from the first part on are to follow a text, those of all symbols are
pub from_first : (resolutions : List (Option Resolution)) (parts k : ℕ) (text : List ℕ) → 0 < parts → k ≡ 0 →
    text ++ lines_from resolutions (part_start (length resolutions) parts k) ≡ text ++ each symbol_text 0 resolutions
from_first resolutions parts k text some is = rw (is, first_start (length resolutions) parts some) refl

-- where those from a part on are to follow it, those from the next one on are to follow it with the part's
pub next_part : (resolutions : List (Option Resolution)) (parts k next : ℕ) (before after bytes whole : List ℕ) → next ≡ k + 1 →
    bytes ++ lines_from resolutions (part_start (length resolutions) parts (k + 1)) ≡ lines_from resolutions (part_start (length resolutions) parts k) →
    before ++ lines_from resolutions (part_start (length resolutions) parts k) ≡ whole → after ≡ before ++ bytes →
    after ++ lines_from resolutions (part_start (length resolutions) parts next) ≡ whole
next_part resolutions parts k next before after bytes whole is part left written =
    rw is (cc (part, left, written, append_assoc before bytes (lines_from resolutions (part_start (length resolutions) parts (k + 1)))))

-- behind all parts nothing is left
pub behind_last : (resolutions : List (Option Resolution)) (parts k : ℕ) (text whole : List ℕ) → k ≡ parts →
    text ++ lines_from resolutions (part_start (length resolutions) parts k) ≡ whole → text ≡ whole
behind_last resolutions parts k text whole is left =
    ends symbol_text (length resolutions) resolutions (length resolutions) text whole (omega arith) (rw (is, last_start (length resolutions) parts) at left)

-- ---- what holds of each item of a list, by its number, while items are taken from its front; so many are left

pub all_left : {X : Type 0} (P : ℕ → X → Type 0) (count left : ℕ) (xs rest : List X) → rest ≡ xs → left ≡ count →
    ((k : ℕ) (d : X) → k < count → P k (get_or xs k d)) → (k : ℕ) (d : X) → k < left → P (count - left + k) (get_or rest k d)
all_left P count left xs rest is all each k d h =
    let at : count - left + k ≡ k = omega (arith, all) in
    rw (is, at) (each k d (omega (arith, h, all)))

pub of_first : {X : Type 0} (P : ℕ → X → Type 0) (count left next : ℕ) (x : X) (xs rest : List X) → rest ≡ x ∷ xs → next + 1 ≡ left →
    ((k : ℕ) (d : X) → k < left → P (count - left + k) (get_or rest k d)) → P (count - left) x
of_first P count left next x xs rest is one each =
    let at : count - left ≡ count - left + 0 = omega arith in
    rw at (rw is at (each 0 x (omega (arith, one))))

pub fewer_left : {X : Type 0} (P : ℕ → X → Type 0) (count left next : ℕ) (x : X) (xs rest : List X) → rest ≡ x ∷ xs → next + 1 ≡ left → left ≤ count →
    ((k : ℕ) (d : X) → k < left → P (count - left + k) (get_or rest k d)) → (k : ℕ) (d : X) → k < next → P (count - next + k) (get_or xs k d)
fewer_left P count left next x xs rest is one few each k d h =
    let at : count - next + k ≡ count - left + suc k = omega (arith, one, few) in
    rw at (rw is at (each (suc k) d (omega (arith, h, one))))
