use Rattle.std.proofs.Common.{◌≡◌, ℕ, ◌<◌, length, map}
use Rattle.std.specs.List.{enumerate_from, list_any}
use Rattle.lk_link.specs.Marks.{is_marked}
use Rattle.lk_link.specs.Parts.{all_parts}
use Rattle.lk_link.specs.Walks.{input_of}
use Rattle.lk_live.specs.KeptParts.{keeps_part, live_mark}
use Rattle.lk_live.specs.Reach.{marked}
use Rattle.lk_live.proofs.keep.live_pass.Given as goal

-- the marks of the sections so far, and the parts that they keep
abbrev pub invariant-loop-input : goal.invariant-loop-input
invariant-loop-input l =
    (l.live.items ≡ map (live_mark l.link l.marks) (enumerate_from 0 (map input_of l.yielded)))
    × (length l.parts.items ≡ length (all_parts l.link.plan.sections))
    × ((p : ℕ) → p < length l.parts.items
    → is_marked l.parts.items p ≡ list_any (λ x. keeps_part p x.section) (marked l.live.items (map input_of l.yielded)))
