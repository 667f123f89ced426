-- Sections of which each that has to stand in a segment is held by one.
use Rattle.std.proofs.Common.{◌≡◌, ℕ, ◌≤◌, Bool, true, false, None, List, length, take, take_all, option_map, refl, ap, ◌∙◌, subst, arith}
use Rattle.std.specs.Prelude.{◌&&◌, not}
use Rattle.std.specs.List.{All, list_any}
use Rattle.lk_map.specs.declared.map_text.SectionLine.{SectionLine}
use Rattle.lk_map.specs.declared.map_text.SegmentLine.{SegmentLine}
use Rattle.lk_map.specs.Checking.{first_outside, holds, is_outside, needs_segment}
use Rattle.lk_map.proofs.Least.{find_none}

abbrev pub some_section : SectionLine
some_section = record { line = 0; mem_offset = 0; mem_size = 0; file_offset = 0; file_size = 0; attrs = 0 }

never : (b : Bool) → (b && false) ≡ false
never true = refl
never false = refl

-- one that is held isn't outside
pub held : (gs : List SegmentLine) (s : SectionLine) → list_any (λ g. holds g s) gs ≡ true → is_outside gs s ≡ false
unfolding is_outside
held gs s h = ap (λ b. needs_segment s && not b) h ∙ never (needs_segment s)

-- nor is one that needs no segment
pub no_need : (gs : List SegmentLine) (s : SectionLine) → needs_segment s ≡ false → is_outside gs s ≡ false
unfolding is_outside
no_need gs s h = ap (λ b. b && not (list_any (λ g. holds g s) gs)) h

-- where all are so, none is told
pub all_held : (gs : List SegmentLine) (ss : List SectionLine) (i : ℕ) → length ss ≤ i → All (λ s. is_outside gs s ≡ false) (take i ss) → first_outside ss gs ≡ None
unfolding first_outside
all_held gs ss i past h =
    let all : take i ss ≡ ss = take_all i ss (omega arith) in
    ap (option_map (λ s. s.line)) (find_none (is_outside gs) ss (subst (All (λ s. is_outside gs s ≡ false)) all h))
