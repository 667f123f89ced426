use Rattle.std.proofs.Common.{◌≡◌, ℕ, ◌<◌, drop, vec_len, false}
use Rattle.std.specs.Prelude.{◌||◌}
use Rattle.std.specs.List.{slice_index_or}
use Rattle.lk_place.specs.Segments.{is_in_segments}
use Rattle.lk_place.proofs.segments.mark_standing.Given as goal

-- the marks so far, or those that are left
abbrev pub invariant-loop-inside : goal.invariant-loop-inside
invariant-loop-inside l = record {
  count : vec_len l.marks ≡ l.sections;
  marks : (s : ℕ) → s < l.sections → (slice_index_or l.marks.items s false || is_in_segments (drop l.inside-index l.insides) s) ≡ is_in_segments l.insides s;
}
