-- What a pass makes of a section.
use Rattle.std.proofs.Common.{◌≡◌, ◌≤◌, ℕ, Bool, true, false, List, sym, ap, subst, ◌∙◌, arith}
use Rattle.std.specs.Prelude.{if◌then◌else◌}
use Rattle.lk_link.specs.declared.relocation.RelaxCandidate.{RelaxCandidate}
use Rattle.lk_deltas.specs.declared.candidates.Outcome.{Outcome}
use Rattle.lk_deltas.specs.Candidates.{AreCandidates, AreOf, picked, shrunk}
use Rattle.lk_deltas.specs.Deletions.{mapped}
use Rattle.lk_deltas.specs.Laws.{OffsetsOnlyFall, PickedAreNew, ShrunkAreOf}
use Rattle.lk_deltas.specs.LinkDeletions.{Deletions, deleted_of, size_after}
use Rattle.lk_relax.specs.Scan.{ranges_of, told}
use Rattle.lk_relax.specs.Stages.{PassesShrink, is_among, link_of, ranges_behind, standing_at}
use Rattle.lk_relax.proofs.Emptied.{mapped_in}
use Rattle.lk_relax.proofs.ReadBack.{deletions_are_read}

-- ranges that a pass leaves of a section, by what was deleted before
record AreLeft (old : List (ℕ × ℕ)) (cs : List RelaxCandidate) (size : ℕ) (new : List (ℕ × ℕ)) : Type 0 where
  of : AreOf new cs
  falls : mapped new size ≤ mapped old size

are_left : ShrunkAreOf → PickedAreNew → OffsetsOnlyFall → (told : RelaxCandidate → Outcome) (old : List (ℕ × ℕ)) (cs : List RelaxCandidate) (size : ℕ) (looked : Bool) → AreCandidates cs → AreOf old cs
    → AreLeft old cs size (if looked then shrunk told old cs else old)
are_left stay new fall told old cs size true rising of = record { of = stay told old cs rising; falls = fall old (picked told old cs) (shrunk told old cs) size (new told old cs rising of) }
are_left stay new fall told old cs size false rising of = record { of = of; falls = omega arith }

pub passes_shrink : ShrunkAreOf → PickedAreNew → OffsetsOnlyFall → PassesShrink
passes_shrink stay new fall by a b k x pass there rising of =
    let groups = (link_of by).groups in
    let ranges : Deletions → List (ℕ × ℕ) = λ ds. ranges_of groups ds x.file x.index in
    let is : ranges b.deletions ≡ ranges_behind by a x = ap ranges pass.deletions ∙ deletions_are_read (link_of by) (ranges_behind by a) k x there in
    let left = are_left stay new fall (told (standing_at by a) x.file x.index) (ranges a.deletions) x.section.relax x.section.size (is_among a.scan x) rising of in
    let size : (ds : Deletions) → size_after groups ds x ≡ mapped (ranges ds) x.section.size = λ ds. mapped_in (deleted_of groups ds x.file x.index) x.section.size in (
      subst (λ (rs : List (ℕ × ℕ)). AreOf rs x.section.relax) (sym is) left.of,
      omega (arith, size a.deletions, size b.deletions, ap (λ (rs : List (ℕ × ℕ)). mapped rs x.section.size) is, left.falls),
    )
