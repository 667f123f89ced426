-- What the first pass looks at can be looked at.
use Rattle.std.proofs.Common.{◌≡◌, ℕ, ◌&&◌, Bool, true, false, List, [], Some, filter, map, not, length, refl, sym, ap, subst, ◌∙◌, ◌==◌}
use Rattle.std.specs.Prelude.{if◌then◌else◌, slice_get}
use Rattle.std.specs.List.{enumerate_from}
use Rattle.lk_link.specs.declared.ids.FileId.{FileId}
use Rattle.lk_link.specs.declared.plan.attributes.TheConstants.{EXEC}
use Rattle.lk_link.specs.Inputs.{Input, all_inputs}
use Rattle.lk_link.specs.InputSlots.{is_regular}
use Rattle.lk_link.specs.Marks.{is_marked}
use Rattle.lk_link.specs.PlanSections.{is_set}
use Rattle.lk_link.proofs.Elements.{filter_at, map_at, numbered_at}
use Rattle.lk_reach.proofs.Numbered.{file_of_input}
use Rattle.lk_deltas.specs.Candidates.{AreOf}
use Rattle.lk_deltas.specs.Laws.{NothingIsOf}
use Rattle.lk_deltas.specs.LinkDeletions.{Deletions}
use Rattle.lk_relax.specs.Scan.{CanBeScanned, ranges_of}
use Rattle.lk_relax.specs.Stages.{FirstCanBeScanned, Relaxing, can_shrink, deletions_by, link_of}
use Rattle.lk_relax.proofs.ReadBack.{deletions_are_read}

regular_of : (a b c d e : Bool) → ((a && (b && c)) && d && e) ≡ true → b ≡ true
regular_of a true c d e h = refl
regular_of true false c d e h = absurd (cc)
regular_of false false c d e h = absurd (cc)

-- a section that can lose bytes, where nothing is deleted
can_be : NothingIsOf → (by : Relaxing) (j : ℕ) (p : ℕ × Input) → slice_get (enumerate_from 0 (all_inputs (link_of by).groups)) j ≡ Some p → can_shrink by p ≡ true
    → CanBeScanned (link_of by).groups (deletions_by (link_of by) (λ _. [])) p.1.file p.1.index
can_be none by j p at can =
    let groups = (link_of by).groups in
    let x : Input = p.1 in
    let there : slice_get (all_inputs groups) j ≡ Some x = (numbered_at 0 (all_inputs groups) j p at).1 in
    let f = file_of_input groups j x there in
    let nothing : ranges_of groups (deletions_by (link_of by) (λ _. [])) x.file x.index ≡ [] = deletions_are_read (link_of by) (λ _. []) j x there in
    record {
      file = f.0;
      there = f.1;
      section = x.section;
      at = f.2;
      regular = regular_of (is_marked by.filling.content.live.marks p.0) (is_regular x.section.slot) (not x.section.sorted) (is_set EXEC x.section.attrs) (not (length x.section.relax == 0)) can;
      of = subst (λ (rs : List (ℕ × ℕ)). AreOf rs x.section.relax) (sym nothing) (none x.section.relax);
    }

pub first_can_be_scanned : NothingIsOf → FirstCanBeScanned
first_can_be_scanned none by a k q first at =
    let groups = (link_of by).groups in
    let named : ℕ × Input → FileId × ℕ = λ p. (p.1.file, p.1.index) in
    let able : List (ℕ × Input) = filter (can_shrink by) (enumerate_from 0 (all_inputs groups)) in
    let Can : Deletions → FileId × ℕ → Type 0 = λ ds r. CanBeScanned groups ds r.0 r.1 in
    let nothing : Deletions = deletions_by (link_of by) (λ _. []) in
    let told : (relaxed : Bool) → slice_get (if relaxed then map named able else []) k ≡ Some q → Can nothing q
    = λ relaxed. elim relaxed as (λ b. slice_get (if b then map named able else []) k ≡ Some q → Can nothing q) [
      | true ↦ λ there.
          let m = map_at named able k q there in
          let f = filter_at (can_shrink by) (enumerate_from 0 (all_inputs groups)) k m.0 m.1 in
          subst (Can nothing) m.2 (can_be none by f.0 m.0 f.1 f.2)
      | false ↦ λ there. absurd (cc)
    ] in
    subst (λ ds. Can ds q) (sym first.deletions) (told (link_of by).options.relax (ap (λ (xs : List (FileId × ℕ)). slice_get xs k) (sym first.scan) ∙ at))
