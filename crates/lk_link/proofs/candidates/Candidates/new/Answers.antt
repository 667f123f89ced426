use Rattle.std.specs.List.{filter}
use Rattle.std.proofs.Common.{◌≡◌, ℕ, Bool, true, false, cond, eqb, List, [], ◌∷◌, map, refl, ap, ◌∙◌}
use Rattle.lk_link.specs.declared.file.Candidate.{Candidate}
use Rattle.lk_link.specs.CandidateIndex.{candidates_of, with_output}
use Rattle.lk_link.specs.Numbered.{items_of}
use Rattle.lk_link.proofs.candidates.Candidates.new.Goals as goal

one_more : (b : Bool) (c : Candidate) (ps : List (ℕ × Candidate)) (cs : List Candidate) → map (λ p. p.1) ps ≡ cs → map (λ (p : ℕ × Candidate). p.1) (cond b (with_output c ∷ ps) ps) ≡ cond b (c ∷ cs) cs
one_more true c ps cs h = ap (λ ds. c ∷ ds) h
one_more false c ps cs h = h

same : (output : ℕ) (cs : List Candidate) → items_of output (map with_output cs) ≡ candidates_of output cs
same output [] = refl
same output (c ∷ cs) = one_more (eqb c.output output) c (filter (λ p. eqb p.0 output) (map with_output cs)) (candidates_of output cs) (same output cs)

pub invariant_of-result : goal.invariant_of-result
invariant_of-result c = λ output.
    let pairs = rw c.as_slice.ensures at c.in_ok-with_outputs.ensures in
    c.in_ok-by_output.ensures output ∙ ap (items_of output) pairs ∙ same output c.args.candidates
