-- An index of candidates by their output sections: the words of the index behind a model, and what is looked up there.
use Rattle.std.specs.Prelude.{◌≡◌, ℕ, ◌==◌, List, filter}
use Rattle.lk_link.specs.declared.file.Candidate.{Candidate}
use Rattle.lk_link.specs.Numbered.{items_of}

-- the candidates of an output section, in their order
abbrev pub candidates_of : ℕ → List Candidate → List Candidate
candidates_of output candidates = filter (λ c. c.output == output) candidates

-- a candidate and its output section
abbrev pub with_output : Candidate → ℕ × Candidate
with_output c = (c.output, c)

-- pairs of output sections and candidates that are the index of the candidates
abbrev pub IsCandidateIndex : List Candidate → List (ℕ × Candidate) → Type 0
IsCandidateIndex candidates by_output = (output : ℕ) → items_of output by_output ≡ candidates_of output candidates
