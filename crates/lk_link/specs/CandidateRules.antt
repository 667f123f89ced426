-- The rule on candidates.
use Rattle.std.specs.Prelude.{◌≡◌, ℕ, ◌<◌, ◌&&◌, Bool, true, false, Some, length, nat_lt}
use Rattle.std.specs.List.{list_all}
use Rattle.std.specs.Option.{option_map_or}
use Rattle.lk_link.specs.declared.file.Candidate.{Candidate}
use Rattle.lk_link.specs.declared.file.InputFile.{InputFile}
use Rattle.lk_link.specs.declared.link.LinkInput.{LinkInput}
use Rattle.lk_link.specs.FileKinds.{is_object}
use Rattle.lk_link.specs.Files.{file_in}

-- a file is an object and has a section with this index
abbrev pub is_section_of_object : ℕ → InputFile → Bool
is_section_of_object i f = is_object f.kind && nat_lt i (length f.sections)

-- a candidate's output section is there, and it is a section of an object
abbrev pub is_good_candidate : LinkInput → Candidate → Bool
is_good_candidate link c = nat_lt c.output (length link.plan.sections) && option_map_or (is_section_of_object c.index) (file_in link.groups c.file) false

-- each candidate of a file is good
abbrev pub has_good_candidates : LinkInput → InputFile → Bool
has_good_candidates link f = list_all (is_good_candidate link) f.candidates

-- a good candidate, taken apart
pub record IsGoodCandidate (link : LinkInput) (c : Candidate) : Type 0 where
  pub output : c.output < length link.plan.sections
  pub file : InputFile
  pub there : file_in link.groups c.file ≡ Some file
  pub object : is_object file.kind ≡ true
  pub section : c.index < length file.sections
