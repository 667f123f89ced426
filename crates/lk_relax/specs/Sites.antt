-- The look at candidates whose bytes are gone, over final addresses.
use Rattle.std.specs.Prelude.{◌≡◌, ◌≤◌, ◌==◌, ℕ, ◌+◌, Bool, if◌then◌else◌, List, [], ◌∷◌, IsSome, Some, length, option_and_then, slice_get, true}
use Rattle.std.specs.Int.{abs_diff}
use Rattle.std.specs.List.{enumerate_from, flat_map, list_all}
use Rattle.lk_link.specs.declared.ids.FileId.{FileId}
use Rattle.lk_link.specs.declared.link.LinkInput.{LinkInput}
use Rattle.lk_link.specs.declared.relocation.RelaxCandidate.{RelaxCandidate}
use Rattle.lk_link.specs.declared.section.InputSection.{InputSection}
use Rattle.lk_link.specs.Inputs.{Input, NumberedFile, all_inputs, numbered_files}
use Rattle.lk_link.specs.Symbols.{definition_of, first_symbol}
use Rattle.lk_deltas.specs.Candidates.{is_gone, is_past}
use Rattle.lk_relax.specs.declared.sites.RelaxedPlace.{RelaxedPlace}
use Rattle.lk_deltas.specs.LinkDeletions.{Deletions, deleted_of}
use Rattle.lk_relax.specs.RelaxedLaws.{IsShrunk}
use Rattle.lk_relax.specs.Scan.{CanBeScanned, PassState, ranges_of, site, target, told}
use Rattle.lk_relax.specs.Stages.{Relaxing, Stage, link_of}

-- ---- the look

-- a candidate with its index in a section, where its bytes are gone and its symbol is too far from where they stood
abbrev pub candidate_past : PassState → FileId → ℕ → ℕ × RelaxCandidate → List RelaxedPlace
candidate_past by id section q =
    if is_past (told by id section) (ranges_of by.link.groups by.deletions id section) q.1
    then record { file = id; section = section; candidate = q.0 } ∷ []
    else []

-- those of a section with its index
abbrev pub section_past : PassState → FileId → ℕ × InputSection → List RelaxedPlace
section_past by id q = flat_map (candidate_past by id q.0) (enumerate_from 0 q.1.relax)

-- those of a file
abbrev pub file_past : PassState → NumberedFile → List RelaxedPlace
file_past by f = flat_map (section_past by f.id) (enumerate_from 0 f.file.sections)

-- all candidates past their limits, by file, section and index
abbrev pub past_limit : PassState → List RelaxedPlace
past_limit by = flat_map (file_past by) (numbered_files by.link.groups)

-- no file has an entry of what is deleted
abbrev pub is_nothing_deleted : Deletions → Bool
is_nothing_deleted deletions = list_all (λ entries. length entries == 0) deletions

-- each section of which something is deleted can be looked at
abbrev pub CanAllBeScanned : LinkInput → Deletions → Type 0
CanAllBeScanned link deletions = (k : ℕ) (x : Input) → slice_get (all_inputs link.groups) k ≡ Some x
    → IsSome (deleted_of link.groups deletions x.file x.index) → CanBeScanned link.groups deletions x.file x.index

-- ---- laws

-- so it is at each stage
abbrev pub ShrunkCanBeScanned : Type 0
ShrunkCanBeScanned = (by : Relaxing) (a : Stage) → IsShrunk by a → CanAllBeScanned (link_of by) a.deletions

-- where no candidate is past its limit, the site of each whose bytes are gone is no farther from its symbol than that, if both have addresses
abbrev pub DeletedSitesAreNear : Type 0
DeletedSitesAreNear = (by : PassState) (k j a b : ℕ) (x : Input) (c : RelaxCandidate) → past_limit by ≡ []
    → slice_get (all_inputs by.link.groups) k ≡ Some x → slice_get x.section.relax j ≡ Some c
    → is_gone (ranges_of by.link.groups by.deletions x.file x.index) c ≡ true
    → option_and_then (target by) (definition_of by.link.groups (first_symbol by.link.groups x.file + c.symbol)) ≡ Some a
    → site by x.file x.index c.at ≡ Some b
    → abs_diff a b ≤ c.limit

-- where nothing is deleted, none is past its limit
abbrev pub NothingIsPast : Type 0
NothingIsPast = (by : PassState) → is_nothing_deleted by.deletions ≡ true → past_limit by ≡ []
