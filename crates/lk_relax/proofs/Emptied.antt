-- Where nothing is deleted, all stays.
use Rattle.std.proofs.Common.{◌≡◌, ℕ, ◌+◌, List, [], ◌∷◌, Option, Some, None, refl, sym, ap, ◌∙◌, arith}
use Rattle.std.specs.Prelude.{option_and_then, slice_get}
use Rattle.std.specs.List.{filter_map}
use Rattle.lk_link.specs.declared.ids.FileId.{FileId}
use Rattle.lk_link.specs.declared.link.LinkInput.{LinkInput}
use Rattle.lk_link.specs.declared.section.InputSection.{InputSection}
use Rattle.lk_link.specs.Inputs.{Input, NumberedFile, all_inputs, inputs_from, numbered_files}
use Rattle.lk_link.specs.Symbols.{file_number}
use Rattle.lk_link.proofs.Elements.{map_at}
use Rattle.lk_deltas.specs.Candidates.{ranges_in}
use Rattle.lk_deltas.specs.Deletions.{mapped, mapped_by}
use Rattle.lk_deltas.specs.DeltaMaps.{deltas_at}
use Rattle.lk_sizes.specs.Owners.{own_sizes}
use Rattle.lk_sizes.proofs.Lists.{map_alike}
use Rattle.lk_deltas.specs.LinkDeletions.{deleted_of, output_offset, size_after}
use Rattle.lk_relax.specs.RelaxedLaws.{AreEmpty, EmptyDeletionsLeaveAll, NothingDeletedLeavesAll, nothing_deleted}
use Rattle.lk_relax.specs.Stages.{entry_of, file_entries}

abbrev Entries : Type 0
Entries = List (ℕ × List (ℕ × ℕ))

-- no ranges are as none
pub mapped_in : (o : Option (List (ℕ × ℕ))) (n : ℕ) → mapped_by o n ≡ mapped (ranges_in o) n
unfolding mapped
mapped_in None n = omega arith
mapped_in (Some ranges) n = refl

-- where there are none, nothing moves
unmoved : (n : ℕ) → mapped [] n ≡ n
unfolding mapped
unmoved n = omega arith

pub empty_deletions_leave_all : EmptyDeletionsLeaveAll
unfolding own_sizes
empty_deletions_leave_all link deletions empty =
    let stays : (id : FileId) (index offset : ℕ) → output_offset link.groups deletions id index offset ≡ offset
    = λ id index offset. mapped_in (deleted_of link.groups deletions id index) offset ∙ ap (λ (rs : List (ℕ × ℕ)). mapped rs offset) (empty id index) ∙ unmoved offset in
    record {
      sizes = map_alike (size_after link.groups deletions) (λ (x : Input). x.section.size) (all_inputs link.groups) (λ k x at. stays x.file x.index x.section.size);
      offsets = stays;
    }

-- a file has no entry for any section
no_entries : (id : FileId) (o : ℕ) (ss : List InputSection) → filter_map (entry_of (λ _. [])) (inputs_from id o ss) ≡ []
no_entries id o [] = refl
no_entries id o (s ∷ ss) = no_entries id (o + 1) ss

none_for : (f : NumberedFile) (index : ℕ) → deltas_at (file_entries (λ _. []) f) index ≡ None
none_for f index = ap (λ (es : Entries). deltas_at es index) (no_entries f.id 0 f.file.sections)

-- no section has an entry
pub no_entry : (link : LinkInput) (id : FileId) (index : ℕ) → deleted_of link.groups (nothing_deleted link) id index ≡ None
no_entry link id index = by (slice_get (nothing_deleted link) (file_number link.groups id)) refl
  where
    by : (o : Option Entries) → slice_get (nothing_deleted link) (file_number link.groups id) ≡ o → option_and_then (λ (es : Entries). deltas_at es index) o ≡ None
    by None at = refl
    by (Some es) at =
        let f = map_at (file_entries (λ _. [])) (numbered_files link.groups) (file_number link.groups id) es at in
        ap (λ (es : Entries). deltas_at es index) (sym f.2) ∙ none_for f.0 index

pub nothing_is_empty : (link : LinkInput) → AreEmpty link.groups (nothing_deleted link)
nothing_is_empty link id index = ap ranges_in (no_entry link id index)

pub nothing_deleted_leaves_all : NothingDeletedLeavesAll
nothing_deleted_leaves_all link = empty_deletions_leave_all link (nothing_deleted link) (nothing_is_empty link)
