-- Where the entries of files go, by which each group is done by itself.
use Rattle.std.proofs.Common.{◌≡◌, ℕ, zero, suc, ◌<◌, List, [], ◌∷◌, Some, length, sum_by, refl, sym, ap, ◌∙◌, arith}
use Rattle.std.specs.List.{AllZip, slice_get}
use Rattle.std.proofs.lemmas.List.{length-map}
use Rattle.std.proofs.lemmas.List.Concat.{length-flat_map}
use Rattle.std.proofs.lemmas.Option.{slice_get_within}
use Rattle.lk_link.specs.declared.file.InputFile.{InputFile}
use Rattle.lk_link.specs.declared.ids.FileId.{FileId}
use Rattle.lk_link.specs.declared.link.LinkInput.{LinkInput}
use Rattle.lk_link.specs.Files.{file_in}
use Rattle.lk_link.specs.Inputs.{NumberedFile, numbered_files}
use Rattle.lk_link.specs.Symbols.{file_number, first_symbol}
use Rattle.lk_link.specs.WellFormed.{IsWellFormed}
use Rattle.lk_link.proofs.InputLemmas.{file_stands, files_from_are}
use Rattle.lk_reach.proofs.Numbered.{are_numbered}
use Rattle.lk_resolutions.specs.declared.entries.NextEntries.{NextEntries}
use Rattle.lk_resolutions.specs.ByGroups.{AreNextByFile, AreNextOf}
use Rattle.lk_resolutions.specs.Entries.{EntrySetting}
use Rattle.lk_resolutions.specs.EntryWords.{AreNextAt}

-- what stands beside an element of another list
pub beside : {X Y : Type 0} (R : X → Y → Type 0) (xs : List X) (ys : List Y) (k : ℕ) (x : X) → AllZip R xs ys → slice_get xs k ≡ Some x → (y : Y) × (slice_get ys k ≡ Some y) × R x y
beside R [] ys k x h at = absurd (cc)
beside R (z ∷ xs) [] k x h at = absurd h
beside {X} {Y} R (z ∷ xs) (y ∷ ys) zero x h at =
    let same : z ≡ x = cc in
    (y, refl, subst_first same h.0)
  where
    subst_first : z ≡ x → R z y → R x y
    subst_first same r = rw (sym same) r
beside R (z ∷ xs) (y ∷ ys) (suc k) x h at = beside R xs ys k x h.1 at

-- where the entries of a file's first symbol go
pub record IsStarted (by : EntrySetting) (starts : List NextEntries) (id : FileId) : Type 0 where
  pub next : NextEntries
  pub there : slice_get starts (file_number by.link.groups id) ≡ Some next
  pub at : AreNextAt by (first_symbol by.link.groups id) next

pub started : (by : EntrySetting) (starts : List NextEntries) (id : FileId) (file : InputFile) → AreNextByFile by starts → file_in by.link.groups id ≡ Some file → IsStarted by starts id
started by starts id file all there =
    let found = beside (AreNextOf by) (numbered_files by.link.groups) starts (file_number by.link.groups id) (record { id = id; file = file }) all (file_stands by.link.groups id file there) in
    record { next = found.0; there = found.1; at = found.2 }

-- there are fewer files than that
pub few_files : (link : LinkInput) (id : FileId) (file : InputFile) → IsWellFormed link → file_in link.groups id ≡ Some file → file_number link.groups id < 16777216
few_files link id file good there =
    let files : List NumberedFile = numbered_files link.groups in
    let count : length files ≡ sum_by length link.groups = sym (length-map files (λ (f : NumberedFile). f.file)) ∙ ap length (files_from_are 0 link.groups) ∙ length-flat_map (λ fs. fs) link.groups in
    omega (arith, slice_get_within files (file_number link.groups id) (record { id = id; file = file }) (file_stands link.groups id file there), count, (are_numbered link good).few_files)
