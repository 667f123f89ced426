-- Words of private contracts: which worker looks at which files once all are joined.
use Rattle.std.specs.Prelude.{ℕ, ◌+◌, ◌%◌, ◌==◌, ◌||◌, not, Bool}
use Rattle.std.specs.List.{list_all}
use Rattle.lk_link.specs.declared.ids.FileId.{FileId}
use Rattle.lk_link.specs.declared.link.LinkInput.{LinkInput}
use Rattle.lk_link.specs.Inputs.{NumberedFile, numbered_files}
use Rattle.lk_workers.specs.Closings.{ClosedValue, is_file_closed}

-- which of n workers looks at a file
abbrev pub worker_of : ℕ → FileId → ℕ
worker_of n id = (id.group + id.file) % n

-- whether worker w of n passes a file: another looks at it, or it has no open ask
abbrev pub is_passed : ClosedValue → LinkInput → ℕ → ℕ → NumberedFile → Bool
is_passed v link n w f = not (worker_of n f.id == w) || is_file_closed v link f

-- whether it passes all files
abbrev pub is_share_closed : ClosedValue → LinkInput → ℕ → ℕ → Bool
is_share_closed v link n w = list_all (is_passed v link n w) (numbered_files link.groups)
