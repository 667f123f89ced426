-- Laws of edges: statements that functions of their own prove.
use Rattle.std.specs.Prelude.{◌≡◌, ℕ, ◌+◌, ◌<◌, Bool, false, List, Some, None, length}
use Rattle.lk_link.specs.declared.file.InputFile.{InputFile}
use Rattle.lk_link.specs.declared.ids.FileId.{FileId}
use Rattle.lk_link.specs.declared.link.LinkInput.{LinkInput}
use Rattle.lk_link.specs.Files.{file_in}
use Rattle.lk_link.specs.Symbols.{first_symbol}
use Rattle.lk_expressions.specs.Records.{Record}
use Rattle.lk_place.specs.declared.segments.SegmentFileLayout.{SegmentFileLayout}
use Rattle.lk_place.specs.Segments.{segment_layouts, segments_refusal}
use Rattle.lk_own_symbols.specs.Edges.{EndsBelow}
use Rattle.lk_own_symbols.specs.Redirects.{has_redirects, is_redirect}

-- the thread-local one among segments that aren't refused ends below 2^64
abbrev pub SegmentsEndBelow : Type 0
SegmentsEndBelow = (kind : SegmentFileLayout) (link : LinkInput) (records : List Record) (emitted : ℕ → Bool) (active : List ℕ)
    → segments_refusal kind link records emitted active ≡ None
    → EndsBelow link.plan (segment_layouts kind link.plan link.options.stack records emitted active)

-- a symbol of a file whose redirects aren't evaluated is none that is
abbrev pub OthersAreNoRedirects : Type 0
OthersAreNoRedirects = (groups : List (List InputFile)) (id : FileId) (file : InputFile) (i : ℕ)
    → file_in groups id ≡ Some file → has_redirects file.kind ≡ false → i < length file.symbols
    → is_redirect groups (first_symbol groups id + i) ≡ false
