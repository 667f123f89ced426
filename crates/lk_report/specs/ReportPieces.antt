-- Words of private contracts: the end of a report.
use Rattle.std.specs.Prelude.{ℕ, List, [], ◌∷◌, codes}
use Rattle.lk_link.specs.Texts.{joined}
use Rattle.lk_layout.specs.LayoutRecord.{LayoutRecord}
use Rattle.lk_layout.specs.Layouts.{resolved_entry}
use Rattle.lk_report.specs.Report.{entry_line}

-- the lines behind those of symbols
abbrev pub report_end : LayoutRecord → List ℕ
report_end layout = joined (entry_line (resolved_entry layout) ∷ codes "end\n" ∷ [])
