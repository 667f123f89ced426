use Rattle.std.proofs.Common.{◌≡◌, ◌++◌, drop}
use Rattle.std.specs.Prelude.{string_bytes}
use Rattle.lk_merge.specs.Addresses.{image_start}
use Rattle.lk_merge.specs.Image.{all_pieces}
use Rattle.lk_report.specs.Report.{each, piece_lines}
use Rattle.lk_report.proofs.merged.write_pieces.Given as goal

abbrev pub invariant-loop-number : goal.invariant-loop-number
invariant-loop-number l = string_bytes l.text ++ each (λ s inputs. piece_lines s (image_start l.starts s) (all_pieces inputs)) l.number (drop l.number l.merged)
    ≡ string_bytes l.initial.text ++ each (λ s inputs. piece_lines s (image_start l.starts s) (all_pieces inputs)) 0 l.merged
