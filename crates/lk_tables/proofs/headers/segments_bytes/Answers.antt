use Rattle.std.proofs.Common.{◌≡◌, ℕ, ◌*◌, length, refl, sym, ap, ◌∙◌}
use Rattle.lk_tables.specs.HeaderParts.{told_sum}
use Rattle.lk_tables.specs.SymbolTable.{SegmentEntry}
use Rattle.lk_tables.proofs.HeaderLemmas.{sum_same}
use Rattle.lk_tables.proofs.headers.segments_bytes.Goals as goal

pub returns : goal.returns
returns c =
    let n = c.args.bytes in
    let segments = c.args.segments.now in
    let product : c.saturating_mul.result ≡ told_sum (n * length segments) = c.saturating_mul.ensures ∙ ap (λ (m : ℕ). told_sum (m * length segments)) c.from.ensures in
    product ∙ ap told_sum (sym (sum_same n (λ i. record { owner = SegmentEntry i; bytes = n }) segments (λ i. refl)))
