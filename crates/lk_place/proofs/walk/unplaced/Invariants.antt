use Rattle.std.proofs.Common.{◌≡◌, ℕ, vec_len}
use Rattle.lk_expressions.specs.Records.{nowhere, record_at}
use Rattle.lk_place.proofs.walk.unplaced.Given as goal

abbrev pub invariant-loop : goal.invariant-loop
invariant-loop l = (vec_len l.records ≡ l.counter) × ((p : ℕ) → record_at l.records.items p ≡ nowhere)
