use Rattle.std.proofs.Common.{◌<◌, All}
use Rattle.lk_explain.proofs.shared.numbers_to.Given as goal

-- each number is below the count
abbrev pub invariant-loop-number : goal.invariant-loop-number
invariant-loop-number l = All (λ n. n < l.count) l.numbers.items
