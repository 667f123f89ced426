use Rattle.std.proofs.Common.{ℕ, Option, Some, None, sym, subst}
use Rattle.std.specs.Option.{SomeIff, IfSome}
use Rattle.std.specs.Int.{next_multiple_of}
use Rattle.lk_link.specs.Alignments.{IsLeastMultiple}
use Rattle.lk_link.proofs.Starts.{next_multiple_is_least}
use Rattle.lk_link.proofs.alignment.Alignment.align_up.Goals as goal

found : (P : Type 0) (Q : ℕ → Type 0) (o : Option ℕ) (v : ℕ) → SomeIff o P v → Q v → IfSome o Q
found P Q None v h q = tt
found P Q (Some x) v h q = subst Q (sym h.1) q

pub returns-clause-least : goal.returns-clause-least
returns-clause-least c =
    found _ (IsLeastMultiple c.args.self c.args.value) c.checked_next_multiple_of.result (next_multiple_of c.args.value c.args.self)
    (rw c.value.ensures.value at c.checked_next_multiple_of.ensures)
    (next_multiple_is_least c.args.self c.args.value c.value.ensures.positive)
