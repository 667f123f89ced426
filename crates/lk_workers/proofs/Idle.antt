-- Words that nobody set flags in.
use Rattle.std.proofs.Common.{◌≡◌, ℕ, List, [], subst}
use Rattle.std.proofs.lemmas.List.{nil_from_length}
use Rattle.std.proofs.lemmas.List.Sorted.{length_permutation}
use Rattle.lk_flags.specs.declared.flags.FlagSet.{FlagSet}
use Rattle.lk_flags.specs.Flags.{AreInTurn, InTurn}

-- words that no sets turned are as they were
pub untouched : (first last : List ℕ) (sets : List FlagSet) → sets ≡ [] → AreInTurn first sets last → last ≡ first
unfolding InTurn
untouched first last sets none are =
    let turned = subst (λ (xs : List FlagSet). AreInTurn first xs last) none are in
    subst (λ order. InTurn first order last) (nil_from_length turned.order (length_permutation [] turned.order turned.same)) turned.turns
