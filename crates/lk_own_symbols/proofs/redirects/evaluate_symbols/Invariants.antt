use Rattle.std.proofs.Common.{◌≡◌, ◌+◌, drop, map}
use Rattle.lk_own_symbols.specs.AtHand.{all_placed}
use Rattle.lk_own_symbols.specs.Redirects.{redirected, redirects_from}
use Rattle.lk_own_symbols.proofs.redirects.evaluate_symbols.Given as goal

-- what is left comes to what all come to
abbrev pub invariant-loop-index : goal.invariant-loop-index
invariant-loop-index g l =
    redirected (record { value_of = g.V.KnownValues.value_of; with_value = g.V.SymbolValues.with_value }) (all_placed l.placed) l.values
    (redirects_from (l.first + l.index) (map (λ x. (l.file, x)) (drop l.index l.file.symbols)))
    ≡ redirected (record { value_of = g.V.KnownValues.value_of; with_value = g.V.SymbolValues.with_value }) (all_placed l.placed) l.initial.values
    (redirects_from l.first (map (λ x. (l.file, x)) l.file.symbols))
