-- The commons among the symbols of files, one symbol and one file after the other.
use Rattle.std.proofs.Common.{◌≡◌, ℕ, ◌+◌, ◌<◌, List, [], ◌∷◌, ◌++◌, Option, get_or, length, take, sym, ap, ◌∙◌}
use Rattle.std.specs.List.{cons_option, enumerate_from, filter_map}
use Rattle.std.proofs.lemmas.List.{append_assoc}
use Rattle.std.proofs.lemmas.List.Elements.{filter_map-append}
use Rattle.lk_link.specs.declared.symbol.InputSymbol.{InputSymbol}
use Rattle.lk_tables.specs.declared.commons.Common.{Common}
use Rattle.lk_tables.proofs.TableSums.{numbered_next}

-- those of the symbols of a file and the next one, behind others
pub commons_next : (of : ℕ × InputSymbol → Option Common) (old : List Common) (o i : ℕ) (xs : List InputSymbol) (x : InputSymbol) → i < length xs → x ≡ get_or xs i x
    → (old ++ filter_map of (enumerate_from o (take i xs))) ++ cons_option (of (o + i, x)) [] ≡ old ++ filter_map of (enumerate_from o (take (i + 1) xs))
commons_next of old o i xs x lt read =
    let far = enumerate_from o (take i xs) in
    append_assoc old (filter_map of far) (cons_option (of (o + i, x)) [])
    ∙ ap (λ cs. old ++ cs) (sym (filter_map-append of far ((o + i, x) ∷ [])))
    ∙ ap (λ ys. old ++ filter_map of ys) (sym (numbered_next o i xs x x lt read))
