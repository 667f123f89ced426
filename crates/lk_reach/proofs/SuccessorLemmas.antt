-- What relocations that are left ask for.
use Rattle.std.proofs.Common.{◌≡◌, ℕ, ◌++◌, Bool, false, List, [], ◌∷◌, Option, Some, None, refl, sym, ap, ◌∙◌, is_some}
use Rattle.std.specs.List.{flat_map}
use Rattle.std.specs.Option.{option_to_list}
use Rattle.lk_link.specs.declared.relocation.Relocation.{Relocation}
use Rattle.lk_link.specs.declared.symbol.InputSymbol.{InputSymbol}
use Rattle.lk_reach.specs.declared.units.Ask.{Ask}
use Rattle.lk_reach.specs.Units.{range_mark, reference, relocation_asks}

pub none_from : {X : Type 0} (o : Option X) → is_some o ≡ false → o ≡ None
none_from None h = refl
none_from (Some x) h = absurd (cc)

-- a relocation that asks for nothing is passed over
pub passed_over : (primary : Bool) (first : ℕ) (symbols : List InputSymbol) (r : Relocation) (relocs rest : List Relocation) (whole : List Ask) → relocs ≡ r ∷ rest
    → reference first symbols r ≡ None → range_mark primary first r ≡ None → flat_map (relocation_asks primary first symbols) relocs ≡ whole → flat_map (relocation_asks primary first symbols) rest ≡ whole
passed_over primary first symbols r relocs rest whole split no_reference no_mark all =
    let asks = flat_map (relocation_asks primary first symbols) in
    let front : relocation_asks primary first symbols r ≡ []
    = ap (λ o. option_to_list o ++ option_to_list (range_mark primary first r)) no_reference ∙ ap option_to_list no_mark in
    ap (λ xs. xs ++ asks rest) (sym front) ∙ ap asks (sym split) ∙ all
