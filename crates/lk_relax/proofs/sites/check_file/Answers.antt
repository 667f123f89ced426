use Rattle.std.proofs.Common.{◌≡◌, ◌==◌, ◌∷◌, ℕ, suc, true, List, [], Some, length, ap, refl, sym, ◌∙◌, arith}
use Rattle.std.specs.Prelude.{option_and_then}
use Rattle.std.specs.Option.{option_copied}
use Rattle.std.proofs.lemmas.Bool.{eqb-true}
use Rattle.lk_link.specs.Walks.{file_of}
use Rattle.lk_deltas.specs.DeltaMaps.{deltas_at}
use Rattle.lk_relax.specs.ScanWords.{pass_state_of}
use Rattle.lk_relax.proofs.PastSites.{whole_file}
use Rattle.lk_relax.proofs.sites.check_file.Goals as goal

abbrev Entries : Type 0
Entries = List (ℕ × List (ℕ × ℕ))

none_there : {X : Type 0} (xs : List X) → (length xs == 0) ≡ true → xs ≡ []
none_there [] h = refl
none_there (x ∷ xs) h = absurd (omega (arith, eqb-true (suc (length xs)) 0 h))

pub returns-in_default : goal.returns-in_default
returns-in_default c =
    let none = sym c.map_of.ensures ∙ ap option_copied c.in_default.is in
    whole_file (pass_state_of c.args.by) (file_of c.args.file) (λ i. ap (option_and_then (λ (es : Entries). deltas_at es i)) none)

pub returns-then-is_empty : goal.returns-then-is_empty
returns-then-is_empty c =
    let empty : c.in-Some.map.now ≡ [] = none_there c.in-Some.map.now (sym c.is_empty.ensures ∙ c.if-is_empty.true) in
    let entries = sym c.map_of.ensures ∙ ap option_copied c.in-Some.is ∙ ap (λ (es : Entries). Some es) empty in
    whole_file (pass_state_of c.args.by) (file_of c.args.file) (λ i. ap (option_and_then (λ (es : Entries). deltas_at es i)) entries)
