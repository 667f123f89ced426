-- What is answered where several threads ask whether all items of a slice pass a test.
use Rattle.std.proofs.Common.{◌≡◌, Bor, Bool, true, false, List, map, sym, ap, ◌∙◌}
use Rattle.std.specs.Prelude.{MatchBool}
use Rattle.std.specs.List.{All, Any, list_all}
use Rattle.std.proofs.lemmas.List.Folds.{list_all_at}
use Rattle.std.proofs.lemmas.Option.{get_or_from_slice_get, slice_get_within}
use Rattle.rayon.proofs.ToStd.{slice-All, slice-Any}
use Rattle.lk_link.proofs.Places.{all_from}

pub all_pass : {X : Type 0} (zs : List (Bor X)) (s : List X) → map (λ (z : Bor X). z.now) zs ≡ s → (p : X → Bool) (b : Bool)
    → MatchBool b (All (λ (z : Bor X). true ≡ p z.now) zs) (Any (λ (z : Bor X). false ≡ p z.now) zs) → b ≡ list_all p s
all_pass {X} zs s shown p true h =
    let each = slice-All zs s shown (λ (x : X). true ≡ p x) h in
    sym (all_from p s (λ k x at. ap p (sym (get_or_from_slice_get s k x x at)) ∙ sym (each k x (slice_get_within s k x at))))
all_pass {X} zs s shown p false h =
    let one = slice-Any zs s shown (λ (x : X). false ≡ p x) h in
    sym (list_all_at p s one.0 one.1 one.2 (ap p one.3 ∙ sym one.4))
