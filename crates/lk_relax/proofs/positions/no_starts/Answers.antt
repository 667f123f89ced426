use Rattle.std.proofs.Common.{◌≡◌, ◌+◌, ◌++◌, ℕ, List, [], ◌∷◌, drop, map, get_or, ap, sym, ◌∙◌, add-one, append_assoc, drop-cons}
use Rattle.lk_relax.proofs.positions.no_starts.Goals as goal

pub loop-size-preserved : goal.loop-size-preserved
loop-size-preserved c =
    let sizes : List ℕ = c.args.sizes.now in
    let i : ℕ = c.loop-size._size-index in
    let starts : List ℕ = c.loop-size.starts.items in
    let zeros : List ℕ → List ℕ = λ ns. map (λ (n : ℕ). 0) ns in
    let next : drop i sizes ≡ get_or sizes i 0 ∷ drop (i + 1) sizes = drop-cons sizes i 0 c.loop-size-test.true ∙ ap (λ (k : ℕ). get_or sizes i 0 ∷ drop k sizes) (sym (add-one i)) in
    ap (λ (ns : List ℕ). ns ++ zeros (drop (i + 1) sizes)) c.in_ok-push.ensures.items
    ∙ append_assoc starts (0 ∷ []) (zeros (drop (i + 1) sizes))
    ∙ ap (λ (ns : List ℕ). starts ++ zeros ns) (sym next)
    ∙ c.loop-size.invariant
