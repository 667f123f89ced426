use Rattle.std.proofs.Common.{◌++◌, ◌∷◌, [], ◌<◌, ◌≤◌, ℕ, List, Option, None, append_assoc, length, take, sym, ap, ◌∙◌, arith}
use Rattle.std.proofs.lemmas.List.{append-nil, take_all, take_more}
use Rattle.lk_link.specs.declared.resolution.Resolution.{Resolution}
use Rattle.lk_resolution_list.specs.Lists.{resolution_at}
use Rattle.lk_resolution_list.proofs.symbol_resolutions.SymbolResolutions.append.Goals as goal

pub loop-number-init : goal.loop-number-init
loop-number-init c = sym (append-nil c.args.self.now)

pub loop-number-preserved : goal.loop-number-preserved
loop-number-preserved c =
    let own : List (Option Resolution) = c.args.self.now in
    let others : List (Option Resolution) = c.args.others.now in
    let k : ℕ = c.loop-number.number in
    let below : k < length others = omega arith in
    let here : Option Resolution = resolution_at others k in
    c.in_ok-push.ensures
    ∙ ap (λ (rs : List (Option Resolution)). rs ++ c.nth.result ∷ []) c.loop-number.invariant
    ∙ ap (λ (r : Option Resolution). (own ++ take k others) ++ r ∷ []) c.nth.ensures
    ∙ append_assoc own (take k others) (here ∷ [])
    ∙ ap (λ (rs : List (Option Resolution)). own ++ rs) (sym (take_more others k None below))

pub returns : goal.returns
returns c =
    let own : List (Option Resolution) = c.args.self.now in
    let others : List (Option Resolution) = c.args.others.now in
    let k : ℕ = c.loop-number.number in
    let all : length others ≤ k = omega arith in
    c.loop-number.invariant ∙ ap (λ (rs : List (Option Resolution)). own ++ rs) (take_all k others all)
