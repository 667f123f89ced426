use Rattle.std.proofs.Common.{◌≡◌, ◌+◌, ◌-◌, ◌++◌, ◌∷◌, [], ℕ, List, false, get_or, take, map, refl, ap, sym, ◌∙◌, arith}
use Rattle.std.specs.List.{enumerate_from}
use Rattle.std.proofs.lemmas.List.{map_push, take_all}
use Rattle.lk_tables.proofs.TableSums.{numbered_next}
use Rattle.lk_sizes.specs.declared.owners.PartContents.{PartContents}
use Rattle.lk_sizes.specs.declared.owners.PartTotal.{PartTotal}
use Rattle.lk_sizes.specs.Resized.{less_at, less_bytes, total_at}
use Rattle.lk_sizes.proofs.resized.less_bytes.Goals as goal

pub loop-number-preserved : goal.loop-number-preserved
loop-number-preserved c =
    let contents : List PartContents = c.args.contents.now in
    let before : List PartTotal = c.args.before.now in
    let after : List PartTotal = c.args.after.now in
    let n : ℕ = c.loop-number.number in
    let none : PartContents = record { bytes = 0; has_image = false; attrs = 0 } in
    let x : PartContents = get_or contents n none in
    let done : List (ℕ × PartContents) = enumerate_from 0 (take n contents) in
    let g : ℕ × PartContents → PartContents = less_at before after in
    let number : 0 + n ≡ n = omega arith in
    let one : ℕ → PartContents = λ b. record { bytes = b; has_image = x.has_image; attrs = x.attrs } in
    let lost : ℕ → ℕ = λ p. total_at before p - total_at after p in
    c.in_ok-push.ensures.items
    ∙ ap (λ (cs : List PartContents). cs ++ one (c.from.result - lost n) ∷ []) c.loop-number.invariant
    ∙ ap (λ (b : ℕ). map g done ++ one (b - lost n) ∷ []) c.from.ensures
    ∙ ap (λ (p : ℕ). map g done ++ one (x.bytes - lost p) ∷ []) (sym number)
    ∙ sym (ap (map g) (numbered_next 0 n contents x none c.loop-number-test.true refl) ∙ map_push g done (0 + n, x))

pub returns : goal.returns
returns c = c.from_vec.ensures ∙ c.loop-number.invariant ∙ ap (less_bytes c.args.before.now c.args.after.now) (take_all c.loop-number.number c.args.contents.now c.loop-number-test.false)
