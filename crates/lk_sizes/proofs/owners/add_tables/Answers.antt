use Rattle.std.proofs.Common.{◌≡◌, ◌+◌, ◌++◌, ◌∷◌, [], ℕ, List, false, get_or, take, map, refl, ap, sym, ◌∙◌, arith}
use Rattle.std.specs.List.{enumerate_from}
use Rattle.std.proofs.lemmas.List.{map_push, take_all}
use Rattle.lk_link.proofs.GoodLinks.{few}
use Rattle.lk_tables.specs.HeaderParts.{told_sum}
use Rattle.lk_tables.specs.TableLists.{table_bytes}
use Rattle.lk_tables.proofs.TableSums.{numbered_next}
use Rattle.lk_sizes.specs.declared.owners.PartTotal.{PartTotal}
use Rattle.lk_sizes.specs.Tables.{with_entries, with_table, with_tables}
use Rattle.lk_sizes.proofs.owners.add_tables.Goals as goal

pub overflow_cast-number : goal.overflow_cast-number
overflow_cast-number c = omega (arith, c.loop-number-test.true, c.requires.count, (few c.args.link.now c.requires.good).parts)

pub loop-number-preserved : goal.loop-number-preserved
loop-number-preserved c = λ lists is.
    let named = c.args.link.now.plan.named in
    let totals : List PartTotal = c.args.totals.now in
    let n : ℕ = c.loop-number.number in
    let nothing : PartTotal = record { bytes = 0; has_image = false; attrs = 0 } in
    let x : PartTotal = get_or totals n nothing in
    let done : List (ℕ × PartTotal) = enumerate_from 0 (take n totals) in
    let g : ℕ × PartTotal → PartTotal = with_table named lists in
    let number : c.from_u32-part.result ≡ 0 + n = c.from_u32-part.ensures ∙ omega arith in
    let one : c.with_entries.result ≡ g (0 + n, x)
    = c.with_entries.ensures
    ∙ ap (with_entries x) (c.bytes_in_part-more.ensures lists is)
    ∙ ap (λ (p : ℕ). with_entries x (told_sum (table_bytes named lists p))) number in
    c.in_ok-push.ensures.items
    ∙ ap (λ (ts : List PartTotal). ts ++ c.with_entries.result ∷ []) (c.loop-number.invariant lists is)
    ∙ ap (λ (t : PartTotal). map g done ++ t ∷ []) one
    ∙ sym (ap (map g) (numbered_next 0 n totals x nothing c.loop-number-test.true refl) ∙ map_push g done (0 + n, x))

pub returns : goal.returns
returns c = λ lists is.
    c.loop-number.invariant lists is
    ∙ ap (with_tables c.args.link.now.plan.named lists) (take_all c.loop-number.number c.args.totals.now c.loop-number-test.false)
