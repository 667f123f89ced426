use Rattle.std.proofs.Common.{◌≡◌, ◌∷◌, ◌++◌, ◌<◌, Some, None, length, sym, ap, ◌∙◌, arith}
use Rattle.std.proofs.lemmas.Bool.Decides.{Decides-eqb, nat_tests}
use Rattle.std.proofs.lemmas.Slice.Eq.{strip_prefix_is}
use Rattle.lk_map.specs.declared.forms.Field.TheVariants as is
use Rattle.lk_map.proofs.Ahead.{word_begins, word_opens}
use Rattle.lk_map.proofs.Missed.{blank_behind, no_word, opens_not, opens_only}
use Rattle.lk_map.proofs.straight.word_then.Goals as goal
use Rattle.lk_map.proofs.straight.word_then.Goals.{then-is_empty-via-then-is_empty, then-is_empty-via-else-is_empty+then-rest-ne32}

pub returns-clause-word : goal.returns-clause-word
returns-clause-word c =
    let some : 0 < length c.in_ok-rest.rest.now = grind (arith, nat_tests) in
    word_begins c.args.expected c.args.text.now c.as_bytes.result.now c.in_ok-rest.rest.now (c.as_bytes.ensures.value ∙ c.text_of.ensures)
    (strip_prefix_is Decides-eqb c.args.text.now c.as_bytes.result.now (Some c.in_ok-rest.rest) c.in_ok-rest.ensures.cases)
    some c.if-rest-ne32.false

pub returns-clause-found : goal.returns-clause-found
returns-clause-found c =
    let some : 0 < length c.in_ok-rest.rest.now = grind (arith, nat_tests) in
    word_opens c.args.expected c.args.text.now c.as_bytes.result.now c.in_ok-rest.rest.now (c.as_bytes.ensures.value ∙ c.text_of.ensures)
    (strip_prefix_is Decides-eqb c.args.text.now c.as_bytes.result.now (Some c.in_ok-rest.rest) c.in_ok-rest.ensures.cases)
    some c.if-rest-ne32.false

pub returns-clause-none : goal.returns-clause-none
returns-clause-none c =
    let some : 0 < length c.in_ok-rest.rest.now = grind (arith, nat_tests) in
    opens_only (is.Word c.args.expected) c.args.text.now _ _
    (word_begins c.args.expected c.args.text.now c.as_bytes.result.now c.in_ok-rest.rest.now (c.as_bytes.ensures.value ∙ c.text_of.ensures)
    (strip_prefix_is Decides-eqb c.args.text.now c.as_bytes.result.now (Some c.in_ok-rest.rest) c.in_ok-rest.ensures.cases)
    some c.if-rest-ne32.false)

pub returns-in_err-rest-clause-none : goal.returns-in_err-rest-clause-none
returns-in_err-rest-clause-none c =
    rw c.from_residual.ensures (opens_not (is.Word c.args.expected) c.args.text.now (no_word c.args.expected c.args.text.now (λ rest whole.
    strip_prefix_is Decides-eqb c.args.text.now c.as_bytes.result.now None c.in_err-rest.ensures.cases (32 ∷ rest) (whole ∙ ap (λ ys. ys ++ 32 ∷ rest) (sym (c.as_bytes.ensures.value ∙ c.text_of.ensures))))))

pub returns-then-is_empty-clause-none : goal.returns-then-is_empty-clause-none
returns-then-is_empty-clause-none c = opens_not (is.Word c.args.expected) c.args.text.now (no_word c.args.expected c.args.text.now (λ rest whole.
    let same = c.as_bytes.ensures.value ∙ c.text_of.ensures in
    let parts = strip_prefix_is Decides-eqb c.args.text.now c.as_bytes.result.now (Some c.in_ok-rest.rest) c.in_ok-rest.ensures.cases in
    let (some, blank) = blank_behind c.as_bytes.result.now c.args.text.now c.in_ok-rest.rest.now rest parts (whole ∙ ap (λ ys. ys ++ 32 ∷ rest) (sym same)) in
    elim c.then-is_empty.branch [
      | then-is_empty-via-then-is_empty w ↦ (let none : length c.in_ok-rest.rest.now ≡ 0 = grind (arith, nat_tests) in omega (arith, none, some))
      | then-is_empty-via-else-is_empty+then-rest-ne32 w ↦ w.if-rest-ne32.true blank
    ]))
