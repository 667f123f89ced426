use Rattle.std.proofs.Common.{◌≡◌, ◌≢◌, ◌+◌, ◌-◌, ℕ, List, ◌∷◌, [], drop, length, sym, ap, ◌∙◌, arith}
use Rattle.std.proofs.lemmas.Bool.{eqb-true, eqb-false}
use Rattle.lk_merge.specs.declared.inputs.StringMergeInputSection.{StringMergeInputSection}
use Rattle.lk_merge.specs.Between.{between, from_on, until}
use Rattle.lk_merge.specs.Inputs.{Located, input_of, located_in}
use Rattle.lk_merge.specs.Pieces.{cut, pieces_of}
use Rattle.lk_merge.proofs.Constants.{constant_none, constant_some, located_one, on_ok, pieces_constant, pieces_string}
use Rattle.lk_merge.proofs.GroupBrings.{between_rest, made_none, made_same, one_before, one_in, one_past, rest_from}
use Rattle.lk_merge.proofs.InputLemmas.{located_in_none}
use Rattle.lk_merge.proofs.group_strings.GroupStrings.add_input.Goals as goal
use Rattle.lk_merge.proofs.group_strings.GroupStrings.add_input.Goals.{then-is_empty-via-then-is_empty, then-is_empty-via-else-is_empty+then-start-from, then-is_empty-via-else-is_empty+else-start-from+then-start-end}

pub returns-then-section-clause-made : goal.returns-then-section-clause-made
returns-then-section-clause-made c =
    let section : StringMergeInputSection = c.args.section.now in
    let bytes : List ℕ = section.section_data.now in
    let a = c.args.from in
    let b = c.args.end in
    let k = c.args.input in
    let at = section.start_input_offset in
    let start = c.as_u64-start.ensures in
    let skipped = c.first_string-skipped.result in
    let rest : from_on (at + (a - at)) (located_in k at (cut bytes)) ≡ located_in k (at + skipped) (cut (drop skipped bytes))
    = ap (λ n. from_on (at + n) (located_in k at (cut bytes))) (ap (λ n. a - n) (sym start) ∙ sym c.saturating_sub.ensures) ∙ c.first_string-skipped.ensures.rest k at in
    let same : until b (located_in k (c.as_u64-start.result + skipped) (cut c.split_at.result.1.now)) ≡ between a b (located_in k at (pieces_of (input_of section)))
    = (λ i. until b (located_in k (start i + skipped) (cut (c.split_at.ensures.back i))))
    ∙ sym (between_rest a b k at skipped (cut bytes) (cut (drop skipped bytes)) (rest_from a k at skipped (cut bytes) (cut (drop skipped bytes)) rest))
    ∙ ap (λ ps. between a b (located_in k at ps)) (sym (pieces_string (input_of section) c.if-section.true)) in
    on_ok c.add_strings.result _ _ (made_same _ _ c.args.self.now c.add_strings.new.self same) c.add_strings.ensures.made

-- the one piece of a constant
pub returns-then-is_empty-clause-made : goal.returns-then-is_empty-clause-made
returns-then-is_empty-clause-made c =
    let section : StringMergeInputSection = c.args.section.now in
    let bytes : List ℕ = section.section_data.now in
    let a = c.args.from in
    let b = c.args.end in
    let k = c.args.input in
    let at = section.start_input_offset in
    let start = c.as_u64-start.ensures in
    let here : Located = record { input = k; start = at; piece = bytes } in
    let pieces = pieces_constant (input_of section) c.if-section.false in
    let some : length bytes ≢ 0 → located_in k at (pieces_of (input_of section)) ≡ here ∷ []
    = λ s. ap (located_in k at) (pieces ∙ constant_some bytes s) ∙ located_one k at bytes in
    let none : [] ≡ between a b (located_in k at (pieces_of (input_of section)))
    = elim c.then-is_empty.branch [
      | then-is_empty-via-then-is_empty w ↦
          let empty : length bytes ≡ 0 = eqb-true _ _ (sym w.if-is_empty.ensures) in
          sym (ap (λ ps. between a b (located_in k at ps)) (pieces ∙ constant_none bytes empty) ∙ ap (between a b) (located_in_none k at))
      | then-is_empty-via-else-is_empty+then-start-from w ↦
          let full : length bytes ≢ 0 = eqb-false _ _ (sym w.if-is_empty.ensures) in
          sym (ap (between a b) (some full) ∙ one_before a b here (omega (arith, start, w.if-start-from.true)))
      | then-is_empty-via-else-is_empty+else-start-from+then-start-end w ↦
          let full : length bytes ≢ 0 = eqb-false _ _ (sym w.if-is_empty.ensures) in
          sym (ap (between a b) (some full) ∙ one_past a b here (omega (arith, start, w.if-start-end.true)))
    ] in
    made_same [] _ c.args.self.now c.args.self.now none (made_none c.args.self.now)

pub returns-clause-made : goal.returns-clause-made
returns-clause-made c =
    let section : StringMergeInputSection = c.args.section.now in
    let bytes : List ℕ = section.section_data.now in
    let a = c.args.from in
    let b = c.args.end in
    let k = c.args.input in
    let at = section.start_input_offset in
    let start = c.as_u64-start.ensures in
    let here : ℕ → List ℕ → Located = λ n p. record { input = k; start = n; piece = p } in
    let full : length bytes ≢ 0 = eqb-false _ _ (sym c.if-is_empty.ensures) in
    let one : located_in k at (pieces_of (input_of section)) ≡ here at bytes ∷ []
    = ap (located_in k at) (pieces_constant (input_of section) c.if-section.false ∙ constant_some bytes full) ∙ located_one k at bytes in
    let same : here c.as_u64-start.result c.take_hashed.result.bytes.now ∷ [] ≡ between a b (located_in k at (pieces_of (input_of section)))
    = (λ i. here (start i) (c.take_hashed.ensures.bytes i) ∷ []) ∙ sym (one_in a b (here at bytes) (omega (arith, start, c.if-start-from.false)) (omega (arith, start, c.if-start-end.false)))
    ∙ ap (between a b) (sym one) in
    on_ok c.add.result _ _ (made_same _ _ c.args.self.now c.add.new.self same) c.add.ensures.made
