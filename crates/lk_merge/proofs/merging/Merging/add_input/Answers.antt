use Rattle.std.proofs.Common.{◌≡◌, ◌≢◌, ℕ, List, [], ◌∷◌, ◌++◌, length, sym, ap, ◌∙◌, subst, append-nil}
use Rattle.std.proofs.lemmas.Bool.{eqb-true, eqb-false}
use Rattle.lk_merge.specs.declared.inputs.StringMergeInputSection.{StringMergeInputSection}
use Rattle.lk_merge.specs.declared.merging.Merging.{Merging as Merges}
use Rattle.lk_merge.specs.Inputs.{Located, located_in, input_of}
use Rattle.lk_merge.specs.MergingTables.{HasMerged}
use Rattle.lk_merge.specs.Pieces.{cut, pieces_of}
use Rattle.lk_merge.proofs.Constants.{on_ok, constant_some, constant_none, pieces_string, pieces_constant, located_one}
use Rattle.lk_merge.proofs.InputLemmas.{located_in_none}
use Rattle.lk_merge.proofs.merging.Merging.add_input.Goals as goal

-- the input's pieces have made this
abbrev Made : ℕ → StringMergeInputSection → Merges → Merges → Type 0
Made input section old new = (output limit : ℕ) (done : List Located) → HasMerged output limit done old
    → HasMerged output limit (done ++ located_in input section.start_input_offset (pieces_of (input_of section))) new

made : (input at : ℕ) (section : StringMergeInputSection) (old new : Merges) (more : List Located) → at ≡ section.start_input_offset
    → more ≡ located_in input at (pieces_of (input_of section))
    → ((output limit : ℕ) (done : List Located) → HasMerged output limit done old → HasMerged output limit (done ++ more) new) → Made input section old new
made input at section old new more start are h output limit done merged =
    let same : more ≡ located_in input section.start_input_offset (pieces_of (input_of section)) = are ∙ ap (λ n. located_in input n (pieces_of (input_of section))) start in
    subst (λ l. HasMerged output limit (done ++ l) new) same (h output limit done merged)

pub returns-then-section-clause-made : goal.returns-then-section-clause-made
returns-then-section-clause-made c =
    let section : StringMergeInputSection = c.args.section.now in
    let pieces = pieces_string (input_of section) c.if-section.true in
    on_ok c.add_strings.result _ (Made c.args.input section c.args.self.now c.add_strings.new.self)
    (made c.args.input c.as_u64-start.result section c.args.self.now c.add_strings.new.self
    (located_in c.args.input c.as_u64-start.result (cut section.section_data.now)) c.as_u64-start.ensures
    (ap (located_in c.args.input c.as_u64-start.result) (sym pieces))) c.add_strings.ensures.made

pub returns-then-is_empty-clause-made : goal.returns-then-is_empty-clause-made
returns-then-is_empty-clause-made c =
    let section : StringMergeInputSection = c.args.section.now in
    let none : length section.section_data.now ≡ 0 = eqb-true _ _ (sym c.if-is_empty.ensures) in
    let pieces = pieces_constant (input_of section) c.if-section.false ∙ constant_none section.section_data.now none in
    made c.args.input c.as_u64-start.result section c.args.self.now c.args.self.now [] c.as_u64-start.ensures
    (sym (ap (located_in c.args.input c.as_u64-start.result) pieces ∙ located_in_none c.args.input c.as_u64-start.result))
    (λ output limit done merged. subst (λ l. HasMerged output limit l c.args.self.now) (sym (append-nil done)) merged)

pub returns-clause-made : goal.returns-clause-made
returns-clause-made c =
    let section : StringMergeInputSection = c.args.section.now in
    let bytes : List ℕ = section.section_data.now in
    let some : length bytes ≢ 0 = eqb-false _ _ (sym c.if-is_empty.ensures) in
    let taken : bytes ≡ c.take_hashed.result.bytes.now = sym c.take_hashed.ensures.bytes in
    let pieces = pieces_constant (input_of section) c.if-section.false ∙ constant_some bytes some ∙ ap (λ (b : List ℕ). b ∷ []) taken in
    on_ok c.add.result _ (Made c.args.input section c.args.self.now c.add.new.self)
    (made c.args.input c.as_u64-start.result section c.args.self.now c.add.new.self
    (record { input = c.args.input; start = c.as_u64-start.result; piece = c.take_hashed.result.bytes.now } ∷ []) c.as_u64-start.ensures
    (sym (ap (located_in c.args.input c.as_u64-start.result) pieces ∙ located_one c.args.input c.as_u64-start.result c.take_hashed.result.bytes.now))) c.add.ensures.made
