use Rattle.std.proofs.Common.{◌≡◌, ◌+◌, List, ◌∷◌, [], ◌++◌, length, map, sym, ap, ◌∙◌, subst, arith}
use Rattle.std.specs.List.{slice_get}
use Rattle.std.proofs.lemmas.List.{length-map}
use Rattle.lk_merge.specs.declared.inputs.StringMergeInputSection.{StringMergeInputSection}
use Rattle.lk_merge.specs.Inputs.{AreInputs, input_of, padded_total}
use Rattle.lk_merge.specs.Pieces.{MergeInput}
use Rattle.lk_merge.proofs.InputLemmas.{one_more_input}
use Rattle.lk_merge.proofs.inputs.StringMergeInputSections.push.Goals as goal

pub invariant_of-self : goal.invariant_of-self
invariant_of-self c =
    let old : List StringMergeInputSection = c.self.inside.sections.items in
    let s : StringMergeInputSection = record {
      number = c.args.number;
      section_data = c.args.section_data;
      start_input_offset = c.from_u64.result;
      is_string = c.args.is_string;
    } in
    let items : c.push.new.self.items ≡ old ++ s ∷ [] = c.in-Ok.ensures.items in
    let view : map input_of old ≡ c.args.self.now = c.self.view_is in
    let total : c.self.inside.total ≡ padded_total c.args.self.now = c.self.invariant.sum ∙ ap padded_total view in
    let count : length old ≡ length c.args.self.now = sym (length-map old input_of) ∙ ap length view in
    subst (AreInputs (c.self.inside.total + c.padded_len-padded_len.result)) (sym items)
    (subst (λ n. AreInputs (c.self.inside.total + n) (old ++ s ∷ [])) (sym c.padded_len-padded_len.ensures)
    (one_more_input c.self.inside.total old s c.self.invariant c.from_u64.ensures (omega (arith, c.requires.fits, total)) (omega (arith, c.requires.few, count))
    (λ k x at. c.requires.behind k x (ap (λ (l : List MergeInput). slice_get l k) (sym view) ∙ at))))
