-- What words say as a line of one of the forms, form by form.
use Rattle.std.proofs.Common.{◌≡◌, ℕ, ◌+◌, ◌<◌, ◌≤◌, List, ◌∷◌, Option, Some, None, length, get_or, drop, sym, ap, ◌∙◌}
use Rattle.std.proofs.lemmas.List.{drop_all, drop_more}
use Rattle.lk_map.specs.declared.forms.Field.{Field}
use Rattle.lk_map.specs.declared.forms.Form.{Form}
use Rattle.lk_map.specs.declared.forms.Form.TheVariants.{Layout}
use Rattle.lk_map.specs.Forms.{fields_of}
use Rattle.lk_map.specs.Lines.{Line}
use Rattle.lk_map.specs.Reading.{line_among, line_or, values_of}

module _ (all : List Form) (i : ℕ) (below : i < length all) (words : List (List ℕ)) (whole : Option Line) (so : line_among (drop i all) words ≡ whole) where
  at : drop i all ≡ get_or all i Layout ∷ drop (i + 1) all
  at = drop_more all i Layout below

  -- a form that the words fit
  pub form_fits : (fields : List Field) (vs : List (Option ℕ)) → fields ≡ fields_of (get_or all i Layout) → Some vs ≡ values_of fields words → Some (record { form = get_or all i Layout; values = vs }) ≡ whole
  unfolding line_among line_or
  form_fits fields vs is fits =
      ap (λ o. line_or (get_or all i Layout) o (line_among (drop (i + 1) all) words)) (fits ∙ ap (λ fs. values_of fs words) is)
      ∙ sym (ap (λ fs. line_among fs words) at)
      ∙ so

  -- one that they don't
  pub form_not : (fields : List Field) → fields ≡ fields_of (get_or all i Layout) → None ≡ values_of fields words → line_among (drop (i + 1) all) words ≡ whole
  unfolding line_among line_or
  form_not fields is fits =
      ap (λ o. line_or (get_or all i Layout) o (line_among (drop (i + 1) all) words)) (fits ∙ ap (λ fs. values_of fs words) is)
      ∙ sym (ap (λ fs. line_among fs words) at)
      ∙ so

-- behind the last form
pub form_none : (all : List Form) (i : ℕ) (words : List (List ℕ)) (whole : Option Line) → length all ≤ i → line_among (drop i all) words ≡ whole → None ≡ whole
unfolding line_among
form_none all i words whole past so = sym (ap (λ fs. line_among fs words) (drop_all i all past)) ∙ so
