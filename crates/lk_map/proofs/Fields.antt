-- What words say in fields, field by field.
use Rattle.std.proofs.Common.{◌≡◌, ℕ, ◌+◌, ◌<◌, ◌≤◌, Bool, true, false, List, [], ◌∷◌, ◌++◌, Option, Some, None, length, get_or, drop, refl, sym, ap, ◌∙◌}
use Rattle.std.specs.Prelude.{option_copied, is_some, not}
use Rattle.std.specs.Borrow.{Bor}
use Rattle.std.specs.List.{slice_split}
use Rattle.std.proofs.lemmas.List.{append-nil, append_assoc, drop_all, drop_more}
use Rattle.lk_map.specs.declared.forms.Field.{Field}
use Rattle.lk_map.specs.Cutting.{is_byte, parts_left}
use Rattle.lk_map.specs.Reading.{behind, joined, value_of, values_of}
use Rattle.lk_map.specs.Values.{values_if}
use Rattle.lk_map.proofs.Reading.{first_part}

-- values in front of values in front of others
behind_behind : (xs ys : List (Option ℕ)) (o : Option (List (Option ℕ))) → behind xs (behind ys o) ≡ behind (xs ++ ys) o
behind_behind xs ys None = refl
behind_behind xs ys (Some zs) = ap Some (sym (append_assoc xs ys zs))

behind_none : (o : Option (List (Option ℕ))) → behind [] o ≡ o
behind_none None = refl
behind_none (Some xs) = refl

taken_more : (vs new : List (Option ℕ)) (o more : Option (List (Option ℕ))) → Some new ≡ behind vs o → behind vs (joined o more) ≡ behind new more
unfolding joined
taken_more vs new None more e = cc
taken_more vs new (Some xs) more e = let same : new ≡ vs ++ xs = cc in behind_behind vs xs more ∙ ap (λ ys. behind ys more) (sym same)

taken_none : (vs : List (Option ℕ)) (o more : Option (List (Option ℕ))) → None ≡ behind vs o → None ≡ behind vs (joined o more)
unfolding joined
taken_none vs None more e = refl
taken_none vs (Some xs) more e = cc

module _ (fields : List Field) (i : ℕ) (d : Field) (below : i < length fields) where
  at : drop i fields ≡ get_or fields i d ∷ drop (i + 1) fields
  at = drop_more fields i d below

  -- a field whose word fits
  pub field_more : (vs new : List (Option ℕ)) (word : List ℕ) (words : List (List ℕ)) (whole : Option (List (Option ℕ))) →
      behind vs (values_of (drop i fields) (word ∷ words)) ≡ whole → Some new ≡ behind vs (value_of (get_or fields i d) word) → behind new (values_of (drop (i + 1) fields) words) ≡ whole
  unfolding values_of
  field_more vs new word words whole so took =
      sym (taken_more vs new (value_of (get_or fields i d) word) (values_of (drop (i + 1) fields) words) took)
      ∙ sym (ap (λ fs. behind vs (values_of fs (word ∷ words))) at)
      ∙ so

  -- one whose word doesn't
  pub field_none : (vs : List (Option ℕ)) (word : List ℕ) (words : List (List ℕ)) (whole : Option (List (Option ℕ))) →
      behind vs (values_of (drop i fields) (word ∷ words)) ≡ whole → None ≡ behind vs (value_of (get_or fields i d) word) → None ≡ whole
  unfolding values_of
  field_none vs word words whole so took =
      taken_none vs (value_of (get_or fields i d) word) (values_of (drop (i + 1) fields) words) took
      ∙ sym (ap (λ fs. behind vs (values_of fs (word ∷ words))) at)
      ∙ so

  -- one without a word
  pub field_lost : (vs : List (Option ℕ)) (whole : Option (List (Option ℕ))) → behind vs (values_of (drop i fields) []) ≡ whole → None ≡ whole
  unfolding values_of
  field_lost vs whole so = sym (ap (λ fs. behind vs (values_of fs [])) at) ∙ so

-- what is left of a line is its first word, and what is left behind that
pub next_word : (fields : List Field) (i : ℕ) (vs : List (Option ℕ)) (text word : List ℕ) (rest : Option (List ℕ)) (whole : Option (List (Option ℕ))) → slice_split (is_byte 32) text ≡ word ∷ parts_left 32 rest →
    behind vs (values_of (drop i fields) (slice_split (is_byte 32) text)) ≡ whole → behind vs (values_of (drop i fields) (word ∷ parts_left 32 rest)) ≡ whole
next_word fields i vs text word rest whole parts so = sym (ap (λ ws. behind vs (values_of (drop i fields) ws)) parts) ∙ so

-- behind the last field
pub fields_done : (fields : List Field) (i : ℕ) (vs : List (Option ℕ)) (whole : Option (List (Option ℕ))) → length fields ≤ i →
    behind vs (values_of (drop i fields) []) ≡ whole → Some vs ≡ whole
unfolding values_of
fields_done fields i vs whole all so = sym (ap Some (append-nil vs)) ∙ sym (ap (λ fs. behind vs (values_of fs [])) (drop_all i fields all)) ∙ so

pub fields_short : (fields : List Field) (i : ℕ) (vs : List (Option ℕ)) (word : List ℕ) (words : List (List ℕ)) (whole : Option (List (Option ℕ))) → length fields ≤ i →
    behind vs (values_of (drop i fields) (word ∷ words)) ≡ whole → None ≡ whole
unfolding values_of
fields_short fields i vs word words whole all so = sym (ap (λ fs. behind vs (values_of fs (word ∷ words))) (drop_all i fields all)) ∙ so

pub fields_end : (fields : List Field) (i : ℕ) (vs : List (Option ℕ)) (rest : Option (List ℕ)) (none : Bool) (whole : Option (List (Option ℕ))) → length fields ≤ i →
    behind vs (values_of (drop i fields) (parts_left 32 rest)) ≡ whole → is_some rest ≡ not none → values_if none vs ≡ whole
fields_end fields i vs None true whole all so e = fields_done fields i vs whole all so
fields_end fields i vs None false whole all so e = cc
fields_end fields i vs (Some line) false whole all so e =
    let (word, words, is) = first_part (is_byte 32) line in
    fields_short fields i vs word words whole all (sym (ap (λ ws. behind vs (values_of (drop i fields) ws)) is) ∙ so)
fields_end fields i vs (Some line) true whole all so e = cc

pub is_some_copied : (o : Option (Bor (List ℕ))) → is_some (option_copied o) ≡ is_some o
is_some_copied None = refl
is_some_copied (Some x) = refl
