-- The value of a symbol is set, and nothing else changes.
use Rattle.std.proofs.Common.{◌≡◌, ◌≢◌, ◌∙◌, ◌==◌, ℕ, zero, suc, Bool, true, false, if◌then◌else◌, List, [], ◌∷◌, map, Option, Some, None, option_map, refl, sym, ap}
use Rattle.std.specs.List.{slice_get, slice_index_or, slice_set}
use Rattle.std.proofs.lemmas.List.{get_or-set_other}
use Rattle.lk_link.specs.declared.file.InputFile.{InputFile}
use Rattle.lk_link.specs.declared.resolution.Resolution.{Resolution}
use Rattle.lk_own_symbols.specs.Redirects.{is_redirect, redirects_of}
use Rattle.lk_own_symbols.proofs.RedirectLaws.{each_is_one, goes_through}
use Rattle.lk_resolution_list.specs.declared.kept.Kept.{Kept}
use Rattle.lk_resolution_list.specs.declared.kept.TheConstants.{KEPT_WHOLE, NO_RESOLUTION}
use Rattle.lk_resolution_list.specs.Kept.{told_of, told_short}
use Rattle.lk_resolution_list.specs.Lists.{resolution_at}
use Rattle.lk_resolution_list.specs.StoreLaws.{RedirectsChangeValuesAlone}
use Rattle.lk_resolution_list.specs.Stores.{resolution_store, valued, with_raw_value}

-- ---- one entry

-- the last value counts
valued_twice : (m n : ℕ) (o : Option Resolution) → option_map (valued m) (option_map (valued n) o) ≡ option_map (valued m) o
valued_twice m n None = refl
valued_twice m n (Some r) = refl

told_by : (none whole : Bool) (n m : ℕ) (o : Option Resolution) (short : Resolution)
    → (if none then None else if whole then option_map (valued n) o else Some (valued n short))
    ≡ option_map (valued n) (if none then None else if whole then option_map (valued m) o else Some short)
told_by true whole n m o short = refl
told_by false true n m o short = sym (valued_twice n m o)
told_by false false n m o short = refl

-- an entry with another value tells the same with that value
pub told_valued : (wholes : List Resolution) (kept : Kept) (n : ℕ) → told_of wholes (record kept { raw_value = n }) ≡ option_map (valued n) (told_of wholes kept)
told_valued wholes kept n =
    told_by (kept.dynamic == NO_RESOLUTION) (kept.dynamic == KEPT_WHOLE) n kept.raw_value (slice_get wholes kept.flags_or_place) (told_short kept)

-- ---- all entries

pub value_set : (wholes : List Resolution) (entries : List Kept) (s n : ℕ) (d : Kept)
    → map (told_of wholes) (slice_set entries s (record (slice_index_or entries s d) { raw_value = n })) ≡ with_raw_value (map (told_of wholes) entries) s n
value_set wholes [] s n d = refl
value_set wholes (k ∷ ks) zero n d = ap (λ (o : Option Resolution). o ∷ map (told_of wholes) ks) (told_valued wholes k n)
value_set wholes (k ∷ ks) (suc s) n d = ap (λ (os : List (Option Resolution)). told_of wholes k ∷ os) (value_set wholes ks s n d)

-- ---- behind redirects

-- all but values stays
rest_stays : (rs : List (Option Resolution)) (s n t : ℕ) → option_map (valued 0) (resolution_at (with_raw_value rs s n) t) ≡ option_map (valued 0) (resolution_at rs t)
rest_stays [] s n t = refl
rest_stays (o ∷ os) zero n zero = valued_twice 0 n o
rest_stays (o ∷ os) zero n (suc t) = refl
rest_stays (o ∷ os) (suc s) n zero = refl
rest_stays (o ∷ os) (suc s) n (suc t) = rest_stays os s n t

other_stays : (rs : List (Option Resolution)) (s n t : ℕ) → t ≢ s → resolution_at (with_raw_value rs s n) t ≡ resolution_at rs t
other_stays rs s n t other = get_or-set_other rs s t (option_map (λ r. valued n r) (resolution_at rs s)) None other

not_same : (is : ℕ → Bool) (t s : ℕ) → is t ≡ false → is s ≡ true → t ≢ s
not_same is t s none one same = absurd (let both : true ≡ false = sym one ∙ ap is (sym same) ∙ none in cc)

pub change_values_alone : RedirectsChangeValuesAlone
change_values_alone placed before after h =
    let groups : List (List InputFile) = placed.groups in
    record {
      others = λ t none.
          goes_through resolution_store placed (λ (rs : List (Option Resolution)). resolution_at rs t ≡ resolution_at before t) before after (redirects_of groups)
          (λ k q now n at so_far.
          other_stays now q.symbol n t (not_same (is_redirect groups) t q.symbol none (each_is_one groups k q at)) ∙ so_far)
          h refl;
      rest = λ t.
          goes_through resolution_store placed (λ (rs : List (Option Resolution)). option_map (valued 0) (resolution_at rs t) ≡ option_map (valued 0) (resolution_at before t))
          before after (redirects_of groups)
          (λ k q now n at so_far. rest_stays now q.symbol n t ∙ so_far)
          h refl;
    }
