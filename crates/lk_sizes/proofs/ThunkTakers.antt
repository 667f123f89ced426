-- The blocks of thunks that files own: one of a file at most, in the primary part.
use Rattle.std.proofs.Common.{◌≡◌, ℕ, zero, suc, List, [], ◌∷◌, Option, None, Some, refl, subst, ap, ◌∙◌}
use Rattle.std.specs.Prelude.{option_and_then, option_map}
use Rattle.std.specs.List.{cons_option, filter_map, slice_get}
use Rattle.std.specs.Option.{option_to_list}
use Rattle.lk_link.specs.Inputs.{NumberedFile}
use Rattle.lk_sizes.specs.Owners.{Content, Filling, Taker, ThunkOwner, sized_filling, thunk_bytes, thunk_taker, thunk_takers}

-- what a taker is where it is a file's block
pub record IsBlock (filling : Filling) (f : NumberedFile) (t : Taker) : Type 0 where
  pub size : ℕ
  pub primary : filling.content.link.plan.named.primary ≡ Some t.part
  pub bytes : thunk_bytes filling f.id ≡ Some size
  pub owner : t.owner ≡ ThunkOwner f.id size

pub one_block : (filling : Filling) (f : NumberedFile) (k : ℕ) (t : Taker) → slice_get (thunk_takers filling f) k ≡ Some t → IsBlock filling f t
one_block filling f k t there = by filling.content.link.plan.named.primary refl (thunk_bytes filling f.id) refl k there
  where
    by : (part : Option ℕ) → filling.content.link.plan.named.primary ≡ part → (bytes : Option ℕ) → thunk_bytes filling f.id ≡ bytes → (j : ℕ)
        → slice_get (option_to_list (option_and_then (λ p. option_map (thunk_taker f.id p) bytes) part)) j ≡ Some t → IsBlock filling f t
    by None is bytes of j at = absurd (cc)
    by (Some p) is None of j at = absurd (cc)
    by (Some p) is (Some size) of zero at =
        let same : thunk_taker f.id p size ≡ t = cc in
        subst (IsBlock filling f) same (record { size = size; primary = is; bytes = of; owner = refl })
    by (Some p) is (Some size) of (suc j) at = absurd (cc)

-- where a file owns one, it is there
pub block_there : (filling : Filling) (f : NumberedFile) (p size : ℕ) → filling.content.link.plan.named.primary ≡ Some p → thunk_bytes filling f.id ≡ Some size
    → thunk_takers filling f ≡ thunk_taker f.id p size ∷ []
block_there filling f p size is of =
    ap (λ (part : Option ℕ). option_to_list (option_and_then (λ q. option_map (thunk_taker f.id q) (thunk_bytes filling f.id)) part)) is
    ∙ ap (λ (bytes : Option ℕ). option_to_list (option_map (thunk_taker f.id p) bytes)) of

-- without thunks there is none
pub no_blocks : (content : Content) (sizes : List ℕ) (f : NumberedFile) → thunk_takers (sized_filling content sizes) f ≡ []
no_blocks content sizes f =
    elim content.link.plan.named.primary as (λ part. option_to_list (option_and_then (λ p. option_map (thunk_taker f.id p) None) part) ≡ []) [
      | None ↦ refl
      | Some p ↦ refl
    ]

-- no block has a key of another kind
pub no_block_keys : (key : Taker → Option ℕ) (filling : Filling) (f : NumberedFile) → ((p size : ℕ) → key (thunk_taker f.id p size) ≡ None) → filter_map key (thunk_takers filling f) ≡ []
no_block_keys key filling f none = by filling.content.link.plan.named.primary (thunk_bytes filling f.id)
  where
    by : (part bytes : Option ℕ) → filter_map key (option_to_list (option_and_then (λ p. option_map (thunk_taker f.id p) bytes) part)) ≡ []
    by None bytes = refl
    by (Some p) None = refl
    by (Some p) (Some size) = ap (λ (o : Option ℕ). cons_option o []) (none p size)
