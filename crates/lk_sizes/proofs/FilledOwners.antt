-- What is filled by what sizing found.
use Rattle.std.proofs.Common.{◌≡◌, Bor, ℕ, List, Option, None, Some, ap, refl, sym, ◌∙◌, subst}
use Rattle.std.specs.Prelude.{option_map, unwrap_or}
use Rattle.std.specs.Option.{option_map_or}
use Rattle.lk_link.specs.declared.ids.FileId.{FileId}
use Rattle.lk_link.specs.declared.link.LinkInput.{LinkInput}
use Rattle.lk_link.specs.TableSizes.{TableSizes}
use Rattle.lk_live.specs.declared.live.Live.{Live}
use Rattle.lk_sizes.specs.Owners.{Filling, content_of, in_output, own_sizes, sized_filling, with_thunks}
use Rattle.lk_sizes.specs.OwnersRecord.{OwnersRecord}
use Rattle.lk_sizes.specs.PartOwners.{EndsFit}
use Rattle.lk_sizes.specs.Sizing.{AreFilled}

-- the filling that was found, where tables take so much
abbrev pub filled : LinkInput → Live → OwnersRecord → TableSizes → Filling
filled link live owners tables =
    with_thunks (sized_filling (content_of link tables live owners.lens) (unwrap_or owners.sizes (own_sizes link))) owners.thunks

pub filled_is : (link : LinkInput) (live : Live) (owners : OwnersRecord) (filling : Filling) → AreFilled (in_output link live filling) owners
    → filled link live owners filling.content.sizes ≡ in_output link live filling
filled_is link live owners filling h =
    let made : List ℕ → List ℕ → List (FileId × ℕ) → Filling
    = λ lens sizes thunks. with_thunks (sized_filling (content_of link filling.content.sizes live lens) sizes) thunks in
    ap (λ (lens : List ℕ). made lens (unwrap_or owners.sizes (own_sizes link)) owners.thunks) h.lens
    ∙ ap (λ (sizes : List ℕ). made filling.content.merged_lens sizes owners.thunks) h.sizes
    ∙ ap (made filling.content.merged_lens filling.sizes) h.thunks

pub filled_fit : (link : LinkInput) (live : Live) (owners : OwnersRecord) (filling : Filling) (starts : List ℕ) → AreFilled (in_output link live filling) owners
    → EndsFit (in_output link live filling) starts → EndsFit (filled link live owners filling.content.sizes) starts
filled_fit link live owners filling starts h fit = subst (λ (f : Filling). EndsFit f starts) (sym (filled_is link live owners filling h)) fit

-- the sizes that are handed on
pub handed : (o : Option (Bor (List ℕ))) (kept : Option (List ℕ)) (own : List ℕ) → option_map (λ s. s.now) o ≡ kept → option_map_or (λ s. s.now) o own ≡ unwrap_or kept own
handed o kept own is = both o ∙ ap (λ (k : Option (List ℕ)). unwrap_or k own) is
  where
    both : (p : Option (Bor (List ℕ))) → option_map_or (λ s. s.now) p own ≡ unwrap_or (option_map (λ s. s.now) p) own
    both None = refl
    both (Some s) = refl
