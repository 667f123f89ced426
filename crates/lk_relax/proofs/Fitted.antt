-- Where sizes fit, sizing refuses none.
use Rattle.std.proofs.Common.{◌≡◌, ℕ, List, Option, None, Some, Result, Ok, Err, IfOk, refl, sym, subst, ◌∙◌}
use Rattle.std.specs.declared.alloc.AllocError.{AllocError}
use Rattle.lk_link.specs.declared.ids.FileId.{FileId}
use Rattle.lk_link.specs.Files.{first_some}
use Rattle.lk_sizes.specs.declared.error.SizeError.{SizeError}
use Rattle.lk_sizes.specs.declared.error.SizeError.TheVariants.{AddressOverflow, NoMemory}
use Rattle.lk_sizes.specs.Contents.{size_refusal, sum_refusal}
use Rattle.lk_sizes.specs.Owners.{Content, Filling, plain_filling, with_thunks}
use Rattle.lk_sizes.specs.OwnersRecord.{OwnersRecord}
use Rattle.lk_sizes.specs.Sizing.{AreFilled, GivesAdded, GivesOwners}
use Rattle.lk_relax.specs.RelaxationWords.{Fits}

-- where neither is refused, each isn't
both_none : {X : Type 0} (o p : Option X) → first_some o p ≡ None → (o ≡ None) × (p ≡ None)
unfolding first_some
both_none None p h = (refl, h)
both_none (Some x) p h = absurd (cc)

twice : {X : Type 0} (o : Option X) → first_some o o ≡ o
unfolding first_some
twice None = refl
twice (Some x) = refl

module _ (content : Content) (thunks : List (FileId × ℕ)) (fits : size_refusal (with_thunks (plain_filling content) thunks) ≡ None) where
  plain_fits : size_refusal (plain_filling content) ≡ None
  plain_fits = twice (sum_refusal (plain_filling content)) ∙ (both_none (sum_refusal (plain_filling content)) (sum_refusal (with_thunks (plain_filling content) thunks)) fits).0

  pub plain_found : (answer : Result OwnersRecord SizeError) → GivesOwners (plain_filling content) answer → Fits answer
  plain_found (Ok owners) h = tt
  plain_found (Err NoMemory) h = tt
  plain_found (Err (AddressOverflow place)) h = let clash : None ≡ Some (AddressOverflow place) = sym plain_fits ∙ h in absurd (cc)

  pub added_found : (answer : Result OwnersRecord SizeError) → GivesAdded (with_thunks (plain_filling content) thunks) answer → Fits answer
  added_found (Ok owners) h = tt
  added_found (Err NoMemory) h = tt
  added_found (Err (AddressOverflow place)) h =
      let none : sum_refusal (with_thunks (plain_filling content) thunks) ≡ None = (both_none (sum_refusal (plain_filling content)) (sum_refusal (with_thunks (plain_filling content) thunks)) fits).1 in
      let clash : None ≡ Some (AddressOverflow place) = sym none ∙ h in
      absurd (cc)

-- what is found is filled
pub plain_filled : (filling : Filling) (answer : Result OwnersRecord SizeError) (owners : OwnersRecord) → answer ≡ Ok owners → GivesOwners filling answer → AreFilled filling owners
plain_filled filling answer owners is h = (subst (GivesOwners filling) is h).1

pub added_filled : (filling : Filling) (answer : Result OwnersRecord SizeError) (told : Result OwnersRecord AllocError) → IfOk told (λ owners. answer ≡ Ok owners) → GivesAdded filling answer → IfOk told (AreFilled filling)
added_filled filling answer (Ok owners) is h = (subst (GivesAdded filling) is h).1
added_filled filling answer (Err e) is h = tt
