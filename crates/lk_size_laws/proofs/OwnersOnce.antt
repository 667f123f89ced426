-- Each owner of a part stands there once, under its number.
use Rattle.std.proofs.Common.{◌≡◌, ℕ, Option, Some, refl, sym, ap, ◌∙◌}
use Rattle.std.specs.List.{position_or_len, slice_get}
use Rattle.lk_link.specs.Symbols.{file_number}
use Rattle.lk_sizes.specs.Owners.{CommonOwner, EntryOwner, Filling, IdentityOwner, ImageOwner, Owner, SectionOwner, ThunkOwner}
use Rattle.lk_sizes.specs.PartOwners.{common_key, has_key, owners_of, section_key, thunk_key}
use Rattle.lk_size_laws.specs.OwnerLaws.{HasItsNumber, OwnersStandOnce}
use Rattle.lk_sizes.proofs.CommonOnes.{commons_once}
use Rattle.lk_sizes.proofs.Keys.{found_there}
use Rattle.lk_sizes.proofs.OwnerKeys.{blocks_once, number_in, sections_once}
use Rattle.lk_size_laws.proofs.OwnerPlaces.{place_of}
use Rattle.lk_size_laws.proofs.OwnersLive.{owners_are_live}

its_number : (filling : Filling) (p k : ℕ) (o : Owner) → slice_get (owners_of filling p) k ≡ Some o → HasItsNumber filling p k o
its_number filling p k (SectionOwner x size) there =
    let key : Owner → Option ℕ = section_key filling.content.link in
    let n : ℕ = number_in filling.content.link x in
    let goes : x.section.part ≡ p = (owners_are_live filling p k (SectionOwner x size) there).1 in
    sym (ap (λ (q : ℕ). position_or_len (has_key key n) (owners_of filling q)) goes
    ∙ found_there key n (owners_of filling p) k (SectionOwner x size) there refl (sections_once filling p))
its_number filling p k (CommonOwner s size) there = sym (found_there common_key s (owners_of filling p) k (CommonOwner s size) there refl (commons_once filling p))
its_number filling p k (ThunkOwner id size) there =
    sym (found_there (thunk_key filling.content.link) (file_number filling.content.link.groups id) (owners_of filling p) k (ThunkOwner id size) there refl (blocks_once filling p))
its_number filling p k (ImageOwner section len) there = place_of filling p k (ImageOwner section len) there
its_number filling p k (IdentityOwner size) there = place_of filling p k (IdentityOwner size) there
its_number filling p k (EntryOwner e) there = place_of filling p k (EntryOwner e) there

pub owners_stand_once : OwnersStandOnce
owners_stand_once filling p k o there = its_number filling p k o there
