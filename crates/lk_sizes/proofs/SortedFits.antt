-- Where all sizes fit together, what each sorted section takes does.
use Rattle.std.proofs.Common.{◌≡◌, ℕ, zero, suc, ◌+◌, ◌-◌, ◌^◌, ◌<◌, ◌≤◌, Bool, true, false, cond, List, [], ◌∷◌, length, take, sum, nat_lt, option_map, Option, Some, None, refl, sym, ap, ◌∙◌, arith}
use Rattle.std.specs.List.{enumerate_from, slice_get}
use Rattle.std.proofs.lemmas.Bool.{ltb-false}
use Rattle.std.proofs.lemmas.List.Sums.{get_or-le-sum_by}
use Rattle.std.proofs.lemmas.Option.{get_or_from_slice_get, slice_get_within}
use Rattle.lk_link.specs.declared.fault.Place.TheVariants.{Part}
use Rattle.lk_link.specs.Files.{first_some}
use Rattle.lk_link.specs.Inputs.{Input}
use Rattle.lk_link.specs.Parts.{all_parts, part_at}
use Rattle.lk_link.specs.WellFormed.{IsWellFormed}
use Rattle.lk_link.proofs.Elements.{at_index, contains_at, map_in}
use Rattle.lk_link.proofs.InputLemmas.{numbered_get}
use Rattle.lk_live.specs.Reach.{AreLive, live_inputs}
use Rattle.lk_sizes.specs.declared.error.SizeError.TheVariants.{AddressOverflow}
use Rattle.lk_sizes.specs.Contents.{sum_refusal}
use Rattle.lk_sizes.specs.Harvest.{SortedFit}
use Rattle.lk_sizes.specs.Owners.{Filling, Owner, SectionOwner, owner_bytes, size_of}
use Rattle.lk_sizes.specs.PartOwners.{least_below, overflowing_part, owner_number, owners_of, part_size, part_sizes}
use Rattle.lk_sizes.proofs.Addressing.{live_sections_are_owners}
use Rattle.lk_sizes.proofs.LiveOnes.{live_goes}
use Rattle.lk_sizes.proofs.SortedOnes.{sorted_at}

none_passes : (p : ℕ → Bool) (n : ℕ) → least_below p (suc n) ≡ None → p n ≡ false
unfolding first_some
none_passes p n h =
    (elim (least_below p n) as (λ o. first_some o (cond (p n) (Some n) None) ≡ None → p n ≡ false) [
      | None ↦ (elim (p n) as (λ b. cond b (Some n) None ≡ None → b ≡ false) [
        | true ↦ λ is. absurd (cc)
        | false ↦ λ is. refl
      ])
      | Some m ↦ λ is. absurd (cc)
    ]) h

whole : (xs : List ℕ) → take (length xs) xs ≡ xs
whole xs = all xs
  where
    all : (ys : List ℕ) → take (length ys) ys ≡ ys
    all [] = refl
    all (y ∷ ys) = ap (λ (zs : List ℕ). y ∷ zs) (all ys)

sum_fits : (xs : List ℕ) → overflowing_part xs ≡ None → sum xs < 2 ^ 64
sum_fits xs none = by (length xs) refl
  where
    by : (n : ℕ) → length xs ≡ n → sum xs < 2 ^ 64
    by zero is = omega (arith, ap sum (sym (whole xs) ∙ ap (λ (n : ℕ). take n xs) is))
    by (suc n) is =
        let past : nat_lt (2 ^ 64 - 1) (sum (take (n + 1) xs)) ≡ false
        = none_passes (λ p. nat_lt (2 ^ 64 - 1) (sum (take (p + 1) xs))) n (ap (least_below (λ p. nat_lt (2 ^ 64 - 1) (sum (take (p + 1) xs)))) (sym is) ∙ none) in
        let more : n + 1 ≡ length xs = omega (arith, is) in
        let all : sum (take (n + 1) xs) ≡ sum xs = ap sum (ap (λ (m : ℕ). take m xs) more ∙ whole xs) in
        omega (arith, all, ltb-false (2 ^ 64 - 1) (sum (take (n + 1) xs)) past)

none_refused : (filling : Filling) → sum_refusal filling ≡ None → overflowing_part (part_sizes filling) ≡ None
none_refused filling none =
    (elim (overflowing_part (part_sizes filling)) as (λ (o : Option ℕ). option_map (λ p. AddressOverflow (Part p)) o ≡ None → o ≡ None) [
      | None ↦ λ is. refl
      | Some p ↦ λ is. absurd (cc)
    ]) none

-- all sizes fit together
pub sizes_fit : (filling : Filling) → sum_refusal filling ≡ None → sum (part_sizes filling) < 2 ^ 64
sizes_fit filling none = sum_fits (part_sizes filling) (none_refused filling none)

-- each part fits
part_fits : (filling : Filling) (p : ℕ) → sum_refusal filling ≡ None → p < length (all_parts filling.content.link.plan.sections) → part_size filling p < 2 ^ 64
part_fits filling p none below =
    let parts = all_parts filling.content.link.plan.sections in
    let at = at_index parts p below in
    let number : 0 + p ≡ p = omega arith in
    let one : slice_get (part_sizes filling) p ≡ Some (part_size filling p)
    = map_in (λ q. part_size filling q.0) (enumerate_from 0 parts) p (0 + p, at.0) (numbered_get 0 parts p at.0 at.1) ∙ ap (λ (n : ℕ). Some (part_size filling n)) number in
    omega (
      arith,
      sizes_fit filling none,
      get_or-le-sum_by (λ (n : ℕ). n) (part_sizes filling) p 0 (slice_get_within (part_sizes filling) p (part_size filling p) one),
      get_or_from_slice_get (part_sizes filling) p (part_size filling p) 0 one,
    )

-- what a live section takes is some of its part's
pub takes_some : (filling : Filling) (k : ℕ) (x : Input) → slice_get (live_inputs filling.content.link filling.content.live) k ≡ Some x
    → owner_bytes (part_at filling.content.link.plan.sections x.section.part) (SectionOwner x (size_of filling x)) ≤ part_size filling x.section.part
takes_some filling k x there =
    let part = part_at filling.content.link.plan.sections x.section.part in
    let owners : List Owner = owners_of filling x.section.part in
    let o : Owner = SectionOwner x (size_of filling x) in
    let n : ℕ = owner_number filling x in
    let at : slice_get owners n ≡ Some o = live_sections_are_owners filling x (contains_at (live_inputs filling.content.link filling.content.live) k x there) in
    omega (arith, get_or-le-sum_by (owner_bytes part) owners n o (slice_get_within owners n o at), ap (owner_bytes part) (get_or_from_slice_get owners n o o at))

pub sorted_fit : (filling : Filling) → IsWellFormed filling.content.link → AreLive filling.content.link filling.content.live → sum_refusal filling ≡ None
    → SortedFit filling.content.link filling.content.live filling.sizes
sorted_fit filling good are none k x there =
    let lives = sorted_at filling.content.link filling.content.live k x there in
    omega (
      arith,
      takes_some filling lives.place x lives.there,
      part_fits filling x.section.part none (live_goes filling.content.link filling.content.live lives.place x good are lives.there),
    )
