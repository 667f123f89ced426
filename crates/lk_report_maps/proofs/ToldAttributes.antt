-- What is told of a section's attributes: whether it is allocated, thread-local and zero-filled is the plan's.
use Rattle.std.proofs.Common.{◌≡◌, ℕ, true, false, List, [], ◌∷◌, ⊎_elim, fold, get_or, map, refl, ap, ◌∙◌, arith, Some, suc}
use Rattle.std.specs.Prelude.{bit_and, bit_or, not, slice_get, ◌==◌, if◌then◌else◌}
use Rattle.std.specs.List.{All, list_any, slice_index_or}
use Rattle.std.proofs.lemmas.Bool.{eqb-true, or_cases}
use Rattle.std.proofs.lemmas.List.Elements.{All-filter, All-map}
use Rattle.std.proofs.lemmas.Nat.{and_or_apart}
use Rattle.std.proofs.lemmas.Option.{slice_get-get_or}
use Rattle.lk_link.specs.declared.link.LinkInput.{LinkInput}
use Rattle.lk_link.specs.Inputs.{Input, all_inputs}
use Rattle.lk_link.specs.InputRules.{are_input_attrs}
use Rattle.lk_link.specs.PlanSections.{is_set, is_singletons, own_attributes, section_at}
use Rattle.lk_link.specs.WellFormed.{IsWellFormed}
use Rattle.lk_link.proofs.GoodInputs.{inputs_are_good}
use Rattle.lk_live.specs.declared.live.Live.{Live}
use Rattle.lk_live.specs.Reach.{AreLive}
use Rattle.lk_reach.proofs.Numbered.{file_of_input}
use Rattle.lk_sizes.specs.Attributes.{part_attributes, parts_of, section_attributes}
use Rattle.lk_sizes.specs.Kept.{kept_inputs}
use Rattle.lk_sizes.specs.Owners.{into, is_merged}
use Rattle.lk_sizes.proofs.KeptOnes.{kept_at, merged_good}
use Rattle.lk_sizes.proofs.LiveOnes.{not_left_out}

-- a flag that no input section can bring: none of its attributes has it
pub record IsPlanFlag (flag : ℕ) : Type 0 where
  pub none : bit_and 0 flag ≡ 0
  pub write : bit_and 2 flag ≡ 0
  pub exec : bit_and 4 flag ≡ 0
  pub both : bit_and 6 flag ≡ 0

pub allocated_flag : IsPlanFlag 1
allocated_flag = record { none = refl; write = refl; exec = refl; both = refl }

pub thread_local_flag : IsPlanFlag 8
thread_local_flag = record { none = refl; write = refl; exec = refl; both = refl }

pub zero_filled_flag : IsPlanFlag 16
zero_filled_flag = record { none = refl; write = refl; exec = refl; both = refl }

module _ (flag : ℕ) (is : IsPlanFlag flag) where
  -- attributes of an input section don't have it
  of_input : (attrs : ℕ) → are_input_attrs attrs ≡ true → bit_and attrs flag ≡ 0
  of_input attrs few =
      ⊎_elim
      (λ none. ap (λ a. bit_and a flag) (eqb-true attrs 0 none) ∙ is.none)
      (λ rest. ⊎_elim
      (λ write. ap (λ a. bit_and a flag) (eqb-true attrs 2 write) ∙ is.write)
      (λ rest. ⊎_elim
      (λ exec. ap (λ a. bit_and a flag) (eqb-true attrs 4 exec) ∙ is.exec)
      (λ rest. ⊎_elim
      (λ both. ap (λ a. bit_and a flag) (eqb-true attrs 6 both) ∙ is.both)
      (λ nothing. absurd (cc))
      (or_cases (attrs == 6) false rest))
      (or_cases (attrs == 4) (list_any (λ a. attrs == a) (6 ∷ [])) rest))
      (or_cases (attrs == 2) (list_any (λ a. attrs == a) (4 ∷ 6 ∷ [])) rest))
      (or_cases (attrs == 0) (list_any (λ a. attrs == a) (2 ∷ 4 ∷ 6 ∷ [])) few)

  -- what is joined to attributes, without it, leaves it as it is
  joined_keeps : (a : ℕ) (ms : List ℕ) → All (λ m. bit_and m flag ≡ 0) ms → bit_and (fold bit_or a ms) flag ≡ bit_and a flag
  joined_keeps a [] each = refl
  joined_keeps a (m ∷ ms) each =
      joined_keeps (bit_or a m) ms (λ i d below. each (suc i) d (omega (arith, below))) ∙ and_or_apart flag a m (each 0 0 (omega arith))

  module _ (link : LinkInput) (live : Live) (good : IsWellFormed link) (are : AreLive link live) where
    kept_attrs : (j : ℕ) (x : Input) → slice_get (kept_inputs link live) j ≡ Some x → are_input_attrs x.section.attrs ≡ true
    kept_attrs j x h =
        let at = kept_at live.marks (all_inputs link.groups) x j h in
        let file = file_of_input link.groups at.0 x at.1 in
        ⊎_elim
        (λ mark. (inputs_are_good link x.file x.index file.0 x.section good file.1 file.2 (not_left_out x.section.slot ((are.marks at.0 x at.1).0 mark).slot)).few_attrs)
        (λ merged. (merged_good link at.0 x good at.1 merged).1.few_attrs)
        (or_cases (slice_index_or live.marks at.0 false) (is_merged x) at.2)

    all_kept : All (λ x. bit_and x.section.attrs flag ≡ 0) (kept_inputs link live)
    all_kept = λ i d below. of_input (get_or (kept_inputs link live) i d).section.attrs (kept_attrs i (get_or (kept_inputs link live) i d) (slice_get-get_or (kept_inputs link live) i d below))

    of_part : (p : ℕ) → bit_and (part_attributes link live p) flag ≡ 0
    of_part p =
        joined_keeps 0 (map (λ x. x.section.attrs) (into p (kept_inputs link live)))
        (All-map (λ m. bit_and m flag ≡ 0) (λ (x : Input). x.section.attrs) (into p (kept_inputs link live)) (All-filter (λ (x : Input). x.section.part == p) (λ x. bit_and x.section.attrs flag ≡ 0) (kept_inputs link live) all_kept))
        ∙ is.none

    same_bits : (s : ℕ) → bit_and (section_attributes link live s) flag ≡ bit_and (own_attributes link.plan s) flag
    same_bits s =
        let parts : List ℕ = map (part_attributes link live) (parts_of link.plan.sections s) in
        let each : All (λ m. bit_and m flag ≡ 0) parts = All-map (λ m. bit_and m flag ≡ 0) (part_attributes link live) (parts_of link.plan.sections s) (λ i d below. of_part (get_or (parts_of link.plan.sections s) i d)) in
        elim (is_singletons link.plan s) as (λ b. bit_and (if b then 0 else fold bit_or (if b then 0 else (section_at link.plan.sections s).attrs) parts) flag ≡ bit_and (if b then 0 else (section_at link.plan.sections s).attrs) flag) [
          | true ↦ refl
          | false ↦ joined_keeps (section_at link.plan.sections s).attrs parts each
        ]

    -- a section is told to have it exactly where the plan has it so
    pub told_as_planned : (s : ℕ) → is_set flag (section_attributes link live s) ≡ is_set flag (own_attributes link.plan s)
    told_as_planned s = ap (λ n. not (n == 0)) (same_bits s)
