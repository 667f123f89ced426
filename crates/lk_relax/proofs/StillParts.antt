-- Where capacities stay, parts keep their bytes.
use Rattle.std.proofs.Common.{◌≡◌, ◌==◌, ◌≤◌, ◌-◌, ◌++◌, ℕ, zero, suc, Bool, true, false, MatchBool, List, [], ◌∷◌, Some, map, sum_by, inl, inr, refl, sym, ap, subst, ◌∙◌, arith}
use Rattle.std.specs.Prelude.{slice_get}
use Rattle.std.specs.List.{enumerate_from, flat_map}
use Rattle.std.proofs.lemmas.Bool.{eqb-true}
use Rattle.std.proofs.lemmas.Bool.Decides.{eqb_tells}
use Rattle.std.proofs.lemmas.List.Sums.{get_or-le-sum_by, sum_by-append}
use Rattle.std.proofs.lemmas.Option.{get_or_from_slice_get, slice_get_within}
use Rattle.lk_link.specs.declared.link.LinkInput.{LinkInput}
use Rattle.lk_link.specs.declared.plan.PlanPart.{PlanPart}
use Rattle.lk_link.specs.Inputs.{Input, NumberedFile, all_inputs, input_number, numbered_files}
use Rattle.lk_link.specs.Parts.{all_parts, part_at}
use Rattle.lk_link.specs.Sizes.{capacity}
use Rattle.lk_link.specs.WellFormed.{IsWellFormed}
use Rattle.lk_link.proofs.Elements.{map_in}
use Rattle.lk_link.proofs.Powers.{alignment-pos}
use Rattle.lk_live.specs.declared.live.Live.{Live}
use Rattle.lk_sizes.specs.Owners.{EntryOwner, Filling, Owner, Taker, all_file_takers, common_taker, commons_of, content_owners, file_takers, leading_of, live_of, owner_bytes, owners_in, section_taker, size_in, sorted_takers, takers, thunk_takers}
use Rattle.lk_sizes.specs.PartOwners.{part_size, part_sizes, tables_of}
use Rattle.lk_sizes.specs.Tables.{bytes_in}
use Rattle.lk_sizes.proofs.Lists.{map_alike}
use Rattle.lk_sizes.proofs.LiveByFiles.{live_input, number_of, unsorted_is_live}
use Rattle.lk_sizes.proofs.Resizing.{capacities_rise}
use Rattle.lk_sizes.proofs.SortedOnes.{sorted_at}
use Rattle.lk_sizes.proofs.Takers.{bytes_in-append, bytes_in_here, bytes_in_other}
use Rattle.lk_sizes.proofs.PartAlignments.{part_is_aligned}
use Rattle.lk_tables.specs.TableLists.{table_of}
use Rattle.lk_sizes.specs.Sorted.{sorted_inputs}
use Rattle.lk_deltas.specs.LinkDeletions.{Deletions, size_after, sizes_after}
use Rattle.lk_relax.specs.RelaxedLaws.{FirstStands, IsShrunk, PassesStand, RelaxedStands, StandsFor, StillPassesKeepParts}
use Rattle.lk_expressions.specs.Records.{Record}
use Rattle.lk_place.specs.declared.cursors.Cursors.{Cursors}
use Rattle.lk_place.specs.Placement.{IsPlaced}
use Rattle.lk_relax.specs.Stages.{IsPass, LeadsTo, NewWalk, Relaxing, SameWalk, Stage, capacity_after, fall_of, filling_after, link_of, setting_after, shrink_pass}
use Rattle.lk_relax.proofs.Keeping.{first_is_shrunk, passes_stay_shrunk, sizes_fall_by_passes}

-- where a sum is 0, each term is
each_is_zero : {X : Type 0} (f : X → ℕ) (xs : List X) (k : ℕ) (x : X) → sum_by f xs ≡ 0 → slice_get xs k ≡ Some x → f x ≡ 0
each_is_zero f xs k x none at = omega (arith, get_or-le-sum_by f xs k x (slice_get_within xs k x at), ap f (get_or_from_slice_get xs k x x at), none)

-- in a pass in which capacities fall by nothing, each stays
capacities_stay : (by : Relaxing) (a : Stage) (k : ℕ) (x : Input) → IsWellFormed (link_of by) → IsShrunk by a → fall_of by a ≡ 0
    → slice_get (all_inputs (link_of by).groups) k ≡ Some x → capacity_after by (shrink_pass by a) x ≡ capacity_after by a.deletions x
capacities_stay by a k x well h still there =
    let groups = (link_of by).groups in
    let part : PlanPart = part_at (link_of by).plan.sections x.section.part in
    let none : capacity_after by a.deletions x - capacity_after by (shrink_pass by a) x ≡ 0
    = each_is_zero (λ y. capacity_after by a.deletions y - capacity_after by (shrink_pass by a) y) (all_inputs groups) k x still there in
    let falls : capacity_after by (shrink_pass by a) x ≤ capacity_after by a.deletions x
    = capacities_rise part (size_after groups (shrink_pass by a) x) (size_after groups a.deletions x) (alignment-pos part.alignment (part_is_aligned (link_of by) x.section.part well)) (sizes_fall_by_passes by a k x h there) in
    omega (arith, none, falls)

-- ---- the bytes of parts, by sizes that take as much

abbrev sized : Filling → List ℕ → Filling
sized filling sizes = record filling { sizes = sizes }

-- each section takes as much by one list of sizes as by another
abbrev TakeAlike : LinkInput → List ℕ → List ℕ → Type 0
TakeAlike link s t = (k : ℕ) (x : Input) → slice_get (all_inputs link.groups) k ≡ Some x
    → capacity (part_at link.plan.sections x.section.part) (size_in link s x) ≡ capacity (part_at link.plan.sections x.section.part) (size_in link t x)

module _ (filling : Filling) (s t : List ℕ) (alike : TakeAlike filling.content.link s t) (p : ℕ) where
  one_brings : (k : ℕ) (x : Input) → slice_get (all_inputs filling.content.link.groups) k ≡ Some x
      → bytes_in filling.content.link p (section_taker (sized filling s) x ∷ []) ≡ bytes_in filling.content.link p (section_taker (sized filling t) x ∷ [])
  one_brings k x there =
      let link : LinkInput = filling.content.link in
      elim (eqb_tells x.section.part p) [
        | inl hit ↦
            bytes_in_here link p (section_taker (sized filling s) x) hit.1
            ∙ subst (λ (q : ℕ). capacity (part_at link.plan.sections q) (size_in link s x) ≡ capacity (part_at link.plan.sections q) (size_in link t x)) hit.1 (alike k x there)
            ∙ sym (bytes_in_here link p (section_taker (sized filling t) x) hit.1)
        | inr miss ↦ bytes_in_other link p (section_taker (sized filling s) x) miss.1 ∙ sym (bytes_in_other link p (section_taker (sized filling t) x) miss.1)
      ]

  sections_bring : (xs : List Input) → ((j : ℕ) (x : Input) → slice_get xs j ≡ Some x → (k : ℕ) × (slice_get (all_inputs filling.content.link.groups) k ≡ Some x))
      → bytes_in filling.content.link p (map (section_taker (sized filling s)) xs) ≡ bytes_in filling.content.link p (map (section_taker (sized filling t)) xs)
  sections_bring [] there = refl
  sections_bring (x ∷ xs) there =
      let link : LinkInput = filling.content.link in
      omega (
        arith,
        bytes_in-append link p (section_taker (sized filling s) x ∷ []) (map (section_taker (sized filling s)) xs),
        bytes_in-append link p (section_taker (sized filling t) x ∷ []) (map (section_taker (sized filling t)) xs),
        one_brings (there 0 x refl).0 x (there 0 x refl).1,
        sections_bring xs (λ j. there (suc j)),
      )

  file_brings : (i : ℕ) (f : NumberedFile) → slice_get (numbered_files filling.content.link.groups) i ≡ Some f
      → bytes_in filling.content.link p (file_takers (sized filling s) f) ≡ bytes_in filling.content.link p (file_takers (sized filling t) f)
  file_brings i f at =
      let link : LinkInput = filling.content.link in
      let live : Live = filling.content.live in
      let others : List Taker = map common_taker (commons_of link live f) ++ thunk_takers filling f in
      omega (
        arith,
        bytes_in-append link p (map (section_taker (sized filling s)) (live_of link live f)) others,
        bytes_in-append link p (map (section_taker (sized filling t)) (live_of link live f)) others,
        sections_bring (live_of link live f) (λ j x there.
            let lives = unsorted_is_live link live i f j x at there in
            (input_number link.groups x.file x.index, live_input link live lives.0 x lives.1)),
      )

  files_bring : (files : List NumberedFile) → ((j : ℕ) (f : NumberedFile) → slice_get files j ≡ Some f → (i : ℕ) × (slice_get (numbered_files filling.content.link.groups) i ≡ Some f))
      → bytes_in filling.content.link p (flat_map (file_takers (sized filling s)) files) ≡ bytes_in filling.content.link p (flat_map (file_takers (sized filling t)) files)
  files_bring [] there = refl
  files_bring (f ∷ files) there =
      let link : LinkInput = filling.content.link in
      omega (
        arith,
        bytes_in-append link p (file_takers (sized filling s) f) (flat_map (file_takers (sized filling s)) files),
        bytes_in-append link p (file_takers (sized filling t) f) (flat_map (file_takers (sized filling t)) files),
        file_brings (there 0 f refl).0 f (there 0 f refl).1,
        files_bring files (λ j. there (suc j)),
      )

  sorted_bring : bytes_in filling.content.link p (sorted_takers (sized filling s)) ≡ bytes_in filling.content.link p (sorted_takers (sized filling t))
  sorted_bring =
      let link : LinkInput = filling.content.link in
      let live : Live = filling.content.live in
      sections_bring (sorted_inputs link live) (λ j x there.
      let is = sorted_at link live j x there in
      (input_number link.groups x.file x.index, live_input link live is.place x is.there))

  same_bytes : part_size (sized filling s) p ≡ part_size (sized filling t) p
  same_bytes =
      let link : LinkInput = filling.content.link in
      let part : PlanPart = part_at link.plan.sections p in
      let leading : List Owner = leading_of link filling.content.merged_lens p in
      let entries : List Owner = map EntryOwner (table_of link.plan.named (tables_of filling.content) p) in
      let bytes : List Owner → ℕ = λ os. sum_by (owner_bytes part) os in
      omega (
        arith,
        sum_by-append (owner_bytes part) (content_owners (sized filling s) p) entries,
        sum_by-append (owner_bytes part) (content_owners (sized filling t) p) entries,
        sum_by-append (owner_bytes part) leading (owners_in p (takers (sized filling s))),
        sum_by-append (owner_bytes part) leading (owners_in p (takers (sized filling t))),
        bytes_in-append link p (all_file_takers (sized filling s)) (sorted_takers (sized filling s)),
        bytes_in-append link p (all_file_takers (sized filling t)) (sorted_takers (sized filling t)),
        files_bring (numbered_files link.groups) (λ j f at. (j, at)),
        sorted_bring,
      )

parts_alike : (filling : Filling) (s t : List ℕ) → TakeAlike filling.content.link s t → part_sizes (sized filling s) ≡ part_sizes (sized filling t)
parts_alike filling s t alike =
    map_alike (λ (q : ℕ × PlanPart). part_size (sized filling s) q.0) (λ (q : ℕ × PlanPart). part_size (sized filling t) q.0) (enumerate_from 0 (all_parts filling.content.link.plan.sections))
    (λ k q at. same_bytes filling s t alike q.0)

-- ---- passes

-- the size of a section by those of all
size_there : (link : LinkInput) (deletions : Deletions) (k : ℕ) (x : Input) → slice_get (all_inputs link.groups) k ≡ Some x
    → size_in link (sizes_after link.groups deletions) x ≡ size_after link.groups deletions x
size_there link deletions k x there =
    get_or_from_slice_get (sizes_after link.groups deletions) (input_number link.groups x.file x.index) (size_after link.groups deletions x) 0
    (map_in (size_after link.groups deletions) (all_inputs link.groups) (input_number link.groups x.file x.index) x (ap (slice_get (all_inputs link.groups)) (number_of link k x there) ∙ there))

pub still_passes_keep_parts : StillPassesKeepParts
still_passes_keep_parts by a well h still =
    let link : LinkInput = link_of by in
    let new : Deletions = shrink_pass by a in
    parts_alike by.filling (sizes_after link.groups new) (sizes_after link.groups a.deletions) (λ k x there.
    let part : PlanPart = part_at link.plan.sections x.section.part in
    ap (capacity part) (size_there link new k x there) ∙ capacities_stay by a k x well h still there ∙ sym (ap (capacity part) (size_there link a.deletions k x there)))

-- ---- placements

new_stands : (by : Relaxing) (a : Stage) → NewWalk by a → StandsFor by a
new_stands by a h = record { placed = h.placed; parts = ap (λ (ds : Deletions). part_sizes (filling_after by ds)) h.walked }

pub first_stands : FirstStands
first_stands by a first = new_stands by a first.walk

-- a placement that stays
kept_stands : (by : Relaxing) (a b : Stage) → IsWellFormed (link_of by) → IsPass by a b → IsShrunk by a → fall_of by a ≡ 0 → SameWalk a b → StandsFor by a → StandsFor by b
kept_stands by a b well pass h still same stands =
    let sizes : Deletions → List ℕ = λ ds. part_sizes (filling_after by ds) in
    record {
      placed = subst (λ (ds : Deletions). IsPlaced (setting_after by ds) b.states b.records) (sym same.walked)
          (subst (λ (ss : List Cursors). IsPlaced (setting_after by a.walked) ss b.records) (sym same.states)
          (subst (λ (rs : List Record). IsPlaced (setting_after by a.walked) a.states rs) (sym same.records) stands.placed));
      parts = ap sizes same.walked ∙ stands.parts ∙ sym (still_passes_keep_parts by a well h still) ∙ sym (ap sizes pass.deletions);
    }

pub passes_stand : PassesStand
passes_stand by a b well pass h stands = by_fall (fall_of by a == 0) refl pass.walk
  where
    by_fall : (c : Bool) → (fall_of by a == 0) ≡ c → MatchBool c (SameWalk a b) (NewWalk by b) → StandsFor by b
    by_fall true is same = kept_stands by a b well pass h (eqb-true (fall_of by a) 0 is) same stands
    by_fall false is new = new_stands by b new

stands_behind : (by : Relaxing) (k : ℕ) (a z : Stage) → IsWellFormed (link_of by) → LeadsTo by k a z → IsShrunk by a → StandsFor by a → StandsFor by z
stands_behind by zero a z well leads h stands = subst (StandsFor by) leads stands
stands_behind by (suc k) a z well (inl leads) h stands = subst (StandsFor by) leads.1 stands
stands_behind by (suc k) a z well (inr leads) h stands =
    stands_behind by k leads.0 z well leads.2 (passes_stay_shrunk by a leads.0 well leads.1 h) (passes_stand by a leads.0 well leads.1 h stands)

pub relaxed_stands : RelaxedStands
relaxed_stands by z well relaxed =
    stands_behind by 5 relaxed.first z well relaxed.leads (first_is_shrunk by relaxed.first relaxed.begins) (first_stands by relaxed.first relaxed.begins)
