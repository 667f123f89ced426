-- Where the first object stands, with the primary bytes of all files, stays below 2^64: both are parts of all sizes.
use Rattle.std.proofs.Common.{◌≡◌, ℕ, suc, ◌+◌, ◌<◌, ◌≤◌, ◌^◌, ◌&&◌, not, Bool, true, false, cond, if◌then◌else◌, List, [], ◌∷◌, filter, length, map, sum, sum_by, Option, Some, None, refl, ap, sym, subst, ◌∙◌, arith, inl, inr}
use Rattle.std.specs.List.{enumerate_from, flat_map, slice_get}
use Rattle.std.proofs.lemmas.Bool.Decides.{eqb_tells}
use Rattle.std.proofs.lemmas.List.{map-append}
use Rattle.std.proofs.lemmas.List.Sums.{sum-map, sum_by-append, sum_by-cons, sum_by-le-sum_by}
use Rattle.std.proofs.lemmas.Option.{get_or_from_slice_get}
use Rattle.lk_link.specs.declared.ids.FileId.{FileId}
use Rattle.lk_link.specs.declared.link.LinkInput.{LinkInput}
use Rattle.lk_link.specs.declared.plan.PlanPart.{PlanPart}
use Rattle.lk_link.specs.declared.section.InputSection.{InputSection}
use Rattle.lk_link.specs.InputSlots.{is_regular}
use Rattle.lk_link.specs.Inputs.{Input, NumberedFile, first_input, inputs_from, numbered_files}
use Rattle.lk_link.specs.Marks.{is_marked}
use Rattle.lk_link.specs.PartRules.{is_part}
use Rattle.lk_link.specs.Parts.{all_parts, part_at}
use Rattle.lk_link.specs.WellFormed.{IsWellFormed}
use Rattle.lk_link.proofs.Elements.{at_index}
use Rattle.lk_link.proofs.GoodLinks.{part_alignment-pos}
use Rattle.lk_live.specs.declared.live.Live.{Live}
use Rattle.lk_live.specs.Reach.{live_inputs}
use Rattle.lk_reach.proofs.Numbered.{sections_of}
use Rattle.lk_reach.specs.Units.{is_primary_section}
use Rattle.lk_sizes.specs.Contents.{sum_refusal}
use Rattle.lk_sizes.specs.Owners.{Content, EntryOwner, Filling, Taker, content_owners, leading_of, owner_bytes, own_sizes, owners_in, plain_filling, size_in, takers}
use Rattle.lk_sizes.specs.PartOwners.{part_size, part_sizes, tables_of}
use Rattle.lk_sizes.specs.Tables.{bytes_in, live_size, taker_by}
use Rattle.lk_sizes.proofs.Placed.{size-le}
use Rattle.lk_sizes.proofs.LiveByFiles.{is_live_input, live_by_files}
use Rattle.lk_sizes.proofs.OwnSizes.{live_own_size}
use Rattle.lk_sizes.proofs.SortedFits.{sizes_fit}
use Rattle.lk_sizes.proofs.Takers.{bytes_in-append, bytes_in_here}
use Rattle.lk_sizes.proofs.Wholes.{taken_apart}
use Rattle.lk_tables.specs.TableLists.{table_of}
use Rattle.lk_thunks.specs.Ranges.{primary_bytes, section_bytes, total_primary_bytes}
use Rattle.lk_thunk_plan.specs.ThunkPlans.{code_before, other_code}

-- ---- sums by number

-- what is no more at each number, and nothing at number n, leaves room for what stands there
left_for : {X : Type 0} (f g : ℕ → ℕ) (n o : ℕ) (xs : List X) → ((k : ℕ) → f k ≤ g k) → f n ≡ 0 → o ≤ n → n < o + length xs
    → sum_by (λ q. f q.0) (enumerate_from o xs) + g n ≤ sum_by (λ q. g q.0) (enumerate_from o xs)
left_for f g n o [] less none from below = absurd (omega (arith, from, below))
left_for {X} f g n o (x ∷ xs) less none from below =
    let fs : ℕ × X → ℕ = λ q. f q.0 in
    let gs : ℕ × X → ℕ = λ q. g q.0 in
    elim (eqb_tells o n) [
      | inl hit ↦
          let rest = sum_by-le-sum_by fs gs (enumerate_from (o + 1) xs) (λ q. less q.0) in
          omega (arith, sum_by-cons fs (o, x) (enumerate_from (o + 1) xs), sum_by-cons gs (o, x) (enumerate_from (o + 1) xs), ap f hit.1, ap g hit.1, none, rest)
      | inr miss ↦
          let rest = left_for f g n (o + 1) xs less none (past o n from miss.1) (omega (arith, below)) in
          omega (arith, sum_by-cons fs (o, x) (enumerate_from (o + 1) xs), sum_by-cons gs (o, x) (enumerate_from (o + 1) xs), less o, rest)
    ]
  where
    past : (a b : ℕ) → a ≤ b → (a ≡ b → ⊥) → a + 1 ≤ b
    past a b h other = omega (arith, h, other)

-- the code of other parts, and the primary part
code_and_primary : (filling : Filling) (p : ℕ) → filling.content.link.plan.named.primary ≡ Some p → p < length (all_parts filling.content.link.plan.sections)
    → code_before filling + part_size filling p ≤ sum (part_sizes filling)
code_and_primary filling p named below =
    let parts : List PlanPart = all_parts filling.content.link.plan.sections in
    omega (
      arith,
      sum-map (λ (q : ℕ × PlanPart). other_code filling q.0) (enumerate_from 0 parts),
      sum-map (λ (q : ℕ × PlanPart). part_size filling q.0) (enumerate_from 0 parts),
      left_for (other_code filling) (part_size filling) p 0 parts some none (omega arith) (omega (arith, below)),
    )
  where
    some_of : (b : Bool) (n : ℕ) → (if b then n else 0) ≤ n
    some_of true n = omega arith
    some_of false n = omega arith

    some : (k : ℕ) → other_code filling k ≤ part_size filling k
    some k = some_of _ (part_size filling k)

    not_both : (b : Bool) (n : ℕ) → (if b && not true then n else 0) ≡ 0
    not_both true n = refl
    not_both false n = refl

    itself : (o : Option ℕ) → o ≡ Some p → is_part p o ≡ true
    itself None e = absurd (cc)
    itself (Some q) e =
        let same : q ≡ p = cc in
        elim (eqb_tells q p) [ inl hit ↦ hit.0 | inr miss ↦ absurd (miss.1 same) ]

    none : other_code filling p ≡ 0
    none = rw (itself filling.content.link.plan.named.primary named) (not_both _ (part_size filling p))

-- ---- what live sections take

abbrev own_taker : Input → Taker
own_taker = taker_by (λ x. x.section.size)

module _ (link : LinkInput) (live : Live) (p : ℕ) (named : link.plan.named.primary ≡ Some p) (aligned : 0 < (part_at link.plan.sections p).alignment) where
  -- the primary bytes of a section are no more than what it takes, if it is live
  section_takes : (id : FileId) (i : ℕ) (section : InputSection) (rest : List Input)
      → section_bytes link live.marks (first_input link.groups id) (i, section) + bytes_in link p (map own_taker (filter (is_live_input link live) rest))
      ≤ bytes_in link p (map own_taker (filter (is_live_input link live) (record { file = id; index = i; section = section } ∷ rest)))
  section_takes id i section rest =
      elim (is_marked live.marks (first_input link.groups id + i)) as (λ b.
      (if b && is_primary_section link section && is_regular section.slot then section.size else 0) + bytes_in link p (map own_taker later)
      ≤ bytes_in link p (map own_taker (cond b (x ∷ later) later))) [
        | true ↦ omega (arith, bytes_in-append link p (own_taker x ∷ []) (map own_taker later), one)
        | false ↦ omega arith
      ]
    where
      x : Input
      x = record { file = id; index = i; section = section }

      later : List Input
      later = filter (is_live_input link live) rest

      to_primary : (o : Option ℕ) → o ≡ Some p → (is_part section.part o ≡ true → section.part ≡ p)
      to_primary None e h = absurd (cc)
      to_primary (Some q) e h =
          let same : q ≡ p = cc in
          elim (eqb_tells q section.part) [ inl hit ↦ sym hit.1 ∙ same | inr miss ↦ absurd (cc) ]

      by : (a b : Bool) → (a ≡ true → section.part ≡ p) → (if a && b then section.size else 0) ≤ bytes_in link p (own_taker x ∷ [])
      by true true goes =
          let here = goes refl in
          omega (arith, bytes_in_here link p (own_taker x) here, size-le (part_at link.plan.sections p) section.size)
      by true false goes = omega arith
      by false b goes = omega arith

      one : (if is_primary_section link section && is_regular section.slot then section.size else 0) ≤ bytes_in link p (own_taker x ∷ [])
      one = by (is_primary_section link section) (is_regular section.slot) (to_primary link.plan.named.primary named)

  -- so it is of all sections of a file
  file_takes : (id : FileId) (i : ℕ) (sections : List InputSection)
      → sum_by (section_bytes link live.marks (first_input link.groups id)) (enumerate_from i sections)
      ≤ bytes_in link p (map own_taker (filter (is_live_input link live) (inputs_from id i sections)))
  file_takes id i [] = omega arith
  file_takes id i (section ∷ sections) =
      omega (
        arith,
        sum_by-cons (section_bytes link live.marks (first_input link.groups id)) (i, section) (enumerate_from (i + 1) sections),
        file_takes id (i + 1) sections,
        section_takes id i section (inputs_from id (i + 1) sections),
      )

  -- and of all files
  files_take : (fs : List NumberedFile) → sum_by (primary_bytes link live) fs
      ≤ bytes_in link p (map own_taker (flat_map (λ f. filter (is_live_input link live) (sections_of f)) fs))
  files_take [] = omega arith
  files_take (f ∷ fs) =
      let here : List Input = filter (is_live_input link live) (sections_of f) in
      let later : List Input = flat_map (λ g. filter (is_live_input link live) (sections_of g)) fs in
      omega (
        arith,
        sum_by-cons (primary_bytes link live) f fs,
        file_takes f.id 0 f.file.sections,
        files_take fs,
        ap (bytes_in link p) (map-append own_taker here later),
        bytes_in-append link p (map own_taker here) (map own_taker later),
      )

  all_take : total_primary_bytes link live ≤ live_size (λ x. x.section.size) link live p
  all_take = subst (λ (xs : List Input). total_primary_bytes link live ≤ bytes_in link p (map own_taker xs)) (live_by_files link live) (files_take (numbered_files link.groups))

-- ---- all

-- sections take the same by two functions that tell the same sizes
same_taken : (link : LinkInput) (p : ℕ) (f g : Input → ℕ) (xs : List Input) → ((k : ℕ) (x : Input) → slice_get xs k ≡ Some x → f x ≡ g x)
    → map (taker_by f) xs ≡ map (taker_by g) xs
same_taken link p f g [] same = refl
same_taken link p f g (x ∷ xs) same =
    let taker : ℕ → Taker = λ n. taker_by (λ _. n) x in
    ap (λ (n : ℕ). taker n ∷ map (taker_by f) xs) (same 0 x refl) ∙ ap (λ (ts : List Taker). taker_by g x ∷ ts) (same_taken link p f g xs (λ k. same (suc k)))

-- what content takes is some of what all owners do
content_takes : (content : Content) (p : ℕ) → live_size (λ x. x.section.size) content.link content.live p ≤ part_size (plain_filling content) p
content_takes content p =
    let link : LinkInput = content.link in
    let filling : Filling = plain_filling content in
    let part : PlanPart = part_at link.plan.sections p in
    omega (
      arith,
      ap (bytes_in link p) (same_taken link p (λ x. x.section.size) (size_in link (own_sizes link)) (live_inputs link content.live) (λ k x at. sym (live_own_size content k x at))),
      taken_apart content (own_sizes link) p,
      sum_by-append (owner_bytes part) (leading_of link content.merged_lens p) (owners_in p (takers filling)),
      sum_by-append (owner_bytes part) (content_owners filling p) (map EntryOwner (table_of link.plan.named (tables_of content) p)),
    )

pub code_fits : (content : Content) (p : ℕ) → IsWellFormed content.link → content.link.plan.named.primary ≡ Some p → p < length (all_parts content.link.plan.sections)
    → sum_refusal (plain_filling content) ≡ None → code_before (plain_filling content) + total_primary_bytes content.link content.live < 2 ^ 64
code_fits content p good named below none =
    let link : LinkInput = content.link in
    let at = at_index (all_parts link.plan.sections) p below in
    let is = get_or_from_slice_get (all_parts link.plan.sections) p at.0 (record { alignment = 1; packed = false }) at.1 in
    let aligned : 0 < (part_at link.plan.sections p).alignment = omega (arith, part_alignment-pos link p at.0 good at.1, ap (λ (q : PlanPart). q.alignment) is) in
    omega (
      arith,
      sizes_fit (plain_filling content) none,
      code_and_primary (plain_filling content) p named below,
      all_take link content.live p named aligned,
      content_takes content p,
    )
