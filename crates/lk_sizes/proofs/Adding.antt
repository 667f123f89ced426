-- What live sections bring to a part, one after the other.
use Rattle.std.proofs.Common.{◌≡◌, ℕ, ◌+◌, ◌-◌, ◌<◌, ◌==◌, ◌||◌, ◌^◌, Bool, true, false, cond, min, List, [], ◌∷◌, ◌++◌, length, map, fold, replicate, set, Some, refl, sym, ap, ◌∙◌, subst, arith, inl, inr}
use Rattle.std.specs.Prelude.{bit_or, filter, not}
use Rattle.std.specs.List.{list_any, slice_get, slice_index_or}
use Rattle.std.proofs.Math.Bool.{or-false}
use Rattle.std.proofs.lemmas.Bool.Decides.{eqb_tells}
use Rattle.std.proofs.lemmas.List.{append-nil, map-append, length-replicate, length-set, get_or-replicate, get_or-set_same, get_or-set_other}
use Rattle.std.proofs.lemmas.List.Elements.{filter-append}
use Rattle.std.proofs.lemmas.List.Folds.{list_any-append}
use Rattle.std.proofs.lemmas.List.Sums.{fold-append, sum_by-append}
use Rattle.std.proofs.lemmas.Option.{get_or_from_slice_get, slice_get_within}
use Rattle.lk_link.specs.declared.link.LinkInput.{LinkInput}
use Rattle.lk_link.specs.declared.plan.PlanPart.{PlanPart}
use Rattle.lk_link.specs.Inputs.{Input}
use Rattle.lk_link.specs.Parts.{all_parts, part_at}
use Rattle.lk_link.specs.Sizes.{capacity}
use Rattle.lk_sizes.specs.declared.owners.PartTotal.{PartTotal}
use Rattle.lk_sizes.specs.Owners.{bytes_of, into, is_merged, owner_bytes}
use Rattle.lk_sizes.proofs.Takers.{sized_owner}

pub into-append : (p : ℕ) (xs ys : List Input) → into p (xs ++ ys) ≡ into p xs ++ into p ys
into-append p xs ys = filter-append (λ x. x.section.part == p) xs ys

pub into_here : (p : ℕ) (x : Input) (xs : List Input) → x.section.part ≡ p → into p (x ∷ xs) ≡ x ∷ into p xs
into_here p x xs h =
    elim (eqb_tells x.section.part p) [
      | inl hit ↦ ap (λ b. cond b (x ∷ into p xs) (into p xs)) hit.0
      | inr miss ↦ absurd (miss.1 h)
    ]

pub into_other : (p : ℕ) (x : Input) (xs : List Input) → (x.section.part ≡ p → ⊥) → into p (x ∷ xs) ≡ into p xs
into_other p x xs h =
    elim (eqb_tells x.section.part p) [
      | inl hit ↦ absurd (h hit.1)
      | inr miss ↦ ap (λ b. cond b (x ∷ into p xs) (into p xs)) miss.0
    ]

-- the bytes that sections take in a part, by their sizes
abbrev pub bytes_into : (Input → ℕ) → PlanPart → ℕ → List Input → ℕ
bytes_into size part p xs = bytes_of part (map (sized_owner size) (into p xs))

-- whether one of those that go to it is merged
abbrev pub merged_into : ℕ → List Input → Bool
merged_into p xs = list_any is_merged (into p xs)

-- those that aren't merged
abbrev pub unmerged : List Input → List Input
unmerged xs = filter (λ x. not (is_merged x)) xs

-- the attributes of those that go to it
abbrev pub attrs_into : ℕ → List Input → List ℕ
attrs_into p xs = map (λ x. x.section.attrs) (into p xs)

pub bytes_into-append : (size : Input → ℕ) (part : PlanPart) (p : ℕ) (xs ys : List Input) → bytes_into size part p (xs ++ ys) ≡ bytes_into size part p xs + bytes_into size part p ys
bytes_into-append size part p xs ys =
    ap (λ (zs : List Input). bytes_of part (map (sized_owner size) zs)) (into-append p xs ys)
    ∙ ap (bytes_of part) (map-append (sized_owner size) (into p xs) (into p ys))
    ∙ sum_by-append (owner_bytes part) (map (sized_owner size) (into p xs)) (map (sized_owner size) (into p ys))

pub bytes_into_here : (size : Input → ℕ) (part : PlanPart) (p : ℕ) (x : Input) → x.section.part ≡ p → bytes_into size part p (x ∷ []) ≡ capacity part (size x)
bytes_into_here size part p x h = ap (λ (zs : List Input). bytes_of part (map (sized_owner size) zs)) (into_here p x [] h) ∙ omega arith

pub bytes_into_other : (size : Input → ℕ) (part : PlanPart) (p : ℕ) (x : Input) → (x.section.part ≡ p → ⊥) → bytes_into size part p (x ∷ []) ≡ 0
bytes_into_other size part p x h = ap (λ (zs : List Input). bytes_of part (map (sized_owner size) zs)) (into_other p x [] h)

-- with one section more
pub unmerged_more : (size : Input → ℕ) (part : PlanPart) (p : ℕ) (done : List Input) (x : Input) (b : Bool) → is_merged x ≡ b
    → bytes_into size part p (unmerged (done ++ x ∷ [])) ≡ bytes_into size part p (unmerged done) + cond b 0 (bytes_into size part p (x ∷ []))
unmerged_more size part p done x true merged =
    let none : unmerged (x ∷ []) ≡ [] = ap (λ b. cond (not b) (x ∷ []) []) merged in
    let same : unmerged (done ++ x ∷ []) ≡ unmerged done =
    filter-append (λ (y : Input). not (is_merged y)) done (x ∷ []) ∙ ap (λ zs. unmerged done ++ zs) none ∙ append-nil (unmerged done) in
    omega (arith, ap (bytes_into size part p) same)
unmerged_more size part p done x false merged =
    let one : unmerged (x ∷ []) ≡ x ∷ [] = ap (λ b. cond (not b) (x ∷ []) []) merged in
    let more : unmerged (done ++ x ∷ []) ≡ unmerged done ++ x ∷ [] =
    filter-append (λ (y : Input). not (is_merged y)) done (x ∷ []) ∙ ap (λ zs. unmerged done ++ zs) one in
    omega (arith, ap (bytes_into size part p) more, bytes_into-append size part p (unmerged done) (x ∷ []))

-- ---- totals

-- what these sections bring to a part; sums are told apart below 2^64
pub record IsTotal (size : Input → ℕ) (part : PlanPart) (p : ℕ) (done : List Input) (total : PartTotal) : Type 0 where
  pub bytes : min total.bytes (2 ^ 64) ≡ min (bytes_into size part p (unmerged done)) (2 ^ 64)
  pub image : total.has_image ≡ merged_into p done
  pub attrs : total.attrs ≡ fold bit_or 0 (attrs_into p done)

-- what they bring to each part
pub record AreTotals (size : Input → ℕ) (link : LinkInput) (done : List Input) (totals : List PartTotal) : Type 0 where
  pub count : length totals ≡ length (all_parts link.plan.sections)
  pub each : (p : ℕ) (d : PartTotal) → p < length (all_parts link.plan.sections) → IsTotal size (part_at link.plan.sections p) p done (slice_index_or totals p d)

pub no_totals : (size : Input → ℕ) (link : LinkInput) (none : PartTotal) → none ≡ record { bytes = 0; has_image = false; attrs = 0 }
    → AreTotals size link [] (replicate (length (all_parts link.plan.sections)) none)
no_totals size link none is = record {
  count = length-replicate (length (all_parts link.plan.sections)) none;
  each = λ p d below. subst (λ (t : PartTotal). IsTotal size (part_at link.plan.sections p) p [] t)
      (sym (get_or-replicate (length (all_parts link.plan.sections)) p none d below ∙ is))
      (record { bytes = refl; image = refl; attrs = refl });
}

-- the bytes with one more section
abbrev pub bytes_with : (Input → ℕ) → PlanPart → Input → ℕ → ℕ
bytes_with size part x bytes = cond (is_merged x) bytes (min (bytes + capacity part (size x)) (2 ^ 128 - 1))

more_bytes : (size : Input → ℕ) (part : PlanPart) (p : ℕ) (done : List Input) (x : Input) (old : ℕ) (b : Bool) → is_merged x ≡ b → x.section.part ≡ p
    → min old (2 ^ 64) ≡ min (bytes_into size part p (unmerged done)) (2 ^ 64)
    → min (cond b old (min (old + capacity part (size x)) (2 ^ 128 - 1))) (2 ^ 64) ≡ min (bytes_into size part p (unmerged (done ++ x ∷ []))) (2 ^ 64)
more_bytes size part p done x old true merged here h = omega (arith, h, unmerged_more size part p done x true merged)
more_bytes size part p done x old false merged here h = omega (arith, h, unmerged_more size part p done x false merged, bytes_into_here size part p x here)

-- with one more section
one_more : (size : Input → ℕ) (part : PlanPart) (p : ℕ) (done : List Input) (x : Input) (old new : PartTotal) → x.section.part ≡ p → IsTotal size part p done old
    → new.bytes ≡ bytes_with size part x old.bytes → new.has_image ≡ (old.has_image || is_merged x) → new.attrs ≡ bit_or old.attrs x.section.attrs
    → IsTotal size part p (done ++ x ∷ []) new
one_more size part p done x old new here h bytes image attrs =
    let joined : into p (done ++ x ∷ []) ≡ into p done ++ x ∷ [] = into-append p done (x ∷ []) ∙ ap (λ zs. into p done ++ zs) (into_here p x [] here) in
    record {
      bytes = ap (λ n. min n (2 ^ 64)) bytes ∙ more_bytes size part p done x old.bytes (is_merged x) refl here h.bytes;
      image =
          image
          ∙ ap (λ b. b || is_merged x) h.image
          ∙ sym (ap (list_any is_merged) joined ∙ list_any-append is_merged (into p done) (x ∷ []) ∙ ap (λ b. merged_into p done || b) (or-false (is_merged x)));
      attrs =
          attrs
          ∙ ap (λ (a : ℕ). bit_or a x.section.attrs) h.attrs
          ∙ sym (ap (λ (zs : List Input). fold bit_or 0 (map (λ (y : Input). y.section.attrs) zs)) joined
          ∙ ap (fold bit_or 0) (map-append (λ (y : Input). y.section.attrs) (into p done) (x ∷ []))
          ∙ fold-append bit_or 0 (attrs_into p done) (x.section.attrs ∷ []));
    }

elsewhere_bytes : (size : Input → ℕ) (part : PlanPart) (p : ℕ) (done : List Input) (x : Input) (b : Bool) → is_merged x ≡ b → (x.section.part ≡ p → ⊥)
    → bytes_into size part p (unmerged (done ++ x ∷ [])) ≡ bytes_into size part p (unmerged done)
elsewhere_bytes size part p done x true merged other = omega (arith, unmerged_more size part p done x true merged)
elsewhere_bytes size part p done x false merged other = omega (arith, unmerged_more size part p done x false merged, bytes_into_other size part p x other)

-- a section that goes elsewhere changes nothing
one_elsewhere : (size : Input → ℕ) (part : PlanPart) (p : ℕ) (done : List Input) (x : Input) (total : PartTotal) → (x.section.part ≡ p → ⊥) → IsTotal size part p done total → IsTotal size part p (done ++ x ∷ []) total
one_elsewhere size part p done x total other h =
    let same : into p (done ++ x ∷ []) ≡ into p done = into-append p done (x ∷ []) ∙ ap (λ zs. into p done ++ zs) (into_other p x [] other) ∙ append-nil (into p done) in
    record {
      bytes = h.bytes ∙ ap (λ n. min n (2 ^ 64)) (sym (elsewhere_bytes size part p done x (is_merged x) refl other));
      image = h.image ∙ ap (list_any is_merged) (sym same);
      attrs = h.attrs ∙ ap (λ (zs : List Input). fold bit_or 0 (map (λ (y : Input). y.section.attrs) zs)) (sym same);
    }

pub add_one : (size : Input → ℕ) (link : LinkInput) (done : List Input) (x : Input) (totals : List PartTotal) (at : ℕ) (read d : PartTotal) (part : PlanPart) (new : PartTotal)
    → AreTotals size link done totals → at ≡ x.section.part → at < length (all_parts link.plan.sections) → read ≡ slice_index_or totals at d → part ≡ part_at link.plan.sections at
    → new.bytes ≡ bytes_with size part x read.bytes → new.has_image ≡ (read.has_image || is_merged x) → new.attrs ≡ bit_or read.attrs x.section.attrs
    → AreTotals size link (done ++ x ∷ []) (set totals at new)
add_one size link done x totals at read d part new h here within is of bytes image attrs = record {
  count = length-set totals at new ∙ h.count;
  each = λ p e below. elim (eqb_tells at p) [
    | inl hit ↦ subst (λ (q : ℕ). IsTotal size (part_at link.plan.sections q) q (done ++ x ∷ []) (slice_index_or (set totals at new) q e)) hit.1
        (subst (λ (t : PartTotal). IsTotal size (part_at link.plan.sections at) at (done ++ x ∷ []) t) (sym (get_or-set_same totals at new e (omega (arith, h.count))))
        (one_more size (part_at link.plan.sections at) at done x read new (sym here)
        (subst (λ (t : PartTotal). IsTotal size (part_at link.plan.sections at) at done t) (sym is) (h.each at d within))
        (bytes ∙ ap (λ (q : PlanPart). bytes_with size q x read.bytes) of) image attrs))
    | inr miss ↦
        let other : p ≡ at → ⊥ = λ same. miss.1 (sym same) in
        subst (λ (t : PartTotal). IsTotal size (part_at link.plan.sections p) p (done ++ x ∷ []) t) (sym (get_or-set_other totals at p new e other))
        (one_elsewhere size (part_at link.plan.sections p) p done x (slice_index_or totals p e) (λ goes. miss.1 (here ∙ goes)) (h.each p e below))
  ];
}

pub total_at : (size : Input → ℕ) (link : LinkInput) (done : List Input) (totals : List PartTotal) (p : ℕ) (total : PartTotal) → AreTotals size link done totals → slice_get totals p ≡ Some total
    → IsTotal size (part_at link.plan.sections p) p done total
total_at size link done totals p total h there =
    subst (λ (t : PartTotal). IsTotal size (part_at link.plan.sections p) p done t) (get_or_from_slice_get totals p total total there)
    (h.each p total (omega (arith, h.count, slice_get_within totals p total there)))
