-- What takers bring to a part, one after the other.
use Rattle.std.proofs.Common.{◌≡◌, ℕ, ◌+◌, ◌<◌, ◌==◌, ◌^◌, true, false, cond, List, [], ◌∷◌, ◌++◌, length, map, filter, set, Some, None, refl, sym, ap, ◌∙◌, subst, arith, inl, inr}
use Rattle.std.specs.Iterator.{Yields, YieldsFirstBy}
use Rattle.std.specs.List.{flat_map, slice_get, slice_index}
use Rattle.std.proofs.lemmas.Bool.Decides.{eqb_tells}
use Rattle.std.proofs.lemmas.Iterator.Consumers.{YieldsList-end, YieldsList-from_first, YieldsList-so_far, YieldsList-turn}
use Rattle.std.proofs.lemmas.List.{length-set, get_or-set_same, get_or-set_other, map-append}
use Rattle.std.proofs.lemmas.List.Elements.{filter-append}
use Rattle.std.proofs.lemmas.List.Sums.{sum_by-append}
use Rattle.std.proofs.lemmas.Option.{slice_get-get_or}
use Rattle.lk_link.specs.declared.link.LinkInput.{LinkInput}
use Rattle.lk_link.specs.declared.plan.PlanPart.{PlanPart}
use Rattle.lk_link.specs.Inputs.{Input, NumberedFile}
use Rattle.lk_link.specs.Parts.{part_at}
use Rattle.lk_reach.proofs.LiveWalk.{split_at}
use Rattle.lk_sizes.specs.Owners.{Owner, SectionOwner, Taker, bytes_of, into, owner_bytes, owners_in}
use Rattle.lk_sizes.specs.Tables.{ArePassed, HaveSpace, bytes_in, next_behind, taker_by}

pub owners_in-append : (p : ℕ) (ts us : List Taker) → owners_in p (ts ++ us) ≡ owners_in p ts ++ owners_in p us
owners_in-append p ts us =
    ap (map (λ (t : Taker). t.owner)) (filter-append (λ (t : Taker). t.part == p) ts us)
    ∙ map-append (λ (t : Taker). t.owner) (filter (λ (t : Taker). t.part == p) ts) (filter (λ (t : Taker). t.part == p) us)

pub owners_in_here : (p : ℕ) (t : Taker) (ts : List Taker) → t.part ≡ p → owners_in p (t ∷ ts) ≡ t.owner ∷ owners_in p ts
owners_in_here p t ts h =
    let rest : List Taker = filter (λ (u : Taker). u.part == p) ts in
    elim (eqb_tells t.part p) [
      | inl hit ↦ ap (λ b. map (λ (u : Taker). u.owner) (cond b (t ∷ rest) rest)) hit.0
      | inr miss ↦ absurd (miss.1 h)
    ]

pub owners_in_other : (p : ℕ) (t : Taker) (ts : List Taker) → (t.part ≡ p → ⊥) → owners_in p (t ∷ ts) ≡ owners_in p ts
owners_in_other p t ts h =
    let rest : List Taker = filter (λ (u : Taker). u.part == p) ts in
    elim (eqb_tells t.part p) [
      | inl hit ↦ absurd (h hit.1)
      | inr miss ↦ ap (λ b. map (λ (u : Taker). u.owner) (cond b (t ∷ rest) rest)) miss.0
    ]

pub bytes_in-append : (link : LinkInput) (p : ℕ) (ts us : List Taker) → bytes_in link p (ts ++ us) ≡ bytes_in link p ts + bytes_in link p us
bytes_in-append link p ts us =
    let part : PlanPart = part_at link.plan.sections p in
    ap (bytes_of part) (owners_in-append p ts us) ∙ sum_by-append (owner_bytes part) (owners_in p ts) (owners_in p us)

pub bytes_in_here : (link : LinkInput) (p : ℕ) (t : Taker) → t.part ≡ p → bytes_in link p (t ∷ []) ≡ owner_bytes (part_at link.plan.sections p) t.owner
bytes_in_here link p t h = ap (bytes_of (part_at link.plan.sections p)) (owners_in_here p t [] h) ∙ omega arith

pub bytes_in_other : (link : LinkInput) (p : ℕ) (t : Taker) → (t.part ≡ p → ⊥) → bytes_in link p (t ∷ []) ≡ 0
bytes_in_other link p t h = ap (bytes_of (part_at link.plan.sections p)) (owners_in_other p t [] h)

-- ---- sections and commons apart

-- what is made of two lists, file by file, brings what each of both brings
pub bytes_in_both : (link : LinkInput) (p : ℕ) (f g : NumberedFile → List Taker) (files : List NumberedFile)
    → bytes_in link p (flat_map (λ x. f x ++ g x) files) ≡ bytes_in link p (flat_map f files) + bytes_in link p (flat_map g files)
bytes_in_both link p f g [] = refl
bytes_in_both link p f g (x ∷ files) =
    omega (
      arith,
      bytes_in-append link p (f x ++ g x) (flat_map (λ y. f y ++ g y) files),
      bytes_in-append link p (f x) (g x),
      bytes_in_both link p f g files,
      bytes_in-append link p (f x) (flat_map f files),
      bytes_in-append link p (g x) (flat_map g files),
    )

pub mapped_flat : {X Y Z : Type 0} (g : Y → Z) (f : X → List Y) (xs : List X) → flat_map (λ x. map g (f x)) xs ≡ map g (flat_map f xs)
mapped_flat g f [] = refl
mapped_flat g f (x ∷ xs) = ap (λ (zs : List _). map g (f x) ++ zs) (mapped_flat g f xs) ∙ sym (map-append g (f x) (flat_map f xs))

-- ---- the next addresses of parts

pub none_passed : (link : LinkInput) (next : List ℕ) → ArePassed link next [] next
none_passed link next = record { count = refl; moved = λ p h. omega arith }

-- one more taker
pub one_passed : (link : LinkInput) (old : List ℕ) (done : List Taker) (t : Taker) (next : List ℕ) (at moved : ℕ)
    → ArePassed link old done next → at ≡ t.part → at < length old → moved ≡ slice_index next at + owner_bytes (part_at link.plan.sections at) t.owner
    → ArePassed link old (done ++ t ∷ []) (set next at moved)
one_passed link old done t next at moved h here within is = record {
  count = length-set next at moved ∙ h.count;
  moved = λ p below. elim (eqb_tells at p) [
    | inl hit ↦ subst (λ (q : ℕ). slice_index (set next at moved) q ≡ next_behind link old (done ++ t ∷ []) q) hit.1
        (omega (
          arith,
          get_or-set_same next at moved 0 (omega (arith, h.count)),
          is,
          h.moved at within,
          bytes_in-append link at done (t ∷ []),
          bytes_in_here link at t (sym here),
        ))
    | inr miss ↦
        let other : p ≡ at → ⊥ = λ same. miss.1 (sym same) in
        omega (
          arith,
          get_or-set_other next at p moved 0 other,
          h.moved p below,
          bytes_in-append link p done (t ∷ []),
          bytes_in_other link p t (λ goes. miss.1 (here ∙ goes)),
        )
  ];
}

-- there is room for it
pub room_for : (link : LinkInput) (old : List ℕ) (done : List Taker) (t : Taker) (rest : List Taker) (next : List ℕ) (at : ℕ)
    → HaveSpace link old (done ++ t ∷ rest) → ArePassed link old done next → at ≡ t.part → at < length old
    → slice_index next at + owner_bytes (part_at link.plan.sections at) t.owner < 2 ^ 64
room_for link old done t rest next at space h here within =
    omega (
      arith,
      h.moved at within,
      space at within,
      bytes_in-append link at done (t ∷ rest),
      bytes_in-append link at (t ∷ []) rest,
      bytes_in_here link at t (sym here),
    )

-- some and others behind them
pub passed_both : (link : LinkInput) (a b c : List ℕ) (ts us : List Taker) → ArePassed link a ts b → ArePassed link b us c → ArePassed link a (ts ++ us) c
passed_both link a b c ts us h i = record {
  count = i.count ∙ h.count;
  moved = λ p below. omega (arith, h.moved p below, i.moved p (omega (arith, h.count)), bytes_in-append link p ts us);
}

-- ---- a walk over what is listed

-- what comes next stands behind what was told so far
pub turn_of : {X Y : Type 0} (f : X → Y) (all s t u : List Y) (done : List X) (x : X) → s ≡ all → Yields (YieldsFirstBy {S = List Y} f (λ left. left)) s done t
    → YieldsFirstBy {S = List Y} f (λ left. left) t (Some x) u → (rest : List Y) × (all ≡ map f done ++ f x ∷ rest)
turn_of {X} {Y} f all s t u done x begins yielded next =
    let walk = YieldsList-from_first f (λ (left : List Y). left) {s = s} all begins in
    let front = YieldsList-so_far walk done t yielded in
    let here = YieldsList-turn walk done t yielded (Some x) u x refl next in
    let there : slice_get all (length done) ≡ Some (f x) = slice_get-get_or all (length done) (f x) here.0 ∙ ap Some (sym here.1) in
    let split = split_at all (length done) (f x) there in (
      split.0,
      split.1 ∙ ap (λ (zs : List Y). zs ++ f x ∷ split.0) (sym front),
    )

pub finish_of : {X Y : Type 0} (f : X → Y) (all s t u : List Y) (done : List X) → s ≡ all → Yields (YieldsFirstBy {S = List Y} f (λ left. left)) s done t
    → YieldsFirstBy {S = List Y} f (λ left. left) t None u → map f done ≡ all
finish_of {X} {Y} f all s t u done begins yielded next =
    let walk = YieldsList-from_first f (λ (left : List Y). left) {s = s} all begins in
    (YieldsList-end walk done t yielded None u refl next).0

-- ---- sections as takers

-- a section with its size
abbrev pub sized_owner : (Input → ℕ) → Input → Owner
sized_owner size x = SectionOwner x (size x)

pub owners_in_sections : (size : Input → ℕ) (p : ℕ) (xs : List Input) → owners_in p (map (taker_by size) xs) ≡ map (sized_owner size) (into p xs)
owners_in_sections size p [] = refl
owners_in_sections size p (x ∷ xs) =
    let rest : List Taker = filter (λ (u : Taker). u.part == p) (map (taker_by size) xs) in
    elim (x.section.part == p) as (λ b. map (λ (u : Taker). u.owner) (cond b (taker_by size x ∷ rest) rest) ≡ map (sized_owner size) (cond b (x ∷ into p xs) (into p xs))) [
      | true ↦ ap (λ (os : List Owner). sized_owner size x ∷ os) (owners_in_sections size p xs)
      | false ↦ owners_in_sections size p xs
    ]
