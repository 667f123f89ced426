-- Candidates and deleted ranges, walked side by side.
use Rattle.std.proofs.Common.{◌≡◌, ◌==◌, ◌+◌, ◌-◌, ◌^◌, ◌∙◌, ◌∷◌, ◌++◌, ◌&&◌, [], List, ℕ, Bool, true, false, not, Option, Some, None, ap, arith, cond, drop, eq-eqb, map, ne_eqb, refl, subst, sym, zero, suc}
use Rattle.std.specs.List.{cons_option, filter, filter_map, slice_get}
use Rattle.std.specs.Option.{option_map_or}
use Rattle.std.proofs.lemmas.List.{append-nil, append_assoc}
use Rattle.lk_link.specs.declared.relocation.RelaxCandidate.{RelaxCandidate}
use Rattle.lk_deltas.specs.declared.candidates.Outcome.{Outcome}
use Rattle.lk_deltas.specs.declared.candidates.Scan.{Scan}
use Rattle.lk_deltas.specs.declared.deltas.Delta.{Delta}
use Rattle.lk_deltas.specs.Candidates.{goes, is_gone, least, lesser, margin, picked, range_of, short_by}
use Rattle.lk_deltas.specs.Deletions.{RiseWithin}
use Rattle.lk_deltas.specs.DeltaWords.{ranges_of}
use Rattle.lk_deltas.proofs.CandidateLemmas.{kept_rise}

-- what the code asks of a candidate: whether the next deleted range is its own
abbrev pub is_next : List Delta → ℕ → RelaxCandidate → Bool
is_next ds p c = option_map_or (λ d. d.range.0 == c.at) (slice_get ds p) false

heads : (x y : ℕ × ℕ) (xs ys : List (ℕ × ℕ)) → x ∷ xs ≡ y ∷ ys → x.0 ≡ y.0
heads x y xs ys e = ap (λ (rs : List (ℕ × ℕ)). start rs) e
  where
    start : List (ℕ × ℕ) → ℕ
    start [] = 0
    start (r ∷ rs) = r.0

-- the next deleted range is a candidate's own where the candidate is one of those that are gone
pub next_is : (g : RelaxCandidate → Bool) (low high : ℕ) (ds : List Delta) (p : ℕ) (c : RelaxCandidate) (cs : List RelaxCandidate) → RiseWithin low high (map range_of (c ∷ cs))
    → drop p (ranges_of ds) ≡ map range_of (filter g (c ∷ cs)) → is_next ds p c ≡ g c
next_is g low high [] zero c cs h left = by (g c) left
  where
    by : (b : Bool) → [] ≡ map range_of (cond b (c ∷ filter g cs) (filter g cs)) → false ≡ b
    by true e = absurd (cc)
    by false e = refl
next_is g low high [] (suc p) c cs h left = by (g c) left
  where
    by : (b : Bool) → [] ≡ map range_of (cond b (c ∷ filter g cs) (filter g cs)) → false ≡ b
    by true e = absurd (cc)
    by false e = refl
next_is g low high (d ∷ ds) zero c cs h left = by (g c) left
  where
    by : (b : Bool) → d.range ∷ ranges_of ds ≡ map range_of (cond b (c ∷ filter g cs) (filter g cs)) → (d.range.0 == c.at) ≡ b
    by true e = eq-eqb d.range.0 c.at (heads d.range (range_of c) (ranges_of ds) (map range_of (filter g cs)) e)
    by false e =
        let rest : RiseWithin (c.at + c.del) high (d.range ∷ ranges_of ds) = subst (RiseWithin (c.at + c.del) high) (sym e) (kept_rise g (c.at + c.del) high cs h.2) in
        ne_eqb d.range.0 c.at (λ same. absurd (omega (arith, same, rest.0, h.1)))
next_is g low high (d ∷ ds) (suc p) c cs h left = next_is g low high ds p c cs h left

-- behind the first of what is left
pub drop_first : (rs : List (ℕ × ℕ)) (p : ℕ) (x : ℕ × ℕ) (xs : List (ℕ × ℕ)) → drop p rs ≡ x ∷ xs → drop (suc p) rs ≡ xs
drop_first [] zero x xs e = absurd (cc)
drop_first [] (suc p) x xs e = absurd (cc)
drop_first (r ∷ rs) zero x xs e = cc
drop_first (r ∷ rs) (suc p) x xs e = drop_first rs p x xs e

lesser-assoc : (a b c : Option ℕ) → lesser (lesser a b) c ≡ lesser a (lesser b c)
lesser-assoc None b c = refl
lesser-assoc (Some a) None c = refl
lesser-assoc (Some a) (Some b) None = refl
lesser-assoc (Some a) (Some b) (Some c) = ap (λ (n : ℕ). Some n) (omega arith)

lesser-none : (a : Option ℕ) → lesser a None ≡ a
lesser-none None = refl
lesser-none (Some a) = refl

-- what is done and what is left give what all candidates give
pub record Walk (told : RelaxCandidate → Outcome) (ds : List Delta) (all : List RelaxCandidate) (p : ℕ) (done : List (ℕ × ℕ)) (m : Option ℕ) (left : List RelaxCandidate) : Type 0 where
  pub rising : (low : ℕ) × RiseWithin low (2 ^ 64 - 1) (map range_of left)
  pub gone : drop p (ranges_of ds) ≡ map range_of (filter (is_gone (ranges_of ds)) left)
  pub picks : done ++ picked told (ranges_of ds) left ≡ picked told (ranges_of ds) all
  pub short : lesser m (margin told (ranges_of ds) left) ≡ margin told (ranges_of ds) all

pub walk_gone : (told : RelaxCandidate → Outcome) (ds : List Delta) (all : List RelaxCandidate) (p : ℕ) (done : List (ℕ × ℕ)) (m : Option ℕ) (c : RelaxCandidate) (cs : List RelaxCandidate)
    → Walk told ds all p done m (c ∷ cs) → is_next ds p c ≡ true → Walk told ds all (p + 1) done m cs
walk_gone told ds all p done m c cs w at =
    let g = is_gone (ranges_of ds) in
    let here : g c ≡ true = sym (next_is g w.rising.0 (2 ^ 64 - 1) ds p c cs w.rising.1 w.gone) ∙ at in
    let next : p + 1 ≡ suc p = omega arith in
    record {
      rising = (c.at + c.del, w.rising.1.2);
      gone = ap (λ k. drop k (ranges_of ds)) next ∙ drop_first (ranges_of ds) p (range_of c) (map range_of (filter g cs)) (w.gone ∙ ap (λ b. map range_of (cond b (c ∷ filter g cs) (filter g cs))) here);
      picks = ap (λ b. done ++ map range_of (cond (not b && goes (told c)) (c ∷ filter (λ x. not (g x) && goes (told x)) cs) (filter (λ x. not (g x) && goes (told x)) cs))) (sym here) ∙ w.picks;
      short = ap (λ b. lesser m (least (filter_map (λ x. short_by (told x)) (cond (not b) (c ∷ filter (λ x. not (g x)) cs) (filter (λ x. not (g x)) cs))))) (sym here) ∙ w.short;
    }

pub walk_there : (told : RelaxCandidate → Outcome) (ds : List Delta) (all : List RelaxCandidate) (p : ℕ) (done : List (ℕ × ℕ)) (m : Option ℕ) (c : RelaxCandidate) (cs : List RelaxCandidate)
    → Walk told ds all p done m (c ∷ cs) → is_next ds p c ≡ false
    → Walk told ds all p (done ++ cond (goes (told c)) (range_of c ∷ []) []) (lesser m (short_by (told c))) cs
walk_there told ds all p done m c cs w at =
    let g = is_gone (ranges_of ds) in
    let here : g c ≡ false = sym (next_is g w.rising.0 (2 ^ 64 - 1) ds p c cs w.rising.1 w.gone) ∙ at in
    record {
      rising = (c.at + c.del, w.rising.1.2);
      gone = w.gone ∙ ap (λ b. map range_of (cond b (c ∷ filter g cs) (filter g cs))) here;
      picks = pick (goes (told c))
          ∙ ap (λ b. done ++ map range_of (cond (not b && goes (told c)) (c ∷ filter (λ x. not (g x) && goes (told x)) cs) (filter (λ x. not (g x) && goes (told x)) cs))) (sym here) ∙ w.picks;
      short = lesser-assoc m (short_by (told c)) (margin told (ranges_of ds) cs) ∙ ap (lesser m) (shorten (short_by (told c)) (filter_map (λ x. short_by (told x)) (filter (λ x. not (g x)) cs)))
          ∙ ap (λ b. lesser m (least (filter_map (λ x. short_by (told x)) (cond (not b) (c ∷ filter (λ x. not (g x)) cs) (filter (λ x. not (g x)) cs))))) (sym here) ∙ w.short;
    }
  where
    later : List RelaxCandidate
    later = filter (λ x. not (is_gone (ranges_of ds) x) && goes (told x)) cs

    pick : (b : Bool) → (done ++ cond b (range_of c ∷ []) []) ++ map range_of later ≡ done ++ map range_of (cond b (c ∷ later) later)
    pick true = append_assoc done (range_of c ∷ []) (map range_of later)
    pick false = append_assoc done [] (map range_of later)

    shorten : (o : Option ℕ) (ns : List ℕ) → lesser o (least ns) ≡ least (cons_option o ns)
    shorten None ns = refl
    shorten (Some n) ns = refl

pub walk_end : (told : RelaxCandidate → Outcome) (ds : List Delta) (all : List RelaxCandidate) (p : ℕ) (done : List (ℕ × ℕ)) (m : Option ℕ)
    → Walk told ds all p done m [] → (done ≡ picked told (ranges_of ds) all) × (m ≡ margin told (ranges_of ds) all)
walk_end told ds all p done m w = (sym (append-nil done) ∙ w.picks, sym (lesser-none m) ∙ w.short)

pub walk_begin : (told : RelaxCandidate → Outcome) (ds : List Delta) (all : List RelaxCandidate) (done : List (ℕ × ℕ))
    → done ≡ [] → RiseWithin 0 (2 ^ 64 - 1) (map range_of all) → ranges_of ds ≡ map range_of (filter (is_gone (ranges_of ds)) all) → Walk told ds all 0 done None all
walk_begin told ds all done none rising some = record {
  rising = (0, rising);
  gone = some;
  picks = ap (λ (rs : List (ℕ × ℕ)). rs ++ picked told (ranges_of ds) all) none;
  short = refl;
}

-- a walk, with what it is told otherwise
pub walk_moved : (told : RelaxCandidate → Outcome) (ds : List Delta) (all : List RelaxCandidate) (p q : ℕ) (done most : List (ℕ × ℕ)) (m n : Option ℕ) (left : List RelaxCandidate)
    → Walk told ds all p done m left → q ≡ p → most ≡ done → n ≡ m → Walk told ds all q most n left
walk_moved told ds all p q done most m n left w at same less = record {
  rising = w.rising;
  gone = ap (λ k. drop k (ranges_of ds)) at ∙ w.gone;
  picks = ap (λ (rs : List (ℕ × ℕ)). rs ++ picked told (ranges_of ds) left) same ∙ w.picks;
  short = ap (λ (o : Option ℕ). lesser o (margin told (ranges_of ds) left)) less ∙ w.short;
}

-- a turn that looks at a candidate, by what the code is told
pub walk_told : (told : RelaxCandidate → Outcome) (ds : List Delta) (all : List RelaxCandidate) (p q : ℕ) (done most : List (ℕ × ℕ)) (m n : Option ℕ) (c : RelaxCandidate) (cs : List RelaxCandidate)
    (b : Bool) (o : Outcome) (scan : Scan) → Walk told ds all p done m (c ∷ cs) → b ≡ is_next ds p c → b ≡ false → o ≡ told c
    → q ≡ p → scan.ranges.items ≡ done ++ cond (goes o) (range_of c ∷ []) [] → scan.margin ≡ lesser m (short_by o) → most ≡ scan.ranges.items → n ≡ scan.margin
    → Walk told ds all q most n cs
walk_told told ds all p q done most m n c cs b o scan w next at outcome same ranges short most_is n_is =
    walk_moved told ds all p q (done ++ cond (goes (told c)) (range_of c ∷ []) []) most (lesser m (short_by (told c))) n cs
    (walk_there told ds all p done m c cs w (sym next ∙ at))
    same
    (most_is ∙ ranges ∙ ap (λ x. done ++ cond (goes x) (range_of c ∷ []) []) outcome)
    (n_is ∙ short ∙ ap (λ x. lesser m (short_by x)) outcome)
