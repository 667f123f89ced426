-- A list that is cut by ranges, from its start on.
use Rattle.std.proofs.Common.{◌≡◌, ◌<◌, ◌≤◌, ◌+◌, ◌-◌, ◌∙◌, ◌∷◌, ◌++◌, [], List, MutBor, ℕ, Bool, true, false, ap, arith, cond, drop, length, ltb, ltb-true, map, refl, subst, sym, take}
use Rattle.std.specs.List.{filter}
use Rattle.std.proofs.lemmas.List.{append-nil, append_assoc, drop-drop}
use Rattle.std.proofs.lemmas.Bool.{lt-ltb}
use Rattle.std.specs.declared.ops.Range.{Range}
use Rattle.lk_deltas.specs.Shards.{RangesRise, has_items, shard}

pub some_items : (r : Range ℕ) → r.start < r.end → has_items r ≡ true
some_items r h = lt-ltb r.start r.end h

pub no_items : (r : Range ℕ) → r.end ≤ r.start → has_items r ≡ false
no_items r h = by (ltb r.start r.end) refl
  where
    by : (b : Bool) → ltb r.start r.end ≡ b → ltb r.start r.end ≡ false
    by true e = absurd (omega (arith, h, ltb-true r.start r.end e))
    by false e = e

rises_to : (low high : ℕ) (left : List (Range ℕ)) → RangesRise low high (filter has_items left) → low ≤ high
rises_to low high [] h = h
rises_to low high (r ∷ left) h = by (has_items r) refl h (rises_to r.end high left) (rises_to low high left)
  where
    by : (b : Bool) → ltb r.start r.end ≡ b → RangesRise low high (cond b (r ∷ filter has_items left) (filter has_items left))
        → (RangesRise r.end high (filter has_items left) → r.end ≤ high) → (RangesRise low high (filter has_items left) → low ≤ high) → low ≤ high
    by true e g later same = omega (arith, later g.1, g.0, ltb-true r.start r.end e)
    by false e g later same = same g

-- what a part holds when it is cut
abbrev pub items_of : {T : Type 0} → ℕ × MutBor (List T) → ℕ × List T
items_of s = (s.0, s.1.now)

-- what is cut and what is left give what all ranges cut out
pub record Cut {T : Type 0} (items : List T) (all : List (Range ℕ)) (cursor : ℕ) (rest : List T) (done : List (ℕ × List T)) (left : List (Range ℕ)) : Type 0 where
  pub behind : rest ≡ drop cursor items
  pub rising : RangesRise cursor (length items) (filter has_items left)
  pub cuts : done ++ map (shard items) left ≡ map (shard items) all

-- a range without items
pub cut_none : {T : Type 0} (items : List T) (all : List (Range ℕ)) (cursor : ℕ) (rest : List T) (done next : List (ℕ × List T)) (r : Range ℕ) (left : List (Range ℕ))
    → Cut items all cursor rest done (r ∷ left) → has_items r ≡ false → next ≡ done ++ (0, []) ∷ [] → Cut items all cursor rest next left
cut_none {T} items all cursor rest done next r left c none more =
    record {
      behind = c.behind;
      rising = subst (λ b. RangesRise cursor (length items) (cond b (r ∷ filter has_items left) (filter has_items left))) none c.rising;
      cuts = ap (λ (ss : List (ℕ × List T)). ss ++ map (shard items) left) more
          ∙ append_assoc done ((0, []) ∷ []) (map (shard items) left)
          ∙ ap (λ b. done ++ cond b (r.start, take (r.end - r.start) (drop r.start items)) (0, []) ∷ map (shard items) left) (sym none)
          ∙ c.cuts;
    }

-- where the next range with items stands
pub stands : {T : Type 0} (items : List T) (all : List (Range ℕ)) (cursor : ℕ) (rest : List T) (done : List (ℕ × List T)) (r : Range ℕ) (left : List (Range ℕ))
    → Cut items all cursor rest done (r ∷ left) → has_items r ≡ true → (cursor ≤ r.start) × (r.end ≤ length items) × RangesRise r.end (length items) (filter has_items left)
stands items all cursor rest done r left c some =
    let rising = subst (λ b. RangesRise cursor (length items) (cond b (r ∷ filter has_items left) (filter has_items left))) some c.rising in
    (rising.0, rises_to r.end (length items) left rising.1, rising.1)

-- what is left from the start of a range on
from_start : {T : Type 0} (items : List T) (cursor start : ℕ) (rest : List T) → rest ≡ drop cursor items → cursor ≤ start → drop (start - cursor) rest ≡ drop start items
from_start items cursor start rest e less =
    let sum : cursor + (start - cursor) ≡ start = omega (arith, less) in
    ap (drop (start - cursor)) e ∙ drop-drop (start - cursor) cursor items ∙ ap (λ n. drop n items) sum

pub cut_here : {T : Type 0} (items : List T) (all : List (Range ℕ)) (cursor : ℕ) (rest part behind : List T) (done next : List (ℕ × List T)) (r : Range ℕ) (left : List (Range ℕ))
    → Cut items all cursor rest done (r ∷ left) → has_items r ≡ true
    → part ≡ take (r.end - r.start) (drop (r.start - cursor) rest) → behind ≡ drop (r.end - r.start) (drop (r.start - cursor) rest)
    → next ≡ done ++ (r.start, part) ∷ [] → Cut items all r.end behind next left
cut_here {T} items all cursor rest part behind done next r left c some first later more =
    let at = stands items all cursor rest done r left c some in
    let from = from_start items cursor r.start rest c.behind at.0 in
    let less : r.start < r.end = ltb-true r.start r.end some in
    record {
      behind = later ∙ ap (drop (r.end - r.start)) from ∙ from_start items r.start r.end (drop r.start items) refl (omega (arith, less));
      rising = at.2;
      cuts = ap (λ (ss : List (ℕ × List T)). ss ++ map (shard items) left) more
          ∙ append_assoc done ((r.start, part) ∷ []) (map (shard items) left)
          ∙ ap (λ (p : List T). done ++ (r.start, p) ∷ map (shard items) left) (first ∙ ap (take (r.end - r.start)) from)
          ∙ ap (λ b. done ++ cond b (r.start, take (r.end - r.start) (drop r.start items)) (0, []) ∷ map (shard items) left) (sym some)
          ∙ c.cuts;
    }

pub cut_end : {T : Type 0} (items : List T) (all : List (Range ℕ)) (cursor : ℕ) (rest : List T) (done : List (ℕ × List T))
    → Cut items all cursor rest done [] → done ≡ map (shard items) all
cut_end items all cursor rest done c = sym (append-nil done) ∙ c.cuts
