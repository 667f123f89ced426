-- How an offset map holds its pieces, with one more and in look-ups.
use Rattle.std.proofs.Common.{◌≡◌, Result, Ok, Err, OnOk, ℕ, zero, suc, ◌+◌, ◌-◌, ◌*◌, ◌/◌, ◌%◌, ◌^◌, ◌<◌, ◌≤◌, Bool, true, false, cond, not, eqb, List, [], ◌∷◌, ◌++◌, length, Option, Some, refl, sym, ap, ◌∙◌, subst, arith, inl, inr, ⊎_elim, append-nil, length-append}
use Rattle.std.specs.List.{slice_get}
use Rattle.std.proofs.lemmas.Bool.{cases_lt, eq-eqb, ne_eqb, ltb-false, lt-ltb, le-ltb, not-true}
use Rattle.std.proofs.lemmas.List.{length-map, map-append}
use Rattle.std.proofs.lemmas.List.Elements.{filter-append}
use Rattle.std.proofs.lemmas.Option.{slice_get_within}
use Rattle.lk_link.proofs.Elements.{append_at, append_left, append_right, at_index, filter_in, map_in}
use Rattle.lk_merge.specs.declared.offset_map.OffsetMap.{OffsetMap}
use Rattle.lk_merge.specs.declared.offset_map.PieceEntry.{PieceEntry}
use Rattle.lk_merge.specs.declared.offset_map.Starts.{Starts}
use Rattle.lk_merge.specs.OffsetMapTables.{AreBefore, AreStarts, HoldsIn}
use Rattle.lk_merge.specs.OffsetMaps.{IsLast, NoneAt, StartsRise, chosen_behind, first_twelve, has_no_room, has_room, in_block, past_twelfth}
use Rattle.lk_merge.proofs.Chosen.{IsChosen, chosen_append, chosen_at, chosen_in, chosen_none, chosen_push, chosen_rise, either, few_kept, kept_count}

pub one_of : {X : Type 0} {o : Option X} {a b : X} → o ≡ Some a → o ≡ Some b → a ≡ b
one_of p q = cc

-- ---- no pieces

pub holds_none : (m : OffsetMap) → AreStarts [] m.kept → AreStarts [] m.rest → HoldsIn [] m
holds_none m kept rest = record {
  kept = subst (λ ps. AreStarts ps m.kept) (sym (chosen_none has_room [])) kept;
  rest = subst (λ ps. AreStarts ps m.rest) (sym (chosen_none has_no_room [])) rest;
}

-- ---- one more

pub places_count : (pieces : List PieceEntry) (s : Starts) → AreStarts pieces s → length s.places.items ≡ length pieces
places_count pieces s h = ap (λ (l : List ℕ). length l) h.places ∙ length-map pieces (λ (e : PieceEntry). e.place)

pub offsets_count : (pieces : List PieceEntry) (s : Starts) → AreStarts pieces s → length s.offsets.items ≡ length pieces
offsets_count pieces s h = ap (λ (l : List ℕ). length l) h.offsets ∙ length-map pieces (λ (e : PieceEntry). e.start % 256)

pub begun_more : (pieces : List PieceEntry) (s t : Starts) (n : ℕ) → AreStarts pieces s → n ≡ length pieces → t.blocks.items ≡ s.blocks.items ++ n ∷ []
    → t.offsets.items ≡ s.offsets.items → t.places.items ≡ s.places.items → AreStarts pieces t
begun_more pieces s t n h is blocks offsets places =
    let count : length t.blocks.items ≡ length s.blocks.items + 1 = ap (λ (l : List ℕ). length l) blocks ∙ length-append s.blocks.items (n ∷ []) in
    record {
      blocks = λ b k there. elim (append_at s.blocks.items (n ∷ []) b k (ap (λ l. slice_get l b) (sym blocks) ∙ there)) [
        | inl old ↦ h.blocks b k old
        | inr new ↦ last b k new.0 new.1 new.2
      ];
      begun = λ j e there. let d = h.begun j e there in (omega (arith, d.0, count), d.1);
      offsets = offsets ∙ h.offsets;
      places = places ∙ h.places;
    }
  where
    last : (b k j : ℕ) → b ≡ length s.blocks.items + j → slice_get (n ∷ []) j ≡ Some k → AreBefore pieces (b * 256) k
    last b k zero at there =
        let same : n ≡ k = cc in
        let here : b ≡ length s.blocks.items = omega (arith, at) in
        record {
          within = omega (arith, is, same);
          before = λ j e e_at _. let d = h.begun j e e_at in omega (arith, d.0, here);
          behind = λ j e e_at far. absurd (let w = slice_get_within pieces j e e_at in omega (arith, w, far, is, same));
        }
    last b k (suc j) at there = absurd (cc)

pub one_added : (pieces : List PieceEntry) (s t : Starts) (e : PieceEntry) → AreStarts pieces s → t.blocks.items ≡ s.blocks.items
    → t.offsets.items ≡ s.offsets.items ++ (e.start % 256) ∷ [] → t.places.items ≡ s.places.items ++ e.place ∷ []
    → e.start / 256 < length s.blocks.items → length s.blocks.items ≤ e.start / 256 + 1 → e.start < 2 ^ 64 → AreStarts (pieces ++ e ∷ []) t
one_added pieces s t e h blocks offsets places begun last fits =
    let count : length t.blocks.items ≡ length s.blocks.items = ap (λ (l : List ℕ). length l) blocks in
    let more = length-append pieces (e ∷ []) in
    record {
      blocks = λ b n there.
          let old : slice_get s.blocks.items b ≡ Some n = ap (λ l. slice_get l b) (sym blocks) ∙ there in
          let a = h.blocks b n old in
          let w = slice_get_within s.blocks.items b n old in
          let n_within = a.within in
          record {
            within = omega (arith, n_within, more);
            before = λ j d d_at below. elim (append_at pieces (e ∷ []) j d d_at) [
              | inl o ↦ a.before j d o below
              | inr o ↦ absurd (let far = o.1 in omega (arith, far, below, n_within))
            ];
            behind = λ j d d_at far. elim (append_at pieces (e ∷ []) j d d_at) [
              | inl o ↦ a.behind j d o far
              | inr o ↦ let same = only o.0 d o.2 in omega (arith, same, w, last)
            ];
          };
      begun = λ j d d_at. elim (append_at pieces (e ∷ []) j d d_at) [
        | inl o ↦ let r = h.begun j d o in (omega (arith, r.0, count), r.1)
        | inr o ↦ let same = only o.0 d o.2 in (omega (arith, same, count, begun), omega (arith, same, fits))
      ];
      offsets = offsets ∙ ap (λ l. l ++ (e.start % 256) ∷ []) h.offsets ∙ sym (map-append (λ (x : PieceEntry). x.start % 256) pieces (e ∷ []));
      places = places ∙ ap (λ l. l ++ e.place ∷ []) h.places ∙ sym (map-append (λ (x : PieceEntry). x.place) pieces (e ∷ []));
    }
  where
    only : (j : ℕ) (d : PieceEntry) → slice_get (e ∷ []) j ≡ Some d → e.start ≡ d.start
    only zero d there = let same : e ≡ d = cc in ap (λ (x : PieceEntry). x.start) same
    only (suc j) d there = absurd (cc)

-- a piece that isn't before a block's first, and is before the next block's, starts in the block
pub block_between : (pieces : List PieceEntry) (index b from end : ℕ) (e : PieceEntry) → AreBefore pieces (b * 256) from → AreBefore pieces ((b + 1) * 256) end
    → slice_get pieces index ≡ Some e → from ≤ index → index < end → b ≡ e.start / 256
block_between pieces index b from end e begins ends there low high =
    let above = begins.behind index e there low in
    let below = ends.before index e there high in
    omega (arith, above, below)

-- ---- how many of a block there are

tail_first : (e : PieceEntry) (es : List PieceEntry) (at n : ℕ) → AreBefore (e ∷ es) at (suc n) → AreBefore es at n
tail_first e es at n h = record {
  within = let w = h.within in omega (arith, w);
  before = λ j d there below. h.before (suc j) d there (omega (arith, below));
  behind = λ j d there far. h.behind (suc j) d there (omega (arith, far));
}

tail_none : (e : PieceEntry) (es : List PieceEntry) (at : ℕ) → AreBefore (e ∷ es) at 0 → AreBefore es at 0
tail_none e es at h = record {
  within = omega arith;
  before = λ j d there below. absurd (omega (arith, below));
  behind = λ j d there far. h.behind (suc j) d there (omega arith);
}

pub block_count : (b : ℕ) (es : List PieceEntry) (n m : ℕ) → AreBefore es (b * 256) n → AreBefore es ((b + 1) * 256) m → length (in_block b es) + n ≡ m
block_count b [] n m h k = let x = h.within in let y = k.within in omega (arith, x, y)
block_count b (e ∷ es) (suc n) (suc m) h k =
    let low = h.before 0 e refl (omega arith) in
    let rest = block_count b es n m (tail_first e es (b * 256) n h) (tail_first e es ((b + 1) * 256) m k) in
    let out = ap (λ (c : Bool). length (cond c (e ∷ in_block b es) (in_block b es))) (ne_eqb (e.start / 256) b (λ same. omega (arith, same, low))) in
    omega (arith, rest, out)
block_count b (e ∷ es) zero (suc m) h k =
    let low = h.behind 0 e refl (omega arith) in
    let high = k.before 0 e refl (omega arith) in
    let rest = block_count b es 0 m (tail_none e es (b * 256) h) (tail_first e es ((b + 1) * 256) m k) in
    let here = ap (λ (c : Bool). length (cond c (e ∷ in_block b es) (in_block b es))) (eq-eqb (e.start / 256) b (omega (arith, low, high))) in
    omega (arith, rest, here)
block_count b (e ∷ es) zero zero h k =
    let high = k.behind 0 e refl (omega arith) in
    let rest = block_count b es 0 0 (tail_none e es (b * 256) h) (tail_none e es ((b + 1) * 256) k) in
    let out = ap (λ (c : Bool). length (cond c (e ∷ in_block b es) (in_block b es))) (ne_eqb (e.start / 256) b (λ same. omega (arith, same, high))) in
    omega (arith, rest, out)
block_count b (e ∷ es) (suc n) zero h k =
    let low = h.before 0 e refl (omega arith) in
    let high = k.behind 0 e refl (omega arith) in
    absurd (omega (arith, low, high))

module _ (pieces : List PieceEntry) (m : OffsetMap) (h : HoldsIn pieces m) (e : PieceEntry) (from end : ℕ)
    (begins : AreBefore (first_twelve pieces) (e.start / 256 * 256) from) (ends : AreBefore (first_twelve pieces) ((e.start / 256 + 1) * 256) end) where
  kept : length (in_block (e.start / 256) (first_twelve pieces)) + from ≡ end
  kept = block_count (e.start / 256) (first_twelve pieces) from end begins ends

  pub added_kept : (t : Starts) → end - from < 12 → AreStarts (first_twelve pieces ++ e ∷ []) t → HoldsIn (pieces ++ e ∷ []) (record { kept = t; rest = m.rest })
  added_kept t few are =
      let count = kept_count (e.start / 256) pieces in
      let room : has_room pieces e ≡ true = lt-ltb (length (in_block (e.start / 256) pieces)) 12 (omega (arith, kept, count, few)) in
      record {
        kept = subst (λ ps. AreStarts ps t) (sym (chosen_push has_room [] pieces e ∙ ap (λ c. first_twelve pieces ++ cond c (e ∷ []) []) room)) are;
        rest = subst (λ ps. AreStarts ps m.rest) (sym (chosen_push has_no_room [] pieces e ∙ ap (λ c. past_twelfth pieces ++ cond (not c) (e ∷ []) []) room ∙ append-nil (past_twelfth pieces))) h.rest;
      }

  pub added_rest : (t : Starts) → 12 ≤ end - from → AreStarts (past_twelfth pieces ++ e ∷ []) t → HoldsIn (pieces ++ e ∷ []) (record { kept = m.kept; rest = t })
  added_rest t many are =
      let count = kept_count (e.start / 256) pieces in
      let room : has_room pieces e ≡ false = le-ltb (length (in_block (e.start / 256) pieces)) 12 (omega (arith, kept, count, many)) in
      record {
        kept = subst (λ ps. AreStarts ps m.kept) (sym (chosen_push has_room [] pieces e ∙ ap (λ c. first_twelve pieces ++ cond c (e ∷ []) []) room ∙ append-nil (first_twelve pieces))) h.kept;
        rest = subst (λ ps. AreStarts ps t) (sym (chosen_push has_no_room [] pieces e ∙ ap (λ c. past_twelfth pieces ++ cond (not c) (e ∷ []) []) room)) are;
      }

-- ---- look-ups

-- pieces below `low` start at the offset or before it, those from `high` on behind it, and those between in its block
pub record IsHalved (pieces : List PieceEntry) (offset low high : ℕ) : Type 0 where
  pub ordered : low ≤ high
  pub within : high ≤ length pieces
  pub before : (j : ℕ) (e : PieceEntry) → slice_get pieces j ≡ Some e → j < low → e.start ≤ offset
  pub behind : (j : ℕ) (e : PieceEntry) → slice_get pieces j ≡ Some e → high ≤ j → offset < e.start
  pub inside : (j : ℕ) (e : PieceEntry) → slice_get pieces j ≡ Some e → low ≤ j → j < high → e.start / 256 ≡ offset / 256

module _ (pieces : List PieceEntry) (offset : ℕ) where
  pub halved_first : (low high : ℕ) → AreBefore pieces (offset / 256 * 256) low → AreBefore pieces ((offset / 256 + 1) * 256) high → IsHalved pieces offset low high
  halved_first low high h k =
      let low_within = h.within in
      record {
        ordered = ⊎_elim
            (λ back. absurd (
            let e = at_index pieces high (omega (arith, back, low_within)) in
            let a = h.before high e.0 e.1 back in
            let b = k.behind high e.0 e.1 (omega arith) in
            omega (arith, a, b)))
            (λ fine. fine) (cases_lt high low);
        within = k.within;
        before = λ j e there below. let a = h.before j e there below in omega (arith, a);
        behind = λ j e there far. let b = k.behind j e there far in omega (arith, b);
        inside = λ j e there from to. let a = h.behind j e there from in let b = k.before j e there to in omega (arith, a, b);
      }

  module _ (low high middle : ℕ) (e : PieceEntry) (rise : StartsRise pieces) (h : IsHalved pieces offset low high) (from : low ≤ middle) (to : middle < high) (at : slice_get pieces middle ≡ Some e) where
    same_start : (j : ℕ) (d : PieceEntry) → slice_get pieces j ≡ Some d → j ≡ middle → d.start ≡ e.start
    same_start j d there is = ap (λ (x : PieceEntry). x.start) (one_of (ap (slice_get pieces) (sym is) ∙ there) at)

    pub halved_up : e.start % 256 ≤ offset % 256 → IsHalved pieces offset (middle + 1) high
    halved_up is =
        let block = h.inside middle e at from to in
        let fine : e.start ≤ offset = omega (arith, block, is) in
        record {
          ordered = omega (arith, to);
          within = h.within;
          before = λ j d there below. ⊎_elim
              (λ less. let r = rise j middle d e less there at in omega (arith, r, fine))
              (λ back. let s = same_start j d there (omega (arith, back, below)) in omega (arith, s, fine)) (cases_lt j middle);
          behind = h.behind;
          inside = λ j d there far. h.inside j d there (omega (arith, far, from));
        }

    pub halved_down : offset % 256 < e.start % 256 → IsHalved pieces offset low middle
    halved_down is =
        let block = h.inside middle e at from to in
        let far : offset < e.start = omega (arith, block, is) in
        record {
          ordered = from;
          within = let w = h.within in omega (arith, w, to);
          before = h.before;
          behind = λ j d there above. ⊎_elim
              (λ less. let r = rise middle j e d less at there in omega (arith, r, far))
              (λ back. let s = same_start j d there (omega (arith, back, above)) in omega (arith, s, far)) (cases_lt middle j);
          inside = λ j d there above below. h.inside j d there above (omega (arith, below, to));
        }

  pub halved_last : (low high : ℕ) → IsHalved pieces offset low high → high ≤ low → AreBefore pieces (offset + 1) low
  halved_last low high h done =
      let w = h.within in
      let o = h.ordered in
      record {
        within = omega (arith, w, o, done);
        before = λ j e there below. let a = h.before j e there below in omega (arith, a);
        behind = λ j e there far. let b = h.behind j e there (omega (arith, far, done)) in omega (arith, b);
      }

  pub none_before : (n : ℕ) → AreBefore pieces (offset + 1) n → n ≡ 0 → NoneAt pieces offset
  none_before n h none j e there = let b = h.behind j e there (omega (arith, none)) in omega (arith, b)

  pub last_before : (n k : ℕ) (e : PieceEntry) → StartsRise pieces → AreBefore pieces (offset + 1) n → n ≡ k + 1 → slice_get pieces k ≡ Some e → IsLast pieces offset e
  last_before n k e rise h is at = record {
    index = k;
    there = at;
    from = let b = h.before k e at (omega (arith, is)) in omega (arith, b);
    last = λ j d there from. ⊎_elim
        (λ less. let r = rise j k d e less there at in omega (arith, r))
        (λ far. ⊎_elim
        (λ more. absurd (let b = h.behind j d there (omega (arith, is, more)) in omega (arith, b, from)))
        (λ back. let s : d.start ≡ e.start = ap (λ (x : PieceEntry). x.start) (one_of (let n : k ≡ j = omega (arith, far, back) in ap (slice_get pieces) n ∙ there) at) in omega (arith, s)) (cases_lt k j)) (cases_lt j k);
  }

-- a piece that stands apart has twelve kept ones of its block before it
module _ (pieces : List PieceEntry) (rise : StartsRise pieces) (j : ℕ) (e : PieceEntry) (apart : slice_get (past_twelfth pieces) j ≡ Some e) where
  at : IsChosen has_no_room [] pieces e
  at = chosen_at has_no_room [] pieces j e apart

  abbrev kept_so_far : List PieceEntry
  kept_so_far = first_twelve at.front

  twelve : length (in_block (e.start / 256) kept_so_far) ≡ 12
  twelve =
      let many = ltb-false (length (in_block (e.start / 256) at.front)) 12 (not-true _ at.chosen) in
      let count = kept_count (e.start / 256) at.front in
      omega (arith, many, count)

  abbrev behind : List PieceEntry
  behind = chosen_behind has_room at.front (e ∷ at.back)

  whole : first_twelve pieces ≡ kept_so_far ++ behind
  whole = ap (λ ps. first_twelve ps) at.parts ∙ chosen_append has_room [] at.front (e ∷ at.back)

  stays : (k : ℕ) (d : PieceEntry) → slice_get kept_so_far k ≡ Some d → slice_get (first_twelve pieces) k ≡ Some d
  stays k d there = ap (λ l. slice_get l k) whole ∙ append_left kept_so_far behind k d there

  earlier : (k : ℕ) (d : PieceEntry) → slice_get kept_so_far k ≡ Some d → d.start < e.start
  earlier k d there =
      let i = chosen_in has_room [] at.front k d there in
      rise i.0 (length at.front) d e (slice_get_within at.front i.0 d i.1) (ap (λ l. slice_get l i.0) at.parts ∙ append_left at.front (e ∷ at.back) i.0 d i.1)
      (ap (λ l. slice_get l (length at.front)) at.parts ∙ append_right at.front (e ∷ at.back) 0 (length at.front) e (omega arith) refl)

  all_before : AreBefore kept_so_far ((e.start / 256 + 1) * 256) (length kept_so_far)
  all_before = record {
    within = omega arith;
    before = λ k d there _. let l = earlier k d there in omega (arith, l);
    behind = λ k d there far. absurd (let w = slice_get_within kept_so_far k d there in omega (arith, w, far));
  }

  -- and none of its block behind it
  pub behind_kept : (k : ℕ) (d : PieceEntry) → slice_get (first_twelve pieces) k ≡ Some d → d.start / 256 ≡ e.start / 256 → d.start < e.start
  behind_kept k d there same = elim (append_at kept_so_far behind k d (ap (λ l. slice_get l k) (sym whole) ∙ there)) [
    | inl a ↦ earlier k d a
    | inr a ↦ absurd (
        let i = filter_in (λ (x : PieceEntry). eqb (x.start / 256) (e.start / 256)) behind a.0 d a.2 (eq-eqb (d.start / 256) (e.start / 256) same) in
        let within = slice_get_within (in_block (e.start / 256) behind) i.0 d i.1 in
        let few = few_kept (e.start / 256) pieces in
        let parts = ap (λ ps. length (in_block (e.start / 256) ps)) whole
        ∙ ap (λ (l : List PieceEntry). length l) (filter-append (λ (x : PieceEntry). eqb (x.start / 256) (e.start / 256)) kept_so_far behind)
        ∙ length-append (in_block (e.start / 256) kept_so_far) (in_block (e.start / 256) behind) in
        omega (arith, within, few, parts, twelve))
  ]

  module _ (n m offset : ℕ) (begins : AreBefore (first_twelve pieces) (e.start / 256 * 256) n) (up_to : AreBefore (first_twelve pieces) (offset + 1) m) (from : e.start ≤ offset) where
    reached : length kept_so_far ≤ m
    reached = ⊎_elim
        (λ less. absurd (
        let d = at_index kept_so_far m less in
        let far = up_to.behind m d.0 (stays m d.0 d.1) (omega arith) in
        let near = earlier m d.0 d.1 in
        omega (arith, far, near, from)))
        (λ fine. fine) (cases_lt m (length kept_so_far))

    pub twelve_before : n + 12 ≤ m
    twelve_before = ⊎_elim
        (λ short. absurd (
        let none = block_count (e.start / 256) kept_so_far (length kept_so_far) (length kept_so_far) (record {
          within = omega arith;
          before = λ k d there below. begins.before k d (stays k d there) (omega (arith, short, below));
          behind = λ k d there far. absurd (let w = slice_get_within kept_so_far k d there in omega (arith, w, far));
        }) all_before in
        omega (arith, none, twelve)))
        (λ fine.
        let count = block_count (e.start / 256) kept_so_far n (length kept_so_far) (record {
          within = fine;
          before = λ k d there below. begins.before k d (stays k d there) below;
          behind = λ k d there far. begins.behind k d (stays k d there) far;
        }) all_before in
        omega (arith, count, twelve, reached)) (cases_lt (length kept_so_far) n)

-- the last kept piece is the last of all, or the last that stands apart is
module _ (pieces : List PieceEntry) (offset : ℕ) where
  from_kept : (e : PieceEntry) → IsLast (first_twelve pieces) offset e → ((j : ℕ) (d : PieceEntry) → slice_get (past_twelfth pieces) j ≡ Some d → d.start ≤ offset → d.start ≤ e.start) → IsLast pieces offset e
  from_kept e h rest =
      let at = chosen_in has_room [] pieces h.index e h.there in
      record {
        index = at.0;
        there = at.1;
        from = h.from;
        last = λ j d there from. elim (either [] pieces j d there) [
          | inl a ↦ h.last a.0 d a.1 from
          | inr a ↦ rest a.0 d a.1 from
        ];
      }

  from_rest : (e : PieceEntry) → IsLast (past_twelfth pieces) offset e → ((j : ℕ) (d : PieceEntry) → slice_get (first_twelve pieces) j ≡ Some d → d.start ≤ offset → d.start ≤ e.start) → IsLast pieces offset e
  from_rest e h kept =
      let at = chosen_in has_no_room [] pieces h.index e h.there in
      record {
        index = at.0;
        there = at.1;
        from = h.from;
        last = λ j d there from. elim (either [] pieces j d there) [
          | inl a ↦ kept a.0 d a.1 from
          | inr a ↦ h.last a.0 d a.1 from
        ];
      }

  module _ (rise : StartsRise pieces) (m : ℕ) (up_to : AreBefore (first_twelve pieces) (offset + 1) m) where
    -- where none is kept, none stands apart
    pub none_kept : m ≡ 0 → NoneAt pieces offset
    none_kept none j e there = elim (either [] pieces j e there) [
      | inl a ↦ none_before (first_twelve pieces) offset m up_to none a.0 e a.1
      | inr a ↦ ⊎_elim
          (λ far. far)
          (λ from. absurd (
          let twelve = twelve_before pieces rise a.0 e a.1 0 m offset (record {
            within = omega arith;
            before = λ k d _ below. absurd (omega (arith, below));
            behind = λ k d d_at _. let far = up_to.behind k d d_at (omega (arith, none)) in omega (arith, far, from);
          }) up_to from in
          omega (arith, twelve, none))) (cases_lt offset e.start)
    ]

    -- where the last kept one isn't the twelfth of its block, none that stands apart is later
    pub kept_last : (n : ℕ) (e : PieceEntry) → IsLast (first_twelve pieces) offset e → AreBefore (first_twelve pieces) (e.start / 256 * 256) n → m - n < 12 → IsLast pieces offset e
    kept_last n e h begins few = from_kept e h (λ j d there from. ⊎_elim (λ less. absurd (by j d there from less)) (λ fine. fine) (cases_lt e.start d.start))
      where
        by : (j : ℕ) (d : PieceEntry) → slice_get (past_twelfth pieces) j ≡ Some d → d.start ≤ offset → e.start < d.start → ⊥
        by j d there from less = ⊎_elim
            (λ other.
            let twelve = twelve_before pieces rise j d there m m offset (record {
              within = up_to.within;
              before = λ k x x_at below. let near = up_to.before k x x_at below in let l = h.last k x x_at (omega (arith, near)) in omega (arith, l, other);
              behind = λ k x x_at far. let a = up_to.behind k x x_at far in omega (arith, a, from);
            }) up_to from in
            omega (arith, twelve))
            (λ back.
            let same : e.start / 256 ≡ d.start / 256 = omega (arith, back, less) in
            let twelve = twelve_before pieces rise j d there n m offset (subst (λ b. AreBefore (first_twelve pieces) (b * 256) n) same begins) up_to from in
            omega (arith, twelve, few)) (cases_lt (e.start / 256) (d.start / 256))

  module _ (n r : ℕ) (d : PieceEntry) (h : IsLast (first_twelve pieces) offset d) (begins : AreBefore (past_twelfth pieces) (d.start / 256 * 256) n) (up_to : AreBefore (past_twelfth pieces) (offset + 1) r) where
    -- where none of the last kept one's block stands apart up to the offset, it is the last
    pub kept_alone : r ≤ n → IsLast pieces offset d
    kept_alone few = from_kept d h (λ j e there from. ⊎_elim
        (λ below. let b = begins.before j e there (omega (arith, below, few)) in omega (arith, b))
        (λ far. absurd (let b = up_to.behind j e there far in omega (arith, b, from))) (cases_lt j r))

    -- and else the last of these is
    pub apart_last : StartsRise pieces → (k : ℕ) (e : PieceEntry) → n ≤ k → r ≡ k + 1 → slice_get (past_twelfth pieces) k ≡ Some e → IsLast pieces offset e
    apart_last rise k e many is there =
        let last = last_before (past_twelfth pieces) offset r k e (chosen_rise has_no_room pieces rise) up_to is there in
        let from = begins.behind k e there many in
        from_rest e last (λ j x x_at near. let l = h.last j x x_at near in ⊎_elim
        (λ less. let b = behind_kept pieces rise k e there h.index d h.there (omega (arith, from, less)) in absurd (omega (arith, b, less)))
        (λ fine. omega (arith, l, fine)) (cases_lt e.start d.start))

-- ---- the block of a piece

-- a piece starts between two blocks
abbrev pub IsIn : List PieceEntry → ℕ → ℕ → ℕ → Type 0
IsIn pieces index low high = (e : PieceEntry) → slice_get pieces index ≡ Some e → (low * 256 ≤ e.start) × (e.start < high * 256)

pub in_first : (pieces : List PieceEntry) (s : Starts) (index : ℕ) → AreStarts pieces s → IsIn pieces index 0 (length s.blocks.items)
in_first pieces s index h e there = (omega arith, (h.begun index e there).0)

pub in_upper : (pieces : List PieceEntry) (s : Starts) (index low high middle n : ℕ) → AreStarts pieces s → IsIn pieces index low high → slice_get s.blocks.items middle ≡ Some n → n ≤ index
    → IsIn pieces index middle high
in_upper pieces s index low high middle n h i at is e there = ((h.blocks middle n at).behind index e there is, (i e there).1)

pub in_lower : (pieces : List PieceEntry) (s : Starts) (index low high middle n : ℕ) → AreStarts pieces s → IsIn pieces index low high → slice_get s.blocks.items middle ≡ Some n → index < n
    → IsIn pieces index low middle
in_lower pieces s index low high middle n h i at is e there = ((i e there).0, (h.blocks middle n at).before index e there is)

-- ---- reading

pub on_ok : {X E : Type 0} (r : Result X E) (P Q : Type 0) → (P → Q) → OnOk r P → OnOk r Q
on_ok (Ok x) P Q f h = f h
on_ok (Err e) P Q f h = h

-- the byte and the place of a piece
pub byte_at : (pieces : List PieceEntry) (s : Starts) → AreStarts pieces s → (k : ℕ) (e : PieceEntry) (n : ℕ) → slice_get pieces k ≡ Some e → slice_get s.offsets.items k ≡ Some n → n ≡ e.start % 256
byte_at pieces s h k e n there at = one_of at (ap (λ l. slice_get l k) h.offsets ∙ map_in (λ (x : PieceEntry). x.start % 256) pieces k e there)

pub place_at : (pieces : List PieceEntry) (s : Starts) → AreStarts pieces s → (k : ℕ) (e : PieceEntry) (n : ℕ) → slice_get pieces k ≡ Some e → slice_get s.places.items k ≡ Some n → n ≡ e.place
place_at pieces s h k e n there at = one_of at (ap (λ l. slice_get l k) h.places ∙ map_in (λ (x : PieceEntry). x.place) pieces k e there)

-- a piece, out of its block, its byte and its place
pub piece_is : (pieces : List PieceEntry) (k : ℕ) (e : PieceEntry) (block byte place : ℕ) → slice_get pieces k ≡ Some e → block ≡ e.start / 256 → byte ≡ e.start % 256 → place ≡ e.place
    → slice_get pieces k ≡ Some (record { start = block * 256 + byte; place = place })
piece_is pieces k e block byte place there b o p =
    let start : e.start ≡ block * 256 + byte = omega (arith, b, o) in
    there ∙ (λ i. Some (record { start = start i; place = sym p i }))
