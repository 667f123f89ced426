-- Where an offset behind the start of an input is found.
use Rattle.std.proofs.Common.{◌≡◌, ◌≢◌, ℕ, zero, suc, ◌+◌, ◌-◌, ◌%◌, ◌^◌, ◌≤◌, ◌<◌, Bool, true, false, cond, eqb, List, [], ◌∷◌, length, map, take, Option, None, Some, option_map, refl, sym, ap, ◌∙◌, arith, inl, inr, ◌⊎◌, ⊎_elim, option_and_then}
use Rattle.std.specs.List.{concat, list_all, slice_get}
use Rattle.std.proofs.Math.Nat.{mod-lt}
use Rattle.std.proofs.lemmas.Bool.{eqb-true, eqb-false, cases_lt}
use Rattle.std.proofs.lemmas.List.Sums.{sum_by-cons}
use Rattle.lk_link.specs.Files.{first_some}
use Rattle.lk_link.proofs.Elements.{map_at, map_in}
use Rattle.lk_merge.specs.declared.offset_map.PieceEntry.{PieceEntry}
use Rattle.lk_merge.specs.Hash.{fnv64}
use Rattle.lk_merge.specs.Image.{all_pieces, bucket_list, is_among}
use Rattle.lk_merge.specs.Inputs.{Located, located, padded_len, padded_total}
use Rattle.lk_merge.specs.Merging.{found_place, last_from, place_at, place_of}
use Rattle.lk_merge.specs.MergingTables.{entry_of}
use Rattle.lk_merge.specs.OffsetMaps.{IsLast, NoneAt, StartsRise}
use Rattle.lk_merge.specs.Pieces.{Piece, MergeInput, is_terminated, pieces_of}
use Rattle.lk_merge.proofs.AmongLemmas.{place_within}
use Rattle.lk_merge.proofs.GoodPieces.{good_pieces, piece_at_some, piece_at_past, concat_pieces, terminated_at}
use Rattle.lk_merge.proofs.Growing.{among_bucket_list, among_pieces}
use Rattle.lk_merge.proofs.InputLemmas.{pieces_located_from}
use Rattle.lk_merge.proofs.LaidOut.{data_fits}
use Rattle.lk_merge.proofs.LocatedLemmas.{between_from, covers_all, rise_from, slice_within}
use Rattle.lk_merge.proofs.TooLong.{none_first, some_first}

-- ---- the last input that starts at an offset

last_step : (at : ℕ) (x : MergeInput) (xs : List MergeInput) (start : ℕ)
    → last_from at (x ∷ xs) start ≡ first_some (last_from (at + padded_len x) xs start) (cond (eqb at start) (Some x) None)
unfolding last_from
last_step at x xs start = refl

last_none : (at start : ℕ) → last_from at [] start ≡ None
unfolding last_from
last_none at start = refl

-- where each input starts, behind a first start
abbrev start_at : ℕ → List MergeInput → ℕ → ℕ
start_at at xs k = at + padded_total (take k xs)

start_cons : (at : ℕ) (x : MergeInput) (xs : List MergeInput) (k : ℕ) → start_at at (x ∷ xs) (suc k) ≡ start_at (at + padded_len x) xs k
start_cons at x xs k = let more = sum_by-cons padded_len x (take k xs) in omega (arith, more)

-- none is found: none starts there
pub record NoneFound (at : ℕ) (xs : List MergeInput) (start : ℕ) : Type 0 where
  pub none : last_from at xs start ≡ None
  pub apart : (j : ℕ) (y : MergeInput) → slice_get xs j ≡ Some y → start_at at xs j ≢ start

-- one is found: it starts there, and no later one does
pub record OneFound (at : ℕ) (xs : List MergeInput) (start : ℕ) : Type 0 where
  pub input : MergeInput
  pub index : ℕ
  pub found : last_from at xs start ≡ Some input
  pub there : slice_get xs index ≡ Some input
  pub starts : start_at at xs index ≡ start
  pub apart : (j : ℕ) (y : MergeInput) → index < j → slice_get xs j ≡ Some y → start_at at xs j ≢ start

pub last_found : (at : ℕ) (xs : List MergeInput) (start : ℕ) → NoneFound at xs start ⊎ OneFound at xs start
last_found at [] start = inl (record { none = last_none at start; apart = λ j y h. absurd (cc) })
last_found at (x ∷ xs) start = by (last_found (at + padded_len x) xs start) (eqb at start) refl
  where
    here : (start_at at (x ∷ xs) 0) ≡ at
    here = omega arith

    by : NoneFound (at + padded_len x) xs start ⊎ OneFound (at + padded_len x) xs start → (t : Bool) → eqb at start ≡ t → NoneFound at (x ∷ xs) start ⊎ OneFound at (x ∷ xs) start
    by (inl n) true e = inr (record {
      input = x;
      index = 0;
      found = last_step at x xs start ∙ ap (λ o. first_some o (cond (eqb at start) (Some x) None)) n.none ∙ none_first _ ∙ ap (λ b. cond b (Some x) None) e;
      there = refl;
      starts = here ∙ eqb-true at start e;
      apart = λ j y far there. after j y far there n.apart;
    })
      where
        after : (j : ℕ) (y : MergeInput) → 0 < j → slice_get (x ∷ xs) j ≡ Some y → ((i : ℕ) (z : MergeInput) → slice_get xs i ≡ Some z → start_at (at + padded_len x) xs i ≢ start)
            → start_at at (x ∷ xs) j ≢ start
        after zero y far there apart = absurd (omega (arith, far))
        after (suc j) y far there apart = λ same. apart j y there (sym (start_cons at x xs j) ∙ same)
    by (inl n) false e = inl (record {
      none = last_step at x xs start ∙ ap (λ o. first_some o (cond (eqb at start) (Some x) None)) n.none ∙ none_first _ ∙ ap (λ b. cond b (Some x) None) e;
      apart = λ j y there. after j y there n.apart (eqb-false at start e);
    })
      where
        after : (j : ℕ) (y : MergeInput) → slice_get (x ∷ xs) j ≡ Some y → ((i : ℕ) (z : MergeInput) → slice_get xs i ≡ Some z → start_at (at + padded_len x) xs i ≢ start)
            → at ≢ start → start_at at (x ∷ xs) j ≢ start
        after zero y there apart differ = λ same. differ (sym here ∙ same)
        after (suc j) y there apart differ = λ same. apart j y there (sym (start_cons at x xs j) ∙ same)
    by (inr o) t e = inr (record {
      input = o.input;
      index = suc o.index;
      found = last_step at x xs start ∙ ap (λ q. first_some q (cond (eqb at start) (Some x) None)) o.found ∙ some_first o.input _;
      there = o.there;
      starts = start_cons at x xs o.index ∙ o.starts;
      apart = λ j y far there. after j y o.index far there o.apart;
    })
      where
        after : (j : ℕ) (y : MergeInput) → (n : ℕ) → suc n < j → slice_get (x ∷ xs) j ≡ Some y
            → ((i : ℕ) (z : MergeInput) → n < i → slice_get xs i ≡ Some z → start_at (at + padded_len x) xs i ≢ start) → start_at at (x ∷ xs) j ≢ start
        after zero y n far there apart = absurd (omega (arith, far))
        after (suc j) y n far there apart = λ same. apart j y (omega (arith, far)) there (sym (start_cons at x xs j) ∙ same)

-- a later input starts behind an earlier one's data
pub starts_behind : (xs : List MergeInput) (j k : ℕ) (y : MergeInput) → j < k → k ≤ length xs → slice_get xs j ≡ Some y → padded_total (take j xs) + padded_len y ≤ padded_total (take k xs)
starts_behind [] j k y below within there = absurd (omega arith)
starts_behind (x ∷ xs) j zero y below within there = absurd (omega (arith, below))
starts_behind (x ∷ xs) zero (suc k) y below within there =
    let more = sum_by-cons padded_len x (take k xs) in
    let same : x ≡ y = cc in
    let len : padded_len x ≡ padded_len y = ap padded_len same in
    omega (arith, more, len)
starts_behind (x ∷ xs) (suc j) (suc k) y below within there =
    let fewer = sum_by-cons padded_len x (take j xs) in
    let more = sum_by-cons padded_len x (take k xs) in
    let rest = starts_behind xs j k y (omega (arith, below)) (omega (arith, within)) there in
    omega (arith, fewer, more, rest)

-- ---- entries

module _ (xs : List MergeInput) (terminated : list_all is_terminated xs ≡ true)
    (small : (b : ℕ) → b < 16 → length (concat (bucket_list fnv64 (all_pieces xs) b)) ≤ 2 ^ 28) where
  -- the entry of a located piece
  abbrev made : Located → PieceEntry
  made l = entry_of (all_pieces xs) l

  pub entries_rise : StartsRise (map (entry_of (all_pieces xs)) (located xs))
  entries_rise i j d e below d_at e_at =
      let from = map_at made (located xs) i d d_at in
      let to = map_at made (located xs) j e e_at in
      let good = good_pieces xs terminated in
      let rise = rise_from 0 0 xs good i j from.0 to.0 below from.1 to.1 in
      let some = (between_from 0 0 xs i from.0 good from.1).some in
      let left : from.0.start ≡ d.start = ap (λ (x : PieceEntry). x.start) from.2 in
      let right : to.0.start ≡ e.start = ap (λ (x : PieceEntry). x.start) to.2 in
      omega (arith, rise, some, left, right)

  module _ (start offset : ℕ) where
    -- an entry tells the place
    pub record IsFound : Type 0 where
      pub number : ℕ
      pub input : MergeInput
      pub there : slice_get xs number ≡ Some input
      pub starts : padded_total (take number xs) ≡ start
      pub short : offset < length input.bytes
      pub entry : PieceEntry
      pub last : IsLast (map (entry_of (all_pieces xs)) (located xs)) (start + offset) entry
      pub answer : found_place fnv64 xs start offset ≡ Some (entry.place + (start + offset - entry.start))
      pub fits : entry.place + (start + offset - entry.start) < 2 ^ 32

    -- or there is no place
    pub record IsNowhere : Type 0 where
      pub answer : found_place fnv64 xs start offset ≡ None
      pub apart : (k : ℕ) (x : MergeInput) → slice_get xs k ≡ Some x → padded_total (take k xs) ≡ start → length x.bytes ≤ offset

    nowhere : NoneFound 0 xs start → IsNowhere
    nowhere n = record {
      answer = ap (option_and_then (λ x. place_at fnv64 xs x offset)) n.none;
      apart = λ k x there starts. absurd (n.apart k x there (omega (arith, starts)));
    }

    past : (o : OneFound 0 xs start) → length o.input.bytes ≤ offset → IsNowhere
    past o far =
        let whole : length (concat (pieces_of o.input)) ≡ length o.input.bytes = ap length (concat_pieces o.input (terminated_at xs o.index o.input terminated o.there)) in
        record {
          answer = ap (option_and_then (λ x. place_at fnv64 xs x offset)) o.found
              ∙ ap (option_map (λ (q : Piece × ℕ). place_of fnv64 (all_pieces xs) q.0 + q.1)) (piece_at_past (pieces_of o.input) offset (omega (arith, whole, far)));
          apart = λ k x there starts. ⊎_elim
              (λ long. absurd (
              let fit = data_fits x in
              let within = slice_within xs o.index o.input o.there in
              ⊎_elim
              (λ less. let behind = starts_behind xs k o.index x less (omega (arith, within)) there in omega (arith, behind, fit, starts, o.starts, long))
              (λ rest. ⊎_elim
              (λ more. o.apart k x more there (omega (arith, starts)))
              (λ back.
              let same : k ≡ o.index = omega (arith, rest, back) in
              let one = same_input (ap (slice_get xs) (sym same) ∙ there) o.there in
              let len : length x.bytes ≡ length o.input.bytes = ap (λ (y : MergeInput). length y.bytes) one in
              omega (arith, len, long, far)) (cases_lt o.index k)) (cases_lt k o.index)))
              (λ fine. fine) (cases_lt offset (length x.bytes));
        }
      where
        same_input : {a b : MergeInput} {s : Option MergeInput} → s ≡ Some a → s ≡ Some b → a ≡ b
        same_input h k = cc

    found_in : (o : OneFound 0 xs start) → offset < length o.input.bytes → IsFound
    found_in o short =
        let x : MergeInput = o.input in
        let k : ℕ = o.index in
        let all : List Piece = all_pieces xs in
        let whole : length (concat (pieces_of x)) ≡ length x.bytes = ap length (concat_pieces x (terminated_at xs k x terminated o.there)) in
        let piece = piece_at_some (pieces_of x) offset (omega (arith, whole, short)) in
        let p : Piece = piece.0 in
        let d : ℕ = piece.1 in
        let fit = data_fits x in
        let here = covers_all xs k x offset p d o.there (good_pieces xs terminated) piece.2 (omega (arith, short, fit)) in
        let c = here.2 in
        let from : padded_total (take k xs) ≡ start = omega (arith, o.starts) in
        let l : Located = record { input = k; start = padded_total (take k xs) + (offset - d); piece = p } in
        let far : start + offset - (padded_total (take k xs) + (offset - d)) ≡ d = omega (arith, from, here.0) in
        let among : is_among (bucket_list fnv64 all (fnv64 p % 16)) p ≡ true
        = among_bucket_list fnv64 all p ∙ ap (λ ps. is_among ps p) (sym (pieces_located_from 0 0 xs)) ∙ among_pieces (located xs) c.index l c.there in
        let within = place_within (bucket_list fnv64 all (fnv64 p % 16)) p among in
        let below : fnv64 p % 16 < 16 = mod-lt (fnv64 p) (omega arith) in
        let bounded = small (fnv64 p % 16) below in
        record {
          number = k;
          input = x;
          there = o.there;
          starts = from;
          short = short;
          entry = made l;
          last = record {
            index = c.index;
            there = map_in made (located xs) c.index l c.there;
            from = omega (arith, c.from, from);
            last = λ j e e_at below.
                let m = map_at made (located xs) j e e_at in
                let starts : m.0.start ≡ e.start = ap (λ (y : PieceEntry). y.start) m.2 in
                ⊎_elim
                (λ before. let rise = rise_from 0 0 xs (good_pieces xs terminated) j c.index m.0 l before m.1 c.there in omega (arith, rise, starts))
                (λ rest. ⊎_elim
                (λ behind. absurd (let after = c.later j m.0 behind m.1 in omega (arith, after, starts, from, below)))
                (λ back.
                let same : j ≡ c.index = omega (arith, rest, back) in
                let one = same_located (ap (slice_get (located xs)) (sym same) ∙ m.1) c.there in
                let here : m.0.start ≡ l.start = ap (λ (y : Located). y.start) one in
                omega (arith, here, starts)) (cases_lt c.index j)) (cases_lt j c.index);
          };
          answer = ap (option_and_then (λ y. place_at fnv64 xs y offset)) o.found
              ∙ ap (option_map (λ (q : Piece × ℕ). place_of fnv64 all q.0 + q.1)) piece.2
              ∙ ap (λ n. Some (place_of fnv64 all p + n)) (sym far);
          fits = omega (arith, far, within, here.1, below, bounded);
        }
      where
        same_located : {a b : Located} {s : Option Located} → s ≡ Some a → s ≡ Some b → a ≡ b
        same_located h k = cc

    pub found_or_nowhere : IsFound ⊎ IsNowhere
    found_or_nowhere = elim (last_found 0 xs start) [
      | inl n ↦ inr (nowhere n)
      | inr o ↦ ⊎_elim (λ short. inl (found_in o short)) (λ far. inr (past o far)) (cases_lt offset (length o.input.bytes))
    ]

    -- the entry is the only last one
    pub only_last : (f : IsFound) (e : PieceEntry) → IsLast (map (entry_of (all_pieces xs)) (located xs)) (start + offset) e → e ≡ f.entry
    only_last f e h =
        let g = f.last in
        let low = g.last h.index e h.there h.from in
        let high = h.last g.index f.entry g.there g.from in
        ⊎_elim
        (λ less. absurd (let r = entries_rise h.index g.index e f.entry less h.there g.there in omega (arith, r, high)))
        (λ rest. ⊎_elim
        (λ more. absurd (let r = entries_rise g.index h.index f.entry e more g.there h.there in omega (arith, r, low)))
        (λ back.
        let same : h.index ≡ g.index = omega (arith, rest, back) in
        same_entry (ap (slice_get (map (entry_of (all_pieces xs)) (located xs))) (sym same) ∙ h.there) g.there) (cases_lt g.index h.index)) (cases_lt h.index g.index)
      where
        same_entry : {a b : PieceEntry} {s : Option PieceEntry} → s ≡ Some a → s ≡ Some b → a ≡ b
        same_entry h k = cc

    -- so there is one
    pub not_none : IsFound → NoneAt (map (entry_of (all_pieces xs)) (located xs)) (start + offset) → ⊥
    not_none f none = let g = f.last in let a = none g.index f.entry g.there in let b = g.from in omega (arith, a, b)
