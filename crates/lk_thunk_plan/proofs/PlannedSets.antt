-- The sets that are planned: they rise, and have few definitions.
use Rattle.std.proofs.Common.{◌≡◌, ℕ, zero, suc, ◌<◌, ◌^◌, ◌==◌, Bool, true, false, if◌then◌else◌, List, [], ◌∷◌, All, get_or, length, map, Some, refl, ap, sym, subst, arith, inl, inr}
use Rattle.std.specs.List.{enumerate_from, range_with_len, slice_get}
use Rattle.std.proofs.lemmas.List.Elements.{All-from_get_or}
use Rattle.std.proofs.lemmas.List.FromFn.{length-range_with_len}
use Rattle.std.proofs.lemmas.List.Sums.{count_by-le-length, length-filter}
use Rattle.std.proofs.lemmas.Option.{slice_get-get_or}
use Rattle.lk_link.specs.declared.ids.FileId.{FileId}
use Rattle.lk_link.specs.declared.link.LinkInput.{LinkInput}
use Rattle.lk_link.specs.Symbols.{all_symbols}
use Rattle.lk_link.specs.WellFormed.{IsWellFormed}
use Rattle.lk_link.proofs.Elements.{append_at, map_at}
use Rattle.lk_live.specs.declared.live.Live.{Live}
use Rattle.lk_reach.proofs.SymbolNumbers.{symbols_few}
use Rattle.lk_reach.proofs.UnitLemmas.{symbols_length}
use Rattle.lk_thunks.specs.declared.blocks.Block.{Block}
use Rattle.lk_thunks.specs.Blocks.{objects_of, thunk_blocks}
use Rattle.lk_thunks.specs.Ranges.{planned_objects}
use Rattle.lk_thunks.specs.SetLaws.{IsRising}
use Rattle.lk_thunks.specs.ThunkSets.{Planning, has_thunk, planning, sets_of, thunk_set, thunk_sets}
use Rattle.lk_thunks.proofs.Rising.{passed_rise}

-- a set is that of some block
record IsSetOf (by : Planning) (set : List ℕ) : Type 0 where
  number : ℕ
  objects : List (FileId × ℕ × ℕ)
  is : set ≡ thunk_set by number objects

last_set : (by : Planning) (b : Bool) (j : ℕ) (set : List ℕ) → slice_get (if b then thunk_set by 0 [] ∷ [] else []) j ≡ Some set → IsSetOf by set
last_set by true zero set at = record { number = 0; objects = []; is = cc }
last_set by true (suc j) set at = absurd (cc)
last_set by false j set at = absurd (cc)

set_at : (by : Planning) (objects : List (FileId × ℕ × ℕ)) (blocks : List Block) (k : ℕ) (set : List ℕ) → slice_get (sets_of by objects blocks) k ≡ Some set → IsSetOf by set
set_at by objects blocks k set at =
    let made : ℕ × Block → List ℕ = λ q. thunk_set by q.0 (objects_of objects q.1) in
    elim (append_at (map made (enumerate_from 0 blocks)) (if length blocks == 0 then thunk_set by 0 [] ∷ [] else []) k set at) [
      | inl here ↦
          let from = map_at made (enumerate_from 0 blocks) k set here in
          record { number = from.0.0; objects = objects_of objects from.0.1; is = sym from.2 }
      | inr later ↦ last_set by (length blocks == 0) later.0 set later.2
    ]

-- what holds of each set of a planning
all_sets : (P : List ℕ → Type 0) (link : LinkInput) (live : Live) (range start : ℕ) → ((by : Planning) (k : ℕ) (objects : List (FileId × ℕ × ℕ)) → by.link ≡ link → P (thunk_set by k objects))
    → All P (thunk_sets link live range start)
all_sets P link live range start each =
    All-from_get_or P (thunk_sets link live range start) [] (λ i below.
    let by : Planning = planning link live range start in
    let set : List ℕ = get_or (thunk_sets link live range start) i [] in
    let of = set_at by (planned_objects link live start) (thunk_blocks range (planned_objects link live start)) i set (slice_get-get_or (thunk_sets link live range start) i [] below) in
    subst P (sym of.is) (each by of.number of.objects refl))

pub sets_rise : (link : LinkInput) (live : Live) (range start : ℕ) → All IsRising (thunk_sets link live range start)
sets_rise link live range start =
    all_sets IsRising link live range start (λ by k objects same i j lt within. passed_rise (has_thunk by k objects) (length (all_symbols by.link.groups)) 0 i j lt within)

pub sets_few : (link : LinkInput) (live : Live) (range start : ℕ) → IsWellFormed link → All (λ set. length set < 2 ^ 32) (thunk_sets link live range start)
sets_few link live range start good =
    all_sets (λ (set : List ℕ). length set < 2 ^ 32) link live range start (λ by k objects same.
    let symbols : List ℕ = range_with_len 0 (length (all_symbols by.link.groups)) in
    omega (
      arith,
      length-filter (has_thunk by k objects) symbols,
      count_by-le-length (has_thunk by k objects) symbols,
      length-range_with_len 0 (length (all_symbols by.link.groups)),
      ap (λ (l : LinkInput). length (all_symbols l.groups)) same,
      symbols_length link.groups,
      symbols_few link good,
    ))
