-- The calls of cells and buckets are the steps of the matrix.
use Rattle.std.proofs.Common.{◌≡◌, ℕ, ◌+◌, ◌<◌, true, false, List, length, None, refl, sym, ap, ◌∙◌, subst, arith, add-one}
use Rattle.lk_grid.specs.Machine.{Filled, GoesOn, IsFreed, held_of}
use Rattle.lk_merge.specs.declared.cell.Fill.{Fill}
use Rattle.lk_merge.specs.declared.cell.Fill.TheVariants as fill
use Rattle.lk_merge.specs.declared.cell.Take.{Take}
use Rattle.lk_merge.specs.declared.cell.Take.TheVariants as take
use Rattle.lk_merge.specs.declared.string.MergeString.{MergeString}
use Rattle.lk_merge.specs.Buckets.{Bucket}
use Rattle.lk_merge.specs.Hash.{fnv64}
use Rattle.lk_merge.specs.Matrix.{with_pieces}
use Rattle.lk_merge.specs.MatrixCells.{BucketValue, CellValue, ComesTo, IsOnItsWay, pieces_of_strings}
use Rattle.lk_merge.specs.MatrixSteps.{CallsAreSteps, IsFill, IsTake, step_bucket, work_grid}
use Rattle.lk_merge.specs.MatrixTables.{AreRight, Gets, Puts}
use Rattle.lk_merge.specs.MatrixWork.{MatrixWork, cell_pieces, kept_of}
use Rattle.lk_merge.proofs.Matrix.{front, held_is}

fills : (J : Type 0) (w : MatrixWork) (old new : CellValue) (strings : List MergeString) (answer : Fill J)
    → pieces_of_strings strings ≡ cell_pieces w old.group old.bucket → Puts old strings answer new → IsFill w old answer new
fills J w old new strings (fill.Again back) are puts = puts.2
fills J w old new strings (fill.Freed bucket) are puts = (
  ap (λ (v : CellValue). v.cell) puts.1 ∙ ap (λ ps. Filled ps) are,
  subst (λ cell. IsFreed cell (step_bucket false bucket) (step_bucket true bucket)) (sym puts.0) refl,
)
fills J w old new strings fill.Kept are puts = (
  ap (λ (v : CellValue). v.cell) puts.1 ∙ ap (λ ps. Filled ps) are,
  λ b. subst (λ cell. IsFreed cell b b) (sym puts.0) refl,
)

-- what a bucket holds that goes on
held : (w : MatrixWork) (v : BucketValue) → IsOnItsWay w v → v.state.refusal ≡ None → v.state.bucket.pieces ≡ kept_of w v.number v.taken
held w v h going =
    let has = (h.going going).0 in
    ap (λ (b : Bucket). b.pieces) (has.holds (sym has.refusal ∙ going))

-- one group more is what the matrix makes of it
more_held : (w : MatrixWork) (b g : ℕ) → g < length w.groups → kept_of w b (g + 1) ≡ with_pieces (kept_of w b g) (cell_pieces w g b)
unfolding held_of front
more_held w b g there =
    sym (held_is fnv64 w.inputs w.groups b (g + 1) (omega (arith, there))) ∙ ap (held_of (work_grid w) b) (add-one g)
    ∙ ap (λ ps. with_pieces ps (cell_pieces w g b)) (held_is fnv64 w.inputs w.groups b g (omega (arith, there)))

takes : (J : Type 0) (w : MatrixWork) (old new : CellValue) (bucket : BucketValue) (answer : Take J) → IsOnItsWay w bucket
    → ComesTo old.group old.bucket bucket → Gets old bucket answer new → AreRight w old answer → IsTake w old bucket answer new
takes J w old new bucket (take.Strings same strings) h comes gets right = λ after way number count going.
    let there : bucket.taken < length w.groups = let t = comes.taken in omega (arith, t, right.0) in
    let cell : pieces_of_strings strings.items ≡ cell_pieces w bucket.taken bucket.number = right.1 ∙ (λ i. cell_pieces w (sym comes.taken i) (sym comes.number i)) in
    let now : after.state.bucket.pieces ≡ with_pieces bucket.state.bucket.pieces (pieces_of_strings strings.items)
    = held w after way going ∙ (λ i. kept_of w (number i) (count i)) ∙ more_held w bucket.number bucket.taken there
    ∙ (λ i. with_pieces (sym (held w bucket h comes.going) i) (sym cell i)) in
    subst (λ c. GoesOn (work_grid w) c (step_bucket true bucket) new.cell (step_bucket true after)) (sym gets.0) (
      ap (λ (v : CellValue). v.cell) gets.2,
      λ i. record { taken = count i; held = now i; free = true },
    )
takes J w old new bucket (take.Again same) h comes gets right = gets.2
takes J w old new bucket take.Waits h comes gets right =
    subst (λ c. GoesOn (work_grid w) c (step_bucket true bucket) new.cell (step_bucket false bucket)) (sym gets.0) (ap (λ (v : CellValue). v.cell) gets.1, refl)

pub calls_are_steps : (J : Type 0) → CallsAreSteps J
calls_are_steps J = record { fills = fills J; takes = takes J }
