use Rattle.std.proofs.Common.{List, [], ◌∷◌, ◌++◌, arith}
use Rattle.lk_merge.specs.declared.offset_map.PieceEntry.{PieceEntry}
use Rattle.lk_merge.specs.OffsetMapTables.{AreStarts}
use Rattle.lk_merge.proofs.StartLemmas.{added_kept, added_rest, on_ok}
use Rattle.lk_merge.proofs.offset_map.OffsetMap.add.Goals as goal

pub returns-then-saturating_sub-lt-KEPT_IN_BLOCK : goal.returns-then-saturating_sub-lt-KEPT_IN_BLOCK
returns-then-saturating_sub-lt-KEPT_IN_BLOCK c =
    on_ok c.add.result _ _ (λ (made : (pieces : List PieceEntry) → AreStarts pieces c.args.self.now.kept → AreStarts (pieces ++ record { start = c.args.start; place = c.args.place } ∷ []) c.add.new.self). λ pieces h.
    added_kept pieces c.args.self.now h (record { start = c.args.start; place = c.args.place }) c.before-2.result c.before-end.result (c.before-2.ensures _ h.kept) (c.before-end.ensures _ h.kept) c.add.new.self
    (omega (arith, c.saturating_sub.ensures, c.if-saturating_sub-lt-KEPT_IN_BLOCK.true)) (made _ h.kept)) c.add.ensures

pub returns : goal.returns
returns c =
    on_ok c.add-2.result _ _ (λ (made : (pieces : List PieceEntry) → AreStarts pieces c.args.self.now.rest → AreStarts (pieces ++ record { start = c.args.start; place = c.args.place } ∷ []) c.add-2.new.self). λ pieces h.
    added_rest pieces c.args.self.now h (record { start = c.args.start; place = c.args.place }) c.before-2.result c.before-end.result (c.before-2.ensures _ h.kept) (c.before-end.ensures _ h.kept) c.add-2.new.self
    (omega (arith, c.saturating_sub.ensures, c.if-saturating_sub-lt-KEPT_IN_BLOCK.false)) (made _ h.rest)) c.add-2.ensures
