use Rattle.std.proofs.Common.{◌∙◌, ◌++◌, ◌∷◌, [], ℕ, length, refl, sym, ap, subst, arith}
use Rattle.std.specs.List.{slice_get}
use Rattle.std.proofs.lemmas.Option.{slice_get_read}
use Rattle.lk_merge.specs.OffsetMapTables.{HoldsIn}
use Rattle.lk_merge.proofs.Placing.{entry_added}
use Rattle.lk_merge.proofs.group_starts.Entries.add.Goals as goal

pub returns : goal.returns
returns c = λ all done rest l is at bucket h.
    let taken : ℕ = c.index-taken.result.now in
    let took = slice_get_read c.args.self.now.taken.items (length c.args.self.now.taken.items) c.args.bucket taken refl (omega (arith, c.if-bucket-len.false, c.len.ensures)) c.index-taken.ensures in
    let places = c.as_slice.ensures.value in
    entry_added all done rest l is c.args.self.now _ c.args.bucket taken c.in-Some.ensures.0 c.in-Some.place bucket h took (ap (λ l. slice_get l c.args.bucket) (sym places) ∙ c.in-Some.ensures.1) c.in-Some.ensures.2 refl refl
    (λ es held. subst (λ n. HoldsIn (es ++ record { start = n; place = c.in-Some.place } ∷ []) c.add.new.self) at (c.in_ok-add.ensures es held))
