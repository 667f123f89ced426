use Rattle.std.proofs.Common.{◌≡◌, ℕ, ◌%◌, ◌<◌, ◌++◌, List, length, set, get_or, Option, Some, sym, ap, ◌∙◌, subst, arith, append-nil}
use Rattle.std.specs.List.{slice_get}
use Rattle.std.proofs.Math.Nat.{mod-lt}
use Rattle.std.proofs.lemmas.Option.{slice_get-get_or}
use Rattle.lk_merge.specs.declared.merging.BucketState.{BucketState}
use Rattle.lk_merge.specs.Hash.{fnv64}
use Rattle.lk_merge.specs.OffsetMapTables.{HoldsIn}
use Rattle.lk_merge.specs.Pieces.{Piece}
use Rattle.lk_merge.proofs.Growing.{grown, told}
use Rattle.lk_merge.proofs.merging.Merging.add.Goals as goal

-- the bucket of a piece is there
state_at : (states : List BucketState) (p : Piece) (i : ℕ) (state : BucketState) → length states ≡ 16 → i ≡ fnv64 p % 16 → state ≡ get_or states i state
    → slice_get states (fnv64 p % 16) ≡ Some state
state_at states p i state count is at =
    let small : fnv64 p % 16 < 16 = mod-lt (fnv64 p) (omega arith) in
    let there : state ≡ get_or states (fnv64 p % 16) state = at ∙ ap (λ k. get_or states k state) is in
    slice_get-get_or states (fnv64 p % 16) state (omega (arith, count)) ∙ ap (λ s. Some s) (sym there)

pub returns-in_ok-add-clause-made : goal.returns-in_ok-add-clause-made
returns-in_ok-add-clause-made c = λ section limit done h.
    let p : Piece = c.args.string.bytes.now in
    let is : c.hash_value.result % 16 ≡ fnv64 p % 16 = ap (λ n. n % 16) c.hash_value.ensures in
    let place : Option ℕ = c.in_ok-place.field-0 in
    let state : BucketState = c.index_mut-state.result.now in
    grown section limit done c.args.self.now _ p c.args.input c.args.start state c.add.new.self place h
    (state_at c.args.self.now.buckets.items p (c.hash_value.result % 16) state c.requires.count is c.index_mut-state.ensures.value)
    c.in_ok-place.ensures
    (ap (λ i. set c.args.self.now.buckets.items i c.add.new.self) is)
    (λ es held. subst (λ o. HoldsIn (es ++ told c.args.start o) c.add-in-Some.new.self) (sym c.in-Some.is) (c.in_ok-add.ensures es held))

pub returns-in_default-clause-made : goal.returns-in_default-clause-made
returns-in_default-clause-made c = λ section limit done h.
    let p : Piece = c.args.string.bytes.now in
    let is : c.hash_value.result % 16 ≡ fnv64 p % 16 = ap (λ n. n % 16) c.hash_value.ensures in
    let place : Option ℕ = c.in_ok-place.field-0 in
    let state : BucketState = c.index_mut-state.result.now in
    grown section limit done c.args.self.now _ p c.args.input c.args.start state c.add.new.self place h
    (state_at c.args.self.now.buckets.items p (c.hash_value.result % 16) state c.requires.count is c.index_mut-state.ensures.value)
    c.in_ok-place.ensures
    (ap (λ i. set c.args.self.now.buckets.items i c.add.new.self) is)
    (λ es held. subst (λ o. HoldsIn (es ++ told c.args.start o) c.args.self.now.entries) (sym c.in_default.is) (subst (λ l. HoldsIn l c.args.self.now.entries) (sym (append-nil es)) held))
