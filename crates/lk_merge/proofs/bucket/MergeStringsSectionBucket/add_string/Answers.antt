use Rattle.std.proofs.Common.{◌≡◌, ℕ, ◌+◌, ◌-◌, ◌<◌, ◌≤◌, List, ◌∷◌, [], ◌++◌, length, Ok, Err, sym, ap, ◌∙◌, subst, refl, arith}
use Rattle.indexmap.proofs.CallerLemmas.{insert_entry-new}
use Rattle.lk_merge.specs.declared.error.MergeError.TheVariants.{TooLarge}
use Rattle.lk_merge.specs.declared.string.MergeString.{MergeString}
use Rattle.lk_merge.specs.Buckets.{Tells, adding, with_piece, bucket_place}
use Rattle.lk_merge.specs.BucketTables.{IsTable}
use Rattle.lk_merge.specs.Image.{place_in}
use Rattle.lk_merge.proofs.BucketLemmas.{next_is, next_small, stored, tells, there, small_place, answer_there, answer_refused, answer_added, bucket_by, table_more, bucket_more}
use Rattle.lk_merge.proofs.bucket.MergeStringsSectionBucket.add_string.Goals as goal

pub at-requires-clause-offset : goal.at-requires-clause-offset
at-requires-clause-offset c =
    let i = c.self.inside in
    small_place i.section i.number i.limit i.next_offset i.strings.entries c.self.invariant c.args.string.bytes.now c.in-Some.offset.now
    c.requires (sym c.in-Some.ensures.value)

pub returns-in-Some : goal.returns-in-Some
returns-in-Some c =
    let i = c.self.inside in
    let p : List ℕ = c.args.string.bytes.now in
    let v : ℕ = c.in-Some.offset.now in
    let r = answer_there i.section i.number i.limit i.next_offset i.strings.entries c.self.invariant p v (sym c.in-Some.ensures.value) in
    let place : bucket_place i.number v ≡ c.at.result = sym c.at.ensures in (
      subst (λ b. adding b p ≡ Ok c.at.result) c.self.view_is (r.0 ∙ ap (λ (n : ℕ). Ok n) place),
      subst (λ b. b ≡ with_piece b p) c.self.view_is r.1,
      subst (λ b. Tells b.number (place_in b.pieces p) c.at.result) c.self.view_is
          (tells i.number v (place_in (stored i.strings.entries) p) c.at.result c.at.ensures
          (small_place i.section i.number i.limit i.next_offset i.strings.entries c.self.invariant p v c.requires (sym c.in-Some.ensures.value))
          (there i.section i.number i.limit i.next_offset i.strings.entries c.self.invariant p v (sym c.in-Some.ensures.value)).1),
    )

pub returns-then-len-self : goal.returns-then-len-self
returns-then-len-self c =
    let i = c.self.inside in
    let p : List ℕ = c.args.string.bytes.now in
    let same : length p ≡ length c.as_bytes.result.now = ap length (sym c.as_bytes.ensures) in
    let long : i.limit - i.next_offset < length p = omega (arith, same, c.if-len-self.true) in
    let r = answer_refused i.section i.number i.limit i.next_offset i.strings.entries c.self.invariant p (sym c.in_default.ensures.value) long in (
      subst (λ b. adding b p ≡ Err (TooLarge i.section i.number i.next_offset (length c.as_bytes.result.now))) c.self.view_is
          (r ∙ ap (λ n. Err (TooLarge i.section i.number i.next_offset n)) same),
      refl,
    )

pub invariant_of-self-2 : goal.invariant_of-self-2
invariant_of-self-2 c =
    let i = c.self.inside in
    let s : MergeString = c.args.string in
    let same : length s.bytes.now ≡ length c.as_bytes.result.now = ap length (sym c.as_bytes.ensures) in
    let short : length s.bytes.now ≤ i.limit - i.next_offset = omega (arith, same, c.if-len-self.false) in
    let entries = c.in_ok-insert.ensures.entries ∙ insert_entry-new _ i.strings s i.next_offset (sym c.in_default.ensures.value) in
    subst (λ n. IsTable i.number i.limit (i.next_offset + n) c.insert.new.self.entries) same
    (subst (IsTable i.number i.limit (i.next_offset + length s.bytes.now)) (sym entries)
    (table_more i.section i.number i.limit i.next_offset i.strings.entries c.self.invariant s short c.requires))

pub returns : goal.returns
returns c =
    let i = c.self.inside in
    let s : MergeString = c.args.string in
    let p : List ℕ = s.bytes.now in
    let same : length p ≡ length c.as_bytes.result.now = ap length (sym c.as_bytes.ensures) in
    let short : length p ≤ i.limit - i.next_offset = omega (arith, same, c.if-len-self.false) in
    let none = sym c.in_default.ensures.value in
    let entries = c.in_ok-insert.ensures.entries ∙ insert_entry-new _ i.strings s i.next_offset none in
    let r = answer_added i.section i.number i.limit i.next_offset i.strings.entries c.self.invariant p none short in
    let b = bucket_more i.section i.number i.limit i.next_offset i.strings.entries c.self.invariant s none in
    let place : bucket_place i.number i.next_offset ≡ c.at-2.result = sym c.at-2.ensures in (
      subst (λ b. adding b p ≡ Ok c.at-2.result) c.self.view_is (r ∙ ap (λ (n : ℕ). Ok n) place),
      ap (bucket_by i.section i.number i.limit) entries ∙ subst (λ o. bucket_by i.section i.number i.limit (i.strings.entries ++ (s, i.next_offset) ∷ []) ≡ with_piece o p) c.self.view_is b,
      subst (λ b. Tells b.number (place_in b.pieces p) c.at-2.result) c.self.view_is
          (tells i.number i.next_offset (place_in (stored i.strings.entries) p) c.at-2.result c.at-2.ensures
          (next_small i.section i.number i.limit i.next_offset i.strings.entries c.self.invariant p c.requires short)
          (next_is i.section i.number i.limit i.next_offset i.strings.entries c.self.invariant p none)),
    )
