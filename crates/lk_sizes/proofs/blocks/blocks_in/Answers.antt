use Rattle.std.proofs.Common.{◌≡◌, ◌==◌, ◌^◌, ℕ, Bool, true, false, if◌then◌else◌, List, Option, length, min, ap, sym, ◌∙◌, arith}
use Rattle.std.specs.List.{slice_index_or}
use Rattle.std.specs.Option.{option_map_or}
use Rattle.lk_link.specs.declared.ids.FileId.{FileId}
use Rattle.lk_link.specs.declared.plan.PlanPart.{PlanPart}
use Rattle.lk_link.specs.Parts.{part_at}
use Rattle.lk_sizes.specs.ThunkSums.{block_bytes}
use Rattle.lk_sizes.proofs.Keys.{same_number}
use Rattle.lk_sizes.proofs.LiveParts.{read_alignment, read_part}
use Rattle.lk_sizes.proofs.blocks.blocks_in.Goals as goal

pub block_bytes-requires : goal.block_bytes-requires
block_bytes-requires c =
    read_alignment c.args.link.now c.parts.result.now c.args.number _ c.requires.good c.parts.ensures (omega (arith, c.requires.within, ap length c.parts.ensures))

pub returns-in-Some : goal.returns-in-Some
returns-in-Some c =
    let link = c.args.link.now in
    let p : ℕ = c.args.number in
    let thunks : List (FileId × ℕ) = c.args.thunk_owners.now in
    let nothing : PlanPart = record { alignment = 0; packed = false } in
    let part : slice_index_or c.parts.result.now p nothing ≡ part_at link.plan.sections p
    = read_part link c.parts.result.now p nothing c.parts.ensures (omega (arith, c.requires.within, ap length c.parts.ensures)) in
    let here : (c.in-Some.primary == p) ≡ true = ap (λ (n : ℕ). n == p) (sym c.as_usize.ensures ∙ c.if-as_usize-number.true) ∙ same_number p in
    let bytes : ℕ → ℕ = λ q. if q == p then block_bytes (part_at link.plan.sections p) thunks else 0 in
    c.block_bytes.ensures
    ∙ ap (λ (q : PlanPart). min (block_bytes q thunks) (2 ^ 64)) part
    ∙ sym (ap (λ (o : Option ℕ). min (option_map_or bytes o 0) (2 ^ 64)) c.in-Some.is
    ∙ ap (λ (b : Bool). min (if b then block_bytes (part_at link.plan.sections p) thunks else 0) (2 ^ 64)) here)
