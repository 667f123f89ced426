use Rattle.std.proofs.Common.{◌≡◌, ℕ, true, false, Bool, List, [], Some, sym, ap, ◌∙◌, if◌then◌else◌, arith}
use Rattle.std.specs.Prelude.{◌&&◌, not}
use Rattle.std.specs.List.{enumerate_from, flat_map, slice_get}
use Rattle.lk_link.specs.declared.relocation.Relocation.{Relocation}
use Rattle.lk_link.specs.InputSlots.{is_debug}
use Rattle.lk_link.specs.Inputs.{Input}
use Rattle.lk_link.specs.Walks.{input_of}
use Rattle.lk_stops.proofs.Stopping.{all_gone, exit, one_more, stops_at}
use Rattle.lk_image.specs.declared.error.ImageError.{ImageError}
use Rattle.lk_image.specs.Places.{is_in_file}
use Rattle.lk_image.specs.Refusals.{relocation_refusals}
use Rattle.lk_image.proofs.room.check_section.Goals as goal

-- what is refused of a section that is in the file, and no debug data
all_of : (refused : List ImageError) (there debug : Bool) → there ≡ true → debug ≡ false → (if there && not debug then refused else []) ≡ refused
all_of refused there debug is plain = ap (λ b. if b && not debug then refused else []) is ∙ ap (λ b. if not b then refused else []) plain

pub returns-in_err-check_relocation : goal.returns-in_err-check_relocation
returns-in_err-check_relocation c =
    let f = relocation_refusals (input_of c.args.input) in
    let relocs : List Relocation = c.args.input.section.now.relocs in
    let all : List ImageError = flat_map f (enumerate_from 0 relocs) in
    let q : ℕ × Input = (c.args.number, input_of c.args.input) in
    let there : is_in_file c.args.link.now c.args.layout.now q ≡ true = sym c.is_in_file.ensures ∙ c.if-not-is_in_file.false in
    let debug : is_debug c.args.input.section.now.slot ≡ false = sym c.is_debug.ensures ∙ c.if-is_debug.false in
    let first : slice_get all 0 ≡ Some c.in_err-check_relocation.field-0.0
    = stops_at f 0 relocs c.as_slice-relocation-items.result.now c.loop-index.index c.loop-index.index _ _ c.as_slice-relocation-items.ensures c.loop-index-test.true (omega arith)
    c.loop-index.invariant c.in_err-check_relocation.ensures in
    exit _ _ c.from_residual.result c.from_residual.ensures.1 (λ e is.
    ap (λ (xs : List ImageError). slice_get xs 0) (all_of all _ _ there debug) ∙ first ∙ ap (λ (p : ImageError). Some p) (sym is))

pub loop-index-preserved : goal.loop-index-preserved
loop-index-preserved c =
    one_more (relocation_refusals (input_of c.args.input)) 0 c.args.input.section.now.relocs c.as_slice-relocation-items.result.now c.loop-index.index c.loop-index.index _ c.as_slice-relocation-items.ensures
    c.loop-index-test.true (omega arith) c.loop-index.invariant c.in_ok-check_relocation.ensures

pub returns : goal.returns
returns c =
    let f = relocation_refusals (input_of c.args.input) in
    let relocs : List Relocation = c.args.input.section.now.relocs in
    let q : ℕ × Input = (c.args.number, input_of c.args.input) in
    let there : is_in_file c.args.link.now c.args.layout.now q ≡ true = sym c.is_in_file.ensures ∙ c.if-not-is_in_file.false in
    let debug : is_debug c.args.input.section.now.slot ≡ false = sym c.is_debug.ensures ∙ c.if-is_debug.false in
    all_of (flat_map f (enumerate_from 0 relocs)) _ _ there debug
    ∙ all_gone f 0 relocs c.as_slice-relocation-items.result.now c.loop-index.index c.as_slice-relocation-items.ensures c.loop-index-test.false c.loop-index.invariant
