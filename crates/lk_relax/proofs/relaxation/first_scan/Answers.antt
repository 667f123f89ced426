use Rattle.std.proofs.Common.{◌≡◌, ◌++◌, ◌∷◌, ℕ, Bool, cond, List, [], Some, length, ap, sym, ◌∙◌, arith}
use Rattle.std.specs.List.{slice_get}
use Rattle.std.proofs.lemmas.List.{append-nil, length_push}
use Rattle.lk_link.specs.Inputs.{Input, all_inputs}
use Rattle.lk_link.specs.Walks.{input_of}
use Rattle.lk_reach.proofs.Numbered.{are_numbered}
use Rattle.lk_relax.specs.RelaxationWords.{can_shrink_by}
use Rattle.lk_relax.proofs.Falling.{number_few}
use Rattle.lk_relax.proofs.FirstLooks.{scan_next}
use Rattle.lk_relax.proofs.InputsThere.{at_its_number, index_small, input_turn}
use Rattle.lk_relax.proofs.relaxation.first_scan.Goals as goal
use Rattle.lk_relax.proofs.relaxation.first_scan.Goals.{then-can_shrink+in_ok-push, else-can_shrink}

pub inputs-input-items-requires : goal.inputs-input-items-requires
inputs-input-items-requires c = are_numbered c.args.link.now c.requires

pub overflow_cast-input : goal.overflow_cast-input
overflow_cast-input c =
    let link = c.args.link.now in
    let x : Input = input_of c.in-Some.input in
    let there : slice_get (all_inputs link.groups) (length c.loop-input.yielded) ≡ Some x
    = input_turn link c.into_iter-input-iterator.result c.loop-input.input-iterator c.next.new.self c.loop-input.yielded c.in-Some.input (cc) c.loop-input.yielded_by c.in-Some.ensures.steps in
    omega (arith, index_small link x c.requires (at_its_number link (length c.loop-input.yielded) x there))

pub overflow_add-number : goal.overflow_add-number
overflow_add-number c =
    let link = c.args.link.now in
    let x : Input = input_of c.in-Some.input in
    let there : slice_get (all_inputs link.groups) (length c.loop-input.yielded) ≡ Some x
    = input_turn link c.into_iter-input-iterator.result c.loop-input.input-iterator c.next.new.self c.loop-input.yielded c.in-Some.input (cc) c.loop-input.yielded_by c.in-Some.ensures.steps in
    omega (arith, number_few link (length c.loop-input.yielded) x c.requires there, c.loop-input.invariant.count)

pub loop-input-preserved : goal.loop-input-preserved
loop-input-preserved c =
    let number : c.loop-input.number ≡ length c.loop-input.yielded = c.loop-input.invariant.count in
    let x = c.in-Some.input in
    let f : ℕ × Input → Bool = λ q. can_shrink_by c.args.live.now.marks (q.0, q.1.section) in
    let can : c.can_shrink.result ≡ f (length c.loop-input.yielded, input_of x)
    = c.can_shrink.ensures ∙ ap (λ (ms : List Bool). can_shrink_by ms (c.loop-input.number, x.section.now)) c.as_slice-marks.ensures ∙ ap (λ (n : ℕ). f (n, input_of x)) number in
    record {
      count = omega (arith, number, length_push c.loop-input.yielded x);
      scan = scan_next f c.loop-input.yielded x c.loop-input.scan.items c.if-can_shrink.scan.items c.can_shrink.result c.loop-input.invariant.scan (sym can) (elim c.if-can_shrink.branch [
        | then-can_shrink+in_ok-push w ↦
            ap (λ s. s.items) w.scan-is ∙ w.in_ok-push.ensures.items ∙ ap (λ b. c.loop-input.scan.items ++ cond b ((x.file, x.index) ∷ []) []) (sym w.if-can_shrink.true)
        | else-can_shrink w ↦
            ap (λ s. s.items) w.scan-is ∙ sym (append-nil c.loop-input.scan.items) ∙ ap (λ b. c.loop-input.scan.items ++ cond b ((x.file, x.index) ∷ []) []) (sym w.if-can_shrink.false)
      ]);
    }
