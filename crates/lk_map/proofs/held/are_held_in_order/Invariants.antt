use Rattle.std.proofs.Common.{◌≡◌, false, take}
use Rattle.std.specs.List.{All}
use Rattle.lk_map.specs.Checking.{is_outside}
use Rattle.lk_map.proofs.InOrder.{Decides}
use Rattle.lk_map.proofs.held.are_held_in_order.Given as goal

abbrev pub invariant-loop-section : goal.invariant-loop-section
invariant-loop-section l = All (λ s. is_outside l.segments s ≡ false) (take l.section-index l.sections) × Decides l.segments l.sections l.holder l.section-index
