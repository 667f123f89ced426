-- Where headers are to stand below the base, memory begins at the last page that leaves room to them.
use Rattle.std.proofs.Common.{◌≡◌, ℕ, ◌-◌, ◌%◌, true, sym, ap, subst, ◌∙◌, arith}
use Rattle.std.specs.Prelude.{if◌then◌else◌, nat_le}
use Rattle.std.proofs.lemmas.Bool.Decides.{nat_tests}
use Rattle.lk_link.specs.Alignments.{IsGreatestMultiple}
use Rattle.lk_link.proofs.Starts.{rest_is_greatest}
use Rattle.lk_place.specs.Base.{memory_start, page_for_headers}
use Rattle.lk_place_laws.specs.Base.{MemoryLeavesRoom}

pub memory_leaves_room : MemoryLeavesRoom
memory_leaves_room plan headers base positive asked room =
    let fits : nat_le headers base ≡ true = grind (arith, nat_tests, room) in
    let page : ℕ = base - headers - (base - headers) % plan.page in
    let at : memory_start plan headers base ≡ page =
    ap (λ b. if b then page_for_headers plan.page headers base else base) asked ∙ ap (λ b. if b then page else base) fits in
    subst (IsGreatestMultiple plan.page (base - headers)) (sym at) (rest_is_greatest plan.page (base - headers) positive)
