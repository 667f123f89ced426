use Rattle.std.proofs.Common.{◌≡◌, ◌↔◌, true, sym, subst, Bool}
use Rattle.std.specs.List.{slice_index_or}
use Rattle.std.proofs.lemmas.Option.{slice_get-get_or}
use Rattle.lk_place.specs.Plain.{IsPlain}
use Rattle.lk_place.proofs.PlainScanLaws.{found_exactly}
use Rattle.lk_place.proofs.plain.is_plain.Goals as goal

pub is_found_plain-requires : goal.is_found_plain-requires
is_found_plain-requires c = λ k d below. c.requires.in_range k (slice_index_or c.args.plan.now.events k d) (slice_get-get_or c.args.plan.now.events k d below)

pub returns : goal.returns
returns c = subst (λ (b : Bool). (b ≡ true) ↔ IsPlain c.args.plan.now c.args.output) (sym c.is_found_plain.ensures) (found_exactly c.args.plan.now c.args.output c.requires)
