-- The sorted sections are told in the order in which they stand.
use Rattle.std.proofs.Common.{refl}
use Rattle.lk_live.specs.Reach.{live_inputs}
use Rattle.lk_link.proofs.Elements.{contains_at}
use Rattle.lk_sizes.specs.PartOwners.{LiveSectionsAreOwners}
use Rattle.lk_sizes.specs.Sorted.{sorted_inputs}
use Rattle.lk_sizes.proofs.SortedOnes.{sorted_at, sorted_stand_by_name}
use Rattle.lk_layout.specs.Defined.{layout_of}
use Rattle.lk_layout.specs.Made.{Made, made_filling}
use Rattle.lk_soundness.proofs.Stands.{SortedAreTold}

pub sorted_are_told : LiveSectionsAreOwners → (made : Made) → SortedAreTold made (layout_of made)
sorted_are_told owners made = record {
  inputs = sorted_inputs made.link made.live;
  by_name = sorted_stand_by_name made.link made.live;
  told = refl;
  owners = λ k x there.
      let is = sorted_at made.link made.live k x there in
      owners (made_filling made) x (contains_at (live_inputs made.link made.live) is.place x is.there);
}
