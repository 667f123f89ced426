-- Words of private contracts: what merging gives.
use Rattle.std.specs.Prelude.{◌≡◌, false, Some, None, Result, Ok, Err}
use Rattle.lk_link.specs.declared.link.LinkInput.{LinkInput}
use Rattle.lk_layout.specs.declared.error.LayoutError.{LayoutError}
use Rattle.lk_resolutions.specs.declared.images.Images.{Images}
use Rattle.lk_layout.specs.Defined.{is_memory}
use Rattle.lk_layout.specs.Merging.{merging_refusal}
use Rattle.lk_resolutions.specs.Images.{AreImages}

-- what merging answers: these, or the refusal; nothing is said for want of memory
abbrev pub GivesImages : LinkInput → Result Images LayoutError → Type 0
GivesImages link (Ok images) = (merging_refusal link ≡ None) × AreImages link images
GivesImages link (Err error) = is_memory error ≡ false → merging_refusal link ≡ Some error
