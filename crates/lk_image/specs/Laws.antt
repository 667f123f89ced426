-- The law on images.
use Rattle.std.specs.Prelude.{◌≡◌, None}
use Rattle.lk_link.specs.declared.link.LinkInput.{LinkInput}
use Rattle.lk_layout.specs.LayoutRecord.{LayoutRecord}
use Rattle.lk_image.specs.Image.{image_of, stretches}
use Rattle.lk_image.specs.Laid.{IsLayoutOf}
use Rattle.lk_image.specs.Places.{image_length}
use Rattle.lk_image.specs.Refusals.{image_refusal}
use Rattle.lk_image.specs.Stretches.{AreApart, IsMadeOf}

-- the image of a layout that isn't refused is made of the stretches of its live sections and merged data, which are apart: each stands
-- at its place, and every other byte is zero
abbrev pub ImagesAreMade : Type 0
ImagesAreMade = (link : LinkInput) (layout : LayoutRecord) → IsLayoutOf link layout → image_refusal link layout ≡ None
    → AreApart (stretches link layout) × IsMadeOf (image_length layout) (stretches link layout) (image_of link layout)
