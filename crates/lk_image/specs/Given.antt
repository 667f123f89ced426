-- What is answered of an image.
use Rattle.std.specs.Prelude.{◌≡◌, ℕ, List, None, unwrap_or}
use Rattle.lk_link.specs.declared.link.LinkInput.{LinkInput}
use Rattle.lk_layout.specs.LayoutRecord.{LayoutRecord}
use Rattle.lk_image.specs.declared.error.ImageError.{ImageError}
use Rattle.lk_image.specs.declared.error.ImageError.TheVariants.{NoMemory}
use Rattle.lk_image.specs.Image.{image_of}
use Rattle.lk_image.specs.Refusals.{image_refusal}

-- bytes are the image of a layout, which isn't refused
pub record IsImage (link : LinkInput) (layout : LayoutRecord) (bytes : List ℕ) : Type 0 where
  pub unrefused : image_refusal link layout ≡ None
  pub made : bytes ≡ image_of link layout

-- an error is the refusal of a layout's image, if there is one, else want of memory
abbrev pub IsRefused : LinkInput → LayoutRecord → ImageError → Type 0
IsRefused link layout e = e ≡ unwrap_or (image_refusal link layout) NoMemory
