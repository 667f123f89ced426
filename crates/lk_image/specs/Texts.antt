-- How it is told why there is no image.
use Rattle.std.specs.Prelude.{ℕ, List, [], ◌∷◌, codes}
use Rattle.std.specs.Fmt.{decimal}
use Rattle.lk_link.specs.Texts.{joined}
use Rattle.lk_image.specs.declared.error.ImageError.{ImageError}
use Rattle.lk_image.specs.declared.error.ImageError.TheVariants as image
use Rattle.lk_image.specs.declared.error.TheConstants.{LONGEST_IMAGE}

-- why there is no image; want of memory has no text
unfoldable pub error_text : ImageError → List ℕ
error_text image.Relaxed = codes "no image: relax"
error_text (image.TooLong len) = joined (codes "no image: " ∷ decimal len ∷ codes " bytes, limit " ∷ decimal LONGEST_IMAGE ∷ [])
error_text (image.NoRoom file section index) =
    joined (codes "no image: no room at " ∷ decimal file.group ∷ codes " " ∷ decimal file.file ∷ codes " " ∷ decimal section
    ∷ codes " relocation " ∷ decimal index ∷ [])
error_text image.NoMemory = []
