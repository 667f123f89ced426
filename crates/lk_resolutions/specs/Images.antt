-- What is merged of a link, as a layout takes it.
use Rattle.std.specs.Prelude.{◌≡◌}
use Rattle.lk_link.specs.declared.link.LinkInput.{LinkInput}
use Rattle.lk_merge.specs.LinkInputs.{link_inputs}
use Rattle.lk_resolutions.specs.declared.images.Images.{Images}
use Rattle.lk_resolutions.specs.OutputContent.{image_lens}

-- the merged sections of a link, and the bytes of their images
pub record AreImages (link : LinkInput) (images : Images) : Type 0 where
  pub sections : images.sections ≡ (link_inputs link).outputs
  pub lens : images.lens.items ≡ image_lens link
