-- What goes into the output of a link that is laid out.
use Rattle.std.specs.Prelude.{ℕ, List, length, map}
use Rattle.lk_link.specs.declared.ids.FileId.{FileId}
use Rattle.lk_link.specs.declared.link.LinkInput.{LinkInput}
use Rattle.lk_link.specs.TableSizes.{TableSizes}
use Rattle.lk_live.specs.declared.live.Live.{Live}
use Rattle.lk_merge.specs.Hash.{fnv64}
use Rattle.lk_merge.specs.Image.{all_pieces, image}
use Rattle.lk_merge.specs.LinkInputs.{link_inputs}
use Rattle.lk_merge.specs.Pieces.{MergeInput}
use Rattle.lk_sizes.specs.Owners.{Content, Filling, content_of, plain_filling, with_thunks}

-- how many bytes each of some merged sections has, by their inputs: those of its image
unfoldable pub lens_of : List (List MergeInput) → List ℕ
lens_of merged = map (λ inputs. length (image fnv64 (all_pieces inputs))) merged

-- the bytes of the image of each output section of a link
abbrev pub image_lens : LinkInput → List ℕ
image_lens link = lens_of (link_inputs link).outputs

-- what is live, and what is merged, with what tables take on a machine
abbrev pub output_content : TableSizes → LinkInput → Live → Content
output_content sizes link live = content_of link sizes live (image_lens link)

-- with what fills the parts: no thunks, and input sections with the sizes that they have in the description
abbrev pub output_filling : TableSizes → LinkInput → Live → Filling
output_filling sizes link live = plain_filling (output_content sizes link live)

-- the same with blocks of thunks, by the files that own them
abbrev pub thunked_filling : TableSizes → LinkInput → Live → List (FileId × ℕ) → Filling
thunked_filling sizes link live thunks = with_thunks (output_filling sizes link live) thunks

-- what fills the parts of a layout, by any blocks of thunks and any sizes of input sections
abbrev pub in_layout : TableSizes → LinkInput → Live → Filling → Filling
in_layout sizes link live filling = record filling { content = output_content sizes link live }
