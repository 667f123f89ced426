-- What sizing answers as a whole.
use Rattle.std.specs.Prelude.{◌≡◌, ℕ, List, Some, None, Result, Ok, Err, unwrap_or}
use Rattle.lk_tables.specs.DynamicCounters.{AreNumbersAt}
use Rattle.lk_tables.specs.ShareWords.{first_shares}
use Rattle.lk_sizes.specs.declared.error.SizeError.{SizeError}
use Rattle.lk_sizes.specs.declared.error.SizeError.TheVariants.{NoMemory}
use Rattle.lk_sizes.specs.Contents.{part_contents, size_refusal, sum_refusal}
use Rattle.lk_sizes.specs.Emitted.{told_marks}
use Rattle.lk_sizes.specs.Harvest.{sorted_sections}
use Rattle.lk_sizes.specs.Header.{header_info}
use Rattle.lk_sizes.specs.Owners.{Filling, all_commons, own_sizes}
use Rattle.lk_sizes.specs.declared.part_owners.ResizedLists.{ResizedLists}
use Rattle.lk_sizes.specs.OwnersRecord.{OwnersRecord}

-- what was found is that of a filling: the contents of the parts, what headers tell, the numbers of dynamic symbols at the
-- first symbol, the commons that take bytes, what each file's symbols take in tables first, the sorted sections, the lengths of images, the bytes of blocks of thunks, and the sizes of
-- input sections, which are those of the description where none are given
pub record AreFilled (filling : Filling) (owners : OwnersRecord) : Type 0 where
  pub contents : owners.contents ≡ part_contents filling
  pub header : owners.header ≡ header_info filling.content
  pub numbers : AreNumbersAt filling.content.link filling.content.live (told_marks filling.content) 0 owners.numbers
  pub commons : owners.commons ≡ all_commons filling.content.link filling.content.live
  pub shares : owners.shares ≡ first_shares filling.content.sizes filling.content.link filling.content.live
  pub sorted : owners.sorted ≡ sorted_sections filling.content.link filling.content.live filling.sizes
  pub lens : owners.lens ≡ filling.content.merged_lens
  pub thunks : owners.thunks ≡ filling.thunks
  pub sizes : unwrap_or owners.sizes (own_sizes filling.content.link) ≡ filling.sizes

-- that, or the refusal; nothing is said for want of memory
abbrev pub GivesOwners : Filling → Result OwnersRecord SizeError → Type 0
GivesOwners filling (Ok owners) = (size_refusal filling ≡ None) × AreFilled filling owners
GivesOwners filling (Err NoMemory) = Unit {0}
GivesOwners filling (Err error) = size_refusal filling ≡ Some error

-- so it is when blocks of thunks are added, where all fits without them
abbrev pub GivesAdded : Filling → Result OwnersRecord SizeError → Type 0
GivesAdded filling (Ok owners) = (sum_refusal filling ≡ None) × AreFilled filling owners
GivesAdded filling (Err NoMemory) = Unit {0}
GivesAdded filling (Err error) = sum_refusal filling ≡ Some error

-- the same filling, where input sections have these sizes
abbrev pub with_sizes : Filling → List ℕ → Filling
with_sizes filling sizes = record filling { sizes = sizes }

-- what of it goes by the sizes of input sections
pub record IsResized (filling : Filling) (resized : ResizedLists) : Type 0 where
  pub contents : resized.contents ≡ part_contents filling
  pub sorted : resized.sorted ≡ sorted_sections filling.content.link filling.content.live filling.sizes
  pub sizes : resized.sizes ≡ filling.sizes
