-- What sizing finds.
use Rattle.std.specs.Prelude.{ℕ, List, Option}
use Rattle.lk_link.specs.declared.ids.FileId.{FileId}
use Rattle.lk_tables.specs.declared.commons.Common.{Common}
use Rattle.lk_tables.specs.declared.header_info.HeaderInfo.{HeaderInfo}
use Rattle.lk_tables.specs.declared.numbers.DynamicNumbers.{DynamicNumbers}
use Rattle.lk_tables.specs.declared.shares.FileShare.{FileShare}
use Rattle.lk_sizes.specs.declared.owners.PartContents.{PartContents}
use Rattle.lk_sizes.specs.declared.sorted.InputSortedSection.{InputSortedSection}

-- what comes into each part; which sections and segments are told; the numbers of dynamic symbols at the first symbol; the
-- commons that take bytes; what each file's symbols take in tables first; the sorted sections; the lengths of merged images, by
-- output section; the bytes of blocks of thunks, by the files that own them; and the sizes of input sections, where they are given
pub record OwnersRecord : Type 0 where
  pub contents : List PartContents
  pub header : HeaderInfo
  pub numbers : DynamicNumbers
  pub commons : List Common
  pub shares : List FileShare
  pub sorted : List InputSortedSection
  pub lens : List ℕ
  pub thunks : List (FileId × ℕ)
  pub sizes : Option (List ℕ)
