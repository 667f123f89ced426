-- What is found before symbols are resolved: words of private contracts.
use Rattle.std.specs.Prelude.{◌≡◌, ℕ, ◌+◌, ◌<◌, ◌^◌, List, length, slice_index}
use Rattle.lk_expressions.specs.Records.{Record, record_at}
use Rattle.lk_merge.specs.Addresses.{image_start, start_addresses}
use Rattle.lk_merge.specs.Hash.{fnv64}
use Rattle.lk_merge.specs.LinkInputs.{link_inputs}
use Rattle.lk_sizes.specs.Addresses.{block_addresses, common_addresses, section_addresses}
use Rattle.lk_sizes.specs.Images.{image_addresses}
use Rattle.lk_sizes.specs.Owners.{Filling}
use Rattle.lk_resolutions.specs.declared.addresses.FoundAddresses.{FoundAddresses}
use Rattle.lk_resolutions.specs.Starts.{starts_of}

-- parts with these records that start here end below 2^64
abbrev pub EndInMemory : List Record → List ℕ → Type 0
EndInMemory records starts = (p : ℕ) → p < length records → slice_index starts p + (record_at records p).mem_size < 2 ^ 64

-- these are the addresses of what fills parts with these records, and each image starts where it stands
pub record AreFound (filling : Filling) (records : List Record) (found : FoundAddresses) : Type 0 where
  pub starts : found.starts.items ≡ starts_of records
  pub sections : found.sections.items ≡ section_addresses filling (starts_of records)
  pub commons : found.commons.items ≡ common_addresses filling (starts_of records)
  pub blocks : found.blocks.items ≡ block_addresses filling (starts_of records)
  pub buckets : found.buckets ≡ start_addresses fnv64 (link_inputs filling.content.link).outputs (image_addresses filling (starts_of records))
  pub images : (t : ℕ) → t < length (link_inputs filling.content.link).outputs
      → image_start found.buckets t ≡ slice_index (image_addresses filling (starts_of records)) t
