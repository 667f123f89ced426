-- Where the parts of a placement start, and what they take.
use Rattle.std.specs.Prelude.{◌≡◌, ℕ, ◌<◌, List, length, map}
use Rattle.lk_expressions.specs.Records.{Record, record_at}
use Rattle.lk_sizes.specs.Owners.{AreThunkOwners, Filling}
use Rattle.lk_sizes.specs.OwnersRecord.{OwnersRecord}
use Rattle.lk_sizes.specs.PartOwners.{part_size}
use Rattle.lk_sizes.specs.Sizing.{AreFilled}

-- where parts with these records start in memory
abbrev pub starts_of : List Record → List ℕ
starts_of records = map (λ r. r.mem_offset) records

-- each part takes the bytes of its owners there
abbrev pub TakeTheirBytes : Filling → List Record → Type 0
TakeTheirBytes filling records = (p : ℕ) → p < length records → (record_at records p).mem_size ≡ part_size filling p

-- what sizing found is this filling, and parts with these records take its bytes
pub record IsPlaced (filling : Filling) (owners : OwnersRecord) (records : List Record) : Type 0 where
  pub filled : AreFilled filling owners
  pub thunks : AreThunkOwners filling.content.link filling.thunks
  pub takes : TakeTheirBytes filling records
