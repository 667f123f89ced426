-- What several records span, one after the other. Contracts of private functions speak of it; that it is their hull is proved by
-- lemmas.
use Rattle.std.specs.Prelude.{◌-◌, max, min, Option, Some, None}
use Rattle.lk_expressions.specs.Records.{Record, file_end, mem_end}

-- what reaches from the lesser start to the greater end
abbrev pub spanned : Record → Record → Record
spanned a b = record {
  file_size = max (file_end a) (file_end b) - min a.file_offset b.file_offset;
  mem_size = max (mem_end a) (mem_end b) - min a.mem_offset b.mem_offset;
  alignment = max a.alignment b.alignment;
  file_offset = min a.file_offset b.file_offset;
  mem_offset = min a.mem_offset b.mem_offset;
  lma_offset = min a.lma_offset b.lma_offset;
}

-- what reaches over one more
abbrev pub with_record : Option Record → Record → Option Record
with_record None r = Some r
with_record (Some h) r = Some (spanned h r)
