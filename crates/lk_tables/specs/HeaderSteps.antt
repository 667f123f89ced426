-- What the code goes by where it adds headers and names of sections up. Contracts of private functions speak of these.
use Rattle.std.specs.Prelude.{ℕ, Bool, if◌then◌else◌, List}
use Rattle.std.specs.Option.{option_map_or}
use Rattle.lk_link.specs.declared.link.LinkInput.{LinkInput}
use Rattle.lk_link.specs.declared.plan.OrderEvent.{OrderEvent}
use Rattle.lk_link.specs.Inside.{placed_section}
use Rattle.lk_link.specs.Marks.{is_marked}
use Rattle.lk_tables.specs.declared.headers.HeaderSizes.{HeaderSizes}
use Rattle.lk_tables.specs.HeaderParts.{section_name_bytes}

-- nothing
abbrev pub no_headers : HeaderSizes
no_headers = record { file_header = 0; program_headers = 0; section_headers = 0; shstrtab = 0 }

-- the name of the section that an event places, if it is emitted
abbrev pub event_name : LinkInput → List Bool → OrderEvent → ℕ
event_name link emitted e = option_map_or (λ s. if is_marked emitted s then section_name_bytes link s else 0) (placed_section e) 0
