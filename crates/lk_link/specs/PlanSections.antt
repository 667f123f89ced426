-- The sections of a plan by their numbers, and what their attributes say.
use Rattle.std.specs.Prelude.{ℕ, ◌==◌, ◌&&◌, not, Bool, false, if◌then◌else◌, List, [], None, unwrap_or, bit_and}
use Rattle.std.specs.List.{slice_index_or}
use Rattle.std.specs.Option.{option_map_or}
use Rattle.lk_link.specs.declared.plan.Emit.TheVariants.{Auto}
use Rattle.lk_link.specs.declared.plan.Plan.{Plan}
use Rattle.lk_link.specs.declared.plan.PlanSection.{PlanSection}
use Rattle.lk_link.specs.declared.plan.attributes.TheConstants.{ALLOC, TLS, NOBITS}

-- stands for a section where there is none
abbrev pub no_section : PlanSection
no_section = record {
  name = [];
  attrs = 0;
  align = 1;
  parts = [];
  primary = None;
  emit = Auto;
  region = None;
  at = None;
  top = false;
  counters = false;
}

-- the section with this number
abbrev pub section_at : List PlanSection → ℕ → PlanSection
section_at sections s = slice_index_or sections s no_section

-- the section that it is secondary to, else itself
abbrev pub primary_of : List PlanSection → ℕ → ℕ
primary_of sections s = unwrap_or (section_at sections s).primary s

-- whether a flag is among attributes
abbrev pub is_set : ℕ → ℕ → Bool
is_set flag attributes = not (bit_and attributes flag == 0)

-- whether its input sections stay output sections of their own (given for partial output alone)
abbrev pub is_singletons : Plan → ℕ → Bool
is_singletons plan s = option_map_or (λ t. t == s) plan.singletons false

-- the attributes of a section without its primary; the section of singletons is placed as one without attributes
abbrev pub own_attributes : Plan → ℕ → ℕ
own_attributes plan s = if is_singletons plan s then 0 else (section_at plan.sections s).attrs

-- has memory set aside when the program runs, as its primary has
abbrev pub is_allocated : Plan → ℕ → Bool
is_allocated plan s = is_set ALLOC (own_attributes plan (primary_of plan.sections s))

-- takes bytes of the file, as its primary does
abbrev pub is_file_backed : Plan → ℕ → Bool
is_file_backed plan s = not (is_set NOBITS (own_attributes plan (primary_of plan.sections s)))

-- holds thread-local data
abbrev pub is_thread_local : Plan → ℕ → Bool
is_thread_local plan s = is_set TLS (own_attributes plan s)

-- holds thread-local data that is all zero and takes no bytes of the file
abbrev pub is_zero_fill_thread_local : Plan → ℕ → Bool
is_zero_fill_thread_local plan s = is_thread_local plan s && is_set NOBITS (own_attributes plan s)

-- takes addresses: allocated, and not zero-fill thread-local
abbrev pub has_memory : Plan → ℕ → Bool
has_memory plan s = is_allocated plan s && not (is_zero_fill_thread_local plan s)
