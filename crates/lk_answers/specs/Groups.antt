-- What is told of the groups of a layout.
use Rattle.std.specs.Prelude.{◌≡◌, ℕ, slice_index}
use Rattle.lk_answers.specs.declared.group_layouts.GroupLayout.{GroupLayout}
use Rattle.lk_layout.specs.LayoutRecord.{LayoutRecord}

-- its files are those of the group with this number, and it begins where that does
pub record IsGroup (all : LayoutRecord) (g : ℕ) (group : GroupLayout) : Type 0 where
  pub layout : group.files.layout.now ≡ all
  pub number : group.files.group ≡ g
  pub strtab : group.strtab_start_offset ≡ slice_index all.group_starts.strtab g
  pub dynstr : group.dynstr_start_offset ≡ slice_index all.group_starts.dynstr g
  pub locals : group.symtab_local_start_index ≡ slice_index all.group_starts.symtab_local g
  pub globals : group.symtab_global_start_index ≡ slice_index all.group_starts.symtab_global g
