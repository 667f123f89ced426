use Rattle.lk_merge.proofs.workers.merge_section_by_workers.Given as goal

-- the matrix is of the section's inputs and groups
abbrev pub ghosts-merge_groups : goal.ghosts-merge_groups
ghosts-merge_groups g a = record { work = record { section = a.section; limit = a.limit; inputs = a.inputs.now; groups = a.groups.now } }
