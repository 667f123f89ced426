use Rattle.lk_slot_link.specs.LinkLists.{lists_of}
use Rattle.lk_workers.proofs.workers.walk_by_workers.Given as goal

-- workers rest on the lists of the link
abbrev pub ghosts-walk : goal.ghosts-walk
ghosts-walk g a = record { lists = lists_of a.link.now }
