use Rattle.lk_slot_link.specs.LinkLists.{lists_of}
use Rattle.lk_reach_tests.proofs.traversal.workers.add_own_turns.Given as goal

-- workers rest on the lists of the link
abbrev pub ghosts-add_turns : goal.ghosts-add_turns
ghosts-add_turns g a = record { lists = lists_of a.link.now }
