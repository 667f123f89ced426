-- Words of private contracts: whose asks are left, and which.
use Rattle.std.specs.Prelude.{◌≡◌, List, [], Some}
use Rattle.lk_link.specs.declared.link.LinkInput.{LinkInput}
use Rattle.lk_link.specs.Files.{file_in}
use Rattle.lk_link.specs.Inputs.{NumberedFile}
use Rattle.lk_reach.specs.declared.asks.Asker.{Asker}
use Rattle.lk_reach.specs.declared.asks.Asker.TheVariants as asker
use Rattle.lk_reach.specs.declared.units.Ask.{Ask}

abbrev pub asks_left : Asker → List Ask
asks_left asker.Nobody = []
asks_left (asker.Section asks) = asks
asks_left (asker.Candidates asks) = asks
asks_left (asker.Redirect asks) = asks
asks_left (asker.Object asks) = asks
asks_left (asker.Dynamic asks) = asks
asks_left (asker.Prelude asks) = asks
asks_left (asker.Script asks) = asks

-- a file stands where its number says
abbrev pub IsFileOf : LinkInput → NumberedFile → Type 0
IsFileOf link f = file_in link.groups f.id ≡ Some f.file
