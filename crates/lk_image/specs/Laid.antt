-- The layout of a link.
use Rattle.std.specs.Prelude.{Ok}
use Rattle.lk_link.specs.declared.link.LinkInput.{LinkInput}
use Rattle.lk_layout.specs.Defined.{IsDefined}
use Rattle.lk_layout.specs.LayoutRecord.{LayoutRecord}
use Rattle.lk_layout.specs.Machines.{IsLawfulMachine, Machine}

-- the layout of a link on some lawful machine
pub record IsLayoutOf (link : LinkInput) (layout : LayoutRecord) : Type 0 where
  pub machine : Machine
  pub lawful : IsLawfulMachine machine
  pub defined : IsDefined machine link (Ok layout)
