-- What a checked table holds, and that nothing is wrong with it.
use Rattle.frames.specs.Raw.{Raw}
use Rattle.frames.specs.Views.{raw}
use Rattle.table.specs.Rows.{AcceptedFile}
use Rattle.table.specs.declared.passed.CheckedTable.{CheckedTable}

-- Its frames.
abbrev pub contents : CheckedTable → Raw
contents t = raw t.frames

-- The check has accepted them.
pub is_accepted : (t : CheckedTable) → ∥ AcceptedFile (contents t) ∥₁
is_accepted t = t.good
