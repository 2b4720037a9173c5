-- Refusals as numbers for C.
use Rattle.std.specs.Prelude.{[], slice_index}
use Rattle.refusal.specs.Refusal.{Refusal}
use Rattle.reader_c.specs.declared.cause.Cause.{Cause}

-- A refusal: its number, and the numbers that are returned with it from the first place on, with 0 behind them.
abbrev pub cause : Refusal → Cause
cause r = record { number = r.number; first = slice_index r.returned 0; second = slice_index r.returned 1; third = slice_index r.returned 2 }

-- Nothing was refused.
abbrev pub none : Cause
none = cause (record { number = 0; returned = [] })
