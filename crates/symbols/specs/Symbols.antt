-- The nonterminals among the symbols.
use Rattle.std.specs.Prelude.{ℕ, ◌-◌, if◌then◌else◌, nat_lt, Some, None, Option}

-- Which nonterminal a symbol is, counted from the start symbol, which is 32.
abbrev pub index_of : ℕ → Option ℕ
index_of X = if nat_lt X 32 then None else Some (X - 32)
