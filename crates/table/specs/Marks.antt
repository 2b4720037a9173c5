-- Which nonterminals are productive and reachable, by marks.
use Rattle.std.specs.Prelude.{◌≡◌, ℕ, ◌+◌, ◌≤◌, false, List, Decides}
use Rattle.grammar.specs.Grammar.{IsNonterminal}
use Rattle.grammar.specs.Sound.{Productive, Reachable}
use Rattle.solver.specs.declared.yes.Yes.{Yes}
use Rattle.items.specs.Actives.{mark}
use Rattle.frames.specs.Raw.{Raw}
use Rattle.table.specs.Contents.{grammar_of}

-- One of n nonterminals is not marked.
abbrev pub Unmarked : ℕ → List Yes → ℕ → Type 0
Unmarked n vs A = (32 ≤ A) × (A ≤ 31 + n) × ((mark vs A).0 ≡ false)

-- The productive nonterminals are marked.
abbrev pub MarksProductive : Raw → List Yes → Type 0
MarksProductive R vs = (A : ℕ) → IsNonterminal (grammar_of R) A → Decides (mark vs A).0 (Productive (grammar_of R) A)

-- The reachable nonterminals are marked.
abbrev pub MarksReachable : Raw → List Yes → Type 0
MarksReachable R vs = (A : ℕ) → IsNonterminal (grammar_of R) A → Decides (mark vs A).0 (Reachable (grammar_of R) A)
