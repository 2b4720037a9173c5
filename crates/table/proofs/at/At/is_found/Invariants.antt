use Rattle.std.proofs.Common.{ℕ, ◌<◌}
use Rattle.frames.specs.declared.header.Section as section
use Rattle.frames.specs.Raw.{section_of}
use Rattle.table.specs.States.{file, LeadsTo}
use Rattle.table.proofs.at.At.is_found.Given as goal

-- the states so far do not lead to it
abbrev pub invariant-loop-m : goal.invariant-loop-m
invariant-loop-m g l = (k : ℕ) → k < l.m → LeadsTo (section_of (file l.self.draft.now) k section.TheVariants.Successors) l.self.q → ⊥
