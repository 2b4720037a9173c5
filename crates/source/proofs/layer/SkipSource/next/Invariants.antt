use Rattle.std.proofs.Common.{◌≡◌, length}
use Rattle.source.specs.Layers.{skipped}
use Rattle.source.proofs.layer.SkipSource.next.Given as goal

-- what was dropped so far does not show through the layer
abbrev pub invariant-skipped : goal.invariant-skipped
invariant-skipped g l =
    let m = g.S.Source.meaning in
    (l.self.kind ≡ l.initial.self.kind) × (skipped l.initial.self.kind (m l.self.source) ≡ skipped l.initial.self.kind (m l.initial.self.source))

abbrev pub decreases-skipped : goal.decreases-skipped
decreases-skipped g l = length (g.S.Source.meaning l.self.source).tokens
