-- A reading that differs from another in its memory alone.
use Rattle.std.proofs.Common.{◌≡◌, ℕ, sym, ap, ◌∙◌, subst₂}
use Rattle.source.specs.Meaning.{Meaning}
use Rattle.frames.specs.Raw.{Raw}
use Rattle.table.specs.Checked.{contents}
use Rattle.table.specs.Contents.{grammar_of, table_of}
use Rattle.table.specs.LookUps.{AfterDots}
use Rattle.reading.specs.declared.reading.Reading.{Reading}
use Rattle.reading.specs.Filling.{Faces, Filling}
use Rattle.reading.specs.Given.{symbols_of}
use Rattle.reading.specs.Model.{model}
use Rattle.reading.specs.State.{State}
use Rattle.reading.specs.Window.{Full}

module _ {F : Type 0} (r r' : Reading F) (table : r'.table ≡ r.table) (state : model r' ≡ model r) where
  -- what holds of the one holds of the other
  pub moved : (P : Raw → State → Type 0) → P (contents r.table) (model r) → P (contents r'.table) (model r')
  moved P = subst₂ P (sym (ap contents table)) (sym state)

  pub same_filling : {r₀ : Reading F} {m m' : Meaning F} {q : ℕ} → Filling r₀ m q r m' → Filling r₀ m q r' m'
  same_filling f =
      record {
        table = ap contents table ∙ f.table;
        below = f.below;
        let_in = f.let_in;
        asks = f.asks;
        state = state ∙ f.state;
      }

  pub same_faces : {q p A : ℕ} → Faces r q p A → Faces r' q p A
  same_faces {q} {p} {A} f =
      record {
        below = f.below;
        stack_is = ap (λ (s : State). s.stack) state ∙ f.stack_is;
        dots = moved (λ R s. AfterDots (grammar_of R) (table_of R) q A) f.dots;
        full = moved (λ R s. Full (grammar_of R) (symbols_of s.window)) f.full;
      }
