-- What cutting the first frame off a text finds.
use Rattle.std.specs.Prelude.{◌≡◌, ℕ, true, List, ◌∷◌, ◌++◌, Some, None, Option, ◌≢◌}
use Rattle.std.specs.Borrow.{Bor}
use Rattle.load.specs.Lines.{is_frame}

-- the text does not begin with a frame that is closed
abbrev pub Unframed : List ℕ → Type 0
Unframed text = (line rest : List ℕ) → is_frame line ≡ true → text ≢ line ++ 10 ∷ rest

-- the frame that a text begins with, if there is one, and what is left of the text
abbrev pub Cuts : List ℕ → Option (Bor (List ℕ)) → List ℕ → Type 0
Cuts text (Some digits) left = (is_frame digits.now ≡ true) × (text ≡ digits.now ++ 10 ∷ left)
Cuts text None left = Unframed text × (left ≡ text)
