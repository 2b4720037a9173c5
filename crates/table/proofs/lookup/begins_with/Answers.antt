use Rattle.std.proofs.Common.{◌≡◌, ℕ, [], ◌∷◌, sym, ◌∙◌, subst, ap}
use Rattle.std.proofs.lemmas.Bool.{eq-eqb, cond-true}
use Rattle.frames.specs.Form.{word_of}
use Rattle.table.specs.LookUps.{BeginsWith}
use Rattle.table.proofs.LookedUp.{begins_first}
use Rattle.table.proofs.lookup.begins_with.Goals as goal

pub returns-then-front-eq0 : goal.returns-then-front-eq0
returns-then-front-eq0 c =
    let word = c.args.word in
    let front = c.args.front in
    let none = eq-eqb front.second 0 c.if-front-eq0.true in
    let one : word.first ∷ [] ≡ word_of front.first front.second = ap (λ (x : ℕ). x ∷ []) c.if-word-front.true ∙ sym (cond-true _ _ _ none) in
    (λ _. subst (BeginsWith (word_of word.first word.second)) one (begins_first word.first word.second), λ _. none)
