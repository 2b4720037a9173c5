-- The actions of the canonical parser. Equivalent suffixes have the same top, which is a token where the parser shifts and a nonterminal
-- where it produces. Lookahead words are token strings with the end mark, cut to k: one that is shorter ends in the mark, which stands
-- nowhere else.
use Rattle.std.proofs.Common.{◌≡◌, ℕ, zero, suc, ◌↔◌, List, [], ◌∷◌, ◌++◌, take, sym, refl, ap, ◌∙◌, subst, arith}
use mathlib.Core.Logic.Iff
use Rattle.grammar.specs.Grammar.{Grammar, IsToken, Every, WellFormed, end_mark}
use Rattle.grammar.specs.Sound.{Sound}
use Rattle.grammar.specs.Viable.{Viable, SuffixWord, Equivalent, Suffix}
use Rattle.grammar.specs.Parser.{ClassWord, Shifts, Produces}
use Rattle.grammar.proofs.Lists.{head_is, tail_is, take_nil}
use Rattle.grammar.proofs.Runs.{run_tokens}
use Rattle.grammar.proofs.First.{token_no_mark}
use Rattle.grammar.proofs.Suffixes.{Cut, word→cut, body, equivalent_words, equivalents_agree}

-- P is of no end mark
module _ (P : ℕ → Type 0) (n : P end_mark → ⊥) where
  cut_whole : (k : ℕ) (u v z : List ℕ) → Every P u → Every P v → take k (u ++ end_mark ∷ []) ++ z ≡ take k (v ++ end_mark ∷ []) → z ≡ []
  cut_whole zero u v z p q e = e
  cut_whole (suc k) [] [] z p q e = ap (λ (y : List ℕ). y ++ z) (sym (take_nil k)) ∙ tail_is e ∙ take_nil k
  cut_whole (suc k) [] (b ∷ v) z p q e = absurd (n (subst P (sym (head_is e)) q.0))
  cut_whole (suc k) (a ∷ u) [] z p q e = absurd (n (subst P (head_is e) p.0))
  cut_whole (suc k) (a ∷ u) (b ∷ v) z p q e = cut_whole k u v z p.1 q.1 (tail_is e)

module _ (g : Grammar) (s : Sound g) where
  wf : WellFormed g
  wf = s.well_formed

  -- the words of a class are those of any suffix of it
  pub class_word : (σ y : List ℕ) → Viable g σ → ClassWord g σ y ↔ SuffixWord g σ y
  class_word σ y v = (
    λ c. equivalent_words g s c.other σ c.viable c.equivalent y c.word,
    λ w. record { other = σ; viable = v; equivalent = λ i z. Iff.rfl; word = w },
  )

  pub actions_exclude : (σ τ : List ℕ) (a A : ℕ) (y z : List ℕ) (r : ℕ) → Shifts g σ a y → Produces g τ A z r → Equivalent g (a ∷ σ) (A ∷ τ) → ⊥
  actions_exclude σ τ a A y z r h p e =
      let same : a ≡ A = equivalents_agree g s a A σ τ h.viable p.viable e in
      omega (arith, h.token.1, wf.tokens_below, same, p.left_is, (wf.left_side r p.rule p.is_rule).0)

  -- a word of a suffix, by its tokens
  word_tokens : (σ y : List ℕ) → Suffix g σ → SuffixWord g σ y → (u : List ℕ) × (Every (IsToken g) u × (y ≡ take g.k (u ++ end_mark ∷ [])))
  word_tokens σ y f w =
      let (δ, (e, p)) = body g s σ f in
      let c : Cut g δ y = word→cut g s δ y p (subst (λ (z : List ℕ). SuffixWord g z y) e w) in
      (c.string, (run_tokens g c.run, c.cut))

  pub words_are_whole : (σ τ y z : List ℕ) → Suffix g σ → Suffix g τ → SuffixWord g σ y → SuffixWord g τ (y ++ z) → z ≡ []
  words_are_whole σ τ y z f h w x =
      let (u, (p, e)) = word_tokens σ y f w in
      let (v, (q, e')) = word_tokens τ (y ++ z) h x in
      cut_whole (IsToken g) (λ t. token_no_mark g wf end_mark t refl) g.k u v z p q (ap (λ (t : List ℕ). t ++ z) (sym e) ∙ e')
