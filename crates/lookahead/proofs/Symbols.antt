-- FIRST of a token is the token, since no rule replaces it; that of a nonterminal is its set.
use Rattle.std.proofs.Common.{◌≡◌, ℕ, ◌↔◌, List, [], ◌∷◌, take, Decides, sym, refl, ap, ◌∙◌, subst, ap₂, inl, inr, arith}
use Rattle.std.proofs.lemmas.Bool.{cond_below, cond_above}
use Rattle.grammar.specs.Grammar.{Grammar, IsToken, WellFormed}
use Rattle.grammar.specs.First.{First}
use Rattle.grammar.specs.Equations.{value}
use Rattle.grammar.proofs.Lists.{head_is, tail_is}
use Rattle.grammar.proofs.Runs.{Run, done, token, rule, same_symbols, run_nil, derived→run}
use Rattle.grammar.proofs.First.{run→first, terminals→tokens}
use Rattle.solver.specs.Solution.{valuation}
use Rattle.words.specs.Codes.{cut}
use Rattle.words.specs.Sets.{member, word_kind}
use Rattle.words.specs.declared.set.Words.{Words}
use Rattle.words.proofs.WordsCut.{words_cut}
use Rattle.lookahead.specs.Theorems.{SymbolsFirst}

module _ (g : Grammar) (wf : WellFormed g) (a : ℕ) (t : IsToken g a) where
  token_stays : {α rs u : List ℕ} → Run g α rs u → α ≡ a ∷ [] → u ≡ a ∷ []
  token_stays done e = absurd cc
  token_stays (token p d) e = ap₂ (λ (x : ℕ) (xs : List ℕ). x ∷ xs) (head_is e) (run_nil g (same_symbols g (tail_is e) d)).1
  token_stays (rule {A = A} {r = r} ρ i l d) e =
      let n = wf.left_side r ρ i in
      let same : A ≡ a = head_is e in
      absurd (omega (arith, n.0, l, same, t.1, wf.tokens_below))

  token_first : (w : List ℕ) → First g (a ∷ []) w ↔ (w ≡ take g.k (a ∷ []))
  token_first w = (
    λ (u, (d, e)). let (rs, run) = derived→run g (terminals→tokens g wf (a ∷ []) u (inl t, tt) d) in e ∙ ap (take g.k) (token_stays run refl),
    λ e. subst (First g (a ∷ [])) (sym e) (run→first g (token t done)),
  )

pub symbols_first : (k : ℕ) → SymbolsFirst k
symbols_first k ρs vs first g rules n size wf few X (inl t) w =
    let o = word_kind k in
    let S = valuation o vs in
    let e : o.token X ≡ value o S X = cond_below X 32 (o.token X) (S X) (omega (arith, t.1, wf.tokens_below)) in
    let c = (words_cut k g few).token X t w in
    let f = token_first g wf X t w in
    let cuts : take g.k (X ∷ []) ≡ take (cut k) (X ∷ []) = ap (λ (j : ℕ). take j (X ∷ [])) size in
    subst (λ (x : Words k). Decides (member x w) (First g (X ∷ []) w)) e (λ m. f.1 (c.0 m ∙ sym cuts), λ p. c.1 (f.0 p ∙ cuts))
symbols_first k ρs vs first g rules n size wf few X (inr m) w =
    let o = word_kind k in
    let S = valuation o vs in
    let e : S X ≡ value o S X = cond_above X 32 (o.token X) (S X) (S X) m.0 refl in
    subst (λ (x : Words k). Decides (member x w) (First g (X ∷ []) w)) e (first g rules n size wf few X m w)
