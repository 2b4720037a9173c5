-- What a run does first: where a token stands first it is read, and any other symbol is replaced by a rule. A left parse is a run from the start
-- symbol, as its steps replace what stands first behind the tokens that were read.
use Rattle.std.proofs.Common.{◌≡◌, ℕ, List, [], ◌∷◌, ◌++◌, refl, sym, subst, subst₂, append-nil, arith}
use Rattle.grammar.specs.Grammar.{Rule, Grammar, IsToken, IsRule, Every, WellFormed, start_symbol}
use Rattle.grammar.specs.Derivation.{Leftmost, LeftParse}
use Rattle.grammar.proofs.Runs.{Run, token, rule, same_symbols, run_tokens, run_self, run→leftmost}

module _ (g : Grammar) where
  pub rule_one : (r : ℕ) {ρ τ : Rule} → IsRule g r ρ → IsRule g r τ → ρ ≡ τ
  rule_one r i j = cc

  -- a rule replaces the first symbol
  pub record ByRule (A : ℕ) (α rs w : List ℕ) : Type 0 where
    pub number : ℕ
    pub others : List ℕ
    pub applied : Rule
    pub is_rule : IsRule g number applied
    pub left_is : applied.left ≡ A
    pub rules_are : rs ≡ number ∷ others
    pub rest : Run g (applied.right ++ α) others w

  pub run_rule : {A : ℕ} {α rs w : List ℕ} → (IsToken g A → ⊥) → Run g (A ∷ α) rs w → ByRule A α rs w
  run_rule no_token (token t d) = absurd (no_token t)
  run_rule no_token (rule {r = r} {rs = rs} ρ i l d) =
      record { number = r; others = rs; applied = ρ; is_rule = i; left_is = l; rules_are = refl; rest = d }

  pub run→parse : {v rs : List ℕ} → Run g (start_symbol ∷ []) rs v → LeftParse g v rs
  run→parse {v} {rs} d = (
    run_tokens g d,
    subst₂ (λ (y z : List ℕ). Leftmost g (IsToken g) y rs z) (append-nil (start_symbol ∷ [])) (append-nil v)
        (run→leftmost g (IsToken g) (λ a t. t) [] [] tt d),
  )

  module _ (wf : WellFormed g) where
    -- a token at the front is read
    pub run_token : {a : ℕ} {α rs w : List ℕ} → IsToken g a → Run g (a ∷ α) rs w → (v : List ℕ) × ((w ≡ a ∷ v) × Run g α rs v)
    run_token t (token {w = w} h d) = (w, (refl, d))
    run_token t (rule {r = r} ρ i l d) = absurd (omega (arith, (wf.left_side r ρ i).0, l, t.1, wf.tokens_below))

    -- a leftmost step before a run
    run_expand_left : (r : ℕ) (ρ : Rule) (x δ : List ℕ) {rs w : List ℕ} → IsRule g r ρ → Every (IsToken g) x → Run g (x ++ (ρ.right ++ δ)) rs w
        → Run g (x ++ ρ.left ∷ δ) (r ∷ rs) w
    run_expand_left r ρ [] δ i t d = rule ρ i refl d
    run_expand_left r ρ (a ∷ x) δ {rs} i t d =
        let (v, (e, rest)) = run_token t.0 d in
        subst (λ (y : List ℕ). Run g (a ∷ (x ++ ρ.left ∷ δ)) (r ∷ rs) y) (sym e) (token t.0 (run_expand_left r ρ x δ i t.1 rest))

    pub leftmost→run : (rs : List ℕ) {φ w : List ℕ} → Every (IsToken g) w → Leftmost g (IsToken g) φ rs w → Run g φ rs w
    leftmost→run [] {φ} {w} t e = same_symbols g (sym e) (run_self g w t)
    leftmost→run (r ∷ rs) t (χ, s, d) =
        let rest = same_symbols g s.step.to (leftmost→run rs t d) in
        same_symbols g (sym s.step.from) (run_expand_left r s.step.rule s.step.before s.step.after s.step.is_rule s.leftmost rest)

    pub parse→run : {v rs : List ℕ} → LeftParse g v rs → Run g (start_symbol ∷ []) rs v
    parse→run {rs = rs} (t, d) = leftmost→run rs t d
