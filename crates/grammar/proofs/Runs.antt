-- Runs, a form of derivations of token strings that is fit for proofs: the first symbol is a token of the string, or is replaced by a
-- rule. Runs of two strings join to a run of both and come apart again, so a derivation at any places can be made one from the left: a run
-- of x ω y is a run of x and one of ω y, and the latter with a rule in front is a run of A y.
use Rattle.std.proofs.Common.{◌≡◌, ℕ, ◌↔◌, List, [], ◌∷◌, ◌++◌, sym, refl, ap, ◌∙◌, subst, subst₂, append_assoc, append-nil}
use Rattle.grammar.specs.Grammar.{Rule, Grammar, IsToken, IsRule, Every, start_symbol}
use Rattle.grammar.specs.Derivation.{Derives, Leftmost, DerivesTokens, Sentence, LeftParse}
use Rattle.grammar.proofs.Lists.{every_append}

-- From the symbols α, by the rules rs, the tokens w: the first symbol is a token of w, or is replaced by a rule.
pub data Run (g : Grammar) : List ℕ → List ℕ → List ℕ → Type 0 where
  done : Run g [] [] []
  token : {a : ℕ} {α rs w : List ℕ} → IsToken g a → Run g α rs w → Run g (a ∷ α) rs (a ∷ w)
  rule : {A r : ℕ} {α rs w : List ℕ} (ρ : Rule) → IsRule g r ρ → ρ.left ≡ A → Run g (ρ.right ++ α) rs w → Run g (A ∷ α) (r ∷ rs) w

module _ (g : Grammar) where
  pub same_symbols : {α β rs w : List ℕ} → α ≡ β → Run g α rs w → Run g β rs w
  same_symbols {α} {β} {rs} {w} e d = subst (λ (x : List ℕ). Run g x rs w) e d

  pub run_tokens : {α rs w : List ℕ} → Run g α rs w → Every (IsToken g) w
  run_tokens done = tt
  run_tokens (token t d) = (t, run_tokens d)
  run_tokens (rule ρ i l d) = run_tokens d

  -- a token string yields itself, by no rule
  pub run_self : (w : List ℕ) → Every (IsToken g) w → Run g w [] w
  run_self [] p = done
  run_self (a ∷ w) p = token p.0 (run_self w p.1)

  -- composition
  pub run_append : {α rs u : List ℕ} (β ss v : List ℕ) → Run g α rs u → Run g β ss v → Run g (α ++ β) (rs ++ ss) (u ++ v)
  run_append β ss v done e = e
  run_append β ss v (token t d) e = token t (run_append β ss v d e)
  run_append β ss v (rule {α = α} ρ i l d) e = rule ρ i l (same_symbols (append_assoc ρ.right α β) (run_append β ss v d e))

  -- and its inverse
  pub record Split (α β rs w : List ℕ) : Type 0 where
    pub rs₁ : List ℕ
    pub rs₂ : List ℕ
    pub w₁ : List ℕ
    pub w₂ : List ℕ
    pub rules : rs ≡ rs₁ ++ rs₂
    pub tokens : w ≡ w₁ ++ w₂
    pub first : Run g α rs₁ w₁
    pub second : Run g β rs₂ w₂

  pub run_split : (α β : List ℕ) {γ rs w : List ℕ} → γ ≡ α ++ β → Run g γ rs w → Split α β rs w
  run_split [] β {rs = rs} {w = w} e d = record { rs₁ = []; rs₂ = rs; w₁ = []; w₂ = w; rules = refl; tokens = refl; first = done; second = same_symbols e d }
  run_split (x ∷ α) β e done = absurd cc
  run_split (x ∷ α) β e (token {a = a} t d) =
      let s : Split α β _ _ = run_split α β (cc) d in
      record {
        rs₁ = s.rs₁;
        rs₂ = s.rs₂;
        w₁ = a ∷ s.w₁;
        w₂ = s.w₂;
        rules = s.rules;
        tokens = ap (λ (y : List ℕ). a ∷ y) s.tokens;
        first = subst (λ (y : ℕ). Run g (y ∷ α) s.rs₁ (a ∷ s.w₁)) (cc) (token t s.first);
        second = s.second;
      }
  run_split (x ∷ α) β e (rule {A = A} {r = r} {α = δ} ρ i l d) =
      let t : δ ≡ α ++ β = cc in
      let s : Split (ρ.right ++ α) β _ _ = run_split (ρ.right ++ α) β (rw t (simp append_assoc)) d in
      record {
        rs₁ = r ∷ s.rs₁;
        rs₂ = s.rs₂;
        w₁ = s.w₁;
        w₂ = s.w₂;
        rules = ap (λ (y : List ℕ). r ∷ y) s.rules;
        tokens = s.tokens;
        first = rule ρ i (l ∙ cc) s.first;
        second = s.second;
      }

  -- at the end nothing is left
  pub run_nil : {rs w : List ℕ} → Run g [] rs w → (rs ≡ []) × (w ≡ [])
  run_nil done = (refl, refl)

  -- a derivation of tokens, one step before: at any place
  run_expand : (r : ℕ) (ρ : Rule) (x δ : List ℕ) {rs w : List ℕ} → IsRule g r ρ → Run g (x ++ (ρ.right ++ δ)) rs w
      → (ss : List ℕ) × Run g (x ++ ρ.left ∷ δ) ss w
  run_expand r ρ x δ i d =
      let s : Split x (ρ.right ++ δ) _ _ = run_split x (ρ.right ++ δ) refl d in
      let ss : List ℕ = s.rs₁ ++ r ∷ s.rs₂ in
      (ss, subst (Run g (x ++ ρ.left ∷ δ) ss) (sym s.tokens) (run_append (ρ.left ∷ δ) (r ∷ s.rs₂) s.w₂ s.first (rule ρ i refl s.second)))

  pub derives→run : (rs : List ℕ) {φ w : List ℕ} → Every (IsToken g) w → Derives g φ rs w → (ss : List ℕ) × Run g φ ss w
  derives→run [] {φ} {w} t e = ([], same_symbols (sym e) (run_self w t))
  derives→run (r ∷ rs) {φ} {w} t (χ, s, d) =
      let (ss, run) = derives→run rs t d in
      let (qs, whole) = run_expand r s.rule s.before s.after s.is_rule (same_symbols s.to run) in
      (qs, same_symbols (sym s.from) whole)

  pub leftmost→derives : (P : ℕ → Type 0) (rs φ ψ : List ℕ) → Leftmost g P φ rs ψ → Derives g φ rs ψ
  leftmost→derives P [] φ ψ e = e
  leftmost→derives P (r ∷ rs) φ ψ (χ, s, d) = (χ, s.step, leftmost→derives P rs χ ψ d)

  -- a run is a leftmost derivation, with terminals before it and anything behind it
  pub run→leftmost : (P : ℕ → Type 0) → ((a : ℕ) → IsToken g a → P a) → {α rs w : List ℕ} (x δ : List ℕ) → Every P x → Run g α rs w
      → Leftmost g P (x ++ (α ++ δ)) rs (x ++ (w ++ δ))
  run→leftmost P tok x δ t done = refl
  run→leftmost P tok x δ t (token {a = a} {α = α} {rs = rs} {w = w} i d) =
      let rest = run→leftmost P tok (x ++ a ∷ []) δ (every_append P x (a ∷ []) t (tok a i, tt)) d in
      subst₂ (λ (y z : List ℕ). Leftmost g P y rs z) (append_assoc x (a ∷ []) (α ++ δ)) (append_assoc x (a ∷ []) (w ++ δ)) rest
  run→leftmost P tok x δ t (rule {A = A} {r = r} {α = α} {rs = rs} {w = w} ρ i l d) = (
    x ++ (ρ.right ++ (α ++ δ)),
    record { step = record { rule = ρ; is_rule = i; before = x; after = α ++ δ; from = ap (λ (y : ℕ). x ++ y ∷ (α ++ δ)) (sym l); to = refl }; leftmost = t },
    subst (λ (y : List ℕ). Leftmost g P (x ++ y) rs (x ++ (w ++ δ))) (append_assoc ρ.right α δ) (run→leftmost P tok x δ t d),
  )

  whole : {α rs w : List ℕ} → Run g α rs w → Leftmost g (IsToken g) α rs w
  whole {α} {rs} {w} d = subst₂ (λ (y z : List ℕ). Leftmost g (IsToken g) y rs z) (append-nil α) (append-nil w) (run→leftmost (IsToken g) (λ a t. t) [] [] tt d)

  pub derived→run : {α u : List ℕ} → DerivesTokens g α u → (rs : List ℕ) × Run g α rs u
  derived→run y = derives→run y.1.0 y.0 y.1.1

  pub run→derived : {α rs u : List ℕ} → Run g α rs u → DerivesTokens g α u
  run→derived {α} {rs} {u} d = (run_tokens d, (rs, leftmost→derives (IsToken g) rs α u (whole d)))

  pub sentences_parse : (v : List ℕ) → Sentence g v ↔ ((rs : List ℕ) × LeftParse g v rs)
  sentences_parse v = (
    λ s. let (rs, d) = derived→run s in (rs, (run_tokens d, whole d)),
    λ (rs, (t, d)). (t, (rs, leftmost→derives (IsToken g) rs (start_symbol ∷ []) v d)),
  )

  pub derivations_parse : (α u : List ℕ) → DerivesTokens g α u ↔ ((rs : List ℕ) × (Every (IsToken g) u × Leftmost g (IsToken g) α rs u))
  derivations_parse α u = (
    λ s. let (rs, d) = derived→run s in (rs, (run_tokens d, whole d)),
    λ (rs, (t, d)). (t, (rs, leftmost→derives (IsToken g) rs α u d)),
  )
