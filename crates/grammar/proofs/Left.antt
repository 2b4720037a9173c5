-- Left sentential forms. Their shape x A δ is told by what is reached: A is the start with nothing behind it, or stands in a rule of some
-- reached B, with the rest of that rule and what is behind B behind it. Each nonterminal of a form is reached; and what is reached is the
-- leftmost one of some form, since the symbols before it derive token strings.
use Rattle.std.proofs.Common.{◌≡◌, ℕ, List, [], ◌∷◌, ◌++◌, sym, refl, ap, subst, ap₂, subst₂, append_assoc}
use Rattle.grammar.specs.Grammar.{Rule, Grammar, IsToken, IsRule, Every}
use Rattle.grammar.specs.Derivation.{Step, Leftmost}
use Rattle.grammar.proofs.Lists.{one_front, every_append, every_back}
use Rattle.grammar.proofs.Steps.{Came, before, brought, behind, came}
use Rattle.grammar.proofs.Runs.{Run, run→leftmost}

-- B is reached from S with σ behind it.
pub data Reached (h : Grammar) (S : ℕ) : ℕ → List ℕ → Type 0 where
  top : {B : ℕ} {σ : List ℕ} → B ≡ S → σ ≡ [] → Reached h S B σ
  down : {A B : ℕ} {δ σ : List ℕ} (r : ℕ) (ρ : Rule) (α β : List ℕ) → Reached h S A δ → IsRule h r ρ → ρ.left ≡ A
      → ρ.right ≡ α ++ B ∷ β → σ ≡ β ++ δ → Reached h S B σ

pub same_reached : (h : Grammar) (S : ℕ) {A B : ℕ} {σ τ : List ℕ} → A ≡ B → σ ≡ τ → Reached h S A σ → Reached h S B τ
same_reached h S e f d = subst₂ (λ (x : ℕ) (y : List ℕ). Reached h S x y) e f d

-- P says which symbols are terminals, and S is the start
module _ (h : Grammar) (P : ℕ → Type 0) (S : ℕ) where
  leftmost_trans : (rs ss φ ψ χ : List ℕ) → Leftmost h P φ rs ψ → Leftmost h P ψ ss χ → Leftmost h P φ (rs ++ ss) χ
  leftmost_trans [] ss φ ψ χ d e = subst (λ (z : List ℕ). Leftmost h P z ss χ) (sym d) e
  leftmost_trans (r ∷ rs) ss φ ψ χ (θ, s, d) e = (θ, s, leftmost_trans rs ss θ ψ χ d e)

  -- no left side is a terminal
  module _ (apart : (r : ℕ) (ρ : Rule) → IsRule h r ρ → P ρ.left → ⊥) where
    -- every nonterminal of a string is reached with what stands behind it
    abbrev AllReached : List ℕ → Type 0
    AllReached φ = (x : List ℕ) (B : ℕ) (δ : List ℕ) → φ ≡ x ++ B ∷ δ → (P B → ⊥) → Reached h S B δ

    step_reached : (r : ℕ) (φ ψ : List ℕ) (s : Step h r φ ψ) → Every P s.before → AllReached φ → AllReached ψ
    step_reached r φ ψ s t all x B δ e no_terminal = by (came s x B δ e)
      where
        by : Came s B δ → Reached h S B δ
        by (before y more f) = absurd (no_terminal (every_back P y (B ∷ more) (subst (Every P) f t)).0)
        by (brought y more f k) =
            let d : Reached h S s.rule.left s.after = all s.before s.rule.left s.after s.from (apart r s.rule s.is_rule) in
            down r s.rule y more d s.is_rule refl f k
        by (behind y f) = all y B δ f no_terminal

    all_reached : (rs φ ψ : List ℕ) → Leftmost h P φ rs ψ → AllReached φ → AllReached ψ
    all_reached [] φ ψ e a = subst AllReached e a
    all_reached (r ∷ rs) φ ψ (χ, s, d) a = all_reached rs χ ψ d (step_reached r φ χ s.step s.leftmost a)

    pub form→reached : (rs x δ : List ℕ) (B : ℕ) → Leftmost h P (S ∷ []) rs (x ++ B ∷ δ) → (P B → ⊥) → Reached h S B δ
    form→reached rs x δ B d n = all_reached rs (S ∷ []) (x ++ B ∷ δ) d (λ y C ε e _. let (a, b, c) = one_front y ε e in top (sym b) c) x B δ refl n

  -- a left sentential form x A δ
  pub record Form (A : ℕ) (δ : List ℕ) : Type 0 where
    pub x : List ℕ
    pub terminals : Every P x
    pub rs : List ℕ
    pub derived : Leftmost h P (S ∷ []) rs (x ++ A ∷ δ)

  -- tokens are terminals, and what stands before a symbol in a rule derives a token string
  module _ (tok : (a : ℕ) → IsToken h a → P a)
      (prod : (r : ℕ) (ρ : Rule) (α β : List ℕ) (B : ℕ) → IsRule h r ρ → ρ.right ≡ α ++ B ∷ β → (rs w : List ℕ) × (Run h α rs w × Every P w)) where
    pub reached→form : {A : ℕ} {δ : List ℕ} → Reached h S A δ → Form A δ
    reached→form {A} {δ} (top e f) = record { x = []; terminals = tt; rs = []; derived = ap₂ (λ (y : ℕ) (z : List ℕ). y ∷ z) (sym e) (sym f) }
    reached→form {A = B} {δ = σ} (down {A = A} {δ = δ} r ρ α β d i l e f) =
        let form = reached→form d in
        let x = form.x in
        let (rs, w, (run, t)) = prod r ρ α β B i e in
        let mid : List ℕ = x ++ (α ++ B ∷ (β ++ δ)) in
        let end : List ℕ = x ++ (w ++ B ∷ (β ++ δ)) in
        let one : Leftmost h P (x ++ A ∷ δ) (r ∷ []) mid = (
          mid,
          record {
            step =
                record {
                  rule = ρ;
                  is_rule = i;
                  before = x;
                  after = δ;
                  from = ap (λ (y : ℕ). x ++ y ∷ δ) (sym l);
                  to = rw e (simp append_assoc);
                };
            leftmost = form.terminals;
          },
          refl,
        ) in
        let two : Leftmost h P mid rs end = run→leftmost h P tok x (B ∷ (β ++ δ)) form.terminals run in
        let start = leftmost_trans form.rs (r ∷ []) (S ∷ []) (x ++ A ∷ δ) mid form.derived one in
        let all = leftmost_trans (form.rs ++ r ∷ []) rs (S ∷ []) mid end start two in
        record {
          x = x ++ w;
          terminals = every_append P x w form.terminals t;
          rs = (form.rs ++ r ∷ []) ++ rs;
          derived = subst (Leftmost h P (S ∷ []) ((form.rs ++ r ∷ []) ++ rs)) (rw f (simp append_assoc)) all;
        }
