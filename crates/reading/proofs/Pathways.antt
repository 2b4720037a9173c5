-- A stack stands for a string, and the string with the end mark is a viable suffix: its state is the top. So the words of the top are FIRST of
-- the string with the end mark, the symbol after its dots is the first of the string, and successors exist along each rule of a nonterminal
-- that stands there.
use Rattle.std.proofs.Common.{◌≡◌, ℕ, ◌+◌, ◌<◌, List, [], ◌∷◌, ◌++◌, length, refl, sym, ap, ◌∙◌, subst, ap₂, arith}
use Rattle.std.proofs.lemmas.List.{append_cancel_right}
use mathlib.Core.Option.{some}
use mathlib.Core.List.{Memᴰ}
use mathlib.Core.List.Memᴰ
use Rattle.grammar.specs.Grammar.{Rule, Grammar, IsRule, IsSymbol, Every, end_mark}
use Rattle.grammar.specs.Sound.{Sound}
use Rattle.grammar.specs.Item.{raised}
use Rattle.grammar.specs.Table.{Table, Kernel, Word, After}
use Rattle.grammar.specs.Viable.{Viable, Suffix}
use Rattle.grammar.specs.Canonical.{StateMap}
use Rattle.grammar.proofs.Items.{before_one, spot_down, valid→spot, spot→valid}
use Rattle.grammar.proofs.Suffixes.{Cut, word→cut, cut→word, cons_nonempty, body, kernel_of, mark_suffix, replaced}
use Rattle.grammar.proofs.Canonical.{state→after}
use Rattle.table.specs.LookUps.{AfterDots}
use Rattle.reading.specs.Stack.{Pushes, Path, lowest, upon}

-- a string with the end mark
abbrev pub marked : List ℕ → List ℕ
marked σ = σ ++ end_mark ∷ []

module _ (T : Table) where
  -- the stack that states were pushed onto stands for the string with their symbols
  pub pushed_path : (ω : List ℕ) {s s' σ : List ℕ} → Path T s σ → Pushes T ω s s' → Path T s' (ω ++ σ)
  pushed_path [] {σ = σ} d e = subst (λ (z : List ℕ). Path T z σ) (sym e) d
  pushed_path (X ∷ ω) {σ = σ} d (p, q, (below, (more, (n, e)))) =
      subst (λ (z : List ℕ). Path T z (X ∷ (ω ++ σ))) (sym e) (upon (pushed_path ω d more) n)

  pub pushed_length : (ω s s' : List ℕ) → Pushes T ω s s' → length s' ≡ length ω + length s
  pushed_length [] s s' e = omega (arith, ap length e)
  pushed_length (X ∷ ω) s s' (p, q, (below, (more, (n, e)))) = omega (arith, ap length e, pushed_length ω s (p ∷ below) more)

  -- states can be pushed where after exists, and the last of them is after
  pub pushes_of : (ω : List ℕ) (p : ℕ) (s : List ℕ) (q : ℕ) → After T p ω q → (below : List ℕ) × Pushes T ω (p ∷ s) (q ∷ below)
  pushes_of [] p s q e = (s, ap (λ (x : ℕ). x ∷ s) (sym e))
  pushes_of (X ∷ ω) p s q (x, a, n) = let (below, more) = pushes_of ω p s x a in (x ∷ below, (x, q, (below, (more, (n, refl)))))

  pub after_unique : (ω : List ℕ) (p q q' : ℕ) → After T p ω q → After T p ω q' → q ≡ q'
  after_unique [] p q q' e e' = sym e ∙ e'
  after_unique (X ∷ ω) p q q' (x, a, n) (x', a', n') = let e : x ≡ x' = after_unique ω p x x' a a' in cc

  -- the state that comes on top
  pub pushed_after : (ω : List ℕ) (p : ℕ) (s : List ℕ) {s' : List ℕ} → Pushes T ω (p ∷ s) s'
      → (q : ℕ) × ((below : List ℕ) × (After T p ω q × (s' ≡ q ∷ below)))
  pushed_after [] p s e = (p, (s, (refl, e)))
  pushed_after (X ∷ ω) p s (x, q, (below, (more, (n, e)))) =
      let (x', (t, (a, f))) = pushed_after ω p s more in
      let same : x ≡ x' = cc in
      (q, (x ∷ below, ((x', a, ap (λ (z : ℕ). T.next z X) (sym same) ∙ n), e)))

module _ (g : Grammar) (s : Sound g) (T : Table) (m : StateMap g T) where
  pub path_suffix : {q : ℕ} {below σ : List ℕ} → Path T (q ∷ below) σ → Suffix g (marked σ) × (m.state (marked σ) ≡ q)
  path_suffix lowest = (mark_suffix g s, m.first)
  path_suffix {q} (upon {X = X} {σ = σ} d n) =
      let (f, e) = path_suffix d in
      let (v, i) = (m.successors (marked σ) f X q).0 (ap (λ (z : ℕ). T.next z X) e ∙ n) in
      ((v, cons_nonempty X (marked σ)), sym i)

  pub path_top : {q : ℕ} {below σ : List ℕ} → Path T (q ∷ below) σ → q < T.size
  path_top {σ = σ} d = let (f, e) = path_suffix d in subst (λ (z : ℕ). z < T.size) e (m.within (marked σ) f)

  pub path_within : {stack σ : List ℕ} → Path T stack σ → (q : ℕ) → Memᴰ q stack → q < T.size
  path_within lowest q (Memᴰ.head e) = subst (λ (z : ℕ). z < T.size) (sym e) (path_top lowest)
  path_within lowest q (Memᴰ.tail i) = absurd (Memᴰ.not-nil i)
  path_within (upon d n) q (Memᴰ.head e) = subst (λ (z : ℕ). z < T.size) (sym e) (path_top (upon d n))
  path_within (upon d n) q (Memᴰ.tail i) = path_within d q i

  pub path_symbols : {q : ℕ} {below σ : List ℕ} → Path T (q ∷ below) σ → Every (IsSymbol g) σ
  path_symbols {σ = σ} d =
      let (δ, (e, p)) = body g s (marked σ) (path_suffix d).0 in
      subst (Every (IsSymbol g)) (sym (append_cancel_right σ δ (end_mark ∷ []) e)) p

  -- the words of the top are the token strings from its string, with the end mark, cut
  pub path_cut : {q : ℕ} {below σ : List ℕ} → Path T (q ∷ below) σ → (y : List ℕ) → Word T q y → Cut g σ y
  path_cut {σ = σ} d y w =
      let (f, e) = path_suffix d in
      word→cut g s σ y (path_symbols d) ((m.words (marked σ) f y).0 (subst (λ (z : ℕ). Word T z y) (sym e) w))

  pub path_word : {q : ℕ} {below σ : List ℕ} → Path T (q ∷ below) σ → (y : List ℕ) → Cut g σ y → Word T q y
  path_word {σ = σ} d y c =
      let (f, e) = path_suffix d in
      subst (λ (z : ℕ). Word T z y) e ((m.words (marked σ) f y).1 (cut→word g s σ y c))

  -- the first symbol of the string stands after the dots of the top, and no other does
  dots_of : (X : ℕ) (σ : List ℕ) {Y : ℕ} → Suffix g (X ∷ σ) → AfterDots g T (m.state (X ∷ σ)) Y → X ≡ Y
  dots_of X σ f (i, (k, b)) =
      let (v, x) = (m.kernels (X ∷ σ) f i).0 k in
      before_one g (raised i) (spot_down g X σ i (valid→spot g s i (X ∷ σ) v) x).1 b

  pub after_dots_one : {q X Y : ℕ} → q < T.size → AfterDots g T q X → AfterDots g T q Y → X ≡ Y
  after_dots_one {q} {X} {Y} h x y = let (σ, (f, e)) = m.onto q h in by σ f (subst (dots X) (sym e) x) (subst (dots Y) (sym e) y)
    where
      dots : ℕ → ℕ → Type 0
      dots Z p = AfterDots g T p Z

      by : (σ : List ℕ) → Suffix g σ → AfterDots g T (m.state σ) X → AfterDots g T (m.state σ) Y → X ≡ Y
      by [] f x y = absurd (f.1 refl)
      by (Z ∷ σ) f x y = sym (dots_of Z σ f x) ∙ dots_of Z σ f y

  pub after_dots_is : {q p X Y : ℕ} {below σ : List ℕ} → Path T (q ∷ p ∷ below) (X ∷ σ) → AfterDots g T q Y → X ≡ Y
  after_dots_is {X = X} {Y = Y} {σ = σ} d x =
      let (f, e) = path_suffix d in
      dots_of X (marked σ) f (subst (λ (z : ℕ). AfterDots g T z Y) (sym e) x)

  pub after_dots_there : {q p X : ℕ} {below σ : List ℕ} → Path T (q ∷ p ∷ below) (X ∷ σ) → AfterDots g T q X
  after_dots_there {X = X} {σ = σ} d =
      let (f, e) = path_suffix d in
      let (i, (p, x)) = kernel_of g s (marked (X ∷ σ)) f in
      let k = (m.kernels (marked (X ∷ σ)) f i).1 (spot→valid g s i (marked (X ∷ σ)) p, x) in
      (i, (subst (λ (z : ℕ). Kernel T z i) e k, (spot_down g X (marked σ) i p x).1))

  -- so a path with A after the dots of its top is one by A over a shorter path
  pub record Topped (A q p : ℕ) (below σ : List ℕ) : Type 0 where
    pub rest : List ℕ
    pub path : Path T (p ∷ below) rest
    pub next : T.next p A ≡ some q
    pub string_is : σ ≡ A ∷ rest

  pub topped : {q p A : ℕ} {below σ : List ℕ} → Path T (q ∷ p ∷ below) σ → AfterDots g T q A → Topped A q p below σ
  topped {p = p} (upon {σ = σ} d n) x =
      let e = after_dots_is (upon d n) x in
      record { rest = σ; path = d; next = ap (T.next p) (sym e) ∙ n; string_is = ap (λ (z : ℕ). z ∷ σ) e }

  pub some_top : {q p : ℕ} {below σ : List ℕ} → Path T (q ∷ p ∷ below) σ → (A : ℕ) × AfterDots g T q A
  some_top (upon {X = X} d n) = (X, after_dots_there (upon d n))

  -- a stack stands for one string
  pub path_same : {stack σ τ : List ℕ} → Path T stack σ → Path T stack τ → σ ≡ τ
  path_same lowest lowest = refl
  path_same (upon d n) (upon d' n') = ap₂ (λ (z : ℕ) (x : List ℕ). z ∷ x) (after_dots_is (upon d n) (after_dots_there (upon d' n'))) (path_same d d')

  -- a nonterminal with a successor has successors along each of its rules
  pub next_along : {p q A : ℕ} {below σ : List ℕ} (r : ℕ) (ρ : Rule) → Path T (p ∷ below) σ → T.next p A ≡ some q → IsRule g r ρ → ρ.left ≡ A
      → (x : ℕ) × After T p ρ.right x
  next_along {q = q} {A = A} {σ = σ} r ρ d n i l =
      let (f, e) = path_suffix d in
      let (v, h) = (m.successors (marked σ) f A q).0 (ap (λ (z : ℕ). T.next z A) e ∙ n) in
      let v' : Viable g (ρ.right ++ marked σ) = replaced g s A (marked σ) v r ρ i l in
      let x : ℕ = m.state (ρ.right ++ marked σ) in
      (x, subst (λ (z : ℕ). After T z ρ.right x) e (state→after g s T m ρ.right (marked σ) f v'))
