-- The frames by the tests and in words. The numbers of frames run through the header, the rules and the sections of the states, so the frame
-- of each number below the count is one of these; behind them the test wants that there is no frame, and before that one that there is.
use Rattle.std.proofs.Common.{◌≡◌, ℕ, zero, suc, ◌+◌, ◌-◌, ◌*◌, ◌/◌, ◌%◌, ◌<◌, ◌≤◌, ◌↔◌, true, ◌&&◌, cond, eqb, ltb, ◌⊎◌, List, [], ◌∷◌, length, sym, refl, ap, ◌∙◌, subst, inl, inr, arith}
use Rattle.std.specs.Prelude.{slice_index}
use Rattle.std.proofs.lemmas.Bool.{true≢false, and_from, and_parts, cases_lt, cond-true, cond-false, eq-eqb, eqb-true, ne_eqb, lt-ltb, le-ltb, ltb-true, le-leb, lt-leb, leb-true}
use Rattle.frames.specs.declared.header.Header.{Header}
use Rattle.frames.specs.declared.header.Section.{Section}
use Rattle.frames.specs.declared.header.Section.TheVariants.{Kernel, Words, Successors, Choices}
use Rattle.frames.specs.Raw.{Raw, frame, header_of, place}
use Rattle.frames.specs.Form.{between, is_nonterminal, are_symbols, header_good, rule_good, section_good, section_at, needed, good_at, frame_good}
use Rattle.frames.specs.Formed.{HeaderFrame, RuleFrame, SectionFrame, FormedFile, FrameAt, numbers, rule, section, none, FormLaw, FrameLaw}
use Rattle.frames.proofs.Words.{within, between_from, symbols, symbols_pass}
use Rattle.frames.proofs.Entries.{section_frame, section_passes}

-- the frame of a rule
module _ (h : Header) where
  rule_frame : (f : List ℕ) → rule_good h f ≡ true → RuleFrame h f
  rule_frame [] e = absurd (true≢false (sym e))
  rule_frame (x ∷ []) e = absurd (true≢false (sym e))
  rule_frame (x ∷ A ∷ y) e =
      let (size, e₁) = and_parts (between 2 8 (length (x ∷ A ∷ y))) (eqb x 2 && (is_nonterminal h A && are_symbols h y)) e in
      let (t, e₂) = and_parts (eqb x 2) (is_nonterminal h A && are_symbols h y) e₁ in
      let (n, s) = and_parts (is_nonterminal h A) (are_symbols h y) e₂ in
      let few : length (x ∷ A ∷ y) ≤ 8 = (within 2 8 _ size).1 in
      record {
        left = A;
        right = y;
        bytes = ap (λ (z : ℕ). z ∷ A ∷ y) (eqb-true x 2 t);
        nonterminal = within 32 _ A n;
        symbols = symbols h y s;
        few = omega (arith, few);
      }

  rule_passes : (f : List ℕ) → RuleFrame h f → rule_good h f ≡ true
  rule_passes f x =
      ap (rule_good h) x.bytes
      ∙ and_from (between 2 8 (length (2 ∷ x.left ∷ x.right))) (is_nonterminal h x.left && are_symbols h x.right)
      (between_from 2 8 (length (2 ∷ x.left ∷ x.right)) (omega arith, omega (arith, x.few)))
      (and_from (is_nonterminal h x.left) (are_symbols h x.right) (between_from 32 _ x.left x.nonterminal) (symbols_pass h x.right x.symbols))

-- the first frame
six_bytes : (f : List ℕ) → length f ≡ 6
    → f ≡ slice_index f 0 ∷ slice_index f 1 ∷ slice_index f 2 ∷ slice_index f 3 ∷ slice_index f 4 ∷ slice_index f 5 ∷ []
six_bytes [] l = absurd (omega arith)
six_bytes (a ∷ []) l = absurd (omega arith)
six_bytes (a ∷ b ∷ []) l = absurd (omega arith)
six_bytes (a ∷ b ∷ c ∷ []) l = absurd (omega arith)
six_bytes (a ∷ b ∷ c ∷ d ∷ []) l = absurd (omega arith)
six_bytes (a ∷ b ∷ c ∷ d ∷ e ∷ []) l = absurd (omega arith)
six_bytes (a ∷ b ∷ c ∷ d ∷ e ∷ g ∷ []) l = refl
six_bytes (a ∷ b ∷ c ∷ d ∷ e ∷ g ∷ i ∷ f) l = absurd (omega arith)

module _ (R : Raw) where
  header_frame : header_good (header_of R) (frame R 0) ≡ true → HeaderFrame (header_of R) (frame R 0)
  header_frame e =
      let f = frame R 0 in
      let h = header_of R in
      let (l, e₁) = and_parts (eqb (length f) 6) _ e in
      let (a, e₂) = and_parts (eqb (slice_index f 0) 1) _ e₁ in
      let (k, e₃) = and_parts (between 1 2 h.k) _ e₂ in
      let (t, e₄) = and_parts (between 1 20 h.t) _ e₃ in
      let (n, e₅) = and_parts (between 1 24 h.n) _ e₄ in
      let (p, s) = and_parts (between 1 60 h.p) (between 1 200 h.s) e₅ in
      record {
        bytes = six_bytes f (eqb-true _ _ l) ∙ ap (λ (z : ℕ). z ∷ h.k ∷ h.t ∷ h.n ∷ h.p ∷ h.s ∷ []) (eqb-true _ _ a);
        lookahead = within 1 2 _ k;
        tokens = within 1 20 _ t;
        nonterminals = within 1 24 _ n;
        rules = within 1 60 _ p;
        states = within 1 200 _ s;
      }

  header_passes : HeaderFrame (header_of R) (frame R 0) → header_good (header_of R) (frame R 0) ≡ true
  header_passes x =
      let f = frame R 0 in
      let h = header_of R in
      and_from (eqb (length f) 6) _ (eq-eqb _ _ (ap length x.bytes))
      (and_from (eqb (slice_index f 0) 1) _ (eq-eqb _ _ (ap (λ (z : List ℕ). slice_index z 0) x.bytes))
      (and_from (between 1 2 h.k) _ (between_from 1 2 _ x.lookahead)
      (and_from (between 1 20 h.t) _ (between_from 1 20 _ x.tokens)
      (and_from (between 1 24 h.n) _ (between_from 1 24 _ x.nonterminals)
      (and_from (between 1 60 h.p) (between 1 200 h.s) (between_from 1 60 _ x.rules) (between_from 1 200 _ x.states))))))

-- where the section of a place stands among those of a state
place_of : (m : ℕ) → m < 4 → place (cond (eqb m 0) Kernel (cond (eqb m 1) Words (cond (eqb m 2) Successors Choices))) ≡ m
place_of zero l = refl
place_of (suc zero) l = refl
place_of (suc (suc zero)) l = refl
place_of (suc (suc (suc zero))) l = refl
place_of (suc (suc (suc (suc m)))) l = absurd (omega arith)

place_low : (c : Section) → place c < 4
place_low Kernel = omega arith
place_low Words = omega arith
place_low Successors = omega arith
place_low Choices = omega arith

section_of_place : (c : Section) → cond (eqb (place c) 0) Kernel (cond (eqb (place c) 1) Words (cond (eqb (place c) 2) Successors Choices)) ≡ c
section_of_place Kernel = refl
section_of_place Words = refl
section_of_place Successors = refl
section_of_place Choices = refl

section_found : (i : ℕ) (c : Section) → i % 4 ≡ place c → section_at i ≡ c
section_found i c e = ap (λ (m : ℕ). cond (eqb m 0) Kernel (cond (eqb m 1) Words (cond (eqb m 2) Successors Choices))) e ∙ section_of_place c

-- what the number of a frame stands for
data Number (R : Raw) (i : ℕ) : Type 0 where
  of_header : i ≡ 0 → Number R i
  of_rule : (r : ℕ) → r < (header_of R).p → i ≡ 1 + r → Number R i
  of_section : (q : ℕ) → q < (header_of R).s → (c : Section) → i ≡ 1 + (header_of R).p + 4 * q + place c → Number R i

module _ (R : Raw) where
  number : (i : ℕ) → i < needed R → Number R i
  number zero l = of_header refl
  number (suc r) l = by (cases_lt r (header_of R).p)
    where
      j : ℕ
      j = r - (header_of R).p

      by : (r < (header_of R).p) ⊎ ((header_of R).p ≤ r) → Number R (suc r)
      by (inl m) = of_rule r m (omega arith)
      by (inr m) =
          let e : place (section_at j) ≡ j % 4 = place_of (j % 4) (omega arith) in
          of_section (j / 4) (omega arith) (section_at j) (omega (arith, e))

  -- the test at each of them
  rule_there : (r : ℕ) → r < (header_of R).p → good_at R (1 + r) ≡ rule_good (header_of R) (frame R (1 + r))
  rule_there r l = cond-false _ _ _ (ne_eqb (1 + r) 0 (λ e. absurd (omega arith))) ∙ cond-true _ _ _ (le-leb (1 + r) (header_of R).p (omega arith))

  section_there : (q : ℕ) (c : Section)
      → good_at R (1 + (header_of R).p + 4 * q + place c) ≡ section_good R c (frame R (1 + (header_of R).p + 4 * q + place c))
  section_there q c =
      let i = 1 + (header_of R).p + 4 * q + place c in
      let low = place_low c in
      cond-false _ _ _ (ne_eqb i 0 (λ e. absurd (omega arith)))
      ∙ cond-false _ _ _ (lt-leb i (header_of R).p (omega arith))
      ∙ ap (λ (d : Section). section_good R d (frame R i)) (section_found (i - (1 + (header_of R).p)) c (omega arith))

  good_there : (i : ℕ) → i < needed R → i < R.frames → good_at R i ≡ true → frame_good R i ≡ true
  good_there i l m e = cond-true _ _ _ (lt-ltb i (needed R) l) ∙ and_from (ltb i R.frames) (good_at R i) (lt-ltb i R.frames m) e

  there : (i : ℕ) → i < needed R → frame_good R i ≡ true → (i < R.frames) × (good_at R i ≡ true)
  there i l e =
      let (a, b) = and_parts (ltb i R.frames) (good_at R i) (sym (cond-true _ _ _ (lt-ltb i (needed R) l)) ∙ e) in
      (ltb-true i _ a, b)

  not_there : (i : ℕ) → needed R ≤ i → frame_good R i ≡ true → R.frames ≤ i
  not_there i l e = leb-true _ _ (sym (cond-false _ _ _ (le-ltb i (needed R) l)) ∙ e)

  pub first_law : ((0 < R.frames) × HeaderFrame (header_of R) (frame R 0)) ↔ (frame_good R 0 ≡ true)
  first_law = (
    λ x. good_there 0 (omega arith) x.0 (header_passes R x.1),
    λ e. let (l, good) = there 0 (omega arith) e in (l, header_frame R good),
  )

  rule_is : (r : ℕ) → r < (header_of R).p → good_at R (1 + r) ≡ true → RuleFrame (header_of R) (frame R (1 + r))
  rule_is r l e = rule_frame (header_of R) _ (sym (rule_there r l) ∙ e)

  section_is : 1 ≤ (header_of R).k → (q : ℕ) (c : Section) → good_at R (1 + (header_of R).p + 4 * q + place c) ≡ true
      → SectionFrame R c (frame R (1 + (header_of R).p + 4 * q + place c))
  section_is k q c e = section_frame R k c _ (sym (section_there q c) ∙ e)

  -- the frame of a number, from those that the numbers stand for
  placed : (i : ℕ) → HeaderFrame (header_of R) (frame R 0)
      → ((r : ℕ) → r < (header_of R).p → i ≡ 1 + r → RuleFrame (header_of R) (frame R (1 + r)))
      → ((q : ℕ) → q < (header_of R).s → (c : Section) → i ≡ 1 + (header_of R).p + 4 * q + place c
      → SectionFrame R c (frame R (1 + (header_of R).p + 4 * q + place c)))
      → i < R.frames → Number R i → FrameAt R i
  placed i first rules sections l (of_header z) = numbers z l (subst (λ (j : ℕ). HeaderFrame (header_of R) (frame R j)) (sym z) first)
  placed i first rules sections l (of_rule r m z) = rule r m z l (subst (λ (j : ℕ). RuleFrame (header_of R) (frame R j)) (sym z) (rules r m z))
  placed i first rules sections l (of_section q m c z) =
      section q m c z l (subst (λ (j : ℕ). SectionFrame R c (frame R j)) (sym z) (sections q m c z))

  -- one frame
  module _ (first : HeaderFrame (header_of R) (frame R 0)) where
    passes : (i : ℕ) → FrameAt R i → frame_good R i ≡ true
    passes i (numbers e l x) = good_there i (omega arith) l (ap (good_at R) e ∙ header_passes R first)
    passes i (rule r m e l x) =
        let y = subst (λ (j : ℕ). RuleFrame (header_of R) (frame R j)) e x in
        good_there i (omega arith) l (ap (good_at R) e ∙ rule_there r m ∙ rule_passes (header_of R) _ y)
    passes i (section q m c e l x) =
        let low = place_low c in
        let y = subst (λ (j : ℕ). SectionFrame R c (frame R j)) e x in
        good_there i (omega arith) l (ap (good_at R) e ∙ section_there q c ∙ section_passes R first.lookahead.0 c _ y)
    passes i (none l m) = cond-false _ _ _ (le-ltb i (needed R) l) ∙ le-leb R.frames i m

    stands : (i : ℕ) → frame_good R i ≡ true → FrameAt R i
    stands i good = by (cases_lt i (needed R))
      where
        by : (i < needed R) ⊎ (needed R ≤ i) → FrameAt R i
        by (inl l) =
            let (m, e) = there i l good in
            placed i first (λ r n z. rule_is r n (subst (λ (j : ℕ). good_at R j ≡ true) z e))
            (λ q n c z. section_is first.lookahead.0 q c (subst (λ (j : ℕ). good_at R j ≡ true) z e)) m (number i l)
        by (inr l) = none l (not_there i l good)

  -- all of them
  file_at : FormedFile R → (i : ℕ) → FrameAt R i
  file_at x i = by (cases_lt i (needed R))
    where
      by : (i < needed R) ⊎ (needed R ≤ i) → FrameAt R i
      by (inl l) = placed i x.header (λ r m z. x.rules r m) (λ q m c z. x.sections q m c) (omega (arith, x.count)) (number i l)
      by (inr l) = none l (omega (arith, x.count))

  formed : ((i : ℕ) → frame_good R i ≡ true) → FormedFile R
  formed good =
      let first = header_frame R (there 0 (omega arith) (good 0)).1 in
      let last : needed R - 1 < R.frames = (there (needed R - 1) (omega arith) (good (needed R - 1))).0 in
      let end : R.frames ≤ needed R = not_there (needed R) (omega arith) (good (needed R)) in
      record {
        header = first;
        rules = λ r l. rule_is r l (there (1 + r) (omega arith) (good (1 + r))).1;
        sections = λ q l c.
            let low = place_low c in
            let i = 1 + (header_of R).p + 4 * q + place c in
            section_is first.lookahead.0 q c (there i (omega arith) (good i)).1;
        count = omega arith;
      }

pub form_law : FormLaw
form_law R = (λ x i. passes R x.header i (file_at R x i), formed R)

pub frame_law : FrameLaw
frame_law R first i = (passes R first i, stands R first i)
