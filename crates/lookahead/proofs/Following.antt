-- FIRST(X W) is the product of FIRST(X) and W, also of the stored words: a string of FIRST(X) has no end mark, since its tokens are those of
-- a stored set, so the mark of a word behind it may be dropped before or after they are joined and cut.
use Rattle.std.proofs.Common.{◌≡◌, ℕ, zero, suc, ◌<◌, ◌≤◌, true, false, cond, ltb, List, [], ◌∷◌, ◌++◌, take, Decides, sym, refl, ap, ◌∙◌, subst, inl, inr, le_refl, arith}
use Rattle.frames.specs.declared.header.Header.{Header}
use Rattle.frames.specs.Form.{is_token, is_word}
use Rattle.grammar.specs.Grammar.{Grammar, IsTerminal, Every}
use Rattle.grammar.specs.First.{First, FirstWith}
use Rattle.grammar.proofs.Lists.{every_map, every_both}
use Rattle.grammar.proofs.First.{NoMark, first_with}
use Rattle.words.specs.Codes as codes
use Rattle.words.specs.Sets.{member, word_kind}
use Rattle.words.specs.Members.{numbers_of, in_range}
use Rattle.words.specs.Products.{member_product}
use Rattle.words.specs.declared.set.Words.{Words}
use Rattle.lookahead.specs.Entries.{WordIn, AllWords, strip}
use Rattle.lookahead.specs.Stored.{Stores, StandsFor}
use Rattle.lookahead.specs.Theorems.{NextWords}
use Rattle.lookahead.proofs.Strings.{token_from, strip_joined, word_joined}
use Rattle.lookahead.proofs.Entering.{stores_from}
use Rattle.lookahead.proofs.Comparing.{stored_equal}

abbrev Small : ℕ → Type 0
Small a = a < 21

every_take : (P : ℕ → Type 0) (j : ℕ) (x : List ℕ) → Every P x → Every P (take j x)
every_take P zero x p = tt
every_take P (suc j) [] p = tt
every_take P (suc j) (a ∷ x) p = (p.0, every_take P j x p.1)

small_word : (a b : ℕ) → a < 21 → b < 21 → Every Small (codes.word_of a b)
small_word zero zero p q = tt
small_word zero (suc b) p q = (p, (q, tt))
small_word (suc a) zero p q = (p, tt)
small_word (suc a) (suc b) p q = (p, (q, tt))

-- the tokens of a stored set
member_small : {k : ℕ} (F : Words k) (u : List ℕ) → member F u ≡ true → Every Small u
member_small F u m =
    let (a, b, p, e) = numbers_of F u m in
    let r = in_range F a b p in
    subst (Every Small) e (small_word a b r.0 r.1)

cut_some : (k : ℕ) → 1 ≤ codes.cut k
cut_some k = elim (ltb k 2) as (λ z. 1 ≤ cond z 1 2) [ true ↦ omega arith | false ↦ omega arith ]

small_no_mark : (a : ℕ) → Small a → NoMark a
small_no_mark a l e = omega (arith, l, e)

module _ (k : ℕ) (h : Header) (g : Grammar) (size : h.k ≡ codes.cut k) (few : h.t ≤ 20) (lookahead : g.k ≡ h.k) (tokens : g.t ≡ h.t)
    (X : ℕ) (F : Words k) (first : (w : List ℕ) → Decides (member F w) (First g (X ∷ []) w)) where
  some_lookahead : 1 ≤ h.k
  some_lookahead = subst (λ (j : ℕ). 1 ≤ j) (sym size) (cut_some k)

  unmarked : (u : List ℕ) → member F u ≡ true → Every NoMark u
  unmarked u m = every_map Small NoMark small_no_mark u (member_small F u m)

  all_tokens : (u : List ℕ) → member F u ≡ true → Every (λ (a : ℕ). is_token h a ≡ true) u
  all_tokens u m =
      let (v, (d, e)) = (first u).0 m in
      let terminals : Every (IsTerminal g) u = subst (Every (IsTerminal g)) (sym e) (every_take (IsTerminal g) g.k v d.0) in
      every_both (IsTerminal g) Small (λ (a : ℕ). is_token h a ≡ true) of u terminals (member_small F u m)
    where
      of : (a : ℕ) → IsTerminal g a → Small a → is_token h a ≡ true
      of a (inl t) l = token_from h a t.0 (omega (arith, t.1, tokens))
      of a (inr e) l = absurd (omega (arith, l, e))

  module _ (es : List ℕ) (all : AllWords h es) where
    -- the words of FIRST(X W)
    abbrev Following : List ℕ → Type 0
    Following y = FirstWith g (X ∷ []) (WordIn es) y

    pub following_words : (y : List ℕ) → Following y → is_word h.k h y ≡ true
    following_words y f =
        let (u, w, (x, m, e)) = (first_with g (WordIn es) (X ∷ []) y).0 f in
        let is : y ≡ take h.k (u ++ w) = e ∙ ap (λ (j : ℕ). take j (u ++ w)) lookahead in
        subst (λ (z : List ℕ). is_word h.k h z ≡ true) (sym is)
        (word_joined h h.k h.k u w some_lookahead (le_refl h.k) (all_tokens u ((first u).1 x)) (all w m))

    -- a string of FIRST(X) joined to a word, with the end mark and without
    joined : (u w : List ℕ) → member F u ≡ true → strip (take g.k (u ++ w)) ≡ take (codes.cut k) (u ++ strip w)
    joined u w m = strip_joined g.k u w (unmarked u m) ∙ ap (λ (j : ℕ). take j (u ++ strip w)) (lookahead ∙ size)

    pub product_stored : (W : Words k) → StandsFor h W es → Stores h ((word_kind k).product F W) Following
    product_stored W s = stores_from k h size few ((word_kind k).product F W) Following following_words (λ w. (
      λ m.
          let (u, v, (a, b, e)) = (member_product F W w).0 m in
          let (z, (p, f)) = s.only v b in (
            take g.k (u ++ z),
            (
              (first_with g (WordIn es) (X ∷ []) (take g.k (u ++ z))).1 (u, z, ((first u).0 a, p, refl)),
              e ∙ ap (λ (x : List ℕ). take (codes.cut k) (u ++ x)) f ∙ sym (joined u z a),
            ),
          ),
      λ (y, (f, e)).
          let (u, z, (x, p, i)) = (first_with g (WordIn es) (X ∷ []) y).0 f in
          let a = (first u).1 x in
          (member_product F W w).1 (u, strip z, (a, (s.words z (all z p)).1 p, e ∙ ap strip i ∙ joined u z a)),
    ))

pub next_words : (k : ℕ) → NextWords k
next_words k h g size few lookahead tokens X F first es es' all all' W W' s s' =
    stored_equal h W' ((word_kind k).product F W) (WordIn es') (FirstWith g (X ∷ []) (WordIn es)) all'
    (following_words k h g size few lookahead tokens X F first es all) s' (product_stored k h g size few lookahead tokens X F first es all W s)
