-- Sets of words are a kind of values cut to the length of words, for every grammar of at most 20 tokens: bottom, the unit, unions and
-- products by their members, and a token as a word added to no others.
use Rattle.std.proofs.Common.{◌≡◌, ℕ, zero, suc, ◌≤◌, true, false, cond, ltb, ◌↔◌, List, [], ◌∷◌, take, sym, refl, ◌∙◌, subst, inr, ⊎_elim, arith}
use Rattle.std.proofs.lemmas.Bool.{and_from, lt-ltb}
use Rattle.grammar.specs.Grammar.{Grammar}
use Rattle.grammar.specs.Equations.{CutTo, Holds}
use Rattle.words.specs.Codes.{cut, width, is_word}
use Rattle.words.specs.Bits.{width_pos}
use Rattle.words.specs.Sets.{no_words, word_kind}
use Rattle.words.specs.Members.{member_with}
use Rattle.words.specs.Products.{member_product}
use Rattle.words.specs.WordLaws.{never, one_empty, only_empty, in_join}

-- one token is not cut
cut_one : (k a : ℕ) → take (cut k) (a ∷ []) ≡ a ∷ []
cut_one k a = elim (ltb k 2) as (λ z. take (cond z 1 2) (a ∷ []) ≡ a ∷ []) [ true ↦ refl | false ↦ refl ]

token_holds : (k a : ℕ) → 1 ≤ a → a ≤ 20 → (w : List ℕ) → Holds (word_kind k) ((word_kind k).token a) w ↔ (w ≡ take (cut k) (a ∷ []))
token_holds k zero low high w = absurd (omega arith)
token_holds k (suc a) low high w =
    let d = member_with (no_words k) (suc a) 0 w in
    let ok : is_word k (suc a) 0 ≡ true = and_from _ _ (lt-ltb (suc a) 21 (omega arith)) (lt-ltb 0 (width k (suc a)) (width_pos k (suc a))) in (
      λ h. ⊎_elim (λ old. absurd (never k w old)) (λ new. new.1) (d.0 h) ∙ sym (cut_one k (suc a)),
      λ e. d.1 (inr (ok, e ∙ cut_one k (suc a))),
    )

pub words_cut : (k : ℕ) (g : Grammar) → g.t ≤ 20 → CutTo (word_kind k) (cut k) g
words_cut k g few = record {
  bottom = never k;
  unit = λ w. (only_empty k w, λ e. subst (Holds (word_kind k) (word_kind k).unit) (sym e) (one_empty k));
  token = λ a t. token_holds k a t.0 (omega (arith, t.1));
  join = in_join k;
  product = λ s t w. member_product s t w;
}
