-- A drain, turn by turn: n tokens of the source stand at the front of the list, and the source means what is left.
use Rattle.std.proofs.Common.{◌≡◌, ℕ, zero, suc, ◌+◌, ◌<◌, ◌≤◌, List, [], ◌∷◌, ◌++◌, length, take, drop, set, Ok, sym, ap, ◌∙◌, add-one, arith, length-drop}
use Rattle.std.proofs.lemmas.List.{drop-drop}
use Rattle.source.specs.declared.token.Entry.TheVariants.{Given}
use Rattle.source.specs.declared.token.Token.{Token}
use Rattle.source.specs.Meaning.{Last, Meaning, Asked, first, ends, faults}

-- a token written behind those that stand there
written_more : (n : ℕ) (ts list : List Token) (t : Token) (us : List Token) → drop n ts ≡ t ∷ us → n < length list → set (take n ts ++ drop n list) n t ≡ take (suc n) ts ++ drop (suc n) list
written_more n ts [] t us e h = absurd (omega arith)
written_more zero [] (x ∷ list) t us e h = absurd cc
written_more zero (u ∷ ts) (x ∷ list) t us e h = let same : t ≡ u = cc in ap (λ v. v ∷ list) same
written_more (suc n) [] (x ∷ list) t us e h = absurd cc
written_more (suc n) (u ∷ ts) (x ∷ list) t us e h = ap (λ l. u ∷ l) (written_more n ts list t us e (omega arith))

module _ {F : Type 0} where
  -- what is left of a meaning when n tokens have been given
  abbrev pub left : ℕ → Meaning F → Meaning F
  left n m = record { tokens = drop n m.tokens; last = m.last }

  pub record Drains (m : Meaning F) (list : List Token) (n : ℕ) (here : List Token) (there : Meaning F) : Type 0 where
    pub few : n ≤ length m.tokens
    pub fits : n ≤ length list
    pub written : here ≡ take n m.tokens ++ drop n list
    pub after : there ≡ left n m

  -- what an answer says of the tokens
  pub token_first : (ts : List Token) (l : Last F) (t : Token) → Ok (Given t) ≡ first ts l → ts ≡ t ∷ drop 1 ts
  token_first [] (ends p) t e = absurd cc
  token_first [] (faults f) t e = absurd cc
  token_first (u ∷ ts) l t e = let same : u ≡ t = cc in ap (λ x. x ∷ ts) same

  module _ (m : Meaning F) (list : List Token) (n : ℕ) (here : List Token) (there : Meaning F) (so_far : Drains m list n here there) (room : n < length list) where
    tokens_left : there.tokens ≡ drop n m.tokens
    tokens_left = ap (λ (x : Meaning F). x.tokens) so_far.after

    pub drains_more : (t : Token) (then : Meaning F) → Asked there (Ok (Given t)) then → Drains m list (n + 1) (set here n t) then
    drains_more t then asked =
        let next : drop n m.tokens ≡ t ∷ drop 1 there.tokens = sym tokens_left ∙ token_first there.tokens there.last t asked.answers in
        let long : length (drop n m.tokens) ≡ suc (length (drop 1 there.tokens)) = ap length next in
        record {
          few = omega (arith, length-drop n m.tokens);
          fits = omega arith;
          written =
              ap (λ l. set l n t) so_far.written
              ∙ written_more n m.tokens list t (drop 1 there.tokens) next room
              ∙ ap (λ k. take k m.tokens ++ drop k list) (sym (add-one n));
          after =
              asked.leaves
              ∙ ap (λ (x : Meaning F). left 1 x) so_far.after
              ∙ ap (λ (ts : List Token). record { tokens = ts; last = m.last }) (drop-drop 1 n m.tokens);
        }
