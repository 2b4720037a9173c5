-- A skip in the words of its meaning: the filter drops a token just where its kind is the one.
use Rattle.std.proofs.Common.{ℕ, not, eqb, List, [], ◌∷◌, filter, refl}
use Rattle.std.proofs.lemmas.Bool.{cond_both, eqb-true, eqb-false, not-true, not-false}
use Rattle.source.specs.declared.token.Token.{Token}
use Rattle.source.specs.Layers.{Without, SkipLaw, no_tokens, drops, keeps, skipped}
use Rattle.source.specs.Meaning.{Meaning}

without : (c : ℕ) (ts : List Token) → Without c ts (filter (λ t. not (eqb t.kind c)) ts)
without c [] = no_tokens
without c (t ∷ ts) =
    let us = filter (λ t. not (eqb t.kind c)) ts in
    cond_both (not (eqb t.kind c)) (t ∷ us) us (Without c (t ∷ ts))
    (λ other. keeps t ts us (eqb-false t.kind c (not-true (eqb t.kind c) other)) (without c ts))
    (λ same. drops t ts us (eqb-true t.kind c (not-false (eqb t.kind c) same)) (without c ts))

pub skip_law : {F : Type 0} (c : ℕ) (m : Meaning F) → SkipLaw c m (skipped c m)
skip_law c m = record { tokens = without c m.tokens; last = refl }
