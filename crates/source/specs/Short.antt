-- No source has more than 60,000 tokens to come. The proofs stand here since the trait asks each source for one.
use Rattle.std.specs.Prelude.{◌≡◌, ℕ, suc, ◌+◌, ◌-◌, ◌≤◌, Bool, true, false, cond, not, List, [], ◌∷◌, length, Some, None, Option, ◌==◌, refl}
use Rattle.std.proofs.Common.{ap, arith}
use Rattle.std.proofs.lemmas.List.Filters.{length-filter_both}
use Rattle.source.specs.declared.token.Place.{Place}
use Rattle.source.specs.declared.token.Token.{Token}
use Rattle.source.specs.Layers.{skipped, front, quota}
use Rattle.source.specs.Meaning.{Meaning}
use Rattle.source.specs.Stored.{placed}

-- as many tokens as bytes
pub placed_length : (kinds : List ℕ) (n : ℕ) → length (placed kinds n) ≡ length kinds
placed_length [] n = refl
placed_length (kind ∷ kinds) n = ap suc (placed_length kinds (n + 1))

-- at most 60,000 bytes are as many tokens, wherever they begin
pub stored_short : (kinds : List ℕ) (n : ℕ) → length kinds ≤ 60000 → length (placed kinds (n + 1)) ≤ 60000
stored_short kinds n few = rw placed_length few

-- so are those that are left, where all are at most 60,000
pub left_short : (kinds : List ℕ) (n : ℕ) → n + length kinds ≤ 60000 → length (placed kinds (n + 1)) ≤ 60000
left_short kinds n few = stored_short kinds n (omega arith)

-- a skip has no more tokens than the list below
pub skipped_short : {F : Type 0} (c : ℕ) (m : Meaning F) → length m.tokens ≤ 60000 → length (skipped c m).tokens ≤ 60000
skipped_short c m few =
    let kept : Token → Bool = λ t. not (t.kind == c) in
    omega (arith, length-filter_both kept (λ t. not (kept t)) (λ _. refl) m.tokens)

cond_short : (b : Bool) (ts : List Token) (n : ℕ) → length ts ≤ n → length (cond b [] ts) ≤ n
cond_short true ts n h = omega arith
cond_short false ts n h = h

front_length : (n : ℕ) (ts : List Token) → length (front n ts) ≤ length ts
front_length n [] = omega arith
front_length n (t ∷ ts) = cond_short (n == 0) (t ∷ front (n - 1) ts) _ (omega (arith, front_length (n - 1) ts))

-- nor has a quota
pub quota_short : {F : Type 0} (o : Option Place) (n : ℕ) (m : Meaning F) → length m.tokens ≤ 60000 → length (quota o n m).tokens ≤ 60000
quota_short (Some p) n m few = omega arith
quota_short None n m few = omega (arith, front_length n m.tokens)
