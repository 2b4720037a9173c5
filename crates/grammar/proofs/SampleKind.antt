-- Yes and no as a kind of values: yes holds just the empty word, so each law is a law of truth values.
use Rattle.std.proofs.Common.{◌≡◌, ℕ, Bool, true, false, ◌&&◌, ◌||◌, ◌⊎◌, ◌↔◌, List, [], ◌∷◌, ◌++◌, take, refl, inl, inr}
use Rattle.grammar.specs.Equations.{Holds}
use Rattle.grammar.specs.Sample.{yes_no, YesNoIsAKind}

never : {A : Type 0} → false ≡ true → A
never e = absurd cc

yes_holds : (w : List ℕ) → Holds yes_no true w ↔ (w ≡ [])
yes_holds [] = (λ h. refl, λ e. refl)
yes_holds (a ∷ w) = (λ h. never h, λ e. absurd cc)

join_holds : (x y : Bool) (w : List ℕ) → Holds yes_no (x || y) w ↔ (Holds yes_no x w ⊎ Holds yes_no y w)
join_holds true y w = (inl, by y)
  where
    by : (y : Bool) → Holds yes_no true w ⊎ Holds yes_no y w → Holds yes_no true w
    by y (inl h) = h
    by true (inr h) = h
    by false (inr h) = never h
join_holds false y w = (inr, by)
  where
    by : Holds yes_no false w ⊎ Holds yes_no y w → Holds yes_no y w
    by (inl h) = never h
    by (inr h) = h

product_holds : (x y : Bool) (w : List ℕ) → Holds yes_no (x && y) w ↔ ((u v : List ℕ) × (Holds yes_no x u × Holds yes_no y v × (w ≡ take 0 (u ++ v))))
product_holds true true w = (λ h. ([], [], (refl, refl, (yes_holds w).0 h)), λ (u, v, (a, b, e)). (yes_holds w).1 e)
product_holds true false w = (λ h. never h, λ (u, v, (a, b, e)). never b)
product_holds false y w = (λ h. never h, λ (u, v, (a, b, e)). never a)

pub yes_no_is_a_kind : YesNoIsAKind
yes_no_is_a_kind g = record { bottom = λ w h. never h; unit = yes_holds; token = λ a t. yes_holds; join = join_holds; product = product_holds }
