-- Lists that begin with others, and cut lists. A short list begins a list just where it begins the list cut; and a full window that begins a
-- token string with its end mark is this string, cut, since nothing stands behind the mark.
use Rattle.std.proofs.Common.{◌≡◌, ℕ, zero, suc, ◌≤◌, List, [], ◌∷◌, ◌++◌, length, take, drop, refl, sym, ap, ◌∙◌, inl, inr, append_assoc, append-nil, arith}
use Rattle.std.proofs.lemmas.List.{append_cancel_left, take_all, take-append-drop}
use Rattle.std.proofs.Math.Seq.{take-append_seam}
use Rattle.grammar.specs.Grammar.{Grammar, IsToken, Every, WellFormed, end_mark}
use Rattle.grammar.proofs.Lists.{head_is, tail_is}
use Rattle.grammar.proofs.First.{token_no_mark}
use Rattle.table.specs.LookUps.{BeginsWith}
use Rattle.reading.specs.Window.{Full}

module _ {A : Type 0} where
  pub begins_self : (x : List A) → BeginsWith x x
  begins_self x = record { rest = []; splits = sym (append-nil x) }

  pub begins_nil : (x : List A) → BeginsWith x []
  begins_nil x = record { rest = x; splits = refl }

  pub begins_trans : {x y z : List A} → BeginsWith x y → BeginsWith y z → BeginsWith x z
  begins_trans {x} {y} {z} b c =
      record { rest = c.rest ++ b.rest; splits = b.splits ∙ ap (λ (w : List A). w ++ b.rest) c.splits ∙ append_assoc z c.rest b.rest }

  pub begins_front : {x : List A} (y z : List A) → BeginsWith x (y ++ z) → BeginsWith x y
  begins_front y z b = record { rest = z ++ b.rest; splits = b.splits ∙ append_assoc y z b.rest }

  -- what follows a common beginning
  pub begins_rest : (p x y : List A) → BeginsWith (p ++ x) (p ++ y) → BeginsWith x y
  begins_rest p x y b = record { rest = b.rest; splits = append_cancel_left p x (y ++ b.rest) (b.splits ∙ append_assoc p y b.rest) }

  pub begins_under : (p : List A) {x y : List A} → BeginsWith x y → BeginsWith (p ++ x) (p ++ y)
  begins_under p {x} {y} b = record { rest = b.rest; splits = ap (λ (w : List A). p ++ w) b.splits ∙ sym (append_assoc p y b.rest) }

  pub begins_same : {x y z : List A} → x ≡ y → BeginsWith x z → BeginsWith y z
  begins_same e b = record { rest = b.rest; splits = sym e ∙ b.splits }

-- a short beginning of a list begins the list cut
pub begins_cut : (k : ℕ) (p : List ℕ) {s : List ℕ} → length p ≤ k → BeginsWith s p → BeginsWith (take k s) p
begins_cut k [] {s} h b = record { rest = take k s; splits = refl }
begins_cut zero (a ∷ p) h b = absurd (omega arith)
begins_cut (suc k) (a ∷ p) {s} h b =
    let c = begins_cut k p (omega arith) (record { rest = b.rest; splits = refl }) in
    record { rest = c.rest; splits = ap (take (suc k)) b.splits ∙ ap (λ (y : List ℕ). a ∷ y) c.splits }

pub begins_uncut : (k : ℕ) (s : List ℕ) {y : List ℕ} → y ≡ take k s → BeginsWith s y
begins_uncut k s {y} e = record { rest = drop k s; splits = sym (take-append-drop k s) ∙ ap (λ (w : List ℕ). w ++ drop k s) (sym e) }

-- to cut a list behind its beginning
pub take_at : (k : ℕ) (x y : List ℕ) → length x ≡ k → take k (x ++ y) ≡ x
take_at k x y e = ap (λ (n : ℕ). take n (x ++ y)) (sym e) ∙ take-append_seam x y

module _ (g : Grammar) (wf : WellFormed g) where
  -- nothing follows the end mark
  pub mark_last : (w x rest : List ℕ) → Every (IsToken g) w → w ++ end_mark ∷ [] ≡ (x ++ end_mark ∷ []) ++ rest → rest ≡ []
  mark_last [] [] rest t e = sym (tail_is e)
  mark_last [] (b ∷ []) rest t e = absurd cc
  mark_last [] (b ∷ c ∷ x) rest t e = absurd cc
  mark_last (a ∷ w) [] rest t e = absurd (token_no_mark g wf a t.0 (head_is e))
  mark_last (a ∷ w) (b ∷ x) rest t e = mark_last w x rest t.1 (tail_is e)

  -- a full window that begins a marked token string is this string, cut
  pub full_is_cut : (win w : List ℕ) → Every (IsToken g) w → length win ≤ g.k → Full g win → BeginsWith (w ++ end_mark ∷ []) win
      → win ≡ take g.k (w ++ end_mark ∷ [])
  full_is_cut win w t h (inl l) b = sym (ap (take g.k) b.splits ∙ take_at g.k win b.rest (omega arith))
  full_is_cut win w t h (inr (x, f)) b =
      let r = b.rest in
      let none : r ≡ [] = mark_last w x r t (b.splits ∙ ap (λ (y : List ℕ). y ++ r) f) in
      let whole : w ++ end_mark ∷ [] ≡ win = b.splits ∙ ap (λ (y : List ℕ). win ++ y) none ∙ append-nil win in
      sym (ap (take g.k) whole ∙ take_all g.k win h)

  pub full_some : Full g [] → ⊥
  full_some (inl h) = omega (arith, wf.some_lookahead)
  full_some (inr ([], e)) = absurd cc
  full_some (inr (a ∷ x, e)) = absurd cc
