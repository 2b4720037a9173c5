-- The turns of the loop that tests a list entry by entry: what is left to test decides, as long as nothing failed so far.
use Rattle.std.proofs.Common.{◌≡◌, ℕ, ◌+◌, ◌%◌, ◌<◌, Bool, true, false, ◌&&◌, eqb, List, [], ◌∷◌, ◌++◌, length, sym, refl, ap, ◌∙◌, arith, length-append}
use Rattle.std.proofs.lemmas.Bool.{eq-eqb, ne_eqb}
use Rattle.frames.specs.declared.header.Section.{Section}
use Rattle.frames.specs.declared.header.Section.TheVariants.{Kernel, Words, Successors, Choices}
use Rattle.frames.specs.Raw.{Raw}
use Rattle.frames.specs.Form.{below, entry_good, width, entries_rise}

-- the test of one entry behind another
abbrev pub follows : Raw → Section → List ℕ → List ℕ → Bool
follows R c last e = below last e && entry_good R c e

pub opened : (R : Raw) (c : Section) (last e rest : List ℕ) → length e ≡ width c → entries_rise R c last (e ++ rest) ≡ (follows R c last e && entries_rise R c e rest)
opened R Kernel last (a ∷ b ∷ []) rest h = refl
opened R Kernel last [] rest h = absurd (omega arith)
opened R Kernel last (a ∷ []) rest h = absurd (omega arith)
opened R Kernel last (a ∷ b ∷ d ∷ e) rest h = absurd (omega arith)
opened R Words last (a ∷ b ∷ []) rest h = refl
opened R Words last [] rest h = absurd (omega arith)
opened R Words last (a ∷ []) rest h = absurd (omega arith)
opened R Words last (a ∷ b ∷ d ∷ e) rest h = absurd (omega arith)
opened R Successors last (a ∷ b ∷ []) rest h = refl
opened R Successors last [] rest h = absurd (omega arith)
opened R Successors last (a ∷ []) rest h = absurd (omega arith)
opened R Successors last (a ∷ b ∷ d ∷ e) rest h = absurd (omega arith)
opened R Choices last (A ∷ a ∷ b ∷ r ∷ []) rest h = refl
opened R Choices last [] rest h = absurd (omega arith)
opened R Choices last (a ∷ []) rest h = absurd (omega arith)
opened R Choices last (a ∷ b ∷ []) rest h = absurd (omega arith)
opened R Choices last (a ∷ b ∷ d ∷ []) rest h = absurd (omega arith)
opened R Choices last (a ∷ b ∷ d ∷ r ∷ s ∷ e) rest h = absurd (omega arith)

mod_width : (c : Section) (n m : ℕ) → n ≡ width c + m → m % width c ≡ n % width c
mod_width Kernel n m h = omega arith
mod_width Words n m h = omega arith
mod_width Successors n m h = omega arith
mod_width Choices n m h = omega arith

-- one entry in front of what is left
module _ (R : Raw) (c : Section) (last e rest all : List ℕ) (cut : all ≡ e ++ rest) (long : length e ≡ width c) where
  pub entry_fails : false ≡ follows R c last e → false ≡ entries_rise R c last all
  entry_fails f = sym (ap (entries_rise R c last) cut ∙ opened R c last e rest long ∙ ap (λ (b : Bool). b && entries_rise R c e rest) (sym f))

  pub entry_passes : true ≡ follows R c last e → entries_rise R c e rest ≡ entries_rise R c last all
  entry_passes f = sym (ap (entries_rise R c last) cut ∙ opened R c last e rest long ∙ ap (λ (b : Bool). b && entries_rise R c e rest) (sym f))

  pub entry_long : length rest % width c ≡ length all % width c
  entry_long = mod_width c (length all) (length rest) (ap length cut ∙ length-append e rest ∙ ap (λ (n : ℕ). n + length rest) long)

-- what is left is no entry: there is nothing left, or it does not pass
pub entries_end : (R : Raw) (c : Section) (last es : List ℕ) (n : ℕ) → length es < width c → length es % width c ≡ n % width c
    → eqb (n % width c) 0 ≡ entries_rise R c last es
entries_end R Kernel last [] n h m = eq-eqb _ 0 (omega (arith, m))
entries_end R Kernel last (a ∷ []) n h m = ne_eqb _ 0 (λ z. absurd (omega (arith, m, z)))
entries_end R Kernel last (a ∷ b ∷ e) n h m = absurd (omega arith)
entries_end R Words last [] n h m = eq-eqb _ 0 (omega (arith, m))
entries_end R Words last (a ∷ []) n h m = ne_eqb _ 0 (λ z. absurd (omega (arith, m, z)))
entries_end R Words last (a ∷ b ∷ e) n h m = absurd (omega arith)
entries_end R Successors last [] n h m = eq-eqb _ 0 (omega (arith, m))
entries_end R Successors last (a ∷ []) n h m = ne_eqb _ 0 (λ z. absurd (omega (arith, m, z)))
entries_end R Successors last (a ∷ b ∷ e) n h m = absurd (omega arith)
entries_end R Choices last [] n h m = eq-eqb _ 0 (omega (arith, m))
entries_end R Choices last (a ∷ []) n h m = ne_eqb _ 0 (λ z. absurd (omega (arith, m, z)))
entries_end R Choices last (a ∷ b ∷ []) n h m = ne_eqb _ 0 (λ z. absurd (omega (arith, m, z)))
entries_end R Choices last (a ∷ b ∷ d ∷ []) n h m = ne_eqb _ 0 (λ z. absurd (omega (arith, m, z)))
entries_end R Choices last (a ∷ b ∷ d ∷ r ∷ e) n h m = absurd (omega arith)
