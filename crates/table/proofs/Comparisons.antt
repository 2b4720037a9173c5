-- Tests joined, and who leads to whom is read off the lists where each symbol is named once.
use Rattle.std.proofs.Common.{◌≡◌, ℕ, ◌<◌, Bool, true, false, ◌⊎◌, List, [], ◌∷◌, ◌++◌, length, get_or, Decides, sym, ap, ◌∙◌, subst, inl, inr, arith}
use mathlib.Core.List.Memᴰ
use mathlib.Core.List.{Memᴰ}
use Rattle.std.proofs.lemmas.Bool.{true≢false}
use Rattle.grammar.specs.Table.{Found}
use Rattle.frames.specs.declared.header.Section as section
use Rattle.frames.specs.Raw.{Raw, section_of}
use Rattle.table.specs.Contents.{table_of, Successor, successors_in}
use Rattle.table.specs.Rows.{SuccessorsOnce}
use Rattle.table.specs.States.{LeadsTo}
use Rattle.table.proofs.Sections.{successor_entry}

-- tests joined by and
pub decides_both : {P Q : Type 0} (x y : Bool) → Decides x P → x ≡ true → Decides y Q → Decides y (P × Q)
decides_both x y d e k = (λ f. (d.0 e, k.0 f), λ (a, b). k.1 b)

pub decides_first : {P Q : Type 0} (x : Bool) → Decides x P → x ≡ false → Decides x (P × Q)
decides_first x d e = (λ f. absurd (true≢false (sym f ∙ e)), λ (a, b). d.1 a)

pub decides_like : {P Q : Type 0} (x : Bool) → (P → Q) → (Q → P) → Decides x P → Decides x Q
decides_like x f g d = (λ e. f (d.0 e), λ q. d.1 (g q))

-- a state that is named by an entry
module _ (q : ℕ) (xs : List ℕ) where
  pub leads_here : (entry rest : List ℕ) → xs ≡ entry ++ rest → length entry ≡ 2 → get_or entry 1 0 ≡ q → LeadsTo xs q
  leads_here (a ∷ b ∷ []) rest cut long e =
      subst (λ (es : List ℕ). LeadsTo es q) (sym cut) (a, Memᴰ.head (ap (λ (s : ℕ). record { symbol = a; state = s }) (sym e)))
  leads_here [] rest cut long e = absurd (omega arith)
  leads_here (a ∷ []) rest cut long e = absurd (omega arith)
  leads_here (a ∷ b ∷ c ∷ entry) rest cut long e = absurd (omega arith)

  pub leads_on : (entry rest : List ℕ) → xs ≡ entry ++ rest → length entry ≡ 2 → (get_or entry 1 0 ≡ q → ⊥) → LeadsTo xs q → LeadsTo rest q
  leads_on (a ∷ b ∷ []) rest cut long f l = by (subst (λ (es : List ℕ). LeadsTo es q) cut l)
    where
      by : LeadsTo (a ∷ b ∷ rest) q → LeadsTo rest q
      by (X, m) = by_place (Memᴰ.cases_cons m)
        where
          by_place : (◌≡◌ {A = Successor} (record { symbol = X; state = q }) (record { symbol = a; state = b }))
              ⊎ Memᴰ (record { symbol = X; state = q }) (successors_in rest) → LeadsTo rest q
          by_place (inl p) = absurd (f (sym (ap (λ (e : Successor). e.state) p)))
          by_place (inr p) = (X, p)
  leads_on [] rest cut long f l = absurd (omega arith)
  leads_on (a ∷ []) rest cut long f l = absurd (omega arith)
  leads_on (a ∷ b ∷ c ∷ entry) rest cut long f l = absurd (omega arith)

  pub leads_back : (entry rest : List ℕ) → xs ≡ entry ++ rest → length entry ≡ 2 → LeadsTo rest q → LeadsTo xs q
  leads_back (a ∷ b ∷ []) rest cut long (X, m) = subst (λ (es : List ℕ). LeadsTo es q) (sym cut) (X, Memᴰ.tail m)
  leads_back [] rest cut long l = absurd (omega arith)
  leads_back (a ∷ []) rest cut long l = absurd (omega arith)
  leads_back (a ∷ b ∷ c ∷ entry) rest cut long l = absurd (omega arith)

pub leads_nowhere : (q : ℕ) (xs : List ℕ) → length xs < 2 → LeadsTo xs q → ⊥
leads_nowhere q [] l (X, m) = Memᴰ.not-nil m
leads_nowhere q (a ∷ []) l (X, m) = Memᴰ.not-nil m
leads_nowhere q (a ∷ b ∷ xs) l (X, m) = absurd (omega arith)

-- an entry is a successor, and a successor an entry
pub leads_found : (R : Raw) (m q : ℕ) → m < q → SuccessorsOnce R m → LeadsTo (section_of R m section.TheVariants.Successors) q → Found (table_of R) q
leads_found R m q l once (X, e) = (m, X, (l, once (record { symbol = X; state = q }) e))

pub found_leads : (R : Raw) (q : ℕ) → Found (table_of R) q → (m : ℕ) × ((m < q) × LeadsTo (section_of R m section.TheVariants.Successors) q)
found_leads R q (m, X, (l, e)) = (m, (l, (X, successor_entry X q (section_of R m section.TheVariants.Successors) e)))
