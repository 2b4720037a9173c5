-- The turns of the loops over entries: each puts in the first entry of those that are left, and fewer bytes than an entry has put in none.
use Rattle.std.proofs.Common.{◌≡◌, ℕ, ◌<◌, List, [], ◌∷◌, ◌++◌, length, get_or, sym, refl, ap, ◌∙◌, arith}
use Rattle.words.specs.declared.set.Words.{Words}
use Rattle.lookahead.specs.Stored.{with_entry, with_choice, with_entries, with_choices}

module _ {k : ℕ} (s : Words k) where
  pub entries_more : (t : Words k) (xs entry rest : List ℕ) → xs ≡ entry ++ rest → length entry ≡ 2
      → t ≡ with_entry s (get_or entry 0 0) (get_or entry 1 0) → with_entries t rest ≡ with_entries s xs
  entries_more t xs (a ∷ b ∷ []) rest e long is = ap (λ (x : Words k). with_entries x rest) is ∙ sym (ap (with_entries s) e)
  entries_more t xs [] rest e long is = absurd (omega arith)
  entries_more t xs (a ∷ []) rest e long is = absurd (omega arith)
  entries_more t xs (a ∷ b ∷ c ∷ entry) rest e long is = absurd (omega arith)

  pub entries_end : (xs : List ℕ) → length xs < 2 → s ≡ with_entries s xs
  entries_end [] h = refl
  entries_end (a ∷ []) h = refl
  entries_end (a ∷ b ∷ xs) h = absurd (omega arith)

  pub choices_more : (r : ℕ) (t : Words k) (xs entry rest : List ℕ) → xs ≡ entry ++ rest → length entry ≡ 4
      → t ≡ with_choice r s (get_or entry 1 0) (get_or entry 2 0) (get_or entry 3 0) → with_choices r t rest ≡ with_choices r s xs
  choices_more r t xs (A ∷ a ∷ b ∷ q ∷ []) rest e long is = ap (λ (x : Words k). with_choices r x rest) is ∙ sym (ap (with_choices r s) e)
  choices_more r t xs [] rest e long is = absurd (omega arith)
  choices_more r t xs (A ∷ []) rest e long is = absurd (omega arith)
  choices_more r t xs (A ∷ a ∷ []) rest e long is = absurd (omega arith)
  choices_more r t xs (A ∷ a ∷ b ∷ []) rest e long is = absurd (omega arith)
  choices_more r t xs (A ∷ a ∷ b ∷ q ∷ c ∷ entry) rest e long is = absurd (omega arith)

  pub choices_end : (r : ℕ) (xs : List ℕ) → length xs < 4 → s ≡ with_choices r s xs
  choices_end r [] h = refl
  choices_end r (A ∷ []) h = refl
  choices_end r (A ∷ a ∷ []) h = refl
  choices_end r (A ∷ a ∷ b ∷ []) h = refl
  choices_end r (A ∷ a ∷ b ∷ q ∷ xs) h = absurd (omega arith)
