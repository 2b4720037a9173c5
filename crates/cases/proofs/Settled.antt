-- The answer of the check from the tests. Where the tests pass for the form and the grammar, the answer is that of the states; and that is Ok
-- where they pass for all states, or else the lowest state where one of them fails.
use Rattle.std.proofs.Common.{◌≡◌, ℕ, ◌+◌, ◌<◌, Bool, true, false, not, eqb, [], ◌∷◌, get_or, Ok, Err, Result, sym, refl, ◌∙◌, inl, inr, ⊎_elim}
use Rattle.std.proofs.lemmas.Bool.{true≢false, cases_Bool, not_from_true}
use Rattle.frames.specs.Raw.{Raw, header_of}
use Rattle.frames.specs.Form.{numbers_good, needed, start_good, frame_good}
use Rattle.table.specs.declared.refused.CheckRefusal.{CheckRefusal}
use Rattle.table.specs.declared.refused.CheckRefusal.TheVariants.{Undefined, TwoFit}
use Rattle.table.specs.Contents.{grammar_of}
use Rattle.table.specs.Drafts.{Formed}
use Rattle.table.specs.Rows.{defined, one_fits, chosen, state_rows, Good, VerdictBy, Verdict}
use Rattle.table.proofs.Formed.{well_formed}
use Rattle.cases.proofs.Searches.{every, every_at, up_to, low_in, among}
use Rattle.cases.proofs.Beginnings.{Sets, rounds, is_solved, rounds_derived, first_with_is, word_productive}
use Rattle.cases.proofs.Judged.{formed_by, good_frames, good_starts, some_word, good_productive, reached, good_reachable, closure_at, state_by, start_fine, FirstsTold, state_good, misworded, state_bad, equal_lower, not_equal, is_found, not_lost, clashes, two_fit, not_two, choices_fine, choices_good}

-- The tests of the form and of the grammar pass, with so many rounds.
pub record SoundFile (R : Raw) (m : ℕ) : Type 0 where
  pub numbers : numbers_good R ≡ true
  pub starts : every (λ i. start_good R i) (up_to R.frames) ≡ true
  pub frames : every (λ i. frame_good R i) (up_to (needed R + 1)) ≡ true
  pub solved : is_solved (grammar_of R) (rounds (grammar_of R) m) ≡ true
  pub productive : every (λ i. some_word (get_or (rounds (grammar_of R) m) i [])) (up_to (header_of R).n) ≡ true
  pub reachable : every (λ i. among eqb (reached (grammar_of R) m) (32 + i)) (up_to (header_of R).n) ≡ true

not_true_false : (b : Bool) → not b ≡ true → b ≡ false
not_true_false b e = ⊎_elim (λ t. absurd (true≢false (sym e ∙ not_from_true b t))) (λ f. f) (cases_Bool b)

module _ (R : Raw) (m : ℕ) (ok : SoundFile R m) where
  -- the words of FIRST
  abbrev sets : Sets
  sets = rounds (grammar_of R) m

  formed : Formed R
  formed = formed_by R ok.frames

  firsts : FirstsTold R sets
  firsts = first_with_is (grammar_of R) (well_formed R formed) sets ok.solved (rounds_derived (grammar_of R) (well_formed R formed) m)

  by_states : (v : Result (Unit {0}) CheckRefusal) → VerdictBy R state_rows v → Verdict R v
  by_states v a =
      let productives = word_productive (grammar_of R) (well_formed R formed) sets ok.solved (rounds_derived (grammar_of R) (well_formed R formed) m) in
      inr (
        λ i z. ok.numbers,
        inr (
          good_starts R ok.starts,
          inr (
            good_frames R formed,
            inr (good_productive R sets productives ok.productive, inr (good_reachable R m ok.reachable, a)),
          ),
        ),
      )

  -- the first n states are as defined
  abbrev pub DefinedBelow : ℕ → Type 0
  DefinedBelow n = every (λ q. state_by R sets q (closure_at R q)) (up_to n) ≡ true

  good_defined : start_fine R ≡ true → (n : ℕ) → DefinedBelow n → (q : ℕ) → q < n → Good R defined q
  good_defined s n t q l h = state_good R formed sets firsts q h s (every_at (λ q. state_by R sets q (closure_at R q)) (up_to n) t q (low_in n q l))

  all_defined : start_fine R ≡ true → DefinedBelow (header_of R).s → (q : ℕ) → Good R defined q
  all_defined s t q l = good_defined s (header_of R).s t q l l

  -- the rows between: no two states are equal, and each is found
  pub record Collected : Type 0 where
    pub start : start_fine R ≡ true
    pub defined : DefinedBelow (header_of R).s
    pub distinct : every (λ q. not (equal_lower R q)) (up_to (header_of R).s) ≡ true
    pub found : every (is_found R) (up_to (header_of R).s) ≡ true

  collected : (v : Result (Unit {0}) CheckRefusal) → Collected → VerdictBy R (one_fits ∷ chosen ∷ []) v → Verdict R v
  collected v c a =
      by_states v (inr (
        all_defined c.start c.defined,
        inr (
          λ q l. not_equal R q (not_true_false _ (every_at (λ q. not (equal_lower R q)) (up_to (header_of R).s) c.distinct q (low_in (header_of R).s q l))),
          inr (λ q l. not_lost R q (every_at (is_found R) (up_to (header_of R).s) c.found q (low_in (header_of R).s q l)), a),
        ),
      ))

  good_below : (n : ℕ) → every (λ q. not (clashes R q)) (up_to n) ≡ true → (q : ℕ) → q < n → Good R one_fits q
  good_below n t q l h = not_two R formed q (not_true_false _ (every_at (λ q. not (clashes R q)) (up_to n) t q (low_in n q l)))

  pub accepted : Collected → every (λ q. not (clashes R q)) (up_to (header_of R).s) ≡ true → every (choices_fine R) (up_to (header_of R).s) ≡ true
      → Verdict R (Ok tt)
  accepted c f h =
      collected (Ok tt) c (inr (
        λ q l. good_below (header_of R).s f q l l,
        inr (λ q l. choices_good R formed q (every_at (choices_fine R) (up_to (header_of R).s) h q (low_in (header_of R).s q l)), refl),
      ))

  pub refused_undefined : start_fine R ≡ true → (q : ℕ) (l : q < (header_of R).s) → DefinedBelow q → misworded R sets q ≡ true
      → Verdict R (Err (Undefined q))
  refused_undefined s q l t bad =
      by_states (Err (Undefined q)) (inl (q, (record { applies = λ good. state_bad R formed sets firsts q l bad (good l); lowest = good_defined s q t }, refl)))

  pub refused_two_fit : Collected → (q : ℕ) → q < (header_of R).s → every (λ q. not (clashes R q)) (up_to q) ≡ true → clashes R q ≡ true
      → Verdict R (Err (TwoFit q))
  refused_two_fit c q l t bad =
      collected (Err (TwoFit q)) c (inl (q, (record { applies = λ good. good l (two_fit R formed q bad); lowest = good_below q t }, refl)))
