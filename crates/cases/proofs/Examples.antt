-- What the tests say of the tables of the examples, by computation; and the answers, since there is but one for each.
use Rattle.std.proofs.Common.{◌≡◌, ℕ, true, List, [], ◌∷◌, Ok, Err, Result, sym, refl, ◌∙◌, subst, ap₂, ⊎_elim, arith}
use Rattle.std.proofs.lemmas.Bool.{true≢false, and_parts, or_cases, cond_both}
use Rattle.frames.specs.Raw.{Raw}
use Rattle.table.specs.declared.refused.CheckRefusal.{CheckRefusal}
use Rattle.table.specs.declared.refused.CheckRefusal.TheVariants.{Undefined, TwoFit}
use Rattle.table.specs.Rows.{Verdict}
use Rattle.table.specs.Contents.{same_word}
use Rattle.table.proofs.LookedUp.{same_word_is}
use Rattle.table.proofs.Verdicts.{verdict_is_one}
use Rattle.cases.specs.Tables.{bytes_of, begins, accepted, renumbered, misworded, left_recursive, looking_further, enclosing, Example, holds, is_known, expected, examples, filled, file, Right, Tables}
use Rattle.cases.proofs.Settled as settled
use Rattle.cases.proofs.Settled.{SoundFile, Collected, refused_undefined, refused_two_fit}

accepted_sound : SoundFile (file accepted) 3
accepted_sound = record { numbers = refl; starts = refl; frames = refl; solved = refl; productive = refl; reachable = refl }

accepted_collected : Collected (file accepted) 3 accepted_sound
accepted_collected = record { start = refl; defined = refl; distinct = refl; found = refl }

pub accepted_is : Verdict (file accepted) (Ok tt)
accepted_is = settled.accepted (file accepted) 3 accepted_sound accepted_collected refl refl

renumbered_sound : SoundFile (file renumbered) 3
renumbered_sound = record { numbers = refl; starts = refl; frames = refl; solved = refl; productive = refl; reachable = refl }

renumbered_collected : Collected (file renumbered) 3 renumbered_sound
renumbered_collected = record { start = refl; defined = refl; distinct = refl; found = refl }

renumbered_is : Verdict (file renumbered) (Ok tt)
renumbered_is = settled.accepted (file renumbered) 3 renumbered_sound renumbered_collected refl refl

misworded_sound : SoundFile (file misworded) 3
misworded_sound = record { numbers = refl; starts = refl; frames = refl; solved = refl; productive = refl; reachable = refl }

misworded_is : Verdict (file misworded) (Err (Undefined 2))
misworded_is = refused_undefined (file misworded) 3 misworded_sound refl 2 (omega arith) refl refl

left_recursive_sound : SoundFile (file left_recursive) 2
left_recursive_sound = record { numbers = refl; starts = refl; frames = refl; solved = refl; productive = refl; reachable = refl }

left_recursive_collected : Collected (file left_recursive) 2 left_recursive_sound
left_recursive_collected = record { start = refl; defined = refl; distinct = refl; found = refl }

left_recursive_is : Verdict (file left_recursive) (Err (TwoFit 0))
left_recursive_is = refused_two_fit (file left_recursive) 2 left_recursive_sound left_recursive_collected 0 (omega arith) refl refl

looking_further_sound : SoundFile (file looking_further) 3
looking_further_sound = record { numbers = refl; starts = refl; frames = refl; solved = refl; productive = refl; reachable = refl }

looking_further_collected : Collected (file looking_further) 3 looking_further_sound
looking_further_collected = record { start = refl; defined = refl; distinct = refl; found = refl }

looking_further_is : Verdict (file looking_further) (Err (TwoFit 1))
looking_further_is = refused_two_fit (file looking_further) 3 looking_further_sound looking_further_collected 1 (omega arith) refl refl

enclosing_sound : SoundFile (file enclosing) 2
enclosing_sound = record { numbers = refl; starts = refl; frames = refl; solved = refl; productive = refl; reachable = refl }

enclosing_collected : Collected (file enclosing) 2 enclosing_sound
enclosing_collected = record { start = refl; defined = refl; distinct = refl; found = refl }

pub enclosing_is : Verdict (file enclosing) (Ok tt)
enclosing_is = settled.accepted (file enclosing) 2 enclosing_sound enclosing_collected refl refl

-- memories that hold the frames of an example are answered as it is
held : (e : Example) (store starts : List ℕ) → holds e store starts ≡ true → Verdict (file e.frames) e.answer → Verdict (filled store starts) e.answer
held e store starts t a =
    let (s, b) = and_parts (same_word store (bytes_of e.frames)) (same_word starts (begins 0 e.frames)) t in
    let same : filled (bytes_of e.frames) (begins 0 e.frames) ≡ filled store starts = sym (ap₂ filled (same_word_is store _ s) (same_word_is starts _ b)) in
    subst (λ (R : Raw). Verdict R e.answer) same a

answered : (es : List Example) → Right es → (store starts : List ℕ) → is_known es store starts ≡ true → Verdict (filled store starts) (expected es store starts)
answered [] all store starts t = absurd (true≢false (sym t))
answered (e ∷ es) (a, all) store starts t =
    cond_both (holds e store starts) e.answer (expected es store starts) (Verdict (filled store starts))
    (λ h. held e store starts h a)
    (λ h. answered es all store starts
    (⊎_elim (λ h'. absurd (true≢false (sym h' ∙ h))) (λ k. k) (or_cases (holds e store starts) (is_known es store starts) t)))

-- the tables have their verdicts
pub tables_right : Tables
tables_right = (accepted_is, (renumbered_is, (misworded_is, (left_recursive_is, (looking_further_is, (enclosing_is, tt))))))

pub known : (store starts : List ℕ) (r : Result (Unit {0}) CheckRefusal) → is_known examples store starts ≡ true → Verdict (filled store starts) r
    → r ≡ expected examples store starts
known store starts r t a =
    verdict_is_one (filled store starts) r (expected examples store starts) a
    (answered examples tables_right store starts t)
