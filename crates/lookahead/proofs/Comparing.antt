-- Sets that store words are compared by the words: equal sets have the same strings, and a string of both is that of one word.
use Rattle.std.proofs.Common.{◌≡◌, ℕ, Bool, true, false, ◌↔◌, List, sym, refl, subst}
use Rattle.frames.specs.declared.header.Header.{Header}
use Rattle.frames.specs.Form.{is_word}
use Rattle.words.specs.Sets.{member, Meet}
use Rattle.words.specs.Members.{same_words}
use Rattle.words.specs.declared.set.Words.{Words}
use Rattle.lookahead.specs.Entries.{WordIn, strip}
use Rattle.lookahead.specs.Stored.{Stores}
use Rattle.lookahead.specs.Theorems.{EqualWords, WordsMeet}

same_tests : (a b : Bool) → (a ≡ true → b ≡ true) → (b ≡ true → a ≡ true) → a ≡ b
same_tests true b f g = sym (f refl)
same_tests false true f g = g refl
same_tests false false f g = refl

-- a string of one set that stores words, in another whose words are among these
string_stored : {k : ℕ} (h : Header) (W W' : Words k) (P P' : List ℕ → Type 0) → ((y : List ℕ) → P' y → is_word h.k h y ≡ true)
    → Stores h W P → Stores h W' P' → ((y : List ℕ) → P y → P' y) → (w : List ℕ) → member W w ≡ true → member W' w ≡ true
string_stored h W W' P P' all s s' f w m =
    let (y, (p, e)) = s.only w m in
    let p' = f y p in
    subst (λ (x : List ℕ). member W' x ≡ true) (sym e) ((s'.words y (all y p')).1 p')

module _ {k : ℕ} (h : Header) (W W' : Words k) (P P' : List ℕ → Type 0) (all : (y : List ℕ) → P y → is_word h.k h y ≡ true)
    (all' : (y : List ℕ) → P' y → is_word h.k h y ≡ true) (s : Stores h W P) (s' : Stores h W' P') where
  pub stored_equal : (W ≡ W') ↔ ((y : List ℕ) → P y ↔ P' y)
  stored_equal = (
    λ e y. (
      λ p. (s'.words y (all y p)).0 (subst (λ (x : Words k). member x (strip y) ≡ true) e ((s.words y (all y p)).1 p)),
      λ p. (s.words y (all' y p)).0 (subst (λ (x : Words k). member x (strip y) ≡ true) (sym e) ((s'.words y (all' y p)).1 p)),
    ),
    λ f. same_words W W' (λ w. same_tests (member W w) (member W' w)
        (string_stored h W W' P P' all' s s' (λ y p. (f y).0 p) w) (string_stored h W' W P' P all s' s (λ y p. (f y).1 p) w)),
  )

  pub stored_meet : Meet W W' ↔ ((y : List ℕ) × (P y × P' y))
  stored_meet = (
    λ (w, m, m').
        let (y, (p, e)) = s.only w m in
        (y, (p, (s'.words y (all y p)).0 (subst (λ (x : List ℕ). member W' x ≡ true) e m'))),
    λ (y, (p, p')). (strip y, (s.words y (all y p)).1 p, (s'.words y (all y p)).1 p'),
  )

pub equal_words : (k : ℕ) → EqualWords k
equal_words k h es es' all all' W W' s s' = stored_equal h W W' (WordIn es) (WordIn es') all all' s s'

pub words_meet : (k : ℕ) → WordsMeet k
words_meet k h es es' all all' W W' s s' = stored_meet h W W' (WordIn es) (WordIn es') all all' s s'
