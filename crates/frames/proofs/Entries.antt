-- The frame of a section. From the left, what passes the tests is cut into entries, each behind the one before; and entries that rise pass
-- one after the other, as in the turns of the loop.
use Rattle.std.proofs.Common.{◌≡◌, ℕ, ◌<◌, ◌≤◌, true, ◌&&◌, eqb, ltb, leb, List, [], ◌∷◌, ◌++◌, length, sym, refl, ap, ◌∙◌, subst, arith, length-append}
use Rattle.std.specs.List.{AllByRecursion, concat}
use Rattle.std.proofs.lemmas.Bool.{true≢false, and_from, and_parts, eq-eqb, eqb-true, lt-ltb, ltb-true, le-leb, leb-true}
use Rattle.frames.specs.declared.header.Section.{Section}
use Rattle.frames.specs.declared.header.Section.TheVariants.{Kernel, Words, Successors, Choices}
use Rattle.frames.specs.Raw.{Raw, header_of, right_of}
use Rattle.frames.specs.Form.{between, is_nonterminal, is_symbol, is_word, word_of, below, pair_good, choice_good, entry_good, pairs_good, choices_good, width, entries_rise, entries_good, tag, section_good}
use Rattle.frames.specs.Formed.{Entry, Precedes, Rising, Filled, SectionFrame}
use Rattle.frames.proofs.Turns.{follows, opened}
use Rattle.frames.proofs.Words.{within, between_from, symbol, symbol_passes, word, word_passes}
use Rattle.frames.proofs.Rising.{precedes, below_from, rising_more}

-- the entries that some bytes are cut into, behind another
record Cut (R : Raw) (c : Section) (last es : List ℕ) : Type 0 where
  pub entries : List (List ℕ)
  pub joined : es ≡ concat entries
  pub each : AllByRecursion (Entry R c) entries
  pub rising : Rising (last ∷ entries)

entry_long : (R : Raw) (c : Section) (e : List ℕ) → Entry R c e → length e ≡ width c
entry_long R Kernel e x = ap length x.bytes
entry_long R Words e x = ap length x.bytes
entry_long R Successors e x = ap length x.bytes
entry_long R Choices e x = ap length x.bytes

module _ (R : Raw) (some : 1 ≤ (header_of R).k) where
  pair_entry : (c : Section) (a b : ℕ) → pair_good R c a b ≡ true → Entry R c (a ∷ b ∷ [])
  pair_entry Kernel a b e =
      let (r, d) = and_parts (leb a (header_of R).p) (ltb b (length (right_of R a))) e in
      record { rule = a; dot = b; bytes = refl; known = leb-true a _ r; inside = ltb-true b _ d }
  pair_entry Words a b e = record { first = a; second = b; bytes = refl; word = word (header_of R) (header_of R).k (word_of a b) some e }
  pair_entry Successors a b e =
      let (x, q) = and_parts (is_symbol (header_of R) a) (ltb b (header_of R).s) e in
      record { symbol = a; state = b; bytes = refl; known = symbol (header_of R) a x; among = ltb-true b _ q }
  pair_entry Choices a b e = absurd (true≢false (sym e))

  choice_entry : (A a b r : ℕ) → choice_good (header_of R) A a b r ≡ true → Entry R Choices (A ∷ a ∷ b ∷ r ∷ [])
  choice_entry A a b r e =
      let (n, e') = and_parts (is_nonterminal (header_of R) A) (is_word (header_of R).k (header_of R) (word_of a b) && ltb r (header_of R).p) e in
      let (w, l) = and_parts (is_word (header_of R).k (header_of R) (word_of a b)) (ltb r (header_of R).p) e' in
      record {
        left = A;
        first = a;
        second = b;
        rule = r;
        bytes = refl;
        nonterminal = within 32 _ A n;
        word = word (header_of R) (header_of R).k (word_of a b) some w;
        known = ltb-true r _ l;
      }

  entry_passes : (c : Section) (e : List ℕ) → Entry R c e → entry_good R c e ≡ true
  entry_passes Kernel e x =
      ap (entry_good R Kernel) x.bytes
      ∙ and_from (leb x.rule (header_of R).p) (ltb x.dot (length (right_of R x.rule))) (le-leb _ _ x.known) (lt-ltb _ _ x.inside)
  entry_passes Words e x = ap (entry_good R Words) x.bytes ∙ word_passes (header_of R) (header_of R).k (word_of x.first x.second) some x.word
  entry_passes Successors e x =
      ap (entry_good R Successors) x.bytes
      ∙ and_from (is_symbol (header_of R) x.symbol) (ltb x.state (header_of R).s) (symbol_passes (header_of R) x.symbol x.known) (lt-ltb _ _ x.among)
  entry_passes Choices e x =
      ap (entry_good R Choices) x.bytes
      ∙ and_from (is_nonterminal (header_of R) x.left)
      (is_word (header_of R).k (header_of R) (word_of x.first x.second) && ltb x.rule (header_of R).p) (between_from 32 _ x.left x.nonterminal)
      (and_from (is_word (header_of R).k (header_of R) (word_of x.first x.second)) (ltb x.rule (header_of R).p)
      (word_passes (header_of R) (header_of R).k (word_of x.first x.second) some x.word) (lt-ltb _ _ x.known))

  -- what passes is cut into entries
  cut_none : (c : Section) (last : List ℕ) → Cut R c last []
  cut_none c last = record { entries = []; joined = refl; each = tt; rising = (tt, tt) }

  cut_more : (c : Section) (last e es : List ℕ) → below last e ≡ true → Entry R c e → Cut R c e es → Cut R c last (e ++ es)
  cut_more c last e es l x t = record {
    entries = e ∷ t.entries;
    joined = ap (λ (z : List ℕ). e ++ z) t.joined;
    each = (x, t.each);
    rising = rising_more last e t.entries (precedes last e l) t.rising;
  }

  pairs_cut : (c : Section) (last es : List ℕ) → pairs_good R c last es ≡ true → Cut R c last es
  pairs_cut c last [] e = cut_none c last
  pairs_cut c last (a ∷ []) e = absurd (true≢false (sym e))
  pairs_cut c last (a ∷ b ∷ es) e =
      let (x, more) = and_parts (below last (a ∷ b ∷ []) && pair_good R c a b) (pairs_good R c (a ∷ b ∷ []) es) e in
      let (l, good) = and_parts (below last (a ∷ b ∷ [])) (pair_good R c a b) x in
      cut_more c last (a ∷ b ∷ []) es l (pair_entry c a b good) (pairs_cut c (a ∷ b ∷ []) es more)

  choices_cut : (last es : List ℕ) → choices_good (header_of R) last es ≡ true → Cut R Choices last es
  choices_cut last [] e = cut_none Choices last
  choices_cut last (A ∷ []) e = absurd (true≢false (sym e))
  choices_cut last (A ∷ a ∷ []) e = absurd (true≢false (sym e))
  choices_cut last (A ∷ a ∷ b ∷ []) e = absurd (true≢false (sym e))
  choices_cut last (A ∷ a ∷ b ∷ r ∷ es) e =
      let (x, more) =
      and_parts (below last (A ∷ a ∷ b ∷ r ∷ []) && choice_good (header_of R) A a b r) (choices_good (header_of R) (A ∷ a ∷ b ∷ r ∷ []) es) e in
      let (l, good) = and_parts (below last (A ∷ a ∷ b ∷ r ∷ [])) (choice_good (header_of R) A a b r) x in
      cut_more Choices last (A ∷ a ∷ b ∷ r ∷ []) es l (choice_entry A a b r good) (choices_cut (A ∷ a ∷ b ∷ r ∷ []) es more)

  -- entries that rise pass
  none_passes : (c : Section) (last : List ℕ) → entries_rise R c last [] ≡ true
  none_passes Kernel last = refl
  none_passes Words last = refl
  none_passes Successors last = refl
  none_passes Choices last = refl

  entries_pass : (c : Section) (last : List ℕ) (es : List (List ℕ)) → AllByRecursion (Entry R c) es → Rising (last ∷ es)
      → entries_rise R c last (concat es) ≡ true
  entries_pass c last [] each rising = none_passes c last
  entries_pass c last (e ∷ es) each rising =
      opened R c last e (concat es) (entry_long R c e each.0)
      ∙ and_from (follows R c last e) (entries_rise R c e (concat es))
      (and_from (below last e) (entry_good R c e) (below_from last e rising.0.0) (entry_passes c e each.0)) (entries_pass c e es each.1 rising.1)

  -- every entry stands behind the empty list of bytes
  behind_none : (c : Section) (e : List ℕ) → Entry R c e → Precedes [] e
  behind_none Kernel e x = subst (Precedes []) (sym x.bytes) tt
  behind_none Words e x = subst (Precedes []) (sym x.bytes) tt
  behind_none Successors e x = subst (Precedes []) (sym x.bytes) tt
  behind_none Choices e x = subst (Precedes []) (sym x.bytes) tt

  all_behind_none : (c : Section) (es : List (List ℕ)) → AllByRecursion (Entry R c) es → AllByRecursion (Precedes []) es
  all_behind_none c [] each = tt
  all_behind_none c (e ∷ es) each = (behind_none c e each.0, all_behind_none c es each.1)

  -- bytes are cut into some entries where there are any
  some_entry : (es : List ℕ) (entries : List (List ℕ)) → es ≡ concat entries → 1 ≤ length es → 0 < length entries
  some_entry es [] joined l = absurd (omega (arith, ap length joined))
  some_entry es (e ∷ entries) joined l = omega arith

  filled_bytes : (c : Section) (entries : List (List ℕ)) → AllByRecursion (Entry R c) entries → 0 < length entries → 1 ≤ width c
      → 1 ≤ length (concat entries)
  filled_bytes c [] each l w = absurd (omega arith)
  filled_bytes c (e ∷ entries) each l w = omega (arith, length-append e (concat entries), entry_long R c e each.0)

  -- the frame of a section by the test and in words
  made : (c : Section) (f es : List ℕ) → f ≡ tag c ∷ es → length f ≤ 4096 → (t : Cut R c [] es) → Filled c t.entries → SectionFrame R c f
  made c f es bytes short t filled = record {
    entries = t.entries;
    bytes = bytes ∙ ap (λ (z : List ℕ). tag c ∷ z) t.joined;
    short = short;
    each = t.each;
    rising = t.rising.1;
    filled = filled;
  }

  entries_made : (c : Section) (f es : List ℕ) → f ≡ tag c ∷ es → length f ≤ 4096 → entries_good R c es ≡ true → SectionFrame R c f
  entries_made Kernel f es bytes short e =
      let (l, good) = and_parts (leb 1 (length es)) (pairs_good R Kernel [] es) e in
      let t = pairs_cut Kernel [] es good in
      made Kernel f es bytes short t (some_entry es t.entries t.joined (leb-true 1 _ l))
  entries_made Words f es bytes short e =
      let (l, good) = and_parts (leb 1 (length es)) (pairs_good R Words [] es) e in
      let t = pairs_cut Words [] es good in
      made Words f es bytes short t (some_entry es t.entries t.joined (leb-true 1 _ l))
  entries_made Successors f es bytes short e = made Successors f es bytes short (pairs_cut Successors [] es e) tt
  entries_made Choices f es bytes short e = made Choices f es bytes short (choices_cut [] es e) tt

  pub section_frame : (c : Section) (f : List ℕ) → section_good R c f ≡ true → SectionFrame R c f
  section_frame c [] e = absurd (true≢false (sym e))
  section_frame c (x ∷ es) e =
      let (size, e') = and_parts (between 1 4096 (length (x ∷ es))) (eqb x (tag c) && entries_good R c es) e in
      let (t, good) = and_parts (eqb x (tag c)) (entries_good R c es) e' in
      entries_made c (x ∷ es) es (ap (λ (z : ℕ). z ∷ es) (eqb-true x (tag c) t)) (within 1 4096 _ size).1 good

  entries_from : (c : Section) (es : List (List ℕ)) → AllByRecursion (Entry R c) es → Rising es → Filled c es → entries_good R c (concat es) ≡ true
  entries_from Kernel es each rising filled =
      and_from (leb 1 (length (concat es))) (pairs_good R Kernel [] (concat es)) (le-leb 1 _ (filled_bytes Kernel es each filled (omega arith)))
      (entries_pass Kernel [] es each (all_behind_none Kernel es each, rising))
  entries_from Words es each rising filled =
      and_from (leb 1 (length (concat es))) (pairs_good R Words [] (concat es)) (le-leb 1 _ (filled_bytes Words es each filled (omega arith)))
      (entries_pass Words [] es each (all_behind_none Words es each, rising))
  entries_from Successors es each rising filled = entries_pass Successors [] es each (all_behind_none Successors es each, rising)
  entries_from Choices es each rising filled = entries_pass Choices [] es each (all_behind_none Choices es each, rising)

  pub section_passes : (c : Section) (f : List ℕ) → SectionFrame R c f → section_good R c f ≡ true
  section_passes c f s =
      ap (section_good R c) s.bytes
      ∙ and_from (between 1 4096 (length (tag c ∷ concat s.entries))) (eqb (tag c) (tag c) && entries_good R c (concat s.entries))
      (between_from 1 4096 _ (omega arith, subst (λ (z : List ℕ). length z ≤ 4096) s.bytes s.short))
      (and_from (eqb (tag c) (tag c)) (entries_good R c (concat s.entries)) (eq-eqb _ _ refl) (entries_from c s.entries s.each s.rising s.filled))
