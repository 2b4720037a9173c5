-- The symbol after a dot is read off the right side that the frames hold: what is found there stands just before the raised dot, and the other way
-- round. A state of a table of the right form has one.
use Rattle.std.proofs.Common.{◌≡◌, ℕ, ◌<◌, ◌≤◌, true, ltb, leb, List, [], ◌∷◌, length, get_or, Some, None, IfSome, IfNone, Option, sym, refl, ap, ◌∙◌, arith}
use mathlib.Core.List.{Memᴰ}
use denote.Ref.{Bor}
use Rattle.std.specs.Option.{option_copied}
use Rattle.std.specs.Slice.{IsItemAt}
use Rattle.std.proofs.lemmas.Bool.{true≢false, and_parts, leb-true, ltb-true}
use Rattle.std.proofs.lemmas.Option.{slice_get_read, slice_get_past, slice_get-get_or}
use Rattle.grammar.specs.Item.{Item, raised, Before, IsKernel}
use Rattle.frames.specs.declared.header.Section.TheVariants.{Kernel}
use Rattle.frames.specs.Raw.{Raw, header_of, right_of, section_of}
use Rattle.frames.specs.Form.{pairs_good}
use Rattle.items.specs.Entries.{items}
use Rattle.items.specs.Symbols.{entry_at}
use Rattle.items.proofs.Befores.{entry→cut, cut→entry}
use Rattle.table.specs.Contents.{grammar_of, table_of}
use Rattle.table.specs.Drafts.{Formed}
use Rattle.table.specs.LookUps.{AfterDots}
use Rattle.table.proofs.Numbering.{augmented_there, augmented_found}
use Rattle.table.proofs.Formed.{entries_are_good}
use Rattle.table.proofs.Sections.{kernel_places}

-- what `get` answers
pub got : (xs : List ℕ) (n : ℕ) (o : Option (Bor ℕ)) → IsItemAt xs n o → option_copied o ≡ entry_at xs n
got xs n None (_, _, _, beyond, _) = sym (slice_get_past xs n beyond)
got xs n (Some x) (_, _, _, (within, at), _) = sym (slice_get_read xs (length xs) n x.now refl within (at x.now))

module _ (R : Raw) (i : Item) where
  before_there : (X : ℕ) → i.rule ≤ (header_of R).p → entry_at (right_of R i.rule) i.dot ≡ Some X → Before (grammar_of R) (raised i) X
  before_there X l e =
      let a = augmented_there R i.rule l in
      let c = entry→cut (right_of R i.rule) i.dot X e in
      record { rule = a.rule; is_rule = a.is_rule; front = c.front; back = c.back; right_is = sym a.right_is ∙ c.whole; dot_is = omega (arith, c.long) }

  before_found : (X : ℕ) → Before (grammar_of R) (raised i) X → (i.rule ≤ (header_of R).p) × (entry_at (right_of R i.rule) i.dot ≡ Some X)
  before_found X b =
      let (l, e) = augmented_found R i.rule b.rule b.is_rule in
      let d : i.dot ≡ length b.front = omega (arith, b.dot_is) in
      (l, ap (entry_at (right_of R i.rule)) d ∙ ap (λ (xs : List ℕ). entry_at xs (length b.front)) (e ∙ b.right_is) ∙ cut→entry b.front X b.back)

  pub no_rule : (header_of R).p < i.rule → IsKernel (grammar_of R) i → ⊥
  no_rule l (X, b) = let (h, _) = before_found X b in absurd (omega (arith, l, h))

  pub symbol_told : (o : Option ℕ) → o ≡ entry_at (right_of R i.rule) i.dot → i.rule ≤ (header_of R).p
      → IfSome o (Before (grammar_of R) (raised i)) × IfNone o (IsKernel (grammar_of R) i → ⊥)
  symbol_told None e l = (tt, λ (X, b). let (_, f) = before_found X b in absurd cc)
  symbol_told (Some X) e l = (before_there X l (sym e), tt)

-- where a place of the kernel is known, the symbol read for it stands there
pub symbol_first : (R : Raw) (q : ℕ) {i : Item} → i.rule ≤ (header_of R).p → i.dot < length (right_of R i.rule) → Memᴰ i (items (section_of R q Kernel))
    → AfterDots (grammar_of R) (table_of R) q (get_or (right_of R i.rule) i.dot 0)
symbol_first R q {i} rule dot m = (i, (m, before_there R i _ rule (slice_get-get_or (right_of R i.rule) i.dot 0 dot)))

-- At a state of a table of the right form some symbol stands there: its kernel has a place, and every place has a symbol.
module _ (R : Raw) (formed : Formed R) (q : ℕ) (l : q < (header_of R).s) where
  some_place : (es : List ℕ) → leb 1 (length es) ≡ true → pairs_good R Kernel [] es ≡ true → (i : Item) × Memᴰ i (items es)
  some_place [] e f = absurd (true≢false (sym e))
  some_place (a ∷ []) e f = absurd (true≢false (sym f))
  some_place (a ∷ b ∷ es) e f = (record { rule = a; dot = b }, Memᴰ.head refl)

  pub symbol_there : (X : ℕ) × AfterDots (grammar_of R) (table_of R) q X
  symbol_there =
      let es = section_of R q Kernel in
      let (e, f) = and_parts (leb 1 (length es)) (pairs_good R Kernel [] es) (entries_are_good R formed q l Kernel) in
      let (i, m) = some_place es e f in
      let right = right_of R i.rule in
      let (rule, dot) = and_parts (leb i.rule (header_of R).p) (ltb i.dot (length right)) (kernel_places R formed q l i m) in
      let X = get_or right i.dot 0 in
      (X, (i, (m, before_there R i X (leb-true _ _ rule) (slice_get-get_or right i.dot 0 (ltb-true _ _ dot)))))
