-- The files with nothing wrong are those of canonical collections. The rows of the frames make the grammar well formed, those of the grammar
-- make it sound, and those of the states ask state by state what makes a table accepted.
use Rattle.std.proofs.Common.{◌≡◌, ℕ, true, List, [], ◌∷◌, ◌++◌, sym, refl, ◌∙◌}
use mathlib.Core.Logic.{∥∥₁_map}
use mathlib.Core.List.Memᴰ
use mathlib.Core.List.{Memᴰ}
use Rattle.std.proofs.lemmas.Bool.{true≢false}
use Rattle.grammar.specs.Sound.{Sound}
use Rattle.grammar.specs.Table.{IsCollection, Accepted}
use Rattle.grammar.proofs.Canonical.{accepted_are_canonical}
use Rattle.grammar.proofs.LL.{ll_without_conflict, conflicts_decide}
use Rattle.frames.specs.Raw.{Raw}
use Rattle.frames.specs.Form.{frame_good}
use Rattle.table.specs.Contents.{grammar_of, table_of}
use Rattle.table.specs.Rows.{Row, numbers, starts, frames, productive, reachable, defined, distinct, found, one_fits, chosen, form_rows, grammar_rows, Good, AcceptedFile}
use Rattle.table.specs.Theorems.{HoldsTable, HoldsCanonical, AcceptedIsCanonical, ConflictIsNotLL}
use Rattle.table.specs.Checked.{contents}
use Rattle.table.specs.declared.passed.CheckedTable.{CheckedTable}
use Rattle.table.specs.Drafts.{Formed}
use Rattle.table.proofs.Formed.{ranges, well_formed}

module _ (R : Raw) where
  formed_of : ((i : ℕ) → frame_good R i ≡ true) → Formed R
  formed_of g i e = true≢false (sym (g i) ∙ e)

  sound_of : ((i : ℕ) → Good R frames i) → ((A : ℕ) → Good R productive A) → ((A : ℕ) → Good R reachable A) → Sound (grammar_of R)
  sound_of f p r = record { well_formed = well_formed R (formed_of f); productive = p; reachable = r }

  collection_of : ((i : ℕ) → Good R frames i) → ((q : ℕ) → Good R defined q) → ((q : ℕ) → Good R distinct q) → ((q : ℕ) → Good R found q)
      → IsCollection (grammar_of R) (table_of R)
  collection_of f d e n = record { some_state = (ranges R (formed_of f)).s_low; defined = λ q l. (d q l).1; distinct = e; found = n }

  -- what is checked of a file, for a reader of its table
  pub formed_file : AcceptedFile R → Formed R
  formed_file g = formed_of (g frames)

  pub sound_grammar : AcceptedFile R → Sound (grammar_of R)
  sound_grammar g = sound_of (g frames) (g productive) (g reachable)

  pub accepted_table : AcceptedFile R → Accepted (grammar_of R) (table_of R)
  accepted_table g = record {
    collection = collection_of (g frames) (g defined) (g distinct) (g found);
    one_fits = g one_fits;
    choices = λ q l. (g chosen q l).1;
  }

  file_of : HoldsTable R → Sound (grammar_of R) → Accepted (grammar_of R) (table_of R) → AcceptedFile R
  file_of h s a numbers i = h.formed numbers (Memᴰ.head refl) i
  file_of h s a starts i = h.formed starts (Memᴰ.tail (Memᴰ.head refl)) i
  file_of h s a frames i = h.formed frames (Memᴰ.tail (Memᴰ.tail (Memᴰ.head refl))) i
  file_of h s a productive A = s.productive A
  file_of h s a reachable A = s.reachable A
  file_of h s a defined q = λ l. ((h.once q l).0, a.collection.defined q l)
  file_of h s a distinct q = a.collection.distinct q
  file_of h s a found q = a.collection.found q
  file_of h s a one_fits q = a.one_fits q
  file_of h s a chosen q = λ l. ((h.once q l).1, a.choices q l)

pub accepted_is_canonical : AcceptedIsCanonical
accepted_is_canonical R = (there, λ (h, (s, (c, (d, n)))). file_of R h s ((accepted_are_canonical (grammar_of R) s (table_of R)).1 (c, d, n)))
  where
    there : AcceptedFile R → HoldsCanonical R
    there g =
        let s : Sound (grammar_of R) = sound_grammar R g in
        let h : HoldsTable R = record { formed = λ c m. g c; once = λ q l. ((g defined q l).0, (g chosen q l).0) } in
        let (c, d, n) = (accepted_are_canonical (grammar_of R) s (table_of R)).0 (accepted_table R g) in
        (h, (s, (c, (d, n))))

-- so a checked table holds one
pub holds_canonical : (t : CheckedTable) → ∥ HoldsCanonical (contents t) ∥₁
holds_canonical t = ∥∥₁_map t.good (accepted_is_canonical (contents t)).0

-- the rows of the states before the one of conflicts
abbrev collection_rows : List Row
collection_rows = defined ∷ distinct ∷ found ∷ []

module _ (R : Raw) (g : (c : Row) → Memᴰ c (form_rows ++ (grammar_rows ++ collection_rows)) → (i : ℕ) → Good R c i) where
  form_row : (c : Row) → Memᴰ c form_rows → (i : ℕ) → Good R c i
  form_row c m = g c (Memᴰ.append_left (grammar_rows ++ collection_rows) m)

  grammar_row : (c : Row) → Memᴰ c grammar_rows → (i : ℕ) → Good R c i
  grammar_row c m = g c (Memᴰ.append_right form_rows (Memᴰ.append_left collection_rows m))

  collection_row : (c : Row) → Memᴰ c collection_rows → (i : ℕ) → Good R c i
  collection_row c m = g c (Memᴰ.append_right form_rows (Memᴰ.append_right grammar_rows m))

  good_frames : (i : ℕ) → Good R frames i
  good_frames = form_row frames (Memᴰ.tail (Memᴰ.tail (Memᴰ.head refl)))

  sound : Sound (grammar_of R)
  sound =
      sound_of R good_frames
      (grammar_row productive (Memᴰ.head refl))
      (grammar_row reachable (Memᴰ.tail (Memᴰ.head refl)))

  collection : IsCollection (grammar_of R) (table_of R)
  collection =
      collection_of R good_frames
      (collection_row defined (Memᴰ.head refl))
      (collection_row distinct (Memᴰ.tail (Memᴰ.head refl)))
      (collection_row found (Memᴰ.tail (Memᴰ.tail (Memᴰ.head refl))))

pub conflict_is_not_LL : ConflictIsNotLL
conflict_is_not_LL R g = (
  λ (q, a) ll. a ((ll_without_conflict (grammar_of R) (sound R g) (table_of R) (collection R g)).0 ll q),
  λ n. let (q, (l, t)) = (conflicts_decide (grammar_of R) (sound R g) (table_of R) (collection R g)).1 n in (q, λ f. f l t),
)
