-- A listing, line after line: what is written so far and the listing of what is left make the whole.
use Rattle.std.proofs.Common.{◌≡◌, ℕ, true, false, Ok, Err, Result, List, [], ◌∷◌, ◌++◌, sym, ap, ◌∙◌, subst, append_assoc}
use Rattle.std.specs.Fmt.{HasWritten}
use Rattle.std.specs.declared.fmt.Formatter.{Formatter}
use Rattle.std.proofs.Output.{has_written_of_eq, has_written_append}
use Rattle.sheet.specs.Scan.{Scanned}
use Rattle.sheet.specs.Scanners.{Gives, spot_of}
use Rattle.sheet.specs.declared.fault.ScanFault.{ScanFault}
use Rattle.sheet.specs.declared.lexeme.PlacedLexeme.{PlacedLexeme}
use Rattle.source.specs.declared.fault.Faulted.{Faulted}
use Rattle.source.specs.declared.token.Entry.{Entry}
use Rattle.source.specs.declared.token.Entry.TheVariants.{Given, End}
use Rattle.listing.specs.Lines.{line_text, line_of, last, spot_line}
use Rattle.listing.specs.Listings.{listing}
use Rattle.listing.specs.declared.line.Line.{Line}

abbrev Answer : Type 0
Answer = Result (Entry PlacedLexeme) (Faulted ScanFault)

-- a line that is not the last has the listing of what is left behind it
line_more : (m n : Scanned) (r : Answer) → Gives m r n → last (line_of r) ≡ false → listing m ≡ (line_text (line_of r) ++ 10 ∷ []) ++ listing n
line_more m n (Ok (Given x)) gives more = ap listing gives ∙ sym (append_assoc (spot_line (spot_of x)) (10 ∷ []) (listing n))
line_more m n (Ok (End p)) gives more = absurd cc
line_more m n (Err f) gives more = absurd cc

line_last : (m n : Scanned) (r : Answer) → Gives m r n → last (line_of r) ≡ true → listing m ≡ line_text (line_of r) ++ 10 ∷ []
line_last m n (Ok (Given x)) gives done = absurd cc
line_last m n (Ok (End p)) gives done = ap listing gives.0
line_last m n (Err f) gives done = ap listing gives.0

module _ {W : Type 0} (took : W → List ℕ → W → Type 0) where
  -- from f to g a part of the whole text was written, and the listing of m is the rest
  pub record Listed (f : Formatter W) (whole : List ℕ) (g : Formatter W) (m : Scanned) : Type 0 where
    pub written : List ℕ
    pub put : HasWritten took f written g
    pub rest : written ++ listing m ≡ whole

  module _ (f : Formatter W) (whole : List ℕ) (g h : Formatter W) (m n : Scanned) (r : Answer) (l : Line) (is : l ≡ line_of r) (before : Listed f whole g m) (gives : Gives m r n) (wrote : HasWritten took g (line_text l ++ 10 ∷ []) h) where
    put_line : HasWritten took f (before.written ++ (line_text l ++ 10 ∷ [])) h
    put_line = has_written_append took f before.written g (line_text l ++ 10 ∷ []) h before.put wrote

    pub listed_more : last l ≡ false → Listed f whole h n
    listed_more more = record {
      written = before.written ++ (line_text l ++ 10 ∷ []);
      put = put_line;
      rest = append_assoc before.written (line_text l ++ 10 ∷ []) (listing n) ∙ ap (λ (t : List ℕ). before.written ++ t) (sym (subst (λ k. last k ≡ false → listing m ≡ (line_text k ++ 10 ∷ []) ++ listing n) (sym is) (line_more m n r gives) more)) ∙ before.rest;
    }

    pub listed_all : last l ≡ true → HasWritten took f whole h
    listed_all done = has_written_of_eq took f _ whole h (ap (λ (t : List ℕ). before.written ++ t) (sym (subst (λ k. last k ≡ true → listing m ≡ line_text k ++ 10 ∷ []) (sym is) (line_last m n r gives) done)) ∙ before.rest) put_line
