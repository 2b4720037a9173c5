-- What a scanner means, and what it gives when it is asked.
use Rattle.std.specs.Prelude.{◌≡◌, map, Ok, Err, Result}
use Rattle.source.specs.Meaning.{Meaning, ends, faults}
use Rattle.source.specs.declared.fault.Faulted.{Faulted}
use Rattle.source.specs.declared.token.Entry.{Entry}
use Rattle.source.specs.declared.token.Entry.TheVariants.{Given, End}
use Rattle.source.specs.declared.token.Token.{Token}
use Rattle.sheet.specs.Lexemes.{kind_of, text_of}
use Rattle.sheet.specs.Scan.{Spot, Scanned, before, only, scan_from}
use Rattle.sheet.specs.declared.fault.ScanFault.{ScanFault}
use Rattle.sheet.specs.declared.lexeme.PlacedLexeme.{PlacedLexeme}
use Rattle.sheet.specs.declared.scanner.Scanner.{Scanner}

-- the tokens that are still to come, and the last entry
abbrev pub scanned : Scanner → Scanned
scanned s = scan_from 0 s.rest.now s.at.line s.at.column

-- as a source, a scanner gives kinds and places
abbrev pub token_of : Spot → Token
token_of t = record { kind = t.kind; place = t.place }

-- the meaning of a scanner as a source
abbrev pub meaning_of : Scanned → Meaning ScanFault
meaning_of m = record { tokens = map token_of m.spots; last = m.last }

-- a lexeme at its place, as the definition has it
abbrev pub spot_of : PlacedLexeme → Spot
spot_of x = record { kind = kind_of x.lexeme; text = text_of x.lexeme; place = x.place }

-- asked where m was to come, a scanner gives the first of it, and then n is to come: a lexeme is dropped, and the last entry stays
abbrev pub Gives : Scanned → Result (Entry PlacedLexeme) (Faulted ScanFault) → Scanned → Type 0
Gives m (Ok (Given x)) n = m ≡ before (spot_of x) n
Gives m (Ok (End p)) n = (m ≡ only (ends p)) × (n ≡ m)
Gives m (Err f) n = (m ≡ only (faults f)) × (n ≡ m)
