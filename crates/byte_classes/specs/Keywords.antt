-- The words of a sheet that have a kind of their own.
use Rattle.std.specs.Prelude.{ℕ, cond, List, Some, None, codes, Option}
use Rattle.std.specs.Str.{bytes_eq}
use Rattle.byte_classes.specs.declared.keyword.Keyword.{Keyword}
use Rattle.byte_classes.specs.declared.keyword.Keyword.TheVariants.{Zone, Curve, Set, From, To, Off}

-- which of the six words a text is
abbrev pub keyword_of : List ℕ → Option Keyword
keyword_of w =
    cond (bytes_eq w (codes "zone")) (Some Zone)
    (cond (bytes_eq w (codes "curve")) (Some Curve)
    (cond (bytes_eq w (codes "set")) (Some Set)
    (cond (bytes_eq w (codes "from")) (Some From)
    (cond (bytes_eq w (codes "to")) (Some To)
    (cond (bytes_eq w (codes "off")) (Some Off) None)))))
