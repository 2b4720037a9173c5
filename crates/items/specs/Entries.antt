-- The places that a list of bytes stands for.
use Rattle.std.specs.Prelude.{ℕ, Bool, false, ◌&&◌, ◌||◌, List, [], ◌∷◌, ◌==◌}
use Rattle.grammar.specs.Item.{Item}
use Rattle.items.specs.declared.place.Place.{Place}

-- A place as an item.
abbrev pub item_of : Place → Item
item_of p = record { rule = p.rule; dot = p.dot }

-- Pairs of a rule and a dot, as items.
abbrev pub items : List ℕ → List Item
items [] = []
items (r ∷ []) = []
items (r ∷ d ∷ rest) = record { rule = r; dot = d } ∷ items rest

-- Two items are the same.
abbrev pub same_item : Item → Item → Bool
same_item i j = i.rule == j.rule && i.dot == j.dot

-- An item is among the pairs.
abbrev pub mentions : List ℕ → Item → Bool
mentions [] i = false
mentions (r ∷ []) i = false
mentions (r ∷ d ∷ rest) i = same_item i (record { rule = r; dot = d }) || mentions rest i
