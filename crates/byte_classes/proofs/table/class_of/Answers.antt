-- An entry of the table is the class of its byte.
use Rattle.std.proofs.Common.{◌∙◌, arith}
use Rattle.std.proofs.lemmas.List.FromFn.{get_or-map-range_with_len}
use Rattle.byte_classes.specs.Classes.{class_of}
use Rattle.byte_classes.specs.declared.class.Class.TheVariants.{Letter}
use Rattle.byte_classes.proofs.table.class_of.Goals as goal

pub returns : goal.returns
returns c = c.entry.ensures ∙ get_or-map-range_with_len class_of 0 256 c.args.byte c.args.byte Letter (omega arith) (omega arith)
