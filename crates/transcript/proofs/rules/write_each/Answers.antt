use Rattle.std.proofs.Common.{true, [], get_or, take, refl, sym, ap, ◌∙◌, arith}
use Rattle.std.proofs.Output.{has_written_of_eq, has_written_append}
use Rattle.std.proofs.lemmas.List.{take_more, flat_map_more}
use Rattle.std.specs.List.{flat_map}
use Rattle.transcript.specs.Lines.{spaced}
use Rattle.transcript.proofs.rules.write_each.Goals as goal

pub loop-rule-preserved : goal.loop-rule-preserved
loop-rule-preserved g c = λ plain.
    let took = g.W.Write.write_str_gives in
    let rules = c.args.rules.now in
    let i = c.loop-rule.rule-index in
    let start = c.args.f.now in
    let before = c.loop-rule.invariant plain in
    let more = c.in_ok-write.ensures.writes before.plain (refl {a = true}) in
    let one_more = flat_map_more spaced [] (take i rules) (get_or rules i 0) ∙ ap (flat_map spaced) (sym (take_more rules i 0 (omega arith))) in
    has_written_of_eq took start _ _ c.write.new.self one_more
    (has_written_append took start (flat_map spaced (take i rules)) c.loop-rule.f (spaced (get_or rules i 0)) c.write.new.self before more)
