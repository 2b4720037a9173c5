use Rattle.std.proofs.Common.{length, refl, sym, ap, ◌∙◌, arith}
use Rattle.table.specs.Checked.{contents}
use Rattle.table.proofs.Defining.{answered_some}
use Rattle.reading.specs.Parts.{states}
use Rattle.reading.proofs.Leading.{choice_some, steps_few, leads_there, found}
use Rattle.reading.proofs.memory.Course.find.Goals as goal

pub unreachable-requires : goal.unreachable-requires
unreachable-requires c = choice_some (contents c.args.table) c.args.table.good c.requires (sym c.choice.ensures ∙ c.in_default.is)

pub push_along-requires-clause-room : goal.push_along-requires-clause-room
push_along-requires-clause-room c =
    let t = c.args.table in
    let chosen = answered_some _ c.in-Some.rule (sym c.choice.ensures ∙ c.in-Some.is) in
    omega (arith, steps_few (contents t) t.good c.requires c.in-Some.rule chosen c.right_side-right.ensures, ap length c.new-stack.ensures)

pub push_along-requires-clause-there : goal.push_along-requires-clause-there
push_along-requires-clause-there c =
    let t = c.args.table in
    let chosen = answered_some _ c.in-Some.rule (sym c.choice.ensures ∙ c.in-Some.is) in
    leads_there (contents t) t.good c.requires c.in-Some.rule chosen c.right_side-right.ensures c.new-stack.ensures

pub overflow_cast-result : goal.overflow_cast-result
overflow_cast-result c =
    let t = c.args.table in
    let chosen = answered_some _ c.in-Some.rule (sym c.choice.ensures ∙ c.in-Some.is) in
    omega (arith, steps_few (contents t) t.good c.requires c.in-Some.rule chosen c.right_side-right.ensures)

pub returns : goal.returns
returns c =
    let t = c.args.table in
    let chosen = answered_some _ c.in-Some.rule (sym c.choice.ensures ∙ c.in-Some.is) in
    found (contents t) t.good c.requires c.in-Some.rule chosen c.right_side-right.ensures _ (states c.push_along.new.self) _ c.new-stack.ensures c.push_along.ensures refl refl
    c.above_lowest.ensures
