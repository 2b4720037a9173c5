use Rattle.std.proofs.Common.{rules, ◌≡◌, ℕ, ◌≤◌, List, length, get_or, sym, ap, ◌∙◌, subst, arith}
use Rattle.frames.specs.declared.header.Header.{Header}
use Rattle.frames.specs.Raw.{right_of, section_of}
use Rattle.frames.specs.declared.header.Section.TheVariants.{Kernel}
use Rattle.frames.specs.Views.{raw}
use Rattle.table.specs.Contents.{grammar_of, table_of}
use Rattle.table.specs.LookUps.{AfterDots}
use Rattle.table.proofs.Dots.{symbol_first}
use Rattle.table.proofs.FrameEnds.{FirstPlace, kernel_begins}
use Rattle.table.proofs.passed.CheckedTable.symbol.Goals as goal

-- the kernel that is read begins with a place
pub bounds-kernel-0 : goal.bounds-kernel-0
bounds-kernel-0 c =
    let R = raw c.args.self.frames in
    let first = subst (FirstPlace R) (sym c.entries-kernel.ensures) (kernel_begins R c.args.self.good c.args.state (omega (arith, ap (λ (h : Header). h.s) c.args.self.header_is))) in
    let l : 2 ≤ length c.entries-kernel.result.now = first.long in
    search rules

pub bounds-kernel-1 : goal.bounds-kernel-1
bounds-kernel-1 c =
    let R = raw c.args.self.frames in
    let first = subst (FirstPlace R) (sym c.entries-kernel.ensures) (kernel_begins R c.args.self.good c.args.state (omega (arith, ap (λ (h : Header). h.s) c.args.self.header_is))) in
    let l : 2 ≤ length c.entries-kernel.result.now = first.long in
    search rules

pub symbol_at-requires-clause-known : goal.symbol_at-requires-clause-known
symbol_at-requires-clause-known c =
    let R = raw c.args.self.frames in
    let first = subst (FirstPlace R) (sym c.entries-kernel.ensures) (kernel_begins R c.args.self.good c.args.state (omega (arith, ap (λ (h : Header). h.s) c.args.self.header_is))) in
    first.known

pub symbol_at-requires-clause-inside : goal.symbol_at-requires-clause-inside
symbol_at-requires-clause-inside c =
    let R = raw c.args.self.frames in
    let first = subst (FirstPlace R) (sym c.entries-kernel.ensures) (kernel_begins R c.args.self.good c.args.state (omega (arith, ap (λ (h : Header). h.s) c.args.self.header_is))) in
    first.inside

pub returns-then-state-self-clause-some : goal.returns-then-state-self-clause-some
returns-then-state-self-clause-some c =
    let R = raw c.args.self.frames in
    let e = sym c.entries-kernel.ensures in
    let first = kernel_begins R c.args.self.good c.args.state (omega (arith, ap (λ (h : Header). h.s) c.args.self.header_is)) in
    let kernel = section_of R c.args.state Kernel in
    let same : c.symbol_at.result ≡ get_or (right_of R (get_or kernel 0 0)) (get_or kernel 1 0) 0 =
    c.symbol_at.ensures ∙ ap (λ (es : List ℕ). get_or (right_of R (get_or es 0 0)) (get_or es 1 0) 0) c.entries-kernel.ensures in
    subst (AfterDots (grammar_of R) (table_of R) c.args.state) (sym same) (symbol_first R c.args.state first.known first.inside first.listed)
