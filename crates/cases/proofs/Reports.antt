-- What a run reports, where memories hold the frames and the kinds of one of the readings: its course is a run of that reading.
use Rattle.std.proofs.Common.{◌≡◌, ℕ, true, List, [], ◌∷◌, Some, Ok, Option, replicate, length, sym, refl, ap, ◌∙◌, subst, ap₂, subst₂, ◌≤◌, arith, Err, Result}
use Rattle.std.specs.List.{AllByRecursion, find}
use Rattle.std.specs.Option.{is_some, IfSome}
use Rattle.std.specs.declared.convert.Infallible.{Infallible}
use Rattle.std.proofs.Math.Option.{some, some-injective}
use Rattle.std.proofs.lemmas.Bool.{true≢false, cond_both, and_parts}
use Rattle.source.specs.Meaning.{Meaning}
use Rattle.source.specs.Stored.{stored}
use Rattle.grammar.specs.Grammar.{start_symbol}
use Rattle.frames.specs.Raw.{Raw}
use Rattle.table.specs.Contents.{grammar_of, table_of, same_word}
use Rattle.table.specs.Rows.{Verdict}
use Rattle.table.specs.declared.refused.CheckRefusal.{CheckRefusal}
use Rattle.table.proofs.Verdicts.{verdict_is_one}
use Rattle.table.proofs.LookedUp.{same_word_is}
use Rattle.reading.specs.declared.answer.Ran.{Ran}
use Rattle.reading.specs.declared.answer.View.{View}
use Rattle.reading.specs.declared.reading.Reading.{Reading}
use Rattle.reading.specs.State.{State, opening}
use Rattle.reading.specs.Run.{Course, Run, runs, answer_of, at_front}
use Rattle.reading.specs.Model.{model, view_of}
use Rattle.reading.specs.Calls.{Opened, RunBy}
use Rattle.reading.specs.Sheet.{SheetRead}
use Rattle.reading.specs.declared.answer.Sheet.{Sheet}
use Rattle.cases.specs.declared.readings.Report.{Report}
use Rattle.cases.specs.Tables.{bytes_of, begins, filled, file}
use Rattle.cases.specs.Readings.{Example, ComesTo, Reads, readings, holds, reading_of, report_of, sheet_of}
use Rattle.cases.proofs.Courses.{all_read}

-- The memories hold what the example says.
pub record Held (store starts kinds : List ℕ) (e : Example) : Type 0 where
  pub reads : Reads e
  pub frames : file e.frames ≡ filled store starts
  pub kinds_are : kinds ≡ e.kinds

held : (store starts kinds : List ℕ) (e : Example) → Reads e → holds e store starts kinds ≡ true → Held store starts kinds e
held store starts kinds e r t =
    let (s, more) = and_parts (same_word store (bytes_of e.frames)) _ t in
    let (b, k) = and_parts (same_word starts (begins 0 e.frames)) (same_word kinds e.kinds) more in
    record { reads = r; frames = sym (ap₂ filled (same_word_is store _ s) (same_word_is starts _ b)); kinds_are = same_word_is kinds e.kinds k }

-- A reading that is found is among the readings.
pub record Found (store starts kinds : List ℕ) (o : Option Example) : Type 0 where
  pub example : Example
  pub is : o ≡ Some example
  pub held_by : Held store starts kinds example

found_among : (es : List Example) → AllByRecursion Reads es → (store starts kinds : List ℕ)
    → is_some (find (λ e. holds e store starts kinds) es) ≡ true → Found store starts kinds (find (λ e. holds e store starts kinds) es)
found_among [] all store starts kinds t = absurd (true≢false (sym t))
found_among (e ∷ es) (a, all) store starts kinds t =
    let more : Option Example = find (λ x. holds x store starts kinds) es in
    cond_both (holds e store starts kinds) (Some e) more (λ (o : Option Example). is_some o ≡ true → Found store starts kinds o)
    (λ h t. record { example = e; is = refl; held_by = held store starts kinds e a h })
    (λ h t. found_among es all store starts kinds t)
    t

pub found : (store starts kinds : List ℕ) → is_some (reading_of store starts kinds) ≡ true → Found store starts kinds (reading_of store starts kinds)
found store starts kinds t = found_among readings all_read store starts kinds t

-- Such frames are not refused.
pub no_refusal : (store starts kinds : List ℕ) (v : Result (Unit {0}) CheckRefusal) (x : CheckRefusal) → is_some (reading_of store starts kinds) ≡ true
    → Verdict (filled store starts) v → v ≡ Err x → ⊥
no_refusal store starts kinds v x t a e =
    let f = found store starts kinds t in
    let b = subst (λ (R : Raw). Verdict R (Ok tt)) f.held_by.frames f.held_by.reads.accepted in
    let same : v ≡ Ok tt = verdict_is_one (filled store starts) v (Ok tt) a b in
    absurd cc

-- Such kinds are not too many.
pub few_kinds : (store starts kinds : List ℕ) → is_some (reading_of store starts kinds) ≡ true → length kinds ≤ 60000
few_kinds store starts kinds t =
    let f = found store starts kinds t in
    subst (λ (xs : List ℕ). length xs ≤ 60000) (sym f.held_by.kinds_are) f.held_by.reads.few

-- A run of 20 or more from the opening over such memories comes to what the example says.
comes_to : {store starts kinds : List ℕ} {e : Example} {q n places : ℕ} {m : Meaning Infallible} {c : Course Infallible} → Held store starts kinds e
    → (table_of (filled store starts)).next 0 start_symbol ≡ some q → m ≡ stored kinds → 20 ≤ n → n ≤ places
    → Run (grammar_of (filled store starts)) (table_of (filled store starts)) n places (opening q) m c → ComesTo e c
comes_to {store} {starts} {kinds} {e} {q} {n} {places} {m} {c} h next s l l' run =
    let top : q ≡ h.reads.top = some-injective q h.reads.top (subst (λ (R : Raw). some q ≡ (table_of R).next 0 start_symbol) (sym h.frames) (sym next) ∙ h.reads.next) in
    let means : m ≡ stored e.kinds = s ∙ ap stored h.kinds_are in
    let by_table = subst (λ (R : Raw). Run (grammar_of R) (table_of R) n places (opening q) m c) (sym h.frames) run in
    h.reads.each_run n places l l' c
    (subst₂ (λ (z : ℕ) (i : Meaning Infallible). Run (grammar_of (file e.frames)) (table_of (file e.frames)) n places (opening z) i c) top means by_table)

-- So does one that an opened reading makes.
course_of : {store starts kinds : List ℕ} {e : Example} {r r' : Reading Infallible} {m m' : Meaning Infallible} {n : ℕ} {list list' : List ℕ}
    {a : Ran Infallible} → Held store starts kinds e → Opened (filled store starts) r → m ≡ stored kinds → 20 ≤ n → n ≤ length list
    → (run : RunBy r m n list a r' m' list') → ComesTo e run.course
course_of {m = m} {n = n} {list = list} h o s l l' run =
    comes_to h o.next s l l'
    (subst₂ (λ (R : Raw) (z : State). Run (grammar_of R) (table_of R) n (length list) z m run.course) o.table o.state run.run)

pub reported : (store starts kinds : List ℕ) {R : Raw} {r r' : Reading Infallible} {m m' : Meaning Infallible} {list' : List ℕ} {a : Ran Infallible}
    {v : View} → is_some (reading_of store starts kinds) ≡ true → R ≡ filled store starts → Opened R r → m ≡ stored kinds
    → RunBy r m 20 (replicate 20 0) a r' m' list' → v ≡ view_of (model r')
    → IfSome (reading_of store starts kinds) (λ e. ◌≡◌ {A = Report} (record { ran = a; list = list'; view = v }) (report_of e))
reported store starts kinds {r = r} {list' = list'} {a = a} {v = v} t s o means run look =
    let f = found store starts kinds t in
    let e : Example = f.example in
    let opened = subst (λ (R : Raw). Opened R r) s o in
    let c : ComesTo e run.course = course_of f.held_by opened means (omega arith) (omega arith) run in
    let ran : answer_of run.course ≡ (report_of e).ran =
    λ i. record { moves = c.moves i; rules = length (c.rules i); standing = (c.view i).standing; refusal = c.refusal i } in
    let first = run.answers ∙ ran in
    let second = run.written ∙ ap (λ (rs : List ℕ). at_front rs (replicate 20 0)) c.rules in
    let third = look ∙ ap view_of run.leaves ∙ c.view in
    let same : ◌≡◌ {A = Report} (record { ran = a; list = list'; view = v }) (report_of e) =
    λ i. record { ran = first i; list = second i; view = third i } in
    subst (λ (o : Option Example). IfSome o (λ e. ◌≡◌ {A = Report} (record { ran = a; list = list'; view = v }) (report_of e))) (sym f.is) same

-- The reading of a whole sheet is such a run.
pub sheet_reported : (store starts kinds : List ℕ) {R : Raw} {m m' : Meaning Infallible} {list' : List ℕ} {a : Sheet Infallible}
    → is_some (reading_of store starts kinds) ≡ true → R ≡ filled store starts → m ≡ stored kinds → SheetRead R m (replicate 20 0) a m' list'
    → IfSome (reading_of store starts kinds) (λ e. a ≡ sheet_of e)
sheet_reported store starts kinds {m = m} {m' = m'} {list' = list'} {a = a} t s means sheet =
    let f = found store starts kinds t in
    let read = subst (λ (X : Raw). SheetRead X m (replicate 20 0) a m' list') s sheet in
    let c : ComesTo f.example read.course = comes_to {n = 20} {places = 20} f.held_by read.next means (omega arith) (omega arith) (runs refl (omega arith) read.moves) in
    let same : a ≡ sheet_of f.example =
    λ i. record { view = (read.view ∙ c.view) i; refusal = (read.refusal ∙ c.refusal) i } in
    subst (λ (o : Option Example). IfSome o (λ e. a ≡ sheet_of e)) (sym f.is) same
