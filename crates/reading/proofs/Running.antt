-- The moves of a run so far: whatever moves come next, these and those are the moves of the whole run.
use Rattle.std.proofs.Common.{◌≡◌, ℕ, suc, ◌+◌, ◌-◌, ◌<◌, ◌≤◌, List, [], ◌++◌, length, Ok, Err, Some, None, Option, refl, sym, ap, ◌∙◌, subst, subst₂, append_assoc, append-nil, arith, length-append}
use Rattle.source.specs.Meaning.{Meaning}
use Rattle.frames.specs.Raw.{Raw}
use Rattle.table.specs.Checked.{contents}
use Rattle.table.specs.Contents.{grammar_of, table_of}
use Rattle.reading.specs.declared.answer.Ending.{Ending}
use Rattle.reading.specs.declared.answer.Move.{Move}
use Rattle.reading.specs.declared.answer.Move.TheVariants.{Announce, Take, Finish}
use Rattle.reading.specs.declared.answer.ReadRefusal.{ReadRefusal}
use Rattle.reading.specs.declared.answer.Standing.TheVariants.{Running, Over}
use Rattle.reading.specs.declared.reading.Reading.{Reading}
use Rattle.reading.specs.Calls.{Stepped, RunBy}
use Rattle.reading.specs.Given.{Answer}
use Rattle.reading.specs.Model.{model, grammar_in, table_in}
use Rattle.reading.specs.Run.{Course, Moves, enough, over, move, stop, runs, rules_of, move_first, at_front}
use Rattle.reading.specs.State.{State}
use Rattle.reading.specs.Step.{Step}

-- some moves, and then a course
abbrev pub behind : {F : Type 0} → List (Answer F) → ℕ → List ℕ → Course F → Course F
behind gave moves rules c = record {
  gave = gave ++ c.gave;
  moves = moves + c.moves;
  rules = rules ++ c.rules;
  refusal = c.refusal;
  state = c.state;
  meaning = c.meaning;
}

rules_few : (v : Move) → length (rules_of v) ≤ 1
rules_few (Announce r) = omega arith
rules_few (Take t) = omega arith
rules_few Finish = omega arith

-- at most so many moves by the table of r, with this course
abbrev Goes : {F : Type 0} → Reading F → ℕ → State → Meaning F → Course F → Type 0
Goes r k s m c = Moves (grammar_in r) (table_in r) k s m c

module _ {F : Type 0} (r : Reading F) (m : Meaning F) (n : ℕ) (list : List ℕ) where
  -- so many moves of a run of n were made and so many rules written, and this is what they left
  pub record SoFar (moves rules : ℕ) (r' : Reading F) (m' : Meaning F) (list' : List ℕ) : Type 0 where
    pub table : contents r'.table ≡ contents r.table
    pub gave : List (Answer F)
    pub written : List ℕ
    pub counted : length written ≡ rules
    pub few : rules ≤ moves
    pub list_is : list' ≡ at_front written list
    pub onwards : (k : ℕ) → k + moves ≡ n → (c : Course F) → Goes r k (model r') m' c → Goes r n (model r) m (behind gave moves written c)

  pub begins : SoFar 0 0 r m list
  begins =
      record {
        table = refl;
        gave = [];
        written = [];
        counted = refl;
        few = omega arith;
        list_is = refl;
        onwards = λ k e c h.
            let all : k ≡ n = omega (arith, e) in
            let count : c.moves ≡ 0 + c.moves = omega arith in
            subst₂ (λ (j : ℕ) (x : Course F). Goes r j (model r) m x) all (λ i. record c { moves = count i }) h;
      }

module _ {F : Type 0} {r : Reading F} {m : Meaning F} {n : ℕ} {list : List ℕ} {moves rules : ℕ} {r' : Reading F} {m' : Meaning F} {list' : List ℕ}
    (so_far : SoFar r m n list moves rules r' m' list') where
  pub goes_on : {v : Move} {r'' : Reading F} {m'' : Meaning F} {rules' : ℕ} {list'' : List ℕ} → Stepped r' m' (Ok v) r'' m''
      → rules' ≡ rules + length (rules_of v) → list'' ≡ at_front (so_far.written ++ rules_of v) list
      → SoFar r m n list (moves + 1) rules' r'' m'' list''
  goes_on {v} {r''} {m''} stepped long written =
      let gave = stepped.gave in
      let step = subst (λ (R : Raw). Step (grammar_of R) (table_of R) (model r') m' gave (Ok v) (model r'') m'') so_far.table stepped.step in
      record {
        table = stepped.table ∙ so_far.table;
        gave = so_far.gave ++ gave;
        written = so_far.written ++ rules_of v;
        counted = omega (arith, long, so_far.counted, length-append so_far.written (rules_of v));
        few = omega (arith, long, so_far.few, rules_few v);
        list_is = written;
        onwards = λ k e c h.
            let gives = append_assoc so_far.gave gave c.gave in
            let count : moves + suc c.moves ≡ moves + 1 + c.moves = omega arith in
            let writes = append_assoc so_far.written (rules_of v) c.rules in
            subst (Goes r n (model r) m) (λ i. record c { gave = sym gives i; moves = count i; rules = sym writes i })
            (so_far.onwards (suc k) (omega (arith, e)) (move_first gave v c) (move step h));
      }

  module _ (running : r.standing ≡ Running) (room : n ≤ length list) where
    -- no move comes next
    ends : (r'' : Reading F) (m'' : Meaning F) (gave : List (Answer F)) (refusal : Option (ReadRefusal F)) (k : ℕ) → k + moves ≡ n
        → Goes r k (model r') m' (record { gave = gave; moves = 0; rules = []; refusal = refusal; state = model r''; meaning = m'' })
        → contents r''.table ≡ contents r.table
        → RunBy r m n list (record { moves = moves; rules = rules; standing = r''.standing; refusal = refusal }) r'' m'' list'
    ends r'' m'' gave refusal k e h table =
        let none : so_far.written ≡ so_far.written ++ [] = sym (append-nil so_far.written) in
        let count : moves ≡ moves + 0 = omega arith in
        let long : rules ≡ length (so_far.written ++ []) = sym so_far.counted ∙ ap length none in
        record {
          table = table;
          course = behind so_far.gave moves so_far.written _;
          run = runs running room (so_far.onwards k e _ h);
          answers = λ i. record { moves = count i; rules = long i; standing = r''.standing; refusal = refusal };
          leaves = refl;
          source = refl;
          written = so_far.list_is ∙ ap (λ (w : List ℕ). at_front w list) none;
        }

    pub ends_all : moves ≡ n → RunBy r m n list (record { moves = n; rules = rules; standing = r'.standing; refusal = None }) r' m' list'
    ends_all all =
        subst (λ (j : ℕ). RunBy r m n list (record { moves = j; rules = rules; standing = r'.standing; refusal = None }) r' m' list') all
        (ends r' m' [] None 0 (omega (arith, all)) enough so_far.table)

    pub ends_over : {e : Ending} → moves < n → r'.standing ≡ Over e
        → RunBy r m n list (record { moves = moves; rules = rules; standing = r'.standing; refusal = None }) r' m' list'
    ends_over left e = ends r' m' [] None (n - moves) (omega (arith, left)) (over e) so_far.table

    pub ends_refused : {e : ReadRefusal F} {r'' : Reading F} {m'' : Meaning F} → moves < n → r'.standing ≡ Running → Stepped r' m' (Err e) r'' m''
        → RunBy r m n list (record { moves = moves; rules = rules; standing = r''.standing; refusal = Some e }) r'' m'' list'
    ends_refused {e} {r''} {m''} left there stepped =
        let gave = stepped.gave in
        let step = subst (λ (R : Raw). Step (grammar_of R) (table_of R) (model r') m' gave (Err e) (model r'') m'') so_far.table stepped.step in
        ends r'' m'' gave (Some e) (suc (n - suc moves)) (omega (arith, left)) (stop there step) (stepped.table ∙ so_far.table)
