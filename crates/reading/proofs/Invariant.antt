-- What every reading keeps of the sentences before it. The string of the stack derives what is still to come: its runs, behind the rules announced
-- and the tokens taken, are runs from the start symbol, and all those that begin with the window are such.
use Rattle.std.proofs.Common.{◌≡◌, ℕ, ◌≤◌, List, [], ◌∷◌, ◌++◌, length, drop, refl, sym, ap, ◌∙◌, subst, subst₂, append_assoc, append-nil, arith}
use Rattle.std.proofs.Math.Option.{some-injective}
use mathlib.Core.Option.{some}
use Rattle.source.specs.declared.token.Entry.{Entry}
use Rattle.source.specs.declared.token.Entry.TheVariants.{Given, End}
use Rattle.source.specs.declared.token.Token.{Token}
use Rattle.grammar.specs.Grammar.{Rule, Grammar, IsToken, IsRule, WellFormed, start_symbol, end_mark}
use Rattle.grammar.specs.Sound.{Sound}
use Rattle.grammar.specs.Table.{Table, Fits, Accepted}
use Rattle.grammar.specs.Canonical.{StateMap}
use Rattle.grammar.proofs.Runs.{Run, token, rule, same_symbols, run_tokens, derived→run, run→derived}
use Rattle.grammar.proofs.Canonical.{collection→map}
use Rattle.table.specs.LookUps.{AfterDots, BeginsWith, BeginsWord}
use Rattle.reading.specs.Given.{symbol_of, symbols_of}
use Rattle.reading.specs.Window.{Wants, Full, CanEnter, Enter}
use Rattle.reading.specs.Stack.{Chosen, Path, lowest, upon, Placed}
use Rattle.reading.proofs.Fronts.{begins_front, begins_rest, begins_same, full_is_cut}
use Rattle.reading.proofs.Heads.{rule_one, run_rule, run_token}
use Rattle.reading.proofs.Pathways.{pushed_path, path_top, path_same, topped}
use Rattle.reading.proofs.Placing.{placed_opening, placed_word, placed_enter, placed_take, placed_announce, fits_of_run}

-- tokens that were let in are the grammar's
abbrev pub ValidEntry : Grammar → Entry Token → Type 0
ValidEntry g (Given t) = IsToken g t.kind
ValidEntry g (End p) = Unit {0}

abbrev pub Valid : Grammar → List (Entry Token) → Type 0
Valid g [] = Unit {0}
Valid g (e ∷ es) = ValidEntry g e × Valid g es

pub valid_more : (g : Grammar) (es fs : List (Entry Token)) → Valid g es → Valid g fs → Valid g (es ++ fs)
valid_more g [] fs v w = w
valid_more g (e ∷ es) fs v w = (v.0, valid_more g es fs v.1 w)

pub symbols_more : (es fs : List (Entry Token)) → symbols_of (es ++ fs) ≡ symbols_of es ++ symbols_of fs
symbols_more [] fs = refl
symbols_more (e ∷ es) fs = ap (λ (y : List ℕ). symbol_of e ∷ y) (symbols_more es fs)

pub symbols_drop : (es : List (Entry Token)) → symbols_of (drop 1 es) ≡ drop 1 (symbols_of es)
symbols_drop [] = refl
symbols_drop (e ∷ es) = refl

-- a token string from a string which, with its end mark, begins with the window
pub record Ahead (g : Grammar) (σ win : List ℕ) : Type 0 where
  pub rules : List ℕ
  pub string : List ℕ
  pub run : Run g σ rules string
  pub begins : BeginsWith (string ++ end_mark ∷ []) win

-- the rest of a parse rs of v, behind the rules announced and the tokens taken
pub record Rest (g : Grammar) (σ announced taken rs v : List ℕ) : Type 0 where
  pub others : List ℕ
  pub string : List ℕ
  pub rules_are : rs ≡ announced ++ others
  pub tokens_are : v ≡ taken ++ string
  pub run : Run g σ others string

pub record Inv (g : Grammar) (T : Table) (stack win : List ℕ) (li : List (Entry Token)) (announced taken : List ℕ) : Type 0 where
  pub string : List ℕ
  pub path : Path T stack string
  pub short : length win ≤ g.k
  pub valid : Valid g li
  pub reads : symbols_of li ≡ taken ++ win
  pub sound : (rs w : List ℕ) → Run g string rs w → Run g (start_symbol ∷ []) (announced ++ rs) (taken ++ w)
  pub complete : (rs v : List ℕ) → Run g (start_symbol ∷ []) rs v → BeginsWith (v ++ end_mark ∷ []) (taken ++ win)
      → Rest g string announced taken rs v
  pub viable : Ahead g string win

pub placed_of : {g : Grammar} {T : Table} {stack win : List ℕ} {li : List (Entry Token)} {rules taken : List ℕ}
    → Inv g T stack win li rules taken → Placed g T stack win
placed_of {g} i =
    record {
      string = i.string;
      path = i.path;
      short = i.short;
      tokens = i.viable.string;
      derived = run→derived g i.viable.run;
      begins = i.viable.begins;
    }

module _ (g : Grammar) (s : Sound g) (T : Table) (ok : Accepted g T) where
  wf : WellFormed g
  wf = s.well_formed

  m : StateMap g T
  m = collection→map g s T ok.collection

  ahead_of : {stack σ win : List ℕ} → Path T stack σ → Placed g T stack win → Ahead g σ win
  ahead_of d p =
      let (rs, run) = derived→run g p.derived in
      record { rules = rs; string = p.tokens; run = same_symbols g (path_same g s T m p.path d) run; begins = p.begins }

  pub viable→word : {q : ℕ} {below win : List ℕ} {li : List (Entry Token)} {rules taken : List ℕ}
      → Inv g T (q ∷ below) win li rules taken → BeginsWord T q win
  viable→word i = placed_word g s T ok (placed_of i)

  pub opening : {q : ℕ} → T.next 0 start_symbol ≡ some q → Inv g T (q ∷ 0 ∷ []) [] [] [] []
  opening n =
      let d = upon lowest n in
      record {
        string = start_symbol ∷ [];
        path = d;
        short = omega arith;
        valid = tt;
        reads = refl;
        sound = λ rs w run. run;
        complete = λ rs v run b. record { others = rs; string = v; rules_are = refl; tokens_are = refl; run = run };
        viable = ahead_of d (placed_opening g s T ok n);
      }

  entry_valid : (q : ℕ) (win : List ℕ) (e : Entry Token) → CanEnter g T q win e → ValidEntry g e
  entry_valid q win (Given t) h = h.0
  entry_valid q win (End p) h = tt

  -- an entry is let in
  pub enter_one : {q : ℕ} {below win : List ℕ} {li : List (Entry Token)} {rules taken : List ℕ} (e : Entry Token)
      → Inv g T (q ∷ below) win li rules taken → Wants g win → CanEnter g T q win e
      → Inv g T (q ∷ below) (win ++ symbol_of e ∷ []) (li ++ e ∷ []) rules taken
  enter_one {q} {win = win} {li = li} {taken = taken} e i wants h =
      let x = symbol_of e in
      let placed = placed_enter g s T ok e (placed_of i) wants h in
      let more : taken ++ (win ++ x ∷ []) ≡ (taken ++ win) ++ x ∷ [] = sym (append_assoc taken win (x ∷ [])) in
      record {
        string = i.string;
        path = i.path;
        short = placed.short;
        valid = valid_more g li (e ∷ []) i.valid (entry_valid q win e h, tt);
        reads = symbols_more li (e ∷ []) ∙ ap (λ (y : List ℕ). y ++ x ∷ []) i.reads ∙ sym more;
        sound = i.sound;
        complete = λ rs v run b. i.complete rs v run (begins_front (taken ++ win) (x ∷ []) (subst (BeginsWith (v ++ end_mark ∷ [])) more b));
        viable = ahead_of i.path placed;
      }

  pub enter_all : {q : ℕ} {below win : List ℕ} {li : List (Entry Token)} {rules taken : List ℕ} (es : List (Entry Token))
      → Inv g T (q ∷ below) win li rules taken → Enter g T q win es → Inv g T (q ∷ below) (win ++ symbols_of es) (li ++ es) rules taken
  enter_all {q} {below} {win} {li} {rules} {taken} [] i h =
      subst₂ (λ (x : List ℕ) (y : List (Entry Token)). Inv g T (q ∷ below) x y rules taken) (sym (append-nil win)) (sym (append-nil li)) i
  enter_all {q} {below} {win} {li} {rules} {taken} (e ∷ es) i h =
      subst₂ (λ (x : List ℕ) (y : List (Entry Token)). Inv g T (q ∷ below) x y rules taken)
      (append_assoc win (symbol_of e ∷ []) (symbols_of es))
      (append_assoc li (e ∷ []) es)
      (enter_all es (enter_one e i h.0 h.1) h.2)

  -- a token is taken: it is the first of the window
  pub take_one : {q p a : ℕ} {below win : List ℕ} {li : List (Entry Token)} {rules taken : List ℕ}
      → Inv g T (q ∷ p ∷ below) win li rules taken → Full g win → AfterDots g T q a → IsToken g a
      → Inv g T (p ∷ below) (drop 1 win) li rules (taken ++ a ∷ []) × (win ≡ a ∷ drop 1 win)
  take_one {a = a} {win = win} {li = li} {rules = rules} {taken = taken} i f x t =
      let y = topped g s T m i.path x in
      let (placed, first) = placed_take g s T ok (placed_of i) f x t in
      let regroup : (z : List ℕ) → taken ++ a ∷ z ≡ (taken ++ a ∷ []) ++ z = λ z. sym (append_assoc taken (a ∷ []) z) in
      let same : taken ++ win ≡ (taken ++ a ∷ []) ++ drop 1 win = ap (λ (z : List ℕ). taken ++ z) first ∙ regroup (drop 1 win) in (
        record {
          string = y.rest;
          path = y.path;
          short = placed.short;
          valid = i.valid;
          reads = i.reads ∙ same;
          sound = λ rs w run.
              subst (Run g (start_symbol ∷ []) (rules ++ rs)) (regroup w) (i.sound rs (a ∷ w) (same_symbols g (sym y.string_is) (token t run)));
          complete = λ rs v run b.
              let old = i.complete rs v run (subst (BeginsWith (v ++ end_mark ∷ [])) (sym same) b) in
              let (w, (e, rest)) = run_token g wf t (same_symbols g y.string_is old.run) in
              record {
                others = old.others;
                string = w;
                rules_are = old.rules_are;
                tokens_are = old.tokens_are ∙ ap (λ (z : List ℕ). taken ++ z) e ∙ regroup w;
                run = rest;
              };
          viable = ahead_of y.path placed;
        },
        first,
      )

  -- a rule is announced: no other begins a run that begins with the full window
  pub announce_one : {q p A r : ℕ} {below win s' : List ℕ} {li : List (Entry Token)} {rules taken : List ℕ}
      → Inv g T (q ∷ p ∷ below) win li rules taken → Full g win → AfterDots g T q A → Chosen g T p below A win r s'
      → Inv g T s' win li (rules ++ r ∷ []) taken
  announce_one {p = p} {A = A} {r = r} {win = win} {s' = s'} {rules = rules} {taken = taken} i f x c =
      let ρ = c.rule in
      let y = topped g s T m i.path x in
      let exact = ok.choices p (path_top g s T m y.path) A win in
      let fits : Fits g T p A win r = (exact r).0 c.choice_is in
      let only : (n : ℕ) → Fits g T p A win n → n ≡ r = λ n h. some-injective n r (sym ((exact n).1 h) ∙ c.choice_is) in
      let left_is : ρ.left ≡ A = ap (λ (τ : Rule). τ.left) (rule_one g r c.is_rule fits.is_rule) ∙ fits.left_is in
      let d : Path T s' (ρ.right ++ y.rest) = pushed_path T ρ.right y.path c.pushed in
      record {
        string = ρ.right ++ y.rest;
        path = d;
        short = i.short;
        valid = i.valid;
        reads = i.reads;
        sound = λ rs w run.
            subst (λ (z : List ℕ). Run g (start_symbol ∷ []) z (taken ++ w)) (sym (append_assoc rules (r ∷ []) rs))
            (i.sound (r ∷ rs) w (same_symbols g (sym y.string_is) (rule ρ c.is_rule left_is run)));
        complete = λ rs v run b.
            let old = i.complete rs v run b in
            let by = run_rule g c.no_token (same_symbols g y.string_is old.run) in
            let whole : v ++ end_mark ∷ [] ≡ taken ++ (old.string ++ end_mark ∷ []) =
            ap (λ (z : List ℕ). z ++ end_mark ∷ []) old.tokens_are ∙ append_assoc taken old.string (end_mark ∷ []) in
            let ahead = begins_rest taken (old.string ++ end_mark ∷ []) win (begins_same whole b) in
            let cut = full_is_cut g wf win old.string (run_tokens g old.run) i.short f ahead in
            let fits' = fits_of_run g s T ok by.number by.applied y.path y.next by.is_rule by.left_is by.rest cut in
            let number : by.number ≡ r = only by.number fits' in
            let front : old.others ≡ r ∷ by.others = subst (λ (z : ℕ). old.others ≡ z ∷ by.others) number by.rules_are in
            let applied : by.applied ≡ ρ = rule_one g r (subst (λ (z : ℕ). IsRule g z by.applied) number by.is_rule) c.is_rule in
            record {
              others = by.others;
              string = old.string;
              rules_are = old.rules_are ∙ ap (λ (z : List ℕ). rules ++ z) front ∙ sym (append_assoc rules (r ∷ []) by.others);
              tokens_are = old.tokens_are;
              run = same_symbols g (ap (λ (τ : Rule). τ.right ++ y.rest) applied) by.rest;
            };
        viable = ahead_of d (placed_announce g s T ok (placed_of i) c);
      }
