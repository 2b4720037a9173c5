-- What the invariant says of sentences. The string of the stack derives some token string that goes on with the window, and that gives a sentence;
-- a parse of a sentence that begins with what was let in is the rules announced and a run of that string; at the end nothing is left to derive; and
-- an entry with which some sentence goes on could have been let in.
use Rattle.std.proofs.Common.{◌≡◌, ℕ, ◌⊎◌, List, [], ◌∷◌, ◌++◌, sym, ap, ◌∙◌, subst, subst₂, inl, inr, append_assoc, append-nil, arith, length-append}
use Rattle.source.specs.declared.token.Entry.{Entry}
use Rattle.source.specs.declared.token.Entry.TheVariants.{Given, End}
use Rattle.source.specs.declared.token.Token.{Token}
use Rattle.grammar.specs.Grammar.{Grammar, IsToken, Every, WellFormed, start_symbol, end_mark}
use Rattle.grammar.specs.Derivation.{Sentence, LeftParse}
use Rattle.grammar.specs.Sound.{Sound}
use Rattle.grammar.specs.Table.{Table, Accepted}
use Rattle.grammar.proofs.Lists.{every_front}
use Rattle.grammar.proofs.Runs.{Run, done, same_symbols, run_tokens, run_nil, derived→run, run→derived}
use Rattle.grammar.proofs.Canonical.{collection→map}
use Rattle.table.specs.LookUps.{BeginsWith, BeginsWord}
use Rattle.reading.specs.Given.{symbol_of, symbols_of}
use Rattle.reading.specs.Window.{EndsInMark, Wants, Full, CanEnter}
use Rattle.reading.specs.Stack.{Path, lowest, Placed}
use Rattle.reading.specs.Sentences.{Continues, signs, with_end}
use Rattle.reading.specs.Outcome.{OnTheWay}
use Rattle.reading.proofs.Fronts.{begins_front, begins_rest, begins_under, begins_same}
use Rattle.reading.proofs.Heads.{run→parse, parse→run}
use Rattle.reading.proofs.Pathways.{path_same}
use Rattle.reading.proofs.Placing.{placed_word, placed_full_finish}
use Rattle.reading.proofs.Invariant.{ValidEntry, symbols_more, Rest, Inv, placed_of}
use Rattle.reading.proofs.Signs.{signs_more, begins_symbols, begins_signs, signs_are, entry_valid, ends_behind, AllTokens, EndsInEnd, tokens_or_end}

-- a whole sentence was let in, and the rules are its only left parse
pub record WholeRead (g : Grammar) (li : List (Entry Token)) (rules taken : List ℕ) : Type 0 where
  pub signs_all : signs li ≡ with_end taken
  pub parse : LeftParse g taken rules
  pub only : (rs : List ℕ) → LeftParse g taken rs → rs ≡ rules

module _ (g : Grammar) (s : Sound g) (T : Table) (ok : Accepted g T) where
  wf : WellFormed g
  wf = s.well_formed

  module _ {stack win : List ℕ} {li : List (Entry Token)} {rules taken : List ℕ} where
    -- the rest of a parse of a sentence that begins with what was let in
    pub rest_of : (i : Inv g T stack win li rules taken) (v rs : List ℕ) → Run g (start_symbol ∷ []) rs v → Continues v li
        → Rest g i.string rules taken rs v
    rest_of i v rs d b = i.complete rs v d (subst (BeginsWith (v ++ end_mark ∷ [])) i.reads (begins_symbols v li b))

    whole_run : (i : Inv g T stack win li rules taken) → Run g (start_symbol ∷ []) (rules ++ i.viable.rules) (taken ++ i.viable.string)
    whole_run i = i.sound i.viable.rules i.viable.string i.viable.run

    pub taken_tokens : Inv g T stack win li rules taken → Every (IsToken g) taken
    taken_tokens i = every_front (IsToken g) taken i.viable.string (run_tokens g (whole_run i))

    pub on_the_way : Inv g T stack win li rules taken → OnTheWay g li rules
    on_the_way i =
        let v : List ℕ = taken ++ i.viable.string in
        let d = whole_run i in
        let whole : taken ++ (i.viable.string ++ end_mark ∷ []) ≡ v ++ end_mark ∷ [] = sym (append_assoc taken i.viable.string (end_mark ∷ [])) in
        let begins = subst (BeginsWith (v ++ end_mark ∷ [])) (sym i.reads) (begins_same whole (begins_under taken i.viable.begins)) in
        record {
          sentence = (v, (run→derived g d, begins_signs g wf v li (run_tokens g d) i.valid begins));
          parses = λ w rs p b. let r = rest_of i w rs (parse→run g wf p) b in record { rest = r.others; splits = r.rules_are };
        }

    -- with nothing but state 0 on the stack, and a full window
    pub whole_read : Inv g T stack win li rules taken → stack ≡ 0 ∷ [] → Full g win → WholeRead g li rules taken
    whole_read i e f =
        let path : Path T (0 ∷ []) i.string = subst (λ (x : List ℕ). Path T x i.string) e i.path in
        let no_string : i.string ≡ [] = path_same g s T (collection→map g s T ok.collection) path lowest in
        let window_is : win ≡ end_mark ∷ [] = placed_full_finish g s T ok (subst (λ (x : List ℕ). Placed g T x win) e (placed_of i)) f in
        let reads : symbols_of li ≡ taken ++ end_mark ∷ [] = i.reads ∙ ap (λ (x : List ℕ). taken ++ x) window_is in
        let all = signs_are g wf taken li (taken_tokens i) i.valid reads in
        let run = subst₂ (Run g (start_symbol ∷ [])) (append-nil rules) (append-nil taken) (i.sound [] [] (same_symbols g (sym no_string) done)) in
        record {
          signs_all = all;
          parse = run→parse g run;
          only = λ rs p.
              let r = rest_of i taken rs (parse→run g wf p) (record { rest = []; splits = sym all ∙ sym (append-nil (signs li)) }) in
              r.rules_are ∙ ap (λ (x : List ℕ). rules ++ x) (run_nil g (same_symbols g no_string r.run)).0 ∙ append-nil rules;
        }

    -- all that was let in are tokens, where the window does not end in the end mark
    pub only_tokens : Inv g T stack win li rules taken → (EndsInMark win → ⊥) → AllTokens li
    only_tokens i n = let (v, (d, b)) = (on_the_way i).sentence in by (tokens_or_end v li b)
      where
        by : AllTokens li ⊎ EndsInEnd li → AllTokens li
        by (inl t) = t
        by (inr (x, (p, e))) =
            let ends = sym i.reads ∙ ap symbols_of e ∙ symbols_more x (End p ∷ []) in
            absurd (n (ends_behind g wf taken win (symbols_of x) (taken_tokens i) ends))

    -- an entry with which a sentence goes on is placed behind the window
    placed_with : (i : Inv g T stack win li rules taken) → Wants g win → (e : Entry Token) (v : List ℕ) → Sentence g v → Continues v (li ++ e ∷ [])
        → Placed g T stack (win ++ symbol_of e ∷ [])
    placed_with i wants e v z b =
        let x = symbol_of e in
        let (rs, d) = derived→run g z in
        let r = rest_of i v rs d (begins_front (signs li) (signs (e ∷ [])) (subst (BeginsWith (with_end v)) (signs_more li (e ∷ [])) b)) in
        let front : symbols_of (li ++ e ∷ []) ≡ taken ++ (win ++ x ∷ []) =
        symbols_more li (e ∷ []) ∙ ap (λ (y : List ℕ). y ++ x ∷ []) i.reads ∙ append_assoc taken win (x ∷ []) in
        let whole : v ++ end_mark ∷ [] ≡ taken ++ (r.string ++ end_mark ∷ []) =
        ap (λ (y : List ℕ). y ++ end_mark ∷ []) r.tokens_are ∙ append_assoc taken r.string (end_mark ∷ []) in
        let begins = begins_same whole (subst (BeginsWith (v ++ end_mark ∷ [])) front (begins_symbols v (li ++ e ∷ []) b)) in
        record {
          string = i.string;
          path = i.path;
          short = omega (arith, wants.0, length-append win (x ∷ []));
          tokens = r.string;
          derived = run→derived g r.run;
          begins = begins_rest taken (r.string ++ end_mark ∷ []) (win ++ x ∷ []) begins;
        }

  -- and so it can be let in
  pub could_enter : {q : ℕ} {below win : List ℕ} {li : List (Entry Token)} {rules taken : List ℕ} → Inv g T (q ∷ below) win li rules taken
      → Wants g win → (e : Entry Token) (v : List ℕ) → Sentence g v → Continues v (li ++ e ∷ []) → CanEnter g T q win e
  could_enter {q} {win = win} {li = li} i wants e v z b = by e (entry_valid g wf v li e z.0 b) (placed_word g s T ok (placed_with i wants e v z b))
    where
      by : (e : Entry Token) → ValidEntry g e → BeginsWord T q (win ++ symbol_of e ∷ []) → CanEnter g T q win e
      by (Given t) x y = (x, y)
      by (End p) x y = y
