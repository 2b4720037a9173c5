-- How a reading comes out that had one source: it finishes exactly where the source's list is a sentence and then the end, and then its rules are the
-- only left parse; and an entry that it refuses is the first with which no sentence goes on.
use Rattle.std.proofs.Common.{◌≡◌, ℕ, List, [], ◌∷◌, ◌++◌, length, sym, refl, ap, ◌∙◌, subst, subst₂, inl, inr, arith, length-append}
use Rattle.source.specs.declared.token.Entry.{Entry}
use Rattle.source.specs.declared.token.Place.{Place}
use Rattle.source.specs.declared.token.Token.{Token}
use Rattle.source.specs.Meaning.{Last, Meaning, ends}
use Rattle.grammar.specs.Grammar.{Grammar, WellFormed}
use Rattle.grammar.specs.Derivation.{Sentence, LeftParse}
use Rattle.grammar.specs.Sound.{Sound}
use Rattle.grammar.specs.Table.{Table, Accepted}
use Rattle.grammar.proofs.Runs.{run→derived}
use Rattle.table.specs.LookUps.{BeginsWith}
use Rattle.reading.specs.declared.answer.Ending.TheVariants.{Finished}
use Rattle.reading.specs.declared.answer.Ending.TheVariants as ending
use Rattle.reading.specs.declared.answer.Standing.TheVariants as standing
use Rattle.reading.specs.Given.{Answer, Gave, symbols_of, listed, place_of, kinds}
use Rattle.reading.specs.State.{State}
use Rattle.reading.specs.Outcome.{ReadAll, RefusedFirst, Decided, Outcome}
use Rattle.reading.proofs.Heads.{parse→run}
use Rattle.reading.proofs.Invariant.{Inv}
use Rattle.reading.proofs.Signs.{gave_tokens, gave_whole, list_continues}
use Rattle.reading.proofs.Keeping.{last_move, Refusing, Closing, Good}
use Rattle.reading.proofs.Sentences.{rest_of, on_the_way, whole_read, only_tokens, could_enter}

length_kinds : (ts : List Token) → length (kinds ts) ≡ length ts
length_kinds [] = refl
length_kinds (t ∷ ts) = omega (arith, length_kinds ts)

module _ (g : Grammar) (s : Sound g) (T : Table) (ok : Accepted g T) where
  wf : WellFormed g
  wf = s.well_formed

  module _ {F : Type 0} {R : Place → Type 0} {at : State} {li : List (Entry Token)} {given : List (Answer F)} {announced : List ℕ}
      (h : Good g T R at li given announced) (m m' : Meaning F) (gave : Gave m given m') where
    gave_as : {x : List (Answer F)} → given ≡ x → Gave m x m'
    gave_as e = subst (λ (x : List (Answer F)). Gave m x m') e gave

    finished_as : at.standing ≡ standing.Over Finished → ReadAll g m given announced at.moves × ((p : Place) × (m.last ≡ ends p))
    finished_as e =
        let (given_is, stack_is, full) = subst (Closing g T R at li given) e h.closing in
        let all = whole_read g s T ok h.inv stack_is full in
        let (same, list, last) = gave_whole h.taken li m.tokens m.last m' all.signs_all (gave_as given_is) in
        let one : last_move at.standing ≡ 1 = ap last_move e in (
          record {
            all = given_is ∙ list;
            parse = subst (λ (x : List ℕ). LeftParse g x announced) (sym same) all.parse;
            only = λ rs p. all.only rs (subst (λ (x : List ℕ). LeftParse g x rs) same p);
            counted = omega (arith, h.count, one, length_kinds m.tokens, ap length same);
          },
          last,
        )

    refused_as : at.standing ≡ standing.Over ending.Unfit → (e : Entry Token) × (RefusedFirst g m given li at.moves e × R (place_of e))
    refused_as e =
        let i = h.inv in
        let c : Refusing g T R at li given = subst (Closing g T R at li given) e h.closing in
        let none : last_move at.standing ≡ 0 = ap last_move e in (
          c.entry,
          (
            record {
              requested = c.gave_is;
              in_list =
                  subst (BeginsWith (listed m.tokens m.last)) (sym c.gave_is)
                  (gave_tokens li c.entry m.tokens m.last m' (only_tokens g s T ok i c.wants.1) (gave_as c.gave_is));
              before = (on_the_way g s T ok i).sentence;
              none_with = λ v z b.
                  let at_top = subst (λ (x : List ℕ). Inv g T x (symbols_of at.window) li announced h.taken) c.stack_is i in
                  c.cannot (could_enter g s T ok at_top c.wants c.entry v z b);
              counted = λ v rs p b.
                  let r = rest_of g s T ok i v rs (parse→run g wf p) b in
                  let all_rules = ap length r.rules_are ∙ length-append announced r.others in
                  let all_tokens = ap length r.tokens_are ∙ length-append h.taken r.string in
                  omega (arith, h.count, none, all_rules, all_tokens);
            },
            c.there,
          ),
        )

    pub outcome : Decided at.standing → Outcome g m at.standing given li announced at.moves R
    outcome decided =
        record {
          exactly = (
            λ e. let (f, l) = finished_as e in (run→derived g (parse→run g wf f.parse), l),
            λ (z, (p, l)). finished z p l decided,
          );
          when_finished = λ e. (finished_as e).0;
          when_refused = refused_as;
        }
      where
        finished : Sentence g (kinds m.tokens) → (p : Place) → m.last ≡ ends p → Decided at.standing → at.standing ≡ standing.Over Finished
        finished z p l (inl e) = e
        finished z p l (inr e) =
            let (entry, (r, there)) = refused_as e in
            let b = subst₂ (λ (y : Last F) (x : List (Answer F)). BeginsWith (listed m.tokens y) x) l r.requested r.in_list in
            absurd (r.none_with (kinds m.tokens) z (list_continues m.tokens p (li ++ entry ∷ []) b))
