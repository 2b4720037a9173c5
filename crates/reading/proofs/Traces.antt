-- What calls come to when others follow them. What they let in, gave, announced and counted are joined or added up; and where each has its
-- source as the one before left it, that one source gave all of it, one answer after the other.
use Rattle.std.proofs.Common.{◌≡◌, ◌+◌, List, [], ◌∷◌, ◌++◌, Ok, Err, sym, refl, ap, ◌∙◌, subst, append_assoc, append-nil, arith}
use Rattle.source.specs.declared.token.Entry.{Entry}
use Rattle.source.specs.declared.token.Entry.TheVariants.{Given, End}
use Rattle.source.specs.declared.token.Token.{Token}
use Rattle.source.specs.Meaning.{Meaning, answer, rest}
use Rattle.reading.specs.Given.{Answer, Gave, as_answers, tokens_in}
use Rattle.reading.specs.History.{Call}
use Rattle.reading.specs.Sentences.{entries_in, but_last, let_in_by}
use Rattle.reading.specs.Trace.{FromSources, let_in, given, announced, moves, asked, FromOne}

pub but_last_is : {A : Type 0} (x : List A) (a : A) → but_last (x ++ a ∷ []) ≡ x
but_last_is [] a = refl
but_last_is (b ∷ []) a = refl
but_last_is (b ∷ c ∷ x) a = ap (λ y. b ∷ y) (but_last_is (c ∷ x) a)

pub tokens_more : (es fs : List (Entry Token)) → tokens_in (es ++ fs) ≡ tokens_in es + tokens_in fs
tokens_more [] fs = omega arith
tokens_more (Given t ∷ es) fs = omega (arith, tokens_more es fs)
tokens_more (End p ∷ es) fs = tokens_more es fs

pub entries_of : (F : Type 0) (es : List (Entry Token)) → entries_in (as_answers {F = F} es) ≡ es
entries_of F [] = refl
entries_of F (e ∷ es) = ap (λ z. e ∷ z) (entries_of F es)

module _ {F : Type 0} where
  pub answers_more : (es fs : List (Entry Token)) → as_answers {F = F} (es ++ fs) ≡ as_answers es ++ as_answers fs
  answers_more [] fs = refl
  answers_more (e ∷ es) fs = ap (λ y. Ok e ∷ y) (answers_more es fs)

  pub entries_more : (x y : List (Answer F)) → entries_in (x ++ y) ≡ entries_in x ++ entries_in y
  entries_more [] y = refl
  entries_more (Ok e ∷ x) y = ap (λ z. e ∷ z) (entries_more x y)
  entries_more (Err f ∷ x) y = entries_more x y

  pub let_in_more : (cs ds : List (Call F)) → let_in (cs ++ ds) ≡ let_in cs ++ let_in ds
  let_in_more [] ds = refl
  let_in_more (c ∷ cs) ds =
      let es = let_in_by c.refusal c.gave in
      ap (λ y. es ++ y) (let_in_more cs ds) ∙ sym (append_assoc es (let_in cs) (let_in ds))

  pub given_more : (cs ds : List (Call F)) → given (cs ++ ds) ≡ given cs ++ given ds
  given_more [] ds = refl
  given_more (c ∷ cs) ds = ap (λ y. c.gave ++ y) (given_more cs ds) ∙ sym (append_assoc c.gave (given cs) (given ds))

  pub announced_more : (cs ds : List (Call F)) → announced (cs ++ ds) ≡ announced cs ++ announced ds
  announced_more [] ds = refl
  announced_more (c ∷ cs) ds = ap (λ y. c.rules ++ y) (announced_more cs ds) ∙ sym (append_assoc c.rules (announced cs) (announced ds))

  pub moves_more : (cs ds : List (Call F)) → moves (cs ++ ds) ≡ moves cs + moves ds
  moves_more [] ds = omega arith
  moves_more (c ∷ cs) ds = omega (arith, moves_more cs ds)

  pub asked_more : (cs ds : List (Call F)) → asked (cs ++ ds) ≡ asked cs + asked ds
  asked_more [] ds = omega arith
  asked_more (c ∷ cs) ds = omega (arith, asked_more cs ds)

  -- one call more
  pub let_in_one : (cs : List (Call F)) (c : Call F) → let_in (cs ++ c ∷ []) ≡ let_in cs ++ let_in_by c.refusal c.gave
  let_in_one cs c = let_in_more cs (c ∷ []) ∙ ap (λ y. let_in cs ++ y) (append-nil (let_in_by c.refusal c.gave))

  pub given_one : (cs : List (Call F)) (c : Call F) → given (cs ++ c ∷ []) ≡ given cs ++ c.gave
  given_one cs c = given_more cs (c ∷ []) ∙ ap (λ y. given cs ++ y) (append-nil c.gave)

  pub announced_one : (cs : List (Call F)) (c : Call F) → announced (cs ++ c ∷ []) ≡ announced cs ++ c.rules
  announced_one cs c = announced_more cs (c ∷ []) ∙ ap (λ y. announced cs ++ y) (append-nil c.rules)

  -- answers in turn
  pub gave_append : (x y : List (Answer F)) (m m' m'' : Meaning F) → Gave m x m' → Gave m' y m'' → Gave m (x ++ y) m''
  gave_append [] y m m' m'' p q = subst (λ (n : Meaning F). Gave n y m'') p q
  gave_append (a ∷ x) y m m' m'' p q = (p.0, gave_append x y (rest m) m' m'' p.1 q)

  pub gave_one : (x : List (Answer F)) (m m' : Meaning F) (a : Answer F) → Gave m x m' → answer m' ≡ a → Gave m (x ++ a ∷ []) (rest m')
  gave_one x m m' a p e = gave_append x (a ∷ []) m m' (rest m') p (sym e, refl)

  pub honest_one : (cs : List (Call F)) (c : Call F) → FromSources cs → Gave c.before c.gave c.after → FromSources (cs ++ c ∷ [])
  honest_one [] c h p = (p, tt)
  honest_one (d ∷ cs) c h p = (h.0, honest_one cs c h.1 p)

  pub from_one : (m : Meaning F) (cs : List (Call F)) → FromSources cs → FromOne m cs → (m' : Meaning F) × Gave m (given cs) m'
  from_one m [] h o = (m, refl)
  from_one m (c ∷ cs) h o =
      let (m', p) = from_one c.after cs h.1 o.1 in
      (m', gave_append c.gave (given cs) m c.after m' (subst (λ (n : Meaning F). Gave n c.gave c.after) o.0 h.0) p)
