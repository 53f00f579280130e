-- Each place in functions and their clauses.
use Rattle.std.specs.Prelude.{ℕ, zero, suc, List, [], ◌∷◌, Option, Some, None}
use Rattle.std.specs.List.{AllByRecursion}
use Rattle.sml_lex.specs.declared.fault.Place.{Place}
use Rattle.sml_lex.specs.Faults.{first_place}
use Rattle.sml_tree.specs.Trees.{Id}
use Rattle.sml_tree.specs.Types.{Ty}
use Rattle.sml_tree.specs.Patterns.{Pat, Pats, wildcard, pat_constant, pat_name, pat_row, pat_tuple, pat_bracket, pat_apply, pat_typed, pat_as, no_pat, and_pat}
use Rattle.sml_tree.specs.Expressions.{Exp, Exps, no_exp, and_exp}
use Rattle.sml_tree.specs.Clauses.{Clause, constrained, pat_row_of, clause_rules}
use Rattle.sml_fixity.specs.declared.heads.Head.TheVariants as K
use Rattle.sml_fixity.specs.Shapes.{Shape, tree, headed}
use Rattle.sml_derived.specs.Derived.{count, row_of, hidden_from, curried, case_of, function_of}
use Rattle.sml_phrases.specs.Phrases.{Phrase, of_right_side, of_round_functions}
use Rattle.sml_pat_sequences.specs.RoundPatterns.{round_pat}
use Rattle.sml_bare_decs.specs.FunctionRules.{RightSide, prefix_head, infix_head, bracketed_head, in_brackets, between, heading, right_side_in, clause, function_from, round_functions}
use Rattle.sml_parse.specs.EachPlace.{EachInTyIfAny, EachInPat, EachInPats, EachInExp, EachInExps, EachInRules, EachInBind}
use Rattle.sml_parse.proofs.EachPhrase.{EachInClause, EachInPhrase}
use Rattle.sml_parse.proofs.EachPattern.{pat_place_each, round_pat_each}
use Rattle.sml_parse.proofs.EachDerived.{case_of_each}

module _ (Q : Place → Type 0) (origin : Q first_place) where
  -- the head of a clause
  prefix_each : (q : Pat Place) (qs : Pats Place) → EachInPat Q q → EachInPats Q qs → EachInPats Q (prefix_head q qs).arguments
  prefix_each (pat_name p f) qs h k = k
  prefix_each (wildcard p) qs h k = (h, k)
  prefix_each (pat_constant p c) qs h k = (h, k)
  prefix_each (pat_row p fs b) qs h k = (h, k)
  prefix_each (pat_tuple p rs) qs h k = (h, k)
  prefix_each (pat_bracket p r) qs h k = (h, k)
  prefix_each (pat_apply p x r) qs h k = (h, k)
  prefix_each (pat_typed p r t) qs h k = (h, k)
  prefix_each (pat_as p x t r) qs h k = (h, k)

  between_each : (a f b : Pat Place) → EachInPat Q a → EachInPat Q f → EachInPat Q b → EachInPats Q (between a f b).arguments
  between_each a (pat_name p f) b h k l = ((pat_place_each Q origin a h, (h, (l, tt))), tt)
  between_each a (wildcard p) b h k l = (h, (k, (l, tt)))
  between_each a (pat_constant p c) b h k l = (h, (k, (l, tt)))
  between_each a (pat_row p fs flexible) b h k l = (h, (k, (l, tt)))
  between_each a (pat_tuple p rs) b h k l = (h, (k, (l, tt)))
  between_each a (pat_bracket p r) b h k l = (h, (k, (l, tt)))
  between_each a (pat_apply p x r) b h k l = (h, (k, (l, tt)))
  between_each a (pat_typed p r t) b h k l = (h, (k, (l, tt)))
  between_each a (pat_as p x t r) b h k l = (h, (k, (l, tt)))

  infix_each : (a : Pat Place) (qs : Pats Place) → EachInPat Q a → EachInPats Q qs → EachInPats Q (infix_head a qs).arguments
  infix_each a no_pat h k = (h, k)
  infix_each a (and_pat f no_pat) h k = (h, k)
  infix_each a (and_pat f (and_pat b no_pat)) h k = between_each a f b h k.0 k.1.0
  infix_each a (and_pat f (and_pat b (and_pat c qs))) h k = (h, k)

  in_brackets_each : (p : Place) (q : Pat Place) (qs : Pats Place) → Q p → EachInPat Q q → EachInPats Q qs → EachInPats Q (in_brackets p q qs).arguments
  in_brackets_each p (pat_apply r f q) qs o h k = (h.2, k)
  in_brackets_each p (pat_name r f) qs o h k = ((o, h), k)
  in_brackets_each p (wildcard r) qs o h k = ((o, h), k)
  in_brackets_each p (pat_constant r c) qs o h k = ((o, h), k)
  in_brackets_each p (pat_row r fs b) qs o h k = ((o, h), k)
  in_brackets_each p (pat_tuple r rs) qs o h k = ((o, h), k)
  in_brackets_each p (pat_bracket r s) qs o h k = ((o, h), k)
  in_brackets_each p (pat_typed r s t) qs o h k = ((o, h), k)
  in_brackets_each p (pat_as r x t s) qs o h k = ((o, h), k)

  bracketed_each : (q : Pat Place) (qs : Pats Place) → EachInPat Q q → EachInPats Q qs → EachInPats Q (bracketed_head q qs).arguments
  bracketed_each (pat_bracket p q) qs h k = in_brackets_each p q qs h.0 h.1 k
  bracketed_each (pat_name p f) qs h k = (h, k)
  bracketed_each (wildcard p) qs h k = (h, k)
  bracketed_each (pat_constant p c) qs h k = (h, k)
  bracketed_each (pat_row p fs b) qs h k = (h, k)
  bracketed_each (pat_tuple p rs) qs h k = (h, k)
  bracketed_each (pat_apply p x r) qs h k = (h, k)
  bracketed_each (pat_typed p r t) qs h k = (h, k)
  bracketed_each (pat_as p x t r) qs h k = (h, k)

  heading_each : (s : Option Shape) (q : Pat Place) (qs : Pats Place) → EachInPat Q q → EachInPats Q qs → EachInPats Q (heading s q qs).arguments
  heading_each None q qs h k = (h, k)
  heading_each (Some (tree steps)) q qs h k = (h, k)
  heading_each (Some (headed K.Prefix)) q qs h k = prefix_each q qs h k
  heading_each (Some (headed K.Infix)) q qs h k = infix_each q qs h k
  heading_each (Some (headed K.Bracketed)) q qs h k = bracketed_each q qs h k

  -- functions by clauses
  hidden_each : (p : Place) (k n : ℕ) → Q p → EachInExps Q (hidden_from p k n)
  hidden_each p k zero o = tt
  hidden_each p k (suc n) o = ((o, o), hidden_each p (suc k) n o)

  row_each : (p : Place) (es : Exps Place) → Q p → EachInExps Q es → EachInExp Q (row_of p es)
  row_each p no_exp o h = (o, h)
  row_each p (and_exp e no_exp) o h = h.0
  row_each p (and_exp e (and_exp f es)) o h = (o, h)

  curried_each : (p : Place) (k n : ℕ) (e : Exp Place) → Q p → EachInExp Q e → EachInExp Q (curried p k n e)
  curried_each p k zero e o h = h
  curried_each p k (suc n) e o h = (o, ((o, (o, o), curried_each p (suc k) n e o h), tt))

  pat_row_each : (p : Place) (qs : Pats Place) → Q p → EachInPats Q qs → EachInPat Q (pat_row_of p qs)
  pat_row_each p no_pat o h = (o, h)
  pat_row_each p (and_pat q no_pat) o h = h.0
  pat_row_each p (and_pat q (and_pat r qs)) o h = (o, h)

  constrained_each : (p : Place) (e : Exp Place) (t : Option (Ty Place)) → Q p → EachInExp Q e → EachInTyIfAny Q t → EachInExp Q (constrained p e t)
  constrained_each p e None o h k = h
  constrained_each p e (Some t) o h k = (o, h, k)

  clause_rules_each : (cs : List (Clause Place)) → AllByRecursion (EachInClause Q) cs → EachInRules Q (clause_rules cs)
  clause_rules_each [] h = tt
  clause_rules_each (c ∷ cs) h = ((h.0.0, pat_row_each c.place c.pats h.0.0 h.0.1, constrained_each c.place c.body c.result h.0.0 h.0.3 h.0.2), clause_rules_each cs h.1)

  function_of_each : (f : Id) (c : Clause Place) (cs : List (Clause Place)) → EachInClause Q c → AllByRecursion (EachInClause Q) cs → EachInBind Q (function_of f c cs)
  function_of_each f c cs h k =
      let o = h.0 in (
        (o, o),
        curried_each c.place 1 (count c.pats) (case_of c.place (row_of c.place (hidden_from c.place 1 (count c.pats))) (clause_rules (c ∷ cs))) o
            (case_of_each Q c.place (row_of c.place (hidden_from c.place 1 (count c.pats))) (clause_rules (c ∷ cs)) o (row_each c.place (hidden_from c.place 1 (count c.pats)) o (hidden_each c.place 1 (count c.pats) o)) (clause_rules_each (c ∷ cs) (h, k))),
      )

  abbrev pub EachInRightSide : RightSide → Type 0
  EachInRightSide r = EachInPats Q r.pats × EachInTyIfAny Q r.result × EachInExp Q r.body

  pub right_side_in_each : (v : Phrase) → EachInPhrase Q v → EachInRightSide (right_side_in v)
  right_side_in_each (of_right_side qs t e) h = h
  right_side_in_each _ h = (tt, tt, (origin, tt))

  pub clause_each : (s : Option Shape) (p : Place) (q : Pat Place) (r : RightSide) → Q p → EachInPat Q q → EachInRightSide r → EachInClause Q (clause p (heading s q r.pats) r)
  clause_each s p q r o h k = (o, heading_each s q r.pats h k.0, k.1, k.2)

  pub function_each : (s : Option Shape) (p : Place) (q : Pat Place) (r : RightSide) (cs : List (Clause Place)) → Q p → EachInPat Q q → EachInRightSide r → AllByRecursion (EachInClause Q) cs
      → EachInBind Q (function_from s p q r cs)
  function_each s p q r cs o h k l = function_of_each (heading s q r.pats).name (clause p (heading s q r.pats) r) cs (clause_each s p q r o h k) l

  pub round_functions_each : (s : Option Shape) (p : Place) (v : Phrase) → Q p → EachInPhrase Q v → EachInPhrase Q (round_functions s p v)
  round_functions_each s p (of_round_functions ps qs t e cs bs) o h = (
    tt,
    (function_each s p (round_pat p ps) (record { pats = qs; result = t; body = e }) cs o (round_pat_each Q origin p ps o h.0) (h.1, h.2, h.3) h.4, h.5),
  )
  round_functions_each s p _ o h = h
