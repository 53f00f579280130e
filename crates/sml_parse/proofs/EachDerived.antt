-- Each place in the derived forms of expressions is such a one, if that of the form and each one in its parts is.
use Rattle.sml_lex.specs.declared.fault.Place.{Place}
use Rattle.sml_tree.specs.Names.{Name}
use Rattle.sml_tree.specs.Patterns.{wildcard}
use Rattle.sml_tree.specs.Expressions.{Exp, Rules}
use Rattle.sml_derived.specs.Derived.{var, unit, one_rule, pair, select, case_of, if_of, orelse_of, andalso_of, sequence_of, again, while_of, cons_of, infix_of, it_dec}
use Rattle.sml_derived.specs.Words.{true_id, false_id}
use Rattle.sml_parse.specs.EachPlace.{EachInName, EachInExp, EachInRules, EachInDec}

module _ (Q : Place → Type 0) where
  pair_each : (p : Place) (a b : Exp Place) → Q p → EachInExp Q a → EachInExp Q b → EachInExp Q (pair p a b)
  pair_each p a b o h k = (o, (h, (k, tt)))

  -- `#l`
  pub select_each : (p : Place) (l : Name Place) → Q p → EachInName Q l → EachInExp Q (select p l)
  select_each p l o n = (o, ((o, (o, ((n, (o, o)), tt)), (o, o)), tt))

  -- `case`, `if`, `orelse` and `andalso`
  pub case_of_each : (p : Place) (e : Exp Place) (m : Rules Place) → Q p → EachInExp Q e → EachInRules Q m → EachInExp Q (case_of p e m)
  case_of_each p e m o h k = (o, (o, (o, k)), h)

  pub if_of_each : (p : Place) (e a b : Exp Place) → Q p → EachInExp Q e → EachInExp Q a → EachInExp Q b → EachInExp Q (if_of p e a b)
  if_of_each p e a b o h k l = (o, (o, (o, ((o, (o, o), k), ((o, (o, o), l), tt)))), h)

  pub orelse_of_each : (p : Place) (a b : Exp Place) → Q p → EachInExp Q a → EachInExp Q b → EachInExp Q (orelse_of p a b)
  orelse_of_each p a b o h k = if_of_each p a (var p true_id) b o h (o, o) k

  pub andalso_of_each : (p : Place) (a b : Exp Place) → Q p → EachInExp Q a → EachInExp Q b → EachInExp Q (andalso_of p a b)
  andalso_of_each p a b o h k = if_of_each p a b (var p false_id) o h k (o, o)

  -- `(a; ..; z)` and `while`
  pub sequence_of_each : (p : Place) (a rest : Exp Place) → Q p → EachInExp Q a → EachInExp Q rest → EachInExp Q (sequence_of p a rest)
  sequence_of_each p a rest o h k = case_of_each p a (one_rule p (wildcard p) rest) o h ((o, o, k), tt)

  again_each : (p : Place) → Q p → EachInExp Q (again p)
  again_each p o = (o, (o, o), (o, tt))

  pub while_of_each : (p : Place) (a b : Exp Place) → Q p → EachInExp Q a → EachInExp Q b → EachInExp Q (while_of p a b)
  while_of_each p a b o h k =
      let body = if_of_each p a (sequence_of p b (again p)) (unit p) o h (sequence_of_each p b (again p) o k (again_each p o)) (o, tt) in
      (o, ((o, tt, tt, (((o, o), (o, ((o, (o, tt), body), tt))), tt)), tt), again_each p o)

  -- `[a, .., z]` and `a f b`
  pub cons_of_each : (p : Place) (a rest : Exp Place) → Q p → EachInExp Q a → EachInExp Q rest → EachInExp Q (cons_of p a rest)
  cons_of_each p a rest o h k = (o, (o, o), pair_each p a rest o h k)

  pub infix_of_each : (p : Place) (f : Name Place) (a b : Exp Place) → Q p → EachInName Q f → EachInExp Q a → EachInExp Q b → EachInExp Q (infix_of p f a b)
  infix_of_each p f a b o n h k = (o, (n, n), pair_each p a b o h k)

  -- an expression at the top
  pub it_dec_each : (p : Place) (e : Exp Place) → Q p → EachInExp Q e → EachInDec Q (it_dec p e)
  it_dec_each p e o h = (o, tt, (((o, o), h), tt), tt)
