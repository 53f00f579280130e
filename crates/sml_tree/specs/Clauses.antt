-- Clauses of functions, and constraints of structures, before they are part of a derived form.
use Rattle.std.specs.Prelude.{List, [], ◌∷◌, Option, Some, None, map}
use Rattle.std.specs.Option.{option_map}
use Rattle.sml_lex.specs.declared.fault.Place.{Place}
use Rattle.sml_tree.specs.Types.{Ty}
use Rattle.sml_tree.specs.Patterns.{Pat, Pats, pat_tuple, no_pat, and_pat}
use Rattle.sml_tree.specs.Expressions.{Exp, Rule, Rules, typed, rule, no_rule, and_rule}
use Rattle.sml_tree.specs.Signatures.{SigExp}
use Rattle.sml_tree.specs.declared.structures.Ascription.{Ascription}
use Rattle.sml_tree.specs.TypeViews.{ty_of}
use Rattle.sml_tree.specs.PatternViews.{pat_of, pats_of}
use Rattle.sml_tree.specs.ExpressionViews.{exp_of}
use Rattle.sml_tree.specs.declared.clauses.Clause as Made

-- a clause of a function, without the function's name
pub record Clause (P : Type 0) : Type 0 where
  pub place : P
  pub pats : Pats P
  pub result : Option (Ty P)
  pub body : Exp P

-- one pattern stands for itself, and others for their tuple
abbrev pub pat_row_of : {P : Type 0} → P → Pats P → Pat P
pat_row_of p (and_pat q no_pat) = q
pat_row_of p qs = pat_tuple p qs

abbrev pub constrained : {P : Type 0} → P → Exp P → Option (Ty P) → Exp P
constrained p e None = e
constrained p e (Some t) = typed p e t

abbrev pub clause_rule : {P : Type 0} → Clause P → Rule P
clause_rule c = rule c.place (pat_row_of c.place c.pats) (constrained c.place c.body c.result)

abbrev pub clause_rules : {P : Type 0} → List (Clause P) → Rules P
clause_rules [] = no_rule
clause_rules (c ∷ cs) = and_rule (clause_rule c) (clause_rules cs)

-- a signature expression after `:` or `:>`
pub record Constraint (P : Type 0) : Type 0 where
  pub ascription : Ascription
  pub signature : SigExp P

-- the program's clauses as those of the definitions
abbrev pub clause_of : Made.Clause → Clause Place
clause_of c = record { place = c.place; pats = pats_of (map pat_of c.pats.items); result = option_map ty_of c.result; body = exp_of c.body }
