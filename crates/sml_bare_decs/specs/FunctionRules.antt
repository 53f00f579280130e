-- What the rules of functions and their clauses make of their parts (the Definition, section 2.8 and appendix A).
use Rattle.std.specs.Prelude.{List, [], Option, Some, None}
use Rattle.sml_lex.specs.declared.fault.Place.{Place}
use Rattle.sml_lex.specs.Faults.{first_place}
use Rattle.sml_tree.specs.Trees.{Id}
use Rattle.sml_tree.specs.Types.{Ty}
use Rattle.sml_tree.specs.Patterns.{Pat, Pats, pat_name, pat_bracket, pat_apply, no_pat, and_pat}
use Rattle.sml_tree.specs.Expressions.{Exp, ValBind, ValBinds, tuple, no_exp, and_bind}
use Rattle.sml_fixity.specs.declared.heads.Head.TheVariants.{Prefix, Infix, Bracketed}
use Rattle.sml_tree.specs.Clauses.{Clause}
use Rattle.sml_derived.specs.Derived.{function_of}
use Rattle.sml_phrases.specs.Phrases.{Phrase, of_functions, of_right_side, of_round_functions}
use Rattle.sml_fixity.specs.Shapes.{Shape, headed}
use Rattle.sml_pat_sequences.specs.RoundPatterns.{round_pat}
use Rattle.sml_pat_sequences.specs.PatternSequences.{pat_place, paired}

-- what the head of a clause gives: the function's name and its arguments
pub record Heading : Type 0 where
  pub name : Id
  pub arguments : Pats Place

-- a head of another form than it should have has no name, and all its patterns are arguments
abbrev pub nameless : Pats Place → Heading
nameless qs = record { name = []; arguments = qs }

-- `f x ..`
abbrev pub prefix_head : Pat Place → Pats Place → Heading
prefix_head (pat_name p f) qs = record { name = f.id.last; arguments = qs }
prefix_head q qs = nameless (and_pat q qs)

-- `x f y`
abbrev pub between : Pat Place → Pat Place → Pat Place → Heading
between a (pat_name p f) b = record { name = f.id.last; arguments = and_pat (paired a b) no_pat }
between a f b = nameless (and_pat a (and_pat f (and_pat b no_pat)))

abbrev pub infix_head : Pat Place → Pats Place → Heading
infix_head a (and_pat f (and_pat b no_pat)) = between a f b
infix_head a qs = nameless (and_pat a qs)

-- `(x f y) ..`
abbrev pub in_brackets : Place → Pat Place → Pats Place → Heading
in_brackets p (pat_apply r f q) qs = record { name = f.id.last; arguments = and_pat q qs }
in_brackets p q qs = nameless (and_pat (pat_bracket p q) qs)

abbrev pub bracketed_head : Pat Place → Pats Place → Heading
bracketed_head (pat_bracket p q) qs = in_brackets p q qs
bracketed_head q qs = nameless (and_pat q qs)

abbrev pub heading : Option Shape → Pat Place → Pats Place → Heading
heading (Some (headed Prefix)) q qs = prefix_head q qs
heading (Some (headed Infix)) q qs = infix_head q qs
heading (Some (headed Bracketed)) q qs = bracketed_head q qs
heading _ q qs = nameless (and_pat q qs)

-- a clause after its first atomic pattern
pub record RightSide : Type 0 where
  pub pats : Pats Place
  pub result : Option (Ty Place)
  pub body : Exp Place

abbrev pub right_side_in : Phrase → RightSide
right_side_in (of_right_side qs t e) = record { pats = qs; result = t; body = e }
right_side_in _ = record { pats = no_pat; result = None; body = tuple first_place no_exp }

abbrev pub clause : Place → Heading → RightSide → Clause Place
clause p h r = record { place = p; pats = h.arguments; result = r.result; body = r.body }

-- a clause that begins with an atomic pattern
abbrev pub clause_from : Option Shape → Pat Place → RightSide → Clause Place
clause_from shape q r = clause (pat_place q) (heading shape q r.pats) r

-- a function whose first clause begins with an atomic pattern, at a place
abbrev pub function_from : Option Shape → Place → Pat Place → RightSide → List (Clause Place) → ValBind Place
function_from shape p q r cs = function_of (heading shape q r.pats).name (clause p (heading shape q r.pats) r) cs

abbrev pub round_rest : Pats Place → RightSide → List (Clause Place) → ValBinds Place → Phrase
round_rest rs r cs bs = of_round_functions rs r.pats r.result r.body cs bs

-- `fun (..`, from what stands after the bracket
abbrev pub round_functions : Option Shape → Place → Phrase → Phrase
round_functions shape p (of_round_functions rs qs t e cs bs) = of_functions [] (and_bind (function_from shape p (round_pat p rs) (record { pats = qs; result = t; body = e }) cs) bs)
round_functions shape p v = v
