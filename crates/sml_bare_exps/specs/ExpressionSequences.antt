-- What a sequence of atomic expressions stands for: the expression that its steps build on a stack, and the types after
-- it. Each atomic expression is used once. What no right sequence leads to (an operand that lacks, several expressions at
-- the end) stands for an expression with all the operands that there are. A sequence about which nothing is known stands for
-- its first expression.
use Rattle.std.specs.Prelude.{List, [], ◌∷◌, get_or, set, Option, Some, None}
use Rattle.sml_lex.specs.declared.fault.Place.{Place}
use Rattle.sml_lex.specs.Faults.{first_place}
use Rattle.sml_tree.specs.Names.{Name}
use Rattle.sml_tree.specs.Types.{Tys, no_ty, and_ty}
use Rattle.sml_tree.specs.Expressions.{Exp, Exps, constant, name, row, tuple, let_in, bracket, apply, typed, handle, raise, fn, no_exp, and_exp}
use Rattle.sml_fixity.specs.declared.sequences.Step.{Step}
use Rattle.sml_fixity.specs.declared.sequences.Step.TheVariants.{Push, Apply, Combine}
use Rattle.sml_derived.specs.Derived.{infix_of}
use Rattle.sml_fixity.specs.Shapes.{Shape, tree, headed}

-- the place of an expression's first token
abbrev pub exp_place : {P : Type 0} → Exp P → P
exp_place (constant p c) = p
exp_place (name p x) = p
exp_place (row p fs) = p
exp_place (tuple p es) = p
exp_place (let_in p ds e) = p
exp_place (bracket p e) = p
exp_place (apply p f e) = p
exp_place (typed p e t) = p
exp_place (handle p e rs) = p
exp_place (raise p e) = p
exp_place (fn p rs) = p

-- the expression that stands for one that lacks
abbrev pub no_operand : Exp Place
no_operand = tuple first_place no_exp

-- expressions as a list
abbrev pub list_of_exps : {P : Type 0} → Exps P → List (Exp P)
list_of_exps no_exp = []
list_of_exps (and_exp e es) = e ∷ list_of_exps es

-- the identifier that an atomic expression is, as an operator
abbrev pub operator_of : Exp Place → Name Place
operator_of (name p x) = record { place = x.place; id = x.id.last }
operator_of _ = record { place = first_place; id = [] }

-- the atomic expressions that are not yet used, each at its index, and the expressions on the stack, the topmost first
pub record Building : Type 0 where
  pub atoms : List (Exp Place)
  pub stack : List (Exp Place)

abbrev pub starting : List (Exp Place) → Building
starting atoms = record { atoms = atoms; stack = [] }

-- the topmost two become `f x`
abbrev pub applied : List (Exp Place) → List (Exp Place)
applied (x ∷ f ∷ es) = apply (exp_place f) f x ∷ es
applied es = es

-- the topmost two become `a f b`
abbrev pub combined : Name Place → List (Exp Place) → List (Exp Place)
combined f (b ∷ a ∷ es) = infix_of (exp_place a) f a b ∷ es
combined f es = es

abbrev pub after : Step → Building → Building
after (Push i) b = record { atoms = set b.atoms i no_operand; stack = get_or b.atoms i no_operand ∷ b.stack }
after Apply b = record { atoms = b.atoms; stack = applied b.stack }
after (Combine i) b = record { atoms = set b.atoms i no_operand; stack = combined (operator_of (get_or b.atoms i no_operand)) b.stack }

-- an expression together with the others of a stack
abbrev pub joined : Exp Place → List (Exp Place) → Exp Place
joined e [] = e
joined e (f ∷ es) = joined (apply (exp_place f) f e) es

-- the expression that a stack stands for
abbrev pub all_of : List (Exp Place) → Exp Place
all_of [] = no_operand
all_of (e ∷ es) = joined e es

-- the expression that some steps build
abbrev pub exp_of_steps : List Step → Building → Exp Place
exp_of_steps [] b = all_of b.stack
exp_of_steps (s ∷ ss) b = exp_of_steps ss (after s b)

-- an expression and the types after its colons
abbrev pub typed_by : Place → Exp Place → Tys Place → Exp Place
typed_by p e no_ty = e
typed_by p e (and_ty t ts) = typed_by p (typed p e t) ts

abbrev pub shaped : Option Shape → Exps Place → Exp Place
shaped None es = get_or (list_of_exps es) 0 no_operand
shaped (Some (tree steps)) es = exp_of_steps steps (starting (list_of_exps es))
shaped (Some (headed how)) es = no_operand

abbrev pub sequence_exp : Option Shape → Exps Place → Tys Place → Exp Place
sequence_exp shape es ts = typed_by (exp_place (shaped shape es)) (shaped shape es) ts
