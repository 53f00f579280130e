-- The program's expressions that are no higher than the limit as those of the definitions.
use Rattle.std.specs.Prelude.{List, map, reverse, Result}
use Rattle.sml_lex.specs.declared.fault.Place.{Place}
use Rattle.sml_tree.specs.Heights.{exp_height, highest}
use Rattle.sml_tree.specs.Types.{Ty}
use Rattle.sml_tree.specs.TypeViews.{ty_of}
use Rattle.sml_tree.specs.Expressions.{Exp}
use Rattle.sml_tree.specs.ExpressionViews.{exp_of}
use Rattle.sml_bare_exps.specs.ExpressionSequences.{Building}
use Rattle.sml_phrases.specs.PhraseHeights.{low}
use Rattle.sml_phrases.specs.PhraseViews.{Gives}
use Rattle.sml_phrases.specs.declared.low.LowExp.{LowExp}
use Rattle.sml_phrases.specs.declared.low.LowTy.{LowTy}
use Rattle.sml_bare_exps.specs.declared.expression_sequences.Building as B
use Rattle.sml_phrases.specs.declared.phrase.Failure.{Failure}

abbrev pub low_exp_of : LowExp → Exp Place
low_exp_of e = exp_of e.tree

abbrev pub low_ty_of : LowTy → Ty Place
low_ty_of t = ty_of t.tree

abbrev pub building_of : B.Building → Building
building_of b = record { atoms = map low_exp_of b.atoms.items; stack = map low_exp_of (reverse b.stack.items) }

-- a call gives this expression, or says that it is too high
abbrev pub GivesExp : Exp Place → Result LowExp Failure → Type 0
GivesExp = Gives low_exp_of (λ e. low (exp_height e))

-- a call leaves the trees on a stack as these, or says that one of them is too high
abbrev pub Leaves : {A : Type 0} → List (Exp Place) → List (Exp Place) → Result A Failure → Type 0
Leaves stack wanted = Gives (λ x. stack) (λ es. low (highest exp_height es)) wanted
