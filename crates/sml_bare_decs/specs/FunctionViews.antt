-- The program's headings and right sides as those of the definitions.
use Rattle.std.specs.Prelude.{Result}
use Rattle.std.specs.Option.{option_map}
use Rattle.sml_tree.specs.Heights.{pats_height}
use Rattle.sml_tree.specs.Views.{ident_of}
use Rattle.sml_tree.specs.TypeViews.{ty_of}
use Rattle.sml_tree.specs.ExpressionViews.{exp_of}
use Rattle.sml_bare_decs.specs.FunctionRules.{Heading, RightSide}
use Rattle.sml_pat_sequences.specs.LowViews.{low_pats_of}
use Rattle.sml_phrases.specs.PhraseHeights.{low}
use Rattle.sml_phrases.specs.PhraseViews.{Gives}
use Rattle.sml_bare_decs.specs.declared.clause_heads.ClauseHead as H
use Rattle.sml_phrases.specs.declared.phrase.RightSide as R
use Rattle.sml_phrases.specs.declared.phrase.Failure.{Failure}

abbrev pub heading_of : H.ClauseHead → Heading
heading_of h = record { name = ident_of h.name; arguments = low_pats_of h.arguments }

-- a call gives this heading, or says that its arguments are too high
abbrev pub GivesHeading : Heading → Result H.ClauseHead Failure → Type 0
GivesHeading = Gives heading_of (λ h. low (pats_height h.arguments))

abbrev pub right_side_of : R.RightSide → RightSide
right_side_of r = record { pats = low_pats_of r.pats; result = option_map (λ t. ty_of t.tree) r.result; body = exp_of r.body.tree }
