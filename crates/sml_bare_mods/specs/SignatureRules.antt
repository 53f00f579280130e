-- What the rules of signature expressions and of signature bindings make of their parts (the Definition, sections 2.8
-- and 3.4): one line a rule, with the place of the phrase and all phrases from its first part on. What stands after a
-- signature expression in a binding is gathered from the end, and belongs to the binding that is met next.
use Rattle.std.specs.Prelude.{List, [], ◌∷◌}
use Rattle.sml_lex.specs.declared.fault.Place.{Place}
use Rattle.sml_tree.specs.Signatures.{SigExp, WhereType, sig_end, sig_name, where_type}
use Rattle.sml_tree.specs.Structures.{SigBind}
use Rattle.sml_read.specs.declared.grammar.SignatureRule.{SignatureRule}
use Rattle.sml_read.specs.declared.grammar.SignatureRule.TheVariants as R
use Rattle.sml_derived.specs.Derived.{where_types}
use Rattle.sml_phrases.specs.Phrases.{Phrase, of_sig, of_where, of_wheres, of_begun_sig_bind, of_sig_binds, at, name_in, names_in, long_in, ty_in, sig_in, specs_in, wheres_in, where_in, sig_wheres_in, sig_binds_in}

-- the place of a signature expression
abbrev pub sig_place : SigExp Place → Place
sig_place (sig_end p ss) = p
sig_place (sig_name p x) = p
sig_place (where_type p s w) = p

-- a signature expression with what stands after `where type`
abbrev pub with_wheres : SigExp Place → List (WhereType Place) → SigExp Place
with_wheres s ws = where_types (sig_place s) s ws

-- a signature binding with what belongs to it, and those after it
abbrev pub sig_binds : Phrase → Phrase → List (SigBind Place)
sig_binds (of_begun_sig_bind x s) more = record { name = x; signature = with_wheres s (sig_wheres_in more) } ∷ sig_binds_in more
sig_binds _ more = sig_binds_in more

abbrev pub signature_phrase : SignatureRule → Place → List Phrase → Phrase
signature_phrase R.SigSigAtom p vs = of_sig (with_wheres (sig_in (at vs 0)) (wheres_in (at vs 1)))
signature_phrase R.SigAtomSig p vs = of_sig (sig_end p (specs_in (at vs 1)))
signature_phrase R.SigAtomAlphanumeric p vs = of_sig (sig_name p (name_in (at vs 0)).id)
signature_phrase R.SigMoreNone p vs = of_wheres []
signature_phrase R.SigMoreWhere p vs = of_wheres (where_in (at vs 1) ∷ wheres_in (at vs 2))
signature_phrase R.SigWhereNone p vs = of_wheres []
signature_phrase R.SigWhereWhere p vs = of_wheres (where_in (at vs 1) ∷ wheres_in (at vs 2))
signature_phrase R.SigWhereAnd p vs = of_wheres (where_in (at vs 1) ∷ wheres_in (at vs 2))
signature_phrase R.WhereType p vs = of_where (names_in (at vs 1)) (long_in (at vs 2)) (ty_in (at vs 4))
signature_phrase R.SigBindAlphanumeric p vs = of_begun_sig_bind (name_in (at vs 0)) (sig_in (at vs 2))
signature_phrase R.SigBindMoreNone p vs = of_sig_binds [] []
signature_phrase R.SigBindMoreWhere p vs = of_sig_binds (where_in (at vs 1) ∷ sig_wheres_in (at vs 2)) (sig_binds_in (at vs 2))
signature_phrase R.SigBindMoreAnd p vs = of_sig_binds [] (sig_binds (at vs 1) (at vs 2))
signature_phrase R.SigBindWhereNone p vs = of_sig_binds [] []
signature_phrase R.SigBindWhereWhere p vs = of_sig_binds (where_in (at vs 1) ∷ sig_wheres_in (at vs 2)) (sig_binds_in (at vs 2))
signature_phrase R.SigBindWhereAnd p vs = at vs 1
signature_phrase R.SigBindAndWhere p vs = of_sig_binds (where_in (at vs 0) ∷ sig_wheres_in (at vs 1)) (sig_binds_in (at vs 1))
signature_phrase R.SigBindAndSigBind p vs = of_sig_binds [] (sig_binds (at vs 0) (at vs 1))
