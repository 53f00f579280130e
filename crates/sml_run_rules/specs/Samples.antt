-- Samples of declarations that are alike, and of some that are not; and of warnings.
use Rattle.std.specs.Prelude.{ℕ, List, [], ◌∷◌, codes, Some, None}
use Rattle.sml_lex.specs.declared.fault.Place.{Place}
use Rattle.sml_lex.specs.declared.fault.Code.TheVariants.{P1, P2, P3}
use Rattle.sml_tree.specs.Trees.{Id}
use Rattle.sml_tree.specs.Names.{Name, LongName}
use Rattle.sml_tree.specs.Patterns.{Pat, pat_name}
use Rattle.sml_tree.specs.Expressions.{open_dec}
use Rattle.sml_tree.specs.Signatures.{sig_end, no_spec}
use Rattle.sml_tree.specs.Structures.{StrExp, TopDec, struct_end, str_name, ascribed, str_let, core_dec, structure_dec, no_str_dec, and_str_dec, str_bind, no_str_bind, and_str_bind, top_str, functor_dec}
use Rattle.sml_tree.specs.declared.structures.Ascription.TheVariants.{Transparent, Opaque}
use Rattle.sml_patterns.specs.Warnings.{warning}
use Rattle.sml_core_rules.specs.Objects.{constructor}
use Rattle.sml_core_rules.specs.States.{Holder, of_fn, of_handle, of_val, Judged}
use Rattle.sml_places.specs.Likeness.{AreGroupsAlike}
use Rattle.sml_run_rules.specs.Warnings.{AreWarnings}

-- on the first line
abbrev pub at : ℕ → Place
at k = record { line = 1; column = k }

abbrev pub named : ℕ → Id → Name Place
named k x = record { place = at k; id = x }

abbrev pub long : ℕ → Id → LongName Place
long k x = record { place = at k; id = record { path = []; last = x } }

-- two bodies, and one signature
abbrev pub empty_body : StrExp Place
empty_body = struct_end (at 20) no_str_dec

abbrev pub other_body : StrExp Place
other_body = str_name (long 20 (codes "T"))

abbrev pub sealed : ℕ → StrExp Place → StrExp Place
sealed k e = ascribed (at k) e Opaque (sig_end (at k) no_spec)

abbrev pub transparent : StrExp Place → StrExp Place
transparent e = ascribed (at 9) e Transparent (sig_end (at 9) no_spec)

-- structure A = .. and B = T
abbrev pub group : StrExp Place → TopDec Place
group e =
    top_str (structure_dec (at 1) (and_str_bind (str_bind (named 11 (codes "A")) e) (and_str_bind (str_bind (named 30 (codes "B")) other_body) no_str_bind)))

-- functor F (v : sig end) = let open v in .. end
abbrev pub functor : StrExp Place → TopDec Place
functor e =
    functor_dec (at 1) (record {
      name = named 9 (codes "F");
      argument = named 12 (codes "v");
      signature = sig_end (at 14) no_spec;
      body = str_let (at 30) (and_str_dec (core_dec (open_dec (at 30) (long 30 (codes "v") ∷ []))) no_str_dec) e;
    } ∷ [])

-- Bodies behind one seal may differ, also beside a structure that is the same, and after the hidden `open`; places don't count. Bodies
-- behind `:` or without a signature may not.
pub record LikenessSamples : Type 0 where
  pub sealed_alike : AreGroupsAlike (group (sealed 5 empty_body)) (group (sealed 7 other_body))
  pub opened_alike : AreGroupsAlike (functor (sealed 5 empty_body)) (functor (sealed 7 other_body))
  pub transparent_differ : ¬ (AreGroupsAlike (group (transparent empty_body)) (group (transparent other_body)))
  pub plain_differ : ¬ (AreGroupsAlike (group empty_body) (group other_body))

-- a rule whose pattern is this identifier, at its place
abbrev pub one_rule : ℕ → Id → Place × Pat Place
one_rule k x = (at k, pat_name (at k) (long k x))

-- where identifiers are all variables, and where they are all the second of two constructors
abbrev pub variables : Holder Place → List (Place × Pat Place) → Judged Place
variables h rs = record { holder = h; patterns = rs; status = λ x. None }

abbrev pub constructors : Holder Place → List (Place × Pat Place) → Judged Place
constructors h rs = record { holder = h; patterns = rs; status = λ x. Some (constructor 1 2) }

-- `fn x => ..` has no warning, `fn true => ..` is open, so is `val true = ..`, and both have both, in the order of their places; a match
-- after `handle` never is; a rule after one of the same pattern is redundant.
pub record WarningSamples : Type 0 where
  pub whole : AreWarnings (variables (of_fn (at 1)) (one_rule 4 (codes "x") ∷ []) ∷ []) []
  pub open_match : AreWarnings (constructors (of_fn (at 1)) (one_rule 4 (codes "true") ∷ []) ∷ []) (warning (at 1) P2 ∷ [])
  pub open_binding : AreWarnings (constructors (of_val (at 5)) (one_rule 5 (codes "true") ∷ []) ∷ []) (warning (at 5) P3 ∷ [])
  pub both : AreWarnings (constructors (of_val (at 5)) (one_rule 5 (codes "true") ∷ []) ∷ constructors (of_fn (at 1)) (one_rule 4 (codes "true") ∷ []) ∷ [])
      (warning (at 1) P2 ∷ warning (at 5) P3 ∷ [])
  pub handler : AreWarnings (constructors (of_handle (at 1)) (one_rule 4 (codes "true") ∷ []) ∷ []) []
  pub redundant : AreWarnings (constructors (of_handle (at 1)) (one_rule 4 (codes "true") ∷ one_rule 9 (codes "true") ∷ []) ∷ []) (warning (at 9) P1 ∷ [])
