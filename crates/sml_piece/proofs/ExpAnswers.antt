-- Readings of lists of expressions, one after the other.
use Rattle.std.proofs.Common.{ℕ, List, [], ◌∷◌, ◌++◌, refl, sym, subst, append-nil}
use Rattle.sml_lex.specs.declared.fault.Place.{Place}
use Rattle.sml_lex.specs.Faults as F
use Rattle.sml_tree.specs.Trees as T
use Rattle.sml_tree.specs.Views.{exps_of}
use Rattle.sml_objects.specs.Objects as O
use Rattle.sml_objects.specs.Initial.{Name, naming}
use Rattle.sml_objects.specs.Objects.{types_of}
use Rattle.sml_rules.specs.Answers.{refused, accepted}
use Rattle.sml_rules.specs.Readings.{read_exp, read_exps, typed}
use Rattle.sml_piece.specs.declared.top_fault.TopFault.{TopFault}
use Rattle.sml_piece.proofs.TypeAnswers.{types-more}
use Rattle.sml_piece.proofs.Answering.{then_any, then_refused, gives_so, RefusedBy, refused_on}

-- Whatever the rest answers, where `now` unknowns have been made, all answer: what was read of those before stands in front.
pub record CarriesExps (start : ℕ) (C : O.Env Name) (all rest : List (T.Exp Place)) (now : ℕ) (made : List (O.MlType Name)) : Type 0 where
  pub ends : (f : F.Fault Place) → read_exps naming now C (exps_of rest) (refused f) → read_exps naming start C (exps_of all) (refused f)
  pub goes : (k : ℕ) (ts : List (O.MlType Name)) → read_exps naming now C (exps_of rest) (accepted (typed k (types_of ts)))
      → read_exps naming start C (exps_of all) (accepted (typed k (types_of (made ++ ts))))

pub exps_all : (start : ℕ) (C : O.Env Name) (all : List (T.Exp Place)) → CarriesExps start C all all start []
exps_all start C all = record { ends = λ f h. h; goes = λ k ts h. h }

pub exps_on : (start : ℕ) (C : O.Env Name) (all : List (T.Exp Place)) (e : T.Exp Place) (es : List (T.Exp Place)) (now next : ℕ) (made : List (O.MlType Name)) (t : O.MlType Name)
    → read_exp naming now C e (accepted (typed next t)) → CarriesExps start C all (e ∷ es) now made → CarriesExps start C all es next (made ++ t ∷ [])
unfolding read_exp
exps_on start C all e es now next made t h c = record {
  ends = λ f g. c.ends f (then_any _ _ (typed next t) (refused f) h (then_refused _ _ f g));
  goes = λ k ts g. subst (λ x. read_exps naming start C (exps_of all) (accepted (typed k x))) (sym (types-more made t ts))
      (c.goes k (t ∷ ts) (then_any _ _ (typed next t) (accepted (typed k (O.and_type t (types_of ts)))) h
      (then_any _ _ (typed k (types_of ts)) (accepted (typed k (O.and_type t (types_of ts)))) g (gives_so _ _ refl))));
}

pub exps_end : (start : ℕ) (C : O.Env Name) (all : List (T.Exp Place)) (now : ℕ) (made : List (O.MlType Name)) → CarriesExps start C all [] now made
    → read_exps naming start C (exps_of all) (accepted (typed now (types_of made)))
unfolding read_exp
exps_end start C all now made c =
    subst (λ x. read_exps naming start C (exps_of all) (accepted (typed now (types_of x)))) (append-nil made) (c.goes now [] (gives_so _ _ refl))

pub exps_fault : (start : ℕ) (C : O.Env Name) (all : List (T.Exp Place)) (e : T.Exp Place) (es : List (T.Exp Place)) (now : ℕ) (made : List (O.MlType Name)) (f : TopFault)
    → RefusedBy f (read_exp naming now C e) → CarriesExps start C all (e ∷ es) now made → RefusedBy f (read_exps naming start C (exps_of all))
unfolding read_exp
exps_fault start C all e es now made f h c =
    refused_on f (read_exp naming now C e) (read_exps naming start C (exps_of all)) (λ g r. c.ends g (then_refused _ _ g r)) h
