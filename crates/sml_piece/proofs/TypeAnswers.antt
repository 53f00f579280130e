-- Readings of lists of type expressions, one after the other.
use Rattle.std.proofs.Common.{◌≡◌, List, [], ◌∷◌, ◌++◌, refl, ap, sym, subst, append-nil}
use Rattle.sml_lex.specs.declared.fault.Place.{Place}
use Rattle.sml_lex.specs.Faults as F
use Rattle.sml_tree.specs.Trees as T
use Rattle.sml_tree.specs.Views.{tys_of}
use Rattle.sml_objects.specs.Objects as O
use Rattle.sml_objects.specs.Initial.{Name}
use Rattle.sml_objects.specs.Objects.{types_of}
use Rattle.sml_rules.specs.Answers.{refused, accepted}
use Rattle.sml_rules.specs.Readings.{read_ty, read_tys}
use Rattle.sml_piece.specs.declared.top_fault.TopFault.{TopFault}
use Rattle.sml_piece.proofs.Answering.{then_any, then_refused, gives_so, RefusedBy, refused_on}

-- Whatever the rest answers, all answer: what was read of those before stands in front.
pub record Carries (C : O.Env Name) (all rest : List (T.Ty Place)) (made : List (O.MlType Name)) : Type 0 where
  pub ends : (f : F.Fault Place) → read_tys C (tys_of rest) (refused f) → read_tys C (tys_of all) (refused f)
  pub goes : (ts : List (O.MlType Name)) → read_tys C (tys_of rest) (accepted (types_of ts)) → read_tys C (tys_of all) (accepted (types_of (made ++ ts)))

pub carries_all : (C : O.Env Name) (all : List (T.Ty Place)) → Carries C all all []
carries_all C all = record { ends = λ f h. h; goes = λ ts h. h }

pub types-more : (made : List (O.MlType Name)) (t : O.MlType Name) (ts : List (O.MlType Name)) → types_of ((made ++ t ∷ []) ++ ts) ≡ types_of (made ++ t ∷ ts)
types-more [] t ts = refl
types-more (m ∷ made) t ts = ap (O.and_type m) (types-more made t ts)

pub carries_on : (C : O.Env Name) (all : List (T.Ty Place)) (u : T.Ty Place) (us : List (T.Ty Place)) (made : List (O.MlType Name)) (t : O.MlType Name)
    → read_ty C u (accepted t) → Carries C all (u ∷ us) made → Carries C all us (made ++ t ∷ [])
unfolding read_ty
carries_on C all u us made t h k = record {
  ends = λ f g. k.ends f (then_any _ _ t (refused f) h (then_refused _ _ f g));
  goes = λ ts g. subst (λ x. read_tys C (tys_of all) (accepted x)) (sym (types-more made t ts))
      (k.goes (t ∷ ts) (then_any _ _ t (accepted (O.and_type t (types_of ts))) h (then_any _ _ (types_of ts) (accepted (O.and_type t (types_of ts))) g (gives_so _ _ refl))));
}

pub carries_end : (C : O.Env Name) (all : List (T.Ty Place)) (made : List (O.MlType Name)) → Carries C all [] made → read_tys C (tys_of all) (accepted (types_of made))
unfolding read_ty
carries_end C all made k = subst (λ x. read_tys C (tys_of all) (accepted (types_of x))) (append-nil made) (k.goes [] (gives_so _ _ refl))

pub carries_fault : (C : O.Env Name) (all : List (T.Ty Place)) (u : T.Ty Place) (us : List (T.Ty Place)) (made : List (O.MlType Name)) (f : TopFault)
    → RefusedBy f (read_ty C u) → Carries C all (u ∷ us) made → RefusedBy f (read_tys C (tys_of all))
unfolding read_ty
carries_fault C all u us made f h k =
    refused_on f (read_ty C u) (read_tys C (tys_of all)) (λ g r. k.ends g (then_refused _ _ g r)) h
