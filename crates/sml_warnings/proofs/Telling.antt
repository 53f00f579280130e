-- What is said of an environment that the scopes mean.
use Rattle.std.proofs.Common.{◌≡◌, Bool, Some, None, Result, Ok, Err, IfOk, OnOk, ap, sym, ◌∙◌}
use Rattle.std.specs.Borrow.{Bor}
use Rattle.sml_lex.specs.declared.fault.Place.{Place}
use Rattle.sml_tree.specs.Trees.{LongId}
use Rattle.sml_objects.specs.Initial.{Name}
use Rattle.sml_rules.specs.Lookups.{Found}
use Rattle.sml_core_rules.specs.Lookups.{found_status}
use Rattle.sml_core_rules.specs.Objects.{Env, Value}
use Rattle.sml_bases.specs.Views.{status_of}
use Rattle.sml_bases.specs.declared.objects.Value as B
use Rattle.sml_patterns.specs.declared.names.Meaning.{Meaning}
use Rattle.sml_patterns.specs.declared.names.Meaning.TheVariants as M
use Rattle.sml_types.specs.declared.fault.CoreFault.{CoreFault}
use Rattle.sml_types.specs.declared.fault.CoreFault.TheVariants.{Memory, Fault}
use Rattle.sml_scopes.specs.Found.{Finds}
use Rattle.sml_scopes.specs.Means.{Means}
use Rattle.sml_scopes.specs.declared.scopes.Scopes.{Scopes}
use Rattle.sml_warnings.specs.Meanings.{meaning_of, FindsMeaning}

pub none_means : (p : Place) (f : Found (Value Name)) → Finds p (Ok None) f → FindsMeaning p (Ok M.Variable) f
none_means p f h = (λ s e. cc, ap (λ g. meaning_of (found_status g)) (sym h))

pub some_means : (p : Place) (f : Found (Value Name)) (v : Bor B.Value) (m : Meaning) → Finds p (Ok (Some v)) f → m ≡ meaning_of (Some (status_of v.now.status)) → FindsMeaning p (Ok m) f
some_means p f v m h e = (λ s i. cc, e ∙ ap (λ g. meaning_of (found_status g)) (sym h))

pub fault_means : (p : Place) (f : Found (Value Name)) (e : CoreFault) → Finds p (Err e) f → FindsMeaning p (Err e) f
fault_means p f Memory h = tt
fault_means p f (Fault g) h = h

-- an answer that is right in an environment, where two questions are one
pub told : (s : Scopes) (f g : Env Name → Bool) (r : Result Bool CoreFault) → ((C : Env Name) → g C ≡ f C) → ((C : Env Name) → Means s C → IfOk r (λ b. b ≡ g C)) → (C : Env Name) → Means s C → IfOk r (λ b. b ≡ f C)
told s f g (Ok b) e h C m = h C m ∙ e C
told s f g (Err k) e h C m = tt

-- the same of what names mean afterwards
pub told_names : {E : Type 0} (s : Scopes) (f g : Env Name → LongId → Meaning) (new : LongId → Meaning) (r : Result (Unit {0}) E) → ((C : Env Name) (x : LongId) → g C x ≡ f C x) → ((C : Env Name) → Means s C → OnOk r ((x : LongId) → new x ≡ g C x)) → (C : Env Name) → Means s C → OnOk r ((x : LongId) → new x ≡ f C x)
told_names s f g new (Ok b) e h C m = λ x. h C m x ∙ e C x
told_names s f g new (Err k) e h C m = tt
