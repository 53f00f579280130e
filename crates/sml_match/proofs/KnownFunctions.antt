-- The type functions that are read for a signature's names have no unknowns where those of the structure have none.
use Rattle.std.proofs.Common.{◌≡◌, Bool, true, false, ◌||◌, ◌&&◌, not, nat_eq, cond, List, [], ◌∷◌, length, refl, ap, subst, Option, Some, None}
use Rattle.std.specs.Option.{is_none}
use Rattle.sml_lex.specs.declared.fault.Place.{Place}
use Rattle.sml_lex.specs.declared.fault.Code.TheVariants.{M2, M3}
use Rattle.sml_tree.specs.Trees.{LongId}
use Rattle.sml_objects.specs.Appearance.{stands}
use Rattle.sml_objects.specs.Equality.{has_equality}
use Rattle.sml_objects.specs.Initial.{Name, naming}
use Rattle.sml_objects.specs.Objects as O
use Rattle.sml_rules.specs.Answers.{Answer, accepted, refused, fault_at}
use Rattle.sml_rules.specs.Lookups.{Found, found, no_path, no_entry}
use Rattle.sml_rules.specs.Matching.{Realisation}
use Rattle.sml_core_rules.specs.Answers as A
use Rattle.sml_core_rules.specs.Functions as F
use Rattle.sml_core_rules.specs.Lookups.{type_at}
use Rattle.sml_core_rules.specs.Objects.{Env, TyStr, Value}
use Rattle.sml_module_rules.specs.Lines.{Line, a_structure, a_type, a_value, component, path_of}
use Rattle.sml_module_rules.specs.Matching.{function_for, read_realisation}
use Rattle.sml_module_rules.specs.Realising as R
use Rattle.sml_match.specs.Searches.{HasKnownFunctions}
use Rattle.sml_match.proofs.Realised.{HasKnown, IsKnown}

module _ {X Y : Type 0} where
  -- what was accepted after something was
  was-accepted : (a : Answer Place X) (next : X → Answer Place Y) (y : Y) → A.◌>>=◌ a next ≡ accepted y → (x : X) × (a ≡ accepted x) × (next x ≡ accepted y)
  unfolding A.◌>>=◌
  was-accepted (refused f) next y h = let q : ⊥ = cc in absurd q
  was-accepted (accepted x) next y h = (x, refl, h)

module _ (p : Place) (ns : List Name) (E : Env Name) (known : HasKnownFunctions E) where
  there : (x : LongId) (o : Found (TyStr Name)) (u : TyStr Name) → component p x o ≡ accepted u → o ≡ found u
  there x (found t) u h = let q : t ≡ u = cc in ap found q
  there x (no_path s) u h = let q : ⊥ = cc in absurd q
  there x no_entry u h = let q : ⊥ = cc in absurd q

  function-known : (x : LongId) (n : Name) (t : TyStr Name) (θ : O.Scheme Name) → function_for naming p ns E x n t ≡ accepted θ → IsKnown θ
  function-known x n t θ h =
      let one = was-accepted (component p x (type_at E x)) (λ u. A.◌>>=◌ (A.check (nat_eq (length u.function.variables) (length t.function.variables)) (fault_at M2 p (path_of x))) (λ a.
      A.◌>>=◌ (A.check (not (has_equality naming n) || R.admits_function naming u.function) (fault_at M3 p (path_of x))) (λ b. A.give u.function))) θ h in
      let u = one.0 in
      let two = was-accepted (A.check (nat_eq (length u.function.variables) (length t.function.variables)) (fault_at M2 p (path_of x)))
      (λ a. A.◌>>=◌ (A.check (not (has_equality naming n) || R.admits_function naming u.function) (fault_at M3 p (path_of x))) (λ b. A.give u.function)) θ one.2 in
      let three = was-accepted (A.check (not (has_equality naming n) || R.admits_function naming u.function) (fault_at M3 p (path_of x))) (λ b. A.give u.function) θ two.2 in
      let same : u.function ≡ θ = same-accepted u.function θ three.2 in
      subst IsKnown same (known x u (there x (type_at E x) u one.1))
    where
      same-accepted : (σ τ : O.Scheme Name) → ◌≡◌ {A = Answer Place (O.Scheme Name)} (accepted σ) (accepted τ) → σ ≡ τ
      same-accepted σ τ h = cc

  with-known : (n : Name) (θ : O.Scheme Name) (φ : Realisation Name) → IsKnown θ → HasKnown φ → HasKnown (R.with_function naming n θ φ)
  with-known n θ φ k h m σ = go (R.is_same_name naming m n)
    where
      go : (b : Bool) → cond b (Some θ) (φ m) ≡ Some σ → IsKnown σ
      go true e = (let q : θ ≡ σ = cc in subst IsKnown q k)
      go false e = h m σ e

  pub read-known : (φ ψ : Realisation Name) (ls : List (Line (TyStr Name) (Value Name))) → HasKnown φ → read_realisation naming p ns E φ ls ≡ accepted ψ → HasKnown ψ
  unfolding read_realisation
  read-known φ ψ [] h e = (let q : φ ≡ ψ = cc in subst HasKnown q h)
  read-known φ ψ ((x, a_structure) ∷ ls) h e = read-known φ ψ ls h e
  read-known φ ψ ((x, a_value v) ∷ ls) h e = read-known φ ψ ls h e
  read-known φ ψ ((x, a_type t) ∷ ls) h e = by-name (λ χ. read-known χ ψ ls) (F.name_of t.function) e
    where
      next : ((χ : Realisation Name) → HasKnown χ → read_realisation naming p ns E χ ls ≡ accepted ψ → HasKnown ψ) → (b : Bool) (n : Name)
          → cond b (A.◌>>=◌ (function_for naming p ns E x n t) (λ θ. read_realisation naming p ns E (R.with_function naming n θ φ) ls)) (read_realisation naming p ns E φ ls) ≡ accepted ψ
          → HasKnown ψ
      next again true n e =
          let f = was-accepted (function_for naming p ns E x n t) (λ θ. read_realisation naming p ns E (R.with_function naming n θ φ) ls) ψ e in
          again (R.with_function naming n f.0 φ) (with-known n f.0 φ (function-known x n t f.0 f.1) h) f.2
      next again false n e = again φ h e

      by-name : ((χ : Realisation Name) → HasKnown χ → read_realisation naming p ns E χ ls ≡ accepted ψ → HasKnown ψ) → (o : Option Name)
          → ◌≡◌ {A = Answer Place (Realisation Name)} (elim o [
            | None ↦ read_realisation naming p ns E φ ls
            | Some n ↦ cond (stands naming n ns && is_none (φ n)) (A.◌>>=◌ (function_for naming p ns E x n t) (λ θ. read_realisation naming p ns E (R.with_function naming n θ φ) ls))
                (read_realisation naming p ns E φ ls)
          ]) (accepted ψ)
          → HasKnown ψ
      by-name again None e = again φ h e
      by-name again (Some n) e = next again (stands naming n ns && is_none (φ n)) n e
