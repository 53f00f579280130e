-- Sums over the entries of a map, one entry after the other.
use Rattle.std.proofs.Common.{◌≡◌, ℕ, ◌+◌, ◌*◌, List, [], ◌∷◌, ◌++◌, length, map, refl, ap, ◌∙◌, Vec, Global, Bor, arith}
use Rattle.std.proofs.lemmas.List.{map-append}
use Rattle.std.specs.Map.Iter.{deref_pair}
use Rattle.std.specs.declared.rc.Rc.{Rc}
use Rattle.sml_tree.specs.Trees.{Id}
use Rattle.sml_tree.specs.Views.{ident_of}
use Rattle.sml_objects.specs.Initial.{Name}
use Rattle.sml_objects.specs.Maps.{Map}
use Rattle.sml_objects.specs.Views.{entries_of}
use Rattle.sml_core_rules.specs.Objects.{Env, TyStr}
use Rattle.sml_bases.specs.Views.{env_of, structures_of, ty_str_of, value_of}
use Rattle.sml_bases.specs.declared.objects.Env.{Env as Held}
use Rattle.sml_bases.specs.declared.objects.Env.TheViews.{out-Env}
use Rattle.sml_bases.proofs.EnvViews.{env_of-out}
use Rattle.sml_envs.specs.Extents.{bytes_in, line_bytes, structure_bytes, total_by}

abbrev Key : Type 0
Key = Rc (Vec ℕ Global) Global

total-push : {X : Type 0} (f : Id → X → ℕ) (m : Map X) (x : Id) (v : X) → total_by f (m ++ ((x, v) ∷ [])) ≡ total_by f m + f x v
total-push f [] x v = omega arith
total-push f (e ∷ m) x v = omega (arith, total-push f m x v)

module _ {A X : Type 0} (see : A → X) where
  -- one entry more
  pub total-next : (f : Id → X → ℕ) (ys : List (Bor Key × Bor A)) (k : Bor Key) (a : Bor A)
      → total_by f (entries_of see (map deref_pair (ys ++ ((k, a) ∷ [])))) ≡ total_by f (entries_of see (map deref_pair ys)) + f (ident_of k.now) (see a.now)
  total-next f ys k a =
      ap (λ l. total_by f (entries_of see l)) (map-append deref_pair ys ((k, a) ∷ []))
      ∙ ap (total_by f) (map-append (λ (e : Key × A). (ident_of e.0, see e.1)) (map deref_pair ys) ((k.now, a.now) ∷ []))
      ∙ total-push f (entries_of see (map deref_pair ys)) (ident_of k.now) (see a.now)

module _ (signs : TyStr Name → ℕ) (p : ℕ) where
  -- structures as entries
  pub structure-total : (m : Map (Env Name))
      → structure_bytes signs p (structures_of m) ≡ total_by (λ x E. line_bytes p x + bytes_in signs (p + length x + 1) E) m
  unfolding structure_bytes
  structure-total [] = refl
  structure-total (e ∷ m) = ap (λ n. (line_bytes p e.0 + bytes_in signs (p + length e.0 + 1) e.1) + n) (structure-total m)

  pub parts-bytes : (e : Held)
      → bytes_in signs p (env_of e) ≡ structure_bytes signs p (structures_of (entries_of (λ s. env_of s.value) (out-Env e).structures.entries))
      + (total_by (λ x t. line_bytes p x + 9 * signs t) (entries_of ty_str_of (out-Env e).types.entries) + total_by (λ x v. line_bytes p x) (entries_of value_of (out-Env e).values.entries))
  unfolding bytes_in
  parts-bytes e = ap (bytes_in signs p) (env_of-out e)
