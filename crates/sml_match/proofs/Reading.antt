-- Lines that are read for the type functions of sought names.
use Rattle.std.proofs.Common.{◌≡◌, Bool, true, false, ◌||◌, ◌&&◌, not, nat_eq, cond, List, [], ◌∷◌, ◌++◌, length, refl, ap, ◌∙◌, Option, Some, None, append_assoc}
use Rattle.std.specs.Option.{is_none}
use Rattle.std.proofs.lemmas.Bool.{eq-eqb, ne_eqb}
use Rattle.sml_lex.specs.declared.fault.Place.{Place}
use Rattle.sml_lex.specs.declared.fault.Code.TheVariants.{M1, M2, M3}
use Rattle.sml_tree.specs.Trees.{Id, LongId}
use Rattle.sml_objects.specs.Appearance.{stands}
use Rattle.sml_objects.specs.Initial.{Name, naming}
use Rattle.sml_objects.specs.Equality.{has_equality}
use Rattle.sml_objects.specs.Objects as O
use Rattle.sml_rules.specs.Answers.{Answer, accepted, refused, fault_at}
use Rattle.sml_rules.specs.Lookups.{found, no_path, no_entry}
use Rattle.sml_rules.specs.Matching.{Realisation}
use Rattle.sml_core_rules.specs.Answers as A
use Rattle.sml_core_rules.specs.Functions as F
use Rattle.sml_core_rules.specs.Lookups.{type_at}
use Rattle.sml_core_rules.specs.Objects.{Env, Structures, TyStr, Value, maps, no_structure, and_structure}
use Rattle.sml_module_rules.specs.Lines.{Line, a_type, component, lines, path_of, structure_lines, type_lines, value_lines}
use Rattle.sml_module_rules.specs.Matching.{function_for, read_realisation}
use Rattle.sml_module_rules.specs.Realising as R
use Rattle.sml_match.specs.Searches.{if_next, next_of, reading}

abbrev Lines : Type 0
Lines = List (Line (TyStr Name) (Value Name))

module _ (p : Place) (ns : List Name) (E : Env Name) where
  abbrev read : Realisation Name → Lines → Answer Place (Realisation Name)
  read φ ls = reading p ns E φ ls

  -- lines of values say nothing
  pub past-values : (φ : Realisation Name) (path : List Id) (vs : List (Id × Value Name)) (rest : Lines) → read φ (value_lines path vs ++ rest) ≡ read φ rest
  unfolding read_realisation
  past-values φ path [] rest = refl
  past-values φ path (v ∷ vs) rest = past-values φ path vs rest

  -- a structure, and what stands in it
  pub next-structure : (φ : Realisation Name) (path : List Id) (s : Id) (F : Env Name) (ss : Structures (TyStr Name) (Value Name)) (rest : Lines)
      → read φ (structure_lines path (and_structure s F ss) ++ rest) ≡ read φ (lines (path ++ s ∷ []) F ++ (structure_lines path ss ++ rest))
  unfolding read_realisation structure_lines
  next-structure φ path s F ss rest = ap (read φ) (append_assoc (lines (path ++ s ∷ []) F) (structure_lines path ss) rest)

  pub no-structures : (φ : Realisation Name) (path : List Id) (rest : Lines) → read φ (structure_lines path no_structure ++ rest) ≡ read φ rest
  unfolding structure_lines
  no-structures φ path rest = refl

  -- what an environment has, in order
  pub in-order : (φ : Realisation Name) (path : List Id) (ss : Structures (TyStr Name) (Value Name)) (ts : List (Id × TyStr Name)) (vs : List (Id × Value Name)) (rest : Lines)
      → read φ (lines path (maps ss ts vs) ++ rest) ≡ read φ (structure_lines path ss ++ (type_lines path ts ++ (value_lines path vs ++ rest)))
  unfolding lines
  in-order φ path ss ts vs rest =
      ap (read φ) (append_assoc (structure_lines path ss) (type_lines path ts ++ value_lines path vs) rest
      ∙ ap (λ l. structure_lines path ss ++ l) (append_assoc (type_lines path ts) (value_lines path vs) rest))

  -- the function for a name goes before what is read after it
  abbrev pub then : Realisation Name → Name → Lines → Answer Place (O.Scheme Name) → Answer Place (Realisation Name)
  then φ n ls a = A.◌>>=◌ a (λ θ. read (R.with_function naming n θ φ) ls)

  abbrev by-name : Realisation Name → LongId → TyStr Name → Lines → Option Name → Answer Place (Realisation Name)
  by-name φ x t ls None = read φ ls
  by-name φ x t ls (Some n) = cond (stands naming n ns && is_none (φ n)) (then φ n ls (function_for naming p ns E x n t)) (read φ ls)

  type-line : (φ : Realisation Name) (x : LongId) (t : TyStr Name) (ls : Lines) (o : Option Name) → F.name_of t.function ≡ o → read φ ((x, a_type t) ∷ ls) ≡ by-name φ x t ls o
  unfolding read_realisation
  type-line φ x t ls None e = ap (λ (o : Option Name). elim o [
    | None ↦ read φ ls
    | Some n ↦ cond (stands naming n ns && is_none (φ n)) (then φ n ls (function_for naming p ns E x n t)) (read φ ls)
  ]) e
  type-line φ x t ls (Some n) e = ap (λ (o : Option Name). elim o [
    | None ↦ read φ ls
    | Some n ↦ cond (stands naming n ns && is_none (φ n)) (then φ n ls (function_for naming p ns E x n t)) (read φ ls)
  ]) e

  pass : (φ : Realisation Name) (x : LongId) (t : TyStr Name) (ls : Lines) (o : Option Name) → F.name_of t.function ≡ o → if_next ns φ o ≡ None → read φ ((x, a_type t) ∷ ls) ≡ read φ ls
  pass φ x t ls None e h = type-line φ x t ls None e
  pass φ x t ls (Some n) e h = type-line φ x t ls (Some n) e ∙ go (stands naming n ns && is_none (φ n)) h
    where
      go : (b : Bool) → cond b (Some n) None ≡ None → cond b (then φ n ls (function_for naming p ns E x n t)) (read φ ls) ≡ read φ ls
      go true k = let q : ⊥ = cc in absurd q
      go false k = refl

  -- a type function that is no name that is sought
  pub passed : (φ : Realisation Name) (x : LongId) (t : TyStr Name) (ls : Lines) → next_of ns φ t.function ≡ None → read φ ((x, a_type t) ∷ ls) ≡ read φ ls
  passed φ x t ls h = pass φ x t ls (F.name_of t.function) refl h

  take-it : (φ : Realisation Name) (x : LongId) (t : TyStr Name) (ls : Lines) (m : Name) (o : Option Name) → F.name_of t.function ≡ o → if_next ns φ o ≡ Some m
      → read φ ((x, a_type t) ∷ ls) ≡ then φ m ls (function_for naming p ns E x m t)
  take-it φ x t ls m None e h = let q : ⊥ = cc in absurd q
  take-it φ x t ls m (Some n) e h = type-line φ x t ls (Some n) e ∙ go (stands naming n ns && is_none (φ n)) h
    where
      go : (b : Bool) → cond b (Some n) None ≡ Some m → cond b (then φ n ls (function_for naming p ns E x n t)) (read φ ls) ≡ then φ m ls (function_for naming p ns E x m t)
      go true k = let q : n ≡ m = cc in ap (λ k. then φ k ls (function_for naming p ns E x k t)) q
      go false k = let q : ⊥ = cc in absurd q

  -- a type function that is one of them
  pub taken : (φ : Realisation Name) (x : LongId) (t : TyStr Name) (ls : Lines) (m : Name) → next_of ns φ t.function ≡ Some m
      → read φ ((x, a_type t) ∷ ls) ≡ then φ m ls (function_for naming p ns E x m t)
  taken φ x t ls m h = take-it φ x t ls m (F.name_of t.function) refl h

  pub then-found : (φ : Realisation Name) (n : Name) (ls : Lines) (a : Answer Place (O.Scheme Name)) (θ : O.Scheme Name) → a ≡ accepted θ → then φ n ls a ≡ read (R.with_function naming n θ φ) ls
  unfolding A.◌>>=◌
  then-found φ n ls a θ h = ap (then φ n ls) h

  -- after the last line
  pub nothing-left : (φ : Realisation Name) → read φ [] ≡ accepted φ
  unfolding read_realisation
  nothing-left φ = refl

-- The same names are sought.
pub same-next : (ms ns : List Name) (φ : Realisation Name) (θ : O.Scheme Name) → ((n : Name) → stands naming n ms ≡ stands naming n ns) → next_of ms φ θ ≡ next_of ns φ θ
same-next ms ns φ θ same = go (F.name_of θ)
  where
    go : (o : Option Name) → if_next ms φ o ≡ if_next ns φ o
    go None = refl
    go (Some n) = ap (λ b. cond (b && is_none (φ n)) (Some n) None) (same n)

-- the function for a name, step by step
module _ (p : Place) (ns : List Name) (E : Env Name) (x : LongId) (n : Name) (t : TyStr Name) where
  abbrev answer : Answer Place (O.Scheme Name)
  answer = function_for naming p ns E x n t

  abbrev last-check : TyStr Name → Answer Place (O.Scheme Name)
  last-check u = A.◌>>=◌ (A.check (not (has_equality naming n) || R.admits_function naming u.function) (fault_at M3 p (path_of x))) (λ b. A.give u.function)

  abbrev checks : TyStr Name → Answer Place (O.Scheme Name)
  checks u = A.◌>>=◌ (A.check (nat_eq (length u.function.variables) (length t.function.variables)) (fault_at M2 p (path_of x))) (λ a. last-check u)

  pub for-nowhere : (s : List Id) → type_at E x ≡ no_path s → answer ≡ refused (fault_at M1 p s)
  unfolding A.◌>>=◌
  for-nowhere s h = ap (λ o. A.◌>>=◌ (component p x o) checks) h

  pub for-nothing : type_at E x ≡ no_entry → answer ≡ refused (fault_at M1 p (path_of x))
  unfolding A.◌>>=◌
  for-nothing h = ap (λ o. A.◌>>=◌ (component p x o) checks) h

  found-there : (u : TyStr Name) → type_at E x ≡ found u → answer ≡ checks u
  unfolding A.◌>>=◌
  found-there u h = ap (λ o. A.◌>>=◌ (component p x o) checks) h

  pub for-other-arity : (u : TyStr Name) → type_at E x ≡ found u → ¬ (length u.function.variables ≡ length t.function.variables) → answer ≡ refused (fault_at M2 p (path_of x))
  unfolding A.◌>>=◌
  for-other-arity u h k =
      found-there u h
      ∙ ap (λ b. A.◌>>=◌ (A.check b (fault_at M2 p (path_of x))) (λ a. last-check u)) (ne_eqb (length u.function.variables) (length t.function.variables) k)

  same-arity : (u : TyStr Name) → type_at E x ≡ found u → length u.function.variables ≡ length t.function.variables → answer ≡ last-check u
  unfolding A.◌>>=◌
  same-arity u h k =
      found-there u h
      ∙ ap (λ b. A.◌>>=◌ (A.check b (fault_at M2 p (path_of x))) (λ a. last-check u)) (eq-eqb (length u.function.variables) (length t.function.variables) k)

  pub for-no-equality : (u : TyStr Name) → type_at E x ≡ found u → length u.function.variables ≡ length t.function.variables
      → has_equality naming n ≡ true → R.admits_function naming u.function ≡ false → answer ≡ refused (fault_at M3 p (path_of x))
  unfolding A.◌>>=◌
  for-no-equality u h k e a =
      same-arity u h k
      ∙ (λ i. A.◌>>=◌ (A.check (not (e i) || a i) (fault_at M3 p (path_of x))) (λ b. A.give u.function))

  pub for-found : (u : TyStr Name) → type_at E x ≡ found u → length u.function.variables ≡ length t.function.variables
      → (not (has_equality naming n) || R.admits_function naming u.function) ≡ true → answer ≡ accepted u.function
  unfolding A.◌>>=◌
  for-found u h k e =
      same-arity u h k
      ∙ ap (λ b. A.◌>>=◌ (A.check b (fault_at M3 p (path_of x))) (λ b. A.give u.function)) e
