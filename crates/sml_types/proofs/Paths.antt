-- Steps along a path of structures.
use Rattle.std.proofs.Common.{◌≡◌, ◌<◌, ℕ, ◌+◌, List, [], ◌∷◌, ◌++◌, map, take, drop, length, get_or, refl, ap, sym, ◌∙◌, arith, Option, Some, None, Result, Ok, Err, Vec, Global, IfOk, IfErr, append_assoc}
use Rattle.std.proofs.lemmas.List.{take_more, drop_more, get_or-map, length-map}
use Rattle.std.proofs.Math.Seq.{drop-length}
use Rattle.std.specs.declared.rc.Rc.{Rc}
use Rattle.sml_lex.specs.declared.fault.Code.{Code}
use Rattle.sml_lex.specs.declared.fault.Code.TheVariants.{E3}
use Rattle.sml_lex.specs.declared.fault.Place.{Place}
use Rattle.sml_lex.specs.Faults as F
use Rattle.sml_tree.specs.Trees.{Id, LongId}
use Rattle.sml_tree.specs.Views.{ident_of}
use Rattle.sml_objects.specs.Initial.{Name}
use Rattle.sml_objects.specs.Maps.{lookup}
use Rattle.sml_rules.specs.Answers.{Answer, accepted, fault_at, refused}
use Rattle.sml_rules.specs.Lookups.{Found, found, no_path, no_entry, entry}
use Rattle.sml_core_rules.specs.Answers.{need}
use Rattle.sml_core_rules.specs.Lookups.{find_at, found_in, structure_at, type_at}
use Rattle.sml_core_rules.specs.Objects.{Env, find_structure, structures, types}
use Rattle.std.specs.Borrow.{Bor}
use Rattle.std.specs.Option.{option_map}
use Rattle.sml_lex.specs.Faults.{fault_of}
use Rattle.sml_bases.specs.declared.objects.Env as P
use Rattle.sml_bases.specs.Views.{env_of}
use Rattle.sml_types.specs.Answered.{IsAnswer, IsFault, IsFaultOf, LeadsTo, env_at}
use Rattle.sml_types.specs.declared.fault.CoreFault.{CoreFault}
use Rattle.sml_types.specs.declared.fault.CoreFault.TheVariants.{Memory, Fault}

module _ {X : Type 0} (pick : Env Name → Option X) where
  one-step : (i : ℕ) (path : List Id) (s : Id) (E : Env Name) → i < length path → get_or path i s ≡ s
      → find_at pick (take i path) (drop i path) E ≡ found_in (take (i + 1) path) (find_at pick (take (i + 1) path) (drop (i + 1) path)) (find_structure s (structures E))
  unfolding find_at
  one-step i path s E h e =
      ap (λ rest. find_at pick (take i path) rest E) (drop_more path i s h ∙ ap (λ y. y ∷ drop (i + 1) path) e)
      ∙ ap (λ seen. found_in seen (find_at pick seen (drop (i + 1) path)) (find_structure s (structures E))) (sym (take_more path i s h ∙ ap (λ y. take i path ++ y ∷ []) e))

  pub path-on : (i : ℕ) (path : List Id) (s : Id) (E F : Env Name) → i < length path → get_or path i s ≡ s → find_structure s (structures E) ≡ Some F
      → find_at pick (take i path) (drop i path) E ≡ find_at pick (take (i + 1) path) (drop (i + 1) path) F
  path-on i path s E F h e f =
      one-step i path s E h e ∙ ap (found_in (take (i + 1) path) (find_at pick (take (i + 1) path) (drop (i + 1) path))) f

  pub path-stops : (i : ℕ) (path : List Id) (s : Id) (E : Env Name) → i < length path → get_or path i s ≡ s → find_structure s (structures E) ≡ None
      → find_at pick (take i path) (drop i path) E ≡ no_path (take (i + 1) path)
  path-stops i path s E h e f =
      one-step i path s E h e ∙ ap (found_in (take (i + 1) path) (find_at pick (take (i + 1) path) (drop (i + 1) path))) f

  pub path-ends : (i : ℕ) (path : List Id) (E : Env Name) → i ≡ length path → find_at pick (take i path) (drop i path) E ≡ entry (pick E)
  unfolding find_at
  path-ends i path E e = go (drop i path) (ap (λ n. drop n path) e ∙ drop-length path)
    where
      go : (rest : List Id) → rest ≡ [] → find_at pick (take i path) rest E ≡ entry (pick E)
      go [] h = refl
      go (x ∷ rest) h = let bad : ⊥ = cc in absurd bad

  -- what is found at the end of a path is looked for in the structure there
  abbrev pub then-entry : Found (Env Name) → Found X
  then-entry (found E) = entry (pick E)
  then-entry (no_path s) = no_path s
  then-entry no_entry = no_entry

  pub by-env : (seen path : List Id) (C : Env Name) → find_at pick seen path C ≡ then-entry (find_at (λ E. Some E) seen path C)
  unfolding find_at
  by-env seen [] C = refl
  by-env seen (s ∷ path) C =
      elim (find_structure s (structures C)) as (λ o. found_in (seen ++ s ∷ []) (find_at pick (seen ++ s ∷ []) path) o ≡ then-entry (found_in (seen ++ s ∷ []) (find_at (λ E. Some E) (seen ++ s ∷ []) path) o)) [
        | None ↦ refl
        | Some E ↦ by-env (seen ++ s ∷ []) path E
      ]

-- the identifier at a place of a path
pub stands : (xs : List (Rc (Vec ℕ Global) Global)) (i : ℕ) (x : Rc (Vec ℕ Global) Global) → i < length xs → x ≡ get_or xs i x → get_or (map ident_of xs) i (ident_of x) ≡ ident_of x
stands xs i x h e = get_or-map ident_of xs i x (ident_of x) h ∙ ap ident_of (sym e)

pub within : (xs : List (Rc (Vec ℕ Global) Global)) (i : ℕ) → i < length xs → i < length (map ident_of xs)
within xs i h = let n = length-map xs ident_of in omega (arith, n, h)

pub or_memory : (f : CoreFault) (g : F.Fault Place) → IsFault f g → IsFaultOf f g
or_memory Memory g h = tt
or_memory (Fault k) g h = h

pub leads-nowhere : {X Y : Type 0} (view : X → Y) (c : Code) (p : Place) (x : LongId) (s : List Id) (r : Found Y) (f : CoreFault) → r ≡ no_path s → IsFaultOf f (fault_at E3 p s) → IsAnswer view (Err f) (need c p x r)
leads-nowhere view c p x s r Memory e h = tt
leads-nowhere view c p x s r (Fault g) e h = ap (need c p x) e ∙ ap refused (sym h)

pub not-there : {X Y : Type 0} (view : X → Y) (c : Code) (p : Place) (x : LongId) (r : Found Y) (f : CoreFault) → r ≡ no_entry → IsFaultOf f (fault_at c p (x.path ++ x.last ∷ [])) → IsAnswer view (Err f) (need c p x r)
not-there view c p x r Memory e h = tt
not-there view c p x r (Fault g) e h = ap (need c p x) e ∙ ap refused (sym h)

pub no-items : {A B : Type 0} (f : A → B) (xs : List A) → length xs ≡ 0 → map f xs ≡ []
no-items f [] e = refl
no-items f (x ∷ xs) e = absurd (omega (arith, e))

-- A path always leads to a structure or nowhere.
some-end : (seen path : List Id) (C : Env Name) → find_at (λ E. Some E) seen path C ≡ no_entry → ⊥
unfolding find_at
some-end seen [] C e = cc
some-end seen (s ∷ path) C e =
    elim (find_structure s (structures C)) as (λ o. found_in (seen ++ s ∷ []) (find_at (λ E. Some E) (seen ++ s ∷ []) path) o ≡ no_entry → ⊥) [
      | None ↦ λ h. cc
      | Some E ↦ λ h. some-end (seen ++ s ∷ []) path E h
    ] e

accepted-found : {Y : Type 0} (c : Code) (p : Place) (x : LongId) (r : Found Y) (y : Y) → need c p x r ≡ accepted y → r ≡ found y
accepted-found c p x (found v) y e = let q : v ≡ y = cc in ap found q
accepted-found c p x (no_path s) y e = let q : ⊥ = cc in absurd q
accepted-found c p x no_entry y e = let q : ⊥ = cc in absurd q

refused-nowhere : {Y : Type 0} (c : Code) (p : Place) (x : LongId) (r : Found Y) (f : F.Fault Place) → (r ≡ no_entry → ⊥) → need c p x r ≡ refused f
    → (s : List Id) × (r ≡ no_path s) × (f ≡ fault_at E3 p s)
refused-nowhere c p x (found v) f n e = let q : ⊥ = cc in absurd q
refused-nowhere c p x (no_path s) f n e = (s, refl, let q : f ≡ fault_at E3 p s = cc in q)
refused-nowhere c p x no_entry f n e = absurd (n refl)

-- a path that isn't empty, by its answer
pub leads-to : (C : Env Name) (p : Place) (x : LongId) (e : Bor (Rc P.Env Global)) → need E3 p x (env_at C x.path) ≡ accepted (env_of e.now.value) → LeadsTo C p x.path (Ok (Some e))
leads-to C p x e h = accepted-found E3 p x (env_at C x.path) (env_of e.now.value) h

pub leads-fault : (C : Env Name) (p : Place) (x : LongId) (f : CoreFault) → IsAnswer (λ (e : Bor (Rc P.Env Global)). env_of e.now.value) (Err f) (need E3 p x (env_at C x.path)) → LeadsTo C p x.path (Err f)
leads-fault C p x Memory h = tt
leads-fault C p x (Fault g) h = refused-nowhere E3 p x (env_at C x.path) (fault_of g) (some-end [] x.path C) h

-- what a long identifier means, by what stands at the end of its path

pub type-short : (C : Env Name) (x : LongId) → x.path ≡ [] → type_at C x ≡ entry (lookup x.last (types C))
unfolding type_at find_at
type-short C x e = ap (λ path. find_at (λ E. lookup x.last (types E)) [] path C) e

pub type-long : (C E : Env Name) (x : LongId) → env_at C x.path ≡ found E → type_at C x ≡ entry (lookup x.last (types E))
unfolding type_at
type-long C E x h = by-env (λ E. lookup x.last (types E)) [] x.path C ∙ ap (then-entry (λ E. lookup x.last (types E))) h

pub type-nowhere : (C : Env Name) (x : LongId) (s : List Id) → env_at C x.path ≡ no_path s → type_at C x ≡ no_path s
unfolding type_at
type-nowhere C x s h = by-env (λ E. lookup x.last (types E)) [] x.path C ∙ ap (then-entry (λ E. lookup x.last (types E))) h

last-there : (seen path : List Id) (last : Id) (C E : Env Name) → find_at (λ E. Some E) seen path C ≡ found E
    → find_at (λ E. Some E) seen (path ++ last ∷ []) C ≡ found_in (seen ++ (path ++ last ∷ [])) (λ F. found F) (find_structure last (structures E))
unfolding find_at
last-there seen [] last C E h = let e : C ≡ E = cc in ap (λ D. found_in (seen ++ last ∷ []) (λ F. found F) (find_structure last (structures D))) e
last-there seen (s ∷ path) last C E h =
    elim (find_structure s (structures C)) as (λ o. found_in (seen ++ s ∷ []) (find_at (λ E. Some E) (seen ++ s ∷ []) path) o ≡ found E
    → found_in (seen ++ s ∷ []) (find_at (λ E. Some E) (seen ++ s ∷ []) (path ++ last ∷ [])) o ≡ found_in (seen ++ (s ∷ path ++ last ∷ [])) (λ F. found F) (find_structure last (structures E))) [
      | None ↦ λ k. let q : ⊥ = cc in absurd q
      | Some D ↦ λ k. last-there (seen ++ s ∷ []) path last D E k ∙ ap (λ l. found_in l (λ F. found F) (find_structure last (structures E))) (append_assoc seen (s ∷ []) (path ++ last ∷ []))
    ] h

last-nowhere : (seen path : List Id) (last : Id) (C : Env Name) (t : List Id) → find_at (λ E. Some E) seen path C ≡ no_path t → find_at (λ E. Some E) seen (path ++ last ∷ []) C ≡ no_path t
unfolding find_at
last-nowhere seen [] last C t h = let q : ⊥ = cc in absurd q
last-nowhere seen (s ∷ path) last C t h =
    elim (find_structure s (structures C)) as (λ o. found_in (seen ++ s ∷ []) (find_at (λ E. Some E) (seen ++ s ∷ []) path) o ≡ no_path t
    → found_in (seen ++ s ∷ []) (find_at (λ E. Some E) (seen ++ s ∷ []) (path ++ last ∷ [])) o ≡ no_path t) [
      | None ↦ λ k. k
      | Some D ↦ λ k. last-nowhere (seen ++ s ∷ []) path last D t k
    ] h

need-last : (p : Place) (x : LongId) (o : Option (Env Name)) → need E3 p x (found_in (x.path ++ x.last ∷ []) (λ F. found F) o) ≡ need E3 p x (entry o)
need-last p x None = refl
need-last p x (Some E) = refl

pub structure-long : (p : Place) (C E : Env Name) (x : LongId) → env_at C x.path ≡ found E → need E3 p x (structure_at C x) ≡ need E3 p x (entry (find_structure x.last (structures E)))
unfolding structure_at
structure-long p C E x h = ap (need E3 p x) (last-there [] x.path x.last C E h) ∙ need-last p x (find_structure x.last (structures E))

pub structure-short : (p : Place) (C : Env Name) (x : LongId) → x.path ≡ [] → need E3 p x (structure_at C x) ≡ need E3 p x (entry (find_structure x.last (structures C)))
unfolding find_at
structure-short p C x e = structure-long p C C x (ap (λ path. find_at (λ E. Some E) [] path C) e)

pub structure-nowhere : (C : Env Name) (x : LongId) (s : List Id) → env_at C x.path ≡ no_path s → structure_at C x ≡ no_path s
unfolding structure_at
structure-nowhere C x s h = last-nowhere [] x.path x.last C s h

pub answer-found : {X Y : Type 0} (view : X → Y) (c : Code) (p : Place) (x : LongId) (stored : Option X) (r : Result X CoreFault) (a : Answer Place Y) → a ≡ need c p x (entry (option_map view stored))
    → IfOk r (λ t. stored ≡ Some t) → IfErr r (λ f. (stored ≡ None) × IsFaultOf f (fault_at c p (x.path ++ x.last ∷ []))) → IsAnswer view r a
answer-found view c p x stored (Ok t) a e there missing = e ∙ ap (λ o. need c p x (entry (option_map view o))) there
answer-found view c p x stored (Err Memory) a e there missing = tt
answer-found view c p x stored (Err (Fault g)) a e there missing = e ∙ ap (λ o. need c p x (entry (option_map view o))) missing.0 ∙ ap refused (sym missing.1)

pub answer-nowhere : {X Y : Type 0} (view : X → Y) (c : Code) (p : Place) (x : LongId) (C : Env Name) (r : Found Y) (f : CoreFault) → ((s : List Id) → env_at C x.path ≡ no_path s → r ≡ no_path s) → LeadsTo C p x.path (Err f) → IsAnswer view (Err f) (need c p x r)
answer-nowhere view c p x C r Memory e h = tt
answer-nowhere view c p x C r (Fault g) e (s, h, k) = ap (need c p x) (e s h) ∙ ap refused (sym k)
