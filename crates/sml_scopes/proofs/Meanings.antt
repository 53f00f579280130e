-- Environments that scopes mean, where something is bound or opened.
use Rattle.std.proofs.Common.{◌≡◌, ◌≤◌, ℕ, List, [], ◌∷◌, ◌++◌, length, Option, Some, Result, Ok, Err, OnOk, ap, sym, ◌∙◌, subst, Global, arith}
use Rattle.std.proofs.lemmas.List.{length-append, length-map}
use Rattle.std.specs.Vec.{vec_len}
use Rattle.std.specs.Option.{option_map}
use Rattle.std.specs.declared.cmp.Ordering.{Ordering}
use Rattle.std.specs.declared.cmp.Ordering.TheVariants.{Less, Equal, Greater}
use Rattle.std.specs.declared.rc.Rc.{Rc}
use Rattle.sml_tree.specs.Trees.{Id}
use Rattle.sml_objects.specs.Initial.{Name}
use Rattle.sml_objects.specs.Maps.{Map, join, lookup, order_of, put}
use Rattle.sml_objects.specs.Views.{entries_of}
use Rattle.sml_core_rules.specs.Objects as O
use Rattle.sml_bases.specs.declared.objects.Basis.{Basis}
use Rattle.sml_bases.specs.declared.objects.Env.{Env}
use Rattle.sml_bases.specs.declared.objects.Env.TheViews.{out-Env}
use Rattle.sml_bases.specs.declared.objects.TypeStr.{TypeStr}
use Rattle.sml_bases.specs.declared.objects.Value.{Value}
use Rattle.sml_bases.specs.CodeStored.{stored_at}
use Rattle.sml_bases.specs.Layers.{first_found, layers, or_else}
use Rattle.sml_bases.specs.Views.{env_of, structures_of, ty_str_of, value_of}
use Rattle.sml_bases.proofs.EnvViews.{env_of-out, find-entries}
use Rattle.sml_scopes.specs.CodeTables.{bound, bound_at, found_since}
use Rattle.sml_scopes.specs.CodeScopes.{IsOrdered, opened_in, structure_by, type_by, value_by}
use Rattle.sml_scopes.specs.Means.{AreMeant}
use Rattle.sml_scopes.specs.declared.scopes.Scopes.{Scopes}
use Rattle.sml_scopes.specs.declared.table.Table.{Table}
use Rattle.sml_objects.proofs.Puts.{at, lookup-put}
use Rattle.sml_scopes.proofs.Stored.{Stored, stored-seen}
use Rattle.sml_scopes.proofs.Tables.{log-ends}
use Rattle.sml_scopes.proofs.Nearest.{choose, found-more, found-none, or-else-assoc}
use Rattle.sml_scopes.proofs.Joins.{find-join, find-put, join-found, listed-of}

-- the same, where the same is bound
pub meant-same : {b : Basis} {opened : List Env} {vs ws : Id → Option (ℕ × Value)} {ts us : Id → Option (ℕ × TypeStr)} {ss rs : Id → Option (ℕ × Rc Env Global)} {C : O.Env Name}
    → AreMeant b opened vs ts ss C → ((x : Id) → ws x ≡ vs x) → ((x : Id) → us x ≡ ts x) → ((x : Id) → rs x ≡ ss x) → AreMeant b opened ws us rs C
meant-same {b = b} {opened = opened} m f g h = record {
  values_are = λ x. ap (value_by b opened x) (f x) ∙ m.values_are x;
  types_are = λ x. ap (type_by b opened x) (g x) ∙ m.types_are x;
  structures_are = λ x. ap (structure_by b opened x) (h x) ∙ m.structures_are x;
  values_stand = λ x e k. m.values_stand x e (sym (f x) ∙ k);
  types_stand = λ x e k. m.types_stand x e (sym (g x) ∙ k);
  structures_stand = λ x e k. m.structures_stand x e (sym (h x) ∙ k);
}

some-number : {X : Type 0} (d e : ℕ × X) → Some d ≡ Some e → e.0 ≡ d.0
some-number d e h = let q : d ≡ e = cc in ap (λ p. p.0) (sym q)

-- One class of identifiers: `held` is what structures store of it, `below` what the basis has.
module _ {X Y : Type 0} (view : X → Y) (held : Env → Stored X) (below : Id → Option Y) where
  abbrev pub by : List Env → Id → Option (ℕ × X) → Option Y
  by opened x e = or_else (option_map view (found_since (stored_at held x) opened e)) (below x)

  by-bound : (opened : List Env) (x : Id) (o : Ordering) (n : ℕ) (v : X) (e : Option (ℕ × X)) (look : Option Y) → n ≡ length opened → by opened x e ≡ look
      → by opened x (at o (Some (n, v)) e) ≡ at o (Some (view v)) look
  by-bound opened x Less n v e look k h = h
  by-bound opened x Equal n v e look k h = ap (λ o. or_else (option_map view o) (below x)) (found-none (stored_at held x) opened (n, v) (omega (arith, k)))
  by-bound opened x Greater n v e look k h = h

  -- an identifier is bound
  pub now-bound : (opened : List Env) (vs ws : Id → Option (ℕ × X)) (look look' : Id → Option Y) (y : Id) (n : ℕ) (v : X) → n ≡ length opened
      → ((x : Id) → ws x ≡ at (order_of x y) (Some (n, v)) (vs x)) → ((x : Id) → look' x ≡ at (order_of x y) (Some (view v)) (look x)) → ((x : Id) → by opened x (vs x) ≡ look x)
      → (x : Id) → by opened x (ws x) ≡ look' x
  now-bound opened vs ws look look' y n v k f g h x =
      ap (by opened x) (f x) ∙ by-bound opened x (order_of x y) n v (vs x) (look x) k (h x) ∙ sym (g x)

  stands-by : (o : Ordering) (n m : ℕ) (v : X) (old : Option (ℕ × X)) (e : ℕ × X) → n ≤ m → ((d : ℕ × X) → old ≡ Some d → d.0 ≤ m) → at o (Some (n, v)) old ≡ Some e → e.0 ≤ m
  stands-by Less n m v old e k h q = h e q
  stands-by Equal n m v old e k h q = let s = some-number (n, v) e q in omega (arith, k, s)
  stands-by Greater n m v old e k h q = h e q

  pub still-stands : (m : ℕ) (vs ws : Id → Option (ℕ × X)) (y : Id) (n : ℕ) (v : X) → n ≡ m → ((x : Id) → ws x ≡ at (order_of x y) (Some (n, v)) (vs x)) → ((x : Id) (d : ℕ × X) → vs x ≡ Some d → d.0 ≤ m)
      → (x : Id) (e : ℕ × X) → ws x ≡ Some e → e.0 ≤ m
  still-stands m vs ws y n v k f h x e q = stands-by (order_of x y) n m v (vs x) e (omega (arith, k)) (h x) (sym (f x) ∙ q)

  -- a structure is opened
  pub now-opened : (opened : List Env) (E : Env) (x : Id) (e : Option (ℕ × X)) (look look' here : Option Y) → ((d : ℕ × X) → e ≡ Some d → d.0 ≤ length opened)
      → option_map view (stored_at held x E) ≡ here → look' ≡ or_else here look → by opened x e ≡ look → by (opened ++ E ∷ []) x e ≡ look'
  now-opened opened E x e look look' here k h g b =
      ap (λ o. or_else (option_map view o) (below x)) (found-more (stored_at held x) opened E e k)
      ∙ ap (λ o. or_else o (below x)) (choose view (stored_at held x E) (found_since (stored_at held x) opened e))
      ∙ or-else-assoc (option_map view (stored_at held x E)) (option_map view (found_since (stored_at held x) opened e)) (below x)
      ∙ (λ i. or_else (h i) (b i))
      ∙ sym g

grown : {X : Type 0} (opened : List Env) (E : Env) (vs : Id → Option (ℕ × X)) → ((x : Id) (d : ℕ × X) → vs x ≡ Some d → d.0 ≤ length opened) → (x : Id) (d : ℕ × X) → vs x ≡ Some d → d.0 ≤ length (opened ++ E ∷ [])
grown opened E vs h x d q = let s = h x d q in let n = length-append opened (E ∷ []) in omega (arith, s, n)

abbrev opened_structures : Env → Map (O.Env Name)
opened_structures E = entries_of (λ u. env_of u.value) (out-Env E).structures.entries

module _ (b : Basis) where
  abbrev values_below : Id → Option (O.Value Name)
  values_below x = first_found (λ E. lookup x (O.values E)) (layers b)

  abbrev types_below : Id → Option (O.TyStr Name)
  types_below x = first_found (λ E. lookup x (O.types E)) (layers b)

  abbrev structures_below : Id → Option (O.Env Name)
  structures_below x = first_found (λ E. O.find_structure x (O.structures E)) (layers b)

  pub value-bound : (opened : List Env) (vs ws : Id → Option (ℕ × Value)) (ts : Id → Option (ℕ × TypeStr)) (ss : Id → Option (ℕ × Rc Env Global)) (C : O.Env Name) (y : Id) (n : ℕ) (v : Value)
      → n ≡ length opened → ((x : Id) → ws x ≡ at (order_of x y) (Some (n, v)) (vs x)) → AreMeant b opened vs ts ss C
      → AreMeant b opened ws ts ss (O.extend C (O.maps O.no_structure [] ((y, value_of v) ∷ [])))
  value-bound opened vs ws ts ss (O.maps cs ct cv) y n v k f m = record {
    values_are = now-bound value_of (λ E. (out-Env E).values.entries) values_below opened vs ws (λ x. lookup x cv) (λ x. lookup x (put y (value_of v) cv)) y n v k f (λ x. lookup-put x y (value_of v) cv) m.values_are;
    types_are = m.types_are;
    structures_are = m.structures_are;
    values_stand = still-stands value_of (λ E. (out-Env E).values.entries) values_below (length opened) vs ws y n v k f m.values_stand;
    types_stand = m.types_stand;
    structures_stand = m.structures_stand;
  }

  pub type-bound : (opened : List Env) (vs : Id → Option (ℕ × Value)) (ts us : Id → Option (ℕ × TypeStr)) (ss : Id → Option (ℕ × Rc Env Global)) (C : O.Env Name) (y : Id) (n : ℕ) (t : TypeStr)
      → n ≡ length opened → ((x : Id) → us x ≡ at (order_of x y) (Some (n, t)) (ts x)) → AreMeant b opened vs ts ss C
      → AreMeant b opened vs us ss (O.extend C (O.maps O.no_structure ((y, ty_str_of t) ∷ []) []))
  type-bound opened vs ts us ss (O.maps cs ct cv) y n t k f m = record {
    values_are = m.values_are;
    types_are = now-bound ty_str_of (λ E. (out-Env E).types.entries) types_below opened ts us (λ x. lookup x ct) (λ x. lookup x (put y (ty_str_of t) ct)) y n t k f (λ x. lookup-put x y (ty_str_of t) ct) m.types_are;
    structures_are = m.structures_are;
    values_stand = m.values_stand;
    types_stand = still-stands ty_str_of (λ E. (out-Env E).types.entries) types_below (length opened) ts us y n t k f m.types_stand;
    structures_stand = m.structures_stand;
  }

  pub structure-bound : (opened : List Env) (vs : Id → Option (ℕ × Value)) (ts : Id → Option (ℕ × TypeStr)) (ss rs : Id → Option (ℕ × Rc Env Global)) (C : O.Env Name) (y : Id) (n : ℕ) (s : Rc Env Global)
      → n ≡ length opened → ((x : Id) → rs x ≡ at (order_of x y) (Some (n, s)) (ss x)) → AreMeant b opened vs ts ss C
      → AreMeant b opened vs ts rs (O.extend C (O.maps (O.and_structure y (env_of s.value) O.no_structure) [] []))
  structure-bound opened vs ts ss rs (O.maps cs ct cv) y n s k f m = record {
    values_are = m.values_are;
    types_are = m.types_are;
    structures_are = now-bound (λ u. env_of u.value) (λ E. (out-Env E).structures.entries) structures_below opened ss rs (λ x. O.find_structure x cs) (λ x. O.find_structure x (O.put_structure y (env_of s.value) cs)) y n s k f (λ x. find-put x y (env_of s.value) cs) m.structures_are;
    values_stand = m.values_stand;
    types_stand = m.types_stand;
    structures_stand = still-stands (λ u. env_of u.value) (λ E. (out-Env E).structures.entries) structures_below (length opened) ss rs y n s k f m.structures_stand;
  }

  pub structure-opened : (opened : List Env) (vs : Id → Option (ℕ × Value)) (ts : Id → Option (ℕ × TypeStr)) (ss : Id → Option (ℕ × Rc Env Global)) (C : O.Env Name) (E : Env)
      → IsOrdered E → AreMeant b opened vs ts ss C → AreMeant b (opened ++ E ∷ []) vs ts ss (O.extend C (env_of E))
  structure-opened opened vs ts ss (O.maps cs ct cv) E r m =
      subst (λ D. AreMeant b (opened ++ E ∷ []) vs ts ss (O.extend (O.maps cs ct cv) D)) (sym (env_of-out E)) record {
        values_are = λ x. now-opened value_of (λ E. (out-Env E).values.entries) values_below opened E x (vs x) (lookup x cv) (lookup x (join cv (entries_of value_of (out-Env E).values.entries))) (lookup x (entries_of value_of (out-Env E).values.entries)) (m.values_stand x)
            (stored-seen value_of x (out-Env E).values.entries) (join-found value_of (out-Env E).values.entries cv x r.values_rise) (m.values_are x);
        types_are = λ x. now-opened ty_str_of (λ E. (out-Env E).types.entries) types_below opened E x (ts x) (lookup x ct) (lookup x (join ct (entries_of ty_str_of (out-Env E).types.entries))) (lookup x (entries_of ty_str_of (out-Env E).types.entries)) (m.types_stand x)
            (stored-seen ty_str_of x (out-Env E).types.entries) (join-found ty_str_of (out-Env E).types.entries ct x r.types_rise) (m.types_are x);
        structures_are = λ x. now-opened (λ u. env_of u.value) (λ E. (out-Env E).structures.entries) structures_below opened E x (ss x) (O.find_structure x cs) (O.find_structure x (O.join_structures cs (structures_of (opened_structures E)))) (O.find_structure x (structures_of (opened_structures E))) (m.structures_stand x)
            (stored-seen (λ u. env_of u.value) x (out-Env E).structures.entries ∙ sym (find-entries (opened_structures E) x))
            (find-join x cs (structures_of (opened_structures E)) (λ m. ap (λ l. lookup x (join m l)) (listed-of (opened_structures E)) ∙ join-found (λ u. env_of u.value) (out-Env E).structures.entries m x r.structures_rise ∙ ap (λ l. or_else (lookup x l) (lookup x m)) (sym (listed-of (opened_structures E)))))
            (m.structures_are x);
        values_stand = grown opened E vs m.values_stand;
        types_stand = grown opened E ts m.types_stand;
        structures_stand = grown opened E ss m.structures_stand;
      }

-- Tables that were counted or left

pub count-opened : (s : Scopes) (n : ℕ) → n ≡ vec_len s.opened → n ≡ length (opened_in s)
count-opened s n h = let l = s.opened.ok.0 in let m = length-map s.opened.items (λ e. e.value) in omega (arith, h, l, m)

pub all-bound : {X : Type 0} (t : Table X) (n : ℕ) → n ≡ vec_len t.log → (x : Id) → bound_at n t x ≡ bound t x
all-bound t n h x = let l = t.log.ok.0 in log-ends x n t.log.items (bound t x) (omega (arith, h, l))

pub left-bound : {X : Type 0} (t u : Table X) (first : ℕ) → first ≤ vec_len t.log → (first ≤ vec_len t.log → vec_len u.log ≡ first)
    → ((least : ℕ) → least ≤ first → least ≤ vec_len t.log → (x : Id) → bound_at least u x ≡ bound_at least t x) → (x : Id) → bound u x ≡ bound_at first t x
left-bound t u first h count before x = let n = count h in sym (all-bound u first (omega (arith, n)) x) ∙ before first (omega (arith, h)) h x

pub on-ok : {A B X E : Type 0} (r : Result X E) → OnOk r A → (A → B) → OnOk r B
on-ok (Ok x) a f = f a
on-ok (Err e) a f = tt
