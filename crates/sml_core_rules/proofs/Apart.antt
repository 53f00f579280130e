-- Patterns bind no variable twice.
use Rattle.std.specs.Prelude.{◌≡◌, ℕ, Bool, true, false, List, [], ◌∷◌, ◌++◌, Option, Some, None}
use Rattle.std.specs.declared.cmp.Ordering.{Ordering}
use Rattle.std.specs.declared.cmp.Ordering.TheVariants.{Less, Equal, Greater}
use Rattle.std.specs.Ordering.{ordering_reverse}
use Rattle.std.proofs.lemmas.Cmp.{nat_list_cmp_total}
use mathlib.Core.Path.{refl, sym, ap, subst, ◌∙◌}
use mathlib.Core.Logic.{inl, inr}
use Rattle.sml_tree.specs.Trees.{Id}
use Rattle.sml_tree.specs.Names.{Name, LongName}
use Rattle.sml_tree.specs.Types.{Ty}
use Rattle.sml_tree.specs.Patterns.{Pat, Pats, PatFields, wildcard, pat_constant, pat_name, pat_row, pat_tuple, pat_bracket, pat_apply, pat_typed, pat_as, no_pat, and_pat, pat_field, no_pat_field, and_pat_field}
use Rattle.sml_objects.specs.Maps.{Map, lookup, by_order, order_of}
use Rattle.sml_objects.specs.Objects.{MlType, MlTypes, free, and_type, tuple_of}
use Rattle.sml_rules.specs.Answers.{accepted}
use Rattle.sml_rules.proofs.Sound.{accepted_same, not_refused}
use Rattle.sml_core_rules.specs.Objects.{Env}
use Rattle.sml_core_rules.specs.Lookups.{value_at}
use Rattle.sml_core_rules.specs.States.{Scope, State}
use Rattle.sml_core_rules.specs.Scripts.{give, ◌>>=◌, IsAnswer}
use Rattle.sml_core_rules.specs.Types.{Fields, put_field}
use Rattle.sml_core_rules.specs.Values.{applied, require_equal, find_value}
use Rattle.sml_core_rules.specs.Patterns.{Bindings, Typed, typed, is_empty, is_variable_alone, read_constraint, bind_variable, constructor_instance, found_constructor, read_row, bind_layered, read_layered, read_pat, read_pats, read_pat_fields}
use Rattle.sml_core_rules.specs.Rules.{AreApart}
use Rattle.sml_core_rules.specs.Assigned.{assign_bindings}
use Rattle.sml_core_rules.proofs.Accepted.{given, bind-accepted, taken}
use Rattle.sml_core_rules.proofs.Assigned.{there, lookup-there}

-- lists of bindings

reversed : (o : Ordering) → ordering_reverse o ≡ Equal → o ≡ Equal
reversed Less h = cc
reversed Equal h = refl
reversed Greater h = cc

other-side : (x y : Id) → order_of x y ≡ Equal → order_of y x ≡ Equal
other-side x y h = reversed (order_of y x) (sym (nat_list_cmp_total.antisymm x y) ∙ h)

differs : {X : Type 0} (o : Ordering) (a : X) (b : Option X) → by_order o b (Some a) b ≡ None → ¬ (o ≡ Equal) × (b ≡ None)
differs Less a b h = ((λ e. let f : Less ≡ Equal = e in absurd cc), h)
differs Equal a b h = let f : Some a ≡ None = h in absurd cc
differs Greater a b h = ((λ e. let f : Greater ≡ Equal = e in absurd cc), h)

nothing : {X : Type 0} (o : Ordering) (a : X) (b : Option X) → ¬ (o ≡ Equal) → b ≡ None → by_order o b (Some a) b ≡ None
nothing Less a b n h = h
nothing Equal a b n h = absurd (n refl)
nothing Greater a b n h = h

lookup-after : {X : Type 0} (x y : Id) (t : X) (bs : List (Id × X)) → lookup x bs ≡ None → ¬ (order_of x y ≡ Equal) → lookup x (bs ++ (y, t) ∷ []) ≡ None
lookup-after x y t [] h n = nothing (order_of x y) t None n refl
lookup-after x y t (b ∷ bs) h n =
    let d = differs (order_of x b.0) b.1 (lookup x bs) h in nothing (order_of x b.0) b.1 (lookup x (bs ++ (y, t) ∷ [])) d.0 (lookup-after x y t bs d.1 n)

apart-after : {N : Type 0} (x : Id) (t : MlType N) (bs : Bindings N) → AreApart bs → lookup x bs ≡ None → AreApart (bs ++ (x, t) ∷ [])
apart-after x t [] a h = (refl, tt)
apart-after x t (b ∷ bs) a h =
    let d = differs (order_of x b.0) b.1 (lookup x bs) h in (lookup-after b.0 x t bs a.0 (λ e. d.0 (other-side b.0 x e)), apart-after x t bs a.1 d.1)

-- types for unknowns change no variable
pub apart-assigned : {N : Type 0} (σ : ℕ → MlType N) (bs : Bindings N) → AreApart bs → AreApart (assign_bindings σ bs)
apart-assigned σ [] a = tt
apart-assigned σ (b ∷ bs) a = (lookup-there _ b.0 bs ∙ ap (there _) a.0, apart-assigned σ bs a.1)

module _ {P N : Type 0} (scope : Scope N) (is_rec : Bool) (C : Env N) (vs : Map (MlType N)) where
  variable-apart : (p : P) (x : Id) (bs : Bindings N) (s : State P N) (r : Typed N (MlType N) × State P N) → IsAnswer scope (bind_variable scope p x bs) s (accepted r) → AreApart bs
      → AreApart r.0.bound
  unfolding IsAnswer ◌>>=◌
  variable-apart p x bs s r (inl (c, h)) a = subst (λ t. AreApart t.bound) (sym (ap (λ q. q.0) (accepted_same h))) (apart-after x (free s.made) bs a c)
  variable-apart p x bs s r (inr h) a = absurd (not_refused h.1)

  bound-apart : (p : P) (x : Id) (ty : Option (Ty P)) (bs : Bindings N) (s : State P N) (r : Typed N (MlType N) × State P N)
      → IsAnswer scope (bind_layered scope is_rec C vs p x ty bs) s (accepted r) → AreApart bs → AreApart r.0.bound
  unfolding IsAnswer ◌>>=◌
  bound-apart p x None bs s r h a = variable-apart p x bs s r h a
  bound-apart p x (Some ty) bs s r (inl (c, h)) a =
      let b = bind-accepted scope (read_constraint C vs ty) _ s r h in
      subst (λ t. AreApart t.bound) (sym (given scope (typed b.0.0 (bs ++ (x, b.0.0) ∷ [])) b.0.1 r b.2)) (apart-after x b.0.0 bs a c)
  bound-apart p x (Some ty) bs s r (inr h) a = absurd (not_refused h.1)

  layered-apart : (x : Name P) (ty : Option (Ty P)) (bs : Bindings N) (s : State P N) (r : Typed N (MlType N) × State P N)
      → IsAnswer scope (read_layered scope is_rec C vs x ty bs) s (accepted r) → AreApart bs → AreApart r.0.bound
  unfolding IsAnswer ◌>>=◌
  layered-apart x ty bs s r (inl (c, h)) a = bound-apart x.place x.id ty bs s r h a
  layered-apart x ty bs s r (inr h) a = absurd (not_refused h.1)

  constant-apart : (p : P) (x : LongName P) (bs : Bindings N) (s : State P N) (r : Typed N (MlType N) × State P N)
      → IsAnswer scope (find_value C x >>= λ v. constructor_instance scope p x.place false v >>= λ t. give (typed t bs)) s (accepted r) → AreApart bs → AreApart r.0.bound
  constant-apart p x bs s r h a =
      let b = bind-accepted scope (find_value C x) _ s r h in
      let c = bind-accepted scope (constructor_instance scope p x.place false b.0.0) _ b.0.1 r b.2 in subst (λ t. AreApart t.bound) (sym (given scope (typed c.0.0 bs) c.0.1 r c.2)) a

  mutual
    unfolding read_pat read_pats read_pat_fields IsAnswer ◌>>=◌

    pub pat-apart : (q : Pat P) (bs : Bindings N) (s : State P N) (r : Typed N (MlType N) × State P N) → IsAnswer scope (read_pat scope is_rec C vs bs q) s (accepted r) → AreApart bs
        → AreApart r.0.bound
    pat-apart (wildcard p) bs s r h a = subst (λ t. AreApart t.bound) (sym (ap (λ q. q.0) (accepted_same h))) a
    pat-apart (pat_constant p c) bs s r h a = subst (λ t. AreApart t.bound) (sym (ap (λ q. q.0) (accepted_same h))) a
    pat-apart (pat_name p x) bs s r h a = elim (taken scope (is_empty x.id.path) (is_variable_alone is_rec C x.id.last) _ _ s r h) [
      | inl k ↦ variable-apart x.place x.id.last bs s r k.1 a
      | inr k ↦ constant-apart p x bs s r k.1 a
    ]
    pat-apart (pat_row p fs b) bs s r h a =
        let c = bind-accepted scope (read_pat_fields scope is_rec C vs bs [] fs) _ s r h in
        let d = bind-accepted scope (read_row scope is_rec C vs p b c.0.0.type) _ c.0.1 r c.2 in
        subst (λ t. AreApart t.bound) (sym (given scope (typed d.0.0 c.0.0.bound) d.0.1 r d.2)) (fields-apart fs bs [] s c.0 c.1 a)
    pat-apart (pat_tuple p qs) bs s r h a =
        let c = bind-accepted scope (read_pats scope is_rec C vs bs qs) _ s r h in
        subst (λ t. AreApart t.bound) (sym (given scope (typed (tuple_of c.0.0.type) c.0.0.bound) c.0.1 r c.2)) (all-apart qs bs s c.0 c.1 a)
    pat-apart (pat_bracket p q) bs s r h a = pat-apart q bs s r h a
    pat-apart (pat_apply p x q) bs s r h a =
        let b = bind-accepted scope (found_constructor scope x (value_at C x.id)) _ s r h in
        let c = bind-accepted scope (constructor_instance scope p x.place true b.0.0) _ b.0.1 r b.2 in
        let d = bind-accepted scope (read_pat scope is_rec C vs bs q) _ c.0.1 r c.2 in
        let e = bind-accepted scope (applied p c.0.0 d.0.0.type) (λ u. give (typed u d.0.0.bound)) d.0.1 r d.2 in
        subst (λ t. AreApart t.bound) (sym (given scope (typed e.0.0 d.0.0.bound) e.0.1 r e.2)) (pat-apart q bs c.0.1 d.0 d.1 a)
    pat-apart (pat_typed p q ty) bs s r h a =
        let c = bind-accepted scope (read_pat scope is_rec C vs bs q) _ s r h in
        let d = bind-accepted scope (read_constraint C vs ty) _ c.0.1 r c.2 in
        let e = bind-accepted scope (require_equal p c.0.0.type d.0.0) (λ _. give (typed d.0.0 c.0.0.bound)) d.0.1 r d.2 in
        subst (λ t. AreApart t.bound) (sym (given scope (typed d.0.0 c.0.0.bound) e.0.1 r e.2)) (pat-apart q bs s c.0 c.1 a)
    pat-apart (pat_as p x ty q) bs s r h a =
        let c = bind-accepted scope (read_layered scope is_rec C vs x ty bs) _ s r h in
        let d = bind-accepted scope (read_pat scope is_rec C vs c.0.0.bound q) _ c.0.1 r c.2 in
        let e = bind-accepted scope (require_equal p c.0.0.type d.0.0.type) (λ _. give (typed c.0.0.type d.0.0.bound)) d.0.1 r d.2 in
        subst (λ t. AreApart t.bound) (sym (given scope (typed c.0.0.type d.0.0.bound) e.0.1 r e.2)) (pat-apart q c.0.0.bound c.0.1 d.0 d.1 (layered-apart x ty bs s c.0 c.1 a))

    all-apart : (qs : Pats P) (bs : Bindings N) (s : State P N) (r : Typed N (MlTypes N) × State P N) → IsAnswer scope (read_pats scope is_rec C vs bs qs) s (accepted r) → AreApart bs
        → AreApart r.0.bound
    all-apart no_pat bs s r h a = subst (λ t. AreApart t.bound) (sym (ap (λ q. q.0) (accepted_same h))) a
    all-apart (and_pat q qs) bs s r h a =
        let c = bind-accepted scope (read_pat scope is_rec C vs bs q) _ s r h in
        let d = bind-accepted scope (read_pats scope is_rec C vs c.0.0.bound qs) _ c.0.1 r c.2 in
        subst (λ t. AreApart t.bound) (sym (given scope (typed (and_type c.0.0.type d.0.0.type) d.0.0.bound) d.0.1 r d.2))
        (all-apart qs c.0.0.bound c.0.1 d.0 d.1 (pat-apart q bs s c.0 c.1 a))

    fields-apart : (qs : PatFields P) (bs : Bindings N) (fs : Fields (MlType N)) (s : State P N) (r : Typed N (Fields (MlType N)) × State P N)
        → IsAnswer scope (read_pat_fields scope is_rec C vs bs fs qs) s (accepted r) → AreApart bs → AreApart r.0.bound
    fields-apart no_pat_field bs fs s r h a = subst (λ t. AreApart t.bound) (sym (ap (λ q. q.0) (accepted_same h))) a
    fields-apart (and_pat_field (pat_field x q) qs) bs fs s r h a =
        let c = bind-accepted scope (read_pat scope is_rec C vs bs q) _ s r h in
        fields-apart qs c.0.0.bound (put_field x.id c.0.0.type fs) c.0.1 r c.2 (pat-apart q bs s c.0 c.1 a)
