-- Patterns that were read bind their variables after those before them.
use Rattle.std.proofs.Common.{◌≡◌, Bool, false, true, [], ◌∷◌, ◌++◌, Option, Some, None, ap, subst, sym, ◌∙◌}
use Rattle.std.proofs.lemmas.List.{append-nil, append_assoc}
use mathlib.Core.Logic.{inl, inr}
use Rattle.sml_lex.specs.declared.fault.Place.{Place}
use Rattle.sml_tree.specs.Trees.{Id}
use Rattle.sml_tree.specs.Names as T
use Rattle.sml_tree.specs.Names.{LongName}
use Rattle.sml_tree.specs.Types.{Ty}
use Rattle.sml_tree.specs.Patterns.{Pat, Pats, PatFields, wildcard, pat_constant, pat_name, pat_row, pat_tuple, pat_bracket, pat_apply, pat_typed, pat_as, no_pat, and_pat, pat_field, no_pat_field, and_pat_field}
use Rattle.sml_objects.specs.Initial.{Name}
use Rattle.sml_objects.specs.Maps.{Map}
use Rattle.sml_objects.specs.Objects.{MlType, MlTypes, and_type, free, tuple_of}
use Rattle.sml_rules.specs.Answers.{accepted}
use Rattle.sml_rules.proofs.Sound.{accepted_same, not_refused}
use Rattle.sml_core_rules.specs.Objects.{Env}
use Rattle.sml_core_rules.specs.Lookups.{value_at}
use Rattle.sml_core_rules.specs.Scripts.{IsAnswer, give, ◌>>=◌}
use Rattle.sml_core_rules.specs.States.{Scope, State}
use Rattle.sml_core_rules.specs.Types.{Fields, put_field}
use Rattle.sml_core_rules.specs.Values.{applied, find_value, require_equal}
use Rattle.sml_core_rules.specs.Patterns.{Bindings, Typed, bind_layered, bind_variable, constructor_instance, found_constructor, is_empty, is_variable_alone, read_constraint, read_layered, read_pat, read_pats, read_pat_fields, read_row, typed}
use Rattle.sml_core_rules.proofs.Accepted.{bind-accepted, given, taken}

-- the second has the first at its front
abbrev pub IsLonger : Bindings Name → Bindings Name → Type 0
IsLonger bs cs = (new : Bindings Name) × (cs ≡ bs ++ new)

same-length : (bs cs : Bindings Name) → cs ≡ bs → IsLonger bs cs
same-length bs cs e = ([], e ∙ sym (append-nil bs))

longer-still : (bs cs ds : Bindings Name) → IsLonger bs cs → IsLonger cs ds → IsLonger bs ds
longer-still bs cs ds k l = (k.0 ++ l.0, l.1 ∙ ap (λ xs. xs ++ l.0) k.1 ∙ append_assoc bs k.0 l.0)

module _ (scope : Scope Name) (is_rec : Bool) (C : Env Name) (vs : Map (MlType Name)) where
  variable-longer : (p : Place) (x : Id) (bs : Bindings Name) (s : State Place Name) (r : Typed Name (MlType Name) × State Place Name) → IsAnswer scope (bind_variable scope p x bs) s (accepted r)
      → IsLonger bs r.0.bound
  unfolding IsAnswer ◌>>=◌
  variable-longer p x bs s r (inl (c, h)) = ((x, free s.made) ∷ [], ap (λ q. q.0.bound) (accepted_same h))
  variable-longer p x bs s r (inr h) = absurd (not_refused h.1)

  bound-longer : (p : Place) (x : Id) (ty : Option (Ty Place)) (bs : Bindings Name) (s : State Place Name) (r : Typed Name (MlType Name) × State Place Name)
      → IsAnswer scope (bind_layered scope is_rec C vs p x ty bs) s (accepted r) → IsLonger bs r.0.bound
  unfolding IsAnswer ◌>>=◌
  bound-longer p x None bs s r h = variable-longer p x bs s r h
  bound-longer p x (Some ty) bs s r (inl (c, h)) =
      let b = bind-accepted scope (read_constraint C vs ty) _ s r h in
      ((x, b.0.0) ∷ [], ap (λ t. t.bound) (given scope (typed b.0.0 (bs ++ (x, b.0.0) ∷ [])) b.0.1 r b.2))
  bound-longer p x (Some ty) bs s r (inr h) = absurd (not_refused h.1)

  layered-longer : (x : T.Name Place) (ty : Option (Ty Place)) (bs : Bindings Name) (s : State Place Name) (r : Typed Name (MlType Name) × State Place Name)
      → IsAnswer scope (read_layered scope is_rec C vs x ty bs) s (accepted r) → IsLonger bs r.0.bound
  unfolding IsAnswer ◌>>=◌
  layered-longer x ty bs s r (inl (c, h)) = bound-longer x.place x.id ty bs s r h
  layered-longer x ty bs s r (inr h) = absurd (not_refused h.1)

  constant-longer : (p : Place) (x : LongName Place) (bs : Bindings Name) (s : State Place Name) (r : Typed Name (MlType Name) × State Place Name)
      → IsAnswer scope (find_value C x >>= λ v. constructor_instance scope p x.place false v >>= λ t. give (typed t bs)) s (accepted r) → IsLonger bs r.0.bound
  constant-longer p x bs s r h =
      let b = bind-accepted scope (find_value C x) _ s r h in
      let c = bind-accepted scope (constructor_instance scope p x.place false b.0.0) _ b.0.1 r b.2 in
      same-length bs r.0.bound (ap (λ t. t.bound) (given scope (typed c.0.0 bs) c.0.1 r c.2))

  mutual
    unfolding read_pat read_pats read_pat_fields IsAnswer ◌>>=◌

    pub pat-longer : (q : Pat Place) (bs : Bindings Name) (s : State Place Name) (r : Typed Name (MlType Name) × State Place Name) → IsAnswer scope (read_pat scope is_rec C vs bs q) s (accepted r)
        → IsLonger bs r.0.bound
    pat-longer (wildcard p) bs s r h = same-length bs r.0.bound (ap (λ q. q.0.bound) (accepted_same h))
    pat-longer (pat_constant p c) bs s r h = same-length bs r.0.bound (ap (λ q. q.0.bound) (accepted_same h))
    pat-longer (pat_name p x) bs s r h = elim (taken scope (is_empty x.id.path) (is_variable_alone is_rec C x.id.last) _ _ s r h) [
      | inl k ↦ variable-longer x.place x.id.last bs s r k.1
      | inr k ↦ constant-longer p x bs s r k.1
    ]
    pat-longer (pat_row p fs b) bs s r h =
        let c = bind-accepted scope (read_pat_fields scope is_rec C vs bs [] fs) _ s r h in
        let d = bind-accepted scope (read_row scope is_rec C vs p b c.0.0.type) _ c.0.1 r c.2 in
        subst (λ t. IsLonger bs t.bound) (sym (given scope (typed d.0.0 c.0.0.bound) d.0.1 r d.2)) (fields-longer fs bs [] s c.0 c.1)
    pat-longer (pat_tuple p qs) bs s r h =
        let c = bind-accepted scope (read_pats scope is_rec C vs bs qs) _ s r h in
        subst (λ t. IsLonger bs t.bound) (sym (given scope (typed (tuple_of c.0.0.type) c.0.0.bound) c.0.1 r c.2)) (all-longer qs bs s c.0 c.1)
    pat-longer (pat_bracket p q) bs s r h = pat-longer q bs s r h
    pat-longer (pat_apply p x q) bs s r h =
        let b = bind-accepted scope (found_constructor scope x (value_at C x.id)) _ s r h in
        let c = bind-accepted scope (constructor_instance scope p x.place true b.0.0) _ b.0.1 r b.2 in
        let d = bind-accepted scope (read_pat scope is_rec C vs bs q) _ c.0.1 r c.2 in
        let e = bind-accepted scope (applied p c.0.0 d.0.0.type) (λ u. give (typed u d.0.0.bound)) d.0.1 r d.2 in
        subst (λ t. IsLonger bs t.bound) (sym (given scope (typed e.0.0 d.0.0.bound) e.0.1 r e.2)) (pat-longer q bs c.0.1 d.0 d.1)
    pat-longer (pat_typed p q ty) bs s r h =
        let c = bind-accepted scope (read_pat scope is_rec C vs bs q) _ s r h in
        let d = bind-accepted scope (read_constraint C vs ty) _ c.0.1 r c.2 in
        let e = bind-accepted scope (require_equal p c.0.0.type d.0.0) (λ _. give (typed d.0.0 c.0.0.bound)) d.0.1 r d.2 in
        subst (λ t. IsLonger bs t.bound) (sym (given scope (typed d.0.0 c.0.0.bound) e.0.1 r e.2)) (pat-longer q bs s c.0 c.1)
    pat-longer (pat_as p x ty q) bs s r h =
        let c = bind-accepted scope (read_layered scope is_rec C vs x ty bs) _ s r h in
        let d = bind-accepted scope (read_pat scope is_rec C vs c.0.0.bound q) _ c.0.1 r c.2 in
        let e = bind-accepted scope (require_equal p c.0.0.type d.0.0.type) (λ _. give (typed c.0.0.type d.0.0.bound)) d.0.1 r d.2 in
        subst (λ t. IsLonger bs t.bound) (sym (given scope (typed c.0.0.type d.0.0.bound) e.0.1 r e.2))
        (longer-still bs c.0.0.bound d.0.0.bound (layered-longer x ty bs s c.0 c.1) (pat-longer q c.0.0.bound c.0.1 d.0 d.1))

    all-longer : (qs : Pats Place) (bs : Bindings Name) (s : State Place Name) (r : Typed Name (MlTypes Name) × State Place Name) → IsAnswer scope (read_pats scope is_rec C vs bs qs) s (accepted r)
        → IsLonger bs r.0.bound
    all-longer no_pat bs s r h = same-length bs r.0.bound (ap (λ q. q.0.bound) (accepted_same h))
    all-longer (and_pat q qs) bs s r h =
        let c = bind-accepted scope (read_pat scope is_rec C vs bs q) _ s r h in
        let d = bind-accepted scope (read_pats scope is_rec C vs c.0.0.bound qs) _ c.0.1 r c.2 in
        subst (λ t. IsLonger bs t.bound) (sym (given scope (typed (and_type c.0.0.type d.0.0.type) d.0.0.bound) d.0.1 r d.2))
        (longer-still bs c.0.0.bound d.0.0.bound (pat-longer q bs s c.0 c.1) (all-longer qs c.0.0.bound c.0.1 d.0 d.1))

    fields-longer : (qs : PatFields Place) (bs : Bindings Name) (fs : Fields (MlType Name)) (s : State Place Name) (r : Typed Name (Fields (MlType Name)) × State Place Name)
        → IsAnswer scope (read_pat_fields scope is_rec C vs bs fs qs) s (accepted r) → IsLonger bs r.0.bound
    fields-longer no_pat_field bs fs s r h = same-length bs r.0.bound (ap (λ q. q.0.bound) (accepted_same h))
    fields-longer (and_pat_field (pat_field x q) qs) bs fs s r h =
        let c = bind-accepted scope (read_pat scope is_rec C vs bs q) _ s r h in
        longer-still bs c.0.0.bound r.0.bound (pat-longer q bs s c.0 c.1) (fields-longer qs c.0.0.bound (put_field x.id c.0.0.type fs) c.0.1 r c.2)
