-- Lists of type expressions, read one after the other, and what is asked for there.
use Rattle.std.proofs.Common.{◌≡◌, List, [], ◌∷◌, ◌++◌, refl, ap, sym, ◌∙◌, append_assoc}
use Rattle.std.proofs.lemmas.List.{append-nil}
use Rattle.sml_lex.specs.declared.fault.Place.{Place}
use Rattle.sml_lex.specs.Faults.{Fault}
use Rattle.sml_tree.specs.Trees.{Id}
use Rattle.sml_tree.specs.Names as N
use Rattle.sml_tree.specs.Types as T
use Rattle.sml_tree.specs.TypeViews.{tys_of, ty_fields_of}
use Rattle.sml_objects.specs.Initial.{Name}
use Rattle.sml_objects.specs.Maps.{Map}
use Rattle.sml_objects.specs.Objects as O
use Rattle.sml_objects.specs.Objects.{types_of}
use Rattle.sml_rules.specs.Answers.{Answer, accepted, refused}
use Rattle.sml_core_rules.specs.Answers.{give, ◌>>=◌}
use Rattle.sml_core_rules.specs.Objects.{Env}
use Rattle.sml_core_rules.specs.Types.{Fields, put_field, read_ty, read_tys, read_fields}
use Rattle.sml_types.specs.Sides.{answer_map, asked, asked_in_all, asked_in_fields, then_asked}

pub bind-give : {X Y : Type 0} (f : X → Y) (a : Answer Place X) → (a >>= (λ x. give (f x))) ≡ answer_map f a
unfolding ◌>>=◌
bind-give f (refused g) = refl
bind-give f (accepted x) = refl

bind-same : {X : Type 0} (a : Answer Place X) → a ≡ (a >>= (λ x. give x))
unfolding ◌>>=◌
bind-same (refused g) = refl
bind-same (accepted x) = refl

-- one list of types after the other
abbrev joined : O.MlTypes Name → O.MlTypes Name → O.MlTypes Name
joined O.no_type rs = rs
joined (O.and_type s ss) rs = O.and_type s (joined ss rs)

joined-list : (ts : List (O.MlType Name)) (t : O.MlType Name) → joined (types_of ts) (O.and_type t O.no_type) ≡ types_of (ts ++ t ∷ [])
joined-list [] t = refl
joined-list (s ∷ ts) t = ap (O.and_type s) (joined-list ts t)

read-both : (a : Answer Place (O.MlType Name)) (b c : Answer Place (O.MlTypes Name))
    → (a >>= (λ s. (b >>= (λ ss. c >>= (λ rs. give (joined ss rs)))) >>= (λ ss. give (O.and_type s ss))))
    ≡ ((a >>= (λ s. b >>= (λ ss. give (O.and_type s ss)))) >>= (λ ss. c >>= (λ rs. give (joined ss rs))))
unfolding ◌>>=◌
read-both (refused f) b c = refl
read-both (accepted s) (refused f) c = refl
read-both (accepted s) (accepted ss) (refused f) = refl
read-both (accepted s) (accepted ss) (accepted rs) = refl

asked-both : (x y z : List Id) (a : Answer Place (O.MlType Name)) (b : Answer Place (O.MlTypes Name))
    → x ++ then_asked a (y ++ then_asked b z) ≡ (x ++ then_asked a y) ++ then_asked (a >>= (λ s. b >>= (λ ss. give (O.and_type s ss)))) z
unfolding ◌>>=◌
asked-both x y z (refused f) b = sym (append-nil (x ++ []))
asked-both x y z (accepted s) (refused f) = ap (λ w. x ++ w) (append-nil y) ∙ sym (append-nil (x ++ y))
asked-both x y z (accepted s) (accepted ss) = sym (append_assoc x y z)

module _ (C : Env Name) (vs : Map (O.MlType Name)) where
  list-after : (us ws : List (T.Ty Place))
      → read_tys C vs (tys_of (us ++ ws)) ≡ (read_tys C vs (tys_of us) >>= (λ ss. read_tys C vs (tys_of ws) >>= (λ rs. give (joined ss rs))))
  unfolding read_ty read_tys ◌>>=◌
  list-after [] ws = bind-same (read_tys C vs (tys_of ws))
  list-after (w ∷ us) ws =
      ap (λ b. read_ty C vs w >>= (λ s. b >>= (λ ss. give (O.and_type s ss)))) (list-after us ws)
      ∙ read-both (read_ty C vs w) (read_tys C vs (tys_of us)) (read_tys C vs (tys_of ws))

  asked-after : (us ws : List (T.Ty Place))
      → asked_in_all C vs (tys_of (us ++ ws)) ≡ asked_in_all C vs (tys_of us) ++ then_asked (read_tys C vs (tys_of us)) (asked_in_all C vs (tys_of ws))
  unfolding asked asked_in_all read_ty read_tys
  asked-after [] ws = refl
  asked-after (w ∷ us) ws =
      ap (λ xs. asked C vs w ++ then_asked (read_ty C vs w) xs) (asked-after us ws)
      ∙ asked-both (asked C vs w) (asked_in_all C vs (tys_of us)) (asked_in_all C vs (tys_of ws)) (read_ty C vs w) (read_tys C vs (tys_of us))

  one : (u : T.Ty Place) (ws : List (T.Ty Place)) (f : Fault Place) → read_ty C vs u ≡ refused f → read_tys C vs (tys_of (u ∷ ws)) ≡ refused f
  unfolding read_ty read_tys ◌>>=◌
  one u ws f r = ap (λ a. a >>= (λ s. read_tys C vs (tys_of ws) >>= (λ ss. give (O.and_type s ss)))) r

  single : (u : T.Ty Place) (t : O.MlType Name) → read_ty C vs u ≡ accepted t → read_tys C vs (tys_of (u ∷ [])) ≡ accepted (O.and_type t O.no_type)
  unfolding read_ty read_tys ◌>>=◌
  single u t r = ap (λ a. a >>= (λ s. read_tys C vs T.no_ty >>= (λ ss. give (O.and_type s ss)))) r

  -- one type more
  pub list-next : (us : List (T.Ty Place)) (u : T.Ty Place) (ts : List (O.MlType Name)) (t : O.MlType Name) → read_tys C vs (tys_of us) ≡ accepted (types_of ts)
      → read_ty C vs u ≡ accepted t → read_tys C vs (tys_of (us ++ u ∷ [])) ≡ accepted (types_of (ts ++ t ∷ []))
  unfolding ◌>>=◌
  list-next us u ts t e r =
      list-after us (u ∷ [])
      ∙ (λ i. e i >>= (λ ss. single u t r i >>= (λ rs. give (joined ss rs))))
      ∙ ap accepted (joined-list ts t)

  -- the first that is refused
  pub list-stop : (us ws : List (T.Ty Place)) (u : T.Ty Place) (ss : O.MlTypes Name) (f : Fault Place) → read_tys C vs (tys_of us) ≡ accepted ss
      → read_ty C vs u ≡ refused f → read_tys C vs (tys_of (us ++ u ∷ ws)) ≡ refused f
  unfolding ◌>>=◌
  list-stop us ws u ss f e r = list-after us (u ∷ ws) ∙ (λ i. e i >>= (λ ss. one u ws f r i >>= (λ rs. give (joined ss rs))))

  asked-one : (u : T.Ty Place) (ws : List (T.Ty Place)) (f : Fault Place) → read_ty C vs u ≡ refused f → asked_in_all C vs (tys_of (u ∷ ws)) ≡ asked C vs u
  unfolding asked_in_all
  asked-one u ws f r = ap (λ a. asked C vs u ++ then_asked a (asked_in_all C vs (tys_of ws))) r ∙ append-nil (asked C vs u)

  asked-single : (u : T.Ty Place) → asked_in_all C vs (tys_of (u ∷ [])) ≡ asked C vs u
  unfolding asked_in_all
  asked-single u = go (read_ty C vs u)
    where
      go : (a : Answer Place (O.MlType Name)) → asked C vs u ++ then_asked a [] ≡ asked C vs u
      go (refused f) = append-nil (asked C vs u)
      go (accepted t) = append-nil (asked C vs u)

  pub asked-next : (us : List (T.Ty Place)) (u : T.Ty Place) (ss : O.MlTypes Name) → read_tys C vs (tys_of us) ≡ accepted ss
      → asked_in_all C vs (tys_of (us ++ u ∷ [])) ≡ asked_in_all C vs (tys_of us) ++ asked C vs u
  asked-next us u ss e =
      asked-after us (u ∷ []) ∙ (λ i. asked_in_all C vs (tys_of us) ++ then_asked (e i) (asked-single u i))

  pub asked-stop : (us ws : List (T.Ty Place)) (u : T.Ty Place) (ss : O.MlTypes Name) (f : Fault Place) → read_tys C vs (tys_of us) ≡ accepted ss
      → read_ty C vs u ≡ refused f → asked_in_all C vs (tys_of (us ++ u ∷ ws)) ≡ asked_in_all C vs (tys_of us) ++ asked C vs u
  asked-stop us ws u ss f e r =
      asked-after us (u ∷ ws) ∙ (λ i. asked_in_all C vs (tys_of us) ++ then_asked (e i) (asked-one u ws f r i))

  -- fields
  fields-after : (fs : Fields (O.MlType Name)) (us ws : List (T.TyField Place))
      → read_fields C vs fs (ty_fields_of (us ++ ws)) ≡ (read_fields C vs fs (ty_fields_of us) >>= (λ gs. read_fields C vs gs (ty_fields_of ws)))
  unfolding read_ty read_fields ◌>>=◌
  fields-after fs [] ws = refl
  fields-after fs (T.ty_field l u ∷ us) ws = go (read_ty C vs u) (λ t. fields-after (put_field l.id t fs) us ws)
    where
      go : (a : Answer Place (O.MlType Name)) → ((t : O.MlType Name) → read_fields C vs (put_field l.id t fs) (ty_fields_of (us ++ ws))
          ≡ (read_fields C vs (put_field l.id t fs) (ty_fields_of us) >>= (λ gs. read_fields C vs gs (ty_fields_of ws)))) → (a >>= (λ t. read_fields C vs (put_field l.id t fs) (ty_fields_of (us ++ ws))))
          ≡ ((a >>= (λ t. read_fields C vs (put_field l.id t fs) (ty_fields_of us))) >>= (λ gs. read_fields C vs gs (ty_fields_of ws)))
      go (refused f) h = refl
      go (accepted t) h = h t

  asked-fields-after : (fs : Fields (O.MlType Name)) (us ws : List (T.TyField Place))
      → asked_in_fields C vs (ty_fields_of (us ++ ws)) ≡ asked_in_fields C vs (ty_fields_of us) ++ then_asked (read_fields C vs fs (ty_fields_of us)) (asked_in_fields C vs (ty_fields_of ws))
  unfolding asked asked_in_fields read_ty read_fields ◌>>=◌
  asked-fields-after fs [] ws = refl
  asked-fields-after fs (T.ty_field l u ∷ us) ws = go (read_ty C vs u) (λ t. asked-fields-after (put_field l.id t fs) us ws)
    where
      go : (a : Answer Place (O.MlType Name)) → ((t : O.MlType Name) → asked_in_fields C vs (ty_fields_of (us ++ ws))
          ≡ asked_in_fields C vs (ty_fields_of us) ++ then_asked (read_fields C vs (put_field l.id t fs) (ty_fields_of us)) (asked_in_fields C vs (ty_fields_of ws))) → asked C vs u ++ then_asked a (asked_in_fields C vs (ty_fields_of (us ++ ws)))
          ≡ (asked C vs u ++ then_asked a (asked_in_fields C vs (ty_fields_of us))) ++ then_asked (a >>= (λ t. read_fields C vs (put_field l.id t fs) (ty_fields_of us))) (asked_in_fields C vs (ty_fields_of ws))
      go (refused f) h = sym (append-nil (asked C vs u ++ []))
      go (accepted t) h =
          ap (λ xs. asked C vs u ++ xs) (h t)
          ∙ sym (append_assoc (asked C vs u) (asked_in_fields C vs (ty_fields_of us)) (then_asked (read_fields C vs (put_field l.id t fs) (ty_fields_of us)) (asked_in_fields C vs (ty_fields_of ws))))

  one-field : (gs : Fields (O.MlType Name)) (l : N.Name Place) (u : T.Ty Place) (ws : List (T.TyField Place)) (f : Fault Place) → read_ty C vs u ≡ refused f
      → read_fields C vs gs (ty_fields_of (T.ty_field l u ∷ ws)) ≡ refused f
  unfolding read_fields ◌>>=◌
  one-field gs l u ws f r = ap (λ a. a >>= (λ t. read_fields C vs (put_field l.id t gs) (ty_fields_of ws))) r

  single-field : (gs : Fields (O.MlType Name)) (l : N.Name Place) (u : T.Ty Place) (t : O.MlType Name) → read_ty C vs u ≡ accepted t
      → read_fields C vs gs (ty_fields_of (T.ty_field l u ∷ [])) ≡ accepted (put_field l.id t gs)
  unfolding read_fields ◌>>=◌
  single-field gs l u t r = ap (λ a. a >>= (λ t. read_fields C vs (put_field l.id t gs) T.no_ty_field)) r

  pub fields-next : (us : List (T.TyField Place)) (l : N.Name Place) (u : T.Ty Place) (gs : Fields (O.MlType Name)) (t : O.MlType Name)
      → read_fields C vs [] (ty_fields_of us) ≡ accepted gs → read_ty C vs u ≡ accepted t
      → read_fields C vs [] (ty_fields_of (us ++ T.ty_field l u ∷ [])) ≡ accepted (put_field l.id t gs)
  unfolding ◌>>=◌
  fields-next us l u gs t e r =
      fields-after [] us (T.ty_field l u ∷ []) ∙ ap (λ a. a >>= (λ gs. read_fields C vs gs (ty_fields_of (T.ty_field l u ∷ [])))) e ∙ single-field gs l u t r

  pub fields-stop : (us ws : List (T.TyField Place)) (l : N.Name Place) (u : T.Ty Place) (gs : Fields (O.MlType Name)) (f : Fault Place)
      → read_fields C vs [] (ty_fields_of us) ≡ accepted gs → read_ty C vs u ≡ refused f
      → read_fields C vs [] (ty_fields_of (us ++ T.ty_field l u ∷ ws)) ≡ refused f
  unfolding ◌>>=◌
  fields-stop us ws l u gs f e r =
      fields-after [] us (T.ty_field l u ∷ ws) ∙ ap (λ a. a >>= (λ gs. read_fields C vs gs (ty_fields_of (T.ty_field l u ∷ ws)))) e ∙ one-field gs l u ws f r

  asked-one-field : (l : N.Name Place) (u : T.Ty Place) (ws : List (T.TyField Place)) (f : Fault Place) → read_ty C vs u ≡ refused f
      → asked_in_fields C vs (ty_fields_of (T.ty_field l u ∷ ws)) ≡ asked C vs u
  unfolding asked_in_fields
  asked-one-field l u ws f r = ap (λ a. asked C vs u ++ then_asked a (asked_in_fields C vs (ty_fields_of ws))) r ∙ append-nil (asked C vs u)

  asked-single-field : (l : N.Name Place) (u : T.Ty Place) → asked_in_fields C vs (ty_fields_of (T.ty_field l u ∷ [])) ≡ asked C vs u
  unfolding asked_in_fields
  asked-single-field l u = go (read_ty C vs u)
    where
      go : (a : Answer Place (O.MlType Name)) → asked C vs u ++ then_asked a [] ≡ asked C vs u
      go (refused f) = append-nil (asked C vs u)
      go (accepted t) = append-nil (asked C vs u)

  pub asked-fields-next : (us : List (T.TyField Place)) (l : N.Name Place) (u : T.Ty Place) (gs : Fields (O.MlType Name)) → read_fields C vs [] (ty_fields_of us) ≡ accepted gs
      → asked_in_fields C vs (ty_fields_of (us ++ T.ty_field l u ∷ [])) ≡ asked_in_fields C vs (ty_fields_of us) ++ asked C vs u
  asked-fields-next us l u gs e =
      asked-fields-after [] us (T.ty_field l u ∷ []) ∙ (λ i. asked_in_fields C vs (ty_fields_of us) ++ then_asked (e i) (asked-single-field l u i))

  pub asked-fields-stop : (us ws : List (T.TyField Place)) (l : N.Name Place) (u : T.Ty Place) (gs : Fields (O.MlType Name)) (f : Fault Place)
      → read_fields C vs [] (ty_fields_of us) ≡ accepted gs → read_ty C vs u ≡ refused f
      → asked_in_fields C vs (ty_fields_of (us ++ T.ty_field l u ∷ ws)) ≡ asked_in_fields C vs (ty_fields_of us) ++ asked C vs u
  asked-fields-stop us ws l u gs f e r =
      asked-fields-after [] us (T.ty_field l u ∷ ws) ∙ (λ i. asked_in_fields C vs (ty_fields_of us) ++ then_asked (e i) (asked-one-field l u ws f r i))
