-- Top-level declarations with other places have the same answers, but for places.
use Rattle.std.specs.Prelude.{◌≡◌, List, [], ◌∷◌, ◌++◌, map, Option, Some, None}
use mathlib.Core.Path.{refl, sym, ap, subst, ◌∙◌}
use mathlib.Core.Logic.{inl, inr}
use Rattle.std.proofs.lemmas.List.{map-append}
use Rattle.sml_lex.specs.declared.fault.Code.TheVariants.{E7, Q2, Q3}
use Rattle.sml_lex.specs.Faults.{Fault}
use Rattle.sml_tree.specs.Structures.{StrDec, StrBinds, FunBind, TopDec, core_dec, structure_dec, str_local, str_bind, no_str_bind, and_str_bind, top_str, signature_dec, functor_dec}
use Rattle.sml_rules.specs.Answers.{Answer, refused, accepted, fault}
use Rattle.sml_rules.proofs.Sound.{accepted_same, not_refused}
use Rattle.sml_core_rules.specs.Objects.{Basis}
use Rattle.sml_core_rules.specs.Expressions.{at_first}
use Rattle.sml_core_rules.specs.States.{Scope, State}
use Rattle.sml_core_rules.specs.Scripts.{Script}
use Rattle.sml_module_rules.specs.Structures.{Added, nothing, add_basis, names_part, and_part, and_bound, all_bound, own_added, IsMarked, IsAlone, AreAlone, read_functor, structure_parts, str_parts, parts, IsExported, IsAnswered, IsTopReading}
use Rattle.sml_places.specs.Places.{place_str_dec, place_str_binds, place_fun_bind, place_top, forget_top}
use Rattle.sml_places.specs.Answers.{place_fault, place_judged, place_added, place_reading}
use Rattle.sml_places.specs.Statements.{AreSameAdded, PlacesDontCount}
use Rattle.sml_core_rules.proofs.Refused.{refused-same}
use Rattle.sml_places.proofs.Scripts.{place_reply, AreSame, alike-then, alike-give}
use Rattle.sml_places.proofs.Structures.{same-signatures, same-structure, same-functor-bound, same-inside}

-- answers to parts with other places

module _ {P Q N : Type 0} (f : P → Q) where
  abbrev place_part : Option (Added P N) → Option (Added Q N)
  place_part None = None
  place_part (Some A) = Some (place_added f A)

  abbrev place_mark : Answer P (Option (Added P N)) → Answer Q (Option (Added Q N))
  place_mark (refused e) = refused (place_fault f e)
  place_mark (accepted m) = accepted (place_part m)

  abbrev place_parts : Answer P (List (Option (Added P N))) → Answer Q (List (Option (Added Q N)))
  place_parts (refused e) = refused (place_fault f e)
  place_parts (accepted ms) = accepted (map place_part ms)

  mark-refused : (a : Answer P (Option (Added P N))) (e : Fault Q) → place_mark a ≡ refused e → (d : Fault P) × (a ≡ refused d) × (e ≡ place_fault f d)
  mark-refused (refused d) e h = (d, refl, refused-same (sym h))
  mark-refused (accepted m) e h = absurd (not_refused h)

  mark-accepted : (a : Answer P (Option (Added P N))) (m : Option (Added Q N)) → place_mark a ≡ accepted m → (n : Option (Added P N)) × (a ≡ accepted n) × (m ≡ place_part n)
  mark-accepted (refused d) m h = absurd (not_refused (sym h))
  mark-accepted (accepted n) m h = (n, refl, sym (accepted_same h))

  names-placed : (m : Option (Added P N)) → names_part (place_part m) ≡ names_part m
  names-placed None = refl
  names-placed (Some A) = refl

  and-placed : (m : Option (Added P N)) (ms : Answer P (List (Option (Added P N)))) → and_part (place_part m) (place_parts ms) ≡ place_parts (and_part m ms)
  and-placed m (refused e) = refl
  and-placed m (accepted ms) = refl

  both-placed : (m n : Option (Added P N)) → and_bound (place_part m) (place_part n) ≡ place_part (and_bound m n)
  both-placed None n = refl
  both-placed (Some A) None = refl
  both-placed (Some A) (Some C) = ap (λ js. Some (record { basis = add_basis A.basis C.basis; judged = js })) (sym (map-append (place_judged f) A.judged C.judged))

  all-placed : (ms : List (Option (Added P N))) → all_bound (map place_part ms) ≡ place_part (all_bound ms)
  all-placed [] = refl
  all-placed (m ∷ ms) = ap (and_bound (place_part m)) (all-placed ms) ∙ both-placed m (all_bound ms)

module _ {P Q N : Type 0} (scope : Scope N) (f : P → Q) where
  -- one part

  mark-given : (r : Answer P (Basis N × State P N)) (o : Answer P (Option (Added P N))) → IsMarked scope r o → IsMarked scope (place_reply f (λ x. x) r) (place_mark f o)
  mark-given (refused e) o m = ap (place_mark f) m
  mark-given (accepted r) o (inl (C, d, e)) = inl (C, d, ap (place_mark f) e)
  mark-given (accepted r) o (inr (d, e)) = inr (d, ap (place_mark f) e)

  mark-taken : (r : Answer P (Basis N × State P N)) (o : Answer Q (Option (Added Q N))) → IsMarked scope (place_reply f (λ x. x) r) o
      → (a : Answer P (Option (Added P N))) × IsMarked scope r a × (o ≡ place_mark f a)
  mark-taken (refused e) o m = (refused e, refl, m)
  mark-taken (accepted r) o (inl (C, d, e)) = (accepted (Some (record { basis = C; judged = r.1.judged })), inl (C, d, refl), e)
  mark-taken (accepted r) o (inr (d, e)) = (accepted None, inr (d, refl), e)

  module _ (k : Script P N (Basis N)) (j : Script Q N (Basis N)) (h : AreSame scope f k j) (ns : List N) where
    part-given : (o : Answer P (Option (Added P N))) → IsAlone scope ns k o → IsAlone scope ns j (place_mark f o)
    part-given o (r, a, m) = (place_reply f (λ x. x) r, h.given (at_first ns) r a, mark-given r o m)

    part-taken : (o : Answer Q (Option (Added Q N))) → IsAlone scope ns j o → (a : Answer P (Option (Added P N))) × IsAlone scope ns k a × (o ≡ place_mark f a)
    part-taken o (r, a, m) =
        let b = h.taken (at_first ns) r a in
        let c = mark-taken b.0 o (subst (λ r. IsMarked scope r o) b.2 m) in (c.0, (b.0, b.1, c.1), c.2)

  -- all parts

  abbrev AreAllSame : List (Script P N (Basis N)) → List (Script Q N (Basis N)) → Type 0
  AreAllSame [] [] = Unit {0}
  AreAllSame [] (j ∷ js) = ⊥
  AreAllSame (k ∷ ks) [] = ⊥
  AreAllSame (k ∷ ks) (j ∷ js) = AreSame scope f k j × AreAllSame ks js

  parts-given : (ks : List (Script P N (Basis N))) (js : List (Script Q N (Basis N))) → AreAllSame ks js → (ns : List N) (o : Answer P (List (Option (Added P N))))
      → AreAlone scope ns ks o → AreAlone scope ns js (place_parts f o)
  unfolding AreAlone
  parts-given [] [] h ns o a = ap (place_parts f) a
  parts-given [] (j ∷ js) h ns o a = absurd h
  parts-given (k ∷ ks) [] h ns o a = absurd h
  parts-given (k ∷ ks) (j ∷ js) h ns o (inl (e, a, d)) = inl (place_fault f e, part-given k j h.0 ns (refused e) a, ap (place_parts f) d)
  parts-given (k ∷ ks) (j ∷ js) h ns o (inr (m, a, ms, b, d)) =
      let rest = subst (λ ns. AreAlone scope ns js (place_parts f ms)) (ap (λ l. l ++ ns) (sym (names-placed f m))) (parts-given ks js h.1 (names_part m ++ ns) ms b) in
      inr (place_part f m, part-given k j h.0 ns (accepted m) a, place_parts f ms, rest, ap (place_parts f) d ∙ sym (and-placed f m ms))

  parts-taken : (ks : List (Script P N (Basis N))) (js : List (Script Q N (Basis N))) → AreAllSame ks js → (ns : List N) (o : Answer Q (List (Option (Added Q N))))
      → AreAlone scope ns js o → (a : Answer P (List (Option (Added P N)))) × AreAlone scope ns ks a × (o ≡ place_parts f a)
  unfolding AreAlone
  parts-taken [] [] h ns o a = (accepted [], refl, a)
  parts-taken [] (j ∷ js) h ns o a = absurd h
  parts-taken (k ∷ ks) [] h ns o a = absurd h
  parts-taken (k ∷ ks) (j ∷ js) h ns o (inl (e, a, d)) =
      let c = part-taken k j h.0 ns (refused e) a in
      let x = mark-refused f c.0 e (sym c.2) in (refused x.0, inl (x.0, subst (IsAlone scope ns k) x.1 c.1, refl), d ∙ ap refused x.2)
  parts-taken (k ∷ ks) (j ∷ js) h ns o (inr (m, a, ms, b, d)) =
      let c = part-taken k j h.0 ns (accepted m) a in
      let x = mark-accepted f c.0 m (sym c.2) in
      let same = ap names_part x.2 ∙ names-placed f x.0 in
      let t = parts-taken ks js h.1 (names_part x.0 ++ ns) ms (subst (λ l. AreAlone scope (l ++ ns) js ms) same b) in
      (and_part x.0 t.0, inr (x.0, subst (IsAlone scope ns k) x.1 c.1, t.0, t.1, refl), d ∙ ((λ i. and_part (x.2 i) (t.2 i)) ∙ and-placed f x.0 t.0))

  module _ (B : Basis N) where
    -- what the parts are

    structures-same : (bs : StrBinds P) → AreAllSame (structure_parts scope B bs) (structure_parts scope B (place_str_binds f bs))
    unfolding place_str_binds
    structures-same no_str_bind = tt
    structures-same (and_str_bind (str_bind x e) bs) = (same-structure scope f B x e, structures-same bs)

    functors-same : (bs : List (FunBind P)) → AreAllSame (map (read_functor scope B) bs) (map (read_functor scope B) (map (place_fun_bind f) bs))
    functors-same [] = tt
    functors-same (b ∷ bs) = (same-functor-bound scope f B b, functors-same bs)

    inside-same : (d : StrDec P) → AreAllSame (str_parts scope B d) (str_parts scope B (place_str_dec f d))
    unfolding place_str_dec
    inside-same (core_dec d) = (same-inside scope f B (core_dec d), tt)
    inside-same (structure_dec p bs) = structures-same bs
    inside-same (str_local p ds es) = (same-inside scope f B (str_local p ds es), tt)

    parts-same : (d : TopDec P) → AreAllSame (parts scope B d) (parts scope B (place_top f d))
    parts-same (top_str d) = inside-same d
    parts-same (signature_dec p bs) = (alike-then (same-signatures scope f B [] bs) (λ gs. alike-give (record nothing { signatures = gs })), tt)
    parts-same (functor_dec p bs) = functors-same bs

    -- what they add

    exported-given : (p : P) (m : Option (Added P N)) (o : Answer P (Added P N)) → IsExported scope B p m o → IsExported scope B (f p) (place_part f m) (place_reading f o)
    exported-given p None o h = ap (place_reading f) h
    exported-given p (Some A) o (inl (s, h)) = inl (s, ap (place_reading f) h)
    exported-given p (Some A) o (inr (inl (s, c, h))) = inr (inl (s, c, ap (place_reading f) h))
    exported-given p (Some A) o (inr (inr (s, c, h))) = inr (inr (s, c, ap (place_reading f) h))

    exported-taken : (p : P) (m : Option (Added P N)) (o : Answer Q (Added Q N)) → IsExported scope B (f p) (place_part f m) o
        → (a : Answer P (Added P N)) × IsExported scope B p m a × (o ≡ place_reading f a)
    exported-taken p None o h = (refused (fault Q2 p), refl, h)
    exported-taken p (Some A) o (inl (s, h)) = (refused (fault E7 p), inl (s, refl), h)
    exported-taken p (Some A) o (inr (inl (s, c, h))) = (refused (fault Q3 p), inr (inl (s, c, refl)), h)
    exported-taken p (Some A) o (inr (inr (s, c, h))) = (accepted (own_added scope B.names A), inr (inr (s, c, refl)), h)

    answered-given : (p : P) (ms : Answer P (List (Option (Added P N)))) (o : Answer P (Added P N)) → IsAnswered scope B p ms o → IsAnswered scope B (f p) (place_parts f ms) (place_reading f o)
    answered-given p (refused e) o h = ap (place_reading f) h
    answered-given p (accepted ms) o h = subst (λ m. IsExported scope B (f p) m (place_reading f o)) (sym (all-placed f ms)) (exported-given p (all_bound ms) o h)

    answered-taken : (p : P) (ms : Answer P (List (Option (Added P N)))) (o : Answer Q (Added Q N)) → IsAnswered scope B (f p) (place_parts f ms) o
        → (a : Answer P (Added P N)) × IsAnswered scope B p ms a × (o ≡ place_reading f a)
    answered-taken p (refused e) o h = (refused e, refl, h)
    answered-taken p (accepted ms) o h = exported-taken p (all_bound ms) o (subst (λ m. IsExported scope B (f p) m o) (all-placed f ms) h)

    top-given : (p : P) (d : TopDec P) (o : Answer P (Added P N)) → IsTopReading scope p B d o → IsTopReading scope (f p) B (place_top f d) (place_reading f o)
    top-given p d o (ms, a, h) =
        (place_parts f ms, parts-given (parts scope B d) (parts scope B (place_top f d)) (parts-same d) B.names ms a, answered-given p ms o h)

    top-taken : (p : P) (d : TopDec P) (o : Answer Q (Added Q N)) → IsTopReading scope (f p) B (place_top f d) o → (a : Answer P (Added P N)) × IsTopReading scope p B d a × (o ≡ place_reading f a)
    top-taken p d o (ms, a, h) =
        let t = parts-taken (parts scope B d) (parts scope B (place_top f d)) (parts-same d) B.names ms a in
        let b = answered-taken p t.0 o (subst (λ ms. IsAnswered scope B (f p) ms o) t.2 h) in (b.0, (t.0, t.1, b.1), b.2)

-- an answer with other places is a fault or what is added where the answer is

pub reading-refused : {P Q N : Type 0} (f : P → Q) (a : Answer P (Added P N)) (e : Fault Q) → place_reading f a ≡ refused e → (d : Fault P) × (a ≡ refused d) × (e ≡ place_fault f d)
reading-refused f (refused d) e h = (d, refl, refused-same (sym h))
reading-refused f (accepted A) e h = absurd (not_refused h)

reading-accepted : {P Q N : Type 0} (f : P → Q) (a : Answer P (Added P N)) (C : Added Q N) → place_reading f a ≡ accepted C → (A : Added P N) × (a ≡ accepted A) × (C ≡ place_added f A)
reading-accepted f (refused d) C h = absurd (not_refused (sym h))
reading-accepted f (accepted A) C h = (A, refl, sym (accepted_same h))

-- over places of one kind that are all the same, and back
without-places : {P Q N : Type 0} (scope : Scope N) (p : P) (q : Q) (B : Basis N) (d : TopDec P) (e : TopDec Q) (A : Added P N) → forget_top d ≡ forget_top e → IsTopReading scope p B d (accepted A)
    → (C : Added Q N) × AreSameAdded A C × IsTopReading scope q B e (accepted C)
without-places {P} {Q} {N} scope p q B d e A same h =
    let g : P → Unit {0} = λ p. tt in
    let k : Q → Unit {0} = λ q. tt in
    let o : Answer (Unit {0}) (Added (Unit {0}) N) = accepted (place_added g A) in
    let forgotten : IsTopReading scope tt B (forget_top d) o = top-given scope g B p d (accepted A) h in
    let t = top-taken scope k B q e o (subst (λ d. IsTopReading scope tt B d o) same forgotten) in
    let x = reading-accepted k t.0 (place_added g A) (sym t.2) in
    (x.0, record { basis = ap (λ A. A.basis) x.2; judged = ap (λ A. A.judged) x.2 }, subst (IsTopReading scope q B e) x.1 t.1)

pub places-dont-count : {N : Type 0} (scope : Scope N) (P Q : Type 0) → PlacesDontCount scope P Q
places-dont-count scope P Q = record {
  all = λ f p B d o h. top-given scope f B p d o h;
  no_others = λ f p B d o h. top-taken scope f B p d o h;
  without_places = without-places scope;
}
