-- Steps of the reading of type expressions.
use Rattle.std.proofs.Common.{◌≡◌, ℕ, suc, List, [], ◌∷◌, ◌++◌, length, Bool, true, false, nat_eq, refl, ap, sym, subst, ◌∙◌, Result, Ok, Err, Vec, Global, Option, Some, None, cond}
use Rattle.std.proofs.lemmas.List.{append-nil}
use Rattle.std.specs.Result.{IsErrAnd}
use Rattle.std.specs.List.{list_any}
use Rattle.sml_lex.specs.declared.fault.Place.{Place}
use Rattle.sml_lex.specs.declared.fault.Code.TheVariants.{E2, E4}
use Rattle.sml_lex.specs.Faults.{Fault, fault_of}
use Rattle.indexmap.specs.IndexSet.{insert_key}
use Rattle.std.specs.Bool.{if◌then◌else◌}
use Rattle.std.specs.declared.rc.Rc.{Rc}
use Rattle.sml_tree.specs.Expressions.{TypBind}
use Rattle.sml_tree.specs.Withtype as W
use Rattle.sml_tree.specs.Withtype.{binding}
use Rattle.sml_objects.specs.Types.{applied}
use Rattle.sml_objects.specs.Views.{type_of}
use Rattle.sml_objects.specs.declared.objects.MlType.{MlType}
use Rattle.sml_types.specs.Meant.{all_meant, meant}
use Rattle.sml_types.specs.declared.written.Written.{Written}
use Rattle.sml_types.specs.declared.sides.RightSide.{RightSide}
use Rattle.sml_tree.specs.Trees.{Id}
use Rattle.sml_tree.specs.Names as N
use Rattle.sml_tree.specs.Types as T
use Rattle.sml_objects.specs.Initial.{Name}
use Rattle.sml_objects.specs.Maps.{Map, lookup}
use Rattle.sml_objects.specs.Objects as O
use Rattle.sml_rules.specs.Answers.{Answer, accepted, refused, fault}
use Rattle.sml_core_rules.specs.Answers.{give, ◌>>=◌, check, need}
use Rattle.sml_core_rules.specs.Lookups.{type_at}
use Rattle.sml_core_rules.specs.Objects.{Env, TyStr}
use Rattle.sml_core_rules.specs.Types.{count_types, read_ty, read_tys, read_fields, row_of, variable_type}
use Rattle.sml_types.specs.Answered.{IsAnswer, IsFault}
use Rattle.sml_types.specs.Reads.{IfAnswered, application_answer}
use Rattle.sml_types.specs.Sides.{IsSide, IsSideOf, answer_map, asked, asked_in_all, asked_in_fields, bound_number, numbers_after, then_asked, with_number}
use Rattle.sml_types.specs.declared.fault.CoreFault.{CoreFault}
use Rattle.sml_types.specs.declared.fault.CoreFault.TheVariants as R
use Rattle.sml_types.proofs.ReadLists.{bind-give}

-- what is meant by something written, and by a list of it
abbrev pub one-meant : Rc Written Global → O.MlType Name
one-meant w = meant w.value

abbrev pub list-meant : Vec (Rc Written Global) Global → O.MlTypes Name
list-meant ws = all_meant ws.items

-- the type that is made
abbrev pub one-type : Rc MlType Global → O.MlType Name
one-type t = type_of t.value

-- an answer through `?`
pub through : {X Y A B : Type 0} (f : X → A) (g : Y → B) (r : Result Y CoreFault) (e : CoreFault) (a : Answer Place A) (b : Answer Place B) → IsErrAnd r (λ k. k ≡ e)
    → IsAnswer f (Err e) a → ((h : Fault Place) → a ≡ refused h → b ≡ refused h) → IsAnswer g r b
through f g (Ok y) e a b is h k = absurd is
through f g (Err R.Memory) e a b is h k = tt
through {A = A} f g (Err (R.Fault x)) e a b is h k = k _ (subst (λ e. IsAnswer f (Err e) a) (sym is) h)

-- what is noted through `?`
pub noted-through : (X : Type 0) {Y : Type 0} (r : Result Y CoreFault) (e : CoreFault) (S T : Type 0) → IsErrAnd r (λ k. k ≡ e) → IfAnswered {X = X} (Err e) S → (S → T) → IfAnswered r T
noted-through X (Ok y) e S T is h k = absurd is
noted-through X (Err R.Memory) e S T is h k = tt
noted-through X (Err (R.Fault x)) e S T is h k = k (subst (λ e. IfAnswered {X = X} (Err e) S) (sym is) h)

-- the same where there is a fault
pub noted-stop : {Y A X : Type 0} (f : X → A) (r : Result Y CoreFault) (e : CoreFault) (a : Answer Place A) (S T : Type 0) → IsErrAnd r (λ k. k ≡ e) → IsAnswer f (Err e) a
    → IfAnswered {X = X} (Err e) S → ((h : Fault Place) → a ≡ refused h → S → T) → IfAnswered r T
noted-stop f (Ok y) e a S T is h i k = absurd is
noted-stop f (Err R.Memory) e a S T is h i k = tt
noted-stop {X = X} f (Err (R.Fault x)) e a S T is h i k =
    k _ (subst (λ e. IsAnswer f (Err e) a) (sym is) h) (subst (λ e. IfAnswered {X = X} (Err e) S) (sym is) i)

-- the same answer
pub answered : {X A : Type 0} (f : X → A) (r : Result X CoreFault) (a b : Answer Place A) → a ≡ b → IsAnswer f r a → IsAnswer f r b
answered f r a b e h = subst (IsAnswer f r) e h

module _ (C : Env Name) (vs : Map (O.MlType Name)) where
  pub read-row : (p : Place) (us : T.TyFields Place) → read_ty C vs (T.ty_row p us) ≡ answer_map row_of (read_fields C vs [] us)
  unfolding read_ty
  read-row p us = bind-give row_of (read_fields C vs [] us)

  pub read-none : read_tys {P = Place} C vs T.no_ty ≡ accepted O.no_type
  unfolding read_ty read_tys
  read-none = refl

  pub read-no-field : read_fields {P = Place} C vs [] T.no_ty_field ≡ accepted []
  unfolding read_ty read_fields
  read-no-field = refl

  pub asked-none : (xs : List Id) → xs ++ asked_in_all {P = Place} C vs T.no_ty ≡ xs
  unfolding asked asked_in_all
  asked-none xs = append-nil xs

  pub asked-no-field : (xs : List Id) → xs ++ asked_in_fields {P = Place} C vs T.no_ty_field ≡ xs
  unfolding asked asked_in_fields
  asked-no-field xs = append-nil xs

  pub read-variable : (p : Place) (x : Id) → read_ty C vs (T.ty_variable p x) ≡ variable_type p (lookup x vs)
  unfolding read_ty
  read-variable p x = refl

  pub read-bracket : (p : Place) (u : T.Ty Place) → read_ty C vs (T.ty_bracket p u) ≡ read_ty C vs u
  unfolding read_ty
  read-bracket p u = refl

  -- what is asked for is what the parts ask for
  pub asked-variable : (p : Place) (x : Id) → asked C vs (T.ty_variable p x) ≡ x ∷ []
  unfolding asked
  asked-variable p x = refl

  pub asked-row : (p : Place) (us : T.TyFields Place) → asked C vs (T.ty_row p us) ≡ asked_in_fields C vs us
  unfolding asked
  asked-row p us = refl

  pub asked-tuple : (p : Place) (us : T.Tys Place) → asked C vs (T.ty_tuple p us) ≡ asked_in_all C vs us
  unfolding asked
  asked-tuple p us = refl

  pub asked-constructor : (p : Place) (us : T.Tys Place) (c : N.LongName Place) → asked C vs (T.ty_constructor p us c) ≡ asked_in_all C vs us
  unfolding asked
  asked-constructor p us c = refl

  pub asked-misapplied : (p : Place) (us : T.Tys Place) (c : N.LongName Place) → asked C vs (T.ty_misapplied p us c) ≡ asked_in_all C vs us
  unfolding asked
  asked-misapplied p us c = refl

  pub asked-bracket : (p : Place) (u : T.Ty Place) → asked C vs (T.ty_bracket p u) ≡ asked C vs u
  unfolding asked
  asked-bracket p u = refl

  pub read-tuple : (p : Place) (us : T.Tys Place) → read_ty C vs (T.ty_tuple p us) ≡ answer_map O.tuple_of (read_tys C vs us)
  unfolding read_ty
  read-tuple p us = bind-give O.tuple_of (read_tys C vs us)

  pub read-constructor : (p : Place) (us : T.Tys Place) (c : N.LongName Place) (ts : O.MlTypes Name) → read_tys C vs us ≡ accepted ts
      → read_ty C vs (T.ty_constructor p us c) ≡ application_answer C c ts
  unfolding read_ty ◌>>=◌
  read-constructor p us c ts e = ap (λ a. a >>= application_answer C c) e

  pub constructor-refused : (p : Place) (us : T.Tys Place) (c : N.LongName Place) (f : Fault Place) → read_tys C vs us ≡ refused f
      → read_ty C vs (T.ty_constructor p us c) ≡ refused f
  unfolding read_ty ◌>>=◌
  constructor-refused p us c f e = ap (λ a. a >>= application_answer C c) e

  pub misapplied-anywhere : (p q : Place) (us : T.Tys Place) (c : N.LongName Place) → read_ty C vs (T.ty_misapplied p us c) ≡ read_ty C vs (T.ty_misapplied q us c)
  unfolding read_ty
  misapplied-anywhere p q us c = refl

  constructor-anywhere : (p q : Place) (us : T.Tys Place) (c : N.LongName Place) → read_ty C vs (T.ty_constructor p us c) ≡ read_ty C vs (T.ty_constructor q us c)
  unfolding read_ty
  constructor-anywhere p q us c = refl

  -- the place of a type constructor's arguments says nothing
  pub any-place : (p q : Place) (us : T.Tys Place) (c : N.LongName Place) (o : Option (TypBind Place))
      → read_ty C vs (W.applied p us c o) ≡ read_ty C vs (W.applied q us c o)
  any-place p q us c None = constructor-anywhere p q us c
  any-place p q us c (Some b) = go (nat_eq (length b.variables) (W.count_tys us))
    where
      go : (t : Bool) → read_ty C vs (if t then W.instance b.variables us b.ty else T.ty_misapplied p us c) ≡ read_ty C vs (if t then W.instance b.variables us b.ty else T.ty_misapplied q us c)
      go true = refl
      go false = misapplied-anywhere p q us c

  pub asked-unbound : (p : Place) (us : T.Tys Place) (c : N.LongName Place) (bs : List (TypBind Place)) → bs ≡ [] → (path : List Id) (x : Id)
      → asked C vs (W.applied p us c (binding path x bs)) ≡ asked_in_all C vs us
  asked-unbound p us c bs e path x = ap (λ bs. asked C vs (W.applied p us c (binding path x bs))) e ∙ on path
    where
      on : (path : List Id) → asked C vs (W.applied p us c (binding path x [])) ≡ asked_in_all C vs us
      on [] = asked-constructor p us c
      on (s ∷ path) = asked-constructor p us c

  pub misapplied-read : (p : Place) (us : T.Tys Place) (c : N.LongName Place) (ts : O.MlTypes Name) → read_tys C vs us ≡ accepted ts
      → read_ty C vs (T.ty_misapplied p us c) ≡ refused (fault E4 c.place)
  unfolding read_ty ◌>>=◌
  misapplied-read p us c ts e = ap (λ a. a >>= (λ ts. refused (fault E4 c.place))) e

  pub misapplied-refused : (p : Place) (us : T.Tys Place) (c : N.LongName Place) (f : Fault Place) → read_tys C vs us ≡ refused f
      → read_ty C vs (T.ty_misapplied p us c) ≡ refused f
  unfolding read_ty ◌>>=◌
  misapplied-refused p us c f e = ap (λ a. a >>= (λ ts. refused (fault E4 c.place))) e

  pub read-arrow : (p : Place) (u v : T.Ty Place) (s t : O.MlType Name) → read_ty C vs u ≡ accepted s → read_ty C vs v ≡ accepted t
      → read_ty C vs (T.ty_arrow p u v) ≡ accepted (O.arrow_of s t)
  unfolding read_ty ◌>>=◌
  read-arrow p u v s t e r = λ i. e i >>= (λ a. r i >>= (λ b. give (O.arrow_of a b)))

  pub arrow-first : (p : Place) (u v : T.Ty Place) (f : Fault Place) → read_ty C vs u ≡ refused f → read_ty C vs (T.ty_arrow p u v) ≡ refused f
  unfolding read_ty ◌>>=◌
  arrow-first p u v f e = ap (λ a. a >>= (λ s. read_ty C vs v >>= (λ t. give (O.arrow_of s t)))) e

  pub arrow-second : (p : Place) (u v : T.Ty Place) (s : O.MlType Name) (f : Fault Place) → read_ty C vs u ≡ accepted s → read_ty C vs v ≡ refused f
      → read_ty C vs (T.ty_arrow p u v) ≡ refused f
  unfolding read_ty ◌>>=◌
  arrow-second p u v s f e r = λ i. e i >>= (λ a. r i >>= (λ b. give (O.arrow_of a b)))

  pub asked-arrow : (p : Place) (u v : T.Ty Place) (s : O.MlType Name) → read_ty C vs u ≡ accepted s → asked C vs (T.ty_arrow p u v) ≡ asked C vs u ++ asked C vs v
  unfolding asked
  asked-arrow p u v s e = ap (λ a. asked C vs u ++ then_asked a (asked C vs v)) e

  pub asked-arrow-first : (p : Place) (u v : T.Ty Place) (f : Fault Place) → read_ty C vs u ≡ refused f → asked C vs (T.ty_arrow p u v) ≡ asked C vs u
  unfolding asked
  asked-arrow-first p u v f e = ap (λ a. asked C vs u ++ then_asked a (asked C vs v)) e ∙ append-nil (asked C vs u)

pub numbers-none : (vs : Map (O.MlType Name)) (ks : List ℕ) → numbers_after vs ks [] ≡ ks
unfolding numbers_after
numbers-none vs ks = refl

-- numbers, one more
pub numbers-next : (vs : Map (O.MlType Name)) (ks : List ℕ) (xs : List Id) (x : Id) → numbers_after vs ks (xs ++ x ∷ []) ≡ with_number (numbers_after vs ks xs) (bound_number (lookup x vs))
unfolding numbers_after
numbers-next vs ks [] x = refl
numbers-next vs ks (y ∷ xs) x = numbers-next vs (with_number ks (bound_number (lookup y vs))) xs x

-- a fault, as an answer
pub fault-answer : {X A : Type 0} (g : X → A) (r : CoreFault) (f : Fault Place) (a : Answer Place A) → IsFault r f → a ≡ refused f → IsAnswer g (Err r) a
fault-answer g R.Memory f a h e = absurd h
fault-answer g (R.Fault x) f a h e = e ∙ ap refused (sym h)

-- a type constructor after its arguments
module _ (C : Env Name) (c : N.LongName Place) (ts : O.MlTypes Name) where
  pub application-refused : (f : Fault Place) → need E2 c.place c.id (type_at C c.id) ≡ refused f → application_answer C c ts ≡ refused f
  unfolding ◌>>=◌
  application-refused f e = ap (λ a. a >>= (λ t. check (nat_eq (length t.function.variables) (count_types ts)) (fault E4 c.place) >>= (λ u. give (applied t.function ts)))) e

  pub application-misfit : (t : TyStr Name) → need E2 c.place c.id (type_at C c.id) ≡ accepted t → nat_eq (length t.function.variables) (count_types ts) ≡ false
      → application_answer C c ts ≡ refused (fault E4 c.place)
  unfolding ◌>>=◌
  application-misfit t e n =
      ap (λ a. a >>= (λ t. check (nat_eq (length t.function.variables) (count_types ts)) (fault E4 c.place) >>= (λ u. give (applied t.function ts)))) e
      ∙ ap (λ b. check b (fault E4 c.place) >>= (λ u. give (applied t.function ts))) n

  pub application-fits : (t : TyStr Name) → need E2 c.place c.id (type_at C c.id) ≡ accepted t → nat_eq (length t.function.variables) (count_types ts) ≡ true
      → application_answer C c ts ≡ accepted (applied t.function ts)
  unfolding ◌>>=◌
  application-fits t e n =
      ap (λ a. a >>= (λ t. check (nat_eq (length t.function.variables) (count_types ts)) (fault E4 c.place) >>= (λ u. give (applied t.function ts)))) e
      ∙ ap (λ b. check b (fault E4 c.place) >>= (λ u. give (applied t.function ts))) n

pub count-meant : (ws : List (Rc Written Global)) → count_types (all_meant ws) ≡ length ws
count-meant [] = refl
count-meant (w ∷ ws) = ap suc (count-meant ws)

-- a right side that a type constructor has, and one that it hasn't
pub some-side : (C : Env Name) (o : Option (TypBind Place)) (r : RightSide) (F : Option (TypBind Place) → Type 0) → IsSideOf C o (Some r)
    → ((b : TypBind Place) → IsSide C b r → F (Some b)) → F o
some-side C None r F h k = absurd h
some-side C (Some b) r F h k = k b h

pub no-side : (C : Env Name) (o : Option (TypBind Place)) (F : Option (TypBind Place) → Type 0) → IsSideOf C o None → F None → F o
no-side C None F h k = k
no-side C (Some b) F h k = absurd h

pub never-side : (C : Env Name) (bs : List (TypBind Place)) (path : List Id) (x : Id) (r : RightSide) → bs ≡ [] → IsSideOf C (binding path x bs) (Some r) → ⊥
never-side C bs path x r e h = on path (subst (λ bs. IsSideOf C (binding path x bs) (Some r)) e h)
  where
    on : (path : List Id) → IsSideOf C (binding path x []) (Some r) → ⊥
    on [] h = h
    on (s ∷ path) h = h

-- what stands for a variable
pub stands-for : (p : Place) (o : Option (O.MlType Name)) (t : O.MlType Name) → variable_type p o ≡ accepted t → o ≡ Some t
stands-for p None t h = cc
stands-for p (Some s) t h = cc

pub none-noted : (vs : Map (O.MlType Name)) (xs : List Id) (x : Id) (p : Place) (ks : List ℕ) (e : CoreFault) → ks ≡ numbers_after vs [] xs
    → IsAnswer {X = Rc MlType Global} (λ t. type_of t.value) (Err e) (variable_type p (lookup x vs))
    → IfAnswered {X = Rc MlType Global} (Err e) (ks ≡ numbers_after vs [] (xs ++ x ∷ []))
none-noted vs xs x p ks R.Memory e h = tt
none-noted vs xs x p ks (R.Fault f) e h = e ∙ sym (numbers-next vs [] xs x ∙ ap (λ o. with_number (numbers_after vs [] xs) (bound_number o)) (none (lookup x vs) h))
  where
    none : (o : Option (O.MlType Name)) → variable_type p o ≡ refused (fault_of f) → o ≡ None
    none None h = refl
    none (Some s) h = cc

pub number-put : (k : ℕ) (ks : List ℕ) → insert_key nat_eq ks k ≡ with_number ks (Some k)
number-put k ks = go (list_any (nat_eq k) ks)
  where
    go : (b : Bool) → (if b then ks else ks ++ k ∷ []) ≡ cond b ks (ks ++ k ∷ [])
    go true = refl
    go false = refl
